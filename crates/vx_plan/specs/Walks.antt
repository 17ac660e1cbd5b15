-- What the clauses of the walk along targets cite: which names were seen, and from which of them the walk went on.
use Rattle.std.specs.Prelude.{Bool, not, ◌≡◌, true, ◌&&◌, ◌||◌, Option, option_map, List, [], ◌∷◌, find}
use Rattle.std.specs.List.{list_any}
use Rattle.vx_value.specs.Texts.{ByteString}
use Rattle.vx_plan.specs.declared.component.Component.{Component}
use Rattle.vx_plan.specs.declared.plan.Plan.{Plan}
use Rattle.vx_plan.specs.declared.walk.Names.{Names, fold-Names}
use Rattle.vx_plan.specs.declared.walk.Names.TheOpen.{Names-F}
use Rattle.vx_plan.specs.Components.{port_names}
use Rattle.vx_plan.specs.Targets.{reads, all_targets, acknowledges_named, is_among}

-- the names of one more, where those before it are told
abbrev pub names_step : Names-F (List ByteString) → List ByteString
names_step Names-F.Nobody = []
names_step (Names-F.One rest name) = name.now ∷ rest.now

-- the names, the last one put first
abbrev pub names_in : Names → List ByteString
names_in = fold-Names (List ByteString) names_step

-- whether a component reads some port of another
abbrev pub reads_some : Component → Component → Bool
reads_some owner reader = list_any (reads reader owner.name) (port_names owner)

-- whether a name isn't among some
abbrev pub is_unseen : List ByteString → ByteString → Bool
is_unseen seen name = not (is_among seen name)

-- whether a component reads another, and its name isn't among some
abbrev pub is_next : Component → List ByteString → Component → Bool
is_next owner seen reader = reads_some owner reader && is_unseen seen reader.name

-- the name of the first component that reads another and isn't among some
abbrev pub next_reader : List Component → Component → List ByteString → Option ByteString
next_reader components owner seen = option_map (λ (c : Component). c.name) (find (is_next owner seen) components)

-- whether a component doesn't acknowledge, and each of its targets is among some
abbrev pub is_passed : Plan → List ByteString → ByteString → Bool
is_passed plan seen name = not (acknowledges_named plan name || list_any (list_any (is_unseen seen)) (all_targets plan name))

-- each name that was seen was passed, or is still to be walked from
abbrev pub IsWalked : Plan → List ByteString → List ByteString → Type 0
IsWalked plan seen todo = (name : ByteString) → is_among seen name ≡ true → (is_among todo name || is_passed plan seen name) ≡ true
