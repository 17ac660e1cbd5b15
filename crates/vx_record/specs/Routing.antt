-- The routing in force: who drains, who is dry, which targets an instance has, and who is ending.
use Rattle.std.specs.Prelude.{ℕ, Bool, false, not, ◌&&◌, ◌||◌, Option, None, is_some, List, [], map, length, if◌then◌else◌}
use Rattle.std.specs.List.{list_any, list_all}
use Rattle.vx_value.specs.Texts.{is_empty}
use Rattle.vx_plan.specs.declared.component.Component.{Component}
use Rattle.vx_plan.specs.Components.{is_source, port_names}
use Rattle.vx_plan.specs.Targets.{targets}
use Rattle.vx_record.specs.Records.{Record}
use Rattle.vx_record.specs.Copies.{contains, counting, joined}
use Rattle.vx_record.specs.Turns.{is_out, at_lease}
use Rattle.vx_record.specs.Installs.{Wiring, wired, component_or, source_at, numbers_of, started, is_marked, is_retired}
use Rattle.vx_record.specs.Lists.{outputs, waiting, all_waiting}
use Rattle.vx_record.specs.Reads.{all_ended, is_lost}

-- the moment of the Stop: no entry tells one yet
abbrev pub stopped : Record → Option ℕ
stopped h = None

-- whether the instance takes in nothing new
abbrev pub drains : Record → ℕ → Bool
drains h i = is_marked h i || (source_at h i && is_some (stopped h))

-- an instance that is out under a Lease from before it drained
abbrev pub is_out_from_before : Record → ℕ → Bool
is_out_from_before h i = is_out h i && not (drains (at_lease h i) i)

-- a source is dry where nothing more will be born by it
abbrev pub is_dry : Record → ℕ → Bool
is_dry h i = source_at h i && (all_ended h i || is_lost h i || (drains h i && not (is_out_from_before h i)))

-- whether every source is dry
abbrev pub all_dry : Record → Bool
all_dry h = list_all (λ i. not (source_at h i) || is_dry h i) (started h)

-- whether the instance has neither outputs nor waiting children
abbrev pub is_sent : Record → ℕ → Bool
is_sent h i = is_empty (outputs h i) && is_empty (all_waiting h i)

-- the targets of a port, each name standing for the instance that had it in the instance's Install
abbrev pub wired_targets : ℕ → Wiring → List ℕ
wired_targets port w = joined (map (numbers_of w.instances) (targets w.plan w.name port))

-- the targets that the instance has; a dry source that sent everything has none
abbrev pub outlets : Record → ℕ → ℕ → List ℕ
outlets h i port = if is_dry h i && is_sent h i then [] else wired [] (wired_targets port) h i

-- the targets of some ports, in the order of the ports
abbrev pub routes : Record → ℕ → List ℕ → List ℕ
routes h i ports = joined (map (outlets h i) ports)

-- every port of an instance
abbrev pub all_ports : Record → ℕ → List ℕ
all_ports = component_or [] (λ (c : Component). counting 0 (length (port_names c)))

-- whether an instance names another in an outlet or in a waiting child
abbrev pub names : Record → ℕ → ℕ → Bool
names h j i = contains (routes h j (all_ports h j)) i || not (is_empty (waiting h j i))

-- whether an instance that is not retired can still send to this one
abbrev pub is_named : Record → ℕ → Bool
is_named h i = list_any (λ j. not (is_retired h j) && names h j i) (started h)

-- a transform or sink is ending where nothing more can reach its buffer
abbrev pub is_ending : Record → ℕ → Bool
is_ending h i = component_or false (λ (c : Component). not (is_source c)) h i && (drains h i || all_dry h) && not (is_named h i)
