-- The walk that the code takes: what was seen and left leads nowhere but to what is still to be walked from.
use Rattle.std.specs.Prelude.{ℕ, zero, suc, ◌≡◌, ◌<◌, ◌≤◌, ◌⊎◌, Bool, true, false, not, ◌&&◌, ◌||◌, Option, Some, None, List, [], ◌∷◌, length, map, filter, find, option_map, refl, if◌then◌else◌}
use Rattle.std.specs.List.{list_any}
use Rattle.std.proofs.Common.{◌∙◌, ap, sym, arith, inl, inr, rules, Bor}
use Rattle.vx_value.specs.Texts.{ByteString, same_text}
use Rattle.vx_value.proofs.Order.{same_text-true, same_text-refl}
use Rattle.vx_plan.specs.declared.component.Component.{Component}
use Rattle.vx_plan.specs.declared.plan.Plan.{Plan}
use Rattle.vx_plan.specs.Components.{component_named, port_names, acknowledges}
use Rattle.vx_plan.specs.Targets.{reads, readers, names_reading, all_targets, acknowledges_named, acknowledged, is_among, leads}
use Rattle.vx_plan.specs.declared.walk.Names.{Names, One, Nobody, the_lemmas}
use Rattle.vx_plan.specs.Walks.{names_in, reads_some, is_unseen, is_next, next_reader, is_passed, IsWalked}
use Rattle.vx_plan.proofs.Tests.{or_some, or_none, or_here, or_there, and_both, and_made, same_when, any_more, parted, any_among, none_found, some_found, passing, any_swap, any_and, any_filtered}
use Rattle.vx_plan.proofs.Orders.{any_mapped}
use Rattle.vx_plan.proofs.Rising.{acknowledged_on}
use Rattle.vx_plan.proofs.Chains.{so_acknowledged}
use Rattle.vx_plan.proofs.Walks.{acknowledged_is}

-- a test of the readers of some port of a component
any_reading : (f : ByteString → Bool) (components : List Component) (owner : Component) →
    list_any (λ port. list_any f (names_reading owner.name port components)) (port_names owner) ≡ list_any (λ c. reads_some owner c && f c.name) components
any_reading f components owner =
    (λ i. list_any (λ port. any_filtered f (λ (c : Component). c.name) (λ (c : Component). reads c owner.name port) components i) (port_names owner))
    ∙ any_swap (λ port (c : Component). reads c owner.name port && f c.name) (port_names owner) components
    ∙ (λ i. list_any (λ (c : Component). any_and (λ port. reads c owner.name port) (f c.name) (port_names owner) i) components)

-- a test of the targets of a component
any_target : (f : ByteString → Bool) (plan : Plan) (name : ByteString) (owner : Component) → component_named plan name ≡ Some owner →
    list_any (list_any f) (all_targets plan name) ≡ list_any (λ c. reads_some owner c && f c.name) plan.components
any_target f plan name owner at =
    let named : owner.name ≡ name = same_text-true owner.name name (passing (λ (c : Component). same_text c.name name) plan.components owner at) in
    ap (λ (o : Option Component). list_any (list_any f) (elim o [ None ↦ [] | Some c ↦ map (readers plan name) (port_names c) ])) at
    ∙ any_mapped f plan name (port_names owner)
    ∙ ap (λ n. list_any (λ port. list_any f (names_reading n port plan.components)) (port_names owner)) (sym named)
    ∙ any_reading f plan.components owner

-- a component that isn't there has no target and doesn't acknowledge, so it is passed
pub passed_unknown : (plan : Plan) (seen : List ByteString) (name : ByteString) → component_named plan name ≡ None → is_passed plan seen name ≡ true
passed_unknown plan seen name none =
    ap (λ (o : Option Component). not ((elim o [ None ↦ false | Some c ↦ acknowledges c ]) || list_any (list_any (is_unseen seen)) (elim o [ None ↦ [] | Some c ↦ map (readers plan name) (port_names c) ]))) none

-- a component is passed where it doesn't acknowledge and no reader of it is left
pub passed_all : (plan : Plan) (seen : List ByteString) (name : ByteString) (owner : Component) → component_named plan name ≡ Some owner → acknowledges owner ≡ false →
    next_reader plan.components owner seen ≡ None → is_passed plan seen name ≡ true
passed_all plan seen name owner at silent none =
    let quiet : acknowledges_named plan name ≡ false = ap (λ (o : Option Component). elim o [ None ↦ false | Some c ↦ acknowledges c ]) at ∙ silent in
    let left : list_any (list_any (is_unseen seen)) (all_targets plan name) ≡ false =
    any_target (is_unseen seen) plan name owner at ∙ none_found (λ (c : Component). c.name) (is_next owner seen) plan.components none in
    (λ i. not (quiet i || left i))

passed_parts : (plan : Plan) (seen : List ByteString) (name : ByteString) → is_passed plan seen name ≡ true →
    (acknowledges_named plan name ≡ false) × (list_any (list_any (is_unseen seen)) (all_targets plan name) ≡ false)
passed_parts plan seen name passed = or_none (acknowledges_named plan name) (list_any (list_any (is_unseen seen)) (all_targets plan name)) (turned _ passed)
  where
    turned : (b : Bool) → not b ≡ true → b ≡ false
    turned true e = sym e
    turned false e = refl

turned : (b : Bool) → not b ≡ false → b ≡ true
turned true e = refl
turned false e = sym e

-- a target of what is passed was seen
target_seen : (f : ByteString → Bool) (plan : Plan) (seen : List ByteString) (name : ByteString) → is_passed plan seen name ≡ true →
    list_any (list_any f) (all_targets plan name) ≡ true → (t : ByteString) × (f t ≡ true) × (is_among seen t ≡ true)
target_seen f plan seen name passed some =
    let (names, any, none) = parted (list_any f) (list_any (is_unseen seen)) (all_targets plan name) some (passed_parts plan seen name passed).1 in
    let (t, passes, there) = parted f (is_unseen seen) names any none in
    (t, passes, turned (is_among seen t) there)

-- from what was seen a walk leads on by what is still to be walked from
through : (steps : ℕ) (plan : Plan) (seen todo : List ByteString) → IsWalked plan seen todo → (name : ByteString) → is_among seen name ≡ true → leads steps plan name ≡ true →
    list_any (acknowledged plan) todo ≡ true
through zero plan seen todo walked name there led = cc
through (suc steps) plan seen todo walked name there led =
    go (or_some (is_among todo name) (is_passed plan seen name) (walked name there)) (through steps plan seen todo walked)
  where
    go : (is_among todo name ≡ true) ⊎ (is_passed plan seen name ≡ true) →
        ((t : ByteString) → is_among seen t ≡ true → leads steps plan t ≡ true → list_any (acknowledged plan) todo ≡ true) → list_any (acknowledged plan) todo ≡ true
    go (inl here) rest = any_among (acknowledged plan) todo name here (so_acknowledged (suc steps) plan name led)
    go (inr passed) rest =
        let (silent, none) = passed_parts plan seen name passed in
        let on : list_any (list_any (leads steps plan)) (all_targets plan name) ≡ true = sym (ap (λ b. b || list_any (list_any (leads steps plan)) (all_targets plan name)) silent) ∙ led in
        let (t, led_on, seen_t) = target_seen (leads steps plan) plan seen name passed on in
        rest t seen_t led_on

-- what is passed is left
pub walked_left : (plan : Plan) (seen rest : List ByteString) (name : ByteString) → IsWalked plan seen (name ∷ rest) → is_passed plan seen name ≡ true → IsWalked plan seen rest
walked_left plan seen rest name walked passed other there = go (same_text other name) refl (walked other there)
  where
    go : (b : Bool) → same_text other name ≡ b → ((b || is_among rest other) || is_passed plan seen other) ≡ true → (is_among rest other || is_passed plan seen other) ≡ true
    go false differs so = so
    go true same so = or_there (is_among rest other) (is_passed plan seen other) (ap (is_passed plan seen) (same_text-true other name same) ∙ passed)

-- what is passed leads no further than the rest
pub left_leads : (plan : Plan) (seen rest : List ByteString) (name : ByteString) → IsWalked plan seen rest → is_passed plan seen name ≡ true →
    list_any (acknowledged plan) rest ≡ list_any (acknowledged plan) (name ∷ rest)
left_leads plan seen rest name walked passed =
    same_when (list_any (acknowledged plan) rest) (list_any (acknowledged plan) (name ∷ rest)) (or_there (acknowledged plan name) (list_any (acknowledged plan) rest))
    (λ some. go (or_some (acknowledged plan name) (list_any (acknowledged plan) rest) some))
  where
    go : (acknowledged plan name ≡ true) ⊎ (list_any (acknowledged plan) rest ≡ true) → list_any (acknowledged plan) rest ≡ true
    go (inr there) = there
    go (inl here) =
        let (silent, none) = passed_parts plan seen name passed in
        let on : list_any (list_any (acknowledged plan)) (all_targets plan name) ≡ true =
        sym (ap (λ b. b || list_any (list_any (acknowledged plan)) (all_targets plan name)) silent) ∙ sym (acknowledged_on plan name) ∙ here in
        let (t, waits, seen_t) = target_seen (acknowledged plan) plan seen name passed on in
        through (length plan.components) plan seen rest walked t seen_t (acknowledged_is plan t ∙ waits)

-- what leads to a sink that acknowledges, among what is still to be walked from
pub first_leads : (plan : Plan) (rest : List ByteString) (name : ByteString) (owner : Component) → component_named plan name ≡ Some owner → acknowledges owner ≡ true →
    true ≡ list_any (acknowledged plan) (name ∷ rest)
first_leads plan rest name owner at loud =
    let here : acknowledges_named plan name ≡ true = ap (λ (o : Option Component). elim o [ None ↦ false | Some c ↦ acknowledges c ]) at ∙ loud in
    let waits : acknowledged plan name ≡ true = acknowledged_on plan name ∙ or_here (acknowledges_named plan name) (list_any (list_any (acknowledged plan)) (all_targets plan name)) here in
    sym (or_here (acknowledged plan name) (list_any (acknowledged plan) rest) waits)

-- a test that more names don't pass
fewer_unseen : (seen : List ByteString) (reader t : ByteString) → is_unseen (reader ∷ seen) t ≡ true → is_unseen seen t ≡ true
fewer_unseen seen reader t e = go (same_text t reader) e
  where
    go : (b : Bool) → not (b || is_among seen t) ≡ true → not (is_among seen t) ≡ true
    go true h = cc
    go false h = h

-- what was passed stays so
still_passed : (plan : Plan) (seen : List ByteString) (reader name : ByteString) → is_passed plan seen name ≡ true → is_passed plan (reader ∷ seen) name ≡ true
still_passed plan seen reader name passed = go (list_any (list_any (is_unseen (reader ∷ seen))) (all_targets plan name)) refl
  where
    parts : (acknowledges_named plan name ≡ false) × (list_any (list_any (is_unseen seen)) (all_targets plan name) ≡ false)
    parts = passed_parts plan seen name passed

    go : (b : Bool) → list_any (list_any (is_unseen (reader ∷ seen))) (all_targets plan name) ≡ b → not (acknowledges_named plan name || b) ≡ true
    go false none = (λ i. not (parts.0 i || false))
    go true some =
        let more = any_more (list_any (is_unseen (reader ∷ seen))) (list_any (is_unseen seen)) (all_targets plan name)
        (λ names. any_more (is_unseen (reader ∷ seen)) (is_unseen seen) names (fewer_unseen seen reader)) some in
        let clash = sym more ∙ parts.1 in
        cc

-- a reader that wasn't seen is put, and seen
pub walked_put : (plan : Plan) (seen todo : List ByteString) (reader : ByteString) → IsWalked plan seen todo → IsWalked plan (reader ∷ seen) (reader ∷ todo)
walked_put plan seen todo reader walked other there = go (same_text other reader) there
  where
    go : (b : Bool) → (b || is_among seen other) ≡ true → ((b || is_among todo other) || is_passed plan (reader ∷ seen) other) ≡ true
    go true seen' = refl
    go false seen' = later (or_some (is_among todo other) (is_passed plan seen other) (walked other seen'))
      where
        later : (is_among todo other ≡ true) ⊎ (is_passed plan seen other ≡ true) → (is_among todo other || is_passed plan (reader ∷ seen) other) ≡ true
        later (inl here) = or_here (is_among todo other) (is_passed plan (reader ∷ seen) other) here
        later (inr passed) = or_there (is_among todo other) (is_passed plan (reader ∷ seen) other) (still_passed plan seen reader other passed)

-- a reader leads on where what it reads does
pub put_leads : (plan : Plan) (seen rest : List ByteString) (name reader : ByteString) (owner : Component) → component_named plan name ≡ Some owner →
    next_reader plan.components owner seen ≡ Some reader →
    list_any (acknowledged plan) (reader ∷ name ∷ rest) ≡ list_any (acknowledged plan) (name ∷ rest)
put_leads plan seen rest name reader owner at found =
    same_when (list_any (acknowledged plan) (reader ∷ name ∷ rest)) (list_any (acknowledged plan) (name ∷ rest))
    (λ some. go (or_some (acknowledged plan reader) (list_any (acknowledged plan) (name ∷ rest)) some))
    (or_there (acknowledged plan reader) (list_any (acknowledged plan) (name ∷ rest)))
  where
    go : (acknowledged plan reader ≡ true) ⊎ (list_any (acknowledged plan) (name ∷ rest) ≡ true) → list_any (acknowledged plan) (name ∷ rest) ≡ true
    go (inr there) = there
    go (inl here) =
        let (c, named, passes, each) = some_found (λ (c : Component). c.name) (is_next owner seen) plan.components reader found in
        let reading = (and_both (reads_some owner c) (is_unseen seen c.name) passes).0 in
        let one = each (λ (d : Component). reads_some owner d && acknowledged plan d.name) (and_made (reads_some owner c) (acknowledged plan c.name) reading (ap (acknowledged plan) named ∙ here)) in
        let on : list_any (list_any (acknowledged plan)) (all_targets plan name) ≡ true = any_target (acknowledged plan) plan name owner at ∙ one in
        let waits : acknowledged plan name ≡ true = acknowledged_on plan name ∙ or_there (acknowledges_named plan name) (list_any (list_any (acknowledged plan)) (all_targets plan name)) on in
        or_here (acknowledged plan name) (list_any (acknowledged plan) rest) waits

-- how many components weren't seen
abbrev pub unseen_count : List Component → List ByteString → ℕ
unseen_count components seen = length (filter (λ (c : Component). is_unseen seen c.name) components)

-- one more is seen, and no fewer
no_more_unseen : (components : List Component) (seen : List ByteString) (reader : ByteString) → unseen_count components (reader ∷ seen) ≤ unseen_count components seen
no_more_unseen [] seen reader = omega arith
no_more_unseen (c ∷ rest) seen reader = go (is_unseen (reader ∷ seen) c.name) (is_unseen seen c.name) (fewer_unseen seen reader c.name) (no_more_unseen rest seen reader)
  where
    go : (a b : Bool) → (a ≡ true → b ≡ true) → unseen_count rest (reader ∷ seen) ≤ unseen_count rest seen →
        length (if a then c ∷ filter (λ (d : Component). is_unseen (reader ∷ seen) d.name) rest else filter (λ (d : Component). is_unseen (reader ∷ seen) d.name) rest)
        ≤ length (if b then c ∷ filter (λ (d : Component). is_unseen seen d.name) rest else filter (λ (d : Component). is_unseen seen d.name) rest)
    go true true imp less = omega (arith, less)
    go true false imp less = let clash = imp refl in cc
    go false true imp less = omega (arith, less)
    go false false imp less = less

-- what is found next wasn't seen before
pub fewer_left : (components : List Component) (owner : Component) (seen : List ByteString) (reader : ByteString) → next_reader components owner seen ≡ Some reader →
    unseen_count components (reader ∷ seen) < unseen_count components seen
fewer_left [] owner seen reader found = cc
fewer_left (c ∷ rest) owner seen reader found = go (is_next owner seen c) refl found (fewer_left rest owner seen reader)
  where
    first : c.name ≡ reader → is_unseen seen c.name ≡ true → unseen_count (c ∷ rest) (reader ∷ seen) < unseen_count (c ∷ rest) seen
    first named unseen =
        let now : is_unseen (reader ∷ seen) c.name ≡ false = ap (λ n. is_unseen (reader ∷ seen) n) named ∙ ap (λ b. not (b || is_among seen reader)) (same_text-refl reader) in
        let less = no_more_unseen rest seen reader in
        rw (now, unseen) (omega (arith, less))

    later : (a b : Bool) → (a ≡ true → b ≡ true) → unseen_count rest (reader ∷ seen) < unseen_count rest seen →
        length (if a then c ∷ filter (λ (d : Component). is_unseen (reader ∷ seen) d.name) rest else filter (λ (d : Component). is_unseen (reader ∷ seen) d.name) rest)
        < length (if b then c ∷ filter (λ (d : Component). is_unseen seen d.name) rest else filter (λ (d : Component). is_unseen seen d.name) rest)
    later true true imp less = omega (arith, less)
    later true false imp less = let clash = imp refl in cc
    later false true imp less = omega (arith, less)
    later false false imp less = less

    go : (b : Bool) → is_next owner seen c ≡ b → option_map (λ (d : Component). d.name) (if b then Some c else find (is_next owner seen) rest) ≡ Some reader →
        (next_reader rest owner seen ≡ Some reader → unseen_count rest (reader ∷ seen) < unseen_count rest seen) →
        unseen_count (c ∷ rest) (reader ∷ seen) < unseen_count (c ∷ rest) seen
    go true is found' rest' = let named : c.name ≡ reader = cc in first named (and_both (reads_some owner c) (is_unseen seen c.name) is).1
    go false is found' rest' = later (is_unseen (reader ∷ seen) c.name) (is_unseen seen c.name) (fewer_unseen seen reader c.name) (rest' found')

-- the names with one more
pub names_more : (rest : Bor Names) (name : Bor ByteString) → names_in (One rest name) ≡ name.now ∷ names_in rest.now
names_more rest name = search (rules, the_lemmas)

pub names_none : names_in Nobody ≡ []
names_none = search (rules, the_lemmas)

-- the walk from one component
pub alone : (plan : Plan) (name : Bor ByteString) (rest : Bor Names) → names_in rest.now ≡ [] → list_any (acknowledged plan) (names_in (One rest name)) ≡ acknowledged plan name.now
alone plan name rest none =
    ap (list_any (acknowledged plan)) (names_more rest name ∙ ap (λ names. name.now ∷ names) none) ∙ or_false (acknowledged plan name.now)
  where
    or_false : (b : Bool) → (b || false) ≡ b
    or_false true = refl
    or_false false = refl
