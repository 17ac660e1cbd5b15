-- The instances of the first Install, by the places of their components.
use Rattle.std.specs.Prelude.{ℕ, zero, suc, ◌+◌, ◌≡◌, Bool, true, false, not, ◌&&◌, ◌||◌, Option, Some, None, List, [], ◌∷◌, ◌++◌, length, map, filter, find, slice_get, if◌then◌else◌, ◌==◌, refl}
use Rattle.std.specs.List.{list_any}
use Rattle.std.proofs.Common.{sym, ◌∙◌, ap, arith, eq-eqb}
use Rattle.std.proofs.lemmas.List.{append-nil}
use Rattle.std.proofs.lemmas.Bool.Decides.{nat_tests}
use Rattle.std.proofs.lemmas.Bool.{and_parts, or_right}
use Rattle.vx_value.proofs.Order.{same_text-true, same_text-refl}
use Rattle.vx_value.specs.Texts.{ByteString, same_text}
use Rattle.vx_plan.specs.declared.component.Component.{Component}
use Rattle.vx_plan.specs.declared.plan.Plan.{Plan}
use Rattle.vx_plan.specs.Accepted.{names_differ}
use Rattle.vx_plan.specs.Numbers.{numbers_named, numbers_of_names}
use Rattle.vx_plan.specs.Targets.{targets}
use Rattle.vx_plan.specs.Components.{component_named}
use Rattle.vx_record.specs.declared.entry.Entry.TheVariants.{Install}
use Rattle.vx_record.specs.declared.instance.Instance.{Instance}
use Rattle.vx_record.specs.declared.instance.Start.TheVariants.{New}
use Rattle.vx_record.specs.Records.{Record}
use Rattle.vx_record.specs.Copies.{counting, joined}
use Rattle.vx_record.specs.Installs.{Wiring, wiring, name_at, numbers_of, works, is_new, started}
use Rattle.vx_record.specs.Routing.{wired_targets}
use Rattle.vx_record.specs.Starting.{first_instances}
use Rattle.vx_record.specs.Wirings.{begun, WiringStays, StartedStays, ComponentOfFirst, TargetsOfFirst}

-- a later Install would be a second one
pub wiring_stays : WiringStays
wiring_stays [] plan once now i legal = refl
wiring_stays (Install version plan' once' instances now' ∷ later) plan once now i legal = absurd (never later legal.0.row.first)
  where
    never : (l : Record) → l ++ begun plan once now ≡ [] → ⊥
    never [] e = cc
    never (x ∷ xs) e = cc
wiring_stays (e ∷ later) plan once now i legal = wiring_stays later plan once now i legal.1

-- the numbers of some new instances
numbers_started : (from : ℕ) (components : List Component) →
    map (λ (instance : Instance). instance.number) (filter is_new (first_instances from components)) ≡ counting from (length components)
numbers_started from [] = refl
numbers_started from (c ∷ rest) = ap (λ ns. from ∷ ns) (numbers_started (from + 1) rest)

pub started_stays : StartedStays
started_stays [] plan once now legal = numbers_started 0 plan.components
started_stays (Install version plan' once' instances now' ∷ later) plan once now legal = absurd (never later legal.0.row.first)
  where
    never : (l : Record) → l ++ begun plan once now ≡ [] → ⊥
    never [] e = cc
    never (x ∷ xs) e = cc
started_stays (e ∷ later) plan once now legal =
    append-nil (started (later ++ begun plan once now)) ∙ started_stays later plan once now legal.1

-- the name under which an instance from a number on is started
pub name_of_first : (from : ℕ) (components : List Component) (k : ℕ) (c : Component) → slice_get components k ≡ Some c →
    name_at (first_instances from components) (from + k) ≡ Some c.name
name_of_first from [] k c at = cc
name_of_first from (d ∷ rest) zero c at =
    let here : (from == from + 0) ≡ true = eq-eqb from (from + 0) (omega arith) in
    let same : d ≡ c = cc in
    rw here (ap (λ (x : Component). Some x.name) same)
name_of_first from (d ∷ rest) (suc k) c at =
    let past : (from == from + suc k) ≡ false = grind (arith, nat_tests) in
    let further : from + suc k ≡ from + 1 + k = omega arith in
    rw (past, further) (name_of_first (from + 1) rest k c at)

-- the numbers of some instances, with one more if a test says so
one_more : (b : Bool) (instance : Instance) (others : List Instance) (numbers : List ℕ) → map (λ (i : Instance). i.number) others ≡ numbers →
    map (λ (i : Instance). i.number) (if b then instance ∷ others else others) ≡ (if b then instance.number ∷ numbers else numbers)
one_more true instance others numbers e = ap (λ ns. instance.number ∷ ns) e
one_more false instance others numbers e = e

-- the numbers of the new instances of a name
numbers_first : (from : ℕ) (components : List Component) (name : ByteString) → numbers_of (first_instances from components) name ≡ numbers_named from components name
numbers_first from [] name = refl
numbers_first from (c ∷ rest) name =
    one_more (same_text c.name name) (record { name = c.name; number = from; start = New })
    (filter (λ (instance : Instance). works instance && same_text instance.name name) (first_instances (from + 1) rest))
    (numbers_named (from + 1) rest name) (numbers_first (from + 1) rest name)

-- and of some names
numbers_of_all : (components : List Component) (names : List ByteString) →
    joined (map (numbers_of (first_instances 0 components)) names) ≡ numbers_of_names components names
numbers_of_all components [] = refl
numbers_of_all components (name ∷ rest) = λ k. numbers_first 0 components name k ++ numbers_of_all components rest k

-- how the k-th instance is wired
pub wiring_of_first : (plan : Plan) (once : Bool) (now k : ℕ) (c : Component) → slice_get plan.components k ≡ Some c →
    wiring (begun plan once now) k ≡ Some (record { plan = plan; once = once; instances = first_instances 0 plan.components; name = c.name })
wiring_of_first plan once now k c at =
    let zero_on : 0 + k ≡ k = omega arith in
    let named = name_of_first 0 plan.components k c at in
    let here : name_at (first_instances 0 plan.components) k ≡ Some c.name = ap (name_at (first_instances 0 plan.components)) (sym zero_on) ∙ named in
    ap (λ (o : Option ByteString). elim o [ None ↦ None | Some name ↦ Some (record { plan = plan; once = once; instances = first_instances 0 plan.components; name = name }) ]) here

pub targets_of_first : TargetsOfFirst
targets_of_first plan once now k port c at =
    ap (λ (o : Option Wiring). elim o [ None ↦ [] | Some w ↦ wired_targets port w ]) (wiring_of_first plan once now k c at)
    ∙ numbers_of_all plan.components (targets plan c.name port)

-- a test that an item passes, some item passes
any_at : (test : Component → Bool) (components : List Component) (k : ℕ) (c : Component) → slice_get components k ≡ Some c → test c ≡ true →
    list_any test components ≡ true
any_at test [] k c at passes = cc
any_at test (d ∷ rest) zero c at passes =
    let same : d ≡ c = cc in
    ap (λ x. test x || list_any test rest) same ∙ ap (λ b. b || list_any test rest) passes
any_at test (d ∷ rest) (suc k) c at passes = or_right (test d) (list_any test rest) (any_at test rest k c at passes)

-- the component of a name among some whose names differ
pub found : (components : List Component) (k : ℕ) (c : Component) → names_differ components ≡ true → slice_get components k ≡ Some c →
    find (λ (d : Component). same_text d.name c.name) components ≡ Some c
found [] k c differ at = cc
found (d ∷ rest) zero c differ at =
    let same : d ≡ c = cc in
    let named : same_text d.name c.name ≡ true = ap (λ (x : Component). same_text x.name c.name) same ∙ same_text-refl c.name in
    rw named (ap (λ (x : Component). Some x) same)
found (d ∷ rest) (suc k) c differ at = go (same_text d.name c.name) refl (λ rest_differ. found rest k c rest_differ at)
  where
    go : (b : Bool) → same_text d.name c.name ≡ b → (names_differ rest ≡ true → find (λ (x : Component). same_text x.name c.name) rest ≡ Some c) → find (λ (x : Component). same_text x.name c.name) (d ∷ rest) ≡ Some c
    go false other found_later = rw other (found_later (and_parts (not (list_any (λ (x : Component). same_text x.name d.name) rest)) (names_differ rest) differ).1)
    go true same found_later =
        let names : c.name ≡ d.name = sym (same_text-true d.name c.name same) in
        let passes : same_text c.name d.name ≡ true = ap (λ n. same_text n d.name) names ∙ same_text-refl d.name in
        let any = any_at (λ (x : Component). same_text x.name d.name) rest k c at passes in
        let none = (and_parts (not (list_any (λ (x : Component). same_text x.name d.name) rest)) (names_differ rest) differ).0 in
        let clash = sym (ap (λ b. not b) any) ∙ none in
        cc

pub component_of_first : ComponentOfFirst
component_of_first plan once now k c differ at =
    ap (λ (o : Option Wiring). elim o [ None ↦ None | Some w ↦ component_named w.plan w.name ]) (wiring_of_first plan once now k c at)
    ∙ found plan.components k c differ at
