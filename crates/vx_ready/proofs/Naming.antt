-- Which instances name which, and what is ending.
use Rattle.std.proofs.Common.{◌≡◌, ◌∙◌, inl, inr, ℕ, zero, suc, ◌+◌, ◌-◌, ◌<◌, ◌≤◌, Bool, true, false, ◌&&◌, ◌||◌, List, [], ◌∷◌, ◌++◌, length, Option, Some, None, refl, sym, ap, arith}
use Rattle.std.specs.Prelude.{◌↔◌, map, not, nat_le, slice_get, if◌then◌else◌}
use Rattle.std.proofs.lemmas.Bool.{cases_eq, or_from, or_left, or_right}
use Rattle.std.proofs.lemmas.Bool.Decides.{nat_tests}
use Rattle.vx_ends.specs.Observation.{Observation}
use Rattle.vx_value.specs.Texts.{ByteString, is_empty}
use Rattle.vx_plan.specs.declared.class.Class.{Class}
use Rattle.vx_plan.specs.declared.class.Class.TheVariants.{Source, Transform, Sink}
use Rattle.vx_plan.specs.declared.component.Component.{Component}
use Rattle.vx_plan.specs.declared.settings.Settings.{Settings}
use Rattle.vx_plan.specs.Components.{component_named, is_source, is_transform, port_names}
use Rattle.vx_plan.specs.Options.{has_device, transform_ports}
use Rattle.vx_record.specs.Records.{Record}
use Rattle.vx_record.specs.Copies.{contains, count, counting, joined}
use Rattle.vx_record.specs.Installs.{Wiring, wiring, wired, component_or, source_at, is_marked}
use Rattle.vx_record.specs.Judges.{is_judging}
use Rattle.vx_tasks.specs.Joining.{is_joining}
use Rattle.vx_record.specs.Lists.{waiting}
use Rattle.vx_record.specs.Routing.{wired_targets, drains, is_dry, all_dry, is_sent, routes, all_ports, is_named, is_ending}
use Rattle.vx_record.proofs.Ceasing.{unmarked}
use Rattle.vx_record.proofs.Counts.{count-append}
use Rattle.vx_record.proofs.Wired.{component_in_place}
use Rattle.vx_record.proofs.Promises.{and_left, and_right}
use Rattle.vx_places.specs.Looks.{HasWaiting}
use Rattle.vx_places.proofs.Recorded.{awaits_is}
use Rattle.vx_instances.specs.declared.state.InstanceState.{InstanceState}
use Rattle.vx_instances.specs.Knowing.{outlets_at, wired_outlets}
use Rattle.vx_moves.specs.declared.engine.EngineState.{EngineState}
use Rattle.vx_moves.specs.Stands.{Stands}
use Rattle.vx_sourcecore.specs.Lines.{is_generating, is_blackhole}
use Rattle.vx_ready.specs.Asking.{source_class, transform_class, sink_class, is_among, goes_on, goes_to, has_few_ports, is_served, all_served, IsServed}
use Rattle.vx_ready.proofs.Counting.{any_contains, counted}
use Rattle.vx_ready.proofs.Knowing.{Runs, undraining, known, runs, state_there}
use Rattle.vx_ready.proofs.Testing.{same_tests}

-- WHAT IS SERVED
served_at : (components : List Component) (k : ℕ) (c : Component) → all_served components ≡ true → slice_get components k ≡ Some c → is_served c ≡ true
served_at [] k c all at = cc
served_at (d ∷ rest) zero c all at = let same : d ≡ c = cc in ap is_served (sym same) ∙ and_left (is_served d) (all_served rest) all
served_at (d ∷ rest) (suc k) c all at = served_at rest k c (and_right (is_served d) (all_served rest) all) at

-- a transform puts out on few ports
judge_tests : (device judging joining few : Bool) →
    ((device && false) || (judging && not device && few) || false || false || (joining && not device && few)) ≡ true → few ≡ true
judge_tests device judging joining few is = grind arith

served_tests : (class : Class) (device judging joining few generating blackhole : Bool) →
    ((device && not (transform_class class)) || (transform_class class && judging && not device && few) || (source_class class && generating) || (sink_class class && blackhole)
    || (transform_class class && joining && not device && few)) ≡ true →
    (not (transform_class class) || few) ≡ true
served_tests Source device judging joining few generating blackhole is = refl
served_tests Transform device judging joining few generating blackhole is = judge_tests device judging joining few is
served_tests Sink device judging joining few generating blackhole is = refl

served_so : (c : Component) → is_served c ≡ true → (not (is_transform c) || has_few_ports c) ≡ true
served_so c = served_tests c.class (has_device c.settings) (is_judging c.settings) (is_joining c.settings) (has_few_ports c) (is_generating c.settings) (is_blackhole c.settings)

-- TARGETS
or_contains : (xs ys : List ℕ) (i : ℕ) → (contains xs i || contains ys i) ≡ contains (xs ++ ys) i
or_contains xs ys i = let all : count i (xs ++ ys) ≡ count i xs + count i ys = count-append i xs ys in grind (arith, nat_tests)

-- an instance is among the targets of some ports where it is among all of these
any_joined : (lists : List (List ℕ)) (i : ℕ) → goes_to i lists ≡ contains (joined lists) i
any_joined [] i = refl
any_joined (targets ∷ rest) i =
    ap (λ (b : Bool). b || goes_to i rest) (any_contains targets i) ∙ ap (λ (b : Bool). contains targets i || b) (any_joined rest i) ∙ or_contains targets (joined rest) i

none_joined : (ports : List ℕ) (i : ℕ) → contains (joined (map (λ port. []) ports)) i ≡ false
none_joined [] i = refl
none_joined (port ∷ ports) i = none_joined ports i

-- the readers of an instance's ports
outlets_are : (h : Record) (j : ℕ) → outlets_at h j ≡ map (λ port. wired [] (wired_targets port) h j) (all_ports h j)
outlets_are h j = go (wiring h j)
  where
    go : (o : Option Wiring) → (elim o as (λ _. List (List ℕ)) [ None ↦ [] | Some w ↦ wired_outlets w ])
        ≡ map (λ port. elim o as (λ _. List ℕ) [ None ↦ [] | Some w ↦ wired_targets port w ])
        (elim (elim o as (λ _. Option Component) [ None ↦ None | Some w ↦ component_named w.plan w.name ]) as (λ _. List ℕ) [ None ↦ [] | Some c ↦ counting 0 (length (port_names c)) ])
    go None = refl
    go (Some w) = refl

-- it sends to these, unless it is over
sent_to : (h : Record) (j i : ℕ) (over : Bool) (outlet : List (List ℕ)) → outlet ≡ outlets_at h j →
    (not over && goes_to i outlet) ≡ contains (joined (map (λ port. if over then [] else wired [] (wired_targets port) h j) (all_ports h j))) i
sent_to h j i true outlet same = sym (none_joined (all_ports h j) i)
sent_to h j i false outlet same = any_joined outlet i ∙ ap (λ (ts : List (List ℕ)). contains (joined ts) i) (same ∙ outlets_are h j)

-- port by port
pub none_further : (i n : ℕ) (outlet : List (List ℕ)) (b : Bool) → b ≡ goes_on i n outlet → b ≡ false → ((k : ℕ) → k < n → goes_on i k outlet ≡ false) → (k : ℕ) → k < n + 1 → goes_on i k outlet ≡ false
none_further i n outlet b is off below k l = elim (cases_eq k n) [
  | inl same ↦ ap (λ m. goes_on i m outlet) same ∙ sym is ∙ off
  | inr other ↦ below k (omega (arith, l, other))
]

pub none_on : (i n : ℕ) (outlet : List (List ℕ)) → length outlet ≤ n → ((k : ℕ) → k < n → goes_on i k outlet ≡ false) → goes_to i outlet ≡ false
none_on i n [] few none = refl
none_on i n (targets ∷ rest) few none =
    or_from (is_among i targets) (goes_to i rest) (none 0 (omega (arith, few))) (none_on i (n - 1) rest (omega (arith, few)) (λ k l. none (suc k) (omega (arith, l, few))))

pub one_on : (i port : ℕ) (outlet : List (List ℕ)) → goes_on i port outlet ≡ true → goes_to i outlet ≡ true
one_on i port [] on = cc
one_on i zero (targets ∷ rest) on = or_left (is_among i targets) (goes_to i rest) on
one_on i (suc port) (targets ∷ rest) on = or_right (is_among i targets) (goes_to i rest) (one_on i port rest on)

filled_tests : {X : Type 0} (xs : List X) → (not (is_empty xs) ≡ true) ↔ (0 < length xs)
filled_tests [] = (λ e. cc, λ l. absurd (omega (arith, l)))
filled_tests (x ∷ xs) = (λ e. omega arith, λ l. refl)

length_map : {X Y : Type 0} (f : X → Y) (xs : List X) → length (map f xs) ≡ length xs
length_map f [] = refl
length_map f (x ∷ xs) = ap suc (length_map f xs)

abbrev ports_by : Class → Settings → List ByteString
ports_by class settings = elim class [ Source ↦ [] ∷ [] | Transform ↦ transform_ports settings | Sink ↦ [] ]

few_by : (class : Class) (settings : Settings) → (not (transform_class class) || nat_le (length (ports_by class settings)) 65) ≡ true → length (ports_by class settings) ≤ 65
few_by Source settings few = omega arith
few_by Transform settings few = grind (arith, nat_tests, few)
few_by Sink settings few = omega arith

module _ {P : Type 0} (observe : P → Observation) (engine : EngineState P) (stands : Stands observe engine) (served : IsServed engine) (j : ℕ) (state : InstanceState P) (at : slice_get engine.states j ≡ Some state) where
  served_is : is_served (runs observe engine stands j state at).component ≡ true
  served_is =
      let run = runs observe engine stands j state at in
      served_at engine.run.plan.components j run.component served.served
      (sym (component_in_place engine.log engine.run.plan j stands.legal stands.run.installed) ∙ run.there)

  -- the ports on which an instance puts out are few
  pub few_ports : length state.outlet ≤ 65
  few_ports =
      let run = runs observe engine stands j state at in
      let all : all_ports engine.log j ≡ counting 0 (length (port_names run.component)) =
      ap (λ (o : Option Component). elim o [ None ↦ [] | Some c ↦ counting 0 (length (port_names c)) ]) run.there in
      let many : length state.outlet ≡ length (port_names run.component) =
      ap length ((known observe engine stands j state at).fitted.outlet ∙ outlets_are engine.log j) ∙ length_map (λ port. wired [] (wired_targets port) engine.log j) (all_ports engine.log j)
      ∙ ap length all ∙ counted 0 (length (port_names run.component)) in
      let few = few_by run.component.class run.component.settings (served_so run.component served_is) in
      omega (arith, many, few)

  pub sends_is : (i : ℕ) → (not (is_dry engine.log j && is_sent engine.log j) && goes_to i state.outlet) ≡ contains (routes engine.log j (all_ports engine.log j)) i
  sends_is i = sent_to engine.log j i (is_dry engine.log j && is_sent engine.log j) state.outlet (known observe engine stands j state at).fitted.outlet

-- what two tests of an instance give, and a third
pub of_two : (h : Record) (j : ℕ) (dry sent over named result : Bool) → dry ≡ is_dry h j → sent ≡ is_sent h j → over ≡ (dry && sent) → result ≡ (not over && named) →
    result ≡ (not (is_dry h j && is_sent h j) && named)
of_two h j dry sent over named result dry_is sent_is over_is result_is =
    result_is ∙ ap (λ b. not b && named) (over_is ∙ ap (λ b. b && sent) dry_is ∙ ap (λ b. is_dry h j && b) sent_is)

-- whether a child waits
pub waits_is : {P : Type 0} (observe : P → Observation) (engine : EngineState P) (j i : ℕ) (waits : Bool) → Stands observe engine → (waits ≡ true) ↔ HasWaiting engine.places j i → waits ≡ not (is_empty (waiting engine.log j i))
waits_is observe engine j i waits stands says =
    let law = awaits_is engine.log engine.places j i stands.legal stands.places in
    let tests = filled_tests (waiting engine.log j i) in
    same_tests waits (not (is_empty (waiting engine.log j i))) (λ e. tests.1 (law.0 (says.0 e)), λ e. says.1 (law.1 (tests.0 e)))

-- whether nothing more comes
worker_so : (h : Record) (i : ℕ) (class : Class) → Runs h i class → component_or false (λ (c : Component). not (is_source c)) h i ≡ not (source_at h i)
worker_so h i class runs =
    ap (λ (o : Option Component). elim o [ None ↦ false | Some c ↦ not (is_source c) ]) runs.there
    ∙ sym (ap (λ (o : Option Component). not (elim o [ None ↦ false | Some c ↦ is_source c ])) runs.there)

without_drain : (drained all : Bool) → drained ≡ false → (drained || all) ≡ all
without_drain true all e = cc
without_drain false all e = refl

ending_is : {P : Type 0} (observe : P → Observation) (engine : EngineState P) (stands : Stands observe engine) (i : ℕ) (state : InstanceState P) (at : slice_get engine.states i ≡ Some state) (source dry named : Bool) →
    source ≡ source_at engine.log i → dry ≡ all_dry engine.log → named ≡ is_named engine.log i → (not source && dry && not named) ≡ is_ending engine.log i
ending_is observe engine stands i state at source dry named source_is dry_is named_is =
    let h = engine.log in
    let undrained : drains h i ≡ false = undraining (source_at h i) (is_marked h i) (unmarked h i stands.legal) in
    ap (λ b. not b && dry && not named) source_is
    ∙ ap (λ b. b && dry && not named) (sym (worker_so h i state.class (runs observe engine stands i state at)))
    ∙ ap (λ b. component_or false (λ (c : Component). not (is_source c)) h i && b && not named) (dry_is ∙ sym (without_drain (drains h i) (all_dry h) undrained))
    ∙ ap (λ b. component_or false (λ (c : Component). not (is_source c)) h i && (drains h i || all_dry h) && not b) named_is

pub ending_there : {P : Type 0} (observe : P → Observation) (engine : EngineState P) (stands : Stands observe engine) (i : ℕ) → i < length engine.states → (source dry named : Bool) →
    source ≡ source_at engine.log i → dry ≡ all_dry engine.log → named ≡ is_named engine.log i → (not source && dry && not named) ≡ is_ending engine.log i
ending_there observe engine stands i within source dry named source_is dry_is named_is =
    let there = state_there engine.states i within in ending_is observe engine stands i there.0 there.1 source dry named source_is dry_is named_is
