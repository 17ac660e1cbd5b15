-- What takes in and is done stays done while nothing is born.
use Rattle.std.proofs.Common.{◌≡◌, ℕ, zero, suc, ◌+◌, ◌<◌, ◌≤◌, inl, inr, Bool, true, false, List, [], ◌∷◌, ◌++◌, Option, Some, None, refl, sym, ap, subst, ◌∙◌, arith, length}
use Rattle.std.specs.Prelude.{◌==◌, ◌&&◌, ◌||◌, not, map, slice_index_or, if◌then◌else◌}
use Rattle.std.specs.List.{list_any, list_all}
use Rattle.std.proofs.lemmas.Bool.{cases_lt, and_parts, and_from, or_parts, or_from, or_right, not-true, not-false, not_from_false, eqb-true, ne_eqb, eqb-false}
use Rattle.std.proofs.lemmas.Bool.Decides.{nat_tests}
use Rattle.vx_value.specs.Texts.{ByteString, is_empty}
use Rattle.vx_plan.specs.declared.component.Component.{Component}
use Rattle.vx_plan.specs.Components.{component_named, is_source, is_transform, port_names}
use Rattle.vx_plan.specs.Targets.{readers}
use Rattle.vx_record.specs.Records.{Record}
use Rattle.vx_record.specs.declared.child.Child.{Child}
use Rattle.vx_record.specs.declared.entry.Entry.{Entry}
use Rattle.vx_record.specs.declared.entry.Entry.TheVariants.{Split, Retired}
use Rattle.vx_record.specs.Copies.{count, joined, contains, counting, children_of, next_copy}
use Rattle.vx_record.specs.Places.Place.{Waiting}
use Rattle.vx_record.specs.Installs.{Wiring, wiring, wired, component_of, component_or, source_at, transform_at, numbers_of, started, is_retired}
use Rattle.vx_record.specs.Lists.{and_rest, waiting, buffered, held}
use Rattle.vx_record.specs.Moving.{IsConserved, children_for}
use Rattle.vx_record.specs.Reads.{all_ended, is_lost}
use Rattle.vx_record.specs.Parcels.{port_list}
use Rattle.vx_record.specs.Routing.{is_out_from_before, drains, is_dry, all_dry, is_sent, wired_targets, outlets, routes, all_ports, names, is_named, is_ending}
use Rattle.vx_record.specs.Owing.{is_source_done, is_worker_done, is_done}
use Rattle.vx_record.specs.Ceasing.{readers_on}
use Rattle.vx_record.specs.Legal.{IsLegal}
use Rattle.vx_record.proofs.Counts.{count-append}
use Rattle.vx_record.proofs.OnePlace.{conserved}
use Rattle.vx_record.proofs.Entries.{split_grows, split_stays}
use Rattle.vx_record.proofs.Ceasing.{unmarked}
use Rattle.vx_record.proofs.FirstPort.{open_routes, split_read}
use Rattle.vx_record.proofs.Done.{worker_tests}
use Rattle.vx_record.proofs.Vacant.{Sent, sent_empty, Unfilled, creates, empty_is, is_empty_of, sent_of, is_sent_of, sent_on, unfilled_of, unbuffered, unentered, unfilled_on, waits_still}
use Rattle.vx_record.proofs.Drying.{dry_on}
use Rattle.vx_record.proofs.Senders.{all_among, none_among, started_component_or, installs, same_component_or, uninstalled, wired_same, started_same, source_same, unput_source, other_sent, retired_sent}

-- what an instance that takes in has where it is done
pub record WorkerDone (h : Record) (i : ℕ) : Type 0 where
  pub worker : component_or false (λ (c : Component). not (is_source c)) h i ≡ true
  pub dry : all_dry h ≡ true
  pub unnamed : is_named h i ≡ false
  pub sent : Sent h i
  pub empty : Unfilled h i

-- no worker is a source
unsource : (o : Option Component) → (elim o [ None ↦ false | Some c ↦ not (is_source c) ]) ≡ true → (elim o [ None ↦ false | Some c ↦ is_source c ]) ≡ false
unsource None e = cc
unsource (Some c) e = not-true (is_source c) e

pub worker_source : (h : Record) (i : ℕ) → component_or false (λ (c : Component). not (is_source c)) h i ≡ true → source_at h i ≡ false
worker_source h i e = unsource (component_of h i) e

-- and it never drains
pub undrained : (h : Record) (i : ℕ) → IsLegal h → source_at h i ≡ false → drains h i ≡ false
undrained h i legal off = ap (λ (m : Bool). m || (source_at h i && false)) (unmarked h i legal) ∙ ap (λ (s : Bool). s && false) off

pub dry_by : (d a : Bool) → d ≡ false → (d || a) ≡ true → a ≡ true
dry_by d a off e = grind arith

three_parts : (a b c : Bool) → (a && b && c) ≡ true → (a ≡ true) × (b ≡ true) × (c ≡ true)
three_parts a b c all = grind arith

-- what the test says where it is done
pub worker_done : (h : Record) (i : ℕ) → IsLegal h → source_at h i ≡ false → is_done h i ≡ true → WorkerDone h i
worker_done h i legal off done =
    let tests = worker_tests h i off done in
    let parts = three_parts (component_or false (λ (c : Component). not (is_source c)) h i) (drains h i || all_dry h) (not (is_named h i)) tests.ending in
    record {
      worker = parts.0;
      dry = dry_by (drains h i) (all_dry h) (undrained h i legal off) parts.1;
      unnamed = not-true (is_named h i) parts.2;
      sent = sent_of h i tests.sent;
      empty = unfilled_of h i tests.drained tests.emptied;
    }

-- and the other way round
all_four : (a b c d : Bool) → a ≡ true → b ≡ true → c ≡ true → d ≡ true → (a && b && c && d) ≡ true
all_four a b c d e f g k = rw (e, f, g, k) refl

pub done_worker : (h : Record) (i : ℕ) → IsLegal h → WorkerDone h i → is_done h i ≡ true
done_worker h i legal is =
    ap (λ (b : Bool). if b then is_source_done h i else is_worker_done h i) off
    ∙ all_four (is_ending h i) (is_empty (buffered h i)) (is_sent h i) (is_empty (held h i)) ending (unbuffered h i is.empty) (is_sent_of h i is.sent) (is_empty_of (held h i) is.empty.holdings)
  where
    off : source_at h i ≡ false
    off = worker_source h i is.worker

    ending : is_ending h i ≡ true
    ending =
        and_from (component_or false (λ (c : Component). not (is_source c)) h i && (drains h i || all_dry h)) (not (is_named h i))
        (and_from (component_or false (λ (c : Component). not (is_source c)) h i) (drains h i || all_dry h) is.worker (or_right (drains h i) (all_dry h) is.dry))
        (not_from_false (is_named h i) is.unnamed)

-- ALL SOURCES
-- a test that passes where another does passes for all of which that one does
all_on : (p q : ℕ → Bool) (xs : List ℕ) → ((x : ℕ) → p x ≡ true → q x ≡ true) → list_all p xs ≡ true → list_all q xs ≡ true
all_on p q [] more all = refl
all_on p q (x ∷ xs) more all = and_from (q x) (list_all q xs) (more x ((and_parts (p x) (list_all p xs) all).0)) (all_on p q xs more ((and_parts (p x) (list_all p xs) all).1))

-- and for none of which it does for none
any_on : (p q : ℕ → Bool) (xs : List ℕ) → ((x : ℕ) → p x ≡ false → q x ≡ false) → list_any p xs ≡ false → list_any q xs ≡ false
any_on p q [] more none = refl
any_on p q (x ∷ xs) more none = or_from (q x) (list_any q xs) (more x ((or_parts (p x) (list_any p xs) none).0)) (any_on p q xs more ((or_parts (p x) (list_any p xs) none).1))

-- each source is dry
pub source_dry : (h : Record) (j : ℕ) → IsLegal h → all_dry h ≡ true → source_at h j ≡ true → is_dry h j ≡ true
source_dry h j legal dry is =
    ap (λ (b : Bool). not b || is_dry h j) (sym is) ∙ all_among (λ k. not (source_at h k) || is_dry h k) (started h) j dry (started_component_or h j is_source legal is)

-- and stays so
pub all_dry_on : (h : Record) (e : Entry) → IsLegal (e ∷ h) → installs e ≡ false → all_dry h ≡ true → all_dry (e ∷ h) ≡ true
all_dry_on h e legal kept dry =
    ap (λ (ns : List ℕ). list_all (λ k. not (source_at (e ∷ h) k) || is_dry (e ∷ h) k) ns) (started_same e h kept)
    ∙ all_on (λ k. not (source_at h k) || is_dry h k) (λ k. not (source_at (e ∷ h) k) || is_dry (e ∷ h) k) (started h) one dry
  where
    go : (j : ℕ) (s : Bool) → (not s || is_dry h j) ≡ true → (not s || is_dry (e ∷ h) j) ≡ true
    go j true is = dry_on h e j legal is
    go j false is = refl

    one : (j : ℕ) → (not (source_at h j) || is_dry h j) ≡ true → (not (source_at (e ∷ h) j) || is_dry (e ∷ h) j) ≡ true
    one j is = ap (λ (s : Bool). not s || is_dry (e ∷ h) j) (source_same e h j kept) ∙ go j (source_at h j) is

-- NAMES
-- what has no outlet gets none
outlet_on : (h : Record) (e : Entry) (j i port : ℕ) → IsLegal (e ∷ h) → installs e ≡ false → creates j e ≡ false → count i (outlets h j port) ≡ 0 → count i (outlets (e ∷ h) j port) ≡ 0
outlet_on h e j i port legal kept off none = go (is_dry h j && is_sent h j) (is_dry (e ∷ h) j && is_sent (e ∷ h) j) shut none
  where
    dry_source : is_dry h j ≡ true → source_at h j ≡ true
    dry_source dry = (and_parts (source_at h j) (all_ended h j || is_lost h j || (drains h j && not (is_out_from_before h j))) dry).0

    shut : (is_dry h j && is_sent h j) ≡ true → (is_dry (e ∷ h) j && is_sent (e ∷ h) j) ≡ true
    shut is =
        and_from (is_dry (e ∷ h) j) (is_sent (e ∷ h) j) (dry_on h e j legal ((and_parts (is_dry h j) (is_sent h j) is).0))
        (is_sent_of (e ∷ h) j (sent_on h e j (conserved (e ∷ h) legal) (unput_source h e j legal (dry_source ((and_parts (is_dry h j) (is_sent h j) is).0)) off) (sent_of h j ((and_parts (is_dry h j) (is_sent h j) is).1))))

    same : wired [] (wired_targets port) (e ∷ h) j ≡ wired [] (wired_targets port) h j
    same = ap (λ (o : Option Wiring). elim o [ None ↦ [] | Some w ↦ wired_targets port w ]) (wired_same e h j kept)

    go : (b b' : Bool) → (b ≡ true → b' ≡ true) → count i (if b then [] else wired [] (wired_targets port) h j) ≡ 0 → count i (if b' then [] else wired [] (wired_targets port) (e ∷ h) j) ≡ 0
    go b true more e = refl
    go true false more e = let no : false ≡ true = more refl in cc
    go false false more e = ap (λ (ts : List ℕ). count i ts) same ∙ e

-- nor any route
routes_on : (h : Record) (e : Entry) (j i : ℕ) (ports : List ℕ) → IsLegal (e ∷ h) → installs e ≡ false → creates j e ≡ false → count i (routes h j ports) ≡ 0 → count i (routes (e ∷ h) j ports) ≡ 0
routes_on h e j i [] legal kept off none = refl
routes_on h e j i (port ∷ ports) legal kept off none =
    let before = count-append i (outlets h j port) (routes h j ports) in
    let after = count-append i (outlets (e ∷ h) j port) (routes (e ∷ h) j ports) in
    let here = outlet_on h e j i port legal kept off (omega (arith, none, before)) in
    let rest = routes_on h e j i ports legal kept off (omega (arith, none, before)) in
    omega (arith, after, here, rest)

-- PORTS
-- what none of some numbers gives a number of them doesn't
each_none : (f : ℕ → List ℕ) (i from n p : ℕ) → count i (joined (map f (counting from n))) ≡ 0 → from ≤ p → p < from + n → count i (f p) ≡ 0
each_none f i from zero p none l u = absurd (omega (arith, l, u))
each_none f i from (suc n) p none l u =
    let all = count-append i (f from) (joined (map f (counting (from + 1) n))) in
    elim (cases_lt from p) [
      | inl later ↦ each_none f i (from + 1) n p (omega (arith, none, all)) (omega (arith, later)) (omega (arith, u))
      | inr first ↦ let same : from ≡ p = omega (arith, l, first) in subst (λ (k : ℕ). count i (f k) ≡ 0) same (omega (arith, none, all))
    ]

-- past the ports of a component nobody reads
past_ports : (f : ByteString → List ByteString) (names : List ByteString) (p : ℕ) → length names ≤ p → slice_index_or (map f names) p [] ≡ []
past_ports f [] p past = refl
past_ports f (name ∷ rest) zero past = absurd (omega (arith, past))
past_ports f (name ∷ rest) (suc p) past = past_ports f rest p (omega (arith, past))

-- so whom no port of a component names no number of a port does
port_unread : (w : Wiring) (o : Option Component) (i : ℕ) →
    count i (joined (map (λ port. joined (map (numbers_of w.instances) (slice_index_or (elim o [ None ↦ [] | Some c ↦ map (readers w.plan w.name) (port_names c) ]) port []))) (elim o [ None ↦ [] | Some c ↦ counting 0 (length (port_names c)) ]))) ≡ 0 →
    (p : ℕ) → count i (joined (map (numbers_of w.instances) (slice_index_or (elim o [ None ↦ [] | Some c ↦ map (readers w.plan w.name) (port_names c) ]) p []))) ≡ 0
port_unread w None i none p = refl
port_unread w (Some c) i none p = elim (cases_lt p (length (port_names c))) [
  | inl within ↦ each_none (λ port. joined (map (numbers_of w.instances) (slice_index_or (map (readers w.plan w.name) (port_names c)) port []))) i 0 (length (port_names c)) p none (omega arith) (omega (arith, within))
  | inr past ↦ ap (λ (names : List ByteString). count i (joined (map (numbers_of w.instances) names))) (past_ports (readers w.plan w.name) (port_names c) p past)
]

wiring_unread : (o : Option Wiring) (i : ℕ) →
    count i (joined (map (λ port. elim o [ None ↦ [] | Some w ↦ wired_targets port w ]) (elim (elim o as (λ (x : Option Wiring). Option Component) [ None ↦ None | Some w ↦ component_named w.plan w.name ]) [ None ↦ [] | Some c ↦ counting 0 (length (port_names c)) ]))) ≡ 0 →
    (p : ℕ) → count i (elim o [ None ↦ [] | Some w ↦ wired_targets p w ]) ≡ 0
wiring_unread None i none p = refl
wiring_unread (Some w) i none p = port_unread w (component_named w.plan w.name) i none p

-- and whom none of its ports names reads none of any
unread : (h : Record) (j i : ℕ) (ports : List ℕ) → count i (readers_on h j (all_ports h j)) ≡ 0 → count i (readers_on h j ports) ≡ 0
unread h j i [] none = refl
unread h j i (port ∷ ports) none =
    let here = wiring_unread (wiring h j) i none port in
    let rest = unread h j i ports none in
    let all = count-append i (wired [] (wired_targets port) h j) (readers_on h j ports) in
    omega (arith, here, rest, all)

-- a Split makes no child for what is no target
childless : (i next m : ℕ) (targets : List ℕ) → count i targets ≡ 0 → children_for i (children_of next m targets) ≡ []
childless i next m [] none = refl
childless i next m (t ∷ ts) none = go (t == i) none (childless i (next + m) m ts)
  where
    go : (b : Bool) → (if b then 1 else 0) + count i ts ≡ 0 → (count i ts ≡ 0 → children_for i (children_of (next + m) m ts) ≡ []) →
        (if b then and_rest (counting next m) (children_for i (children_of (next + m) m ts)) else children_for i (children_of (next + m) m ts)) ≡ []
    go true e rest = absurd (omega (arith, e))
    go false e rest = rest (omega (arith, e))

-- no child comes to wait for what no outlet names
unwaited : (h : Record) (e : Entry) (j i : ℕ) → IsLegal (e ∷ h) → count i (routes h j (all_ports h j)) ≡ 0 → waiting h j i ≡ [] → waiting (e ∷ h) j i ≡ []
unwaited h (Split k ports copies event children) j i legal none empty = go (k == j) refl
  where
    kept : IsConserved (Split k ports copies event children ∷ h)
    kept = conserved (Split k ports copies event children ∷ h) legal

    by : (k ≡ j) → waiting (Split k ports copies event children ∷ h) k i ≡ []
    by same =
        let unnamed : count i (routes h k (all_ports h k)) ≡ 0 = subst (λ (n : ℕ). count i (routes h n (all_ports h n)) ≡ 0) (sym same) none in
        let unnamed_on : count i (readers_on h k (all_ports h k)) ≡ 0 = subst (λ (ts : List ℕ). count i ts ≡ 0) (open_routes h k copies (all_ports h k) legal.0.row.split.oldest) unnamed in
        split_grows h k ports i copies event children kept
        ∙ ap (λ (ps : List (List ℕ)). ps ++ children_for i children) (subst (λ (n : ℕ). waiting h n i ≡ []) (sym same) empty)
        ∙ ap (λ (cs : List Child). children_for i cs) (split_read h k ports copies event children legal.0.row)
        ∙ childless i (next_copy h) (length copies) (readers_on h k (port_list ports)) (unread h k i (port_list ports) unnamed_on)

    go : (b : Bool) → (k == j) ≡ b → waiting (Split k ports copies event children ∷ h) j i ≡ []
    go true same =
        let is : k ≡ j = eqb-true k j same in
        subst (λ (n : ℕ). waiting (Split k ports copies event children ∷ h) n i ≡ []) is (by is)
    go false other =
        split_stays h k ports copies event children (Waiting j i) kept refl (ne_eqb j k (λ same. eqb-false k j other (sym same))) ∙ empty
unwaited h e j i legal none empty = waits_still h e j i (conserved (e ∷ h) legal) refl empty

-- what a list doesn't contain it counts not once
uncounted : (xs : List ℕ) (i : ℕ) → contains xs i ≡ false → count i xs ≡ 0
uncounted xs i e = grind (arith, nat_tests, e)

uncontained : (xs : List ℕ) (i : ℕ) → count i xs ≡ 0 → contains xs i ≡ false
uncontained xs i e = grind (arith, nat_tests, e)

-- what is retired stays so
retired_on : (e : Entry) (h : Record) (j : ℕ) → is_retired h j ≡ true → is_retired (e ∷ h) j ≡ true
retired_on (Retired k) h j is = or_right (k == j) (is_retired h j) is
retired_on e h j is = is

-- who names it not before doesn't afterwards
unnamed_by : (h : Record) (e : Entry) (j i : ℕ) → IsLegal (e ∷ h) → installs e ≡ false → creates j e ≡ false → names h j i ≡ false → names (e ∷ h) j i ≡ false
unnamed_by h e j i legal kept off none =
    let before = uncounted (routes h j (all_ports h j)) i ((or_parts (contains (routes h j (all_ports h j)) i) (not (is_empty (waiting h j i))) none).0) in
    let empty = empty_is (waiting h j i) (not-false (is_empty (waiting h j i)) ((or_parts (contains (routes h j (all_ports h j)) i) (not (is_empty (waiting h j i))) none).1)) in
    let ports : all_ports (e ∷ h) j ≡ all_ports h j = same_component_or [] (λ (c : Component). counting 0 (length (port_names c))) (e ∷ h) h j (wired_same e h j kept) in
    or_from (contains (routes (e ∷ h) j (all_ports (e ∷ h) j)) i) (not (is_empty (waiting (e ∷ h) j i)))
    (uncontained (routes (e ∷ h) j (all_ports (e ∷ h) j)) i (ap (λ (ps : List ℕ). count i (routes (e ∷ h) j ps)) ports ∙ routes_on h e j i (all_ports h j) legal kept off before))
    (ap (λ (ps : List (List ℕ)). not (is_empty ps)) (unwaited h e j i legal before empty))

-- so what nobody names stays unnamed
pub unnamed_on : (h : Record) (e : Entry) (i : ℕ) → IsLegal (e ∷ h) → installs e ≡ false → ((j : ℕ) → creates j e ≡ false) → is_named h i ≡ false → is_named (e ∷ h) i ≡ false
unnamed_on h e i legal kept off none =
    ap (λ (ns : List ℕ). list_any (λ j. not (is_retired (e ∷ h) j) && names (e ∷ h) j i) ns) (started_same e h kept)
    ∙ any_on (λ j. not (is_retired h j) && names h j i) (λ j. not (is_retired (e ∷ h) j) && names (e ∷ h) j i) (started h) one none
  where
    gone : (r : Bool) (n : Bool) → r ≡ true → (not r && n) ≡ false
    gone true n is = refl
    gone false n is = cc

    unsaid : (r n : Bool) → n ≡ false → (not r && n) ≡ false
    unsaid true n is = refl
    unsaid false n is = is

    go : (j : ℕ) (r : Bool) → is_retired h j ≡ r → (not r && names h j i) ≡ false → (not (is_retired (e ∷ h) j) && names (e ∷ h) j i) ≡ false
    go j true is e' = gone (is_retired (e ∷ h) j) (names (e ∷ h) j i) (retired_on e h j is)
    go j false is e' = unsaid (is_retired (e ∷ h) j) (names (e ∷ h) j i) (unnamed_by h e j i legal kept (off j) e')

    one : (j : ℕ) → (not (is_retired h j) && names h j i) ≡ false → (not (is_retired (e ∷ h) j) && names (e ∷ h) j i) ≡ false
    one j e' = go j (is_retired h j) refl e'

-- no child waits for what isn't named
pub unawaited : (h : Record) (j i : ℕ) → IsLegal h → is_named h i ≡ false → waiting h j i ≡ []
unawaited h j i legal none = go (source_at h j) refl
  where
    said : (r n w : Bool) → r ≡ false → (not r && (n || not w)) ≡ false → w ≡ true
    said true n w off e = cc
    said false true w off e = cc
    said false false true off e = refl
    said false false false off e = cc

    by : (r : Bool) → is_retired h j ≡ r → 0 < count j (started h) → waiting h j i ≡ []
    by true is there = (retired_sent h j legal is).waits i
    by false is there =
        empty_is (waiting h j i)
        (said (is_retired h j) (contains (routes h j (all_ports h j)) i) (is_empty (waiting h j i)) is
        (none_among (λ k. not (is_retired h k) && names h k i) (started h) j none there))

    other : (b : Bool) → source_at h j ≡ false → transform_at h j ≡ b → waiting h j i ≡ []
    other true off transform = by (is_retired h j) refl (started_component_or h j is_transform legal transform)
    other false off none_too = (other_sent h j legal off none_too).waits i

    go : (b : Bool) → source_at h j ≡ b → waiting h j i ≡ []
    go true source = by (is_retired h j) refl (started_component_or h j is_source legal source)
    go false off = other (transform_at h j) off refl

-- ONE MORE ENTRY
pub worker_on : (h : Record) (e : Entry) (i : ℕ) → IsLegal (e ∷ h) → ((j : ℕ) → creates j e ≡ false) → WorkerDone h i → WorkerDone (e ∷ h) i
worker_on h e i legal off done =
    let kept = uninstalled e h i (λ (c : Component). not (is_source c)) legal done.worker in
    let kept_all = conserved (e ∷ h) legal in
    record {
      worker = same_component_or false (λ (c : Component). not (is_source c)) (e ∷ h) h i (wired_same e h i kept) ∙ done.worker;
      dry = all_dry_on h e legal kept done.dry;
      unnamed = unnamed_on h e i legal kept off done.unnamed;
      sent = sent_empty h e i kept_all (off i) done.empty.holdings done.sent;
      empty = unfilled_on h e i kept_all (unentered h e i kept_all (λ j. unawaited h j i legal.1 done.unnamed)) done.empty;
    }
