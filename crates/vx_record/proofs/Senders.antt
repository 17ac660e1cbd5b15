-- Who sends: only sources and transforms put out and have children that wait, and nobody who is retired.
use Rattle.std.proofs.Common.{◌≡◌, ℕ, ◌+◌, ◌<◌, Bool, true, false, List, [], ◌∷◌, Option, Some, None, refl, sym, ap, subst, ◌∙◌, arith, map, filter, inl, inr}
use Rattle.std.specs.Prelude.{◌==◌, ◌&&◌, ◌||◌, ◌⊎◌, if◌then◌else◌}
use Rattle.std.specs.List.{list_any, list_all}
use Rattle.std.proofs.lemmas.Bool.{eqb-true, or_cases}
use Rattle.std.proofs.lemmas.List.{append-nil}
use Rattle.vx_value.specs.Texts.{ByteString}
use Rattle.vx_plan.specs.declared.component.Component.{Component}
use Rattle.vx_plan.specs.Components.{component_named, is_source, is_transform}
use Rattle.vx_record.specs.declared.instance.Instance.{Instance}
use Rattle.vx_record.specs.Records.{Record}
use Rattle.vx_record.specs.declared.taken.Taken.{Taken}
use Rattle.vx_record.specs.declared.entry.Entry.{Entry}
use Rattle.vx_record.specs.declared.entry.Entry.TheVariants.{Install, Lease, Home, Read, Born, Answer, Retired}
use Rattle.vx_record.specs.Copies.{count}
use Rattle.vx_record.specs.Turns.{is_out}
use Rattle.vx_record.specs.Installs.{Wiring, wiring, name_at, is_new, started, component_or, source_at, transform_at, is_retired}
use Rattle.vx_record.specs.Starting.{first_instances}
use Rattle.vx_record.specs.Sourcing.{Yield, yield_of, yield}
use Rattle.vx_record.specs.Ending.{MayRetire}
use Rattle.vx_record.specs.Legal.{IsLegal}
use Rattle.vx_record.proofs.Counts.{count-append}
use Rattle.vx_record.proofs.OnePlace.{conserved}
use Rattle.vx_record.proofs.Answerers.{source_untransforming, answerer, unanswering}
use Rattle.vx_record.proofs.Bare.{retired_bare}
use Rattle.vx_record.proofs.Vacant.{Sent, creates, puts_out, bare_sent, sent_on}

-- what a wiring tells
abbrev pub observe : {X : Type 0} → X → (Component → X) → Option Wiring → X
observe none f o = elim (elim o as (λ (x : Option Wiring). Option Component) [ None ↦ None | Some w ↦ component_named w.plan w.name ]) [ None ↦ none | Some c ↦ f c ]

-- two instances with one wiring are told the same
pub same_component_or : {X : Type 0} (none : X) (f : Component → X) (h k : Record) (i : ℕ) → wiring h i ≡ wiring k i → component_or none f h i ≡ component_or none f k i
same_component_or none f h k i same = ap (observe none f) same

-- WHO IS STARTED
-- what holds of all holds of each
pub all_among : (test : ℕ → Bool) (xs : List ℕ) (i : ℕ) → list_all test xs ≡ true → 0 < count i xs → test i ≡ true
all_among test [] i all some = absurd (omega (arith, some))
all_among test (x ∷ xs) i all some = go (x == i) (test x) refl refl all some (λ e l. all_among test xs i e l)
  where
    go : (b t : Bool) → (x == i) ≡ b → test x ≡ t → (t && list_all test xs) ≡ true → 0 < (if b then 1 else 0) + count i xs → (list_all test xs ≡ true → 0 < count i xs → test i ≡ true) → test i ≡ true
    go b false is at e l rest = cc
    go true true is at e l rest = let same : x ≡ i = eqb-true x i is in subst (λ (k : ℕ). test k ≡ true) same at
    go false true is at e l rest = rest e (omega (arith, l))

-- and what holds of none of none
pub none_among : (test : ℕ → Bool) (xs : List ℕ) (i : ℕ) → list_any test xs ≡ false → 0 < count i xs → test i ≡ false
none_among test [] i none some = absurd (omega (arith, some))
none_among test (x ∷ xs) i none some = go (x == i) (test x) refl refl none some (λ e l. none_among test xs i e l)
  where
    go : (b t : Bool) → (x == i) ≡ b → test x ≡ t → (t || list_any test xs) ≡ false → 0 < (if b then 1 else 0) + count i xs → (list_any test xs ≡ false → 0 < count i xs → test i ≡ false) → test i ≡ false
    go b true is at e l rest = cc
    go true false is at e l rest = let same : x ≡ i = eqb-true x i is in subst (λ (k : ℕ). test k ≡ false) same at
    go false false is at e l rest = rest e (omega (arith, l))

-- whoever the first Install gives a name it starts
named_new : (from : ℕ) (components : List Component) (i : ℕ) (name : ByteString) → name_at (first_instances from components) i ≡ Some name →
    0 < count i (map (λ (instance : Instance). instance.number) (filter is_new (first_instances from components)))
named_new from [] i name is = cc
named_new from (c ∷ rest) i name is = go (from == i) is (named_new (from + 1) rest i name)
  where
    go : (b : Bool) → (if b && true then Some c.name else name_at (first_instances (from + 1) rest) i) ≡ Some name →
        (name_at (first_instances (from + 1) rest) i ≡ Some name → 0 < count i (map (λ (instance : Instance). instance.number) (filter is_new (first_instances (from + 1) rest)))) →
        0 < (if b then 1 else 0) + count i (map (λ (instance : Instance). instance.number) (filter is_new (first_instances (from + 1) rest)))
    go true e later = omega arith
    go false e later = let l = later e in omega (arith, l)

-- whoever runs a component is started
pub started_component_or : (h : Record) (i : ℕ) (f : Component → Bool) → IsLegal h → component_or false f h i ≡ true → 0 < count i (started h)
started_component_or [] i f legal is = cc
started_component_or (Install version plan once instances now ∷ h) i f legal is = go (name_at instances i) refl
  where
    numbers : List Instance → List ℕ
    numbers all = map (λ (instance : Instance). instance.number) (filter is_new all)

    named : (name : ByteString) → name_at instances i ≡ Some name → 0 < count i (numbers instances)
    named name e =
        subst (λ (all : List Instance). 0 < count i (map (λ (instance : Instance). instance.number) (filter is_new all))) (sym legal.0.row.all_new)
        (named_new 0 plan.components i name (subst (λ (all : List Instance). name_at all i ≡ Some name) legal.0.row.all_new e))

    go : (o : Option ByteString) → name_at instances i ≡ o → 0 < count i (started (Install version plan once instances now ∷ h))
    go (Some name) e =
        let more = named name e in
        let all = count-append i (started h) (numbers instances) in
        omega (arith, more, all)
    go None e =
        let same : wiring (Install version plan once instances now ∷ h) i ≡ wiring [] i =
        ap (λ (o : Option ByteString). elim o [ None ↦ wiring h i | Some name ↦ Some (record { plan = plan; once = once; instances = instances; name = name }) ]) e ∙ ap (λ (k : Record). wiring k i) legal.0.row.first in
        let no : false ≡ true = sym (same_component_or false f (Install version plan once instances now ∷ h) [] i same) ∙ is in cc
started_component_or (e ∷ h) i f legal is =
    let l = started_component_or h i f legal.1 is in
    let all = count-append i (started h) [] in
    omega (arith, l, all)

-- WHO CREATES BATCHES
-- an Install begins the record
abbrev pub installs : Entry → Bool
installs (Install version plan once instances now) = true
installs other = false

-- so no other entry changes a wiring or starts an instance
pub wired_same : (e : Entry) (h : Record) (i : ℕ) → installs e ≡ false → wiring (e ∷ h) i ≡ wiring h i
wired_same (Install version plan once instances now) h i off = cc
wired_same e h i off = refl

pub started_same : (e : Entry) (h : Record) → installs e ≡ false → started (e ∷ h) ≡ started h
started_same (Install version plan once instances now) h off = cc
started_same e h off = append-nil (started h)

pub source_same : (e : Entry) (h : Record) (i : ℕ) → installs e ≡ false → source_at (e ∷ h) i ≡ source_at h i
source_same e h i off = same_component_or false is_source (e ∷ h) h i (wired_same e h i off)

-- where a component runs no Install comes
pub uninstalled : (e : Entry) (h : Record) (i : ℕ) (f : Component → Bool) → IsLegal (e ∷ h) → component_or false f h i ≡ true → installs e ≡ false
uninstalled (Install version plan once instances now) h i f legal is = let no : component_or false f [] i ≡ true = subst (λ (k : Record). component_or false f k i ≡ true) legal.0.row.first is in cc
uninstalled e h i f legal is = refl

-- a Read yields what is its own
pub reader : (h : Record) (j stream : ℕ) (took : Taken) (i : ℕ) (y : Yield) → yield (Read j stream took ∷ h) i ≡ Some y → j ≡ i
reader h j stream took i y is = go (j == i) refl is
  where
    go : (b : Bool) → (j == i) ≡ b → (if b then Some (yield_of h i stream took) else None) ≡ Some y → j ≡ i
    go true own is = eqb-true j i own
    go false own is = cc

-- who creates a batch is a source, and out
pub creator : (h : Record) (i : ℕ) (y : Yield) → IsLegal h → yield h i ≡ Some y → (source_at h i ≡ true) × (is_out h i ≡ true)
creator (Read j stream took ∷ h) i y legal is =
    let same : j ≡ i = reader h j stream took i y is in
    (subst (λ (k : ℕ). source_at h k ≡ true) same legal.0.row.turn.source, subst (λ (k : ℕ). is_out h k ≡ true) same legal.0.row.turn.out)
creator h i y legal is = cc

-- an instance of which neither this nor that it is a transform, and out, can be said puts nothing out
unput_by : (h : Record) (e : Entry) (i : ℕ) → IsLegal (e ∷ h) → (is_out h i ≡ true → (source_at h i ≡ true) ⊎ (transform_at h i ≡ true) → ⊥) → puts_out i e ≡ false
unput_by h (Born j b place copies events waits stream end) i legal never = go (j == i) refl
  where
    go : (b : Bool) → (j == i) ≡ b → b ≡ false
    go true is =
        let same : j ≡ i = eqb-true j i is in
        let of = creator h j _ legal.1 legal.0.row.yields in
        absurd (never (subst (λ (k : ℕ). is_out h k ≡ true) same of.1) (inl (subst (λ (k : ℕ). source_at h k ≡ true) same of.0)))
    go false is = refl
unput_by h (Answer j made discarded kept) i legal never = go (j == i) refl
  where
    go : (b : Bool) → (j == i) ≡ b → b ≡ false
    go true is =
        let same : j ≡ i = eqb-true j i is in
        absurd (never (subst (λ (k : ℕ). is_out h k ≡ true) same legal.0.row.out) (inr (subst (λ (k : ℕ). transform_at h k ≡ true) same (answerer h j made discarded kept legal))))
    go false is = refl
unput_by h e i legal never = refl

-- who is neither puts nothing out
unput_other : (h : Record) (e : Entry) (i : ℕ) → IsLegal (e ∷ h) → source_at h i ≡ false → transform_at h i ≡ false → puts_out i e ≡ false
unput_other h e i legal off other = unput_by h e i legal (λ out. never)
  where
    never : (source_at h i ≡ true) ⊎ (transform_at h i ≡ true) → ⊥
    never (inl is) = let no : true ≡ false = sym is ∙ off in cc
    never (inr is) = let no : true ≡ false = sym is ∙ other in cc

-- nor does a source that creates no batch
pub unput_source : (h : Record) (e : Entry) (i : ℕ) → IsLegal (e ∷ h) → source_at h i ≡ true → creates i e ≡ false → puts_out i e ≡ false
unput_source h (Answer j made discarded kept) i legal is off = unanswering h i j made discarded kept legal (source_untransforming h i is)
unput_source h e i legal is off = off

-- who runs no such component ran none before
component_or_before : (e : Entry) (h : Record) (i : ℕ) (f : Component → Bool) → IsLegal (e ∷ h) → component_or false f (e ∷ h) i ≡ false → component_or false f h i ≡ false
component_or_before (Install version plan once instances now) h i f legal off = ap (λ (k : Record). component_or false f k i) legal.0.row.first
component_or_before e h i f legal off = off

-- so only sources and transforms send
pub other_sent : (h : Record) (i : ℕ) → IsLegal h → source_at h i ≡ false → transform_at h i ≡ false → Sent h i
other_sent [] i legal off other = record { put_out = refl; waits = λ t. refl }
other_sent (e ∷ h) i legal off other =
    let no_source = component_or_before e h i is_source legal off in
    let no_transform = component_or_before e h i is_transform legal other in
    sent_on h e i (conserved (e ∷ h) legal) (unput_other h e i legal no_source no_transform) (other_sent h i legal.1 no_source no_transform)

-- WHO IS RETIRED
-- what holds where an instance retires, and stays with each entry, holds ever after
pub since_retired : (Holds : Record → ℕ → Type 0) → ((h : Record) (i : ℕ) → IsLegal h → MayRetire h i → Holds h i) →
    ((h : Record) (e : Entry) (i : ℕ) → IsLegal (e ∷ h) → is_retired (e ∷ h) i ≡ true → Holds h i → Holds (e ∷ h) i) →
    (h : Record) (i : ℕ) → IsLegal h → is_retired h i ≡ true → Holds h i
since_retired Holds begun on [] i legal is = cc
since_retired Holds begun on (Retired j ∷ h) i legal is = on h (Retired j) i legal is (go (or_cases (j == i) (is_retired h i) is) (since_retired Holds begun on h i legal.1))
  where
    go : ((j == i) ≡ true) ⊎ (is_retired h i ≡ true) → (is_retired h i ≡ true → Holds h i) → Holds h i
    go (inl here) rest = subst (Holds h) (eqb-true j i here) (begun h j legal.1 legal.0.row)
    go (inr before) rest = rest before
since_retired Holds begun on (e ∷ h) i legal is = on h e i legal is (since_retired Holds begun on h i legal.1 is)

-- it is unleased
pub retired_unleased : (h : Record) (i : ℕ) → IsLegal h → is_retired h i ≡ true → is_out h i ≡ false
retired_unleased = since_retired (λ h i. is_out h i ≡ false) (λ h i legal row. row.unleased) on
  where
    on : (h : Record) (e : Entry) (i : ℕ) → IsLegal (e ∷ h) → is_retired (e ∷ h) i ≡ true → is_out h i ≡ false → is_out (e ∷ h) i ≡ false
    on h (Lease j worker now polls) i legal is rest = go (j == i) refl
      where
        go : (b : Bool) → (j == i) ≡ b → (if b then true else is_out h i) ≡ false
        go true here =
            let no : true ≡ false = sym is ∙ subst (λ (k : ℕ). is_retired h k ≡ false) (eqb-true j i here) legal.0.row.unretired in cc
        go false here = rest
    on h (Home j) i legal is rest = go (j == i)
      where
        go : (b : Bool) → (if b then false else is_out h i) ≡ false
        go true = refl
        go false = rest
    on h e i legal is rest = rest

-- and puts nothing out
unput_retired : (h : Record) (e : Entry) (i : ℕ) → IsLegal (e ∷ h) → is_retired (e ∷ h) i ≡ true → puts_out i e ≡ false
unput_retired h (Retired j) i legal is = refl
unput_retired h e i legal is = unput_by h e i legal (λ out of. let no : true ≡ false = sym out ∙ retired_unleased h i legal.1 is in cc)

-- so nothing that it put out stands anywhere
pub retired_sent : (h : Record) (i : ℕ) → IsLegal h → is_retired h i ≡ true → Sent h i
retired_sent = since_retired Sent (λ h i legal row. bare_sent h i (retired_bare h i legal row))
    (λ h e i legal is. sent_on h e i (conserved (e ∷ h) legal) (unput_retired h e i legal is))
