-- What stays as a record has one entry more.
use Rattle.std.proofs.Common.{◌≡◌, ℕ, ◌<◌, Bool, true, false, ◌||◌, ◌&&◌, not, Some, None, List, [], ◌∷◌, ◌++◌, map, reverse, refl, sym, ap, ◌∙◌, subst, arith, append-nil}
use Rattle.std.specs.Prelude.{◌==◌, ◌≢◌, filter, if◌then◌else◌}
use Rattle.std.proofs.lemmas.Bool.Decides.{nat_tests}
use Rattle.vx_ledger.specs.Copies.{Copy}
use Rattle.vx_ledger.specs.declared.parcel.Parcel.{Parcel}
use Rattle.vx_condition.specs.Steps.{comes, ticks}
use Rattle.vx_plan.specs.declared.component.Component.{Component}
use Rattle.vx_reduce.specs.declared.reduce_settings.ReduceSettings.{ReduceSettings}
use Rattle.vx_record.specs.declared.entry.Entry.{Entry}
use Rattle.vx_record.specs.declared.entry.Entry.TheVariants.{Install, Lease, Born, Split, Take, Tick, Answer, Spent}
use Rattle.vx_record.specs.Records.{Record}
use Rattle.vx_record.specs.Copies.{count, joined, next_copy, all_of, spends, times_spent}
use Rattle.vx_record.specs.Turns.{lease_now}
use Rattle.vx_record.specs.Places.Place.{Held}
use Rattle.vx_record.specs.Batches.{parent, batch_of}
use Rattle.vx_record.specs.Parcels.{first_copy, parcel_event}
use Rattle.vx_record.specs.Lists.{shrunk}
use Rattle.vx_record.specs.Installs.{component_of, transform_at}
use Rattle.vx_record.specs.Inputs.{Input as NotedInput, unanswered, inputs, at_answer, answered, is_tick}
use Rattle.vx_record.specs.Transforms.{Rule, RunsBy}
use Rattle.vx_record.specs.Tallies.{firsts_in}
use Rattle.vx_record.specs.Owing.{last_discarded, took_since, owes, owes_birth, owes_spends_in, owes_discards, owes_answer}
use Rattle.vx_record.specs.Shifts.{at}
use Rattle.vx_record.specs.Legal.{IsLegal}
use Rattle.vx_record.proofs.Answers.{count-shrunk}
use Rattle.vx_record.proofs.Counts.{count-append, unless, unless-none, unless-some}
use Rattle.vx_record.proofs.Live.{if_lt}
use Rattle.vx_keeping.specs.Keeping.{IsMade, noted_input_at, taken_in, RunsWith, RunsHost, OwesOnly}
use Rattle.vx_keeping.specs.Laws.{LeavesKept}

-- COPIES
batch_stays : (h : Record) (e : Entry) (c : ℕ) → c < next_copy h → batch_of (e ∷ h) c ≡ batch_of h c
batch_stays h (Born i b place copies events waits stream end) c l = if_lt c (next_copy h) (batch_of h c) b l
batch_stays h (Split i ports copies event children) c l = if_lt c (next_copy h) (batch_of h c) (batch_of h (parent (next_copy h) copies c)) l
batch_stays h e c l = refl

pub made_stays : (h : Record) (e : Entry) (copy : Copy) → IsMade h copy → IsMade (e ∷ h) copy
made_stays h e copy is = let made = is.made in record {
  made = omega (arith, made);
  batch = batch_stays h e copy.number made ∙ is.batch;
  place = is.place;
}

-- what it holds is counted as before
if_not : {X : Type 0} (j i : ℕ) (x y : X) → j ≢ i → (if j == i then x else y) ≡ y
if_not j i x y apart = go (j == i) refl
  where
    go : (b : Bool) → (j == i) ≡ b → (if b then x else y) ≡ y
    go true is = absurd (apart (grind (arith, nat_tests)))
    go false is = refl

one_gone : (c gone : ℕ) (ps : List (List ℕ)) → count gone (joined ps) ≡ 0 → count c (joined (shrunk (gone ∷ []) ps)) ≡ count c (joined ps)
one_gone c gone ps none = count-shrunk c (gone ∷ []) ps ∙ go (gone == c) refl
  where
    n : ℕ
    n = count c (joined ps)

    go : (b : Bool) → (gone == c) ≡ b → unless (count c (gone ∷ [])) (count c (joined ps)) ≡ count c (joined ps)
    go true is =
        let same : gone ≡ c = grind (arith, nat_tests) in
        let some : 0 < count c (gone ∷ []) = grind (arith, nat_tests) in
        unless-some (count c (gone ∷ [])) (count c (joined ps)) some ∙ sym (ap (λ k. count k (joined ps)) (sym same) ∙ none)
    go false is = unless-none (count c (gone ∷ [])) (count c (joined ps)) (grind (arith, nat_tests))

pub held_stays : (h : Record) (i : ℕ) (e : Entry) → LeavesKept h i e → (c : ℕ) → count c (joined (at (e ∷ h) (Held i))) ≡ count c (joined (at h (Held i)))
held_stays h i (Take j s copies) leaves c = ap (λ ps. count c (joined ps)) (if_not j i (at h (Held i) ++ copies ∷ []) (at h (Held i)) leaves)
held_stays h i (Answer j outputs discarded kept) leaves c = ap (λ ps. count c (joined ps)) (if_not j i _ (at h (Held i)) leaves)
held_stays h i (Spent j gone outcome) leaves c = go (j == i) refl
  where
    go : (b : Bool) → (j == i) ≡ b → count c (joined (if b then shrunk (gone ∷ []) (at h (Held i)) else at h (Held i))) ≡ count c (joined (at h (Held i)))
    go true is = one_gone c gone (at h (Held i)) (leaves (grind (arith, nat_tests)))
    go false is = refl
held_stays h i e leaves c = refl

-- INPUTS
pub answered_stays : (h : Record) (i : ℕ) (e : Entry) → LeavesKept h i e → answered (e ∷ h) i ≡ answered h i
answered_stays h i (Answer j outputs discarded kept) leaves = go (j == i) refl
  where
    go : (b : Bool) → (j == i) ≡ b → inputs (if b then Answer j outputs discarded kept ∷ h else at_answer h i) i ≡ inputs (at_answer h i) i
    go true is = absurd (leaves (grind (arith, nat_tests)))
    go false is = refl
answered_stays h i e leaves = refl

pub taken_stays : (h : Record) (i : ℕ) (e : Entry) → LeavesKept h i e → taken_in (e ∷ h) i ≡ taken_in h i
taken_stays h i (Take j s copies) leaves = go (j == i) refl
  where
    x : NotedInput
    x = record { step = comes (parcel_event h copies) (lease_now h i); copies = copies }

    go : (b : Bool) → (j == i) ≡ b → reverse (filter (λ (x : NotedInput). not (is_tick x.step)) ((if b then record { step = comes (parcel_event h copies) (lease_now h i); copies = copies } ∷ [] else []) ++ unanswered h i)) ≡ taken_in h i
    go true is = absurd (leaves (grind (arith, nat_tests)))
    go false is = refl
taken_stays h i (Tick j now) leaves = go (j == i)
  where
    go : (b : Bool) → reverse (filter (λ (x : NotedInput). not (is_tick x.step)) ((if b then record { step = ticks now; copies = [] } ∷ [] else []) ++ unanswered h i)) ≡ taken_in h i
    go true = refl
    go false = refl
taken_stays h i (Answer j outputs discarded kept) leaves = go (j == i) refl
  where
    go : (b : Bool) → (j == i) ≡ b → reverse (filter (λ (x : NotedInput). not (is_tick x.step)) (if b then [] else unanswered h i)) ≡ taken_in h i
    go true is = absurd (leaves (grind (arith, nat_tests)))
    go false is = refl
taken_stays h i e leaves = refl

-- THE RULE
pub component_stays : (h : Record) (i : ℕ) (e : Entry) (c : Component) → IsLegal (e ∷ h) → component_of h i ≡ Some c → component_of (e ∷ h) i ≡ component_of h i
component_stays h i (Install version plan once instances now) c legal runs =
    let none : component_of h i ≡ None = ap (λ (g : Record). component_of g i) legal.0.row.first in absurd cc
component_stays h i e c legal runs = refl

pub with_stays : (h : Record) (i : ℕ) (e : Entry) (s : ReduceSettings) → IsLegal (e ∷ h) → RunsWith h i s → RunsWith (e ∷ h) i s
with_stays h i e s legal runs =
    record { component = runs.component; runs = component_stays h i e runs.component legal runs.runs ∙ runs.runs; transform = runs.transform; set = runs.set }

pub host_stays : (h : Record) (i : ℕ) (e : Entry) → IsLegal (e ∷ h) → RunsHost h i → RunsHost (e ∷ h) i
host_stays h i e legal runs =
    record { component = runs.component; runs = component_stays h i e runs.component legal runs.runs ∙ runs.runs; transform = runs.transform; set = runs.set }

pub rule_before : (h : Record) (i : ℕ) (e : Entry) (s : ReduceSettings) (rule : Rule) → IsLegal (e ∷ h) → RunsWith h i s → RunsBy (e ∷ h) i rule → RunsBy h i rule
rule_before h i e s rule legal runs by = record {
  component = by.component;
  runs = sym (component_stays h i e runs.component legal runs.runs) ∙ by.runs;
  transform = by.transform;
  tests = by.tests;
  mean = by.mean;
  ruled = by.ruled;
}

-- WHAT WAS DISCARDED
last_stays : (h : Record) (i : ℕ) (e : Entry) → LeavesKept h i e → last_discarded (e ∷ h) i ≡ last_discarded h i
last_stays h i (Answer j outputs discarded kept) leaves = if_not j i discarded (last_discarded h i) leaves
last_stays h i e leaves = refl

pub unspent_before : (h : Record) (e : Entry) (c : ℕ) → times_spent (e ∷ h) c ≡ 0 → times_spent h c ≡ 0
unspent_before h e c none = let a = count-append c (all_of spends h) (spends e) in omega (arith, a, none)

pub owes_stays : (h : Record) (i : ℕ) (e : Entry) (left : List ℕ) → LeavesKept h i e → OwesOnly h i left → OwesOnly (e ∷ h) i left
owes_stays h i e left leaves owed c some none = owed c (subst (λ xs. 0 < count c xs) (last_stays h i e leaves) some) (unspent_before h e c none)

-- the copies that came first
pub firsts_stay : (h : Record) (i : ℕ) (e : Entry) → LeavesKept h i e → all_of (firsts_in i) (e ∷ h) ≡ all_of (firsts_in i) h
firsts_stay h i (Take j s copies) leaves = ap (λ xs. all_of (firsts_in i) h ++ xs) (if_not j i (first_copy copies ∷ []) [] leaves) ∙ append-nil (all_of (firsts_in i) h)
firsts_stay h i e leaves = append-nil (all_of (firsts_in i) h)

-- A LEASE
or_right : (a b : Bool) → (a || b) ≡ false → b ≡ false
or_right true b is = absurd cc
or_right false b is = is

-- what owes no answer took nothing since the last one
took_none : (h : Record) (i : ℕ) → took_since h i ≡ false → filter (λ (x : NotedInput). not (is_tick x.step)) (unanswered h i) ≡ []
took_none [] i none = refl
took_none (Take j s copies ∷ h) i none = go (j == i) none (λ is. took_none h i is)
  where
    go : (b : Bool) → (b || took_since h i) ≡ false → (took_since h i ≡ false → filter (λ (x : NotedInput). not (is_tick x.step)) (unanswered h i) ≡ []) → filter (λ (x : NotedInput). not (is_tick x.step)) ((if b then record { step = comes (parcel_event h copies) (lease_now h i); copies = copies } ∷ [] else []) ++ unanswered h i) ≡ []
    go true is ih = absurd cc
    go false is ih = ih is
took_none (Tick j now ∷ h) i none = go (j == i) (took_none h i none)
  where
    go : (b : Bool) → filter (λ (x : NotedInput). not (is_tick x.step)) (unanswered h i) ≡ [] → filter (λ (x : NotedInput). not (is_tick x.step)) ((if b then record { step = ticks now; copies = [] } ∷ [] else []) ++ unanswered h i) ≡ []
    go true is = is
    go false is = is
took_none (Answer j outputs discarded kept ∷ h) i none = go (j == i) none (λ is. took_none h i is)
  where
    go : (b : Bool) → (not b && took_since h i) ≡ false → (took_since h i ≡ false → filter (λ (x : NotedInput). not (is_tick x.step)) (unanswered h i) ≡ []) → filter (λ (x : NotedInput). not (is_tick x.step)) (if b then [] else unanswered h i) ≡ []
    go true is ih = refl
    go false is ih = ih is
took_none (e ∷ h) i none = took_none h i none

settled_none : (h : Record) (i : ℕ) → transform_at h i ≡ true → owes h i ≡ false → taken_in h i ≡ []
settled_none h i transform settled =
    let last : (transform_at h i && took_since h i) ≡ false = or_right (owes_birth h i || owes_spends_in h h i || owes_discards h i) (owes_answer h i) settled in
    let none : took_since h i ≡ false = ap (λ (b : Bool). b && took_since h i) (sym transform) ∙ last in
    ap reverse (took_none h i none)

pub map_none : {X Y : Type 0} (f : X → Y) (xs : List X) → map f xs ≡ [] → xs ≡ []
map_none f [] is = refl
map_none f (x ∷ xs) is = absurd cc

-- so what was taken came at the moment of the last Lease
pub moments_stay : (h : Record) (i : ℕ) (e : Entry) (ps : List Parcel) → IsLegal (e ∷ h) → transform_at h i ≡ true → map (noted_input_at (lease_now h i)) ps ≡ taken_in h i →
    map (noted_input_at (lease_now (e ∷ h) i)) ps ≡ taken_in h i
moments_stay h i (Lease j worker now polls) ps legal transform same = go (j == i) refl
  where
    go : (b : Bool) → (j == i) ≡ b → map (noted_input_at (if b then now else lease_now h i)) ps ≡ taken_in h i
    go true is =
        let here : j ≡ i = grind (arith, nat_tests) in
        let none : taken_in h i ≡ [] = settled_none h i transform (ap (owes h) (sym here) ∙ legal.0.row.settled) in
        let empty : ps ≡ [] = map_none (noted_input_at (lease_now h i)) ps (same ∙ none) in
        ap (map (noted_input_at now)) empty ∙ sym none
    go false is = same
moments_stay h i e ps legal transform same = same
