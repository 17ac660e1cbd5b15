-- When an instance has nothing more to do.
use Rattle.std.proofs.Common.{◌≡◌, ◌∙◌, ℕ, ◌<◌, Bool, true, false, ◌&&◌, List, [], ◌∷◌, length, Option, Some, None, IsSome, refl, sym, ap, arith}
use Rattle.std.specs.Prelude.{◌==◌, ◌↔◌, not, slice_get, if◌then◌else◌}
use Rattle.std.proofs.lemmas.Bool.Decides.{nat_tests}
use Rattle.vx_ends.specs.Observation.{Observation}
use Rattle.vx_value.specs.Texts.{is_empty}
use Rattle.vx_ledger.specs.declared.parcel.Parcel.{Parcel}
use Rattle.vx_record.specs.Records.{Record}
use Rattle.vx_record.specs.Confirms.{is_confirm_due}
use Rattle.vx_record.specs.Installs.{source_at}
use Rattle.vx_record.specs.Lists.{buffered, held}
use Rattle.vx_record.specs.Owing.{owes, all_noticed, is_source_done, is_worker_done, is_done}
use Rattle.vx_record.specs.Places.Place.{Held}
use Rattle.vx_record.specs.Routing.{is_dry, is_sent, is_ending}
use Rattle.vx_record.specs.Legal.{IsLegal}
use Rattle.vx_record.specs.Shifts.{at}
use Rattle.vx_record.proofs.Shifting.{stands_at}
use Rattle.vx_tasks.specs.Joining.{joins_at}
use Rattle.vx_places.specs.Calls.{IsKept}
use Rattle.vx_places.specs.Looks.{HasEmptyBuffer, HoldsMany}
use Rattle.vx_places.specs.Views.{parcels_here}
use Rattle.vx_places.proofs.Making.{held_says}
use Rattle.vx_places.proofs.Recorded.{buffer_is, holds_is}
use Rattle.vx_instances.specs.declared.state.InstanceState.{InstanceState}
use Rattle.vx_moves.specs.declared.engine.EngineState.{EngineState}
use Rattle.vx_moves.specs.Stands.{Stands}
use Rattle.vx_ready.specs.Asking.{IsSettled}
use Rattle.vx_ready.proofs.Knowing.{unleased_there, owes_none, state_there}
use Rattle.vx_ready.proofs.Testing.{same_tests, empty_tests}

-- what an unleased instance holds that doesn't merge isn't lent
kept_at : {P : Type 0} (observe : P → Observation) (engine : EngineState P) (stands : Stands observe engine) (i : ℕ) (state : InstanceState P) (there : slice_get engine.states i ≡ Some state) → i < length engine.states → IsSettled engine i →
    joins_at engine.log i ≡ false → IsKept engine.places i
kept_at observe engine stands i state there within settled alone =
    go (parcels_here engine.places (Held i)) refl (stands.kept i (unleased_there observe engine stands i state there settled).1.unleased alone)
  where
    go : (o : Option (List Parcel)) → parcels_here engine.places (Held i) ≡ o → IsSome o → IsKept engine.places i
    go None there is = cc
    go (Some parcels) there is = (held_says engine.places i (let size = stands.size in omega (arith, size, within))).0 parcels there

pub kept_there : {P : Type 0} (observe : P → Observation) (engine : EngineState P) (stands : Stands observe engine) (i : ℕ) → i < length engine.states → IsSettled engine i →
    joins_at engine.log i ≡ false → IsKept engine.places i
kept_there observe engine stands i within settled = let there = state_there engine.states i within in kept_at observe engine stands i there.0 there.1 within settled

pub unbuffered_is : {P : Type 0} (observe : P → Observation) (engine : EngineState P) (i : ℕ) (empty : Bool) → Stands observe engine → (empty ≡ true) ↔ HasEmptyBuffer engine.places i → empty ≡ is_empty (buffered engine.log i)
unbuffered_is observe engine i empty stands says =
    let law = buffer_is engine.log engine.places i stands.legal stands.places in
    let tests = empty_tests (buffered engine.log i) in
    same_tests empty (is_empty (buffered engine.log i)) (λ e. tests.1 (law.0 (says.0 e)), λ e. says.1 (law.1 (tests.0 e)))

pub held_is : {P : Type 0} (observe : P → Observation) (engine : EngineState P) (i n : ℕ) → Stands observe engine → HoldsMany engine.places i n → n ≡ length (held engine.log i)
held_is observe engine i n stands many = holds_is engine.log engine.places i n stands.legal stands.places many

-- what stands among what it holds by the list of it
pub none_held : (h : Record) (i : ℕ) → IsLegal h → is_empty (at h (Held i)) ≡ is_empty (held h i)
none_held h i legal = ap (λ (qs : List (List ℕ)). is_empty qs) (sym (stands_at h (Held i) legal))

-- as many as none
pub none_tests : {X : Type 0} (xs : List X) (n : ℕ) → n ≡ length xs → (n == 0) ≡ is_empty xs
none_tests [] n same = ap (λ k. k == 0) same
none_tests (x ∷ xs) n same = grind (arith, nat_tests, same)

-- SOURCES
source_tests : (dry owed sent noticed due : Bool) → owed ≡ false → ((dry && sent) && (noticed && not due)) ≡ (dry && not owed && sent && noticed && not due)
source_tests dry true sent noticed due e = cc
source_tests true false true noticed due e = refl
source_tests true false false noticed due e = refl
source_tests false false sent noticed due e = refl

pub source_done_is : {P : Type 0} (observe : P → Observation) (engine : EngineState P) (stands : Stands observe engine) (i : ℕ) → i < length engine.states → IsSettled engine i → (dry sent noticed due over confirmed result : Bool) →
    dry ≡ is_dry engine.log i → sent ≡ is_sent engine.log i → noticed ≡ all_noticed engine.log i → due ≡ is_confirm_due engine.log i → over ≡ (dry && sent) → confirmed ≡ (noticed && not due) → result ≡ (over && confirmed) →
    result ≡ is_source_done engine.log i
source_done_is observe engine stands i within settled dry sent noticed due over confirmed result dry_is sent_is noticed_is due_is over_is confirmed_is result_is =
    let there = state_there engine.states i within in
    let over_so : over ≡ (is_dry engine.log i && is_sent engine.log i) = over_is ∙ ap (λ b. b && sent) dry_is ∙ ap (λ b. is_dry engine.log i && b) sent_is in
    let confirmed_so : confirmed ≡ (all_noticed engine.log i && not (is_confirm_due engine.log i)) = confirmed_is ∙ ap (λ b. b && not due) noticed_is ∙ ap (λ b. all_noticed engine.log i && not b) due_is in
    result_is ∙ ap (λ b. b && confirmed) over_so ∙ ap (λ b. (is_dry engine.log i && is_sent engine.log i) && b) confirmed_so
    ∙ source_tests (is_dry engine.log i) (owes engine.log i) (is_sent engine.log i) (all_noticed engine.log i) (is_confirm_due engine.log i) (owes_none observe engine stands i there.0 there.1 settled)

-- TRANSFORMS AND SINKS
worker_tests : (ending buffer sent none : Bool) → (((buffer && sent) && none) && ending) ≡ (ending && buffer && sent && none)
worker_tests true true true none = go none
  where
    go : (n : Bool) → (n && true) ≡ n
    go true = refl
    go false = refl
worker_tests true true false none = refl
worker_tests true false sent none = refl
worker_tests false true true true = refl
worker_tests false true true false = refl
worker_tests false true false none = refl
worker_tests false false sent none = refl

pub vacant_is : (h : Record) (i : ℕ) (empty sent none both result : Bool) → empty ≡ is_empty (buffered h i) → sent ≡ is_sent h i → none ≡ is_empty (held h i) → both ≡ (empty && sent) → result ≡ (both && none) →
    result ≡ (is_empty (buffered h i) && is_sent h i && is_empty (held h i))
vacant_is h i empty sent none both result empty_is sent_is none_is both_is result_is =
    let both_so : both ≡ (is_empty (buffered h i) && is_sent h i) = both_is ∙ ap (λ b. b && sent) empty_is ∙ ap (λ b. is_empty (buffered h i) && b) sent_is in
    result_is ∙ ap (λ b. b && none) both_so ∙ ap (λ b. is_empty (buffered h i) && is_sent h i && b) none_is

pub worker_done_is : (h : Record) (i : ℕ) (vacant ending : Bool) → vacant ≡ (is_empty (buffered h i) && is_sent h i && is_empty (held h i)) → ending ≡ is_ending h i → (vacant && ending) ≡ is_worker_done h i
worker_done_is h i vacant ending vacant_is ending_is =
    ap (λ b. b && ending) vacant_is ∙ ap (λ b. (is_empty (buffered h i) && is_sent h i && is_empty (held h i)) && b) ending_is
    ∙ worker_tests (is_ending h i) (is_empty (buffered h i)) (is_sent h i) (is_empty (held h i))

-- an instance is a source, or not
pub done_source : (h : Record) (i : ℕ) → source_at h i ≡ true → is_source_done h i ≡ is_done h i
done_source h i is = sym (ap (λ b. if b then is_source_done h i else is_worker_done h i) is)

pub done_worker : (h : Record) (i : ℕ) → source_at h i ≡ false → is_worker_done h i ≡ is_done h i
done_worker h i is = sym (ap (λ b. if b then is_source_done h i else is_worker_done h i) is)
