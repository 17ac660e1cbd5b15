-- What a judge took and holds.
use Rattle.std.proofs.Common.{◌≡◌, ◌∙◌, ℕ, Bool, true, false, ◌||◌, List, [], ◌∷◌, ◌++◌, refl, sym, ap, subst}
use Rattle.std.specs.Prelude.{◌==◌, if◌then◌else◌}
use Rattle.std.proofs.lemmas.Bool.{eqb-true, false_from_ne_true, or_parts}
use Rattle.vx_value.specs.Texts.{is_empty}
use Rattle.vx_condition.specs.Steps.{comes, ticks}
use Rattle.vx_record.specs.declared.entry.Entry.TheVariants.{Install, Lease, Take, Tick, Answer}
use Rattle.vx_record.specs.Records.{Record}
use Rattle.vx_record.specs.Answering.{MayTick}
use Rattle.vx_record.specs.Inputs.{Input, unanswered, has_tick, ticks_wait}
use Rattle.vx_record.specs.Judges.{judge_at}
use Rattle.vx_record.specs.Legal.{IsLegal}
use Rattle.vx_record.specs.Lists.{stands, parcels_at, is_stage_of, buffered}
use Rattle.vx_record.specs.Owing.{owes_birth, owes_spends_in, owes_discards, owes_answer, owes, last_discarded}
use Rattle.vx_record.specs.Parcels.{parcel_event}
use Rattle.vx_record.specs.Places.{Place}
use Rattle.vx_record.specs.Places.Place.{Contents}
use Rattle.vx_record.specs.Shifts.{at}
use Rattle.vx_record.specs.Turns.{lease_now}
use Rattle.vx_record.proofs.Shifting.{stands_at}
use Rattle.vx_record.proofs.Vacant.{where_none, none_where}
use Rattle.vx_tasks.proofs.Discarding.{unspent_less}
use Rattle.vx_tasks.proofs.Judges.{unticked}

-- WHAT IT WAS GIVEN
-- a parcel that is taken, as an input
abbrev taken_as : Record → ℕ → List ℕ → Input
taken_as h i copies = record { step = comes (parcel_event h copies) (lease_now h i); copies = copies }

-- a tick, as an input
abbrev tick_at : ℕ → Input
tick_at now = record { step = ticks now; copies = [] }

-- no tick ever waits for an answer
pub none_ticks : (h : Record) (i : ℕ) → IsLegal h → judge_at h i ≡ true → ticks_wait h i ≡ false
none_ticks [] i legal judge = refl
none_ticks (Install version plan once instances now ∷ h) i legal judge = ap (λ (k : Record). ticks_wait k i) legal.0.row.first
none_ticks (Take j s copies ∷ h) i legal judge = go (j == i) (none_ticks h i legal.1 judge)
  where
    go : (b : Bool) → ticks_wait h i ≡ false → has_tick ((if b then taken_as h i copies ∷ [] else []) ++ unanswered h i) ≡ false
    go true before = before
    go false before = before
none_ticks (Tick j now ∷ h) i legal judge = go (j == i) refl (none_ticks h i legal.1 judge)
  where
    go : (b : Bool) → (j == i) ≡ b → ticks_wait h i ≡ false → has_tick ((if b then tick_at now ∷ [] else []) ++ unanswered h i) ≡ false
    go true is before = absurd (unticked h i now judge (subst (λ (k : ℕ). MayTick h k now) (eqb-true j i is) legal.0.row))
    go false is before = before
none_ticks (Answer j made discarded kept ∷ h) i legal judge = go (j == i) (none_ticks h i legal.1 judge)
  where
    go : (b : Bool) → ticks_wait h i ≡ false → has_tick (if b then [] else unanswered h i) ≡ false
    go true before = refl
    go false before = before
none_ticks (e ∷ h) i legal judge = none_ticks h i legal.1 judge

-- WHAT IS BUFFERED
-- nothing is where no stage has a parcel
pub none_buffered : (h : Record) (i : ℕ) → IsLegal h → ((s : ℕ) → at h (Contents i s) ≡ []) → is_empty (buffered h i) ≡ true
none_buffered h i legal none = none_where (is_stage_of i) (stands h) stage
  where
    stage : (p : Place) → is_stage_of i p ≡ true → parcels_at p (stands h) ≡ []
    stage (Contents j s) is = stands_at h (Contents j s) legal ∙ rw (eqb-true j i is) (none s)
    stage p is = cc

-- and a lease leaves what is
pub buffer_leased : (h : Record) (i worker now : ℕ) → IsLegal (Lease i worker now 0 ∷ h) → is_empty (buffered h i) ≡ false →
    is_empty (buffered (Lease i worker now 0 ∷ h) i) ≡ false
buffer_leased h i worker now legal some = false_from_ne_true (is_empty (buffered all i)) (λ none.
    let gone = none_where (is_stage_of i) (stands h) (stage none) in cc)
  where
    all : Record
    all = Lease i worker now 0 ∷ h

    stage : is_empty (buffered all i) ≡ true → (p : Place) → is_stage_of i p ≡ true → parcels_at p (stands h) ≡ []
    stage none p is = stands_at h p legal.1 ∙ sym (stands_at all p legal) ∙ where_none (is_stage_of i) (stands all) none p is

-- WHAT IT OWES
-- what owes nothing has spent all that it discarded, and answered what it took
pub owes_neither : (h : Record) (i : ℕ) → owes h i ≡ false → (owes_discards h i ≡ false) × (owes_answer h i ≡ false)
owes_neither h i none =
    let two = or_parts (owes_birth h i || owes_spends_in h h i || owes_discards h i) (owes_answer h i) none in
    ((or_parts (owes_birth h i || owes_spends_in h h i) (owes_discards h i) two.0).1, two.1)

-- a lease and a take leave all that it discarded spent
pub discards_leased : (h : Record) (i worker now : ℕ) → owes_discards h i ≡ false → owes_discards (Lease i worker now 0 ∷ h) i ≡ false
discards_leased h i worker now none = unspent_less h (Lease i worker now 0) (last_discarded h i) none

pub discards_taken : (h : Record) (i s : ℕ) (copies : List ℕ) → owes_discards h i ≡ false → owes_discards (Take i s copies ∷ h) i ≡ false
discards_taken h i s copies none = unspent_less h (Take i s copies) (last_discarded h i) none
