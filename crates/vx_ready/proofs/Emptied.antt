-- What a judge that owes nothing holds: nothing.
use Rattle.std.proofs.Common.{◌≡◌, ◌∙◌, ℕ, Bool, true, false, ◌&&◌, ◌||◌, List, [], ◌∷◌, ◌++◌, reverse, refl, sym, ap, subst}
use Rattle.std.specs.Prelude.{◌==◌, not, if◌then◌else◌}
use Rattle.std.proofs.lemmas.Bool.{eqb-true}
use Rattle.vx_condition.specs.Steps.{comes, ticks}
use Rattle.vx_record.specs.declared.entry.Entry.TheVariants.{Install, Take, Tick, Answer}
use Rattle.vx_record.specs.Records.{Record}
use Rattle.vx_record.specs.Abandoning.{abandoned}
use Rattle.vx_record.specs.Answering.{MayTick}
use Rattle.vx_record.specs.Inputs.{Input, unanswered}
use Rattle.vx_record.specs.Installs.{transform_at}
use Rattle.vx_record.specs.Judges.{judge_at, parcels_given}
use Rattle.vx_record.specs.Legal.{IsLegal}
use Rattle.vx_record.specs.Lists.{held}
use Rattle.vx_record.specs.Owing.{took_since, owes_birth, owes_spends_in, owes_discards, owes_answer, owes}
use Rattle.vx_record.specs.Parcels.{parcel_event}
use Rattle.vx_record.specs.Places.Place.{Held}
use Rattle.vx_record.specs.Turns.{lease_now}
use Rattle.vx_record.proofs.Judges.{held_is_given}
use Rattle.vx_record.proofs.Promises.{or_left, or_right}
use Rattle.vx_record.proofs.Shifting.{stands_at}
use Rattle.vx_tasks.proofs.Judges.{unticked}

-- a judge that took nothing since its last Answer has nothing to answer, since it never ticks
took_none : (h : Record) (i : ℕ) → IsLegal h → judge_at h i ≡ true → took_since h i ≡ false → unanswered h i ≡ []
took_none [] i legal judge none = refl
took_none (Install version plan once instances now ∷ h) i legal judge none = ap (λ (k : Record). unanswered k i) legal.0.row.first
took_none (Take j s copies ∷ h) i legal judge none = go (j == i) none (took_none h i legal.1 judge)
  where
    go : (b : Bool) → (b || took_since h i) ≡ false → (took_since h i ≡ false → unanswered h i ≡ []) →
        ((if b then record { step = comes (parcel_event h copies) (lease_now h i); copies = copies } ∷ [] else []) ++ unanswered h i) ≡ []
    go true is before = cc
    go false is before = before is
took_none (Tick j now ∷ h) i legal judge none = go (j == i) refl (took_none h i legal.1 judge none)
  where
    go : (b : Bool) → (j == i) ≡ b → unanswered h i ≡ [] → ((if b then record { step = ticks now; copies = [] } ∷ [] else []) ++ unanswered h i) ≡ []
    go true is before = absurd (unticked h i now judge (subst (λ (k : ℕ). MayTick h k now) (eqb-true j i is) legal.0.row))
    go false is before = before
took_none (Answer j made discarded kept ∷ h) i legal judge none = go (j == i) none (took_none h i legal.1 judge)
  where
    go : (b : Bool) → (not b && took_since h i) ≡ false → (took_since h i ≡ false → unanswered h i ≡ []) → (if b then [] else unanswered h i) ≡ []
    go true is before = refl
    go false is before = before is
took_none (e ∷ h) i legal judge none = took_none h i legal.1 judge none

pub holds_none : (h : Record) (i : ℕ) → IsLegal h → abandoned h ≡ false → transform_at h i ≡ true → judge_at h i ≡ true → owes h i ≡ false → held h i ≡ []
holds_none h i legal run transform judge settled =
    let others = owes_birth h i || owes_spends_in h h i in
    let discards : owes_discards h i ≡ false = or_right others (owes_discards h i) (or_left (others || owes_discards h i) (owes_answer h i) settled) in
    let took : took_since h i ≡ false = ap (λ b. b && took_since h i) (sym transform) ∙ or_right (others || owes_discards h i) (owes_answer h i) settled in
    stands_at h (Held i) legal ∙ held_is_given h i legal run judge discards ∙ ap (λ (given : List Input). parcels_given (reverse given)) (took_none h i legal judge took)
