-- What an instance puts out, what waits in it and what it holds is its task's own, in a legal record.
use Rattle.std.proofs.Common.{◌≡◌, ℕ, false, List, refl, ap, ◌∙◌}
use Rattle.vx_record.specs.declared.entry.Entry.{Entry}
use Rattle.vx_record.specs.declared.entry.Entry.TheVariants.{Born, Split, Push, Take, Answer, Spent}
use Rattle.vx_record.specs.Places.{Place}
use Rattle.vx_record.specs.Places.Place.{Outputs, Waiting, Held}
use Rattle.vx_record.specs.Tasks.{is_of}
use Rattle.vx_record.specs.Shifts.{shift, at}
use Rattle.vx_record.specs.ShiftLaws.{IsOwnPlace}
use Rattle.vx_record.proofs.Mine.{EachActs, owned}
use Rattle.vx_record.proofs.Shifting.{stands_at}

outputs_apart : (e : Entry) (i : ℕ) (was : List (List ℕ)) → is_of i e ≡ false → shift e (Outputs i) was ≡ was
outputs_apart (Born j b place copies events waits stream end) i was is = rw is refl
outputs_apart (Split j ports copies event children) i was is = rw is refl
outputs_apart (Answer j outputs discarded kept) i was is = rw is refl
outputs_apart (Spent j c outcome) i was is = rw is refl
outputs_apart e i was is = refl

waiting_apart : (t : ℕ) (e : Entry) (i : ℕ) (was : List (List ℕ)) → is_of i e ≡ false → shift e (Waiting i t) was ≡ was
waiting_apart t (Split j ports copies event children) i was is = rw is refl
waiting_apart t (Push j u s copies) i was is = rw is refl
waiting_apart t (Spent j c outcome) i was is = rw is refl
waiting_apart t e i was is = refl

pub held_apart : (e : Entry) (i : ℕ) (was : List (List ℕ)) → is_of i e ≡ false → shift e (Held i) was ≡ was
held_apart (Take j s copies) i was is = rw is refl
held_apart (Answer j outputs discarded kept) i was is = rw is refl
held_apart (Spent j c outcome) i was is = rw is refl
held_apart e i was is = refl

-- so what stands at a place is the task's own where entries of others leave it
placed : (place : ℕ → Place) → ((e : Entry) (i : ℕ) (was : List (List ℕ)) → is_of i e ≡ false → shift e (place i) was ≡ was) → IsOwnPlace place
placed place apart h i legal = stands_at h (place i) legal ∙ owned each h i
  where
    each : EachActs (λ h i. at h (place i))
    each e i = record { apart = λ off h. apart e i (at h (place i)) off; alike = λ h same. ap (shift e (place i)) same }

pub outputs_own : IsOwnPlace Outputs
outputs_own = placed Outputs outputs_apart

pub waiting_own : (t : ℕ) → IsOwnPlace (λ i. Waiting i t)
waiting_own t = placed (λ i. Waiting i t) (waiting_apart t)

pub held_own : IsOwnPlace Held
held_own = placed Held held_apart
