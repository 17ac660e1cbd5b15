-- What stands at a place of a legal record is held.
use Rattle.std.proofs.Common.{◌≡◌, ℕ, ◌+◌, ◌<◌, ◌≤◌, Bool, true, false, [], ◌∷◌, length, subst, arith, inl, inr}
use Rattle.std.specs.Prelude.{◌==◌, if◌then◌else◌}
use Rattle.std.proofs.lemmas.Bool.Decides.{nat_tests}
use Rattle.std.proofs.lemmas.Bool.{cases_lt}
use Rattle.vx_ledger.specs.Copies.{numbers_of}
use Rattle.vx_record.specs.Records.{Record}
use Rattle.vx_record.specs.Copies.{count, next_copy, IsLive}
use Rattle.vx_record.specs.Lists.{places, stands, parcels_at}
use Rattle.vx_record.specs.Legal.{IsLegal}
use Rattle.vx_record.proofs.Changes.{places_meant}
use Rattle.vx_record.proofs.HeldCopies.{times_some}
use Rattle.vx_record.proofs.OnePlace.{conserved, one_place, live_stands, tracked}
use Rattle.vx_record.proofs.Place.{count-oldest}
use Rattle.vx_record.proofs.Tracked.{unmade_nowhere}
use Rattle.vx_balance.specs.Promises.{OneHeld, OldestHeld}

pub one_held : OneHeld
one_held h copy is live = record { of_batch = (is, tt); live = λ c l. subst (IsLive h) (one c l) live; once = λ c. at_most (copy.number == c) }
  where
    one : (c : ℕ) → 0 < count c (copy.number ∷ []) → copy.number ≡ c
    one c l = grind (arith, nat_tests, l)

    at_most : (t : Bool) → (if t then 1 else 0) + 0 ≤ 1
    at_most true = omega arith
    at_most false = omega arith

-- a copy stands in no more places than one
few_places : (h : Record) (c : ℕ) → IsLegal h → length (places h c) ≤ 1
few_places h c legal =
    elim (cases_lt c (next_copy h)) [
      | inl below ↦ let one = one_place [] h legal c below in omega (arith, one)
      | inr above ↦ let none = unmade_nowhere h c (tracked h c (conserved h legal)) above in omega (arith, none)
    ]

pub oldest_held : OldestHeld
oldest_held h p copies legal oldest are = record {
  of_batch = are;
  live = λ c l. let few = at_place c in (live_stands h legal c).1 (omega (arith, few, l));
  once = λ c. let few = at_place c in let one = few_places h c legal in omega (arith, few, one);
}
  where
    at_place : (c : ℕ) → count c (numbers_of copies) ≤ length (places h c)
    at_place c =
        let few = count-oldest c (numbers_of copies) (parcels_at p (stands h)) oldest in
        let meant = places_meant h c p in
        let times = times_some p (places h c) in
        omega (arith, few, meant, times)
