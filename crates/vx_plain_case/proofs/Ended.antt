-- Where nothing is left to do nothing stands anywhere.
use Rattle.std.proofs.Common.{◌≡◌, ℕ, ◌<◌, Bool, true, false, List, [], ◌∷◌, refl, ap, subst, ◌∙◌, arith, inl, inr}
use Rattle.std.specs.Prelude.{◌==◌, ◌||◌}
use Rattle.std.specs.List.{list_any}
use Rattle.std.proofs.lemmas.Bool.{cases_lt, eq-eqb}
use Rattle.std.proofs.lemmas.Bool.Decides.{nat_tests}
use Rattle.vx_record.specs.Records.{Record}
use Rattle.vx_record.specs.Copies.{count, joined, times_spent, IsLive}
use Rattle.vx_record.specs.Places.{Place}
use Rattle.vx_record.specs.Places.Place.{Held}
use Rattle.vx_record.specs.Owing.{unspent_of, last_discarded, owes_discards}
use Rattle.vx_record.specs.Shifts.{at}
use Rattle.vx_record.specs.Legal.{IsLegal}
use Rattle.vx_record.proofs.OnePlace.{conserved}
use Rattle.vx_record.proofs.Changes.{NoneEmpty}
use Rattle.vx_record.proofs.Promises.{discarded_held}
use Rattle.vx_record.proofs.Shifting.{stands_at}
use Rattle.vx_record.proofs.Spenders.{stands_live}
use Rattle.vx_plain_case.proofs.Standing.{full_at, stands_there}

-- no copy is live
abbrev pub NoneLive : Record → Type 0
NoneLive h = (c : ℕ) → IsLive h c → ⊥

-- parcels without copies are none
pub no_copies : (ps : List (List ℕ)) → NoneEmpty ps → ((c : ℕ) → 0 < count c (joined ps) → ⊥) → ps ≡ []
no_copies [] full none = refl
no_copies ([] ∷ ps) full none = absurd full
no_copies ((c ∷ cs) ∷ ps) full none =
    let here : (c == c) ≡ true = eq-eqb c c refl in absurd (none c (grind (arith, nat_tests, here)))

-- so nothing stands at a place
pub nothing_at : (h : Record) (p : Place) → IsLegal h → NoneLive h → at h p ≡ []
nothing_at h p legal none =
    no_copies (at h p) (full_at h p legal) (λ c l. none c (stands_live h p c (conserved h legal) (stands_there h p c legal l)))

-- where each of some copies is spent none is unspent
none_unspent : (h : Record) (copies : List ℕ) → ((c : ℕ) → 0 < count c copies → 0 < times_spent h c) → unspent_of h copies ≡ false
none_unspent h [] spent = refl
none_unspent h (c ∷ cs) spent =
    let here : (c == c) ≡ true = eq-eqb c c refl in
    let one : 0 < times_spent h c = spent c (grind (arith, nat_tests, here)) in
    let not_none : (times_spent h c == 0) ≡ false = grind (arith, nat_tests, one) in
    ap (λ (b : Bool). b || list_any (λ d. times_spent h d == 0) cs) not_none
    ∙ none_unspent h cs (λ d l. spent d (omega (arith, l)))

-- and what was discarded is spent
pub nothing_owed : (h : Record) (i : ℕ) → IsLegal h → NoneLive h → owes_discards h i ≡ false
nothing_owed h i legal none = none_unspent h (last_discarded h i) each
  where
    each : (c : ℕ) → 0 < count c (last_discarded h i) → 0 < times_spent h c
    each c l = elim (cases_lt 0 (times_spent h c)) [
      | inl some ↦ some
      | inr few ↦
          let held = subst (λ (ps : List (List ℕ)). 0 < count c (joined ps)) (stands_at h (Held i) legal ∙ nothing_at h (Held i) legal none)
          (discarded_held h i c legal l (omega (arith, few))) in
          absurd (omega (arith, held))
    ]
