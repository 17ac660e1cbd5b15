-- Where no batch is open, nothing is left.
use Rattle.std.proofs.Common.{◌≡◌, ℕ, ◌+◌, ◌<◌, Bool, true, false, List, [], ◌∷◌, ◌++◌, refl, sym, ap, ◌∙◌, subst, arith, inl, inr}
use Rattle.std.specs.Prelude.{◌==◌, if◌then◌else◌}
use Rattle.std.proofs.lemmas.Bool.Decides.{nat_tests}
use Rattle.std.proofs.lemmas.Bool.{cases_eq}
use Rattle.vx_ledger.specs.Ledger.{live_count}
use Rattle.vx_record.specs.Records.{Record}
use Rattle.vx_record.specs.declared.entry.Entry.TheVariants.{Born}
use Rattle.vx_record.specs.Copies.{count}
use Rattle.vx_record.specs.Batches.{batch_of, batches}
use Rattle.vx_record.specs.Confirms.{is_noticed}
use Rattle.vx_balance.specs.Births.{Batch, born, without_notice, batches_in}
use Rattle.vx_balance.specs.Promises.{SettledCloses}
use Rattle.vx_balance.proofs.Lives.{live_none}

abbrev times_among : ℕ → List Batch → ℕ
times_among b [] = 0
times_among b (x ∷ xs) = (if x.number == b then 1 else 0) + times_among b xs

times_more : (b : ℕ) (xs : List Batch) (x : Batch) → times_among b (xs ++ x ∷ []) ≡ (if x.number == b then 1 else 0) + times_among b xs
times_more b [] x = refl
times_more b (y ∷ ys) x = let rest = times_more b ys x in omega (arith, rest)

times_born : (h : Record) (b : ℕ) → count b (batches h) ≡ times_among b (born h)
times_born [] b = refl
times_born (Born i b' place copies events waits stream end ∷ h) b =
    let rest = times_born h b in
    let more = times_more b (born h) (record { number = b'; creator = i }) in
    omega (arith, rest, more)
times_born (e ∷ h) b = times_born h b

all_noticed : (h : Record) (b : ℕ) (xs : List Batch) → without_notice h xs ≡ [] → 0 < times_among b xs → is_noticed h b ≡ true
all_noticed h b [] none some = absurd (omega (arith, some))
all_noticed h b (x ∷ xs) none some = go (is_noticed h x.number) refl none (all_noticed h b xs)
  where
    go : (t : Bool) → is_noticed h x.number ≡ t → (if t then without_notice h xs else x ∷ without_notice h xs) ≡ [] → (without_notice h xs ≡ [] → 0 < times_among b xs → is_noticed h b ≡ true) → is_noticed h b ≡ true
    go false e none ih = cc
    go true e none ih =
        elim (cases_eq x.number b) [
          | inl same ↦ ap (is_noticed h) (sym same) ∙ e
          | inr other ↦ let rest : 0 < times_among b xs = grind (arith, nat_tests, some, other) in ih none rest
        ]

pub settled_closes : SettledCloses
settled_closes account h was none = (
  (λ c live.
      let b = batch_of h c in
      let empty = sym (was.live b) ∙ ap (live_count b b) none in
      (live_none h b).0 empty c refl live),
  (λ b some. all_noticed h b (born h) (sym was.opens ∙ ap batches_in none) (subst (λ n. 0 < n) (times_born h b) some)),
)
