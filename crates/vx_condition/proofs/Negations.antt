-- A term behind several `!`.
use Rattle.std.proofs.Common.{◌≡◌, ℕ, zero, suc, ◌%◌, ◌<◌, Bool, true, false, not, List, refl, ap, sym, ◌∙◌, nat_eq, arith}
use mathlib.Core.Bool.{beq}
use Rattle.std.proofs.Math.Nat.{suc-mod}
use Rattle.vx_value.specs.Datum.{NamedDatum}
use Rattle.vx_condition.specs.Trees.{Term, negated_times}
use Rattle.vx_condition.specs.Meaning.{term_holds, is_free_term}

pub negations-free : (n : ℕ) (t : Term) → is_free_term (negated_times n t) ≡ is_free_term t
negations-free zero t = refl
negations-free (suc n) t = negations-free n t

-- one `!` more turns whether there is an odd number of them
odd_turns : (n : ℕ) → nat_eq (suc n % 2) 1 ≡ not (nat_eq (n % 2) 1)
odd_turns n = ap (λ m. nat_eq m 1) (suc-mod n 2) ∙ below_two (n % 2) (omega arith)
  where
    below_two : (m : ℕ) → m < 2 → nat_eq (suc m % 2) 1 ≡ not (nat_eq m 1)
    below_two zero h = refl
    below_two (suc zero) h = refl
    below_two (suc (suc m)) h = absurd (omega arith)

turned : (a b : Bool) → not (not (beq a b)) ≡ not (beq a (not b))
turned true true = refl
turned true false = refl
turned false true = refl
turned false false = refl

plain : (a : Bool) → not (beq a false) ≡ a
plain true = refl
plain false = refl

pub negations-hold : (n : ℕ) (t : Term) (fields : List NamedDatum) → not (beq (term_holds t fields) (nat_eq (n % 2) 1)) ≡ term_holds (negated_times n t) fields
negations-hold zero t fields = plain (term_holds t fields)
negations-hold (suc n) t fields =
    ap (λ b. not (beq (term_holds t fields) b)) (odd_turns n)
    ∙ sym (turned (term_holds t fields) (nat_eq (n % 2) 1))
    ∙ ap not (negations-hold n t fields)
