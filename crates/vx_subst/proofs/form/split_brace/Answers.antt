use Rattle.std.proofs.Common.{◌≡◌, ◌<◌, ◌++◌, ◌∷◌, ℕ, List, length, true, false, Option, None, Some, nat_lt, MatchOption, lit<, arith, Bor}
use Rattle.std.proofs.lemmas.Bool.Decides.{nat_tests}
use Rattle.std.proofs.lemmas.Str.Pattern.{split_once_first, split_parts}
use Rattle.std.specs.List.{position_or_len, before_first, after_first}
use Rattle.vx_subst.specs.Pieces.{is_end_brace}
use Rattle.vx_subst.proofs.form.split_brace.Goals as goal

abbrev Parts : Type 0
Parts = Bor (List ℕ) × Bor (List ℕ)

tested : (text : List ℕ) (r : Option Parts)
    → MatchOption r (position_or_len is_end_brace text ≡ length text)
    (λ x. (position_or_len is_end_brace text < length text) × (x.0.now ≡ before_first is_end_brace text) × (x.1.now ≡ after_first is_end_brace text))
    → MatchOption r (nat_lt (position_or_len is_end_brace text) (length text) ≡ false)
    (λ _. nat_lt (position_or_len is_end_brace text) (length text) ≡ true)
tested text None h = grind (arith, nat_tests)
tested text (Some x) h = let lt = h.0 in grind (arith, nat_tests)

parted : (text : List ℕ) (r : Option Parts)
    → MatchOption r (position_or_len is_end_brace text ≡ length text)
    (λ x. (position_or_len is_end_brace text < length text) × (x.0.now ≡ before_first is_end_brace text) × (x.1.now ≡ after_first is_end_brace text))
    → MatchOption r (Unit {0}) (λ x. text ≡ x.0.now ++ 125 ∷ x.1.now)
    → MatchOption r (Unit {0}) (λ x. (x.0.now ≡ before_first is_end_brace text) × (text ≡ x.0.now ++ 125 ∷ x.1.now))
parted text None h g = tt
parted text (Some x) h g = (h.1, g)

halves : (text : List ℕ) (r : Option Parts) (P : Type 0) (Q : Parts → Type 0)
    → MatchOption r P (λ x. (text ≡ x.0.now ++ (125 ∷ x.1.now)) × Q x)
    → MatchOption r (Unit {0}) (λ x. text ≡ x.0.now ++ 125 ∷ x.1.now)
halves text None P Q h = tt
halves text (Some x) P Q h = h.0

pub returns-clause-none : goal.returns-clause-none
returns-clause-none c =
    tested c.args.text.now c.split_once.result
    (split_once_first 125 c.args.text.now c.split_once.result c.split_once.ensures.cases (lit< tt))

pub returns-clause-some : goal.returns-clause-some
returns-clause-some c =
    let text = c.args.text.now in
    let r = c.split_once.result in
    parted text r (split_once_first 125 text r c.split_once.ensures.cases (lit< tt))
    (halves text r _ _ (split_parts 125 text r c.split_once.ensures.cases (lit< tt)))
