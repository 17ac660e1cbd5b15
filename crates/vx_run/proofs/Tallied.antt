-- What several instances counted.
use Rattle.std.proofs.Common.{◌≡◌, ◌∙◌, ℕ, zero, suc, ◌+◌, List, [], ◌∷◌, ◌++◌, sym, ap, arith, map, add-one}
use Rattle.std.proofs.lemmas.List.{map-append}
use Rattle.vx_record.specs.Copies.{counting}
use Rattle.vx_record.specs.Records.{Record}
use Rattle.vx_record.specs.Tallies.{tally}
use Rattle.vx_record.specs.declared.tally.Tally.{Tally}
use Rattle.vx_record.specs.TallyLists.{tallies_of}

pub counting_last : (from n : ℕ) → counting from (n + 1) ≡ counting from n ++ (from + n) ∷ []
counting_last from zero = ap (λ m. m ∷ []) (omega arith)
counting_last from (suc n) =
    let more : counting (from + 1) (suc n) ≡ counting (from + 1) n ++ (from + 1 + n) ∷ [] = ap (counting (from + 1)) (sym (add-one n)) ∙ counting_last (from + 1) n in
    let same : from + 1 + n ≡ from + suc n = omega arith in
    ap (counting from) (add-one (suc n)) ∙ (ap (λ ns. from ∷ ns) (more ∙ ap (λ m. counting (from + 1) n ++ m ∷ []) same))

tallies_more : (h : Record) (k : ℕ) → tallies_of h (k + 1) ≡ tallies_of h k ++ tally h k ∷ []
tallies_more h k =
    ap (map (tally h)) (counting_last 0 k) ∙ map-append (tally h) (counting 0 k) ((0 + k) ∷ [])
    ∙ ap (λ m. map (tally h) (counting 0 k) ++ tally h m ∷ []) (omega arith)

-- one more instance is counted
pub counted_more : (h : Record) (k : ℕ) (before after : List Tally) (t : Tally) → after ≡ before ++ t ∷ [] → before ≡ tallies_of h k → t ≡ tally h k → after ≡ tallies_of h (k + 1)
counted_more h k before after t is counted last =
    is ∙ ap (λ (ts : List Tally). ts ++ t ∷ []) counted ∙ ap (λ (one : Tally). tallies_of h k ++ one ∷ []) last ∙ sym (tallies_more h k)
