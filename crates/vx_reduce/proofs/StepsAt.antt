-- Searches among strategies and paths, place by place.
use Rattle.std.proofs.Common.{◌≡◌, ℕ, zero, suc, ◌+◌, ◌<◌, Bool, true, false, cond, Option, Some, None, List, [], ◌∷◌, length, drop, get_or, add-one, arith, refl, sym, ◌∙◌, ap, subst}
use Rattle.std.specs.Prelude.{◌||◌}
use Rattle.vx_value.specs.Texts.{ByteString, same_text}
use Rattle.vx_condition.specs.Merging.{strategy_of, is_grouping, is_first_of}
use Rattle.vx_condition.specs.declared.strategy.Strategy.{Strategy}
use Rattle.vx_condition.specs.declared.how.How.{How}

-- the strategy at a place decides, or those behind it do
strategy_at-suc : (xs : List Strategy) (name : ByteString) (i : ℕ) (x : Strategy) → i < length xs → x ≡ get_or xs i x → strategy_of (drop i xs) name ≡ cond (same_text x.field name) (Some x.how) (strategy_of (drop (suc i) xs) name)
strategy_at-suc [] name i x h e = absurd (omega arith)
strategy_at-suc (y ∷ xs) name zero x h e = rw e refl
strategy_at-suc (y ∷ xs) name (suc i) x h e = strategy_at-suc xs name i x (omega arith) e

pub strategy_at : (xs : List Strategy) (name : ByteString) (i : ℕ) (x : Strategy) (b : Bool) → i < length xs → x ≡ get_or xs i x → same_text x.field name ≡ b →
    strategy_of (drop i xs) name ≡ cond b (Some x.how) (strategy_of (drop (i + 1) xs) name)
strategy_at xs name i x b h e same = rw add-one (strategy_at-suc xs name i x h e ∙ ap (λ c. cond c (Some x.how) (strategy_of (drop (suc i) xs) name)) same)

grouping_at-suc : (xs : List (List ByteString)) (name : ByteString) (i : ℕ) (x : List ByteString) → i < length xs → x ≡ get_or xs i x → is_grouping (drop i xs) name ≡ (is_first_of name x || is_grouping (drop (suc i) xs) name)
grouping_at-suc [] name i x h e = absurd (omega arith)
grouping_at-suc (y ∷ xs) name zero x h e = rw e refl
grouping_at-suc (y ∷ xs) name (suc i) x h e = grouping_at-suc xs name i x (omega arith) e

-- the first name of a path
first_name : (x : List ByteString) (w : ByteString) (name : ByteString) (b : Bool) → 0 < length x → w ≡ get_or x 0 w → same_text w name ≡ b → is_first_of name x ≡ b
first_name [] w name b h e k = absurd (omega arith)
first_name (y ∷ x) w name b h e k = ap (λ v. same_text v name) (sym e) ∙ k

-- so the first name of the path at a place decides, or those behind it do
pub grouping_at : (xs : List (List ByteString)) (name w : ByteString) (i : ℕ) (x : List ByteString) (b : Bool) → i < length xs → x ≡ get_or xs i x → 0 < length x → w ≡ get_or x 0 w →
    same_text w name ≡ b → is_grouping (drop i xs) name ≡ (b || is_grouping (drop (i + 1) xs) name)
grouping_at xs name w i x b h e some at same =
    rw add-one (grouping_at-suc xs name i x h e ∙ ap (λ c. c || is_grouping (drop (suc i) xs) name) (first_name x w name b some at same))
