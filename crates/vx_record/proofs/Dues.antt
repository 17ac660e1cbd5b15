-- Whose notice is due, said of each copy.
use Rattle.std.proofs.Common.{◌≡◌, ℕ, zero, suc, ◌+◌, ◌<◌, ◌≤◌, Bool, true, false, ◌∷◌, refl, sym, ap, ◌∙◌, subst, arith, inl, inr}
use Rattle.std.specs.Prelude.{◌==◌, ◌&&◌, ◌⊎◌, not}
use Rattle.std.specs.List.{list_any}
use Rattle.std.proofs.lemmas.Bool.{cases_lt, and_parts, and_from, or_parts, or_from, not-true, eqb-true, eq-eqb}
use Rattle.vx_record.specs.Records.{Record}
use Rattle.vx_record.specs.declared.entry.Entry.TheVariants.{Spent}
use Rattle.vx_record.specs.Copies.{counting, next_copy, times_split, times_spent, IsLive}
use Rattle.vx_record.specs.Batches.{batch_of, is_live_of, has_live, is_notice_due, awaits_notice}

-- every copy of the batch was split or spent
abbrev pub NoneLive : Record → ℕ → Type 0
NoneLive h b = (c : ℕ) → batch_of h c ≡ b → IsLive h c → ⊥

-- the newest entry spent the last live copy of the batch
abbrev pub Awaits : Record → ℕ → Type 0
Awaits (Spent i c outcome ∷ h) b = (batch_of h c ≡ b) × NoneLive (Spent i c outcome ∷ h) b
Awaits h b = ⊥

-- NUMBERS IN A ROW
-- a test that passes for none of them fails for each
none_counting : (test : ℕ → Bool) (from n c : ℕ) → list_any test (counting from n) ≡ false → from ≤ c → c < from + n → test c ≡ false
none_counting test from zero c none low high = absurd (omega (arith, low, high))
none_counting test from (suc n) c none low high =
    let parts = or_parts (test from) (list_any test (counting (from + 1) n)) none in
    go parts.0 (cases_lt from c) (none_counting test (from + 1) n c parts.1)
  where
    go : test from ≡ false → (from < c) ⊎ (c ≤ from) → (from + 1 ≤ c → c < (from + 1) + n → test c ≡ false) → test c ≡ false
    go first (inl below) rest = rest (omega (arith, below)) (omega (arith, high))
    go first (inr above) rest = let same : from ≡ c = omega (arith, low, above) in subst (λ (k : ℕ). test k ≡ false) same first

-- and one that fails for each passes for none
each_counting : (test : ℕ → Bool) (from n : ℕ) → ((c : ℕ) → from ≤ c → c < from + n → test c ≡ false) → list_any test (counting from n) ≡ false
each_counting test from zero each = refl
each_counting test from (suc n) each =
    or_from (test from) (list_any test (counting (from + 1) n)) (each from (omega arith) (omega arith))
    (each_counting test (from + 1) n (λ c low high. each c (omega (arith, low)) (omega (arith, high))))

-- COPIES
pub none_live : (h : Record) (b : ℕ) → has_live h b ≡ false → NoneLive h b
none_live h b none c same live =
    let off = none_counting (is_live_of h b) 0 (next_copy h) c none (omega arith) (omega (arith, live.0)) in
    let on = and_from ((batch_of h c == b) && (times_split h c == 0)) (times_spent h c == 0)
    (and_from (batch_of h c == b) (times_split h c == 0) (eq-eqb (batch_of h c) b same) (eq-eqb (times_split h c) 0 live.1)) (eq-eqb (times_spent h c) 0 live.2) in
    let no : true ≡ false = sym on ∙ off in cc

pub has_none_live : (h : Record) (b : ℕ) → NoneLive h b → has_live h b ≡ false
has_none_live h b none = each_counting (is_live_of h b) 0 (next_copy h) (λ c low high. go c high (is_live_of h b c) refl)
  where
    go : (c : ℕ) → c < 0 + next_copy h → (t : Bool) → is_live_of h b c ≡ t → t ≡ false
    go c high true is =
        let all = and_parts ((batch_of h c == b) && (times_split h c == 0)) (times_spent h c == 0) is in
        let two = and_parts (batch_of h c == b) (times_split h c == 0) all.0 in
        absurd (none c (eqb-true (batch_of h c) b two.0) (omega (arith, high), eqb-true (times_split h c) 0 two.1, eqb-true (times_spent h c) 0 all.1))
    go c high false is = refl

-- NOTICES
pub awaits : (h : Record) (b : ℕ) → awaits_notice h b ≡ true → Awaits h b
awaits (Spent i c outcome ∷ h) b is =
    let parts = and_parts (batch_of h c == b) (not (has_live (Spent i c outcome ∷ h) b)) is in
    (eqb-true (batch_of h c) b parts.0, none_live (Spent i c outcome ∷ h) b (not-true (has_live (Spent i c outcome ∷ h) b) parts.1))
awaits h b is = cc

pub awaits_so : (h : Record) (b : ℕ) → Awaits h b → awaits_notice h b ≡ true
awaits_so (Spent i c outcome ∷ h) b due =
    and_from (batch_of h c == b) (not (has_live (Spent i c outcome ∷ h) b))
    (eq-eqb (batch_of h c) b due.0) (ap not (has_none_live (Spent i c outcome ∷ h) b due.1))
awaits_so h b due = absurd due

pub awaits_not : (h : Record) (b : ℕ) → awaits_notice h b ≡ false → Awaits h b → ⊥
awaits_not h b none due = let no : true ≡ false = sym (awaits_so h b due) ∙ none in cc

-- where no notice is due, no batch waits for one
pub undue : (h : Record) → is_notice_due h ≡ false → (b : ℕ) → Awaits h b → ⊥
undue (Spent i c outcome ∷ h) none b due =
    let last : NoneLive (Spent i c outcome ∷ h) (batch_of h c) = subst (NoneLive (Spent i c outcome ∷ h)) (sym due.0) due.1 in
    let no : true ≡ false = sym (ap not (has_none_live (Spent i c outcome ∷ h) (batch_of h c) last)) ∙ none in cc
undue h none b due = absurd due

-- and where no batch waits for one, none is due
pub undue_so : (h : Record) → ((b : ℕ) → Awaits h b → ⊥) → is_notice_due h ≡ false
undue_so (Spent i c outcome ∷ h) none = go (has_live (Spent i c outcome ∷ h) (batch_of h c)) refl
  where
    go : (t : Bool) → has_live (Spent i c outcome ∷ h) (batch_of h c) ≡ t → not t ≡ false
    go true is = refl
    go false is = absurd (none (batch_of h c) (refl, none_live (Spent i c outcome ∷ h) (batch_of h c) is))
undue_so h none = refl
