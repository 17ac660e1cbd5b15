-- What a value put at a path changes, and what blocks a path.
use Rattle.std.proofs.Common.{◌≡◌, ℕ, zero, suc, ◌≤◌, Bool, true, false, not, cond, Option, Some, None, List, [], ◌∷◌, length, take, IsTrue, arith, refl, sym, ◌∙◌, ap, subst}
use Rattle.std.specs.Prelude.{◌||◌}
use Rattle.vx_value.specs.Datum.{Datum, NamedDatum, Null, Truth, Whole, Spelled, Words, Items, Fields, named_of}
use Rattle.vx_value.specs.Texts.{ByteString, same_text}
use Rattle.vx_value.specs.Events.{value_under, value_at, fields_in, is_other, put_at, with_field, blocked_names, one_more, parts, IsBlocked, IsOpen}
use Rattle.vx_value.proofs.Order.{same_text-true, same_text-refl, less_not_same}
use Rattle.vx_value.proofs.Steps.{named_list-named_of, value_at-nil}
use Rattle.vx_value.proofs.With.{ways}

-- the value put under a name is there
pub under-with : (fs : List NamedDatum) (name : ByteString) (d : Datum) → value_under (with_field fs name d) name ≡ Some d
under-with [] name d = rw same_text-refl refl
under-with (f ∷ fs) name d = let later = under-with fs name d in
    ways (λ gs. value_under gs name ≡ Some d) f fs name d (λ less. rw less_not_same later) (λ _ _. rw same_text-refl refl) (λ _ _. rw same_text-refl refl)

-- and under no other
pub under-with-other : (fs : List NamedDatum) (name other : ByteString) (d : Datum) → same_text name other ≡ false → value_under (with_field fs name d) other ≡ value_under fs other
under-with-other [] name other d h = rw h refl
under-with-other (f ∷ fs) name other d h = let later = under-with-other fs name other d h in
    ways (λ gs. value_under gs other ≡ value_under (f ∷ fs) other) f fs name d (λ less. ap (λ r. cond (same_text f.name other) (Some f.value) r) later)
    (λ _ same. rw (same_text-true f.name name same, h) refl) (λ _ _. rw h refl)

-- the value put at a path is there
pub at-put : (fs : List NamedDatum) (p : List ByteString) (d : Datum) → 1 ≤ length p → value_at (put_at fs p d) p ≡ Some d
at-put fs [] d h = absurd (omega arith)
at-put fs (n ∷ []) d h = under-with fs n d
at-put fs (n ∷ m ∷ p) d h =
    ap (λ o. value_at (fields_in o) (m ∷ p)) (under-with fs n (Fields (named_of (put_at (fields_in (value_under fs n)) (m ∷ p) d))))
    ∙ ap (λ gs. value_at gs (m ∷ p)) (named_list-named_of (put_at (fields_in (value_under fs n)) (m ∷ p) d)) ∙ at-put (fields_in (value_under fs n)) (m ∷ p) d (omega arith)

part_first : (b : Bool) → IsTrue (not b || false) → b ≡ false
part_first true h = grind arith
part_first false h = refl

part_next : (b r : Bool) → b ≡ true → IsTrue (not b || r) → IsTrue r
part_next b r e h = grind arith

-- and all that a parting path leads to stays
pub at-put-kept : (fs : List NamedDatum) (p q : List ByteString) (d : Datum) → IsTrue (parts p q) → value_at (put_at fs p d) q ≡ value_at fs q
at-put-kept fs [] q d h = refl
at-put-kept fs (n ∷ p) [] d h = refl
at-put-kept fs (n ∷ []) (m ∷ []) d h = under-with-other fs n m d (part_first (same_text n m) h)
at-put-kept fs (n ∷ []) (m ∷ k ∷ q) d h = ap (λ o. value_at (fields_in o) (k ∷ q)) (under-with-other fs n m d (part_first (same_text n m) h))
at-put-kept fs (n ∷ l ∷ p) (m ∷ []) d h = under-with-other fs n m _ (part_first (same_text n m) h)
at-put-kept fs (n ∷ l ∷ p) (m ∷ k ∷ q) d h = by_name (at-put-kept (fields_in (value_under fs n)) (l ∷ p) (k ∷ q) d) (same_text n m) refl
  where
    inner : List NamedDatum
    inner = put_at (fields_in (value_under fs n)) (l ∷ p) d

    by_name : (IsTrue (parts (l ∷ p) (k ∷ q)) → value_at inner (k ∷ q) ≡ value_at (fields_in (value_under fs n)) (k ∷ q)) → (b : Bool) → same_text n m ≡ b → value_at (fields_in (value_under (with_field fs n (Fields (named_of inner))) m)) (k ∷ q) ≡ value_at (fields_in (value_under fs m)) (k ∷ q)
    by_name kept true e =
        let same : n ≡ m = same_text-true n m e in
        let later : value_at inner (k ∷ q) ≡ value_at (fields_in (value_under fs n)) (k ∷ q) = kept (part_next (same_text n m) (parts (l ∷ p) (k ∷ q)) e h) in
        ap (λ w. value_at (fields_in (value_under (with_field fs n (Fields (named_of inner))) w)) (k ∷ q)) (sym same)
        ∙ ap (λ o. value_at (fields_in o) (k ∷ q)) (under-with fs n (Fields (named_of inner)))
        ∙ ap (λ gs. value_at gs (k ∷ q)) (named_list-named_of inner) ∙ later ∙ ap (λ w. value_at (fields_in (value_under fs w)) (k ∷ q)) same
    by_name kept false e = ap (λ o. value_at (fields_in o) (k ∷ q)) (under-with-other fs n m (Fields (named_of inner)) e)

-- ---- what blocks a path
pub blocked-is : (fs : List NamedDatum) (p : List ByteString) (k : ℕ) → blocked_names fs p ≡ suc k → IsBlocked fs p (suc k)
blocked-is fs [] k e = absurd (omega arith)
blocked-is fs (n ∷ []) k e = absurd (omega arith)
blocked-is fs (n ∷ m ∷ p) k e =
    by_held (is_other (value_under fs n)) (blocked_names (fields_in (value_under fs n)) (m ∷ p)) refl (λ j. blocked-is (fields_in (value_under fs n)) (m ∷ p) j) e
  where
    by_held : (b : Bool) (r : ℕ) → is_other (value_under fs n) ≡ b → ((j : ℕ) → r ≡ suc j → IsBlocked (fields_in (value_under fs n)) (m ∷ p) (suc j)) → cond b 1 (one_more r) ≡ suc k → IsBlocked fs (n ∷ m ∷ p) (suc k)
    by_held true r h later f =
        let z : 0 ≡ k = omega arith in subst (λ i. IsBlocked fs (n ∷ m ∷ p) (suc i)) z (record { within = omega arith; other = h })
    by_held false zero h later f = absurd (omega arith)
    by_held false (suc j) h later f =
        let b : IsBlocked (fields_in (value_under fs n)) (m ∷ p) (suc j) = later j refl in
        let z : suc j ≡ k = omega arith in subst (λ i. IsBlocked fs (n ∷ m ∷ p) (suc i)) z (record { within = omega (arith, b.within); other = b.other })

-- nothing is under no name
at-none : (fs : List NamedDatum) → IsTrue (is_other (value_at fs [])) → ⊥
at-none fs h = grind arith

other-no-fields : (o : Option Datum) → is_other o ≡ true → fields_in o ≡ []
other-no-fields None h = refl
other-no-fields (Some Null) h = refl
other-no-fields (Some (Truth b)) h = refl
other-no-fields (Some (Whole z)) h = refl
other-no-fields (Some (Spelled w)) h = refl
other-no-fields (Some (Words w)) h = refl
other-no-fields (Some (Items ds)) h = refl
other-no-fields (Some (Fields fs)) h = grind arith

nil-not-other : (p : List ByteString) → IsTrue (is_other (value_at [] p)) → ⊥
nil-not-other p h = at-none [] (rw value_at-nil at h)

pub blocked-reports : (fs : List NamedDatum) (p : List ByteString) (k : ℕ) → IsBlocked fs p k → blocked_names fs p ≡ k
blocked-reports fs p zero b = absurd (at-none fs b.other)
blocked-reports fs [] (suc k) b = absurd (omega (arith, b.within))
blocked-reports fs (n ∷ []) (suc k) b = absurd (omega (arith, b.within))
blocked-reports fs (n ∷ m ∷ p) (suc zero) b = let o : is_other (value_under fs n) ≡ true = b.other in rw o refl
blocked-reports fs (n ∷ m ∷ p) (suc (suc k)) b =
    let later : blocked_names (fields_in (value_under fs n)) (m ∷ p) ≡ suc k = blocked-reports (fields_in (value_under fs n)) (m ∷ p) (suc k) (record { within = omega (arith, b.within); other = b.other }) in
    by_held (is_other (value_under fs n)) refl later
  where
    by_held : (c : Bool) → is_other (value_under fs n) ≡ c → blocked_names (fields_in (value_under fs n)) (m ∷ p) ≡ suc k → cond (is_other (value_under fs n)) 1 (one_more (blocked_names (fields_in (value_under fs n)) (m ∷ p))) ≡ suc (suc k)
    by_held true h later =
        absurd (nil-not-other (m ∷ take k p) (let o : IsTrue (is_other (value_at (fields_in (value_under fs n)) (m ∷ take k p))) = b.other in rw (other-no-fields (value_under fs n) h) at o))
    by_held false h later = rw (h, later) refl

pub observed-blocked : (fs : List NamedDatum) (p : List ByteString) (k : ℕ) → k ≡ blocked_names fs p → (k ≡ 0 → ⊥) → IsBlocked fs p k
observed-blocked fs p zero e h = absurd (h refl)
observed-blocked fs p (suc k) e h = blocked-is fs p k (sym e)

pub observed-open : (fs : List NamedDatum) (p : List ByteString) → 0 ≡ blocked_names fs p → IsOpen fs p
observed-open fs p e zero b = at-none fs b.other
observed-open fs p e (suc n) b = absurd (omega (arith, e, blocked-reports fs p (suc n) b))
