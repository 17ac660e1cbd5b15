-- A field that is put among others whose names rise.
use Rattle.std.proofs.Common.{◌≡◌, ℕ, zero, suc, ◌+◌, true, Some, None, List, [], ◌∷◌, ◌++◌, length, refl, sym, ◌∙◌, ap, arith}
use Rattle.std.proofs.lemmas.List.{append-nil}
use Rattle.std.specs.List.{slice_get}
use Rattle.std.specs.Ordering.{is_lt}
use Rattle.vx_value.specs.Texts.{ByteString, text_lt}
use Rattle.vx_value.specs.Datum.{Datum, NamedDatum}
use Rattle.vx_value.specs.Events.{with_field, value_under, names_rise, last_below}
use Rattle.vx_value.specs.Orders.{text_cmp}
use Rattle.vx_value.proofs.Order.{text_lt-trans, less_not_same, answer_less}
use Rattle.vx_json.specs.Puts.{last_order}
use Rattle.vx_json.proofs.Choices.{both_true, and_true}

-- the field of a name and a value
abbrev pub field : ByteString → Datum → NamedDatum
field name v = record { name = name; value = v }

-- ---- the last name
pub last_order-get : (xs : List NamedDatum) (f : NamedDatum) (name : ByteString) (i : ℕ) → i + 1 ≡ length xs → slice_get xs i ≡ Some f → last_order xs name ≡ text_cmp f.name name
last_order-get [] f name i e h = absurd (omega arith)
last_order-get (x ∷ []) f name zero e h = ap (λ (g : NamedDatum). text_cmp g.name name) (some_same x f h)
  where
    some_same : (x f : NamedDatum) → Some x ≡ Some f → x ≡ f
    some_same x f h = cc
last_order-get (x ∷ []) f name (suc i) e h = absurd (omega arith)
last_order-get (x ∷ y ∷ xs) f name zero e h = absurd (omega arith)
last_order-get (x ∷ y ∷ xs) f name (suc i) e h = last_order-get (y ∷ xs) f name i (omega arith) h

-- a name behind the last one
pub below : (xs : List NamedDatum) (name : ByteString) → is_lt (last_order xs name) ≡ true → last_below xs name ≡ true
below [] name h = refl
below (f ∷ []) name h = sym (answer_less f.name name (text_cmp f.name name) refl) ∙ h
below (f ∷ g ∷ fs) name h = below (g ∷ fs) name h

-- ---- fields before and behind
rise-rest : (f : NamedDatum) (fs : List NamedDatum) → names_rise (f ∷ fs) ≡ true → names_rise fs ≡ true
rise-rest f [] h = refl
rise-rest f (g ∷ fs) h = (both_true (text_lt f.name g.name) (names_rise (g ∷ fs)) h).1

-- where the last name comes before another each does
first-below : (f : NamedDatum) (fs : List NamedDatum) (name : ByteString) → names_rise (f ∷ fs) ≡ true → last_below (f ∷ fs) name ≡ true → text_lt f.name name ≡ true
first-below f [] name r h = h
first-below f (g ∷ fs) name r h =
    let k = both_true (text_lt f.name g.name) (names_rise (g ∷ fs)) r in text_lt-trans f.name g.name name k.0 (first-below g fs name k.1 h)

last-rest : (f : NamedDatum) (fs : List NamedDatum) (name : ByteString) → last_below (f ∷ fs) name ≡ true → last_below fs name ≡ true
last-rest f [] name h = refl
last-rest f (g ∷ fs) name h = h

-- so the value comes behind them
pub with-below : (xs back : List NamedDatum) (name : ByteString) (v : Datum) → names_rise xs ≡ true → last_below xs name ≡ true → with_field (xs ++ back) name v ≡ xs ++ with_field back name v
with-below [] back name v r h = refl
with-below (f ∷ fs) back name v r h =
    rw (first-below f fs name r h) (ap (λ q. f ∷ q) (with-below fs back name v (rise-rest f fs r) (last-rest f fs name h)))

-- a name that has its place is the last below what follows
pub last-below-next : (xs : List NamedDatum) (f : NamedDatum) (ys : List NamedDatum) → names_rise (xs ++ f ∷ ys) ≡ true → last_below xs f.name ≡ true
last-below-next [] f ys r = refl
last-below-next (x ∷ []) f ys r = (both_true (text_lt x.name f.name) (names_rise (f ∷ ys)) r).0
last-below-next (x ∷ y ∷ xs) f ys r = last-below-next (y ∷ xs) f ys (both_true (text_lt x.name y.name) (names_rise (y ∷ xs ++ f ∷ ys)) r).1

pub rise-front : (xs ys : List NamedDatum) → names_rise (xs ++ ys) ≡ true → names_rise xs ≡ true
rise-front [] ys r = refl
rise-front (x ∷ []) ys r = refl
rise-front (x ∷ y ∷ xs) ys r = let k = both_true (text_lt x.name y.name) (names_rise (y ∷ xs ++ ys)) r in and_true _ _ k.0 (rise-front (y ∷ xs) ys k.1)

-- no field has the name
pub with-last : (xs : List NamedDatum) (name : ByteString) (v : Datum) → names_rise xs ≡ true → last_below xs name ≡ true → with_field xs name v ≡ xs ++ field name v ∷ []
with-last xs name v r h = ap (λ q. with_field q name v) (sym (append-nil xs)) ∙ with-below xs [] name v r h

-- nothing stands under a name behind all others
pub none-last : (xs : List NamedDatum) (name : ByteString) → names_rise xs ≡ true → last_below xs name ≡ true → value_under xs name ≡ None
none-last [] name r h = refl
none-last (f ∷ fs) name r h =
    rw (less_not_same f.name name (first-below f fs name r h)) (none-last fs name (rise-rest f fs r) (last-rest f fs name h))
