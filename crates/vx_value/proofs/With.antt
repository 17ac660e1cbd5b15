-- Fields with one value more.
use Rattle.std.proofs.Common.{◌≡◌, max, Bool, true, false, List, [], ◌∷◌, IsTrue, arith, refl, sym, ap}
use Rattle.vx_value.specs.Datum.{Datum, NamedDatum, depth, named_depth, named_of}
use Rattle.vx_value.specs.Texts.{ByteString, same_text, text_lt}
use Rattle.vx_value.specs.Events.{others_depth, with_field, names_rise}
use Rattle.vx_value.proofs.Order.{less_not_same, less_or, same_text-true}
use Rattle.vx_value.proofs.Depths.{others_depth-past}

-- what is true by each of the three ways in which a field stands to a name
pub ways : (P : List NamedDatum → Type 0) (f : NamedDatum) (fs : List NamedDatum) (name : ByteString) (value : Datum) → (text_lt f.name name ≡ true → P (f ∷ with_field fs name value)) → (text_lt f.name name ≡ false → same_text f.name name ≡ true → P (record { name = name; value = value } ∷ fs)) → (text_lt f.name name ≡ false → same_text f.name name ≡ false → P (record { name = name; value = value } ∷ f ∷ fs)) → P (with_field (f ∷ fs) name value)
ways P f fs name value less same more = by_order (text_lt f.name name) (same_text f.name name) refl refl
  where
    by_order : (b s : Bool) → text_lt f.name name ≡ b → same_text f.name name ≡ s → P (with_field (f ∷ fs) name value)
    by_order true s h k = rw h (less h)
    by_order false true h k = rw (h, k) (same h k)
    by_order false false h k = rw (h, k) (more h k)

-- the depth of fields with a value under a name
pub with_depth : (fs : List NamedDatum) (name : ByteString) (value : Datum) → IsTrue (names_rise fs) → named_depth (named_of (with_field fs name value)) ≡ max (depth value) (others_depth fs name)
with_depth [] name value rise = omega arith
with_depth (f ∷ fs) name value rise = let later = with_depth fs name value in
    ways (λ gs. named_depth (named_of gs) ≡ max (depth value) (others_depth (f ∷ fs) name)) f fs name value
    (λ less. rw (less_not_same f.name name less, later (tail f fs rise)) (omega arith))
    (λ not_less same. rw same (same_depth f fs (same_text-true f.name name same) rise))
    (λ not_less other. ap (λ n. max (depth value) n) (sym (others_depth-past f fs name (less_or f.name name not_less other) rise)))
  where
    tail : (f : NamedDatum) (fs : List NamedDatum) → IsTrue (names_rise (f ∷ fs)) → IsTrue (names_rise fs)
    tail f [] r = r
    tail f (g ∷ gs) r = grind arith

    same_depth : (f : NamedDatum) (fs : List NamedDatum) → f.name ≡ name → IsTrue (names_rise (f ∷ fs)) → max (depth value) (named_depth (named_of fs)) ≡ max (depth value) (others_depth fs name)
    same_depth f [] e r = refl
    same_depth f (g ∷ gs) e r =
        let less : text_lt f.name g.name ≡ true = grind arith in
        let rest : IsTrue (names_rise (g ∷ gs)) = grind arith in
        ap (λ n. max (depth value) n) (sym (others_depth-past g gs name (rw e at less) rest))

-- the first name of fields with a value under a name
abbrev first_after : ByteString → List NamedDatum → Bool
first_after low [] = true
first_after low (f ∷ fs) = text_lt low f.name

after_first : (low : ByteString) (fs : List NamedDatum) (name : ByteString) (value : Datum) → text_lt low name ≡ true → first_after low fs ≡ true → first_after low (with_field fs name value) ≡ true
after_first low [] name value h k = h
after_first low (f ∷ fs) name value h k =
    ways (λ gs. first_after low gs ≡ true) f fs name value (λ _. k) (λ _ _. h) (λ _ _. h)

rise-cons : (f : NamedDatum) (fs : List NamedDatum) → first_after f.name fs ≡ true → IsTrue (names_rise fs) → IsTrue (names_rise (f ∷ fs))
rise-cons f [] h r = grind arith
rise-cons f (g ∷ fs) h r = grind arith

rise-head : (f : NamedDatum) (fs : List NamedDatum) → IsTrue (names_rise (f ∷ fs)) → first_after f.name fs ≡ true
rise-head f [] r = refl
rise-head f (g ∷ fs) r = grind arith

rise-tail : (f : NamedDatum) (fs : List NamedDatum) → IsTrue (names_rise (f ∷ fs)) → IsTrue (names_rise fs)
rise-tail f [] r = r
rise-tail f (g ∷ gs) r = grind arith

-- fields with a value under a name keep their names rising
pub names_rise-with : (fs : List NamedDatum) (name : ByteString) (value : Datum) → IsTrue (names_rise fs) → IsTrue (names_rise (with_field fs name value))
names_rise-with [] name value rise = rise
names_rise-with (f ∷ fs) name value rise = let later = names_rise-with fs name value (rise-tail f fs rise) in
    ways (λ gs. IsTrue (names_rise gs)) f fs name value
    (λ less. rise-cons f (with_field fs name value) (after_first f.name fs name value less (rise-head f fs rise)) later)
    (λ not_less same. rise-cons (record { name = name; value = value }) fs (rw (same_text-true f.name name same) at (rise-head f fs rise)) (rise-tail f fs rise))
    (λ not_less other. rise-cons (record { name = name; value = value }) (f ∷ fs) (less_or f.name name not_less other) rise)
