-- The depth of lists, value by value.
use Rattle.std.proofs.Common.{◌≡◌, ℕ, zero, suc, max, ◌+◌, ◌<◌, ◌≤◌, Bool, true, false, cond, List, [], ◌∷◌, length, take, get_or, map, IsTrue, arith, refl, sym, ◌∙◌, ap, add-one}
use Rattle.vx_value.specs.declared.field.Field.{Field}
use Rattle.vx_value.specs.declared.value.Value.{Value}
use Rattle.vx_value.specs.Datum.{NamedDatum, depth, data_depth, data_of, named_depth, named_of}
use Rattle.vx_value.specs.Texts.{ByteString, same_text, text_lt}
use Rattle.vx_value.specs.Values.{datum_of, named_datum}
use Rattle.vx_value.specs.Events.{others_depth, names_rise}
use Rattle.vx_value.proofs.Order.{less_not_same', text_lt-trans}

-- no value is deeper than its list
pub data_depth-bound : (xs : List Value) (i : ℕ) (x : Value) → i < length xs → x ≡ get_or xs i x → depth (datum_of x) ≤ data_depth (data_of (map datum_of xs))
data_depth-bound [] i x h e = omega arith
data_depth-bound (y ∷ xs) zero x h e = rw e (omega arith)
data_depth-bound (y ∷ xs) (suc i) x h e = let b = data_depth-bound xs i x (omega arith) e in omega arith

pub named_depth-bound : (fs : List Field) (i : ℕ) (f : Field) → i < length fs → f ≡ get_or fs i f → depth (datum_of f.value) ≤ named_depth (named_of (map named_datum fs))
named_depth-bound [] i f h e = omega arith
named_depth-bound (g ∷ fs) zero f h e = rw e (omega arith)
named_depth-bound (g ∷ fs) (suc i) f h e = let b = named_depth-bound fs i f (omega arith) e in omega arith

grown : (b : Bool) (d low n : ℕ) → n ≤ low → n ≤ cond b low (max d low)
grown true d low n h = h
grown false d low n h = omega arith

pub others_depth-bound : (fs : List Field) (i : ℕ) (f : Field) (name : ByteString) → i < length fs → f ≡ get_or fs i f → same_text f.name name ≡ false → depth (datum_of f.value) ≤ others_depth (map named_datum fs) name
others_depth-bound [] i f name h e other = omega arith
others_depth-bound (g ∷ fs) zero f name h e other =
    let o : same_text g.name name ≡ false = ap (λ k. same_text k.name name) (sym e) ∙ other in rw (e, o) (omega arith)
others_depth-bound (g ∷ fs) (suc i) f name h e other =
    grown (same_text g.name name) (depth (datum_of g.value)) (others_depth (map named_datum fs) name) (depth (datum_of f.value)) (others_depth-bound fs i f name (omega arith) e other)

-- one value more
pub data_depth-more : (xs : List Value) (i : ℕ) (x : Value) (n : ℕ) → i < length xs → x ≡ get_or xs i x → data_depth (data_of (map datum_of (take i xs))) ≤ n → depth (datum_of x) ≤ n → data_depth (data_of (map datum_of (take (i + 1) xs))) ≤ n
data_depth-more [] i x n h e low this = omega arith
data_depth-more (y ∷ xs) zero x n h e low this = let t : depth (datum_of y) ≤ n = (rw e at this) in omega arith
data_depth-more (y ∷ xs) (suc i) x n h e low this =
    let m : data_depth (data_of (map datum_of (take (i + 1) xs))) ≤ n = data_depth-more xs i x n (omega arith) e (omega arith) this in
    let m' : data_depth (data_of (map datum_of (take (suc i) xs))) ≤ n = (rw add-one at m) in rw add-one (omega arith)

pub named_depth-more : (fs : List Field) (i : ℕ) (f : Field) (n : ℕ) → i < length fs → f ≡ get_or fs i f → named_depth (named_of (map named_datum (take i fs))) ≤ n → depth (datum_of f.value) ≤ n → named_depth (named_of (map named_datum (take (i + 1) fs))) ≤ n
named_depth-more [] i f n h e low this = omega arith
named_depth-more (g ∷ fs) zero f n h e low this = let t : depth (datum_of g.value) ≤ n = (rw e at this) in omega arith
named_depth-more (g ∷ fs) (suc i) f n h e low this =
    let m : named_depth (named_of (map named_datum (take (i + 1) fs))) ≤ n = named_depth-more fs i f n (omega arith) e (omega arith) this in
    let m' : named_depth (named_of (map named_datum (take (suc i) fs))) ≤ n = (rw add-one at m) in rw add-one (omega arith)

-- what a list without one more value at most has, it has with that value too, if that one isn't deeper or has the name
pub others_depth-more : (fs : List Field) (i : ℕ) (f : Field) (name : ByteString) (n : ℕ) → i < length fs → f ≡ get_or fs i f → others_depth (map named_datum (take i fs)) name ≤ n → (same_text f.name name ≡ false → depth (datum_of f.value) ≤ n) → others_depth (map named_datum (take (i + 1) fs)) name ≤ n
others_depth-more [] i f name n h e low this = omega arith
others_depth-more (g ∷ fs) zero f name n h e low this = first (same_text g.name name) refl
  where
    first : (b : Bool) → same_text g.name name ≡ b → cond (same_text g.name name) 0 (max (depth (datum_of g.value)) 0) ≤ n
    first true k = rw k (omega arith)
    first false k =
        let t : depth (datum_of f.value) ≤ n = this (ap (λ w. same_text w.name name) e ∙ k) in let t' : depth (datum_of g.value) ≤ n = (rw e at t) in rw k (omega arith)
others_depth-more (g ∷ fs) (suc i) f name n h e low this =
    rw add-one (step (same_text g.name name) refl (λ k. rw add-one at (others_depth-more fs i f name n (omega arith) e k this)))
  where
    step : (b : Bool) → same_text g.name name ≡ b → (others_depth (map named_datum (take i fs)) name ≤ n → others_depth (map named_datum (take (suc i) fs)) name ≤ n) → cond (same_text g.name name) (others_depth (map named_datum (take (suc i) fs)) name) (max (depth (datum_of g.value)) (others_depth (map named_datum (take (suc i) fs)) name)) ≤ n
    step true k later = rw k (later (rw k at low))
    step false k later =
        let l : max (depth (datum_of g.value)) (others_depth (map named_datum (take i fs)) name) ≤ n = (rw k at low) in let m : others_depth (map named_datum (take (suc i) fs)) name ≤ n = later (omega arith) in rw k (omega arith)

-- behind a greater name no field has the name
pub others_depth-past : (f : NamedDatum) (fs : List NamedDatum) (name : ByteString) → text_lt name f.name ≡ true → IsTrue (names_rise (f ∷ fs)) → others_depth (f ∷ fs) name ≡ named_depth (named_of (f ∷ fs))
others_depth-past f [] name more rise = rw less_not_same' refl
others_depth-past f (g ∷ fs) name more rise =
    let next : text_lt name g.name ≡ true = text_lt-trans name f.name g.name more (grind arith) in
    let later : others_depth (g ∷ fs) name ≡ named_depth (named_of (g ∷ fs)) = others_depth-past g fs name next (grind arith) in rw (less_not_same' name f.name more) (ap (λ n. max (depth f.value) n) later)
