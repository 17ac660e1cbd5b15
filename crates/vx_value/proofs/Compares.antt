-- Lists compared place by place.
use Rattle.std.proofs.Common.{◌≡◌, ℕ, zero, suc, ◌<◌, ◌≤◌, List, [], ◌∷◌, length, drop, get_or, map, arith, refl, sym, ◌∙◌, ap₂}
use Rattle.std.specs.declared.cmp.Ordering.{Ordering}
use Rattle.std.specs.declared.cmp.Ordering.TheVariants.{Less, Equal, Greater}
use Rattle.std.specs.Ordering.{ordering_then}
use Rattle.vx_value.specs.declared.field.Field.{Field}
use Rattle.vx_value.specs.declared.value.Value.{Value}
use Rattle.vx_value.specs.Datum.{Datum, Data, no_data, datum, NamedData, no_named, named, data_of, named_of}
use Rattle.vx_value.specs.Texts.{ByteString}
use Rattle.vx_value.specs.Values.{datum_of, named_datum}
use Rattle.vx_value.specs.Orders.{text_cmp, datum_cmp, data_cmp, named_cmp}

-- the order of what two lists have from a place on
abbrev pub data_from : ℕ → List Value → List Value → Ordering
data_from i xs ys = data_cmp (data_of (map datum_of (drop i xs))) (data_of (map datum_of (drop i ys)))

abbrev pub named_from : ℕ → List Field → List Field → Ordering
named_from i xs ys = named_cmp (named_of (map named_datum (drop i xs))) (named_of (map named_datum (drop i ys)))

-- the order of two fields
abbrev pub field_cmp : Field → Field → Ordering
field_cmp f g = ordering_then (text_cmp f.name g.name) (datum_cmp (datum_of f.value) (datum_of g.value))

then-then : (r s t : Ordering) → ordering_then (ordering_then r s) t ≡ ordering_then r (ordering_then s t)
then-then Less s t = refl
then-then Equal s t = refl
then-then Greater s t = refl

-- past its end a list has nothing more
data-past : (i : ℕ) (xs : List Value) → length xs ≤ i → data_of (map datum_of (drop i xs)) ≡ no_data
data-past zero [] h = refl
data-past zero (x ∷ xs) h = absurd (omega arith)
data-past (suc i) [] h = refl
data-past (suc i) (x ∷ xs) h = data-past i xs (omega arith)

named-past : (i : ℕ) (xs : List Field) → length xs ≤ i → named_of (map named_datum (drop i xs)) ≡ no_named
named-past zero [] h = refl
named-past zero (x ∷ xs) h = absurd (omega arith)
named-past (suc i) [] h = refl
named-past (suc i) (x ∷ xs) h = named-past i xs (omega arith)

-- before it, it has
data-more : (i : ℕ) (xs : List Value) → i < length xs → (d : Datum) × (ds : Data) × (data_of (map datum_of (drop i xs)) ≡ datum d ds)
data-more zero [] h = absurd (omega arith)
data-more zero (x ∷ xs) h = (datum_of x, data_of (map datum_of xs), refl)
data-more (suc i) [] h = absurd (omega arith)
data-more (suc i) (x ∷ xs) h = data-more i xs (omega arith)

named-more : (i : ℕ) (xs : List Field) → i < length xs → (n : ByteString) × (d : Datum) × (ns : NamedData) × (named_of (map named_datum (drop i xs)) ≡ named n d ns)
named-more zero [] h = absurd (omega arith)
named-more zero (x ∷ xs) h = (x.name, datum_of x.value, named_of (map named_datum xs), refl)
named-more (suc i) [] h = absurd (omega arith)
named-more (suc i) (x ∷ xs) h = named-more i xs (omega arith)

-- where both end, or one before the other
pub data-both-end : (i : ℕ) (xs ys : List Value) → length xs ≤ i → length ys ≤ i → data_from i xs ys ≡ Equal
data-both-end i xs ys h l = ap₂ data_cmp (data-past i xs h) (data-past i ys l)

pub data-first-ends : (i : ℕ) (xs ys : List Value) → length xs ≤ i → i < length ys → data_from i xs ys ≡ Less
data-first-ends i xs ys h l = ap₂ data_cmp (data-past i xs h) (data-more i ys l).2

pub named-both-end : (i : ℕ) (xs ys : List Field) → length xs ≤ i → length ys ≤ i → named_from i xs ys ≡ Equal
named-both-end i xs ys h l = ap₂ named_cmp (named-past i xs h) (named-past i ys l)

pub named-first-ends : (i : ℕ) (xs ys : List Field) → length xs ≤ i → i < length ys → named_from i xs ys ≡ Less
named-first-ends i xs ys h l = ap₂ named_cmp (named-past i xs h) (named-more i ys l).3

pub named-other-ends : (i : ℕ) (xs ys : List Field) → i < length xs → length ys ≤ i → named_from i xs ys ≡ Greater
named-other-ends i xs ys h l = ap₂ named_cmp (named-more i xs h).3 (named-past i ys l)

pub named-step : (i : ℕ) (xs ys : List Field) (x y : Field) → i < length xs → x ≡ get_or xs i x → i < length ys → y ≡ get_or ys i y
    → named_from i xs ys ≡ ordering_then (field_cmp x y) (named_from (suc i) xs ys)
named-step zero [] ys x y l e m f = absurd (omega arith)
named-step zero (a ∷ xs) [] x y l e m f = absurd (omega arith)
named-step zero (a ∷ xs) (b ∷ ys) x y l e m f =
    sym (then-then (text_cmp a.name b.name) (datum_cmp (datum_of a.value) (datum_of b.value)) (named_from 1 (a ∷ xs) (b ∷ ys)))
    ∙ (λ j. ordering_then (field_cmp (sym e j) (sym f j)) (named_from 1 (a ∷ xs) (b ∷ ys)))
named-step (suc i) [] ys x y l e m f = absurd (omega arith)
named-step (suc i) (a ∷ xs) [] x y l e m f = absurd (omega arith)
named-step (suc i) (a ∷ xs) (b ∷ ys) x y l e m f = named-step i xs ys x y (omega arith) e (omega arith) f
