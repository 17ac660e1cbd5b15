-- Fields that are kept rise by their names, as all do.
use Rattle.std.proofs.Common.{◌≡◌, ℕ, ◌+◌, ◌<◌, Bool, true, false, cond, List, [], ◌∷◌, ◌++◌, map, take, drop, length, get_or, IsTrue, refl, sym, ◌∙◌, ap}
use Rattle.std.specs.Prelude.{filter}
use Rattle.std.specs.List.{list_all}
use Rattle.std.proofs.lemmas.Bool.{and_parts, and_from}
use Rattle.std.proofs.lemmas.List.{map-append, take-append-drop, take_more}
use Rattle.std.proofs.lemmas.List.Elements.{filter-append}
use Rattle.vx_value.specs.Texts.{ByteString, text_lt}
use Rattle.vx_value.specs.Datum.{NamedDatum}
use Rattle.vx_value.specs.Values.{named_datum}
use Rattle.vx_value.specs.Events.{names_rise, last_below}
use Rattle.vx_value.specs.declared.field.Field.{Field}
use Rattle.vx_value.proofs.Order.{text_lt-trans}
use Rattle.vx_value.proofs.Rising.{names_rise-front}

-- each name comes before a text
abbrev all_below : List NamedDatum → ByteString → Bool
all_below fs name = list_all (λ (g : NamedDatum). text_lt g.name name) fs

below_last : (fs : List NamedDatum) (name : ByteString) → all_below fs name ≡ true → last_below fs name ≡ true
below_last [] name all = refl
below_last (f ∷ []) name all = (and_parts (text_lt f.name name) true all).0
below_last (f ∷ g ∷ fs) name all = below_last (g ∷ fs) name (and_parts (text_lt f.name name) (all_below (g ∷ fs) name) all).1

below_filtered : (p : NamedDatum → Bool) (fs : List NamedDatum) (name : ByteString) → all_below fs name ≡ true → all_below (filter p fs) name ≡ true
below_filtered p [] name all = refl
below_filtered p (f ∷ fs) name all =
    let both = and_parts (text_lt f.name name) (all_below fs name) all in
    let rest = below_filtered p fs name both.1 in
    elim (p f) as (λ b. all_below (cond b (f ∷ filter p fs) (filter p fs)) name ≡ true) [
      | true ↦ and_from (text_lt f.name name) (all_below (filter p fs) name) both.0 rest
      | false ↦ rest
    ]

rising_below : (front : List NamedDatum) (f : NamedDatum) → names_rise (front ++ f ∷ []) ≡ true → all_below front f.name ≡ true
rising_below [] f rise = refl
rising_below (g ∷ []) f rise = and_from (text_lt g.name f.name) true (and_parts (text_lt g.name f.name) true rise).0 refl
rising_below (g ∷ h ∷ front) f rise =
    let both = and_parts (text_lt g.name h.name) (names_rise (h ∷ front ++ f ∷ [])) rise in
    let on = rising_below (h ∷ front) f both.1 in
    let here = and_parts (text_lt h.name f.name) (all_below front f.name) on in
    and_from (text_lt g.name f.name) (all_below (h ∷ front) f.name) (text_lt-trans g.name h.name f.name both.0 here.0) on

-- what is made of the items up to one is what is made of those before it and of that one
pub up_to : {X Y : Type 0} (f : X → Y) (items : List X) (i : ℕ) (x : X) → i < length items → x ≡ get_or items i x →
    map f (take (i + 1) items) ≡ map f (take i items) ++ f x ∷ []
up_to {X = X} f items i x below is =
    ap (λ (xs : List X). map f xs) (take_more items i x below) ∙ map-append f (take i items) (get_or items i x ∷ [])
    ∙ ap (λ (y : X). map f (take i items) ++ f y ∷ []) (sym is)

-- so a field may be added to those that are kept of the fields before it
pub last_kept : (p : NamedDatum → Bool) (items : List Field) (i : ℕ) (x : Field) → i < length items → x ≡ get_or items i x →
    IsTrue (names_rise (map named_datum items)) → IsTrue (last_below (filter p (map named_datum (take i items))) x.name)
last_kept p items i x below is rise =
    below_last (filter p (map named_datum (take i items))) x.name
    (below_filtered p (map named_datum (take i items)) x.name (rising_below (map named_datum (take i items)) (named_datum x) risen))
  where
    whole : map named_datum (take (i + 1) items) ++ map named_datum (drop (i + 1) items) ≡ map named_datum items
    whole = sym (map-append named_datum (take (i + 1) items) (drop (i + 1) items)) ∙ ap (λ (fs : List Field). map named_datum fs) (take-append-drop (i + 1) items)

    risen : names_rise (map named_datum (take i items) ++ named_datum x ∷ []) ≡ true
    risen =
        ap names_rise (sym (up_to named_datum items i x below is))
        ∙ names_rise-front (map named_datum (take (i + 1) items)) (map named_datum (drop (i + 1) items)) (ap names_rise whole ∙ rise)

-- those that are kept of one field more
pub kept_more : (p : NamedDatum → Bool) (items : List Field) (i : ℕ) (x : Field) → i < length items → x ≡ get_or items i x →
    filter p (map named_datum (take (i + 1) items)) ≡ filter p (map named_datum (take i items)) ++ cond (p (named_datum x)) (named_datum x ∷ []) []
kept_more p items i x below is =
    ap (λ (fs : List NamedDatum). filter p fs) (up_to named_datum items i x below is)
    ∙ filter-append p (map named_datum (take i items)) (named_datum x ∷ [])

-- what is mapped twice is mapped once by both
pub map_twice : {X Y Z : Type 0} (g : Y → Z) (f : X → Y) (xs : List X) → map g (map f xs) ≡ map (λ x. g (f x)) xs
map_twice g f [] = refl
map_twice {Z = Z} g f (x ∷ xs) = ap (λ (zs : List Z). g (f x) ∷ zs) (map_twice g f xs)
