-- Comparisons of texts.
use Rattle.std.proofs.Common.{◌≡◌, Bool, true, false, ◌==◌, ◌&&◌, ◌||◌, ◌↔◌, [], ◌∷◌, ◌++◌, refl, ap, sym, ◌∙◌, nat_eq, eqb-true, eq-eqb, inl, inr}
use Rattle.std.proofs.lemmas.Bool.{and_parts, or_cases, and_from}
use Rattle.std.specs.Str.Iter.{HasSubslice}
use lib.Pointwise.{pointwise}
use Rattle.vx_value.specs.Texts.{ByteString, same_text}
use Rattle.vx_condition.specs.Meaning.{begins_with, is_part}

-- std compares in the same way
pub same_text_is : (s t : ByteString) → same_text s t ≡ pointwise nat_eq s t
same_text_is [] [] = refl
same_text_is [] (b ∷ t) = refl
same_text_is (a ∷ s) [] = refl
same_text_is (a ∷ s) (b ∷ t) = ap (λ z. (a == b) && z) (same_text_is s t)

begins_with-append : (part rest : ByteString) → begins_with part (part ++ rest) ≡ true
begins_with-append [] rest = refl
begins_with-append (a ∷ part) rest = and_from (a == a) (begins_with part (part ++ rest)) (eq-eqb a a refl) (begins_with-append part rest)

begun_with : (part text : ByteString) → begins_with part text ≡ true → (rest : ByteString) × (text ≡ part ++ rest)
begun_with [] text h = (text, refl)
begun_with (a ∷ part) [] h = absurd (cc)
begun_with (a ∷ part) (b ∷ text) h =
    let both = and_parts (a == b) (begins_with part text) h in
    let more = begun_with part text both.1 in
    (more.0, (λ i. sym (eqb-true a b both.0) i ∷ more.1 i))

or_left : (x y : Bool) → x ≡ true → (x || y) ≡ true
or_left true y h = refl
or_left false y h = absurd (cc)

or_right : (x y : Bool) → y ≡ true → (x || y) ≡ true
or_right true y h = refl
or_right false y h = h

part_from_begun : (part text : ByteString) → begins_with part text ≡ true → is_part part text ≡ true
part_from_begun part [] h = h
part_from_begun part (b ∷ text) h = or_left (begins_with part (b ∷ text)) (is_part part text) h

pub part-inside : (part before after : ByteString) → is_part part (before ++ (part ++ after)) ≡ true
part-inside part [] after = part_from_begun part (part ++ after) (begins_with-append part after)
part-inside part (b ∷ before) after = or_right (begins_with part (b ∷ (before ++ (part ++ after)))) (is_part part (before ++ (part ++ after))) (part-inside part before after)

pub part-found : (part text : ByteString) → is_part part text ≡ true → HasSubslice text part
part-found part [] h = let begun = begun_with part [] h in ([], begun.0, begun.1)
part-found part (b ∷ text) h =
    elim (or_cases (begins_with part (b ∷ text)) (is_part part text) h) [
      | inl begun ↦ let rest = begun_with part (b ∷ text) begun in ([], rest.0, rest.1)
      | inr later ↦ let found = part-found part text later in (b ∷ found.0, found.1, ap (λ t. b ∷ t) found.2)
    ]

same_bools : (a b : Bool) → (a ≡ true → b ≡ true) → (b ≡ true → a ≡ true) → a ≡ b
same_bools true b f g = sym (f refl)
same_bools false true f g = g refl
same_bools false false f g = refl

pub is_part_is : (found : Bool) (part text : ByteString) → (found ≡ true) ↔ HasSubslice text part → found ≡ is_part part text
is_part_is found part text reports =
    same_bools found (is_part part text)
    (λ h. let place = reports.0 h in ap (λ t. is_part part t) place.2 ∙ part-inside part place.0 place.1)
    (λ h. reports.1 (part-found part text h))

pub compared_so : (same : Bool) (s t v w : ByteString) → same ≡ pointwise nat_eq s t → s ≡ v → t ≡ w → same ≡ same_text v w
compared_so same s t v w e f g = e ∙ sym (same_text_is s t) ∙ (λ i. same_text (f i) (g i))

pub found_so : (found : Bool) (part text v w : ByteString) → found ≡ is_part part text → part ≡ v → text ≡ w → found ≡ is_part v w
found_so found part text v w e f g = e ∙ (λ i. is_part (f i) (g i))
