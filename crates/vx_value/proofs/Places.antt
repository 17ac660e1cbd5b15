-- A search for a name among fields.
use Rattle.std.proofs.Common.{◌≡◌, ℕ, ◌+◌, ◌<◌, suc, zero, true, false, List, [], ◌∷◌, ◌++◌, length, take, drop, get_or, set, Some, None, IsTrue, arith, refl, sym, ◌∙◌, ap, drop-cons, append_assoc, add-one}
use Rattle.std.proofs.Math.Seq.{take-suc}
use Rattle.std.proofs.lemmas.List.{take-append-drop, take-set, drop-set, get_or_default}
use Rattle.std.proofs.lemmas.Grind.{common_steps}
use Rattle.vx_value.specs.Datum.{Datum, NamedDatum}
use Rattle.vx_value.specs.Texts.{ByteString, text_lt, same_text}
use Rattle.vx_value.specs.Events.{value_under, with_field, names_rise}
use Rattle.vx_value.specs.Places.{IsPlace, IsGap, IsBefore}
use Rattle.vx_value.proofs.Order.{same_text-true, less_not_same, less_not_same', text_lt-trans}

-- the search begins
pub before_first : (fs : List NamedDatum) (name : ByteString) → IsBefore fs name 0
before_first fs name = record { under = refl; put = λ value. refl }

-- what the fields from a place on do, where its name is less, the same or greater
cons-less-under : (f : NamedDatum) (fs : List NamedDatum) (name : ByteString) → text_lt f.name name ≡ true → value_under (f ∷ fs) name ≡ value_under fs name
cons-less-under f fs name less = rw less_not_same refl

cons-less-put : (f : NamedDatum) (fs : List NamedDatum) (name : ByteString) (value : Datum) → text_lt f.name name ≡ true → with_field (f ∷ fs) name value ≡ f ∷ with_field fs name value
cons-less-put f fs name value less = rw less refl

cons-same-put : (f : NamedDatum) (fs : List NamedDatum) (name : ByteString) (value : Datum) → text_lt f.name name ≡ false → same_text f.name name ≡ true → with_field (f ∷ fs) name value ≡ record { name = name; value = value } ∷ fs
cons-same-put f fs name value not_less same = rw (not_less, same) refl

cons-more-put : (f : NamedDatum) (fs : List NamedDatum) (name : ByteString) (value : Datum) → text_lt f.name name ≡ false → same_text f.name name ≡ false → with_field (f ∷ fs) name value ≡ record { name = name; value = value } ∷ f ∷ fs
cons-more-put f fs name value not_less other = rw (not_less, other) refl

-- no field from a greater name on has the name
pub none-past : (f : NamedDatum) (fs : List NamedDatum) (name : ByteString) → text_lt name f.name ≡ true → IsTrue (names_rise (f ∷ fs)) → value_under (f ∷ fs) name ≡ None
none-past f [] name more rise = rw less_not_same' refl
none-past f (g ∷ fs) name more rise =
    let next : text_lt name g.name ≡ true = text_lt-trans name f.name g.name more (grind arith) in
    let later : value_under (g ∷ fs) name ≡ None = none-past g fs name next (grind arith) in rw less_not_same' later

names_rise-drop : (fs : List NamedDatum) (i : ℕ) → IsTrue (names_rise fs) → IsTrue (names_rise (drop i fs))
names_rise-drop fs zero rise = rise
names_rise-drop [] (suc i) rise = grind (arith, common_steps)
names_rise-drop (f ∷ []) (suc i) rise = grind (arith, common_steps)
names_rise-drop (f ∷ g ∷ fs) (suc i) rise = names_rise-drop (g ∷ fs) i (grind arith)

-- one step past a lesser name
pub before-step : (fs : List NamedDatum) (name : ByteString) (f : NamedDatum) (i : ℕ) → i < length fs → get_or fs i f ≡ f → text_lt f.name name ≡ true → IsBefore fs name i → IsBefore fs name (i + 1)
before-step fs name f i h e less b = record {
  under = b.under ∙ (rw (drop-cons fs i f, e, add-one) (cons-less-under f (drop (suc i) fs) name less));
  put = λ value.
      b.put value ∙ (rw (drop-cons fs i f, e, add-one, take-suc fs i f, e, append_assoc) (ap (λ r. take i fs ++ r) (cons-less-put f (drop (suc i) fs) name value less)));
}

-- a list with one item written
set-split : {X : Type 0} (xs : List X) (i : ℕ) (x : X) → i < length xs → set xs i x ≡ take i xs ++ x ∷ drop (i + 1) xs
set-split xs i x h = sym (take-append-drop i (set xs i x)) ∙ rw (take-set, drop-set xs i x) refl

-- the search ends at the name
pub place-found : (fs : List NamedDatum) (name : ByteString) (f : NamedDatum) (i : ℕ) → i < length fs → get_or fs i f ≡ f → same_text f.name name ≡ true → text_lt f.name name ≡ false → IsBefore fs name i → IsPlace fs name i
place-found fs name f i h e same not_less b = record {
  inside = h;
  named = λ d. (ap (λ g. g.name) (get_or_default fs i d f h ∙ e)) ∙ same_text-true f.name name same;
  held = λ d.
      b.under ∙ (rw (drop-cons fs i f, e, same) (ap (λ g. Some g.value) (sym (get_or_default fs i d f h ∙ e))));
  put = λ value.
      b.put value ∙ (rw (drop-cons fs i f, e, set-split fs i (record { name = name; value = value }), add-one) (ap (λ r. take i fs ++ r) (cons-same-put f (drop (suc i) fs) name value not_less same)));
}

-- the search ends before a greater name
pub gap-found : (fs : List NamedDatum) (name : ByteString) (f : NamedDatum) (i : ℕ) → i < length fs → get_or fs i f ≡ f → text_lt name f.name ≡ true → same_text f.name name ≡ false → text_lt f.name name ≡ false → IsTrue (names_rise fs) → IsBefore fs name i → IsGap fs name i
gap-found fs name f i h e more other not_less rise b = record {
  within = omega arith;
  none = b.under ∙ (let r = names_rise-drop fs i rise in rw (drop-cons fs i f, e) (none-past f (drop (suc i) fs) name more (rw (drop-cons fs i f, e) at r)));
  put = λ value. b.put value ∙ rw (drop-cons fs i f, e, cons-more-put f (drop (suc i) fs) name value not_less other) refl;
}
