-- What is fed of values in order, one more at a time.
use Rattle.std.proofs.Common.{◌≡◌, ℕ, ◌+◌, ◌<◌, List, [], ◌∷◌, ◌++◌, map, take, length, get_or, fold, refl, sym, ◌∙◌, ap, append_assoc, append-nil}
use Rattle.std.proofs.lemmas.List.Sums.{fold-append}
use Rattle.std.specs.Hash as fed
use Rattle.std.specs.Hash.{HashWrites}
use Rattle.vx_value.specs.Datum.{Datum, NamedDatum, data_of, named_of}
use Rattle.vx_value.specs.Values.{datum_of, named_datum}
use Rattle.vx_value.specs.declared.value.Value.{Value}
use Rattle.vx_value.specs.declared.field.Field.{Field}
use Rattle.vx_pick.specs.Hashing.{datum_fed, data_fed, named_fed}
use Rattle.vx_pick.proofs.Kept.{up_to}

data_fed-append : (ds es : List Datum) → data_fed (data_of (ds ++ es)) ≡ data_fed (data_of ds) ++ data_fed (data_of es)
data_fed-append [] es = refl
data_fed-append (d ∷ ds) es =
    ap (λ (w : HashWrites). datum_fed d ++ w) (data_fed-append ds es) ∙ sym (append_assoc (datum_fed d) (data_fed (data_of ds)) (data_fed (data_of es)))

named_fed-append : (fs gs : List NamedDatum) → named_fed (named_of (fs ++ gs)) ≡ named_fed (named_of fs) ++ named_fed (named_of gs)
named_fed-append [] gs = refl
named_fed-append (f ∷ fs) gs =
    ap (λ (w : HashWrites). (fed.str f.name ++ datum_fed f.value) ++ w) (named_fed-append fs gs)
    ∙ sym (append_assoc (fed.str f.name ++ datum_fed f.value) (named_fed (named_of fs)) (named_fed (named_of gs)))

module _ {S : Type 0} (write : S → List ℕ → S) (before : S) where
  -- a value more
  pub item_fed : (items : List Value) (i : ℕ) (x : Value) (now next : S) → i < length items → x ≡ get_or items i x →
      now ≡ fold write before (data_fed (data_of (map datum_of (take i items)))) → next ≡ fold write now (datum_fed (datum_of x)) →
      next ≡ fold write before (data_fed (data_of (map datum_of (take (i + 1) items))))
  item_fed items i x now next below is so on =
      on ∙ ap (λ (s : S). fold write s (datum_fed (datum_of x))) so
      ∙ sym (fold-append write before (data_fed (data_of (map datum_of (take i items)))) (datum_fed (datum_of x)))
      ∙ ap (λ (w : HashWrites). fold write before w) (sym whole)
    where
      whole : data_fed (data_of (map datum_of (take (i + 1) items))) ≡ data_fed (data_of (map datum_of (take i items))) ++ datum_fed (datum_of x)
      whole =
          ap (λ (ds : List Datum). data_fed (data_of ds)) (up_to datum_of items i x below is) ∙ data_fed-append (map datum_of (take i items)) (datum_of x ∷ [])
          ∙ ap (λ (w : HashWrites). data_fed (data_of (map datum_of (take i items))) ++ w) (append-nil (datum_fed (datum_of x)))

  -- a field more
  pub field_fed : (items : List Field) (i : ℕ) (x : Field) (now named next : S) → i < length items → x ≡ get_or items i x →
      now ≡ fold write before (named_fed (named_of (map named_datum (take i items)))) →
      named ≡ fold write now (fed.str x.name) → next ≡ fold write named (datum_fed (datum_of x.value)) →
      next ≡ fold write before (named_fed (named_of (map named_datum (take (i + 1) items))))
  field_fed items i x now named next below is so name on =
      on ∙ ap (λ (s : S). fold write s (datum_fed (datum_of x.value))) (name ∙ ap (λ (s : S). fold write s (fed.str x.name)) so)
      ∙ sym (fold-append write (fold write before (named_fed (named_of (map named_datum (take i items))))) (fed.str x.name) (datum_fed (datum_of x.value)))
      ∙ sym (fold-append write before (named_fed (named_of (map named_datum (take i items)))) (fed.str x.name ++ datum_fed (datum_of x.value)))
      ∙ ap (λ (w : HashWrites). fold write before w) (sym whole)
    where
      whole : named_fed (named_of (map named_datum (take (i + 1) items))) ≡ named_fed (named_of (map named_datum (take i items))) ++ (fed.str x.name ++ datum_fed (datum_of x.value))
      whole =
          ap (λ (fs : List NamedDatum). named_fed (named_of fs)) (up_to named_datum items i x below is) ∙ named_fed-append (map named_datum (take i items)) (named_datum x ∷ [])
          ∙ ap (λ (w : HashWrites). named_fed (named_of (map named_datum (take i items))) ++ w) (append-nil (fed.str x.name ++ datum_fed (datum_of x.value)))
