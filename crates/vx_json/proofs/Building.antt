-- The fields of an object that is read, in a tree.
use Rattle.std.proofs.Common.{◌≡◌, true, false, List, [], ◌∷◌, ◌++◌, refl, sym, ◌∙◌, ap}
use Rattle.std.specs.declared.cmp.Ordering.{Ordering}
use Rattle.std.specs.declared.cmp.Ordering.TheVariants.{Less, Equal, Greater}
use Rattle.std.specs.Ordering.{match_ordering}
use Rattle.std.specs.BTreeMap.{insert_entry}
use Rattle.std.specs.List.Sorted.{IsStrictlySortedBy}
use Rattle.std.specs.Map.{keys_of}
use Rattle.vx_value.specs.Texts.{ByteString, text_lt}
use Rattle.vx_value.specs.Datum.{Datum, NamedDatum}
use Rattle.vx_value.specs.Events.{with_field, names_rise}
use Rattle.vx_value.specs.Orders.{text_cmp}
use Rattle.vx_value.specs.Values.{datum_of}
use Rattle.vx_value.specs.declared.value.Value.{Value}
use Rattle.vx_value.proofs.Order.{less_not_more, less_not_same', answer_less, answer_more, observed_same, same_text-true, same_text-refl}
use Rattle.vx_json.specs.ObjectBuilders.{tree_fields}
use Rattle.vx_json.specs.declared.name.Name.{Name}
use Rattle.vx_json.proofs.Choices.{both_true, and_true}
use Rattle.vx_json.proofs.Putting.{field}

-- names as a tree orders them
abbrev name_cmp : Name → Name → Ordering
name_cmp m n = text_cmp m.text n.text

-- a name before the first comes first
with-first : (f : NamedDatum) (fs : List NamedDatum) (name : ByteString) (v : Datum) → text_lt name f.name ≡ true → with_field (f ∷ fs) name v ≡ field name v ∷ f ∷ fs
with-first f fs name v h = rw (less_not_more name f.name h, less_not_same' name f.name h) refl

-- the same name takes the value
with-equal : (f : NamedDatum) (fs : List NamedDatum) (name : ByteString) (v : Datum) → f.name ≡ name → text_lt name name ≡ false → with_field (f ∷ fs) name v ≡ field name v ∷ fs
with-equal f fs name v e n = rw (e, n, same_text-refl name) refl

-- a name behind the first goes on
with-later : (f : NamedDatum) (fs : List NamedDatum) (name : ByteString) (v : Datum) → text_lt f.name name ≡ true → with_field (f ∷ fs) name v ≡ f ∷ with_field fs name v
with-later f fs name v h = rw h refl

-- an entry of a tree is a field that is put
pub tree-insert : (es : List (Name × Value)) (k : Name) (v : Value) → tree_fields (insert_entry name_cmp es k v) ≡ with_field (tree_fields es) k.text (datum_of v)
tree-insert [] k v = refl
tree-insert (e ∷ es) k v = by_order (name_cmp k e.0) refl (tree-insert es k v)
  where
    name : ByteString
    name = k.text

    first : NamedDatum
    first = field e.0.text (datum_of e.1)

    by_order : (o : Ordering) → o ≡ text_cmp k.text e.0.text →
        tree_fields (insert_entry name_cmp es k v) ≡ with_field (tree_fields es) k.text (datum_of v) →
        tree_fields (match_ordering o ((k, v) ∷ e ∷ es) ((e.0, v) ∷ es) (e ∷ insert_entry name_cmp es k v)) ≡ with_field (first ∷ tree_fields es) name (datum_of v)
    by_order Less h later = sym (with-first first (tree_fields es) name (datum_of v) (sym (answer_less name first.name Less h)))
    by_order Equal h later =
        let same : name ≡ first.name = same_text-true name first.name (sym (observed_same name first.name Equal h)) in
        let none : text_lt name first.name ≡ false = sym (answer_less name first.name Equal h) in
        ap (λ n. field n (datum_of v) ∷ tree_fields es) (sym same)
        ∙ sym (with-equal first (tree_fields es) name (datum_of v) (sym same) (ap (λ n. text_lt name n) same ∙ none))
    by_order Greater h later =
        ap (λ fs. first ∷ fs) later
        ∙ sym (with-later first (tree_fields es) name (datum_of v) (sym (answer_more name first.name Greater h)))

-- the fields behind some rise too
pub rise-back : (xs ys : List NamedDatum) → names_rise (xs ++ ys) ≡ true → names_rise ys ≡ true
rise-back [] ys r = r
rise-back (x ∷ []) [] r = refl
rise-back (x ∷ []) (y ∷ ys) r = (both_true (text_lt x.name y.name) (names_rise (y ∷ ys)) r).1
rise-back (x ∷ z ∷ xs) ys r = rise-back (z ∷ xs) ys (both_true (text_lt x.name z.name) (names_rise (z ∷ xs ++ ys)) r).1

-- a field that comes before all stands before them
pub put-front : (f : NamedDatum) (fs : List NamedDatum) → names_rise (f ∷ fs) ≡ true → with_field fs f.name f.value ≡ f ∷ fs
put-front f [] r = refl
put-front f (g ∷ fs) r = with-first g fs f.name f.value (both_true (text_lt f.name g.name) (names_rise (g ∷ fs)) r).0

-- the names of a tree rise
pub tree-rises : (es : List (Name × Value)) → IsStrictlySortedBy name_cmp (keys_of es) → names_rise (tree_fields es) ≡ true
unfolding IsStrictlySortedBy
tree-rises [] s = refl
tree-rises (e ∷ []) s = refl
tree-rises (e ∷ d ∷ es) s =
    and_true _ _ (sym (answer_less e.0.text d.0.text Less (sym s.0.0))) (tree-rises (d ∷ es) s.1)
