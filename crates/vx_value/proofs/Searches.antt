-- A search for a name, over the fields as they are kept.
use Rattle.std.proofs.Common.{◌≡◌, ℕ, ◌+◌, ◌<◌, List, length, get_or, map, Some, IsTrue, sym, ◌∙◌, ap}
use Rattle.std.proofs.lemmas.List.{length-map, get_or-map}
use Rattle.std.specs.declared.cmp.Ordering.TheVariants.{Less, Equal, Greater}
use Rattle.std.specs.Ordering.{nat_cmp}
use Rattle.std.specs.Cmp.Lexicographic.{slice_cmp}
use Rattle.vx_value.specs.declared.field.Field.{Field}
use Rattle.vx_value.specs.Texts.{ByteString}
use Rattle.vx_value.specs.Values.{datum_of, named_datum}
use Rattle.vx_value.specs.Events.{names_rise, value_under}
use Rattle.vx_value.specs.Places.{IsPlace, IsGap, IsBefore}
use Rattle.vx_value.proofs.Order.{answer_less, observed_same, answer_more}
use Rattle.vx_value.proofs.Places.{before-step, place-found, gap-found}

-- a kept field is seen at its place
seen : (items : List Field) (i : ℕ) (f : Field) → i < length items → f ≡ get_or items i f → get_or (map named_datum items) i (named_datum f) ≡ named_datum f
seen items i f h e = get_or-map named_datum items i f (named_datum f) h ∙ ap named_datum (sym e)

pub step_past : (items : List Field) (name w : ByteString) (i : ℕ) (f : Field) → i < length items → f ≡ get_or items i f → w ≡ f.name → Less ≡ slice_cmp nat_cmp w name → IsBefore (map named_datum items) name i → IsBefore (map named_datum items) name (i + 1)
step_past items name w i f h e same_name observed b =
    before-step (map named_datum items) name (named_datum f) i (rw length-map h) (seen items i f h e)
    (rw same_name at (sym (answer_less w name Less observed))) b

pub found : (items : List Field) (name w : ByteString) (i : ℕ) (f : Field) → i < length items → f ≡ get_or items i f → w ≡ f.name → Equal ≡ slice_cmp nat_cmp w name → IsBefore (map named_datum items) name i → IsPlace (map named_datum items) name i
found items name w i f h e same_name observed b =
    place-found (map named_datum items) name (named_datum f) i (rw length-map h) (seen items i f h e)
    (rw same_name at (sym (observed_same w name Equal observed))) (rw same_name at (sym (answer_less w name Equal observed))) b

pub passed : (items : List Field) (name w : ByteString) (i : ℕ) (f : Field) → i < length items → f ≡ get_or items i f → w ≡ f.name → Greater ≡ slice_cmp nat_cmp w name → IsTrue (names_rise (map named_datum items)) → IsBefore (map named_datum items) name i → IsGap (map named_datum items) name i
passed items name w i f h e same_name observed rise b =
    gap-found (map named_datum items) name (named_datum f) i (rw length-map h) (seen items i f h e)
    (rw same_name at (sym (answer_more w name Greater observed))) (rw same_name at (sym (observed_same w name Greater observed)))
    (rw same_name at (sym (answer_less w name Greater observed))) rise b

-- the value at the place of a name is the one under it
pub held_at : (items : List Field) (name : ByteString) (i : ℕ) (f : Field) → f ≡ get_or items i f → IsPlace (map named_datum items) name i → Some (datum_of f.value) ≡ value_under (map named_datum items) name
held_at items name i f e p =
    sym (p.held (named_datum f) ∙ ap (λ g. Some g.value) (seen items i f (rw length-map at p.inside) e))

-- the field at the place of a name has it
pub named_at : (items : List Field) (name : ByteString) (i : ℕ) (f : Field) → f ≡ get_or items i f → IsPlace (map named_datum items) name i → f.name ≡ name
named_at items name i f e p =
    ap (λ g. g.name) (sym (seen items i f (rw length-map at p.inside) e)) ∙ p.named (named_datum f)
