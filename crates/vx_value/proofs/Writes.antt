-- Fields with one field written or inserted, as they are kept.
use Rattle.std.proofs.Common.{◌≡◌, ℕ, Bool, true, false, cond, List, ◌∷◌, take, drop, get_or, set, map, IsTrue, refl, sym, ◌∙◌, ap}
use Rattle.std.specs.Prelude.{insert}
use Rattle.std.proofs.lemmas.List.{map-append, take-map, drop-map, map-set}
use Rattle.vx_value.specs.declared.field.Field.{Field}
use Rattle.vx_value.specs.declared.value.Value.{Value}
use Rattle.vx_value.specs.Datum.{NamedDatum}
use Rattle.vx_value.specs.Texts.{ByteString}
use Rattle.vx_value.specs.Values.{datum_of, named_datum}
use Rattle.vx_value.specs.Events.{names_rise, with_field}
use Rattle.vx_value.specs.Places.{IsPlace, IsGap}
use Rattle.vx_value.proofs.With.{names_rise-with}
use Rattle.vx_value.proofs.Searches.{named_at}

-- a field written at the place of a name
pub replaced : (items : List Field) (fs : List NamedDatum) (name : ByteString) (i : ℕ) (f : Field) (v : Value) → map named_datum items ≡ fs → f ≡ get_or items i f → IsPlace fs name i → map named_datum (set items i (record { name = f.name; value = v })) ≡ with_field fs name (datum_of v)
replaced items fs name i f v view e p =
    let q : IsPlace (map named_datum items) name i = (rw (← view) at p) in
    map-set named_datum items i (record { name = f.name; value = v }) ∙ (rw (named_at items name i f e q) (sym (q.put (datum_of v)))) ∙ ap (λ gs. with_field gs name (datum_of v)) view

pub replaced-rise : (items : List Field) (fs : List NamedDatum) (name : ByteString) (i : ℕ) (f : Field) (v : Value) → map named_datum items ≡ fs → f ≡ get_or items i f → IsPlace fs name i → IsTrue (names_rise (map named_datum items)) → IsTrue (names_rise (map named_datum (set items i (record { name = f.name; value = v }))))
replaced-rise items fs name i f v view e p rise =
    rw (replaced items fs name i f v view e p) (names_rise-with fs name (datum_of v) (rw view at rise))

map-insert : (items : List Field) (i : ℕ) (f : Field) → map named_datum (insert items i f) ≡ insert (map named_datum items) i (named_datum f)
map-insert items i f =
    map-append named_datum (take i items) (f ∷ drop i items) ∙ rw (take-map named_datum i items, drop-map named_datum i items) refl

-- a field inserted where its name would stand
pub inserted : (items new : List Field) (fs : List NamedDatum) (name : ByteString) (i : ℕ) (f : Field) → map named_datum items ≡ fs → IsGap fs name i → f.name ≡ name → new ≡ insert items i f → map named_datum new ≡ with_field fs name (datum_of f.value)
inserted items new fs name i f view p same e =
    ap (map named_datum) e ∙ map-insert items i f ∙ (rw (view, same) (sym (p.put (datum_of f.value))))

pub inserted-rise : (items new : List Field) (fs : List NamedDatum) (name : ByteString) (i : ℕ) (f : Field) (done : Bool) → map named_datum items ≡ fs → IsGap fs name i → f.name ≡ name → new ≡ cond done (insert items i f) items → IsTrue (names_rise (map named_datum items)) → IsTrue (names_rise (map named_datum new))
inserted-rise items new fs name i f true view p same e rise =
    rw (inserted items new fs name i f view p same e) (names_rise-with fs name (datum_of f.value) (rw view at rise))
inserted-rise items new fs name i f false view p same e rise = rw e rise
