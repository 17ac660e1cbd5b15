-- Values that contracts see alike are the same.
use Rattle.std.proofs.Common.{◌≡◌, ◌↔◌, IsTrue, List, [], ◌∷◌, refl, sym, ◌∙◌, ap}
use Rattle.std.specs.declared.cmp.Ordering.{Ordering}
use Rattle.std.specs.declared.cmp.Ordering.TheVariants.{Less, Equal, Greater}
use Rattle.std.specs.Ordering.{is_eq}
use Rattle.vx_value.specs.declared.value.Value.{Value}
use Rattle.vx_value.specs.declared.value.Value.TheVariants as variant
use Rattle.vx_value.specs.Datum.{Datum, Null, Truth, Whole, Spelled, Words, Items, Fields, NamedDatum, data_of, data_list, named_of, named_list}
use Rattle.vx_value.specs.Values.{datum_of}
use Rattle.vx_value.specs.Orders.{datum_cmp, named_cmp}
use Rattle.vx_value.proofs.Orders.{datum_cmp-IsAntisymmetric, datum_cmp-itself, named_cmp-IsAntisymmetric, named_cmp-itself}

data_list-of : (ds : List Datum) → data_list (data_of ds) ≡ ds
data_list-of [] = refl
data_list-of (d ∷ ds) = ap (λ l. d ∷ l) (data_list-of ds)

named_list-of : (fs : List NamedDatum) → named_list (named_of fs) ≡ fs
named_list-of [] = refl
named_list-of (f ∷ fs) = ap (λ l. f ∷ l) (named_list-of fs)

-- the value that stands for a datum
abbrev value_of : Datum → Value
value_of Null = variant.Null
value_of (Truth b) = variant.Truth b
value_of (Whole z) = variant.Whole z
value_of (Spelled w) = variant.Spelled w
value_of (Words w) = variant.Words w
value_of (Items ds) = variant.Items (data_list ds)
value_of (Fields ns) = variant.Fields (named_list ns)

value_of-datum : (v : Value) → value_of (datum_of v) ≡ v
value_of-datum variant.Null = refl
value_of-datum (variant.Truth b) = refl
value_of-datum (variant.Whole z) = refl
value_of-datum (variant.Spelled w) = refl
value_of-datum (variant.Words w) = refl
value_of-datum (variant.Items ds) = ap variant.Items (data_list-of ds)
value_of-datum (variant.Fields fs) = ap variant.Fields (named_list-of fs)

equal-true : (o : Ordering) → IsTrue (is_eq o) → o ≡ Equal
equal-true Less h = cc
equal-true Equal h = refl
equal-true Greater h = cc

pub same-values : (v w : Value) (o : Ordering) → o ≡ datum_cmp (datum_of v) (datum_of w) → IsTrue (is_eq o) ↔ (v ≡ w)
same-values v w o e = (
  λ h.
      let same = datum_cmp-IsAntisymmetric (datum_of v) (datum_of w) (sym e ∙ equal-true o h) in
      sym (value_of-datum v) ∙ ap value_of same ∙ value_of-datum w,
  λ h. ap is_eq (e ∙ ap (λ x. datum_cmp (datum_of v) (datum_of x)) (sym h) ∙ datum_cmp-itself (datum_of v)),
)

pub same-fields : (fs gs : List NamedDatum) (o : Ordering) → o ≡ named_cmp (named_of fs) (named_of gs) → IsTrue (is_eq o) ↔ (fs ≡ gs)
same-fields fs gs o e = (
  λ h.
      let same = named_cmp-IsAntisymmetric (named_of fs) (named_of gs) (sym e ∙ equal-true o h) in
      sym (named_list-of fs) ∙ ap named_list same ∙ named_list-of gs,
  λ h. ap is_eq (e ∙ ap (λ x. named_cmp (named_of fs) (named_of x)) (sym h) ∙ named_cmp-itself (named_of fs)),
)
