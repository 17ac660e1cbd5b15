-- The key of a group, told as one value and as a list of values.
use Rattle.std.proofs.Common.{◌≡◌, Bool, true, false, Option, Some, None, List, [], ◌∷◌, map, refl, sym, ◌∙◌, ap, ap₂}
use Rattle.std.specs.Prelude.{◌&&◌}
use Rattle.std.specs.declared.cmp.Ordering.{Ordering}
use Rattle.std.specs.declared.cmp.Ordering.TheVariants.{Less, Equal, Greater}
use Rattle.std.specs.Ordering.{is_eq, ordering_then}
use Rattle.vx_value.specs.Datum.{Datum, data_of}
use Rattle.vx_value.specs.Texts.{ByteString}
use Rattle.vx_value.specs.Orders.{datum_cmp, data_cmp}
use Rattle.vx_value.specs.Events.{value_at}
use Rattle.vx_value.specs.declared.event.Event.{Event}
use Rattle.vx_condition.specs.Picking.{Key, values, fields, key_at, same_key, same_value, same_values}
use Rattle.vx_reduce.specs.Keys.{key_item, key_datum}
use Rattle.vx_reduce.proofs.Indexed.{same_datum, own_datum, both_left, both_right}

then_both : (o p : Ordering) → is_eq (ordering_then o p) ≡ (is_eq o && is_eq p)
then_both Less p = refl
then_both Equal p = refl
then_both Greater p = refl

then_last : (o : Ordering) → is_eq o ≡ is_eq (ordering_then o Equal)
then_last Less = refl
then_last Equal = refl
then_last Greater = refl

item_same : (d e : Option Datum) → same_value d e ≡ is_eq (datum_cmp (key_item d) (key_item e))
item_same None None = refl
item_same None (Some e) = refl
item_same (Some d) None = refl
item_same (Some d) (Some e) = then_last (datum_cmp d e)

-- two events have one key by either
pub key_same : (paths : List (List ByteString)) (e f : Event) → same_key (key_at paths e) (key_at paths f) ≡ is_eq (datum_cmp (key_datum paths e) (key_datum paths f))
key_same [] e f = refl
key_same (p ∷ ps) e f =
    ap₂ (λ a b. a && b) (item_same (value_at e.fields p) (value_at f.fields p)) (key_same ps e f)
    ∙ sym (then_both (datum_cmp (key_item (value_at e.fields p)) (key_item (value_at f.fields p)))
    (data_cmp (data_of (map (λ path. key_item (value_at e.fields path)) ps)) (data_of (map (λ path. key_item (value_at f.fields path)) ps))))

value_equal : (d e : Option Datum) → same_value d e ≡ true → d ≡ e
value_equal None None h = refl
value_equal None (Some e) h = cc
value_equal (Some d) None h = cc
value_equal (Some d) (Some e) h = ap Some (same_datum d e h)

values_equal : (ds es : List (Option Datum)) → same_values ds es ≡ true → ds ≡ es
values_equal [] [] h = refl
values_equal [] (e ∷ es) h = cc
values_equal (d ∷ ds) [] h = cc
values_equal (d ∷ ds) (e ∷ es) h =
    ap₂ (λ x xs. x ∷ xs) (value_equal d e (both_left (same_value d e) (same_values ds es) h)) (values_equal ds es (both_right (same_value d e) (same_values ds es) h))

-- keys that are the same are one
pub key_equal : (paths : List (List ByteString)) (e : Event) (k : Key) → same_key (key_at paths e) k ≡ true → key_at paths e ≡ k
key_equal paths e (values es) h = ap values (values_equal (map (λ path. value_at e.fields path) paths) es h)
key_equal paths e (fields fs) h = cc

pub key_own : (paths : List (List ByteString)) (e : Event) → same_key (key_at paths e) (key_at paths e) ≡ true
key_own paths e = key_same paths e e ∙ own_datum (key_datum paths e)
