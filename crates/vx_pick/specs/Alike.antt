-- Values that are the same are fed alike.
use Rattle.std.proofs.Common.{◌≡◌, IsTrue, refl, ap}
use Rattle.std.specs.declared.cmp.Ordering.{Ordering}
use Rattle.std.specs.declared.cmp.Ordering.TheVariants.{Less, Equal, Greater}
use Rattle.std.specs.Ordering.{eq_by_cmp, is_eq}
use Rattle.vx_value.specs.Datum.{Datum}
use Rattle.vx_value.specs.Orders.{datum_cmp}
use Rattle.vx_value.proofs.Orders.{datum_cmp-IsAntisymmetric}
use Rattle.vx_pick.specs.Hashing.{datum_fed}

pub equal_true : (o : Ordering) → IsTrue (is_eq o) → o ≡ Equal
equal_true Less h = cc
equal_true Equal h = refl
equal_true Greater h = cc

-- values of which neither comes first are one
pub one_value : (d e : Datum) → IsTrue (eq_by_cmp datum_cmp d e) → d ≡ e
one_value d e h = datum_cmp-IsAntisymmetric d e (equal_true (datum_cmp d e) h)

pub fed_alike : (d e : Datum) → IsTrue (eq_by_cmp datum_cmp d e) → datum_fed d ≡ datum_fed e
fed_alike d e h = ap datum_fed (one_value d e h)
