use Rattle.std.proofs.Common.{◌≡◌, ◌↔◌, IsTrue, sym, subst}
use Rattle.vx_value.proofs.Orders.{datum_cmp-IsTotalOrder, datum_cmp-IsAntisymmetric}
use Rattle.vx_value.proofs.Sames.{same-values}
use Rattle.vx_value.proofs.value.Value.is_same.Goals as goal

pub returns-clause-same : goal.returns-clause-same
returns-clause-same c =
    subst (λ b. IsTrue b ↔ (c.args.self.now ≡ c.args.other.now)) (sym c.is_eq.ensures)
    (same-values c.args.self.now c.args.other.now c.compare.result c.compare.ensures)

pub returns-clause-total : goal.returns-clause-total
returns-clause-total c = datum_cmp-IsTotalOrder

pub returns-clause-alone : goal.returns-clause-alone
returns-clause-alone c = datum_cmp-IsAntisymmetric
