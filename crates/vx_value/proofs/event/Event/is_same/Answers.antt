use Rattle.std.proofs.Common.{◌≡◌, ◌↔◌, IsTrue, sym, ap, subst}
use Rattle.vx_value.specs.declared.event.Event.{Event}
use Rattle.vx_value.proofs.Orders.{named_cmp-IsTotalOrder, named_cmp-IsAntisymmetric}
use Rattle.vx_value.proofs.Sames.{same-fields}
use Rattle.vx_value.proofs.event.Event.is_same.Goals as goal

pub returns-clause-same : goal.returns-clause-same
returns-clause-same c =
    let fields = same-fields c.args.self.now.fields c.args.other.now.fields c.compare.result c.compare.ensures in
    subst (λ b. IsTrue b ↔ (c.args.self.now ≡ c.args.other.now)) (sym c.is_eq.ensures)
    (λ h i. record { fields = fields.0 h i }, λ h. fields.1 (ap (λ (e : Event). e.fields) h))

pub returns-clause-total : goal.returns-clause-total
returns-clause-total c = named_cmp-IsTotalOrder

pub returns-clause-alone : goal.returns-clause-alone
returns-clause-alone c = named_cmp-IsAntisymmetric
