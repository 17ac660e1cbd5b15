use Rattle.std.proofs.Common.{[], ◌∷◌, subst}
use Rattle.vx_value.specs.Texts.{ByteString}
use Rattle.vx_condition.specs.Conditions.{Says}
use Rattle.vx_pick.proofs.Saying.{meant_by, passing_bits}
use Rattle.vx_pick.proofs.filter.Filter.ports_for.Goals as goal

pub returns-clause-ports : goal.returns-clause-ports
returns-clause-ports c = λ test earlier mean.
    let holds = c.in_ok-holds.holds in
    let says : Says c.args.self.now c.args.event.now.fields holds =
    subst (λ (text : ByteString). Says text c.args.event.now.fields holds) c.self.view_is c.in_ok-holds.ensures.meaning in
    passing_bits c.args.self.now c.args.event.now test earlier holds c.bits_for.result mean says c.bits_for.ensures

pub returns-clause-meant : goal.returns-clause-meant
returns-clause-meant c =
    let holds = c.in_ok-holds.holds in
    let says : Says c.args.self.now c.args.event.now.fields holds =
    subst (λ (text : ByteString). Says text c.args.event.now.fields holds) c.self.view_is c.in_ok-holds.ensures.meaning in
    let here = meant_by c.args.self.now c.args.event.now.fields holds says in
    (here.0 ∷ [], (here.1, tt))
