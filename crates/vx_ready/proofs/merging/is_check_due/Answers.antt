use Rattle.std.proofs.Common.{ℕ, ◌≤◌, Option, subst}
use Rattle.std.specs.Prelude.{IsSomeAnd}
use Rattle.vx_ready.proofs.Checking.{not_reached}
use Rattle.vx_ready.proofs.merging.is_check_due.Goals as goal

pub returns-in-Some-clause-early : goal.returns-in-Some-clause-early
returns-in-Some-clause-early g c off fit host none tick =
    not_reached c.check_due.result c.in-Some.moment c.args.now c.in-Some.is off (c.check_due.ensures.only fit host none c.args.now tick)

pub returns-in-None-clause-early : goal.returns-in-None-clause-early
returns-in-None-clause-early g c off fit host none tick =
    subst (λ (o : Option ℕ). IsSomeAnd o (λ m. m ≤ c.args.now)) c.in-None.is (c.check_due.ensures.only fit host none c.args.now tick)
