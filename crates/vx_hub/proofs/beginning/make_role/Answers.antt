use Rattle.std.proofs.Common.{◌∙◌, refl, sym}
use Rattle.std.proofs.lemmas.Result.{IfOk-weaker}
use Rattle.vx_hub.specs.Beginning.{IsRoleBut, IsWorkerFor}
use Rattle.vx_hub.proofs.Begun.{worker_but}
use Rattle.vx_hub.proofs.beginning.make_role.Goals as goal

pub returns-then-merges : goal.returns-then-merges
returns-then-merges c = sym c.merges.ensures ∙ c.if-merges.true

pub returns-in-Transform : goal.returns-in-Transform
returns-in-Transform c = (rw c.in-Transform.is refl, sym c.merges.ensures ∙ c.if-merges.false)

pub returns-in-Source : goal.returns-in-Source
returns-in-Source c = let component = c.args.component.now in
    IfOk-weaker c.make_worker.result (IsWorkerFor component.settings) (λ role. IsRoleBut role component) (λ role. worker_but role component) c.make_worker.ensures
