use Rattle.std.proofs.Common.{ℕ, length, subst}
use Rattle.vx_record.specs.Installs.{sink_at}
use Rattle.vx_hub.specs.Leases.{NoneFilled}
use Rattle.vx_hub.proofs.hub.Hub.has_ready_sink.Goals as goal

pub returns-in-None-clause-none : goal.returns-in-None-clause-none
returns-in-None-clause-none g c held sound =
    let engine = c.args.self.now.engine in
    subst (λ (now : ℕ). NoneFilled sink_at engine now (length engine.states)) c.max.ensures c.in-None.ensures.none
