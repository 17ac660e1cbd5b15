use Rattle.vx_record.specs.declared.entry.Entry.TheVariants.{Lease}
use Rattle.vx_moves.proofs.engine.EngineState.lease.Given as goal

abbrev pub ghost-note : goal.ghost-note
ghost-note g a = Lease a._shown.now.0 a._shown.now.1 a._shown.now.2 0
