use Rattle.std.specs.Prelude.{length}
use Rattle.vx_record.specs.declared.entry.Entry.TheVariants.{Born}
use Rattle.vx_record.specs.Copies.{counting, next_copy}
use Rattle.vx_record.specs.Sourcing.{must_wait}
use Rattle.vx_moves.proofs.engine.EngineState.create_batch.Given as goal

abbrev pub ghost-note : goal.ghost-note
ghost-note g a =
    let shown = a._shown.now in
    let next = next_copy a.self.now in
    Born shown.0 next next (counting next (length shown.1.now)) shown.1.now (must_wait a.self.now shown.0) shown.2.stream shown.2.end
