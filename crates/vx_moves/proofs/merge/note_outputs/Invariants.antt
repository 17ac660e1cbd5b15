use Rattle.vx_moves.specs.Keepers.{keeper_at}
use Rattle.vx_moves.specs.Merging.{answer_of, discarded_of}
use Rattle.vx_moves.proofs.merge.note_outputs.Given as goal

abbrev pub ghost-note : goal.ghost-note
ghost-note a =
    let shown = a._shown.now in answer_of a.self.now shown.0 shown.1.now (discarded_of (keeper_at shown.2.now.items shown.0))
