use Rattle.vx_moves.specs.Answering.{answer_by}
use Rattle.vx_moves.proofs.answer.note_answer.Given as goal

abbrev pub ghost-note : goal.ghost-note
ghost-note a = answer_by a.self.now a._shown.now.0 a._shown.now.1.now
