use Rattle.std.proofs.Common.{◌∙◌, length, refl, sym, arith}
use Rattle.vx_record.specs.Copies.{counting, next_copy}
use Rattle.vx_record.specs.Sourcing.{must_wait}
use Rattle.vx_moves.proofs.Stepping.{same_stands}
use Rattle.vx_moves.proofs.Moving.{birth_step, length-paired, many_born}
use Rattle.vx_moves.proofs.engine.EngineState.create_batch.Goals as goal

pub returns-in_default-with_capacity-clause-stands : goal.returns-in_default-with_capacity-clause-stands
returns-in_default-with_capacity-clause-stands g c =
    let room = c.reserve_outputs.ensures in
    same_stands c.requires.stands room.same (c.prepare.ensures.knows c.args.self.now.log c.requires.stands.states) refl room.size c.prepare.ensures.size room.capacities

pub returns-in-Err-clause-stands : goal.returns-in-Err-clause-stands
returns-in-Err-clause-stands g c =
    let room = c.reserve_outputs.ensures in
    same_stands c.requires.stands room.same (c.prepare.ensures.knows c.args.self.now.log c.requires.stands.states) c.in-Err.ensures.unchanged
    room.size c.prepare.ensures.size
    room.capacities

pub pair-requires-clause-each : goal.pair-requires-clause-each
pair-requires-clause-each g c = sym c.len-n.ensures ∙ many_born c.in-Ok-start_batch.ensures.creates c.in-Ok-start_batch.ensures.each

pub put_out-requires-clause-room : goal.put_out-requires-clause-room
put_out-requires-clause-room g c =
    let many = sym c.len-n.ensures ∙ many_born c.in-Ok-start_batch.ensures.creates c.in-Ok-start_batch.ensures.each in
    rw (c.pair.ensures, length-paired c.args.events c.in-Ok-start_batch.born.1 many, ← c.len-n.ensures) c.in-Ok-reserve_outputs.ensures.room

pub returns-clause-created : goal.returns-clause-created
returns-clause-created g c =
    let h = c.args.self.now.log in
    let position = c.args.position in
    let room = c.reserve_outputs.ensures in
    let may = c.requires.may in
    let knows = c.prepare.ensures.knows h c.requires.stands.states in
    let mid = same_stands c.requires.stands room.same knows refl room.size c.prepare.ensures.size room.capacities in
    let steps = birth_step mid may (rw c.len-n.ensures at c.in-Ok-start_batch.ensures.creates) c.in-Ok-start_batch.ensures.each
    (rw c.pair.ensures at c.put_out.ensures.puts) c.note.ensures
    (c.born.ensures.knows h (next_copy h) position.stream position.end (counting (next_copy h) (length c.args.events)) c.args.events
    (must_wait h c.args.i) c.in-Ok.ensures.ready
    (omega (arith, c.len-n.ensures, may.few)) knows)
    c.put_out.ensures.size c.born.ensures.size c.put_out.ensures.capacities in
    assumption (c.born.ensures.size ∙ c.prepare.ensures.size, steps)

pub returns-clause-stands : goal.returns-clause-stands
returns-clause-stands g c = (returns-clause-created g c).stands
