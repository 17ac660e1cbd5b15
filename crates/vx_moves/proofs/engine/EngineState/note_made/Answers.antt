use Rattle.std.proofs.Common.{◌≡◌, ◌∙◌, length, sym, arith}
use Rattle.std.specs.Prelude.{count_by}
use Rattle.vx_ledger.specs.Copies.{numbers_of}
use Rattle.vx_record.specs.Records.{capped}
use Rattle.vx_record.specs.Inputs.{to_answer}
use Rattle.vx_record.specs.Tallies.{is_first}
use Rattle.vx_keeping.specs.Answers.{notes_of, kept_behind}
use Rattle.vx_moves.specs.Keepers.{keeper_at}
use Rattle.vx_moves.specs.Merging.{discarded_of}
use Rattle.vx_moves.proofs.Merging.{answered_made, keeper_there, made_fit, many_dropped, many_noted, noted_made, one_wider, room_put}
use Rattle.vx_moves.proofs.engine.EngineState.note_made.Goals as goal

pub dropped-dropped-requires-clause-there : goal.dropped-dropped-requires-clause-there
dropped-dropped-requires-clause-there g c =
    let d = c.args.self.now in
    keeper_there d.keepers.items d.places d.log c.args.i c.requires.made.keepers c.requires.may.joins

pub put_out-outputs-requires-clause-there : goal.put_out-outputs-requires-clause-there
put_out-outputs-requires-clause-there g c =
    let d = c.args.self.now in
    made_fit d.log c.args.i (to_answer d.log c.args.i) (keeper_at d.keepers.items c.args.i) c.requires.made.keeps.made

pub put_out-requires-clause-room : goal.put_out-requires-clause-room
put_out-requires-clause-room g c =
    let d = c.args.self.now in
    let i = c.args.i in
    room_put d.places i c.put_out-outputs.result (keeper_at d.keepers.items i) (keeper_at c.put_out-outputs.new.keepers.items i) c.put_out-outputs.ensures.put.one c.requires.room

pub returns-clause-stands : goal.returns-clause-stands
returns-clause-stands g c =
    let d = c.args.self.now in
    let i = c.args.i in
    let outputs = c.put_out-outputs.result in
    let slots = c.put_out-outputs.new.keepers in
    let put = c.put_out-outputs.ensures.put in
    let gone = discarded_of (keeper_at slots.items i) in
    let same = c.len.ensures ∙ sym (many_noted outputs) in
    let sent : c.len.result ≡ capped (length (notes_of outputs)) = omega (arith, same) in
    let many = many_dropped slots i outputs c.requires.made c.requires.may put c.dropped-dropped.ensures.many in
    let dropped : c.dropped-dropped.result ≡ capped (count_by (is_first d.log i) (numbers_of gone)) = omega (arith, many) in
    rw c.note_outputs.ensures
    (answered_made slots i outputs c.requires.made c.requires.may put
    (c.answered.ensures.knows d.log (notes_of outputs) (numbers_of gone) (kept_behind d.log i outputs gone) sent dropped c.requires.made.states)
    c.put_out.ensures.puts c.put_out.ensures.size c.answered.ensures.size c.put_out.ensures.capacities)

pub returns-clause-noted : goal.returns-clause-noted
returns-clause-noted g c =
    let d = c.args.self.now in
    let i = c.args.i in
    noted_made d.log c.note_outputs.new.log i c.put_out-outputs.result (keeper_at d.keepers.items i) (keeper_at c.put_out-outputs.new.keepers.items i) c.put_out-outputs.ensures.put.one c.note_outputs.ensures

pub returns-clause-fit : goal.returns-clause-fit
returns-clause-fit g c =
    one_wider c.args.i c.args.self.now.keepers.items c.put_out-outputs.new.keepers.items (λ was is puts. puts.stays) c.put_out-outputs.ensures.put
