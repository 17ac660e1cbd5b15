use Rattle.std.proofs.Common.{◌≡◌, ◌∙◌, false, [], length, refl, sym, ap, arith}
use Rattle.std.specs.Prelude.{count_by}
use Rattle.vx_record.specs.Records.{capped}
use Rattle.vx_record.specs.Places.Place.{Held}
use Rattle.vx_record.specs.Shifts.{at}
use Rattle.vx_record.specs.Tallies.{is_first}
use Rattle.vx_tasks.specs.Out.{IsHeld}
use Rattle.vx_moves.specs.Answering.{put_out_of, refused_of, MayAnswerNow}
use Rattle.vx_moves.proofs.Answering.{answer_held, answer_step, each_judged, many_dropped, many_sent, room_for}
use Rattle.vx_moves.proofs.Leaving.{each_stays, capacities_back, capacities_both}
use Rattle.vx_tasks.specs.Joining.{joins_at}
use Rattle.vx_moves.proofs.Stepping.{alone_at, same_stands}
use Rattle.vx_moves.proofs.engine.EngineState.answer.Goals as goal

pub give_back-requires-clause-alone : goal.give_back-requires-clause-alone
give_back-requires-clause-alone g c = rw c.lend-held.ensures.log (alone_at c.args.self.now c.args.i c.requires.stands c.requires.kept)

pub returns-in_default-clause-leaves : goal.returns-in_default-clause-leaves
returns-in_default-clause-leaves g c = record {
  states = rw (c.give_back.ensures.states, c.lend-held.ensures.states) (each_stays c.args.self.now.states);
  capacities = capacities_back c.args.i c.lend-held.result.room c.args.self.now.places c.lend-held.new.self.places c.reserve_outputs.new.self c.give_back.new.self.places
      c.lend-held.ensures.capacities c.reserve_outputs.ensures.capacities c.give_back.ensures.capacities;
  run = c.give_back.ensures.run ∙ c.lend-held.ensures.run;
}

pub divide-passed-requires-clause-each : goal.divide-passed-requires-clause-each
divide-passed-requires-clause-each g c = each_judged c.requires.stands c.requires.may c.lend-held.ensures.held

pub divide-passed-requires-clause-room : goal.divide-passed-requires-clause-room
divide-passed-requires-clause-room g c =
    let each = divide-passed-requires-clause-each g c in
    omega (arith, each, c.len-n.ensures, c.in_ok-room.ensures.capacity)

pub put_out-requires-clause-room : goal.put_out-requires-clause-room
put_out-requires-clause-room g c =
    rw c.divide-passed.ensures.passed
    (room_for c.reserve_outputs.new.self c.args.i c.args.ports.now c.lend-held.result.items (rw c.len-n.ensures at c.in-Ok.ensures.room))

pub give_back-requires-2-clause-stands : goal.give_back-requires-2-clause-stands
give_back-requires-2-clause-stands g c =
    let mid = c.lend-held.new.self in
    let i = c.args.i in
    let ports = c.args.ports.now in
    let parcels = c.lend-held.result.items in
    let room = c.reserve_outputs.ensures in
    let lent = c.lend-held.ensures in
    let held : IsHeld mid.log i parcels = rw lent.log lent.held in
    let may : MayAnswerNow mid.log i ports = rw lent.log c.requires.may in
    let alone : joins_at mid.log i ≡ false = rw lent.log (alone_at c.args.self.now i c.requires.stands c.requires.kept) in
    let stood = same_stands lent.stands room.same lent.stands.states refl room.size refl room.capacities in
    let passes = c.len.ensures ∙ ap length c.divide-passed.ensures.passed ∙ sym (many_sent lent.stands may held) in
    let stays = c.len-2.ensures ∙ ap length c.divide-passed.ensures.stopped ∙ sym (many_dropped lent.stands may held alone) in
    let sent : c.len.result ≡ capped (length (put_out_of mid.log ports (at mid.log (Held i)))) = omega (arith, passes) in
    let dropped : c.len-2.result ≡ capped (count_by (is_first mid.log i) (refused_of ports (at mid.log (Held i)))) = omega (arith, stays) in
    (answer_step stood may held alone (room.same.here (Held i) ∙ lent.lent) (rw c.divide-passed.ensures.passed at c.put_out.ensures.puts)
    (c.answered.ensures.knows mid.log (put_out_of mid.log ports (at mid.log (Held i))) (refused_of ports (at mid.log (Held i))) [] sent dropped lent.stands.states)
    c.note_answer.ensures c.put_out.ensures.size c.answered.ensures.size c.put_out.ensures.capacities).stands

pub give_back-requires-2-clause-lent : goal.give_back-requires-2-clause-lent
give_back-requires-2-clause-lent g c = c.put_out.ensures.puts.put.others (Held c.args.i) refl ∙ c.reserve_outputs.ensures.same.here (Held c.args.i) ∙ c.lend-held.ensures.lent

pub give_back-requires-2-clause-held : goal.give_back-requires-2-clause-held
give_back-requires-2-clause-held g c =
    rw (c.note_answer.ensures, c.lend-held.ensures.log, c.divide-passed.ensures.stopped)
    (answer_held c.requires.stands c.requires.may c.lend-held.ensures.held)

pub give_back-requires-2-clause-alone : goal.give_back-requires-2-clause-alone
give_back-requires-2-clause-alone g c = rw (c.note_answer.ensures, c.lend-held.ensures.log) (alone_at c.args.self.now c.args.i c.requires.stands c.requires.kept)

pub returns-clause-leaves : goal.returns-clause-leaves
returns-clause-leaves g c = record {
  states = rw (c.give_back-2.ensures.states, ← c.lend-held.ensures.states) c.answered.ensures.stays;
  capacities = capacities_back c.args.i c.lend-held.result.room c.args.self.now.places c.lend-held.new.self.places c.put_out.new.self c.give_back-2.new.self.places
      c.lend-held.ensures.capacities
      (capacities_both c.lend-held.new.self.places c.reserve_outputs.new.self c.put_out.new.self c.reserve_outputs.ensures.capacities c.put_out.ensures.capacities)
      (rw c.divide-passed.ensures.room at c.give_back-2.ensures.capacities);
  run = c.give_back-2.ensures.run ∙ c.lend-held.ensures.run;
}
