use Rattle.std.proofs.Common.{◌∙◌, Some, length, ap}
use Rattle.std.proofs.lemmas.List.{length-map}
use Rattle.vx_plan.specs.declared.stage.Stage.{Stage}
use Rattle.vx_record.specs.Stages.{stages_of}
use Rattle.vx_places.proofs.Firsts.{first_filled_is}
use Rattle.vx_moves.proofs.Keepers.{room_seen, seen_alone, spares_other}
use Rattle.vx_moves.proofs.Stepping.{never_both}
use Rattle.vx_moves.proofs.Moving.{moves_step, none_held, unfull}
use Rattle.vx_moves.proofs.engine.EngineState.take.Goals as goal

pub returns-clause-steps : goal.returns-clause-steps
returns-clause-steps g c =
    let d = c.args.self.now in
    let s = c.requires.stands in
    let i = c.args.i in
    let as_many = ap length (s.capacities.stages i) ∙ length-map (stages_of d.log i) (λ (stage : Stage). stage.max_events) in
    let first = first_filled_is d.log d.places i (Some c.args.stage) s.legal s.places as_many c.requires.first in
    let room = unfull d.log d.places i s.legal s.places s.capacities c.requires.room in
    moves_step s c.take.ensures.moves (assumption) tt (spares_other d.log i (seen_alone d.places d.log i s.keepers.apart (room_seen d.places i c.requires.room))) tt (λ oldest. assumption (first, room, c.requires.may)) (never_both c.requires.may.going) c.note.ensures
    (c.took.ensures.knows d.log c.args.stage _ (none_held d.log d.places i _ s.places c.holds-first.ensures.held) c.requires.moment s.states)
    c.take.ensures.size c.took.ensures.size
    c.take.ensures.capacities
