use Rattle.std.proofs.Common.{◌∙◌, Some, length, ap}
use Rattle.std.proofs.lemmas.List.{length-map}
use Rattle.vx_plan.specs.declared.stage.Stage.{Stage}
use Rattle.vx_record.specs.Stages.{stages_of}
use Rattle.vx_places.proofs.Firsts.{first_filled_is}
use Rattle.vx_places.proofs.Making.{held_says}
use Rattle.vx_moves.specs.Keepers.{keeper_at}
use Rattle.vx_moves.proofs.Merging.{keeper_there, kept_step, none_kept, one_wider}
use Rattle.vx_moves.proofs.engine.EngineState.take_kept.Goals as goal

pub keeps_none-first-requires-clause-there : goal.keeps_none-first-requires-clause-there
keeps_none-first-requires-clause-there g c =
    let d = c.args.self.now in
    keeper_there d.keepers.items d.places d.log c.args.i c.requires.stands.keepers c.requires.joins

pub take_away-parcel-requires-clause-lent : goal.take_away-parcel-requires-clause-lent
take_away-parcel-requires-clause-lent g c =
    let d = c.args.self.now in
    let s = c.requires.stands in
    (held_says d.places c.args.i (rw s.size c.requires.within)).1 (s.keepers.apart c.args.i c.requires.joins)

pub returns-clause-steps : goal.returns-clause-steps
returns-clause-steps g c =
    let d = c.args.self.now in
    let s = c.requires.stands in
    let i = c.args.i in
    let as_many = ap length (s.capacities.stages i) ∙ length-map (stages_of d.log i) (λ (stage : Stage). stage.max_events) in
    let first = first_filled_is d.log d.places i (Some c.args.stage) s.legal s.places as_many c.requires.first in
    let none = none_kept d.log i c.keeps_none-first.result (keeper_at d.keepers.items i) s.legal (s.keeps i) c.keeps_none-first.ensures.exact in
    kept_step c.keep.new.keepers i c.args.stage c.take_away-parcel.result s c.requires.joins c.take_away-parcel.ensures.takes c.keep.ensures.took c.requires.may first c.note.ensures
    c.take_away-parcel.ensures.shifts
    (c.took.ensures.knows d.log c.args.stage _ none c.requires.moment s.states)
    c.take_away-parcel.ensures.size c.took.ensures.size c.take_away-parcel.ensures.capacities

pub returns-clause-fit : goal.returns-clause-fit
returns-clause-fit g c = one_wider c.args.i c.args.self.now.keepers.items c.keep.new.keepers.items (λ was is takes. takes.stays) c.keep.ensures.took
