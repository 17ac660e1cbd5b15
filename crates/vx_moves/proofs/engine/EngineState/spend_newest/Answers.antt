use Rattle.std.proofs.Common.{◌∙◌}
use Rattle.vx_moves.proofs.Leaving.{each_both}
use Rattle.vx_moves.proofs.Spending.{put_so, spendable, spent_step, waits_some}
use Rattle.vx_moves.proofs.engine.EngineState.spend_newest.Goals as goal

pub unreachable-requires : goal.unreachable-requires
unreachable-requires g c =
    let s = c.requires.stands in
    waits_some c.args.self.now.log c.args.self.now.places c.args.i c.args.target c.args.child s.legal s.places c.requires.oldest c.in_default.ensures.empty

pub settle-requires : goal.settle-requires
settle-requires g c =
    let h = c.args.self.now.log in
    let n = c.in-Some.lost.copy.number in
    let is = spendable c.requires.stands c.requires.may c.in-Some.ensures.loses in
    let so = put_so c.requires.stands c.in-Some.ensures.loses in
    assumption (is, c.dropped.ensures.knows h c.args.i n so.copies so.put so.is c.requires.stands.states is.legal)

pub returns : goal.returns
returns g c = record {
  spent = spent_step c.requires.stands c.requires.may c.in-Some.ensures.loses c.settle.ensures.settled c.spend_waiting.ensures.size c.spend_waiting.ensures.capacities
      (c.settle.ensures.size ∙ c.dropped.ensures.size) (each_both _ _ _ c.dropped.ensures.stays c.settle.ensures.stays);
}
