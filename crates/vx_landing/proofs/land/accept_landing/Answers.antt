use Rattle.std.proofs.Common.{refl}
use Rattle.std.proofs.lemmas.Result.{MatchResult-weaker, on_ok_weaker}
use Rattle.vx_record.specs.Makers.{IsFor}
use Rattle.vx_record.proofs.Adding.{adds_both}
use Rattle.vx_landing.proofs.LandedEngine.{back_with, has_returned, came_short, confirmable, out_now, over_behind, over_stays, well_behind}
use Rattle.vx_landing.proofs.States.{LeavesBe, be_stays}
use Rattle.vx_landing.proofs.land.accept_landing.Goals as goal

pub give_back-requires-clause-lent : goal.give_back-requires-clause-lent
give_back-requires-clause-lent g c = let r = c.requires in r.lent c.args.landing.instance r.within (out_now r.stands r.within r.done)

pub note_confirmed-requires-clause-may : goal.note_confirmed-requires-clause-may
note_confirmed-requires-clause-may g c = let r = c.requires in confirmable r.stands r.within r.done c.give_back.ensures.log

pub note_done-landed-requires-clause-back : goal.note_done-landed-requires-clause-back
note_done-landed-requires-clause-back g c =
    let r = c.requires in
    let back = c.give_back.ensures in
    let e = c.note_confirmed.ensures in
    back_with r.stands r.within r.done back.log back.states back.stands.size back.kept e.stands e.log e.leaves
    (r.away c.args.landing.instance (out_now r.stands r.within r.done))

pub returns : goal.returns
returns g c =
    let r = c.requires in
    let i = c.args.landing.instance in
    let back = c.give_back.ensures in
    let confirmed = c.note_confirmed.ensures in
    let done = c.note_done-landed.ensures in
    let unleased = c.complete_return.ensures in
    let first : LeavesBe i c.give_back.new.self c.note_confirmed.new.engine = be_stays confirmed.leaves confirmed.size in
    let last : LeavesBe i c.note_done-landed.new.engine c.complete_return.new.engine =
    record { size = unleased.size; capacities = unleased.capacities; run = unleased.run; others = λ j other. unleased.flags j } in
    let landed = adds_both (IsFor i) _ _ _ (rw back.log at confirmed.only) done.landed.only in
    let only = adds_both (IsFor i) _ _ _ landed unleased.only in
    record {
      unleased = has_returned c.args.engine.now back.capacities back.states back.run first done.landed.leaves last unleased.flags only unleased.unleased unleased.stands
          (λ over. let mid = over_stays (IsFor i) _ _ landed over in record { bare = unleased.bare mid; closed = unleased.closed mid }) r.served r.lent r.away;
      noted = adds_both _ _ _ _ (rw (confirmed.log, back.log, over_behind c.args.engine.now.log i c.args.landing.confirmed) at done.noted) unleased.behind;
      marked = rw (unleased.run, done.marked, confirmed.leaves.run, back.run) refl;
      well = on_ok_weaker c.note_done-landed.result (well_behind c.args.engine.now back.capacities back.states back.run first done.landed.leaves last unleased.flags only unleased.unleased unleased.stands) done.well;
      reason = MatchResult-weaker c.note_done-landed.result done.reason (λ x is. is) (λ short lacks going. came_short short unleased.only unleased.noted lacks going);
      task = λ going. unleased.task (rw (done.landed.leaves.run, confirmed.leaves.run, back.run) going);
    }
