use Rattle.vx_run.proofs.Pacing.{timely_both, timely_on, turned_on, retired_turn}
use Rattle.vx_run.proofs.driver.turn.Goals as goal

pub returns-then-move_parcels-clause-on : goal.returns-then-move_parcels-clause-on
returns-then-move_parcels-clause-on g c =
    let gave = g.C.Clock.gave c.args.clock.now in
    let drained = c.drain.new.hub.engine.log in
    let moved = c.move_parcels.new.hub.engine.log in
    timely_both gave c.args.hub.now.engine.log drained moved c.drain.ensures.on (timely_on gave drained moved c.move_parcels.ensures.on)

pub returns-then-is_some-clause-on : goal.returns-then-is_some-clause-on
returns-then-is_some-clause-on g c =
    turned_on (g.C.Clock.gave c.args.clock.now) c.args.hub.now.engine.log c.drain.new.hub.engine.log c.move_parcels.new.hub.engine.log c.merge-merged.new.hub.engine.log
    c.drain.ensures.on c.move_parcels.ensures.on c.merge-merged.ensures.on

pub returns-then-lease-clause-on : goal.returns-then-lease-clause-on
returns-then-lease-clause-on g c =
    let gave = g.C.Clock.gave c.args.clock.now in
    let moved = c.move_parcels.new.hub.engine.log in
    turned_on gave c.args.hub.now.engine.log c.drain.new.hub.engine.log moved c.lease.new.hub.engine.log
    c.drain.ensures.on c.move_parcels.ensures.on (timely_both gave moved c.merge-merged.new.hub.engine.log c.lease.new.hub.engine.log c.merge-merged.ensures.on c.lease.ensures.on)

pub returns-then-retire-clause-on : goal.returns-then-retire-clause-on
returns-then-retire-clause-on g c =
    let gave = g.C.Clock.gave c.args.clock.now in
    let moved = c.move_parcels.new.hub.engine.log in
    retired_turn gave c.args.hub.now.engine.log c.drain.new.hub.engine.log moved c.lease.new.hub.engine.log c.retire.new.hub.engine.log
    c.drain.ensures.on c.move_parcels.ensures.on (timely_both gave moved c.merge-merged.new.hub.engine.log c.lease.new.hub.engine.log c.merge-merged.ensures.on c.lease.ensures.on) c.retire.ensures.on

pub returns-clause-on : goal.returns-clause-on
returns-clause-on g c =
    let gave = g.C.Clock.gave c.args.clock.now in
    let moved = c.move_parcels.new.hub.engine.log in
    retired_turn gave c.args.hub.now.engine.log c.drain.new.hub.engine.log moved c.lease.new.hub.engine.log c.retire.new.hub.engine.log
    c.drain.ensures.on c.move_parcels.ensures.on (timely_both gave moved c.merge-merged.new.hub.engine.log c.lease.new.hub.engine.log c.merge-merged.ensures.on c.lease.ensures.on) c.retire.ensures.on
