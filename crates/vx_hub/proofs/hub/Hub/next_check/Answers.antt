use Rattle.std.proofs.Common.{◌≡◌}
use Rattle.vx_hub.specs.Waiting.{ComesBy}
use Rattle.vx_hub.proofs.Mergers.{each_merger}
use Rattle.vx_hub.proofs.hub.Hub.next_check.Goals as goal

pub returns-clause-only : goal.returns-clause-only
returns-clause-only g c sound = let hub = c.args.self.now in
    let same : c.as_slice.result.now ≡ hub.mergers.items = c.as_slice.ensures.value in
    each_merger c.requires.stands hub.mergers.items c.requires.mergers (ComesBy hub.engine c.soonest_check.result) (rw same at c.soonest_check.ensures.only)
