use Rattle.std.proofs.Common.{◌≡◌, false}
use Rattle.vx_record.specs.Abandoning.{abandoned}
use Rattle.vx_record.proofs.Ceasing.{unabandoned}
use Rattle.vx_landing.proofs.Answering.{none_known, over_known}
use Rattle.vx_hub.proofs.Endings.{live_is}
use Rattle.vx_hub.proofs.hub.Hub.unspent.Goals as goal

pub returns-then-is_none : goal.returns-then-is_none
returns-then-is_none g c =
    let engine = c.args.self.now.engine in
    let live = live_is c.is_settled.result c.is_settled.ensures c.requires.hub.stands.balance in
    (λ e. (live.0 e, unabandoned engine.log (none_known g.P.Port.observed engine c.requires.hub.stands c.if-is_none.ensures)), λ both. live.1 both.0)

pub returns-else-is_none : goal.returns-else-is_none
returns-else-is_none g c =
    let over = over_known g.P.Port.observed c.args.self.now.engine c.requires.hub.stands c.if-is_none.ensures in
    rw c.if-is_none.false (λ e. cc, λ both. let going : abandoned c.args.self.now.engine.log ≡ false = both.1 in cc)
