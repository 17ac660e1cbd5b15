use Rattle.std.proofs.Common.{IfOk, subst, sym}
use Rattle.vx_ledger.specs.Ledger.{AreLive}
use Rattle.vx_balance.specs.Promises.{Splits}
use Rattle.vx_balance.proofs.Owning.{live_enough}
use Rattle.vx_balance.proofs.Steps.{splits_of}
use Rattle.vx_balance.proofs.balance.Balance.split.Goals as goal

pub split-requires-clause-live : goal.split-requires-clause-live
split-requires-clause-live c =
    let held = c.requires.held in
    subst (λ account. AreLive account c.args.parent) (sym c.self.view_is) (live_enough c.args.self.now held.known c.args.parent held.balances held.held)

pub returns-clause-splits : goal.returns-clause-splits
returns-clause-splits c =
    let e = c.split.ensures in
    subst (λ old. IfOk c.split.result (λ children. Splits c.args.k c.args.parent children old c.split.new.self)) c.self.view_is
    (splits_of c.args.k c.args.parent c.self.inside.batches c.split.new.self c.split.result e.children e.next e.rows e.exchange e.kept)
