use Rattle.std.proofs.Common.{◌∷◌, [], IfNone, IfSome, subst, sym}
use Rattle.vx_ledger.specs.Ledger.{AreLive}
use Rattle.vx_balance.specs.Promises.{LeavesOpen, ClosesBatch}
use Rattle.vx_balance.proofs.Owning.{live_enough}
use Rattle.vx_balance.proofs.Steps.{leaves_open, closes_batch}
use Rattle.vx_balance.proofs.balance.Balance.spend.Goals as goal

pub spend-requires : goal.spend-requires
spend-requires c =
    let held = c.requires in
    subst (λ account. AreLive account (c.args.finalizer ∷ [])) (sym c.self.view_is) (live_enough c.args.self.now held.known (c.args.finalizer ∷ []) held.balances held.held)

pub returns-clause-leaves : goal.returns-clause-leaves
returns-clause-leaves c =
    let e = c.spend.ensures in
    subst (λ old. IfNone c.spend.result (LeavesOpen c.args.finalizer c.args.outcome old c.spend.new.self)) c.self.view_is
    (leaves_open c.args.finalizer c.args.outcome c.self.inside.batches c.spend.new.self e.next e.rows e.exchange e.kept c.spend.result e.notice e.last)

pub returns-clause-closes : goal.returns-clause-closes
returns-clause-closes c =
    let e = c.spend.ensures in
    subst (λ old. IfSome c.spend.result (ClosesBatch c.args.finalizer c.args.outcome old c.spend.new.self)) c.self.view_is
    (closes_batch c.args.finalizer c.args.outcome c.self.inside.batches c.spend.new.self e.next e.rows e.exchange e.kept c.spend.result e.notice e.last)
