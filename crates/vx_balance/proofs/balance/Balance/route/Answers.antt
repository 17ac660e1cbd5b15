use Rattle.std.proofs.Common.{subst, sym}
use Rattle.vx_ledger.specs.Ledger.{AreLive}
use Rattle.vx_ledger.specs.Routing.{targets_of, IfChildren}
use Rattle.vx_balance.specs.Promises.{Routes}
use Rattle.vx_balance.proofs.Owning.{live_enough}
use Rattle.vx_balance.proofs.Routing.{routes_of}
use Rattle.vx_balance.proofs.balance.Balance.route.Goals as goal

pub route-requires-clause-live : goal.route-requires-clause-live
route-requires-clause-live c =
    let held = c.requires.held in
    subst (λ account. AreLive account c.args.parcel.finalizers) (sym c.self.view_is) (live_enough c.args.self.now held.known c.args.parcel.finalizers held.balances held.held)

pub returns-clause-routes : goal.returns-clause-routes
returns-clause-routes c =
    let e = c.route.ensures in
    subst (λ old. IfChildren c.route.result (λ children. Routes (targets_of c.args.ports c.args.outlet.now) c.args.parcel children old c.route.new.batches)) c.self.view_is
    (routes_of (targets_of c.args.ports c.args.outlet.now) c.args.parcel c.self.inside.batches c.route.new.batches c.route.result e.children e.next e.rows e.exchange e.kept)
