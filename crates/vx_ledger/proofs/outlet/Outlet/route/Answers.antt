use Rattle.std.proofs.Common.{arith, ◌≡◌, length}
use Rattle.vx_ledger.specs.Routing.{targets_of, children_for}
use Rattle.vx_ledger.proofs.RouteLaws.{exchange_route}
use Rattle.vx_ledger.proofs.outlet.Outlet.route.Goals as goal

pub returns-clause-exchange : goal.returns-clause-exchange
returns-clause-exchange c = λ batch place.
    let all = targets_of c.args.ports c.args.self.now in
    let count : c.count-count.result ≡ length all = omega (arith, c.count-count.ensures, c.in-Ok.ensures.few) in
    let children : c.with_last.result ≡ children_for all c.args.batches.now.next c.args.parcel
    = cc (c.with_last.ensures, c.replace-finalizers.ensures.last, count, c.next-next.ensures.next, c.in-Ok.ensures.children) in
    rw (c.replace-finalizers.ensures.rows, children, count)
    (exchange_route all c.args.batches.now.next batch place c.args.parcel c.args.batches.now.open_rows (omega (arith, count)) c.requires.live)
