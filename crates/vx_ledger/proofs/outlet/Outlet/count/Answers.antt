use Rattle.std.proofs.Common.{arith, sym, ap, ℕ, List, ◌∙◌, length, [], length-append}
use Rattle.vx_ledger.proofs.RouteLaws.{targets_from_named, targets_from_other}
use Rattle.vx_ledger.proofs.outlet.Outlet.count.Goals as goal
use Rattle.vx_ledger.proofs.outlet.Outlet.count.Goals.{then-is_named, else-is_named}

pub loop-port-preserved : goal.loop-port-preserved
loop-port-preserved c =
    let lists = c.self.inside.ports.items in
    elim c.if-is_named.branch [
      | then-is_named w ↦ (let more = targets_from_named c.args.ports c.loop-port.port lists w.index.result.now (omega arith) (sym c.is_named.ensures ∙ w.if-is_named.true) in rw (more, length-append) (omega (arith, w.count-is, w.saturating_add-count.ensures, w.len.ensures, ap (λ (ts : List ℕ). length ts) w.index.ensures, c.loop-port.invariant)))
      | else-is_named w ↦ (let more = targets_from_other c.args.ports c.loop-port.port lists [] (omega arith) (sym c.is_named.ensures ∙ w.if-is_named.false) in rw more (cc))
    ]
