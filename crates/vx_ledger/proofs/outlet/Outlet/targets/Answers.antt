use Rattle.std.proofs.Common.{arith, sym, ◌∙◌, ◌<◌, ◌^◌, [], take, All}
use Rattle.std.proofs.lemmas.List.Elements.{All-same, All-take}
use Rattle.vx_ledger.specs.Routing.{targets_from}
use Rattle.vx_ledger.proofs.RouteLaws.{targets_from_named, targets_from_other, targets_from_below}
use Rattle.vx_ledger.proofs.outlet.Outlet.targets.Goals as goal
use Rattle.vx_ledger.proofs.outlet.Outlet.targets.Goals.{then-is_named+in_ok-extend_from_slice, else-is_named}

pub loop-port-preserved : goal.loop-port-preserved
loop-port-preserved c =
    let lists = c.self.inside.ports.items in
    elim c.if-is_named.branch [
      | then-is_named+in_ok-extend_from_slice w ↦ (let more = targets_from_named c.args.ports c.loop-port.port lists w.index.result.now (omega arith) (sym c.is_named.ensures ∙ w.if-is_named.true) in rw (more, w.targets-is, w.in_ok-extend_from_slice.ensures.items, w.as_slice.ensures) (cc))
      | else-is_named w ↦ (let more = targets_from_other c.args.ports c.loop-port.port lists [] (omega arith) (sym c.is_named.ensures ∙ w.if-is_named.false) in rw more (cc))
    ]

pub returns-clause-instances : goal.returns-clause-instances
returns-clause-instances c =
    let front = take c.loop-port.port c.self.inside.ports.items in
    All-same
    (λ t. t < 2 ^ 32)
    c.loop-port.targets.items
    (targets_from c.args.ports 0 front)
    c.loop-port.invariant
    (targets_from_below c.args.ports 0 front (All-take (λ targets. All (λ t. t < 2 ^ 32) targets) c.loop-port.port c.self.inside.ports.items c.self.invariant))
