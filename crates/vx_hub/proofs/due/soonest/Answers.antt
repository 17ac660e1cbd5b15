use Rattle.std.proofs.Common.{◌≡◌, ◌+◌, ℕ, Option, length, sym, subst, arith}
use Rattle.vx_hub.specs.Waiting.{IsSoonest}
use Rattle.vx_hub.proofs.Sooner.{one_more}
use Rattle.vx_hub.proofs.due.soonest.Goals as goal

pub loop-i-preserved : goal.loop-i-preserved
loop-i-preserved g c =
    let engine = c.args.engine.now in
    let found = c.waits_until.ensures in
    subst (λ (o : Option ℕ). IsSoonest engine (c.loop-i.i + 1) o) (sym c.sooner-soonest.ensures)
    (one_more engine c.loop-i.i (omega arith) c.loop-i.soonest c.waits_until.result c.loop-i.invariant (record { waits = found.waits; settled = found.settled; open_at = found.open }))

pub returns : goal.returns
returns g c =
    let all : c.loop-i.i ≡ length c.args.engine.now.states = omega arith in
    subst (λ (n : ℕ). IsSoonest c.args.engine.now n c.loop-i.soonest) all c.loop-i.invariant
