use Rattle.std.proofs.Common.{◌≡◌, ◌-◌, length, take, drop, arith}
use Rattle.std.proofs.lemmas.List.{take_all, length-drop}
use Rattle.vx_json.specs.ModeViews.{stack_view}
use Rattle.vx_json.specs.Walks.{held_view}
use Rattle.vx_json.proofs.Walks.{on-more}
use Rattle.vx_json.proofs.walk.walked.Goals as goal

pub returns-then-n-eq0-clause-leads : goal.returns-then-n-eq0-clause-leads
returns-then-n-eq0-clause-leads c =
    let bytes = c.args.bytes.now in
    let i = c.loop-n.i in
    let rest : take (length bytes - i) (drop i bytes) ≡ drop i bytes = take_all _ _ (omega (arith, length-drop i bytes)) in
    on-more i c.in_ok-n.n bytes _ (held_view c.args.held.now) c.loop-n.held c.advanced.new.held (stack_view c.args.stack.now.items) (stack_view c.loop-n.stack.items) (stack_view c.advanced.new.stack.items) rest c.loop-n.invariant.leads c.in_ok-n.ensures.leads

pub loop-n-preserved : goal.loop-n-preserved
loop-n-preserved c =
    let bytes = c.args.bytes.now in
    let i = c.loop-n.i in
    let rest : take (length bytes - i) (drop i bytes) ≡ drop i bytes = take_all _ _ (omega (arith, length-drop i bytes)) in
    record {
      within = omega (arith, c.in_ok-n.ensures.within, length-drop i bytes);
      leads = on-more i c.in_ok-n.n bytes _ (held_view c.args.held.now) c.loop-n.held c.advanced.new.held (stack_view c.args.stack.now.items) (stack_view c.loop-n.stack.items) (stack_view c.advanced.new.stack.items) rest c.loop-n.invariant.leads c.in_ok-n.ensures.leads;
    }
