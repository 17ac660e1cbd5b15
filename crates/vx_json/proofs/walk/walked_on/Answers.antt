use Rattle.std.proofs.Common.{◌≡◌, ◌-◌, length, take, drop, arith}
use Rattle.std.proofs.lemmas.List.{take_all, length-drop}
use Rattle.vx_json.specs.ModeViews.{mode_view, stack_view}
use Rattle.vx_json.specs.Walks.{held_view}
use Rattle.vx_json.proofs.Walks.{level-more}
use Rattle.vx_json.proofs.walk.walked_on.Goals as goal

pub returns-clause-leads : goal.returns-clause-leads
returns-clause-leads c low =
    let bytes = c.args.bytes.now in
    let n = c.in_ok-n.n in
    let rest : take (length bytes - n) (drop n bytes) ≡ drop n bytes = take_all _ _ (omega (arith, length-drop n bytes)) in
    level-more n c.in_ok-mode.more bytes _ (held_view c.args.held) (held_view c.walked.new.held) (mode_view c.standing.result) (mode_view c.in_ok-mode.mode) (stack_view c.args.stack.now.items) (stack_view c.walked.new.stack.items) rest low (c.in_ok-n.ensures.leads low) c.standing.ensures c.in_ok-mode.ensures.leads
