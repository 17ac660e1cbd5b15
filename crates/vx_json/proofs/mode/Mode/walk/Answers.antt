use Rattle.std.proofs.Common.{List, take}
use Rattle.std.proofs.lemmas.Result.{IfOk-weaker}
use Rattle.vx_json.specs.Machine.{Frame}
use Rattle.vx_json.specs.ModeViews.{mode_view, stack_view}
use Rattle.vx_json.specs.Runs.{LeadsLevel}
use Rattle.vx_json.proofs.Walks.{level-low}
use Rattle.vx_json.proofs.mode.Mode.walk.Goals as goal

pub returns-then-not-may_walk-clause-leads : goal.returns-then-not-may_walk-clause-leads
returns-then-not-may_walk-clause-leads c =
    let bytes = c.args.bytes.now in
    let m = mode_view c.args.self.now in
    let k = mode_view c.run.new.self in
    let st = stack_view c.args.stack.now.items in
    IfOk-weaker c.run.result (λ n. (sv : List Frame) → LeadsLevel m sv (take n bytes) k) _ (λ n h low. level-low (take n bytes) m k st low (h st)) c.run.ensures.leads
