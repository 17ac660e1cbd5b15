use Rattle.std.proofs.Common.{List, take}
use Rattle.std.proofs.lemmas.Result.{IfOk-weaker}
use Rattle.vx_json.specs.Machine.{Frame}
use Rattle.vx_json.specs.ModeViews.{mode_view, stack_view}
use Rattle.vx_json.specs.Runs.{LeadsLevel}
use Rattle.vx_json.proofs.Walks.{level-low}
use Rattle.vx_json.proofs.walk.walked_from.Goals as goal

pub returns-in_default : goal.returns-in_default
returns-in_default c =
    let bytes = c.args.bytes.now in
    let m = mode_view c.args.mode in
    let st = stack_view c.args.stack.now.items in record {
      within = c.ran.ensures.within;
      leads = IfOk-weaker c.ran.result (λ p. (sv : List Frame) → LeadsLevel m sv (take p.1 bytes) (mode_view p.0)) _ (λ p h low. level-low (take p.1 bytes) m (mode_view p.0) st low (h st)) c.ran.ensures.leads;
    }
