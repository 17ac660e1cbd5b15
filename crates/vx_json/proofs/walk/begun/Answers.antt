use Rattle.std.proofs.Common.{take}
use Rattle.vx_value.specs.Values.{datum_of}
use Rattle.vx_json.specs.Machine.{AtValue, AtEnd}
use Rattle.vx_json.specs.ModeViews.{stack_view}
use Rattle.vx_json.proofs.Walks.{level-low}
use Rattle.vx_json.proofs.walk.begun.Goals as goal

pub returns-in-Some-clause-leads : goal.returns-in-Some-clause-leads
returns-in-Some-clause-leads c low =
    let st = stack_view c.args.stack.now.items in
    let q = rw c.in-Some.is at c.in_ok-value.ensures in
    level-low (take c.in-Some.n c.args.bytes.now) AtValue (AtEnd (datum_of c.in-Some.value)) st low (q.leads st)
