use Rattle.std.proofs.lemmas.Result.{IfOk-weaker, MatchResult-weaker}
use Rattle.serde_json.specs.View.{view}
use Rattle.vx_checkpoint.proofs.Marks.{fault_of_bytes}
use Rattle.vx_checkpoint.proofs.document.read.Goals as goal

pub returns-in-Ok-clause-says : goal.returns-in-Ok-clause-says
returns-in-Ok-clause-says c =
    let found = c.in-Ok.ensures.ok in
    IfOk-weaker c.checkpoint_of.result _ _ (λ checkpoint e. (found.0, (view c.in-Ok.value, found.1, e))) c.checkpoint_of.ensures.says

pub returns-in-Ok-clause-refused : goal.returns-in-Ok-clause-refused
returns-in-Ok-clause-refused c =
    let found = c.in-Ok.ensures.ok in
    MatchResult-weaker c.checkpoint_of.result c.checkpoint_of.ensures.refused (λ checkpoint h. h)
    (λ fault h. fault_of_bytes c.args.bytes.now (view c.in-Ok.value) found.0 found.1 fault h)
