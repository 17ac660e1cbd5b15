use Rattle.std.proofs.Common.{◌≡◌, ◌≤◌, false, Some, subst, string_bytes, lit≤}
use Rattle.std.proofs.lemmas.Result.{IfOk-weaker}
use Rattle.serde_json.specs.Data.{depth}
use Rattle.serde_json.specs.Read.{read, max_depth}
use Rattle.serde_json.specs.Written.{has_float, compact_text}
use Rattle.vx_checkpoint.specs.Document.{document_of}
use Rattle.vx_checkpoint.proofs.Marks.{no_float}
use Rattle.vx_checkpoint.proofs.document.text_of.Goals as goal

pub returns-clause-compact : goal.returns-clause-compact
returns-clause-compact c =
    IfOk-weaker c.to_string.result _ _
    (λ s f. subst (λ d. has_float d ≡ false → string_bytes s ≡ compact_text d) c.in_ok-value.ensures f (no_float c.args.path.now c.args.offset))
    c.to_string.ensures.text

pub returns-clause-read : goal.returns-clause-read
unfolding document_of
returns-clause-read c =
    IfOk-weaker c.to_string.result _ _
    (λ s f. subst (λ d. depth d ≤ max_depth → read (string_bytes s) ≡ Some d) c.in_ok-value.ensures f (lit≤ tt))
    c.to_string.ensures.reads_back
