use Rattle.std.proofs.Common.{◌∙◌, sym}
use Rattle.vx_record.specs.Confirms.{is_delivered}
use Rattle.vx_sourcecore.proofs.Prefixing.{cut_passed, prefix_failed}
use Rattle.vx_sourcecore.proofs.prefix.Prefix.notice.Goals as goal

pub returns-then-delivers-clause-noticed : goal.returns-then-delivers-clause-noticed
returns-then-delivers-clause-noticed c judged next births asked reports apart is =
    c.advance.ensures.advanced next births asked
    (cut_passed c.args.self.now c.pass.new.self c.args.notice.batch (is_delivered c.args.notice.status) judged next births asked (sym c.delivers.ensures ∙ c.if-delivers.true) reports apart c.pass.ensures.rest c.pass.ensures.passed is)

pub returns-else-delivers-clause-noticed : goal.returns-else-delivers-clause-noticed
returns-else-delivers-clause-noticed c judged next births asked reports apart is =
    prefix_failed c.args.self.now c.block.new.self c.args.notice.batch (is_delivered c.args.notice.status) judged next births asked (sym c.delivers.ensures ∙ c.if-delivers.false) reports c.block.ensures.rest c.block.ensures.kept c.block.ensures.blocked is
