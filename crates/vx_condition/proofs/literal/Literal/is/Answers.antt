use Rattle.vx_condition.proofs.Texts.{compared_so}
use Rattle.vx_condition.proofs.literal.Literal.is.Goals as goal

pub returns-in-Words-value : goal.returns-in-Words-value
returns-in-Words-value c =
    rw (c.in-Words.is, c.in-Words-value.is)
    (compared_so c.eq.result c.as_str.result.now c.as_str-in-Words-value.result.now c.in-Words.words c.in-Words-value.that c.eq.ensures c.as_str.ensures c.as_str-in-Words-value.ensures)
