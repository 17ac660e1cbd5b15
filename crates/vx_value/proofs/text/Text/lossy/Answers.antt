use Rattle.std.proofs.Common.{sym, subst, ◌∙◌}
use Rattle.vx_value.specs.Replacement.{StandsFor}
use Rattle.vx_value.proofs.Replacements.{stands, once}
use Rattle.vx_value.proofs.text.Text.lossy.Goals as goal

pub returns-clause-stands : goal.returns-clause-stands
returns-clause-stands c = subst (StandsFor c.args.bytes.now) (sym c.in_ok-text.ensures) (stands c.args.bytes.now)

pub returns-clause-only : goal.returns-clause-only
returns-clause-only c = λ text s. c.in_ok-text.ensures ∙ once (stands c.args.bytes.now) s
