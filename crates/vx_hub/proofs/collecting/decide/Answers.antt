use Rattle.std.proofs.Common.{◌∙◌, refl, sym}
use Rattle.vx_hub.proofs.Leases.{may_attempt}
use Rattle.vx_hub.proofs.collecting.decide.Goals as goal

pub returns-then-is_closed_out : goal.returns-then-is_closed_out
returns-then-is_closed_out g c = record { given = may_attempt c.requires.stands c.requires.out (sym c.is_closed_out.ensures ∙ c.if-is_closed_out.true); sinks = refl; unclosed = λ is. (let no : ⊥ = cc in absurd no) }
