use Rattle.std.proofs.Common.{◌∙◌, arith}
use Rattle.std.specs.Prelude.{◌-◌}
use Rattle.std.proofs.lemmas.Bool.Decides.{nat_tests}
use Rattle.vx_hub.proofs.Moving.{last_at}
use Rattle.vx_hub.proofs.dropping.does_last.Goals as goal

pub returns-in-Some : goal.returns-in-Some
returns-in-Some c = let some = c.if-many-eq0.false in let size = c.len-many.ensures in
    c.does_full.ensures ∙ (rw (← c.in-Some.ensures) at (last_at c.args.stages.now (c.len-many.result - 1) (grind (arith, nat_tests, some, size))))

pub returns-in-None : goal.returns-in-None
returns-in-None c = let some = c.if-many-eq0.false in let size = c.len-many.ensures in
    absurd (rw (← c.in-None.ensures) at (last_at c.args.stages.now (c.len-many.result - 1) (grind (arith, nat_tests, some, size))))
