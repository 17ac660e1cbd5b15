use Rattle.std.proofs.Common.{◌∙◌, sym}
use Rattle.std.specs.Prelude.{◌==◌}
use Rattle.std.proofs.lemmas.Bool.{and_right}
use Rattle.vx_record.specs.declared.entry.Entry.TheVariants.{Confirm}
use Rattle.vx_counts.proofs.Stays.{others_stay}
use Rattle.vx_instances.proofs.states.count_confirm.Goals as goal

-- a confirm that failed counts for nobody
pub returns-else-made : goal.returns-else-made
returns-else-made c = λ h i legal meets. meets ∙ sym (others_stay (Confirm i c.args.positions.now c.args.made) h i legal (and_right (i == i) c.args.made c.if-made.false))
