use Rattle.std.specs.Prelude.{◌==◌, ◌&&◌}
use Rattle.std.specs.List.{list_any}
use Rattle.std.proofs.Common.{refl}
use Rattle.vx_record.specs.declared.child.Child.{Child}
use Rattle.vx_record.specs.Copies.{contains}
use Rattle.vx_record.specs.Parcels.{port_list}
use Rattle.vx_examples.specs.RefusedFanOuts.{swapped_targets, copy_of_another_child, notice_before_the_third, delivered_past_a_refusal, errored_by_a_refusal}
use Rattle.vx_examples.proofs.Refusals.{never, different}
use Rattle.vx_examples.proofs.refused_fan_outs.Goals as goal

pub returns-clause-notice_before_the_third : goal.returns-clause-notice_before_the_third
returns-clause-notice_before_the_third c = never notice_before_the_third (λ l. let e = l.0.row.due in cc)

pub returns-clause-delivered_past_a_refusal : goal.returns-clause-delivered_past_a_refusal
returns-clause-delivered_past_a_refusal c = never delivered_past_a_refusal (λ l. let e = l.0.row.folded in cc)

pub returns-clause-errored_by_a_refusal : goal.returns-clause-errored_by_a_refusal
returns-clause-errored_by_a_refusal c = never errored_by_a_refusal (λ l. let e = l.0.row.folded in cc)

pub returns-clause-swapped_targets : goal.returns-clause-swapped_targets
unfolding port_list
returns-clause-swapped_targets c = never swapped_targets (λ l. different (list_any (λ (c : Child). c.target == 2 && contains c.copies 1)) refl refl l.0.row.split.made)

pub returns-clause-copy_of_another_child : goal.returns-clause-copy_of_another_child
unfolding port_list
returns-clause-copy_of_another_child c = never copy_of_another_child (λ l. different (list_any (λ (c : Child). c.target == 3 && contains c.copies 2)) refl refl l.0.row.split.made)
