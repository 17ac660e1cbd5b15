use Rattle.std.proofs.Common.{◌≡◌, [], Some, sym, ◌∙◌, ap}
use Rattle.vx_plan.specs.declared.settings.Settings.TheVariants as settings
use Rattle.vx_plan.specs.Options.{conditions_of, if_any}
use Rattle.vx_run.specs.Merging.{merging_of}
use Rattle.vx_run.proofs.merging.reduce_settings_of.Goals as goal

-- the last condition is that by which a group begins, if there is one, and what is left is that by which one ends
pub returns-in-Reduce : goal.returns-in-Reduce
returns-in-Reduce c =
    let copy = c.in-Reduce in
    let same : c.args.component.now.settings ≡ settings.Reduce copy.group_by copy.starts_when copy.ends_when copy.expire_after_ms copy.flush_period_ms copy.merge_strategies =
    sym c.in_ok-group_by.ensures ∙ copy.is in
    let starts = c.last_for-starts_when.ensures (if_any copy.ends_when) (c.requires ∙ ap conditions_of same) in
    let ends = c.last_for-ends_when.ensures [] starts.1 in
    (λ i. Some (record {
      group_by = copy.group_by;
      starts_when = starts.0 i;
      ends_when = ends.0 i;
      expire_after_ms = copy.expire_after_ms;
      flush_period_ms = copy.flush_period_ms;
      strategies = copy.merge_strategies;
    })) ∙ sym (ap merging_of same)
