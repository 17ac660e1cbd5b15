-- By what a component of a plan merges events.
use Rattle.std.specs.Prelude.{Option, Some, None}
use Rattle.vx_plan.specs.declared.settings.Settings.{Settings}
use Rattle.vx_plan.specs.declared.settings.Settings.TheVariants.{Reduce}
use Rattle.vx_reduce.specs.declared.reduce_settings.ReduceSettings.{ReduceSettings}

-- the settings of a reduce, with its conditions as their texts; another type merges nothing
abbrev pub merging_of : Settings → Option ReduceSettings
merging_of (Reduce group_by starts_when ends_when expire flush strategies) = Some (record {
  group_by = group_by;
  starts_when = starts_when;
  ends_when = ends_when;
  expire_after_ms = expire;
  flush_period_ms = flush;
  strategies = strategies;
})
merging_of other = None
