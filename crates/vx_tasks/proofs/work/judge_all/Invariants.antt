use Rattle.std.proofs.Common.{◌<◌, ◌++◌, List, take}
use Rattle.vx_value.specs.declared.event.Event.{Event}
use Rattle.vx_plan.specs.declared.settings.Settings.{Settings}
use Rattle.vx_plan.specs.Options.{conditions_of}
use Rattle.vx_pick.specs.Picks.{Picks, StandsFor, AreMeant}
use Rattle.vx_tasks.specs.Doing.{events_in, AllPicked}
use Rattle.vx_tasks.proofs.work.judge_all.Given as goal

abbrev pub invariant-loop-i : goal.invariant-loop-i
invariant-loop-i l = record {
  ports : (settings : Settings) (earlier : List Event) → Picks settings l.fn.picker → StandsFor l.fn.picker earlier →
      AllPicked settings earlier (events_in (take l.i l.parcels.items)) l.ports;
  meant : (settings : Settings) → Picks settings l.fn.picker → 0 < l.i → AreMeant (conditions_of settings);
  stands : (earlier : List Event) → StandsFor l.fn.picker earlier → StandsFor l.picker (earlier ++ events_in (take l.i l.parcels.items));
  picks : (settings : Settings) → Picks settings l.fn.picker → Picks settings l.picker;
}
