use Rattle.std.proofs.Common.{◌≡◌, take}
use Rattle.vx_value.proofs.event.ItemList+Event.copy.Given as goal

abbrev pub invariant-loop-event : goal.invariant-loop-event
invariant-loop-event l = l.events ≡ take l.event-index l.event-items
