use Rattle.vx_hub.proofs.Kept.{last_bare}
use Rattle.vx_hub.proofs.slots.end_slots.Goals as goal

pub end-requires : goal.end-requires
end-requires c = rw c.in-Some-slot.is at (last_bare c.pop.new.self.items c.in-Some.slot (rw c.in-Some.ensures.items at c.loop-slot.invariant)).1

pub loop-slot-preserved-in-Some-slot : goal.loop-slot-preserved-in-Some-slot
loop-slot-preserved-in-Some-slot c = (last_bare c.pop.new.self.items c.in-Some.slot (rw c.in-Some.ensures.items at c.loop-slot.invariant)).0

pub loop-slot-preserved : goal.loop-slot-preserved
loop-slot-preserved c = (last_bare c.pop.new.self.items c.in-Some.slot (rw c.in-Some.ensures.items at c.loop-slot.invariant)).0
