use Rattle.std.proofs.Common.{Some, None}
use Rattle.vx_places.specs.Numbers.{parcels_out}
use Rattle.vx_places.proofs.Losing.{loses_first, keeps_first}
use Rattle.vx_places.proofs.row.take_output_copy.Goals as goal

pub returns-in-Some-clause-loses : goal.returns-in-Some-clause-loses
returns-in-Some-clause-loses c = rw (c.in_ok-ports.ensures.some, c.put_back.ensures.items)
    (loses_first c.in-Ok.copy c.in_ok-ports.field-0.parcel (Some c.in-Some.parcel) (parcels_out c.pop.new.self.items) (rw c.in-Some.is at c.in-Ok.ensures.loses))

pub returns-in-Some-clause-on : goal.returns-in-Some-clause-on
returns-in-Some-clause-on c = rw (c.in_ok-ports.ensures.some, c.put_back.ensures.items)
    (keeps_first c.in_ok-ports.field-0.ports c.in-Ok.copy c.in_ok-ports.field-0.parcel (Some c.in-Some.parcel) c.pop.new.self.items (rw c.in-Some.is at c.in-Ok.ensures.loses))

pub returns-in-None-clause-loses : goal.returns-in-None-clause-loses
returns-in-None-clause-loses c = rw c.in_ok-ports.ensures.some
    (loses_first c.in-Ok.copy c.in_ok-ports.field-0.parcel None (parcels_out c.pop.new.self.items) (rw c.in-None.is at c.in-Ok.ensures.loses))
