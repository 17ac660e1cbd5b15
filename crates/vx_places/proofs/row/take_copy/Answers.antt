use Rattle.std.proofs.Common.{Some, None}
use Rattle.vx_places.proofs.Losing.{loses_first}
use Rattle.vx_places.proofs.row.take_copy.Goals as goal

pub returns-in-Some-clause-loses : goal.returns-in-Some-clause-loses
returns-in-Some-clause-loses c = rw (c.in_ok-pop.ensures.some, c.put_back.ensures.items)
    (loses_first c.in-Ok.copy c.in_ok-pop.field-0 (Some c.in-Some.parcel) c.pop.new.self.items (rw c.in-Some.is at c.in-Ok.ensures.loses))

pub returns-in-None-clause-loses : goal.returns-in-None-clause-loses
returns-in-None-clause-loses c = rw c.in_ok-pop.ensures.some
    (loses_first c.in-Ok.copy c.in_ok-pop.field-0 None c.pop.new.self.items (rw c.in-None.is at c.in-Ok.ensures.loses))
