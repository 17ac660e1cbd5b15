use Rattle.vx_places.proofs.Making.{last_vacant}
use Rattle.vx_places.proofs.rows.end_rows.Goals as goal

pub end_row-requires : goal.end_row-requires
end_row-requires c = (last_vacant c.pop.new.self.items c.in-Some.row (rw c.in-Some.ensures.items at c.loop-row.invariant)).1

pub loop-row-preserved : goal.loop-row-preserved
loop-row-preserved c = (last_vacant c.pop.new.self.items c.in-Some.row (rw c.in-Some.ensures.items at c.loop-row.invariant)).0
