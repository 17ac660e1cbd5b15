use Rattle.vx_places.proofs.Making.{last_empty}
use Rattle.vx_places.proofs.row.end_stages.Goals as goal

pub end-requires : goal.end-requires
end-requires c = (last_empty c.pop.new.self.items c.in-Some.stage (rw c.in-Some.ensures.items at c.loop-stage.invariant)).1

pub loop-stage-preserved : goal.loop-stage-preserved
loop-stage-preserved c = (last_empty c.pop.new.self.items c.in-Some.stage (rw c.in-Some.ensures.items at c.loop-stage.invariant)).0
