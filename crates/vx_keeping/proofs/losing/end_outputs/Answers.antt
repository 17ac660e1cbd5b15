use Rattle.vx_keeping.proofs.Popping.{last_bare}
use Rattle.vx_keeping.proofs.losing.end_outputs.Goals as goal

pub end_parcel-requires : goal.end_parcel-requires
end_parcel-requires c = (last_bare c.loop-output.rest.items c.in-Some.output c.pop.new.self.items c.in-Some.ensures.items c.loop-output.invariant).0

pub loop-output-preserved : goal.loop-output-preserved
loop-output-preserved c = (last_bare c.loop-output.rest.items c.in-Some.output c.pop.new.self.items c.in-Some.ensures.items c.loop-output.invariant).1
