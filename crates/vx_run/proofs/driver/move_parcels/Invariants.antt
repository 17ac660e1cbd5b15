use Rattle.std.proofs.Common.{◌≡◌}
use Rattle.vx_record.specs.Additions.{OnlyAdds}
use Rattle.vx_hub.specs.Standing.{IsHub}
use Rattle.vx_run.specs.Moments.{IsTimeless}
use Rattle.vx_run.proofs.driver.move_parcels.Given as goal

abbrev pub invariant-loop-moved : goal.invariant-loop-moved
invariant-loop-moved g l = record {
  hub : IsHub g.P.Port.observed l.hub;
  on : OnlyAdds IsTimeless l.fn.hub.engine.log l.hub.engine.log;
  latest : l.hub.engine.run.latest ≡ l.fn.hub.engine.run.latest;
}
