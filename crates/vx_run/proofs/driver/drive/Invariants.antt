use Rattle.vx_record.specs.Additions.{OnlyAdds}
use Rattle.vx_hub.specs.Standing.{IsHub}
use Rattle.vx_run.specs.Moments.{IsTimely}
use Rattle.vx_run.proofs.driver.drive.Given as goal

abbrev pub invariant-loop : goal.invariant-loop
invariant-loop g l = record {
  hub : IsHub g.P.Port.observed l.hub;
  on : OnlyAdds (IsTimely (g.C.Clock.gave l.clock)) l.fn.hub.engine.log l.hub.engine.log;
  moment : g.C.Clock.gave l.clock l.hub.engine.run.latest;
}
