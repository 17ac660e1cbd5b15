use Rattle.std.proofs.Common.{◌≡◌, ◌≤◌, false}
use Rattle.vx_record.specs.Abandoning.{abandoned}
use Rattle.vx_record.specs.Turns.{is_out}
use Rattle.vx_hub.specs.Pushing.{HasMoved, HaveEntered}
use Rattle.vx_hub.proofs.Moving.{HasBegun}
use Rattle.vx_hub.proofs.pushing.push_steps.Given as goal

abbrev pub invariant-loop : goal.invariant-loop
invariant-loop g l = record {
  moved : HasMoved g.P.Port.observed l.i l.fn.engine l.engine;
  going : abandoned l.engine.log ≡ false;
  unleased : is_out l.engine.log l.i ≡ false;
  entered : HaveEntered l.pushed l.fn.engine.log l.engine.log;
  few : l.pushed ≤ l.counter;
  begun : HasBegun l.counter l.fn.engine l.engine;
}
