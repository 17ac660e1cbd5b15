use Rattle.std.proofs.Common.{sym, ◌∙◌}
use Rattle.vx_ends.proofs.ScriptPassing.{same_observed-trans, observed_passed, upcoming_passed}
use Rattle.vx_ends.specs.Script.{progress_of}
use Rattle.vx_ends.proofs.script.live_place.Goals as goal

pub loop-place-preserved : goal.loop-place-preserved
loop-place-preserved c =
    let steps = c.args.steps.now in
    let place = c.loop-place.place in
    let passes = sym c.is_passed_at.ensures ∙ c.if-is_passed_at.true in
    record {
      past = same_observed-trans _ (progress_of steps place.step place.offset).past _ c.loop-place.invariant.past (observed_passed steps place.step place.offset c.loop-place-test.true passes);
      rest = upcoming_passed steps place.step place.offset _ c.loop-place-test.true c.loop-place.invariant.past passes ∙ c.loop-place.invariant.rest;
    }
