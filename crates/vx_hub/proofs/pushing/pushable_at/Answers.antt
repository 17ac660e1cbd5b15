use Rattle.std.proofs.Common.{◌≡◌, ◌∙◌, ℕ, List, Some, None, sym}
use Rattle.vx_places.specs.declared.row.Row.{Row}
use Rattle.vx_places.specs.Calls.{IsOldestFor, waiting_target}
use Rattle.vx_places.proofs.Looking.{oldest_target}
use Rattle.vx_places.proofs.Written.{if_none}
use Rattle.vx_hub.proofs.pushing.pushable_at.Goals as goal

-- the child at a place is for the target for which it is the oldest
same_target : (rows : List Row) (i t u k : ℕ) → Some t ≡ waiting_target rows i k → IsOldestFor rows i u k → u ≡ t
same_target rows i t u k at oldest = let both : Some t ≡ Some u = at ∙ oldest_target rows i u k oldest in cc

-- and it is one
no_target : (rows : List Row) (i u k : ℕ) → None ≡ waiting_target rows i k → IsOldestFor rows i u k → ⊥
no_target rows i u k at oldest = let both : None ≡ Some u = at ∙ oldest_target rows i u k oldest in cc

pub returns-in_err-target-clause-none : goal.returns-in_err-target-clause-none
returns-in_err-target-clause-none g c = if_none c.from_residual.result (λ pass at.
    no_target c.args.engine.now.places c.args.i pass.target c.args.child (sym c.in_err-target.was ∙ c.target_at.ensures) (rw at at pass.oldest))

pub returns-in_err-stage-clause-none : goal.returns-in_err-stage-clause-none
returns-in_err-stage-clause-none g c = if_none c.from_residual-in_err-stage.result (λ pass at.
    let same = same_target c.args.engine.now.places c.args.i c.in_ok-target.target pass.target c.args.child
    (sym c.in_ok-target.was ∙ c.target_at.ensures) (rw at at pass.oldest) in
    c.in_err-stage.ensures.none pass.stage (rw same at pass.room) (rw same at pass.drops))

pub returns-clause-oldest : goal.returns-clause-oldest
returns-clause-oldest g c =
    let oldest = c.in_ok-_oldest.ensures.oldest in
    let same = same_target c.args.engine.now.places c.args.i c.in_ok-target.target c.in_ok-_oldest._oldest c.args.child
    (sym c.in_ok-target.was ∙ c.target_at.ensures) oldest in
    rw same at oldest
