use Rattle.std.proofs.Common.{Bool, ap, ◌∙◌}
use Rattle.std.specs.Prelude.{◌||◌, ◌==◌, ◌%◌, ◌+◌, if◌then◌else◌}
use Rattle.vx_condition.specs.Picking.{held}
use Rattle.vx_pick.specs.Samplers.{Sampler}
use Rattle.vx_pick.proofs.Sampling.{sampled_bits, counted_more}
use Rattle.vx_pick.proofs.sample.Sample.ports_for.Goals as goal

pub returns-clause-ports : goal.returns-clause-ports
returns-clause-ports c tests earlier mean counted =
    let excluded = c.in_ok-excluded.excluded in
    c.bits_for-ports.ensures ∙ ap (λ (b : Bool). if b then 1 else 0) c.passes.ensures
    ∙ ap (λ (s : Sampler). if excluded || (s.counted % s.rate == 0) then 1 else 0) c.in_ok-excluded.ensures.same
    ∙ sampled_bits c.args.self.now tests earlier c.args.event.now excluded mean counted (c.in_ok-excluded.ensures.says tests mean)

pub returns-clause-seen : goal.returns-clause-seen
returns-clause-seen c earlier counted =
    let excluded = c.in_ok-excluded.excluded in
    counted_more c.args.self.now c.count.new.self earlier c.args.event.now excluded
    (c.count.ensures.exclude ∙ ap (λ (s : Sampler). s.exclude) c.in_ok-excluded.ensures.same)
    c.in_ok-excluded.ensures.says
    (c.count.ensures.counted ∙ ap (λ (s : Sampler). if excluded then s.counted else held (s.counted + 1)) c.in_ok-excluded.ensures.same)
    counted
