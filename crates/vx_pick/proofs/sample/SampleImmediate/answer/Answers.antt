use Rattle.std.proofs.Common.{◌≡◌, Bool, List, ◌∙◌, ap, subst}
use Rattle.std.specs.Prelude.{◌+◌, ◌||◌, ◌==◌, ◌%◌, if◌then◌else◌}
use Rattle.vx_value.specs.declared.event.Event.{Event}
use Rattle.vx_condition.specs.Steps.{Test}
use Rattle.vx_condition.specs.Picking.{held, sample_passes}
use Rattle.vx_plan.specs.Options.{if_any}
use Rattle.vx_record.specs.Transforms.{AllMean, test_of, passing}
use Rattle.vx_pick.specs.Samplers.{Sampler}
use Rattle.vx_pick.proofs.Sampling.{sampled_bits, counted_more, bit_below}
use Rattle.vx_pick.proofs.sample.SampleImmediate.answer.Goals as goal

pub returns-in-Ok-answer-clause-answered : goal.returns-in-Ok-answer-clause-answered
returns-in-Ok-answer-clause-answered c =
    let old = c.args.self.now in
    let excluded = c.in-Ok.excluded in
    let same : c.is_excluded.new.self ≡ old = c.in-Ok.ensures.same in
    let says : (tests : List Test) → AllMean (if_any old.exclude) tests → excluded ≡ test_of old.exclude tests c.args.parcel.event =
    λ tests mean. subst (λ (e : Event). excluded ≡ test_of old.exclude tests e) c.get.ensures (c.in-Ok.ensures.says tests mean) in
    record {
      answered = λ tests earlier mean counted.
          c.in-Ok-answer.ensures.answered (passing (sample_passes old.rate (test_of old.exclude tests)) earlier c.args.parcel.event)
          (c.bits_for.ensures ∙ ap (λ (b : Bool). if b then 1 else 0) c.passes.ensures
          ∙ ap (λ (s : Sampler). if excluded || (s.counted % s.rate == 0) then 1 else 0) same
          ∙ sampled_bits old tests earlier c.args.parcel.event excluded mean counted (says tests mean));
      seen = λ earlier counted.
          counted_more old c.count.new.self earlier c.args.parcel.event excluded
          (c.count.ensures.exclude ∙ ap (λ (s : Sampler). s.exclude) same) says
          (c.count.ensures.counted ∙ ap (λ (s : Sampler). if excluded then s.counted else held (s.counted + 1)) same)
          counted;
      rate = c.count.ensures.rate ∙ ap (λ (s : Sampler). s.rate) same;
      exclude = c.count.ensures.exclude ∙ ap (λ (s : Sampler). s.exclude) same;
    }

pub returns-in-Ok-answer-clause-moves : goal.returns-in-Ok-answer-clause-moves
returns-in-Ok-answer-clause-moves c = c.in-Ok-answer.ensures.moves 1 (bit_below _ c.bits_for.result c.bits_for.ensures)
