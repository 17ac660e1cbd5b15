use Rattle.std.proofs.Common.{arith, refl, sym, ap, ◌∙◌, inl, inr, length}
use Rattle.std.proofs.lemmas.Bool.{cases_eq, cases_lt}
use Rattle.std.proofs.lemmas.Option.{slice_get_past}
use Rattle.vx_places.specs.Views.{stage_items}
use Rattle.vx_places.proofs.Written.{read}
use Rattle.vx_places.proofs.looks.are_empty.Goals as goal

pub returns-then-not-is_empty : goal.returns-then-not-is_empty
returns-then-not-is_empty c = (
  λ is. absurd cc,
  λ none.
      let here = ap stage_items (read c.args.stages.now c.loop-stage.stage-index c.stage-item.result c.loop-stage-test.true c.stage-item.is) in
      absurd (cc (c.is_empty.ensures.1 (sym here ∙ none c.loop-stage.stage-index), c.if-not-is_empty.true)),
)

pub loop-stage-preserved : goal.loop-stage-preserved
loop-stage-preserved c s below =
    let here = ap stage_items (read c.args.stages.now c.loop-stage.stage-index c.stage-item.result c.loop-stage-test.true c.stage-item.is) in
    elim (cases_eq s c.loop-stage.stage-index) [
      | inl same ↦ rw same (here ∙ c.is_empty.ensures.0 c.if-not-is_empty.false)
      | inr other ↦ c.loop-stage.invariant s (omega (arith, other, below))
    ]

pub returns : goal.returns
returns c = (
  λ is s. elim (cases_lt s (length c.args.stages.now)) [
    | inl below ↦ c.loop-stage.invariant s (omega (arith, below, c.loop-stage-test.false))
    | inr past ↦ ap stage_items (slice_get_past c.args.stages.now s past)
  ],
  λ none. refl,
)
