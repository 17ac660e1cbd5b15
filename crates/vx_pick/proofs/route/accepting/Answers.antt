use Rattle.std.proofs.Common.{◌≡◌, ◌<◌, ◌^◌, ◌*◌, ℕ, ◌+◌, List, sym, ◌∙◌, ap, subst, arith}
use Rattle.std.specs.Prelude.{slice_index_or, if◌then◌else◌}
use Rattle.std.proofs.lemmas.List.{set-get_or}
use Rattle.vx_value.specs.Texts.{ByteString}
use Rattle.vx_condition.specs.Conditions.{Says}
use Rattle.vx_record.specs.Transforms.{AllMean}
use Rattle.vx_pick.specs.Picks.{AreMeant}
use Rattle.vx_pick.proofs.Bits.{next_bit, so_far-more, so_far-all, so_far-meant}
use Rattle.vx_pick.proofs.route.accepting.Goals as goal
use Rattle.vx_pick.proofs.route.accepting.Goals.{then-branch, else-branch}

pub loop-condition-preserved : goal.loop-condition-preserved
loop-condition-preserved c =
    let so = c.loop-condition.invariant in
    let texts = c.deref_mut-condition-items.result.now in
    let items = c.loop-condition.condition-items in
    let i = c.loop-condition.condition-index in
    let text = c.condition-item.result in
    let holds = c.in_ok-holds.field-0 in
    let stands : text ≡ slice_index_or texts i text =
    subst (λ (words : List ByteString). text ≡ slice_index_or words i text) so.0 c.condition-item.is in
    let says : Says text c.args.event.now.fields holds =
    subst (λ (word : ByteString). Says word c.args.event.now.fields holds) (sym c.condition-item.is) c.in_ok-holds.ensures.meaning in
    let below : c.if-branch.accepting < c.loop-condition.bit * 2 =
    elim c.if-branch.branch [
      | then-branch w ↦ omega (arith, w.accepting-is, so.2)
      | else-branch w ↦ omega (arith, w.accepting-is, so.2)
    ] in
    let more : c.if-branch.accepting ≡ (if holds then c.loop-condition.accepting + 2 ^ i else c.loop-condition.accepting) =
    elim c.if-branch.branch [
      | then-branch w ↦ rw w.if-branch.true (w.accepting-is ∙ ap (λ (bit : ℕ). c.loop-condition.accepting + bit) so.1)
      | else-branch w ↦ rw w.if-branch.false w.accepting-is
    ] in
    let double = next_bit i in (
      rw c.holds.ensures.same (set-get_or items i text ∙ so.0),
      omega (arith, so.1, double),
      below,
      so_far-more texts c.args.event.now i c.loop-condition.accepting c.if-branch.accepting text holds so.3 c.loop-condition-test.true stands says more,
    )

pub returns-clause-accepting : goal.returns-clause-accepting
returns-clause-accepting c = λ tests mean.
    let read = c.deref_mut-condition-items in
    so_far-all read.result.now c.args.event.now c.loop-condition.condition-index c.loop-condition.accepting c.loop-condition.invariant.3
    (omega (arith, c.loop-condition-test.false, c.loop-condition.auto.condition-index-end)) tests
    (subst (λ (words : List ByteString). AllMean words tests) (sym read.ensures.value) mean)

pub returns-clause-meant : goal.returns-clause-meant
returns-clause-meant c =
    let read = c.deref_mut-condition-items in
    subst AreMeant read.ensures.value (so_far-meant read.result.now c.args.event.now c.loop-condition.condition-index c.loop-condition.accepting c.loop-condition.invariant.3
    (omega (arith, c.loop-condition-test.false, c.loop-condition.auto.condition-index-end)))
