use Rattle.std.proofs.Common.{◌≡◌, ◌∙◌, ℕ, ◌<◌, length, take, arith, refl, sym, ap, subst}
use Rattle.std.specs.Prelude.{IfSome}
use Rattle.std.proofs.lemmas.List.{take_all}
use Rattle.vx_value.specs.Texts.{ByteString}
use Rattle.vx_sourcecore.specs.declared.source.Cut.{Cut}
use Rattle.vx_sourcecore.specs.declared.source.SourceCore.{SourceCore}
use Rattle.vx_sourcecore.specs.declared.generator.Generator.{Generator}
use Rattle.vx_sourcecore.specs.Lines.{Generated, left_of, next_lines, behind}
use Rattle.vx_sourcecore.specs.Sources.{HasFed}
use Rattle.vx_sourcecore.proofs.Making.{fed_made, finished_made, few_made}
use Rattle.vx_sourcecore.proofs.generator.Generator.turn.Goals as goal

pub returns-then-left-eq0-clause-made : goal.returns-then-left-eq0-clause-made
returns-then-left-eq0-clause-made c =
    λ h i over is. finished_made h i c.args.self.now _ c.finish_last-stream.result.0 c.finish_last-stream.result.1 over is c.finish_last-stream.ensures.stream refl refl c.finish_last-stream.ensures.cut

pub returns-clause-few : goal.returns-clause-few
returns-clause-few c =
    let old = c.args.self.now in
    let core : c.next_lines.new.self.core ≡ old.core = ap (λ (g : Generator). g.core) c.in_ok-bytes.ensures.given in
    let made : c.as_slice.result.now ≡ next_lines old.lines old.most = c.as_slice.ensures.value ∙ c.in_ok-bytes.ensures.lines in
    few_made old c.feed-cut.new.self c.as_slice.result.now c.feed-cut.result made
    (subst (λ (s : SourceCore). IfSome c.feed-cut.result (λ (brought : Cut). HasFed s 0 c.as_slice.result.now brought c.feed-cut.new.self)) core c.feed-cut.ensures)

pub returns-clause-made : goal.returns-clause-made
returns-clause-made c =
    let old = c.args.self.now in
    let core : c.next_lines.new.self.core ≡ old.core = ap (λ (g : Generator). g.core) c.in_ok-bytes.ensures.given in
    let lines : c.next_lines.new.self.lines ≡ behind old.lines old.most = ap (λ (g : Generator). g.lines) c.in_ok-bytes.ensures.given in
    let most : c.next_lines.new.self.most ≡ old.most = ap (λ (g : Generator). g.most) c.in_ok-bytes.ensures.given in
    let left : 0 < left_of old.lines = omega (arith, c.left-left.ensures.left, c.if-left-eq0.false) in
    let whole : take c.in_ok-bytes.n c.of-room.result.value.items ≡ c.in_ok-bytes.bytes.items =
    ap (λ (w : ByteString). take c.in_ok-bytes.n w) (ap (λ v. v.items) c.of-room.ensures) ∙ take_all c.in_ok-bytes.n c.in_ok-bytes.bytes.items (omega (arith, c.in_ok-bytes.ensures.bytes)) in
    let fed = subst (λ (s : SourceCore). IfSome c.feed-cut.result (λ (brought : Cut). HasFed s 0 c.as_slice.result.now brought c.feed-cut.new.self)) core c.feed-cut.ensures in
    let taken : c.as_slice.result.now ≡ take c.in_ok-bytes.n c.of-room.result.value.items = c.as_slice.ensures.value ∙ sym whole in
    λ h i over is. fed_made h i old _ (take c.in_ok-bytes.n c.of-room.result.value.items) c.feed-cut.result over is left (whole ∙ c.in_ok-bytes.ensures.lines) lines most
    (subst (λ (w : ByteString). IfSome c.feed-cut.result (λ (brought : Cut). HasFed old.core 0 w brought c.feed-cut.new.self)) taken fed)
