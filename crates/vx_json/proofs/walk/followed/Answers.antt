use Rattle.std.proofs.Common.{◌≡◌, ℕ, ◌-◌, ◌<◌, ◌∷◌, List, length, take, drop, get_or, arith, sym, subst}
use Rattle.std.proofs.Math.ListN.{set}
use Rattle.std.proofs.Math.Seq.{drop-cons}
use Rattle.std.proofs.lemmas.Result.{IfOk-weaker}
use Rattle.vx_value.specs.Texts.{ByteString}
use Rattle.vx_json.specs.Machine.{Frame}
use Rattle.vx_json.specs.ModeViews.{frame_view, stack_view}
use Rattle.vx_json.specs.Walks.{LeadsOn, EndsInnermost, held_view}
use Rattle.vx_json.proofs.Walks.{last-frame, last-set, next-over}
use Rattle.vx_json.proofs.walk.followed.Goals as goal

pub returns-then-ends-clause-leads : goal.returns-then-ends-clause-leads
returns-then-ends-clause-leads c =
    let bytes = c.args.bytes.now in
    let m = held_view c.args.held.now in
    let st = stack_view c.args.stack.now.items in
    let su = stack_view c.end.new.stack.items in
    let held = c.end.new.held in
    let some : 0 < length bytes = grind (arith, c.is_empty.ensures) in
    let whole : bytes ≡ get_or bytes 0 0 ∷ drop 1 bytes = drop-cons bytes 0 0 some in
    IfOk-weaker c.end.result (λ n. (b : ℕ) (w : ByteString) → EndsInnermost st b → LeadsOn m st (take n (b ∷ w)) held su) _
    (λ n h. subst (λ w. LeadsOn m st (take n w) held su) (sym whole) (h (get_or bytes 0 0) (drop 1 bytes) (c.ends.ensures c.if-ends.true))) c.end.ensures.leads

pub returns-in-Some-clause-leads : goal.returns-in-Some-clause-leads
returns-in-Some-clause-leads c =
    let xs = c.args.stack.now.items in
    let f = c.in-Some.frame.now in
    let g = c.next.new.self in
    let m = held_view c.args.held.now in
    let some : 0 < length xs = c.in-Some.ensures.item.3.0 in
    let count : c.args.stack.now.len ≡ length xs = omega (arith, c.args.stack.now.ok.0) in
    let at : f ≡ get_or xs (length xs - 1) f = subst (λ k. f ≡ get_or xs (k - 1) f) count c.in-Some.ensures.value in
    let below = stack_view (take (length xs - 1) xs) in
    let written : stack_view (set xs (c.args.stack.now.len - 1) g) ≡ frame_view g ∷ below = subst (λ k. stack_view (set xs (k - 1) g) ≡ frame_view g ∷ below) (sym count) (last-set xs g some) in
    IfOk-weaker c.next.result (λ n. (st : List Frame) → LeadsOn m (frame_view f ∷ st) (take n c.args.bytes.now) c.next.new.held (frame_view g ∷ st)) _
    (λ n h. next-over _ _ below (frame_view f) (frame_view g) m (take n c.args.bytes.now) c.next.new.held (last-frame xs f some at) written h) c.next.ensures.leads
