use Rattle.std.proofs.Common.{◌≡◌, ◌+◌, ◌-◌, ◌<◌, ◌≤◌, [], length, take, drop, get_or, arith, refl, sym, ◌∙◌, ap, subst}
use Rattle.std.proofs.lemmas.List.{length-drop, take_all}
use Rattle.vx_value.specs.Values.{datum_of}
use Rattle.vx_json.specs.Faults.{IsNotJson}
use Rattle.vx_json.specs.Machine.{AtValue, finish, height}
use Rattle.vx_json.specs.ModeViews.{mode_view, stack_view}
use Rattle.vx_json.specs.Walks.{LeadsLow}
use Rattle.vx_json.proofs.Stacks.{stack_view-nil, stack_view-empty, length-stack_view}
use Rattle.vx_json.proofs.Readings.{HasRead, read-none, read-refused, read-more, read-deep, read-unfinished, read-finished, finish-nonempty}
use Rattle.vx_json.proofs.Walks.{read-low}
use Rattle.vx_json.proofs.reader.value.Goals as goal

pub loop-i-init : goal.loop-i-init
loop-i-init c =
    let bytes = c.args.bytes.now in
    let n = c.in_ok-i.i in
    let k = mode_view c.walk.new.self in
    let su = stack_view c.walk.new.stack.items in
    let none : stack_view c.new-stack.result.items ≡ [] = ap stack_view c.new-stack.ensures.items ∙ stack_view-nil in
    let led : height AtValue [] ≤ 32 → LeadsLow AtValue [] (take n bytes) k su = subst (λ st. height AtValue st ≤ 32 → LeadsLow AtValue st (take n bytes) k su) none c.in_ok-i.ensures.leads in
    let all : 0 + n ≤ length bytes = omega (arith, c.in_ok-i.ensures.within) in
    record {
      read = subst (λ j. HasRead bytes j k su) (omega arith) (read-low n bytes 0 AtValue k [] su all (read-none bytes) (led (omega arith)));
      within = c.in_ok-i.ensures.within;
    }

pub returns-in-Ok-None-clause-fault : goal.returns-in-Ok-None-clause-fault
returns-in-Ok-None-clause-fault c =
    read-refused c.args.bytes.now c.loop-i.i (get_or c.args.bytes.now c.loop-i.i 0) (mode_view c.loop-i.mode) (stack_view c.loop-i.stack.items) c.loop-i-test.true refl c.loop-i.invariant.read (rw c.in-Ok-None.field-0-is at c.in-Ok-None.ensures)

pub returns-then-level-gt-DEEPEST-clause-fault : goal.returns-then-level-gt-DEEPEST-clause-fault
returns-then-level-gt-DEEPEST-clause-fault c =
    read-deep c.args.bytes.now c.loop-i.i (get_or c.args.bytes.now c.loop-i.i 0) (mode_view c.loop-i.mode) (mode_view c.in-Ok-Some.next) (stack_view c.loop-i.stack.items) (stack_view c.step.new.stack.items) c.loop-i-test.true refl c.loop-i.invariant.read (rw c.in-Ok-Some.field-0-is at c.in-Ok-Some.ensures)
    (omega (arith, c.level.ensures, c.if-level-gt-DEEPEST.true))

pub loop-i-preserved : goal.loop-i-preserved
loop-i-preserved c =
    let bytes = c.args.bytes.now in
    let i = c.loop-i.i in
    let n = c.in_ok-i-2.field-0 in
    let m = mode_view c.in-Ok-Some.next in
    let k = mode_view c.walk-in-loop-i.new.self in
    let st = stack_view c.step.new.stack.items in
    let su = stack_view c.walk-in-loop-i.new.stack.items in
    let low : height m st ≤ 32 = omega (arith, c.level.ensures, c.if-level-gt-DEEPEST.false) in
    let more : HasRead bytes (i + 1) m st =
    read-more bytes i (get_or bytes i 0) (mode_view c.loop-i.mode) m (stack_view c.loop-i.stack.items) st c.loop-i-test.true refl c.loop-i.invariant.read (rw c.in-Ok-Some.field-0-is at c.in-Ok-Some.ensures) low in
    let within : i + 1 + n ≤ length bytes = omega (arith, c.in_ok-i-2.ensures.within, length-drop (i + 1) bytes) in
    let rest : take (length bytes - (i + 1)) (drop (i + 1) bytes) ≡ drop (i + 1) bytes = take_all _ _ (omega (arith, length-drop (i + 1) bytes)) in
    let led : LeadsLow m st (take n (drop (i + 1) bytes)) k su = rw rest at (c.in_ok-i-2.ensures.leads low) in
    record { read = read-low n bytes (i + 1) m k st su within more led; within = within }

pub returns-then-not-is_empty-clause-fault : goal.returns-then-not-is_empty-clause-fault
returns-then-not-is_empty-clause-fault c =
    let some : 0 < length c.loop-i.stack.items = grind (arith, c.is_empty.ensures) in
    let e : c.loop-i.i ≡ length c.args.bytes.now = omega (arith, c.loop-i-test.false) in
    let held : 0 < length (stack_view c.loop-i.stack.items) = omega (arith, length-stack_view c.loop-i.stack.items) in
    subst (λ i. IsNotJson c.args.bytes.now i) e
    (read-unfinished c.args.bytes.now c.loop-i.i (mode_view c.loop-i.mode) (stack_view c.loop-i.stack.items) e c.loop-i.invariant.read (finish-nonempty (mode_view c.loop-i.mode) (stack_view c.loop-i.stack.items) held))

pub returns-in-Some-clause-value : goal.returns-in-Some-clause-value
returns-in-Some-clause-value c =
    let none : length c.loop-i.stack.items ≡ 0 = grind (arith, c.is_empty.ensures) in
    let e : c.loop-i.i ≡ length c.args.bytes.now = omega (arith, c.loop-i-test.false) in
    read-finished c.args.bytes.now c.loop-i.i (mode_view c.loop-i.mode) (stack_view c.loop-i.stack.items) (datum_of c.in-Some.value) e c.loop-i.invariant.read
    (ap (finish (mode_view c.loop-i.mode)) (stack_view-empty c.loop-i.stack.items none) ∙ sym (rw c.in-Some.is at c.in_ok-value.ensures))

pub returns-clause-fault : goal.returns-clause-fault
returns-clause-fault c =
    let none : length c.loop-i.stack.items ≡ 0 = grind (arith, c.is_empty.ensures) in
    let e : c.loop-i.i ≡ length c.args.bytes.now = omega (arith, c.loop-i-test.false) in
    subst (λ i. IsNotJson c.args.bytes.now i) e
    (read-unfinished c.args.bytes.now c.loop-i.i (mode_view c.loop-i.mode) (stack_view c.loop-i.stack.items) e c.loop-i.invariant.read
    (ap (finish (mode_view c.loop-i.mode)) (stack_view-empty c.loop-i.stack.items none) ∙ sym (rw c.in-None.is at c.in_ok-value.ensures)))
