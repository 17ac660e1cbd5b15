use Rattle.std.proofs.Common.{◌≡◌, ◌<◌, length, take, get_or, ap, subst}
use Rattle.vx_condition.specs.Moves.{step}
use Rattle.vx_condition.specs.Takes.{StopsIn}
use Rattle.vx_condition.proofs.Backs.{good}
use Rattle.vx_condition.proofs.Faulted.{has_size, has_room, taken_text, taken_more}
use Rattle.vx_condition.proofs.parsing.over.Goals as goal

pub take-requires-clause-number : goal.take-requires-clause-number
take-requires-clause-number c = has_size c.args.keeps c.loop-i.reader (take c.loop-i.i c.args.text.now) c.loop-i.invariant.ran

pub take-requires-clause-text : goal.take-requires-clause-text
take-requires-clause-text c = λ low.
    let within : c.loop-i.i < length c.args.text.now = rw c.as_bytes-byte-items.ensures.value at c.loop-i-test.true in
    taken_text c.args.keeps c.args.text.now c.loop-i.i (get_or c.as_bytes-byte-items.result.now c.loop-i.i 0) c.loop-i.reader within
    (ap (λ l. get_or l c.loop-i.i 0) c.as_bytes-byte-items.ensures.value) c.loop-i.invariant low

pub fault_of-requires : goal.fault_of-requires
fault_of-requires c =
    let within : c.loop-i.i < length c.args.text.now = rw c.as_bytes-byte-items.ensures.value at c.loop-i-test.true in
    has_room c.args.keeps c.args.text.now c.loop-i.i c.loop-i.reader c.in-Err.stop within c.loop-i.invariant.ran
    (subst (λ l. StopsIn c.loop-i.reader c.loop-i.reader.mode (get_or l c.loop-i.i 0) c.in-Err.stop) c.as_bytes-byte-items.ensures.value c.in-Err.ensures.stop)

pub loop-i-preserved : goal.loop-i-preserved
loop-i-preserved c =
    let within : c.loop-i.i < length c.args.text.now = rw c.as_bytes-byte-items.ensures.value at c.loop-i-test.true in
    taken_more c.args.keeps c.args.text.now c.loop-i.i c.loop-i.reader c.take.new.self within
    (subst (λ l. step 32 c.loop-i.reader (get_or l c.loop-i.i 0) ≡ good c.take.new.self) c.as_bytes-byte-items.ensures.value c.in-Ok.ensures.ok) c.loop-i.invariant
