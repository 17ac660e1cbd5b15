use Rattle.std.proofs.Common.{◌≡◌, ◌<◌, ◌++◌, ◌∷◌, [], Some, true, false, length, get_or, refl, sym, ◌∙◌, ap, arith}
use Rattle.std.proofs.lemmas.List.{get_or_default}
use Rattle.vx_value.specs.Texts.{is_empty}
use Rattle.vx_value.specs.Paths.{move_of, path_names}
use Rattle.vx_value.specs.Reads.{Takes}
use Rattle.vx_value.proofs.PathReads.{read-none, read-more, ended-utf8, read-refused, moved-refused, read-unended, read-ended}
use Rattle.vx_value.proofs.path.Path.read.Goals as goal

pub take-requires : goal.take-requires
take-requires c is =
    let h : c.loop-i.i < length c.args.text.now = rw c.as_bytes-byte-items.ensures.value at c.loop-i-test.true in
    ended-utf8 c.args.text.now c.loop-i.i (get_or c.args.text.now c.loop-i.i 0) c.loop-i.reader.mode c.loop-i.reader.name.items c.loop-i.reader.names h (get_or_default c.args.text.now c.loop-i.i 0 (get_or c.args.text.now c.loop-i.i 0) h) c.loop-i.invariant
    (rw c.as_bytes-byte-items.ensures.value at is)

pub loop-i-init : goal.loop-i-init
loop-i-init c =
    rw (c.new-reader.ensures.mode, c.new-reader.ensures.name, c.new-reader.ensures.names) (read-none c.args.text.now c.utf8.text)

pub loop-i-preserved : goal.loop-i-preserved
loop-i-preserved c =
    let h : c.loop-i.i < length c.args.text.now = rw c.as_bytes-byte-items.ensures.value at c.loop-i-test.true in
    let m : Takes c.loop-i.reader c.take.new.self (get_or c.args.text.now c.loop-i.i 0) true = rw (c.as_bytes-byte-items.ensures.value, c.in-Ok-true.field-0-test) at c.in-Ok-true.ensures in
    read-more c.args.text.now c.loop-i.i (get_or c.args.text.now c.loop-i.i 0) c.loop-i.reader c.take.new.self (move_of c.loop-i.reader.mode (is_empty c.loop-i.reader.name.items) (get_or c.args.text.now c.loop-i.i 0)) h
    (get_or_default c.args.text.now c.loop-i.i 0 (get_or c.args.text.now c.loop-i.i 0) h) refl m c.loop-i.invariant

pub returns-in-Ok-false-clause-fault : goal.returns-in-Ok-false-clause-fault
returns-in-Ok-false-clause-fault c =
    let h : c.loop-i.i < length c.args.text.now = rw c.as_bytes-byte-items.ensures.value at c.loop-i-test.true in
    let m : Takes c.loop-i.reader c.take.new.self (get_or c.args.text.now c.loop-i.i 0) false = rw (c.as_bytes-byte-items.ensures.value, c.in-Ok-false.field-0-test) at c.in-Ok-false.ensures in
    read-refused c.args.text.now c.loop-i.i (get_or c.args.text.now c.loop-i.i 0) c.loop-i.reader.mode c.loop-i.reader.name.items c.loop-i.reader.names h (get_or_default c.args.text.now c.loop-i.i 0 (get_or c.args.text.now c.loop-i.i 0) h)
    (moved-refused (move_of c.loop-i.reader.mode (is_empty c.loop-i.reader.name.items) (get_or c.args.text.now c.loop-i.i 0)) c.loop-i.reader c.take.new.self (get_or c.args.text.now c.loop-i.i 0) m) c.loop-i.invariant

pub returns-then-not-may_end-clause-fault : goal.returns-then-not-may_end-clause-fault
returns-then-not-may_end-clause-fault c =
    let e : c.loop-i.i ≡ length c.args.text.now = omega (arith, ap length c.as_bytes-byte-items.ensures.value) in
    read-unended c.args.text.now c.loop-i.i c.loop-i.reader.mode c.loop-i.reader.name.items c.loop-i.reader.names e (sym c.may_end.ensures ∙ c.if-not-may_end.true) c.loop-i.invariant

pub returns-then-len-gt31-clause-fault : goal.returns-then-len-gt31-clause-fault
returns-then-len-gt31-clause-fault c =
    let e : c.loop-i.i ≡ length c.args.text.now = omega (arith, ap length c.as_bytes-byte-items.ensures.value) in
    let r : path_names c.args.text.now ≡ Some (c.loop-i.reader.names ++ c.loop-i.reader.name.items ∷ []) = read-ended c.args.text.now c.loop-i.i c.loop-i.reader.mode c.loop-i.reader.name.items c.loop-i.reader.names e (sym c.may_end.ensures ∙ c.if-not-may_end.false) c.loop-i.invariant in
    (c.end_name.new.self.names, r ∙ ap Some (sym c.in-Ok.ensures.names), omega (arith, c.len.ensures))

pub returns-clause-ok : goal.returns-clause-ok
returns-clause-ok c =
    let e : c.loop-i.i ≡ length c.args.text.now = omega (arith, ap length c.as_bytes-byte-items.ensures.value) in
    let r : path_names c.args.text.now ≡ Some (c.loop-i.reader.names ++ c.loop-i.reader.name.items ∷ []) = read-ended c.args.text.now c.loop-i.i c.loop-i.reader.mode c.loop-i.reader.name.items c.loop-i.reader.names e (sym c.may_end.ensures ∙ c.if-not-may_end.false) c.loop-i.invariant in
    r ∙ ap Some (sym c.in-Ok.ensures.names)
