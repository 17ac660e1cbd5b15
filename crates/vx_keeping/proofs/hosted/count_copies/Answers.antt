use Rattle.std.proofs.Common.{◌≡◌, ◌+◌, length, take, ap, sym, ◌∙◌, arith}
use Rattle.std.specs.Option.{option_copied}
use Rattle.vx_transform.specs.Shelves.{copies_dropped}
use Rattle.vx_keeping.proofs.Idling.{counted_next}
use Rattle.vx_keeping.proofs.hosted.count_copies.Goals as goal

pub loop-i-preserved : goal.loop-i-preserved
loop-i-preserved c =
    let a = counted_next c.args.taken.now.items c.loop-i.i c.in-Some.parcel.now (sym c.get.ensures ∙ ap option_copied c.in-Some.is) in
    let b = c.in-Some-checked_add.ensures.1 in
    let d = c.loop-i.invariant in
    let e = c.len.ensures in
    let r : c.in-Some-checked_add.more ≡ length (copies_dropped (take (c.loop-i.i + 1) c.args.taken.now.items)) = omega (arith, a, b, d, e) in
    r
