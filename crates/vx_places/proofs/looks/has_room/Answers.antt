use Rattle.std.proofs.Common.{arith}
use Rattle.std.proofs.lemmas.Bool.Decides.{nat_tests}
use Rattle.std.proofs.lemmas.Option.{slice_get-get_or, slice_get_past}
use Rattle.vx_places.proofs.Written.{read, not_full}
use Rattle.vx_places.proofs.looks.has_room.Goals as goal

pub returns-in-Some : goal.returns-in-Some
returns-in-Some c =
    let found = c.in-Some.ensures.lookup in
    let stage = read c.deref.result.now c.args.s c.in-Some.stage.now (grind (arith, nat_tests, found.0)) found.1 in
    rw (slice_get-get_or c.args.rows.now c.args.i c.index-rows-i.result c.requires, ← c.deref.ensures.value, stage) (not_full c.is_full.result _ _ c.is_full.ensures.full c.is_full.ensures.within)

pub returns-in-None : goal.returns-in-None
returns-in-None c =
    let missed = c.in-None.ensures.lookup in
    let past = slice_get_past c.deref.result.now c.args.s (grind (arith, nat_tests, missed.0)) in
    rw (slice_get-get_or c.args.rows.now c.args.i c.index-rows-i.result c.requires, ← c.deref.ensures.value, past) (λ is. cc, λ has. absurd has)
