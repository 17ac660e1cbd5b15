use Rattle.std.proofs.Common.{refl}
use Rattle.std.proofs.lemmas.List.{append-nil}
use Rattle.vx_moves.proofs.Noticing.{created_batch}
use Rattle.vx_moves.proofs.settle.settle.Goals as goal

pub give_notice-requires-clause-creator : goal.give_notice-requires-clause-creator
give_notice-requires-clause-creator g c =
    let h = c.args.log.now in
    let observed = c.in-Some.notice in
    rw (c.note.ensures, append-nil) (created_batch h observed.instance observed.batch
    (c.in-Some.ensures.closes.creator h c.args.i c.requires.of_batch c.requires.legal c.requires.balances))

pub give_notice-requires-clause-legal : goal.give_notice-requires-clause-legal
give_notice-requires-clause-legal g c =
    let row = c.in-Some.ensures.closes.row c.args.log.now c.args.i c.requires.of_batch c.requires.legal c.requires.balances in
    rw c.note.ensures (record { row = row; turn = tt; still = λ over. refl }, c.requires.legal)
