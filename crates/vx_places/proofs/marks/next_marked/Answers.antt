use Rattle.std.proofs.Common.{Some, None, List, ℕ, subst}
use Rattle.memchr.specs.Find.{IsFirstByte, is_byte}
use Rattle.vx_places.proofs.Marking.{rest_whole, next_none, next_some}
use Rattle.vx_places.proofs.marks.next_marked.Goals as goal

pub returns-in-Some : goal.returns-in-Some
returns-in-Some c = next_some c.args.marks.now c.args.from c.in-Some.k
    (subst (λ (hay : List ℕ). IsFirstByte (is_byte 1) hay (Some c.in-Some.k)) (rest_whole c.args.marks.now c.args.from) c.in-Some.ensures)

pub returns-in-None : goal.returns-in-None
returns-in-None c = next_none c.args.marks.now c.args.from
    (subst (λ (hay : List ℕ). IsFirstByte (is_byte 1) hay None) (rest_whole c.args.marks.now c.args.from) c.in-None.ensures)
