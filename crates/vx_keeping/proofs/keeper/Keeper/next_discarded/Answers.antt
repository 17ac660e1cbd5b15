use Rattle.std.proofs.Common.{subst}
use Rattle.std.specs.Prelude.{IfSome}
use Rattle.vx_keeping.specs.Kept.{Kept}
use Rattle.vx_keeping.specs.Stored.{kept_of}
use Rattle.vx_keeping.specs.Answers.{TakesOut}
use Rattle.vx_keeping.proofs.Calls.{next_out}
use Rattle.vx_keeping.proofs.keeper.Keeper.next_discarded.Goals as goal

pub returns-clause-some : goal.returns-clause-some
returns-clause-some c =
    let f = c.self.inside in
    let new = record f.store { discarded = c.pop.new.self } in
    subst (λ (k : Kept). IfSome c.pop.result (λ copy. TakesOut copy k (kept_of new f.loose f.fit))) c.self.view_is
    (next_out (kept_of f.store f.loose f.fit) c.pop.new.self.items c.pop.result c.pop.ensures.items)
