use Rattle.std.proofs.Common.{◌++◌, ◌∙◌, subst}
use Rattle.vx_keeping.specs.Kept.{Kept, copies_kept}
use Rattle.vx_keeping.specs.Given.{SameCopies}
use Rattle.vx_keeping.specs.Stored.{kept_of}
use Rattle.vx_keeping.proofs.Calls.{TakesTo, pushed_same, take_fit, take_unfit}
use Rattle.vx_keeping.proofs.keeper.Keeper.take.Goals as goal

pub returns-then-not-self-clause-keeps : goal.returns-then-not-self-clause-keeps
returns-then-not-self-clause-keeps c =
    let f = c.self.inside in
    subst (λ (k : Kept). TakesTo k (kept_of c.find_next.new.store c.find_next.new.loose f.fit) c.args.parcel) c.self.view_is
    (take_unfit f.store c.find_next.new.store c.push.new.self f.loose c.find_next.new.loose f.fit c.args.parcel c.if-not-self.true c.push.ensures.items c.find_next.ensures.same)

pub returns-else-not-self-clause-keeps : goal.returns-else-not-self-clause-keeps
returns-else-not-self-clause-keeps c =
    let f = c.self.inside in
    let new = record f.store { taken = c.push.new.self } in
    subst (λ (k : Kept). TakesTo k (kept_of new f.loose f.fit) c.args.parcel) c.self.view_is (take_fit f.store c.push.new.self f.loose f.fit c.args.parcel c.push.ensures.items c.push.ensures.room)

pub returns-then-not-self-clause-same : goal.returns-then-not-self-clause-same
returns-then-not-self-clause-same c =
    let f = c.self.inside in
    subst (λ (k : Kept). SameCopies (copies_kept k ++ c.args.parcel.finalizers) (copies_kept (kept_of c.find_next.new.store c.find_next.new.loose f.fit))) c.self.view_is
    (λ w. pushed_same f.store c.push.new.self f.loose f.fit c.args.parcel c.push.ensures.items w ∙ c.find_next.ensures.same w)

pub returns-else-not-self-clause-same : goal.returns-else-not-self-clause-same
returns-else-not-self-clause-same c =
    let f = c.self.inside in
    let new = record f.store { taken = c.push.new.self } in
    subst (λ (k : Kept). SameCopies (copies_kept k ++ c.args.parcel.finalizers) (copies_kept (kept_of new f.loose f.fit))) c.self.view_is
    (pushed_same f.store c.push.new.self f.loose f.fit c.args.parcel c.push.ensures.items)
