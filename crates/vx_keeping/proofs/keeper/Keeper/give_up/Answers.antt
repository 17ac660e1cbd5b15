use Rattle.std.proofs.Common.{◌≡◌, None, [], Option, ◌++◌, subst}
use Rattle.std.specs.Prelude.{IfSome, IsNone, ◌↔◌}
use Rattle.vx_ledger.specs.Copies.{Copy}
use Rattle.vx_keeping.specs.Kept.{Kept, loose_copies, copies_kept}
use Rattle.vx_keeping.specs.Given.{SameCopies}
use Rattle.vx_keeping.specs.Stored.{copies_stored, kept_of}
use Rattle.vx_keeping.specs.Answers.{GivesUp}
use Rattle.vx_keeping.proofs.Calls.{given_some, given_none, given_empty}
use Rattle.vx_keeping.proofs.keeper.Keeper.give_up.Goals as goal

pub returns-clause-some : goal.returns-clause-some
returns-clause-some c =
    let f = c.self.inside in
    let a = c.make_unfit in
    let b = c.find_next in
    let none : a.new.loose ≡ None → copies_stored a.new.store ≡ [] = a.ensures.settled.next a.ensures.unfit in
    let after : SameCopies (copies_stored a.new.store) (loose_copies b.new.loose ++ copies_stored b.new.store) = subst (λ (o : Option Copy). SameCopies (loose_copies o ++ copies_stored a.new.store) (loose_copies b.new.loose ++ copies_stored b.new.store)) c.take-copy.ensures.after b.ensures.same in
    subst (λ (k : Kept). IfSome c.take-copy.result (λ copy. GivesUp copy k (kept_of b.new.store b.new.loose a.new.fit))) c.self.view_is
    (given_some f.store a.new.store b.new.store f.loose a.new.loose b.new.loose c.take-copy.result f.fit a.new.fit a.ensures.unfit a.ensures.same none after c.take-copy.ensures.value)

pub returns-clause-none : goal.returns-clause-none
returns-clause-none c =
    let f = c.self.inside in
    let a = c.make_unfit in
    let b = c.find_next in
    let none : a.new.loose ≡ None → copies_stored a.new.store ≡ [] = a.ensures.settled.next a.ensures.unfit in
    let after : SameCopies (copies_stored a.new.store) (loose_copies b.new.loose ++ copies_stored b.new.store) = subst (λ (o : Option Copy). SameCopies (loose_copies o ++ copies_stored a.new.store) (loose_copies b.new.loose ++ copies_stored b.new.store)) c.take-copy.ensures.after b.ensures.same in
    subst (λ (k : Kept). IsNone c.take-copy.result ↔ (copies_kept k ≡ [])) c.self.view_is
    (given_none f.store a.new.store b.new.store f.loose a.new.loose b.new.loose c.take-copy.result f.fit a.new.fit a.ensures.unfit a.ensures.same none after c.take-copy.ensures.value)

pub returns-clause-empty : goal.returns-clause-empty
returns-clause-empty c =
    let f = c.self.inside in
    let a = c.make_unfit in
    let b = c.find_next in
    let none : a.new.loose ≡ None → copies_stored a.new.store ≡ [] = a.ensures.settled.next a.ensures.unfit in
    let after : SameCopies (copies_stored a.new.store) (loose_copies b.new.loose ++ copies_stored b.new.store) = subst (λ (o : Option Copy). SameCopies (loose_copies o ++ copies_stored a.new.store) (loose_copies b.new.loose ++ copies_stored b.new.store)) c.take-copy.ensures.after b.ensures.same in
    given_empty f.store a.new.store b.new.store f.loose a.new.loose b.new.loose c.take-copy.result f.fit a.new.fit a.ensures.unfit a.ensures.same none after c.take-copy.ensures.value
