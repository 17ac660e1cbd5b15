use Rattle.std.proofs.Common.{ℕ, subst}
use Rattle.vx_record.specs.Records.{Record}
use Rattle.vx_keeping.specs.Kept.{Kept, copies_kept}
use Rattle.vx_keeping.specs.Given.{SameCopies}
use Rattle.vx_keeping.specs.Stored.{kept_of}
use Rattle.vx_keeping.specs.Keeping.{Accounts, Keeps}
use Rattle.vx_keeping.proofs.Calls.{fail_then}
use Rattle.vx_keeping.proofs.keeper.Keeper.fail.Goals as goal

pub returns-clause-keeps : goal.returns-clause-keeps
returns-clause-keeps c =
    let f = c.self.inside in
    let u = c.make_unfit in
    subst (λ (k : Kept). (h : Record) (i : ℕ) → Accounts k h i → Keeps (kept_of u.new.store u.new.loose u.new.fit) h i) c.self.view_is
    (fail_then f.store u.new.store f.loose u.new.loose f.fit u.new.fit u.ensures.unfit u.ensures.same)

pub returns-clause-same : goal.returns-clause-same
returns-clause-same c =
    let f = c.self.inside in
    let u = c.make_unfit in
    subst (λ (k : Kept). SameCopies (copies_kept k) (copies_kept (kept_of u.new.store u.new.loose u.new.fit))) c.self.view_is u.ensures.same
