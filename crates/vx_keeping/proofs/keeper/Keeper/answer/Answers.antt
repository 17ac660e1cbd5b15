use Rattle.std.proofs.Common.{◌≡◌, ℕ, [], subst}
use Rattle.vx_record.specs.Records.{Record}
use Rattle.vx_record.specs.Turns.{lease_now}
use Rattle.vx_keeping.specs.Kept.{Kept, copies_kept}
use Rattle.vx_keeping.specs.Given.{SameCopies}
use Rattle.vx_keeping.specs.Stored.{kept_of}
use Rattle.vx_keeping.specs.Keeping.{taken_in, Accounts, Keeps, HasMade}
use Rattle.vx_keeping.proofs.Calls.{answer_then, short_same, short_then, with_loose}
use Rattle.vx_keeping.proofs.keeper.Keeper.answer.Goals as goal

pub returns-in-Ok-clause-made : goal.returns-in-Ok-clause-made
returns-in-Ok-clause-made g c =
    let f = c.self.inside in
    let fits = c.if-not-self.false in
    let o = c.in-Ok.ensures in
    subst (λ (k : Kept). (h : Record) (i : ℕ) → c.args.now ≡ lease_now h i → Keeps k h i → k.discarded ≡ [] → HasMade (kept_of c.answer.new.self f.loose f.fit) h i (taken_in h i)) c.self.view_is
    (answer_then c.args.now f.store c.answer.new.self f.loose f.fit fits (c.self.invariant.clear fits).1 (o.made (c.self.invariant.clear fits).0) o.dropped c.answer.ensures.same o.none)

pub returns-in-Ok-clause-same : goal.returns-in-Ok-clause-same
returns-in-Ok-clause-same g c =
    let f = c.self.inside in
    subst (λ (k : Kept). SameCopies (copies_kept k) (copies_kept (kept_of c.answer.new.self f.loose f.fit))) c.self.view_is (with_loose f.loose f.store c.answer.new.self c.answer.ensures.same)

pub returns-in-Err-clause-short : goal.returns-in-Err-clause-short
returns-in-Err-clause-short g c =
    let f = c.self.inside in
    let u = c.make_unfit in
    subst (λ (k : Kept). (h : Record) (i : ℕ) → Accounts k h i → Keeps (kept_of u.new.store u.new.loose u.new.fit) h i) c.self.view_is
    (short_then f.store c.answer.new.self u.new.store f.loose u.new.loose f.fit u.new.fit u.ensures.unfit c.answer.ensures.same u.ensures.same)

pub returns-in-Err-clause-same : goal.returns-in-Err-clause-same
returns-in-Err-clause-same g c =
    let f = c.self.inside in
    let u = c.make_unfit in
    subst (λ (k : Kept). SameCopies (copies_kept k) (copies_kept (kept_of u.new.store u.new.loose u.new.fit))) c.self.view_is
    (short_same f.store c.answer.new.self u.new.store f.loose u.new.loose c.answer.ensures.same u.ensures.same)
