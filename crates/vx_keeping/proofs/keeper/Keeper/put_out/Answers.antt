use Rattle.std.proofs.Common.{ℕ, List, ◌∷◌, ◌++◌, subst}
use Rattle.vx_record.specs.Records.{Record}
use Rattle.vx_record.specs.Inputs.{to_answer}
use Rattle.vx_record.specs.declared.entry.Entry.TheVariants.{Answer}
use Rattle.vx_record.specs.Legal.{IsLegal}
use Rattle.vx_ledger.specs.Copies.{numbers_of}
use Rattle.vx_keeping.specs.Kept.{Kept, copies_kept}
use Rattle.vx_keeping.specs.Given.{SameCopies}
use Rattle.vx_transform.specs.Shelves.{copies_put_out}
use Rattle.vx_keeping.specs.Stored.{kept_of}
use Rattle.vx_keeping.specs.Keeping.{Keeps, HasMade}
use Rattle.vx_keeping.specs.Answers.{notes_of}
use Rattle.vx_keeping.proofs.Calls.{settled_out, put_out_same, put_out_store}
use Rattle.vx_keeping.proofs.keeper.Keeper.put_out.Goals as goal

pub invariant_of-self : goal.invariant_of-self
invariant_of-self c =
    let o = c.put_out.ensures in settled_out c.self.inside.store c.put_out.new.self c.self.inside.loose c.self.inside.fit o.maker o.taken o.shelf o.discarded o.ready c.self.invariant

pub returns-clause-keeps : goal.returns-clause-keeps
returns-clause-keeps c =
    let o = c.put_out.ensures in
    let f = c.self.inside in
    subst (λ (k : Kept). (h : Record) (i : ℕ) (kept : List ℕ) → HasMade k h i (to_answer h i) → IsLegal (Answer i (notes_of c.put_out.result) (numbers_of k.discarded) kept ∷ h) →
    Keeps (kept_of c.put_out.new.self f.loose f.fit) (Answer i (notes_of c.put_out.result) (numbers_of k.discarded) kept ∷ h) i) c.self.view_is
    (put_out_store f.store c.put_out.new.self f.loose f.fit c.put_out.result o.maker o.taken o.shelf o.discarded o.dropped o.ready o.outputs c.self.invariant)

pub returns-clause-same : goal.returns-clause-same
returns-clause-same c =
    let o = c.put_out.ensures in
    let f = c.self.inside in
    subst (λ (k : Kept). SameCopies (copies_kept k) (copies_put_out c.put_out.result ++ copies_kept (kept_of c.put_out.new.self f.loose f.fit))) c.self.view_is
    (put_out_same f.store c.put_out.new.self f.loose f.fit c.put_out.result o.maker o.taken o.shelf o.discarded o.ready o.outputs)
