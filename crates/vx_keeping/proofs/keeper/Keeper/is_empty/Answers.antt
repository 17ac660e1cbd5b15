use Rattle.std.proofs.Common.{◌≡◌, ℕ, [], subst}
use Rattle.std.specs.Prelude.{IsTrue, ◌↔◌}
use Rattle.vx_record.specs.Records.{Record}
use Rattle.vx_record.specs.Places.Place.{Held}
use Rattle.vx_record.specs.Shifts.{at}
use Rattle.vx_record.specs.Legal.{IsLegal}
use Rattle.vx_keeping.specs.Kept.{Kept}
use Rattle.vx_keeping.specs.Keeping.{Keeps}
use Rattle.vx_keeping.proofs.Calls.{empty_fit, empty_unfit}
use Rattle.vx_keeping.proofs.keeper.Keeper.is_empty.Goals as goal

pub returns-then-self-clause-exact : goal.returns-then-self-clause-exact
returns-then-self-clause-exact c =
    let f = c.self.inside in
    subst (λ (k : Kept). (h : Record) (i : ℕ) → IsLegal h → Keeps k h i → IsTrue c.is_empty.result ↔ (at h (Held i) ≡ [])) c.self.view_is
    (empty_fit f.store f.loose f.fit c.is_empty.result c.if-self.true c.self.invariant c.is_empty.ensures)

pub returns-else-self-clause-exact : goal.returns-else-self-clause-exact
returns-else-self-clause-exact c =
    let f = c.self.inside in
    subst (λ (k : Kept). (h : Record) (i : ℕ) → IsLegal h → Keeps k h i → IsTrue c.is_none.result ↔ (at h (Held i) ≡ [])) c.self.view_is
    (empty_unfit f.store f.loose f.fit c.is_none.result c.if-self.false c.self.invariant c.is_none.ensures)
