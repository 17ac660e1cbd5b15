use Rattle.std.proofs.Common.{◌≡◌, ℕ, true, false, not, [], subst}
use Rattle.std.specs.Prelude.{◌↔◌}
use Rattle.vx_record.specs.Records.{Record}
use Rattle.vx_keeping.specs.Kept.{Kept}
use Rattle.vx_keeping.specs.Stored.{kept_of}
use Rattle.vx_keeping.specs.Keeping.{taken_in, Keeps}
use Rattle.vx_keeping.proofs.Calls.{has_taken_then}
use Rattle.vx_keeping.proofs.keeper.Keeper.has_taken.Goals as goal

pub returns-clause-exact : goal.returns-clause-exact
returns-clause-exact c =
    let f = c.self.inside in
    subst (λ (k : Kept). k.fit ≡ true → (h : Record) (i : ℕ) → Keeps k h i → (not c.is_empty.result ≡ false) ↔ (taken_in h i ≡ [])) c.self.view_is
    (has_taken_then (kept_of f.store f.loose f.fit) c.is_empty.result c.is_empty.ensures)
