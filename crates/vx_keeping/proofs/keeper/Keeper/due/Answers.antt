use Rattle.std.proofs.Common.{◌≡◌, ℕ, true, [], List, subst}
use Rattle.vx_record.specs.Records.{Record}
use Rattle.vx_record.specs.Inputs.{Input as NotedInput}
use Rattle.vx_keeping.specs.Kept.{Kept}
use Rattle.vx_keeping.specs.Stored.{kept_of}
use Rattle.vx_keeping.specs.Keeping.{Keeps, HasMade}
use Rattle.vx_keeping.specs.Answers.{IsDueBehind}
use Rattle.vx_keeping.proofs.Calls.{due_behind}
use Rattle.vx_keeping.proofs.keeper.Keeper.due.Goals as goal

pub returns-clause-made : goal.returns-clause-made
returns-clause-made g c =
    let f = c.self.inside in
    subst (λ (k : Kept). (h : Record) (i : ℕ) (given : List NotedInput) → HasMade k h i given → IsDueBehind c.due.result h i given) c.self.view_is
    (λ h i given made. due_behind (kept_of f.store f.loose f.fit) c.due.result c.due.ensures h i given made.given)

pub returns-clause-keeps : goal.returns-clause-keeps
returns-clause-keeps g c =
    let f = c.self.inside in
    subst (λ (k : Kept). k.fit ≡ true → (h : Record) (i : ℕ) → Keeps k h i → IsDueBehind c.due.result h i []) c.self.view_is
    (λ fits h i keeps. due_behind (kept_of f.store f.loose f.fit) c.due.result c.due.ensures h i [] (keeps.abreast fits).given)
