-- A run goes on.
use Rattle.std.proofs.Common.{◌≡◌, ◌∙◌, ℕ, Bool, [], ◌∷◌, length, Some, refl, ap, subst}
use Rattle.vx_plan.specs.declared.plan.Plan.{Plan}
use Rattle.vx_record.specs.declared.entry.Entry.{Entry}
use Rattle.vx_record.specs.Additions.{OnlyAdds}
use Rattle.vx_record.specs.Installs.{in_force, started}
use Rattle.vx_record.specs.Legal.{IsLegal}
use Rattle.vx_record.specs.Records.{Record}
use Rattle.vx_record.specs.Wirings.{begun}
use Rattle.vx_record.proofs.Adding.{adds_none, adds_one, adds_both, adds_wider}
use Rattle.vx_record.proofs.FirstWiring.{started_stays}
use Rattle.vx_ready.proofs.Counting.{counted}
use Rattle.vx_hub.specs.Standing.{GoesOn, IsSameRun}
use Rattle.vx_run.specs.Running.{Began}

-- an entry of any kind
abbrev pub AnyKind : Record → Entry → Type 0
AnyKind h e = Unit {0}

pub on_none : (h : Record) → GoesOn h h
on_none h = adds_none AnyKind h h refl

pub on_both : (old mid new : Record) → GoesOn old mid → GoesOn mid new → GoesOn old new
on_both = adds_both AnyKind

pub on_wider : (Kind : Record → Entry → Type 0) (old new : Record) → OnlyAdds Kind old new → GoesOn old new
on_wider Kind old new adds = adds_wider Kind AnyKind (λ h e kind. tt) old new adds

-- a legal record goes on from that before its last entry
pub on_one : (old new : Record) (e : Entry) → IsLegal new → new ≡ e ∷ old → GoesOn old new
on_one old new e legal is =
    let all : IsLegal (e ∷ old) = subst IsLegal is legal in adds_one AnyKind old old new e (on_none old) all.0 tt is

module _ (plan : Plan) (once : Bool) (now : ℕ) (first h : Record) (is : first ≡ begun plan once now) (same : IsSameRun first h) where
  -- the plan that a run began with stays in force
  pub plan_stays : in_force h ≡ Some plan
  plan_stays = same.plan ∙ ap in_force is

  -- and the record began with it
  pub began_with : GoesOn first h → Began once plan h
  began_with on = record {
    moment = now;
    first = subst (λ (was : Record). GoesOn was h) is on;
    installed = plan_stays;
  }

  -- and it has an instance for each component
  pub size_stays : IsLegal first → length (started h) ≡ length plan.components
  size_stays legal =
      let made : started (begun plan once now) ≡ _ = started_stays [] plan once now (subst IsLegal is legal) in
      ap length (same.instances ∙ (ap started is ∙ made)) ∙ counted 0 (length plan.components)
