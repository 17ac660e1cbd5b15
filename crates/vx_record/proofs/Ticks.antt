-- Only transforms act by themselves.
use Rattle.std.proofs.Common.{◌≡◌, ℕ, false, Option, Some, None, ap, inl, inr}
use Rattle.vx_plan.specs.declared.component.Component.{Component}
use Rattle.vx_plan.specs.Components.{is_transform}
use Rattle.vx_record.specs.Records.{Record}
use Rattle.vx_record.specs.Installs.{transform_at}
use Rattle.vx_record.specs.Transforms.{Rule, RunsBy}
use Rattle.vx_record.specs.Ready.{is_ready, IsTickReady, IsReady}

pub no_rule : (h : Record) (i : ℕ) (rule : Rule) → transform_at h i ≡ false → RunsBy h i rule → ⊥
no_rule h i rule other follows =
    let e : transform_at h i ≡ is_transform follows.component = ap (λ (o : Option Component). elim o [ None ↦ false | Some c ↦ is_transform c ]) follows.runs in
    let t = follows.transform in
    cc

pub no_tick : (h : Record) (i now : ℕ) → transform_at h i ≡ false → IsTickReady h i now → ⊥
no_tick h i now other ready = no_rule h i ready.due.rule other ready.due.follows

-- so another instance is ready by what it has alone
pub not_ready : (h : Record) (i now : ℕ) → is_ready h i now ≡ false → transform_at h i ≡ false → IsReady h i now → ⊥
not_ready h i now idle other (inl e) = cc
not_ready h i now idle other (inr ready) = no_tick h i now other ready
