-- The rows of Install, Lease and Home.
use Rattle.std.specs.Prelude.{ℕ, ◌+◌, ◌≤◌, ◌≡◌, true, false, List, [], ◌∷◌}
use Rattle.vx_plan.specs.Accepted.{IsPlan}
use Rattle.vx_plan.specs.declared.plan.Plan.{Plan}
use Rattle.vx_plan.specs.declared.component.Component.{Component}
use Rattle.vx_record.specs.declared.instance.Instance.{Instance}
use Rattle.vx_record.specs.declared.instance.Start.TheVariants.{New}
use Rattle.vx_record.specs.Records.{Record}
use Rattle.vx_record.specs.Turns.{is_out, worker_now}
use Rattle.vx_record.specs.Installs.{is_retired}
use Rattle.vx_record.specs.Owing.{owes}
use Rattle.vx_record.specs.Ready.{IsReady}

-- an instance for each component, all new, numbered in the plan's order
abbrev pub first_instances : ℕ → List Component → List Instance
first_instances from [] = []
first_instances from (c ∷ rest) = record { name = c.name; number = from; start = New } ∷ first_instances (from + 1) rest

-- an Install begins the record, of a plan that may be installed; later ones come with reloads
pub record MayInstall (h : Record) (version : ℕ) (plan : Plan) (instances : List Instance) : Type 0 where
  pub first : h ≡ []
  pub zeroth : version ≡ 0
  pub accepted : IsPlan plan
  pub all_new : instances ≡ first_instances 0 plan.components

-- a Lease goes to an unleased instance that has work and owes nothing; no moment of a worker falls
pub record MayLease (h : Record) (i worker now polls : ℕ) : Type 0 where
  pub unleased : is_out h i ≡ false
  pub unretired : is_retired h i ≡ false
  pub settled : owes h i ≡ false
  pub ready : IsReady h i now
  pub later : worker_now h worker ≤ now
  pub unpolled : polls ≡ 0

-- what comes back was out
pub record MayReturn (h : Record) (i : ℕ) : Type 0 where
  pub out : is_out h i ≡ true
