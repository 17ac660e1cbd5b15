-- What is answered with a plan.
use Rattle.std.specs.Prelude.{◌≡◌, ◌++◌, List, [], map, Result, Ok, Err}
use Rattle.toml.specs.Data.{Data}
use Rattle.vx_value.specs.Texts.{ByteString}
use Rattle.vx_plan.specs.declared.plan.Plan.{Plan}
use Rattle.vx_reading.specs.declared.plan_fault.PlanFault.{PlanFault}
use Rattle.vx_reading.specs.declared.reading.Found.{Found}
use Rattle.vx_reading.specs.declared.reading.ReadPlan.{ReadPlan}
use Rattle.vx_reading.specs.Conditions.{conditions_by, all_conditions, is_one, refusals}
use Rattle.vx_reading.specs.Diagnostics.{diagnostics}
use Rattle.vx_reading.specs.Plans.{global_of, plan_of}
use Rattle.vx_reading.specs.Trying.{Tries}

-- the plan, or why there is none
abbrev pub plan_in : Result ReadPlan PlanFault → Result Plan PlanFault
plan_in (Ok read) = Ok read.plan
plan_in (Err fault) = Err fault

-- a plan comes with the conditions of each of its components, in order
abbrev pub HasConditions : ReadPlan → Type 0
HasConditions read = read.conditions ≡ map conditions_by read.plan.components

-- what was found in a document, of whose conditions some were refused: its options, its components with their conditions, and each fault
pub record IsFound (root : Data) (found : Found) : Type 0 where
  pub refused : List ByteString
  pub global : found.global ≡ global_of root
  pub components : found.components ≡ (plan_of root).components
  pub tried : Tries (all_conditions found.components) (map conditions_by found.components) [] refused [] found.conditions
  pub told : found.diagnostics ≡ diagnostics root ++ refusals (is_one refused) found.components
