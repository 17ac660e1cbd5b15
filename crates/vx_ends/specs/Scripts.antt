-- The scripts of a world in memory, which its ports take by their names.
use Rattle.std.specs.Prelude.{ℕ, List, [], ◌∷◌, Option, Some, None, if◌then◌else◌}
use Rattle.std.specs.Str.{bytes_eq}
use Rattle.vx_ends.specs.declared.call.Call.{Call}
use Rattle.vx_ends.specs.declared.world.Config.{Config}
use Rattle.vx_ends.specs.declared.scripted.Scripted.{Scripted}
use Rattle.vx_ends.specs.declared.step.Step.{Step}
use Rattle.vx_ends.specs.declared.act.Act.{Act}

-- What contracts see of a world in memory.
pub record Staged : Type 0 where
  -- the texts with their paths
  pub configs : List Config
  -- the scripts that no port has taken
  pub scripts : List Scripted
  -- how many reads of a configuration failed
  pub faults : ℕ
  -- its calls, the latest first
  pub calls : List Call

-- the next script of a name
abbrev pub script_for : List Scripted → List ℕ → Option Scripted
script_for [] name = None
script_for (script ∷ scripts) name =
    if bytes_eq script.name name then Some script else script_for scripts name

-- the scripts that are left behind it
abbrev pub scripts_without : List Scripted → List ℕ → List Scripted
scripts_without [] name = []
scripts_without (script ∷ scripts) name =
    if bytes_eq script.name name then scripts else script ∷ scripts_without scripts name

-- the steps of a script, and none where there is no script
abbrev pub steps_of : Option Scripted → List Step
steps_of None = []
steps_of (Some script) = script.steps

-- the acts of a script, and none where there is no script
abbrev pub acts_of : Option Scripted → List Act
acts_of None = []
acts_of (Some script) = script.acts
