-- What the world around this process tells.
use Rattle.std.specs.Prelude.{ℕ, List, reverse}
use Rattle.vx_ends.specs.declared.call.Call.{Call}
use Rattle.vx_ends_os.specs.declared.os_world.OsWorld.{OsWorld}

-- how many reads of a configuration failed
abbrev pub faults_of : OsWorld → ℕ
faults_of world = world.faults

-- its calls, in order
abbrev pub calls_of : OsWorld → List Call
calls_of world = reverse world.calls
