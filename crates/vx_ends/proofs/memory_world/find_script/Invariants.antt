use Rattle.std.proofs.Common.{◌≡◌, ◌++◌, drop, take}
use Rattle.vx_ends.specs.Scripts.{script_for, scripts_without}
use Rattle.vx_ends.proofs.memory_world.find_script.Given as goal

abbrev pub invariant-loop-i : goal.invariant-loop-i
invariant-loop-i l = record {
  next : script_for (drop l.i l.scripts) l.name ≡ script_for l.scripts l.name;
  left : scripts_without l.scripts l.name ≡ take l.i l.scripts ++ scripts_without (drop l.i l.scripts) l.name;
}
