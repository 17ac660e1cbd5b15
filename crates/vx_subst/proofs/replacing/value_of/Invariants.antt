use Rattle.std.proofs.Common.{◌≡◌, drop}
use Rattle.vx_subst.specs.Environment.{value_of}
use Rattle.vx_subst.proofs.replacing.value_of.Given as goal

abbrev pub invariant-loop-variable : goal.invariant-loop-variable
invariant-loop-variable l = value_of l.environment l.name ≡ value_of (drop l.variable-index l.environment) l.name
