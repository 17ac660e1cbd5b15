use Rattle.std.proofs.Common.{sym, ◌∙◌}
use Rattle.vx_ends.proofs.ScriptsLemmas.{script_found}
use Rattle.vx_ends.proofs.memory_world.find_script.Goals as goal

pub returns-then-eq-clause-some : goal.returns-then-eq-clause-some
returns-then-eq-clause-some c =
    let eq = rw c.as_str.ensures at c.eq.ensures in
    script_found c.args.scripts.now c.loop-i.i c.args.name.now c.index-scripts-i.result c.loop-i-test.true c.index-scripts-i.is c.loop-i.invariant.next (sym eq ∙ c.if-eq.true)
