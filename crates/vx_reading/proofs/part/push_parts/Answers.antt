use Rattle.std.proofs.Common.{◌≡◌, Some, arith}
use Rattle.std.proofs.lemmas.Grind.{common_steps}
use Rattle.toml.specs.View.{view}
use Rattle.vx_reading.specs.Components.{section}
use Rattle.vx_reading.proofs.Apart.{apart_section}
use Rattle.vx_reading.proofs.part.push_parts.Goals as goal

pub returns-clause-apart : goal.returns-clause-apart
returns-clause-apart c =
    let there : section (view c.args.root.now) c.args.class ≡ Some (view c.in-Some.table.now) = grind (arith, common_steps) in
    apart_section (view c.args.root.now) c.args.class (view c.in-Some.table.now) there c.in_ok-pairs.ensures.apart
