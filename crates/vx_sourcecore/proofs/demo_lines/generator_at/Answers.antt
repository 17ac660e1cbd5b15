use Rattle.std.proofs.Common.{rules}
use Rattle.vx_demo.specs.DemoLines.{generator}
use Rattle.vx_sourcecore.specs.Lines.{generator_at}
use Rattle.vx_sourcecore.proofs.demo_lines.generator_at.Goals as goal

pub returns : goal.returns
unfolding generator_at generator
returns c = search rules
