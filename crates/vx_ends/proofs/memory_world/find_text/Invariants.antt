use Rattle.std.proofs.Common.{◌≡◌, drop}
use Rattle.vx_ends.specs.Texts.{text_at}
use Rattle.vx_ends.proofs.memory_world.find_text.Given as goal

abbrev pub invariant-loop-config : goal.invariant-loop-config
invariant-loop-config l = text_at (drop l.config-index l.configs) l.path ≡ text_at l.configs l.path
