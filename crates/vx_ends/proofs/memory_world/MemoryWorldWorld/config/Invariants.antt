use Rattle.vx_ends.specs.declared.call.Call.TheVariants.{Config}
use Rattle.vx_ends.proofs.memory_world.MemoryWorldWorld.config.Given as goal

abbrev pub ghost-note : goal.ghost-note
ghost-note a = Config a._shown.now.now
