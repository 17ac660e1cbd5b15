use Rattle.vx_ends.specs.declared.call.Call.TheVariants.{Config}
use Rattle.vx_ends_os.proofs.os_world.OsWorldWorld.config.Given as goal

abbrev pub ghost-note : goal.ghost-note
ghost-note a = Config a._shown.now.now
