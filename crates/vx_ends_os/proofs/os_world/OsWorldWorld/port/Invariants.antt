use Rattle.vx_ends.specs.declared.call.Call.TheVariants.{Port}
use Rattle.vx_ends_os.proofs.os_world.OsWorldWorld.port.Given as goal

abbrev pub ghost-note : goal.ghost-note
ghost-note a = Port a._shown.now.now
