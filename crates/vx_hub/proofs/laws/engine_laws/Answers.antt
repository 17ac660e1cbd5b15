use Rattle.vx_hub.proofs.Running.{run_stays}
use Rattle.vx_hub.proofs.laws.engine_laws.Goals as goal

pub returns : goal.returns
returns c = record { stays = run_stays }
