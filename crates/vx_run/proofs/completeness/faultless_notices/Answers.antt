use Rattle.vx_run.proofs.Completing.{notices_well}
use Rattle.vx_run.proofs.completeness.faultless_notices.Goals as goal

pub returns : goal.returns
returns g c words environment names configs before now was is h ports well = notices_well g.P.Port.observed words environment names configs before now was is h ports c.one_command.ensures.one well
