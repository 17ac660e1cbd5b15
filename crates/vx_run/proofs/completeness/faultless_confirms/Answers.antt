use Rattle.vx_run.proofs.Completing.{confirms_well}
use Rattle.vx_run.proofs.completeness.faultless_confirms.Goals as goal

pub returns : goal.returns
returns g c words environment names configs before now was is h ports well = confirms_well g.P.Port.observed words environment names configs before now was is h ports c.one_command.ensures.one well
