use Rattle.std.proofs.Common.{◌≡◌}
use Rattle.vx_run.proofs.Summing.{blamed}
use Rattle.vx_run.proofs.completeness.failed_prints.Goals as goal

pub returns : goal.returns
returns g c words environment texts h old new fault = blamed words environment texts h (new ≡ old) (g.P.Printer.printed old) (g.P.Printer.printed new) (g.P.Printer.faults old) (g.P.Printer.faults new) fault
