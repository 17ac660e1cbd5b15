use Rattle.vx_cli.proofs.FaultLines.{fault_line}
use Rattle.vx_cli.proofs.laws.fault_lines.Goals as goal

pub returns : goal.returns
returns c = fault_line
