use Rattle.vx_cli.proofs.OneCommand.{never_both, one_command}
use Rattle.vx_cli.proofs.laws.one_command.Goals as goal

pub returns : goal.returns
returns c = record { one = one_command; apart = never_both }
