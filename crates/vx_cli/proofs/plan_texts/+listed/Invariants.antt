use Rattle.std.proofs.Common.{length}
use Rattle.vx_cli.proofs.plan_texts.+listed.Given as goal

abbrev pub decreases-listed : goal.decreases-listed
decreases-listed l = length l.names.now
