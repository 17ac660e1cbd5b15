use Rattle.std.proofs.Common.{◌∙◌, ap}
use Rattle.clap.specs.Words.{found_of}
use Rattle.clap.proofs.WalkLemmas.{first_value-rows}
use Rattle.vx_cli.specs.Commands.{is_set}
use Rattle.vx_cli.proofs.reading.is_set.Goals as goal

pub returns-in-Some : goal.returns-in-Some
returns-in-Some c =
    c.eq.ensures ∙ ap is_set c.in-Some.ensures ∙ ap is_set (first_value-rows (found_of c.args.matches.now) c.args.name.now)

pub returns-in-None : goal.returns-in-None
returns-in-None c = ap is_set c.in-None.ensures ∙ ap is_set (first_value-rows (found_of c.args.matches.now) c.args.name.now)
