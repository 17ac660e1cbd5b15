use Rattle.std.proofs.Common.{◌∙◌, sym, ap, Some}
use Rattle.clap.specs.Words.{found_of}
use Rattle.clap.proofs.WalkLemmas.{first_value-rows}
use Rattle.vx_cli.proofs.reading.value_of.Goals as goal

pub returns-clause-value : goal.returns-clause-value
returns-clause-value c =
    sym (first_value-rows (found_of c.args.matches.now) c.args.name.now)
    ∙ sym c.in-Some.ensures ∙ ap Some (sym c.in_ok-copy_of-in-Some.ensures.copy)
