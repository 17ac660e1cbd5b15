use Rattle.std.proofs.Common.{◌∙◌, sym, ap, subst, codes}
use Rattle.clap.specs.Words.{App, first_of, matches_of}
use Rattle.clap.specs.Walk.{texts}
use Rattle.vx_cli.specs.Commands.{IsTaken, is_set}
use Rattle.vx_cli.proofs.reading.read_run.Goals as goal

pub returns-clause-command : goal.returns-clause-command
returns-clause-command c =
    let words = texts c.args.words.now in
    let grammar = c.in_ok-run_grammar.ensures.grammar in
    let rows = c.in_ok-matches.ensures.rows ∙ ap (λ (a : App). matches_of a words) grammar in (
      record {
        unnamed = c.requires;
        taken = subst (λ (a : App). IsTaken a words) grammar c.in_ok-matches.ensures.taken;
        config = sym (ap (first_of (codes "config")) rows) ∙ c.in_ok-config.ensures.value;
      },
      (
        sym (ap (λ all. is_set (first_of (codes "once") all)) rows) ∙ sym c.is_set-once.ensures,
        sym (ap (λ all. is_set (first_of (codes "stats") all)) rows) ∙ sym c.is_set-stats.ensures,
      ),
    )
