use Rattle.std.proofs.Common.{◌∙◌, sym}
use Rattle.vx_hub.proofs.Coming.{comes_taken, comes_same, never_collects}
use Rattle.vx_hub.proofs.Gathering.{gathered_judge, gathered_else}
use Rattle.vx_hub.proofs.Judging.{owes_neither}
use Rattle.vx_hub.proofs.Leases.{kept_here}
use Rattle.vx_hub.proofs.leasing.gather.Goals as goal
use Rattle.vx_hub.proofs.leasing.gather.Goals.{in-Judge, in_default}

pub returns-then-takes_first : goal.returns-then-takes_first
returns-then-takes_first g c =
    let out = c.collect.ensures in
    let new = c.collect.new.engine in
    let owes = owes_neither new.log c.args.i out.collecting.clear.settled in record {
      gathered = record {
        stands = out.stands;
        served = out.served;
        given = c.decide.ensures.given;
        settled = owes.0;
        untaken = λ other. owes.1;
        kept = kept_here new.places c.args.i out.collecting.kept;
        only = out.only;
        leaves = out.leaves;
        size = out.size;
      };
      comes = comes_taken c.args.job c.decide.result (sym c.takes_first.ensures ∙ c.if-takes_first.true) c.decide.ensures.sinks;
      unclosed = c.decide.ensures.unclosed;
    }

pub returns-then-matches : goal.returns-then-matches
returns-then-matches g c = let out = c.take_inputs.ensures in elim c.match-matches.branch [
  | in-Judge w ↦ record {
    gathered = rw w.in-Judge.is (gathered_judge out.stands out.served out.gathering out.took out.only out.leaves out.size);
    comes = comes_same c.args.job (sym c.takes_first.ensures ∙ c.if-takes_first.false);
    unclosed = λ is. absurd (never_collects c.args.job (sym c.takes_first.ensures ∙ c.if-takes_first.false) is);
  }
  | in_default w ↦ let on = c.if-matches.true in let off = w.matches-is in let no : ⊥ = cc in absurd no
]

pub returns-else-matches : goal.returns-else-matches
returns-else-matches g c = let r = c.requires in elim c.match-matches.branch [
  | in-Judge w ↦ let on = w.matches-is in let off = c.if-matches.false in let no : ⊥ = cc in absurd no
  | in_default w ↦ record {
    gathered = gathered_else c.args.now c.args.job r.stands r.served r.kept r.settled r.untaken (sym c.takes_first.ensures ∙ c.if-takes_first.false) w.in_default.not-Judge r.may;
    comes = comes_same c.args.job (sym c.takes_first.ensures ∙ c.if-takes_first.false);
    unclosed = λ is. absurd (never_collects c.args.job (sym c.takes_first.ensures ∙ c.if-takes_first.false) is);
  }
]
