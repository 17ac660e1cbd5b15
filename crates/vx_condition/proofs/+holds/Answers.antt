use Rattle.std.proofs.Common.{◌≡◌, true, false, sym, ap, ◌∙◌, not, nat_eq, ◌%◌}
use mathlib.Core.Bool.{beq}
use Rattle.vx_condition.specs.Views.{atom_view}
use Rattle.vx_condition.proofs.Negations.{negations-free, negations-hold}
use Rattle.vx_condition.proofs.+holds.Goals as goal

pub term::Term::holds-returns-in_err-plain-clause-lean : goal.term::Term::holds-returns-in_err-plain-clause-lean
term::Term::holds-returns-in_err-plain-clause-lean t c = λ free.
    let never : false ≡ true = c.in_err-plain.ensures.lean (sym (negations-free c.args.self.now.negations (atom_view c.args.self.now.atom)) ∙ free) in
    absurd (cc)

pub term::Term::holds-returns-clause-value : goal.term::Term::holds-returns-clause-value
term::Term::holds-returns-clause-value t c =
    ap (λ b. not (beq b (nat_eq (c.args.self.now.negations % 2) 1))) c.in_ok-plain.ensures.value
    ∙ negations-hold c.args.self.now.negations (atom_view c.args.self.now.atom) c.args.event.now.fields
