use Rattle.std.proofs.Common.{◌∙◌, refl, sym}
use Rattle.vx_record.proofs.Adding.{adds_both}
use Rattle.vx_record.proofs.Ceasing.{unabandoned}
use Rattle.vx_landing.proofs.Answering.{may_spend, none_known, over_known, spends_own}
use Rattle.vx_landing.proofs.Lending.{kept_on}
use Rattle.vx_landing.proofs.landing.land_attempt.Goals as goal

pub spend_all_held-requires-clause-kept : goal.spend_all_held-requires-clause-kept
spend_all_held-requires-clause-kept g c =
    let r = c.requires in kept_on c.args.engine.now.places c.note_attempt.new.engine.places c.args.i (rw r.stands.size r.within) c.note_attempt.ensures.leaves.capacities r.kept

pub spend_all_held-requires-clause-may : goal.spend_all_held-requires-clause-may
spend_all_held-requires-clause-may g c =
    let mid = c.note_attempt.new.engine in
    let steps = c.note_attempt.ensures.steps in
    rw c.outcome_of.ensures (may_spend c.args.engine.now.log mid.log c.args.i _ c.args.reply c.requires.stands.legal (sym c.decides-decided.ensures ∙ c.if-not-decided.false) steps.noted
    (none_known g.P.Port.observed mid steps.stands c.if-is_none.ensures))

pub returns-then-is_none : goal.returns-then-is_none
returns-then-is_none g c =
    let mid = c.note_attempt.new.engine in
    let noted = c.note_attempt.ensures in
    let going = rw noted.steps.noted at (unabandoned mid.log (none_known g.P.Port.observed mid noted.steps.stands c.if-is_none.ensures)) in
    let spent = rw c.outcome_of.ensures at c.spend_all_held.ensures.spent in
    record {
      mid = mid;
      noted = noted;
      spent = λ _ _. spent;
      over = λ over. cc;
      waits = λ waits. let last = sym c.decides-decided.ensures ∙ c.if-not-decided.false in cc;
      none = λ _ _. c.spend_all_held.ensures.none;
      kept = c.spend_all_held.ensures.kept;
      stands = spent.stands;
      only = adds_both _ _ _ _ noted.only (spends_own spent);
    }

pub returns-else-is_none : goal.returns-else-is_none
returns-else-is_none g c =
    let r = c.requires in
    let mid = c.note_attempt.new.engine in
    let noted = c.note_attempt.ensures in
    let over = rw noted.steps.noted at (over_known g.P.Port.observed mid noted.steps.stands c.if-is_none.ensures) in
    record {
      mid = mid;
      noted = noted;
      spent = λ going last. cc;
      over = λ _. refl;
      waits = λ _. refl;
      none = λ going last. cc;
      kept = kept_on c.args.engine.now.places mid.places c.args.i (rw r.stands.size r.within) noted.leaves.capacities r.kept;
      stands = noted.steps.stands;
      only = noted.only;
    }

pub returns-then-not-decided : goal.returns-then-not-decided
returns-then-not-decided g c =
    let r = c.requires in
    let mid = c.note_attempt.new.engine in
    let noted = c.note_attempt.ensures in
    let waits = sym c.decides-decided.ensures ∙ c.if-not-decided.true in
    record {
      mid = mid;
      noted = noted;
      spent = λ going last. cc;
      over = λ _. refl;
      waits = λ _. refl;
      none = λ going last. cc;
      kept = kept_on c.args.engine.now.places mid.places c.args.i (rw r.stands.size r.within) noted.leaves.capacities r.kept;
      stands = noted.steps.stands;
      only = noted.only;
    }
