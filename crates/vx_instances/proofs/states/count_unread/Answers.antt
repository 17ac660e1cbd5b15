use Rattle.std.proofs.Common.{◌∙◌, sym}
use Rattle.std.specs.Prelude.{not}
use Rattle.std.proofs.lemmas.Bool.{and_parts, eqb-true, not-false, not-true}
use Rattle.vx_status.specs.declared.outcome.Outcome.TheVariants.{NoConsumer}
use Rattle.vx_record.specs.declared.entry.Entry.TheVariants.{Spent}
use Rattle.vx_counts.proofs.Once.{itself}
use Rattle.vx_counts.proofs.Stays.{others_stay}
use Rattle.vx_instances.proofs.Steps.{unless}
use Rattle.vx_instances.proofs.states.count_unread.Goals as goal

pub returns-then-both : goal.returns-then-both
returns-then-both c = λ h i k copies legal sinks givers put first meets.
    let two = and_parts (not c.args.sink) c.args.first (sym c.both.ensures ∙ c.if-both.true) in
    c.unread.ensures h i i k legal (givers (not-true c.args.sink two.0)) (record { copies = copies; put = put; first = eqb-true _ _ (sym first ∙ two.1) }) meets

-- a copy for want of a reader, that isn't the first of its parcel, or whose instance gives nothing, counts for nobody
pub returns-else-both : goal.returns-else-both
returns-else-both c = λ h i k copies legal sinks givers put first meets.
    let none = unless (not c.args.sink) c.args.first _ c.both.result (λ off giver. rw (sinks (not-false c.args.sink off)) at giver) first c.both.ensures c.if-both.false in
    meets ∙ sym (others_stay (Spent i k NoConsumer) h i legal (λ giver. record { giver = i; copies = copies; put = put; apart = rw (itself i) (none giver) }))
