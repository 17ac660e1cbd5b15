use Rattle.std.proofs.Common.{◌∙◌, sym}
use Rattle.std.proofs.lemmas.Bool.{and_parts, eqb-true}
use Rattle.vx_status.specs.declared.outcome.Outcome.TheVariants.{NewestDropped}
use Rattle.vx_record.specs.declared.entry.Entry.TheVariants.{Spent}
use Rattle.vx_counts.proofs.Once.{itself}
use Rattle.vx_counts.proofs.Stays.{others_stay}
use Rattle.vx_instances.proofs.Steps.{unless}
use Rattle.vx_instances.proofs.states.count_dropped.Goals as goal

pub returns-then-both : goal.returns-then-both
returns-then-both c = λ h i j k copies legal sinks others put first meets.
    let two = and_parts c.args.sink c.args.first (sym c.both.ensures ∙ c.if-both.true) in
    c.dropped_newest.ensures h j i k legal (sinks two.0) (record { giver = i; copies = copies; put = put; first = eqb-true _ _ (sym first ∙ two.1) }) meets

-- a copy that is dropped as the newest, that isn't the first of its parcel, or whose target is no sink, counts for nobody
pub returns-else-both : goal.returns-else-both
returns-else-both c = λ h i j k copies legal sinks others put first meets.
    let none = unless c.args.sink c.args.first _ c.both.result others first c.both.ensures c.if-both.false in
    meets ∙ sym (others_stay (Spent i k NewestDropped) h j legal (λ class. record { giver = i; target = j; copies = copies; put = put; apart = rw (itself j) (none class) }))
