use Rattle.std.proofs.Common.{◌≡◌, ◌∙◌, ℕ, false, sym}
use Rattle.std.proofs.lemmas.Bool.{and_parts}
use Rattle.vx_status.specs.declared.outcome.Outcome.{Outcome}
use Rattle.vx_status.specs.declared.outcome.Outcome.TheVariants.{Filtered}
use Rattle.vx_record.specs.declared.entry.Entry.TheVariants.{Spent}
use Rattle.vx_record.specs.Records.{Record}
use Rattle.vx_record.specs.Tallies.{is_first, is_newest, is_unread}
use Rattle.vx_counts.specs.Meets.{LeavesBe}
use Rattle.vx_counts.specs.Spends.{BeginsNone}
use Rattle.vx_counts.proofs.Stays.{others_stay}
use Rattle.vx_instances.proofs.Steps.{unless}
use Rattle.vx_instances.proofs.states.count_spent.Goals as goal

-- a spend that isn't that of a sink's first copy counts for nobody
leaves : (h : Record) (i c : ℕ) (outcome : Outcome) → is_newest outcome ≡ false → is_unread outcome ≡ false → BeginsNone h i c → LeavesBe h i (Spent i c outcome)
leaves h i c Filtered newest unread none = tt
leaves h i c outcome newest unread none = first_of (search, cc)

pub returns-then-both : goal.returns-then-both
returns-then-both c = λ h i k newest unread legal sinks others first meets.
    let two = and_parts c.args.sink c.args.first (sym c.both.ensures ∙ c.if-both.true) in
    c.spent.ensures h i i k newest legal (sinks two.0) (sym (first (sinks two.0)) ∙ two.1) meets

pub returns-else-both : goal.returns-else-both
returns-else-both c = λ h i k newest unread legal sinks others first meets.
    let none : BeginsNone h i k = λ class. unless c.args.sink c.args.first (is_first h i k) c.both.result others (first class) c.both.ensures c.if-both.false class in
    meets ∙ sym (others_stay (Spent i k c.args.outcome) h i legal (leaves h i k c.args.outcome newest unread none))
