use Rattle.std.proofs.Common.{ap, sym, ◌∙◌}
use Rattle.std.specs.Option.{option_copied}
use Rattle.vx_keeping.proofs.Off.{firsts_next}
use Rattle.vx_keeping.proofs.hosting.first_numbers.Goals as goal

pub loop-i-preserved : goal.loop-i-preserved
loop-i-preserved c =
    firsts_next c.args.taken.now.items c.loop-i.i c.in-Some.parcel.now c.first_number.result (sym c.get.ensures ∙ ap option_copied c.in-Some.is) c.first_number.ensures
    c.loop-i.numbers.items c.push.new.self.items c.loop-i.invariant c.in_ok-push-in-Some.ensures.items
