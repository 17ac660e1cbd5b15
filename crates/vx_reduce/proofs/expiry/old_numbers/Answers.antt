use Rattle.std.proofs.Common.{◌++◌, sym, ◌∙◌, ap}
use Rattle.std.proofs.lemmas.List.{append-nil}
use Rattle.vx_reduce.specs.Expiries.{old_numbers}
use Rattle.vx_reduce.proofs.expiry.old_numbers.Goals as goal

pub returns : goal.returns
returns c =
    sym (append-nil c.loop-number.numbers.items) ∙ ap (λ es. c.loop-number.numbers.items ++ old_numbers c.args.expire_after c.args.now es) (sym c.in-None.ensures.steps.0) ∙ c.loop-number.invariant
