use Rattle.std.proofs.Common.{◌∙◌, refl, sym}
use Rattle.vx_record.specs.declared.entry.Entry.TheVariants.{Closed}
use Rattle.vx_landing.proofs.Answering.{adds_step, for_own, unleased_still, leaves_both, may_shut, over_still, shut_so, spends_behind, spends_own}
use Rattle.vx_landing.proofs.ceasing.cease.Goals as goal
use Rattle.vx_landing.proofs.ceasing.cease.Goals.{else-has_device-via-then-has_device+else-not-get, else-has_device-via-else-has_device}

pub close-requires-clause-may : goal.close-requires-clause-may
close-requires-clause-may g c =
    may_shut (sym c.has_device.ensures ∙ c.if-has_device.true) c.requires.over c.give_up.ensures.spent c.get.ensures c.if-not-get.true

pub returns-then-not-get-clause-only : goal.returns-then-not-get-clause-only
returns-then-not-get-clause-only g c =
    adds_step (spends_own c.give_up.ensures.spent) (for_own (Closed c.args.i) c.args.i c.give_up.new.self.log refl) c.close.ensures.steps

pub returns-then-not-get-clause-leaves : goal.returns-then-not-get-clause-leaves
returns-then-not-get-clause-leaves g c = leaves_both c.give_up.ensures.spent.leaves c.close.ensures.leaves

pub returns-else-has_device-clause-only : goal.returns-else-has_device-clause-only
returns-else-has_device-clause-only g c = spends_own c.give_up.ensures.spent

pub returns-then-not-get-clause-unleased : goal.returns-then-not-get-clause-unleased
returns-then-not-get-clause-unleased g c = rw c.close.ensures.steps.noted (unleased_still c.give_up.ensures.spent c.requires.unleased)

pub returns-else-has_device-clause-unleased : goal.returns-else-has_device-clause-unleased
returns-else-has_device-clause-unleased g c = unleased_still c.give_up.ensures.spent c.requires.unleased

pub returns-then-not-get-clause-behind : goal.returns-then-not-get-clause-behind
returns-then-not-get-clause-behind g c =
    let spent = c.give_up.ensures.spent in adds_step (spends_behind spent) (refl, over_still spent c.requires.over) c.close.ensures.steps

pub returns-else-has_device-clause-behind : goal.returns-else-has_device-clause-behind
returns-else-has_device-clause-behind g c = spends_behind c.give_up.ensures.spent

pub returns-else-has_device-clause-closed : goal.returns-else-has_device-clause-closed
returns-else-has_device-clause-closed g c device = elim c.else-has_device.branch [
  | else-has_device-via-then-has_device+else-not-get w ↦ shut_so c.args.i c.give_up.ensures.spent.stands w.get.ensures w.if-not-get.false
  | else-has_device-via-else-has_device w ↦ let none = sym c.has_device.ensures ∙ w.if-has_device.false in cc
]
