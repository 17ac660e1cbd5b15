use Rattle.std.proofs.Common.{◌≡◌, true, false}
use Rattle.std.specs.Prelude.{OnOk}
use Rattle.vx_record.specs.Abandoning.{abandoned}
use Rattle.vx_record.specs.Makers.{IsFor}
use Rattle.vx_landing.proofs.Answering.{going_known}
use Rattle.vx_landing.proofs.LandedEngine.{goes_on_returned, on_ok, over_stays}
use Rattle.vx_hub.proofs.Resting.{over_before, short_or_over, hub_returned}
use Rattle.vx_hub.proofs.hub.Hub.land.Goals as goal

pub returns-in-Ok-clause-hub : goal.returns-in-Ok-clause-hub
returns-in-Ok-clause-hub g c = hub_returned c.requires.hub c.accept_landing.ensures.unleased (λ sound. c.in-Ok.ensures.well (c.requires.hub.well sound))

pub returns-in-Err-clause-hub : goal.returns-in-Err-clause-hub
returns-in-Err-clause-hub g c = hub_returned c.requires.hub c.accept_landing.ensures.unleased (λ sound. cc)

pub returns-in-Err-clause-noted : goal.returns-in-Err-clause-noted
returns-in-Err-clause-noted g c =
    let old = c.args.self.now.engine in
    let new = c.accept_landing.new.engine in
    let over : OnOk c.answer_of.result (abandoned old.log ≡ true) = on_ok c.answer_of.result (abandoned new.log ≡ true) (abandoned old.log ≡ true)
    (over_before old.log new.log (goes_on_returned g.P.Port.observed c.args.landing.instance old new c.requires.hub.stands c.accept_landing.ensures.unleased)) c.answer_of.ensures.fine in
    rw (short_or_over c.answer_of.result (abandoned old.log) over) (rw c.in-Err.is at c.accept_landing.ensures.noted)

pub returns-in-Err-clause-over : goal.returns-in-Err-clause-over
returns-in-Err-clause-over g c over =
    c.answer_of.ensures.over (over_stays
    (IsFor c.args.landing.instance) c.args.self.now.engine.log c.accept_landing.new.engine.log c.accept_landing.ensures.unleased.only over)

pub returns-in-Err-clause-sound : goal.returns-in-Err-clause-sound
returns-in-Err-clause-sound g c =
    let old = c.args.self.now.engine in
    let new = c.accept_landing.new.engine in
    on_ok c.answer_of.result (abandoned new.log ≡ true) (abandoned old.log ≡ false → true ≡ c.args.self.now.fatal)
    (λ over going. let before = over_before old.log new.log
    (goes_on_returned g.P.Port.observed c.args.landing.instance old new c.requires.hub.stands c.accept_landing.ensures.unleased) over in let no : ⊥ = cc in absurd no)
    c.answer_of.ensures.fine

pub returns-in-Ok-clause-task : goal.returns-in-Ok-clause-task
returns-in-Ok-clause-task g c going = c.accept_landing.ensures.task (going_known g.P.Port.observed c.args.self.now.engine c.requires.hub.stands going)

pub returns-in-Err-clause-task : goal.returns-in-Err-clause-task
returns-in-Err-clause-task g c going = c.accept_landing.ensures.task (going_known g.P.Port.observed c.args.self.now.engine c.requires.hub.stands going)
