use Rattle.std.proofs.Common.{◌≡◌, ℕ, subst, arith}
use Rattle.vx_hub.specs.Merges.{HasDoneOne, NoneMerges, NoTickDue}
use Rattle.vx_hub.proofs.Mergers.{done_one, hub_merged, no_tick_due, none_merges}
use Rattle.vx_hub.proofs.hub.Hub.merge.Goals as goal

pub returns-in_default-clause-none : goal.returns-in_default-clause-none
returns-in_default-clause-none g c same sound =
    let hub = c.args.self.now in
    let now = c.max-now.ensures in
    let same : c.as_slice.result.now ≡ hub.mergers.items = c.as_slice.ensures.value in
    subst (λ (n : ℕ). NoneMerges hub.engine.log n) now
    (none_merges c.requires.stands hub.mergers.items c.requires.mergers c.max-now.result (c.requires.well sound) (omega (arith, now)) (rw same at c.in_default.ensures.none))

pub returns-in_default-clause-early : goal.returns-in_default-clause-early
returns-in_default-clause-early g c same sound =
    let hub = c.args.self.now in
    let same : c.as_slice.result.now ≡ hub.mergers.items = c.as_slice.ensures.value in
    subst (λ (n : ℕ). NoTickDue hub.engine n) c.max-now.ensures
    (no_tick_due c.requires.stands hub.mergers.items c.requires.mergers c.max-now.result (rw same at c.in_default.ensures.none))

pub returns-in-Ok-clause-hub : goal.returns-in-Ok-clause-hub
returns-in-Ok-clause-hub g c = hub_merged c.requires c.merge.ensures.merged (λ sound. c.in-Ok.ensures.well (c.requires.well sound))

pub returns-in-Ok-clause-did : goal.returns-in-Ok-clause-did
returns-in-Ok-clause-did g c is =
    subst (λ (n : ℕ). HasDoneOne c.args.worker n c.args.self.now.engine.log c.merge.new.engine.log) c.max-now.ensures (done_one c.merge.ensures.merged c.in-Some.ensures.joins)

pub returns-in-Err-clause-hub : goal.returns-in-Err-clause-hub
returns-in-Err-clause-hub g c = hub_merged c.requires c.merge.ensures.merged (λ sound. cc)

pub returns-in-Err-clause-noted : goal.returns-in-Err-clause-noted
returns-in-Err-clause-noted g c =
    subst (λ (n : ℕ). HasDoneOne c.args.worker n c.args.self.now.engine.log c.merge.new.engine.log) c.max-now.ensures (done_one c.merge.ensures.merged c.in-Some.ensures.joins)
