use Rattle.std.proofs.Common.{ap, sym, subst}
use Rattle.std.specs.Prelude.{max}
use Rattle.vx_hub.specs.declared.hub.Hub.{Hub}
use Rattle.vx_run.proofs.Pacing.{latest_of, merge_on, merge_moment, timely_on, timely_both}
use Rattle.vx_run.proofs.driver.merge.Goals as goal

pub returns-in-Ok-clause-on : goal.returns-in-Ok-clause-on
returns-in-Ok-clause-on g c =
    let gave = g.C.Clock.gave c.args.clock.now in
    let old = c.args.hub.now.engine in
    merge_on gave (max c.now.result old.run.latest) c.merge.result old.log c.merge.new.self.engine.log (latest_of gave c.now.result old.run.latest c.now.ensures c.requires.moment)
    c.merge.ensures.hub.stands.legal c.merge.ensures.did c.merge.ensures.noted (λ none. ap (λ (hub : Hub g.row.P.Denot). hub.engine.log) (c.merge.ensures.unchanged none))

pub returns-in-Ok-clause-moment : goal.returns-in-Ok-clause-moment
returns-in-Ok-clause-moment g c =
    let gave = g.C.Clock.gave c.args.clock.now in
    let latest = c.args.hub.now.engine.run.latest in
    merge_moment gave c.now.result latest c.merge.new.self.engine.run.latest c.merge.result c.now.ensures c.requires.moment
    (λ none. ap (λ (hub : Hub g.row.P.Denot). hub.engine.run.latest) (c.merge.ensures.unchanged none)) c.merge.ensures.latest

pub returns-in-Err-clause-on : goal.returns-in-Err-clause-on
returns-in-Err-clause-on g c =
    let gave = g.C.Clock.gave c.args.clock.now in
    let old = c.args.hub.now.engine in
    let mid = c.merge.new.self.engine.log in
    timely_both gave old.log mid c.give_up.new.hub.engine.log
    (merge_on gave (max c.now.result old.run.latest) c.merge.result old.log mid (latest_of gave c.now.result old.run.latest c.now.ensures c.requires.moment)
    c.merge.ensures.hub.stands.legal c.merge.ensures.did c.merge.ensures.noted (λ none. ap (λ (hub : Hub g.row.P.Denot). hub.engine.log) (c.merge.ensures.unchanged none)))
    (timely_on gave mid c.give_up.new.hub.engine.log c.give_up.ensures.on)

pub returns-in-Err-clause-moment : goal.returns-in-Err-clause-moment
returns-in-Err-clause-moment g c =
    let gave = g.C.Clock.gave c.args.clock.now in
    let latest = c.args.hub.now.engine.run.latest in
    subst gave (sym c.give_up.ensures.latest)
    (merge_moment gave c.now.result latest c.merge.new.self.engine.run.latest c.merge.result c.now.ensures c.requires.moment
    (λ none. ap (λ (hub : Hub g.row.P.Denot). hub.engine.run.latest) (c.merge.ensures.unchanged none)) c.merge.ensures.latest)
