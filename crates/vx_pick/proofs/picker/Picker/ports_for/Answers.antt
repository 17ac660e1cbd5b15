use Rattle.std.proofs.Common.{subst}
use Rattle.std.proofs.lemmas.Result.{MatchResult-weaker, on_ok_weaker}
use Rattle.vx_pick.specs.Picks.{Picks, StandsFor}
use Rattle.vx_pick.specs.declared.picker.Picker.{Picker}
use Rattle.vx_pick.proofs.Picking.{filter_picked, filter_meant, route_picked, route_meant, sample_picked, sample_meant, sample_picks, dedupe_picked, dedupe_meant, dedupe_picks}
use Rattle.vx_pick.proofs.picker.Picker.ports_for.Goals as goal

pub returns-in-Filter-clause-ports : goal.returns-in-Filter-clause-ports
returns-in-Filter-clause-ports c = MatchResult-weaker c.ports_for.result c.ports_for.ensures.ports
    (λ ports said s earlier picks stands. filter_picked earlier c.args.event.now ports _ said s (subst (λ (p : Picker). Picks s p) c.in-Filter.is picks)) (λ d is. tt)

pub returns-in-Route-clause-ports : goal.returns-in-Route-clause-ports
returns-in-Route-clause-ports c = MatchResult-weaker c.ports_for-in-Route.result c.ports_for-in-Route.ensures.ports
    (λ ports said s earlier picks stands. route_picked earlier c.args.event.now ports _ said s (subst (λ (p : Picker). Picks s p) c.in-Route.is picks)) (λ d is. tt)

pub returns-in-Sample-clause-ports : goal.returns-in-Sample-clause-ports
returns-in-Sample-clause-ports c = MatchResult-weaker c.ports_for-in-Sample.result c.ports_for-in-Sample.ensures.ports
    (λ ports said s earlier picks stands.
    sample_picked earlier c.args.event.now ports _ (λ tests mean. said tests earlier mean (subst (λ (p : Picker). StandsFor p earlier) c.in-Sample.is stands)) s
    (subst (λ (p : Picker). Picks s p) c.in-Sample.is picks)) (λ d is. tt)

pub returns-in-Dedupe-clause-ports : goal.returns-in-Dedupe-clause-ports
returns-in-Dedupe-clause-ports c = MatchResult-weaker c.ports_for-in-Dedupe.result c.ports_for-in-Dedupe.ensures.ports
    (λ ports said s earlier picks stands.
    dedupe_picked earlier c.args.event.now ports _ (said earlier (subst (λ (p : Picker). StandsFor p earlier) c.in-Dedupe.is stands)) s
    (subst (λ (p : Picker). Picks s p) c.in-Dedupe.is picks)) (λ d is. tt)

pub returns-in-Filter-clause-meant : goal.returns-in-Filter-clause-meant
returns-in-Filter-clause-meant c = on_ok_weaker c.ports_for.result
    (λ are s picks. filter_meant _ are s (subst (λ (p : Picker). Picks s p) c.in-Filter.is picks)) c.ports_for.ensures.meant

pub returns-in-Route-clause-meant : goal.returns-in-Route-clause-meant
returns-in-Route-clause-meant c = on_ok_weaker c.ports_for-in-Route.result
    (λ are s picks. route_meant _ are s (subst (λ (p : Picker). Picks s p) c.in-Route.is picks)) c.ports_for-in-Route.ensures.meant

pub returns-in-Sample-clause-meant : goal.returns-in-Sample-clause-meant
returns-in-Sample-clause-meant c = on_ok_weaker c.ports_for-in-Sample.result
    (λ are s picks. sample_meant _ are s (subst (λ (p : Picker). Picks s p) c.in-Sample.is picks)) c.ports_for-in-Sample.ensures.meant

pub returns-in-Dedupe-clause-meant : goal.returns-in-Dedupe-clause-meant
returns-in-Dedupe-clause-meant c = on_ok_weaker c.ports_for-in-Dedupe.result
    (λ seen s picks. dedupe_meant _ s (subst (λ (p : Picker). Picks s p) c.in-Dedupe.is picks)) c.ports_for-in-Dedupe.ensures.seen

pub returns-in-Sample-clause-stands : goal.returns-in-Sample-clause-stands
returns-in-Sample-clause-stands c = on_ok_weaker c.ports_for-in-Sample.result
    (λ seen earlier stands. seen earlier (subst (λ (p : Picker). StandsFor p earlier) c.in-Sample.is stands)) c.ports_for-in-Sample.ensures.seen

pub returns-in-Dedupe-clause-stands : goal.returns-in-Dedupe-clause-stands
returns-in-Dedupe-clause-stands c = on_ok_weaker c.ports_for-in-Dedupe.result
    (λ seen earlier stands. seen earlier (subst (λ (p : Picker). StandsFor p earlier) c.in-Dedupe.is stands)) c.ports_for-in-Dedupe.ensures.seen

pub returns-in-Sample-clause-picks : goal.returns-in-Sample-clause-picks
returns-in-Sample-clause-picks c s picks =
    sample_picks _ _ c.ports_for-in-Sample.ensures.rate c.ports_for-in-Sample.ensures.exclude s (subst (λ (p : Picker). Picks s p) c.in-Sample.is picks)

pub returns-in-Dedupe-clause-picks : goal.returns-in-Dedupe-clause-picks
returns-in-Dedupe-clause-picks c s picks =
    dedupe_picks _ _ c.ports_for-in-Dedupe.ensures.by c.ports_for-in-Dedupe.ensures.most s (subst (λ (p : Picker). Picks s p) c.in-Dedupe.is picks)
