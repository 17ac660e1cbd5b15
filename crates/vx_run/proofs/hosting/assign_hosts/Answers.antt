use Rattle.std.proofs.Common.{◌≡◌, ◌∙◌, ◌+◌, ◌<◌, get_or, length, List, sym, ap, subst, arith}
use Rattle.vx_plan.specs.declared.component.Component.{Component}
use Rattle.vx_plan.specs.Planned.{Planned}
use Rattle.vx_run.specs.Hosting.{RunEach, now_run}
use Rattle.vx_run.proofs.Assigned.{none_run, next_run}
use Rattle.vx_run.proofs.hosting.assign_hosts.Goals as goal

pub loop-i-init : goal.loop-i-init
loop-i-init g c = (c.release.ensures.names, rw (c.release.ensures.runs, c.release.ensures.names) (none_run (g.H.NamedHosts.names c.args.hosts.now) c.args.plan.now.components))

pub loop-i-preserved : goal.loop-i-preserved
loop-i-preserved g c =
    let names = g.H.NamedHosts.names c.loop-i.hosts in
    let runs = g.H.NamedHosts.runs c.loop-i.hosts in
    let cs : List Component = c.args.plan.now.components in
    let component = c.index-components-i.result in
    let same : c.as_slice-components.result.now ≡ cs = c.as_slice-components.ensures ∙ ap (λ (p : Planned). p.components) c.plan.view_is in
    let at : component ≡ get_or cs c.loop-i.i component = c.index-components-i.is ∙ ap (λ (all : List Component). get_or all c.loop-i.i component) same in
    let within : c.loop-i.i < length cs = subst (λ (all : List Component). c.loop-i.i < length all) same c.loop-i-test.true in (
      c.assign_host.ensures.names ∙ c.loop-i.invariant.0,
      rw (c.assign_host.ensures.runs, c.assign_host.ensures.names)
          (subst (λ (e : Component). RunEach names (now_run names runs c.loop-i.i e) cs (c.loop-i.i + 1)) (sym at) (next_run names runs cs c.loop-i.i component within c.loop-i.invariant.1)),
    )
