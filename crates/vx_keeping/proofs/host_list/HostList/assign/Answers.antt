use Rattle.std.proofs.Common.{◌∙◌, sym, ap}
use Rattle.vx_keeping.specs.Assigning.{Host}
use Rattle.vx_keeping.proofs.Assigning.{assigned_at, assigned_none, renamed}
use Rattle.vx_keeping.proofs.host_list.HostList.assign.Goals as goal

pub returns-in-Some-clause-names : goal.returns-in-Some-clause-names
returns-in-Some-clause-names g c = rw (sym c.self.view_is) (renamed c.self.inside.hosts.items c.in-Some.place c.run_by.new.self c.index_mut.result.now (c.run_by.ensures.name ∙ ap (λ (host : Host). host.name) c.index_mut.ensures.value))

pub returns-in-Some-clause-runs : goal.returns-in-Some-clause-runs
returns-in-Some-clause-runs g c = rw (sym c.self.view_is) (assigned_at c.args.name.now c.args.instance c.self.inside.hosts.items c.in-Some.place c.run_by.new.self (rw c.self.view_is (sym c.in-Some.is ∙ c.place_for.ensures)) c.run_by.ensures.instance)

pub returns-in_default-clause-runs : goal.returns-in_default-clause-runs
returns-in_default-clause-runs g c = assigned_none c.args.name.now c.args.instance c.args.self.now (sym c.in_default.is ∙ c.place_for.ensures)
