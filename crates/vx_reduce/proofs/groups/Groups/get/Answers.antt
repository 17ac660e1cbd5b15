use Rattle.std.proofs.Common.{sym, ◌∙◌}
use Rattle.vx_reduce.proofs.GroupLaws.{found_at, none_found}
use Rattle.vx_reduce.proofs.groups.Groups.get.Goals as goal

pub returns-in-Some : goal.returns-in-Some
returns-in-Some c =
    c.get.ensures.value ∙ found_at c.self.inside.index.entries c.self.inside.entries.entries c.self.inside.next c.args.self.now c.args.key.now c.self.invariant c.self.view_is c.in-Some.number c.in-Some.ensures

pub returns-in-None : goal.returns-in-None
returns-in-None c =
    sym (none_found c.self.inside.index.entries c.self.inside.entries.entries c.self.inside.next c.args.self.now c.args.key.now c.self.invariant c.self.view_is c.in-None.ensures)
