use Rattle.std.proofs.Common.{refl}
use Rattle.vx_reduce.specs.Groups.{joined_group}
use Rattle.vx_reduce.proofs.GroupLaws.{is_there, never_none, changed_at, indexed_either}
use Rattle.std.proofs.lemmas.Result.{on_ok_weaker}
use Rattle.vx_reduce.proofs.groups.Groups.join.Goals as goal

pub join_at-requires : goal.join_at-requires
join_at-requires c = is_there c.self.inside.index.entries c.self.inside.entries.entries c.self.inside.next c.args.self.now c.args.key.now c.self.invariant c.self.view_is c.in-Some.number c.in-Some.ensures c.requires

pub unreachable-requires : goal.unreachable-requires
unreachable-requires c = never_none c.self.inside.index.entries c.self.inside.entries.entries c.self.inside.next c.args.self.now c.args.key.now c.self.invariant c.self.view_is c.in-None.ensures c.requires

pub invariant_of-self : goal.invariant_of-self
invariant_of-self c =
    indexed_either c.self.inside.index.entries c.self.inside.entries.entries c.self.inside.next c.args.self.now c.args.key.now c.self.invariant c.self.view_is c.join_at.result (joined_group c.args.event c.args.copies c.args.moment) c.in-Some.number c.join_at.new.entries.entries (λ g. refl) c.in-Some.ensures c.requires c.join_at.ensures.ok c.join_at.ensures.err

pub returns-clause-ok : goal.returns-clause-ok
returns-clause-ok c =
    on_ok_weaker c.join_at.result (λ changes. changed_at c.self.inside.index.entries c.self.inside.entries.entries c.self.inside.next c.args.self.now c.args.key.now c.self.invariant c.self.view_is (joined_group c.args.event c.args.copies c.args.moment) c.in-Some.number c.join_at.new.entries.entries c.in-Some.ensures c.requires changes) c.join_at.ensures.ok
