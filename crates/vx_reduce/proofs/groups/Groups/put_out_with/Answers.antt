use Rattle.std.proofs.Common.{◌≡◌, Option, subst}
use Rattle.vx_reduce.specs.declared.group.Group.{Group}
use Rattle.vx_reduce.specs.Groups.{put_all}
use Rattle.vx_reduce.specs.Endings.{ending_outputs}
use Rattle.vx_reduce.proofs.GroupLaws.{is_there, never_none, found_at, removed_at, indexed_left}
use Rattle.vx_reduce.proofs.groups.Groups.put_out_with.Goals as goal

pub unreachable-requires : goal.unreachable-requires
unreachable-requires c = never_none c.self.inside.index.entries c.self.inside.entries.entries c.self.inside.next c.args.self.now c.args.key.now c.self.invariant c.self.view_is c.in_default.ensures c.requires

pub put_out_with_at-requires : goal.put_out_with_at-requires
put_out_with_at-requires c = is_there c.self.inside.index.entries c.self.inside.entries.entries c.self.inside.next c.args.self.now c.args.key.now c.self.invariant c.self.view_is c.in-Some.number c.in-Some.ensures c.requires

pub invariant_of-self : goal.invariant_of-self
invariant_of-self c =
    indexed_left c.self.inside.index.entries c.self.inside.entries.entries c.self.inside.next c.args.self.now c.args.key.now c.self.invariant c.self.view_is c.in-Some.number c.in-Ok.key c.forget.new.index.entries c.put_out_with_at.new.entries.entries c.in-Some.ensures c.requires c.in-Ok.ensures.taken.entries c.in-Ok.ensures.taken.named c.forget.ensures

pub returns-in-Ok-clause-ok : goal.returns-in-Ok-clause-ok
returns-in-Ok-clause-ok c = removed_at c.self.inside.index.entries c.self.inside.entries.entries c.self.inside.next c.args.self.now c.args.key.now c.self.invariant c.self.view_is c.in-Some.number c.put_out_with_at.new.entries.entries c.in-Some.ensures c.in-Ok.ensures.taken.entries

pub returns-in-Ok-clause-put_out : goal.returns-in-Ok-clause-put_out
returns-in-Ok-clause-put_out c =
    subst (λ (o : Option Group). c.put_out_with_at.new.shelf ≡ put_all c.args.shelf.now (ending_outputs c.args.ending o c.args.event c.args.copies)) (found_at c.self.inside.index.entries c.self.inside.entries.entries c.self.inside.next c.args.self.now c.args.key.now c.self.invariant c.self.view_is c.in-Some.number c.in-Some.ensures) c.in-Ok.ensures.put_out
