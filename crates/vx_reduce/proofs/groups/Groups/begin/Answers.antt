use Rattle.std.proofs.Common.{refl, sym, subst}
use Rattle.vx_reduce.specs.Groups.{new_group}
use Rattle.vx_reduce.specs.Indexes.{IsIndexed}
use Rattle.vx_reduce.proofs.GroupLaws.{free_number, free_key, added_at, indexed_added}
use Rattle.vx_reduce.proofs.groups.Groups.begin.Goals as goal

pub enter-requires-clause-number : goal.enter-requires-clause-number
enter-requires-clause-number c = free_number c.self.inside.index.entries c.self.inside.entries.entries c.self.inside.next c.args.self.now c.args.key c.self.invariant c.self.view_is

pub enter-requires-clause-key : goal.enter-requires-clause-key
enter-requires-clause-key c = free_key c.self.inside.index.entries c.self.inside.entries.entries c.self.inside.next c.args.self.now c.args.key c.self.invariant c.self.view_is c.requires

pub invariant_of-self : goal.invariant_of-self
invariant_of-self c =
    subst (IsIndexed c.enter.new.index.entries c.enter.new.entries.entries) (sym c.in-Some.ensures.1)
    (indexed_added c.self.inside.index.entries c.self.inside.entries.entries c.self.inside.next c.args.self.now c.args.key c.self.invariant c.self.view_is (new_group c.args.key c.args.event c.args.copies c.args.moment) c.enter.new.index.entries c.enter.new.entries.entries refl c.requires c.in-Ok-enter.ensures.entries c.in-Ok-enter.ensures.index)

pub returns-in-Ok-enter-clause-ok : goal.returns-in-Ok-enter-clause-ok
returns-in-Ok-enter-clause-ok c = added_at c.self.inside.index.entries c.self.inside.entries.entries c.self.inside.next c.args.self.now c.args.key c.self.invariant c.self.view_is (new_group c.args.key c.args.event c.args.copies c.args.moment) c.enter.new.entries.entries c.in-Ok-enter.ensures.entries
