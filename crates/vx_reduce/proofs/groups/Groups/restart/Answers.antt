use Rattle.std.proofs.Common.{◌≡◌, Option, refl, sym, subst}
use Rattle.vx_reduce.specs.declared.group.Group.{Group}
use Rattle.vx_reduce.specs.Groups.{new_group, put_all, output_found}
use Rattle.vx_reduce.specs.Indexes.{IsIndexed}
use Rattle.vx_reduce.proofs.GroupLaws.{is_there, never_none, found_at, renewed_at, indexed_renewed, known_at}
use Rattle.vx_reduce.proofs.groups.Groups.restart.Goals as goal

pub unreachable-requires : goal.unreachable-requires
unreachable-requires c = never_none c.self.inside.index.entries c.self.inside.entries.entries c.self.inside.next c.args.self.now c.args.key c.self.invariant c.self.view_is c.in_default-number_in.ensures c.requires

pub exchange-requires-clause-there : goal.exchange-requires-clause-there
exchange-requires-clause-there c = is_there c.self.inside.index.entries c.self.inside.entries.entries c.self.inside.next c.args.self.now c.args.key c.self.invariant c.self.view_is c.in-Some-number_in.number c.in-Some-number_in.ensures c.requires

pub renumber-requires : goal.renumber-requires
renumber-requires c = known_at c.self.inside.index.entries c.self.inside.entries.entries c.self.inside.next c.args.self.now c.args.key c.self.invariant c.self.view_is c.in-Some-number_in.number c.in-Ok.key c.in-Some-number_in.ensures c.requires c.in-Ok.ensures.key

pub invariant_of-self : goal.invariant_of-self
invariant_of-self c =
    subst (IsIndexed c.renumber.new.index.entries c.exchange.new.entries.entries) (sym c.in-Some.ensures.1)
    (indexed_renewed c.self.inside.index.entries c.self.inside.entries.entries c.self.inside.next c.args.self.now c.args.key c.self.invariant c.self.view_is c.in-Some-number_in.number c.in-Ok.key (new_group c.args.key c.args.event c.args.copies c.args.moment) c.renumber.new.index.entries c.exchange.new.entries.entries refl c.in-Some-number_in.ensures c.requires c.in-Ok.ensures.entries c.in-Ok.ensures.key c.renumber.ensures)

pub returns-in-Ok-clause-ok : goal.returns-in-Ok-clause-ok
returns-in-Ok-clause-ok c = renewed_at c.self.inside.index.entries c.self.inside.entries.entries c.self.inside.next c.args.self.now c.args.key c.self.invariant c.self.view_is c.in-Some-number_in.number (new_group c.args.key c.args.event c.args.copies c.args.moment) c.exchange.new.entries.entries c.in-Some-number_in.ensures c.in-Ok.ensures.entries

pub returns-in-Ok-clause-put_out : goal.returns-in-Ok-clause-put_out
returns-in-Ok-clause-put_out c = subst (λ (o : Option Group). c.exchange.new.shelf ≡ put_all c.args.shelf.now (output_found o)) (found_at c.self.inside.index.entries c.self.inside.entries.entries c.self.inside.next c.args.self.now c.args.key c.self.invariant c.self.view_is c.in-Some-number_in.number c.in-Some-number_in.ensures) c.in-Ok.ensures.put_out
