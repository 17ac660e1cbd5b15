use Rattle.std.proofs.Common.{List, sym, subst}
use Rattle.std.proofs.lemmas.Result.{on_ok_weaker}
use Rattle.std.specs.Map.{values_of}
use Rattle.vx_reduce.specs.declared.group.Group.{Group}
use Rattle.vx_reduce.specs.Expiries.{is_old, HasPutOut}
use Rattle.vx_reduce.proofs.Expiring.{out_at_first}
use Rattle.vx_reduce.proofs.groups.Groups.put_out_old.Goals as goal

pub returns-in_err-numbers-clause-put_out : goal.returns-in_err-numbers-clause-put_out
returns-in_err-numbers-clause-put_out c = out_at_first (is_old c.args.expire_after c.args.now) c.args.self.now c.args.shelf.now

pub invariant_of-self : goal.invariant_of-self
invariant_of-self c = c.put_out_numbers.ensures.indexed c.self.inside.next c.self.invariant

pub returns-clause-put_out : goal.returns-clause-put_out
returns-clause-put_out c =
    subst (λ (gs : List Group). HasPutOut (is_old c.args.expire_after c.args.now) gs (values_of c.put_out_numbers.new.entries.entries) c.args.shelf.now c.put_out_numbers.new.shelf) c.self.view_is
    (c.put_out_numbers.ensures.put_out (is_old c.args.expire_after c.args.now) c.self.inside.next c.self.invariant (sym c.in_ok-numbers.ensures))

pub returns-clause-all : goal.returns-clause-all
returns-clause-all c = on_ok_weaker c.put_out_numbers.result (λ all. all (is_old c.args.expire_after c.args.now) c.self.inside.next c.self.invariant (sym c.in_ok-numbers.ensures)) c.put_out_numbers.ensures.all
