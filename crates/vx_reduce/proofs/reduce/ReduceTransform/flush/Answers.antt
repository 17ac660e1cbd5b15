use Rattle.std.proofs.Common.{List, ap}
use Rattle.std.proofs.lemmas.Result.{on_ok_weaker}
use Rattle.vx_reduce.specs.declared.group.Group.{Group}
use Rattle.vx_reduce.specs.Groups.{copies_held}
use Rattle.vx_reduce.specs.Expiries.{is_old}
use Rattle.vx_reduce.proofs.Expiring.{out_moves}
use Rattle.vx_reduce.proofs.Answered.{none_left, all_flushed}
use Rattle.vx_reduce.proofs.Calls.{ended_on, ended_out_on}
use Rattle.vx_reduce.proofs.reduce.ReduceTransform.flush.Goals as goal

pub returns-clause-flushed : goal.returns-clause-flushed
returns-clause-flushed c = on_ok_weaker c.put_out_old.result (λ all. all_flushed c.args.self.now.groups c.put_out_old.new.self c.args.shelf.now c.put_out_old.new.shelf c.put_out_old.ensures.put_out all) c.put_out_old.ensures.all

pub returns-clause-groups : goal.returns-clause-groups
returns-clause-groups c = on_ok_weaker c.put_out_old.result (λ all. ap (λ (gs : List Group). record c.args.self.now { groups = gs }) (none_left c.put_out_old.new.self all)) c.put_out_old.ensures.all

pub returns-clause-moves : goal.returns-clause-moves
returns-clause-moves c = out_moves (is_old 0 0) c.args.self.now.groups c.put_out_old.new.self c.args.shelf.now c.put_out_old.new.shelf c.put_out_old.ensures.put_out

pub returns-clause-emptied : goal.returns-clause-emptied
returns-clause-emptied c = on_ok_weaker c.put_out_old.result (λ all. ap copies_held (none_left c.put_out_old.new.self all)) c.put_out_old.ensures.all

pub returns-clause-goes_on : goal.returns-clause-goes_on
returns-clause-goes_on c =
    ended_on c.put_out_old.result c.args.self.now (record c.args.self.now { groups = c.put_out_old.new.self })
    (on_ok_weaker c.put_out_old.result (λ all. ap (λ (gs : List Group). record c.args.self.now { groups = gs }) (none_left c.put_out_old.new.self all)) c.put_out_old.ensures.all)

pub returns-clause-puts_out : goal.returns-clause-puts_out
returns-clause-puts_out c =
    ended_out_on c.put_out_old.result c.args.self.now (record c.args.self.now { groups = c.put_out_old.new.self }) c.args.shelf.now c.put_out_old.new.shelf
    (on_ok_weaker c.put_out_old.result (λ all. all_flushed c.args.self.now.groups c.put_out_old.new.self c.args.shelf.now c.put_out_old.new.shelf c.put_out_old.ensures.put_out all) c.put_out_old.ensures.all)
