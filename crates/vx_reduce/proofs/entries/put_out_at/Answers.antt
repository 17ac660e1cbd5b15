use Rattle.std.proofs.Common.{sym, ◌∙◌}
use Rattle.vx_reduce.proofs.EntryLaws.{err_anyway, set_same, written_taken}
use Rattle.vx_reduce.proofs.entries.put_out_at.Goals as goal

pub returns-in_err-put_out-in-Some-clause-err : goal.returns-in_err-put_out-in-Some-clause-err
returns-in_err-put_out-in-Some-clause-err c =
    err_anyway c.from_residual.result ((c.get_mut.follows.holds c.put_out.new.self).0 ∙ set_same _ _ _ _ (sym c.in-Some.ensures.value) c.in_err-put_out-in-Some.ensures.err)

pub returns-clause-taken : goal.returns-clause-taken
returns-clause-taken c =
    written_taken c.args.number c.remove_hollow.result c.args.entries.now.entries (c.get_mut.follows.lender c.put_out.new.self).entries c.remove_hollow.new.entries.entries
    c.in-Some.group.now c.put_out.new.self (sym c.in-Some.ensures.value) ((c.get_mut.follows.holds c.put_out.new.self).0) c.in_ok-put_out-in-Some.ensures.key c.remove_hollow.ensures
