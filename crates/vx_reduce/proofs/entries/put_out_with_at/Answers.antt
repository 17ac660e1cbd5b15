use Rattle.std.proofs.Common.{sym, ◌∙◌}
use Rattle.vx_reduce.proofs.EntryLaws.{set_same, written_taken}
use Rattle.vx_reduce.proofs.entries.put_out_with_at.Goals as goal

pub returns-in-Err-clause-err : goal.returns-in-Err-clause-err
returns-in-Err-clause-err c = (c.get_mut.follows.holds c.put_out_with.new.self).0 ∙ set_same _ _ _ _ (sym c.in-Some.ensures.value) c.in-Err.ensures.err

pub returns-clause-taken : goal.returns-clause-taken
returns-clause-taken c =
    written_taken c.args.number c.remove_hollow.result c.args.entries.now.entries (c.get_mut.follows.lender c.put_out_with.new.self).entries c.remove_hollow.new.entries.entries
    c.in-Some.group.now c.put_out_with.new.self (sym c.in-Some.ensures.value) ((c.get_mut.follows.holds c.put_out_with.new.self).0) c.put_out_with.ensures.key c.remove_hollow.ensures
