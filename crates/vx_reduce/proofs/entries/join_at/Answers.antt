use Rattle.std.proofs.Common.{sym, ◌∙◌}
use Rattle.std.proofs.lemmas.Result.{on_err_weaker}
use Rattle.vx_reduce.proofs.EntryLaws.{set_same}
use Rattle.vx_reduce.proofs.entries.join_at.Goals as goal

pub returns-clause-err : goal.returns-clause-err
returns-clause-err c =
    on_err_weaker c.join.result (λ same. (c.get_mut.follows.holds c.join.new.self).0 ∙ set_same _ _ _ _ (sym c.in-Some.ensures.value) same) c.join.ensures.err
