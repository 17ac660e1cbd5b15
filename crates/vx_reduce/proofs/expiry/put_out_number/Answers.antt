use Rattle.std.proofs.Common.{rules}
use Rattle.vx_reduce.proofs.Expiring.{indexed_gone}
use Rattle.vx_reduce.proofs.expiry.put_out_number.Goals as goal

pub returns-clause-indexed : goal.returns-clause-indexed
returns-clause-indexed c =
    indexed_gone c.args.index.now.entries c.forget.new.index.entries c.args.entries.now.entries c.put_out_at.new.entries.entries c.args.number c.in_ok-key.key (search (rules)) c.in_ok-key.ensures.taken.named c.in_ok-key.ensures.taken.entries c.forget.ensures
