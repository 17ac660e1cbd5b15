use Rattle.std.proofs.Common.{arith}
use Rattle.std.proofs.lemmas.Nat.Bits.{bit_at_above}
use Rattle.vx_ledger.proofs.outlet.is_named.Goals as goal

pub returns-else-port-lt128 : goal.returns-else-port-lt128
returns-else-port-lt128 c =
    let none = bit_at_above c.args.ports 128 c.args.port (omega arith) (omega arith) in
    rw none (grind arith)
