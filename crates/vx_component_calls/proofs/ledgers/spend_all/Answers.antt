use Rattle.std.proofs.Common.{arith, ◌≡◌, ◌+◌, [], ◌∷◌}
use Rattle.vx_ledger.specs.Copies.{copies_of}
use Rattle.vx_ledger.proofs.CopyLaws.{copies_of-append}
use Rattle.vx_component_calls.proofs.ledgers.spend_all.Goals as goal

pub spend-requires : goal.spend-requires
spend-requires g c = λ b p.
    let rest : copies_of b p c.loop-copy.rest ≡ copies_of b p c.pop.new.self + copies_of b p (c.in-Some.copy ∷ []) = rw c.in-Some.ensures.some (copies_of-append b p c.pop.new.self (c.in-Some.copy ∷ [])) in
    let live = c.loop-copy.invariant b p in
    omega (arith, rest, live.0)

pub loop-copy-preserved : goal.loop-copy-preserved
loop-copy-preserved g c = λ b p.
    let rest : copies_of b p c.loop-copy.rest ≡ copies_of b p c.pop.new.self + copies_of b p (c.in-Some.copy ∷ []) = rw c.in-Some.ensures.some (copies_of-append b p c.pop.new.self (c.in-Some.copy ∷ [])) in
    let live = c.loop-copy.invariant b p in
    let spent = c.spend.ensures.exchange b p in
    (omega (arith, rest, live.0, spent), omega (arith, rest, live.1, spent))
