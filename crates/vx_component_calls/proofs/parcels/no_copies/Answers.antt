use Rattle.std.proofs.Common.{arith, ◌≡◌, ◌+◌, [], ◌∷◌}
use Rattle.vx_ledger.specs.Copies.{copies_of}
use Rattle.vx_ledger.proofs.CopyLaws.{copies_of-append}
use Rattle.vx_component_calls.proofs.parcels.no_copies.Goals as goal

pub spend-requires : goal.spend-requires
spend-requires g c = λ b p.
    let all : copies_of b p c.in_ok-copies.copies ≡ copies_of b p c.pop.new.self + copies_of b p (c.in-Some.copy ∷ []) =
    rw c.in-Some.ensures.some (copies_of-append b p c.pop.new.self (c.in-Some.copy ∷ [])) in
    omega (arith, all, c.in_ok-copies.ensures.exchange b p)
