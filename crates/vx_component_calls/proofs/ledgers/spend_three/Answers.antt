use Rattle.std.proofs.Common.{arith, ◌≡◌, ◌+◌, [], ◌∷◌}
use Rattle.vx_ledger.specs.Copies.{copies_of}
use Rattle.vx_ledger.proofs.CopyLaws.{copies_of-append}
use Rattle.vx_component_calls.proofs.ledgers.spend_three.Goals as goal

pub spend-requires : goal.spend-requires
spend-requires g c = λ b p.
    let three : copies_of b p c.args.right ≡ copies_of b p c.take-three.new.copies + copies_of b p (c.take-three.result ∷ []) = rw c.take-three.ensures (copies_of-append b p c.take-three.new.copies (c.take-three.result ∷ [])) in
    omega (arith, c.requires b p, copies_of-append b p c.args.left c.args.right, three)

pub spend-requires-2 : goal.spend-requires-2
spend-requires-2 g c = λ b p.
    let three : copies_of b p c.args.right ≡ copies_of b p c.take-three.new.copies + copies_of b p (c.take-three.result ∷ []) = rw c.take-three.ensures (copies_of-append b p c.take-three.new.copies (c.take-three.result ∷ [])) in
    let one : copies_of b p c.args.left ≡ copies_of b p c.take-one.new.copies + copies_of b p (c.take-one.result ∷ []) = rw c.take-one.ensures (copies_of-append b p c.take-one.new.copies (c.take-one.result ∷ [])) in
    let two : copies_of b p c.take-one.new.copies ≡ copies_of b p c.take-two.new.copies + copies_of b p (c.take-two.result ∷ []) = rw c.take-two.ensures (copies_of-append b p c.take-two.new.copies (c.take-two.result ∷ [])) in
    omega (arith, c.requires b p, copies_of-append b p c.args.left c.args.right, three, one, two, c.spend.ensures.exchange b p)

pub spend-requires-3 : goal.spend-requires-3
spend-requires-3 g c = λ b p.
    let three : copies_of b p c.args.right ≡ copies_of b p c.take-three.new.copies + copies_of b p (c.take-three.result ∷ []) = rw c.take-three.ensures (copies_of-append b p c.take-three.new.copies (c.take-three.result ∷ [])) in
    let one : copies_of b p c.args.left ≡ copies_of b p c.take-one.new.copies + copies_of b p (c.take-one.result ∷ []) = rw c.take-one.ensures (copies_of-append b p c.take-one.new.copies (c.take-one.result ∷ [])) in
    let two : copies_of b p c.take-one.new.copies ≡ copies_of b p c.take-two.new.copies + copies_of b p (c.take-two.result ∷ []) = rw c.take-two.ensures (copies_of-append b p c.take-two.new.copies (c.take-two.result ∷ [])) in
    omega (
      arith,
      c.requires b p,
      copies_of-append b p c.args.left c.args.right,
      three,
      one,
      two,
      c.spend.ensures.exchange b p,
      c.spend-2.ensures.exchange b p,
    )
