-- The lists of a split are the children of its entry.
use Rattle.std.proofs.Common.{◌≡◌, ℕ, ◌+◌, List, [], ◌∷◌, length, refl, ap, ◌∙◌}
use Rattle.vx_ledger.specs.Copies.{Copy, renumbered, children_of, numbers_of}
use Rattle.vx_record.specs.declared.child.Child.{Child}
use Rattle.vx_record.specs.Copies.{counting}
use Rattle.vx_balance.specs.Owned.{noted}
use Rattle.vx_balance.specs.Promises.{ChildrenNoted}

numbers_renumbered : (first : ℕ) (copies : List Copy) → numbers_of (renumbered first copies) ≡ counting first (length copies)
numbers_renumbered first [] = refl
numbers_renumbered first (c ∷ cs) = ap (λ (ns : List ℕ). first ∷ ns) (numbers_renumbered (first + 1) cs)

pub children_noted : ChildrenNoted
children_noted [] next parent = refl
children_noted (t ∷ ts) next parent =
    ap (λ (ns : List ℕ). record { target = t; copies = ns } ∷ noted ts (children_of (length ts) (next + length parent) parent)) (numbers_renumbered next parent)
    ∙ ap (λ (rest : List Child). record { target = t; copies = counting next (length parent) } ∷ rest) (children_noted ts (next + length parent) parent)
