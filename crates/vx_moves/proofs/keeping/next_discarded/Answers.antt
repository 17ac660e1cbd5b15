use Rattle.std.proofs.Common.{◌≡◌, ◌∙◌, ℕ, List, Option, Some, None, IfNone, get_or, slice_set, sym, ap}
use Rattle.std.proofs.lemmas.List.{set-get_or}
use Rattle.vx_ledger.specs.Copies.{Copy}
use Rattle.vx_keeping.specs.Kept.{Kept}
use Rattle.vx_moves.proofs.keeping.next_discarded.Goals as goal

-- a keeper that stays stands where it stood
put_back : (copy : Option Copy) (slots : List (Option Kept)) (i : ℕ) (slot : Option Kept) (was is : Kept) → slot ≡ get_or slots i slot → slot ≡ Some was →
    IfNone copy (is ≡ was) → IfNone copy (slice_set slots i (Some is) ≡ slots)
put_back (Some copy) slots i slot was is value here same = tt
put_back None slots i slot was is value here same =
    ap (λ (x : Option Kept). slice_set slots i x) (ap (λ (k : Kept). Some k) same ∙ sym here ∙ value) ∙ set-get_or slots i slot

pub returns-clause-same : goal.returns-clause-same
returns-clause-same c =
    put_back c.next_discarded.result c.args.keepers.now.items c.args.i c.index_mut.result.now c.in-Some.keeper c.next_discarded.new.self c.index_mut.ensures.value c.in-Some.is
    c.next_discarded.ensures.same
