use Rattle.std.proofs.Common.{◌≡◌, ℕ, Bool, drop}
use Rattle.std.specs.Prelude.{filter}
use Rattle.std.specs.Map.{keys_of, values_of}
use Rattle.vx_reduce.specs.declared.group.Group.{Group}
use Rattle.vx_reduce.specs.Indexes.{IsIndexed}
use Rattle.vx_reduce.specs.Expiries.{HasPutOut}
use Rattle.vx_reduce.proofs.expiry.put_out_numbers.Given as goal

-- the numbers so far are those of the groups that are gone
abbrev pub invariant-loop-number : goal.invariant-loop-number
invariant-loop-number l = record {
  indexed : (next : ℕ) → IsIndexed l.fn.index.entries l.fn.entries.entries next → IsIndexed l.index.entries l.entries.entries next;
  left : (p : Group → Bool) (next : ℕ) → IsIndexed l.fn.index.entries l.fn.entries.entries next → keys_of (filter (λ (e : ℕ × Group). p e.1) l.fn.entries.entries) ≡ l.number-items →
      keys_of (filter (λ (e : ℕ × Group). p e.1) l.entries.entries) ≡ drop l.number-index l.number-items;
  gone : (p : Group → Bool) (next : ℕ) → IsIndexed l.fn.index.entries l.fn.entries.entries next → keys_of (filter (λ (e : ℕ × Group). p e.1) l.fn.entries.entries) ≡ l.number-items →
      HasPutOut p (values_of l.fn.entries.entries) (values_of l.entries.entries) l.fn.shelf l.shelf;
}
