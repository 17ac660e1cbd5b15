-- One change of what a port tells after another.
use Rattle.std.proofs.Common.{◌≡◌, ℕ, List, ◌++◌, Option, Some, None, ◌+◌, ◌-◌, length, take, drop, arith, append_assoc, ◌∙◌}
use Rattle.std.proofs.lemmas.Grind.{common_steps}
use Rattle.std.proofs.lemmas.List.{take_rest}
use Rattle.std.proofs.Math.Seq.{take-add}
use Rattle.vx_ends.specs.Observation.{Observation, Grows}
use Rattle.vx_tasks.specs.Attempts.{OnlyGives}

pub grows_on : {X : Type 0} (a b c : Option (List X)) (xs ys zs : List X) → Grows a b xs → Grows b c ys → zs ≡ xs ++ ys → Grows a c zs
grows_on None None c xs ys zs g h e = h
grows_on None (Some mid) c xs ys zs g h e = grind arith
grows_on (Some old) None c xs ys zs g h e = grind arith
grows_on (Some old) (Some mid) c xs ys zs g h e = grind (arith, common_steps, append_assoc)

-- the next n of a list
pub take_on : (at n : ℕ) (xs : List ℕ) → take (at + n) xs ≡ take at xs ++ take n (take (length xs - at) (drop at xs))
take_on at n xs = rw take_rest (take-add at n xs)

-- an attempt's parts
pub gives_on : (a b c : Observation) → OnlyGives a b → OnlyGives b c → OnlyGives a c
gives_on a b c g h = record {
  taken = h.taken ∙ g.taken;
  left = h.left ∙ g.left;
  confirmed = h.confirmed ∙ g.confirmed;
  spec = h.spec ∙ g.spec;
  ended = h.ended ∙ g.ended;
  faults = omega arith;
  refusals = omega arith;
  idles = omega arith;
}
