-- What a call of a transform does with copies.
use Rattle.std.specs.Prelude.{◌≡◌, ◌<◌, ◌^◌, ℕ, List, ◌++◌, length, drop, All}
use Rattle.std.specs.List.Sorted.{IsPermutation}
use Rattle.vx_ledger.specs.Copies.{Copy}
use Rattle.vx_transform.specs.declared.output.Output.{Output}
use Rattle.vx_transform.specs.Shelves.{Shelved, copies_on}

-- what stands on a shelf behind what stood there before
abbrev pub added : Shelved → Shelved → Shelved
added old new =
    record { outputs = drop (length old.outputs) new.outputs; dropped = drop (length old.dropped) new.dropped }

-- an output names at least one port, and only ports below that number: a set of ports is the number with their bits
pub record NamesPorts (count : ℕ) (output : Output) : Type 0 where
  pub some : 0 < output.ports
  pub below : output.ports < 2 ^ count

-- a call of a transform with so many ports only adds to the shelf: the copies that it held and was given are those that
-- it adds and those that it holds then, each once, and it puts out on its own ports
pub record Moves (count : ℕ) (given kept : List Copy) (old new : Shelved) : Type 0 where
  pub outputs : new.outputs ≡ old.outputs ++ (added old new).outputs
  pub dropped : new.dropped ≡ old.dropped ++ (added old new).dropped
  pub copies : IsPermutation given (copies_on (added old new) ++ kept)
  pub named : All (NamesPorts count) (added old new).outputs
