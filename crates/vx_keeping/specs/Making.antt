-- What a maker is, as contracts see it, and the moment at which it acts.
use Rattle.std.specs.Prelude.{◌≡◌, ℕ, Option, Some, None, List, All}
use Rattle.vx_ledger.specs.Copies.{Copy}
use Rattle.vx_transform.specs.Moves.{NamesPorts}
use Rattle.vx_transform.specs.Shelves.{Shelved}
use Rattle.vx_reduce.specs.declared.reduce.Reduce.{Reduce}
use Rattle.vx_reduce.specs.Inputs.{Input}
use Rattle.vx_keeping.specs.Given.{IsGiven}
use Rattle.vx_keeping.specs.declared.maker.Maker.{Maker}
use Rattle.vx_keeping.specs.declared.maker.Maker.TheVariants as maker
use Rattle.vx_reduce.specs.Reducers.{due_of}
use Rattle.vx_reduce.specs.Standing.{IsDueAt}

-- the reduce that it is; none where it is a host
abbrev pub made_of : Maker → Option Reduce
made_of (maker.Reduce r) = Some r
made_of maker.Host = None

-- a moment is that of a reduce's next check; of a host it is any
abbrev pub IsDueOf : Option Reduce → Option ℕ → Type 0
IsDueOf (Some r) moment = (moment ≡ due_of r) × IsDueAt r moment
IsDueOf None moment = Unit {0}

-- a maker was given some inputs: a reduce as it says, and discards nothing; a host, which puts out on its ports
abbrev pub Gives : List Input → Option Reduce → Option Reduce → Shelved → Shelved → List Copy → List Copy → Type 0
Gives xs (Some old) (Some new) before after was gone = IsGiven xs old new before after × (gone ≡ was)
Gives xs None None before after was gone = All (NamesPorts 65) before.outputs → All (NamesPorts 65) after.outputs
Gives xs old new before after was gone = ⊥
