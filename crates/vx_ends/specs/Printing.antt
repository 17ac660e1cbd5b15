-- What contracts see of a printer in memory.
use Rattle.std.specs.Prelude.{◌≤◌, ℕ, List, Option, IsSomeAnd}

-- A printer that fails from a print on.
pub record Printing : Type 0 where
  -- the bytes that were printed
  pub printed : List ℕ
  -- how many prints were asked for
  pub prints : ℕ
  -- the first print that is to fail, counted from 0, where one is
  pub fail_from : Option ℕ
  -- how many prints failed
  pub faults : ℕ

-- the next print is to fail
abbrev pub IsToFail : Printing → Type 0
IsToFail p = IsSomeAnd p.fail_from (λ first. first ≤ p.prints)
