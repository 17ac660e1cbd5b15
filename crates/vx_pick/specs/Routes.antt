-- Routes, as contracts see them.
use Rattle.std.specs.Prelude.{ℕ, ◌+◌, Bool, List, length}
use Rattle.vx_value.specs.Texts.{ByteString}

-- the texts of the conditions, one for each port but the last, and whether what none of them accepts goes to that one
pub record Ways : Type 0 where
  pub conditions : List ByteString
  pub reroute : Bool

-- how many ports there are
abbrev pub ways_ports : Ways → ℕ
ways_ports ways = length ways.conditions + 1
