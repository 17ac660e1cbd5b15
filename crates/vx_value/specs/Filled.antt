use Rattle.std.specs.Prelude.{ℕ, List}

-- the items of a queue, the oldest first, and for how many it has room
pub record Filled (T : Type 0) : Type 0 where
  pub items : List T
  pub room : ℕ
