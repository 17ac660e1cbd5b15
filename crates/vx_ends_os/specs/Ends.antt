-- How far some positions tell that a file's stream is done with.
use Rattle.std.specs.Prelude.{ℕ, ◌==◌, if◌then◌else◌, max, List, fold, Option, Some, None, unwrap_or}
use Rattle.vx_ends.specs.declared.position.Position.{Position}

-- the greatest end so far, and of a position, where that is of the one stream
abbrev pub with_end : Option ℕ → Position → Option ℕ
with_end so_far position = if position.stream == 0 then Some (max position.end (unwrap_or so_far 0)) else so_far

-- the greatest end of the one stream
abbrev pub greatest_end : List Position → Option ℕ
greatest_end positions = fold with_end None positions
