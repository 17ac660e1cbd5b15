-- The end of a text in which no `}` stands.
use Rattle.std.specs.Prelude.{◌≢◌, ℕ, ◌+◌, ◌<◌, ◌≤◌, length, slice_index}
use Rattle.vx_value.specs.Texts.{ByteString}
use Rattle.vx_subst.specs.Pieces.{end_brace}

-- among the last bytes of a text, as many as said, is no `}`
abbrev pub IsUnclosed : ℕ → ByteString → Type 0
IsUnclosed n text = (i : ℕ) → i < length text → length text ≤ i + n → slice_index text i ≢ end_brace
