-- The bytes of a text, however it is kept.
use Rattle.std.specs.Prelude.{ℕ, List, string_bytes}
use Rattle.vx_value.specs.declared.text.Kept.{Kept}
use Rattle.vx_value.specs.declared.text.Kept.TheVariants.{Short, Long}

-- the bytes that are kept
abbrev pub kept_bytes : Kept → List ℕ
kept_bytes (Short bytes) = bytes
kept_bytes (Long text) = string_bytes text
