-- The texts of a world.
use Rattle.std.specs.Prelude.{◌≡◌, ℕ, List, [], ◌∷◌, Option, Some, None, IfSome, if◌then◌else◌}
use Rattle.std.specs.Str.{bytes_eq}
use Rattle.vx_ends.specs.declared.world.Config.{Config}

-- the bytes of the first text with a path
abbrev pub text_at : List Config → List ℕ → Option (List ℕ)
text_at [] path = None
text_at (config ∷ configs) path =
    if bytes_eq config.path path then Some config.bytes else text_at configs path

-- the text at a path has these bytes, where the texts are told
abbrev pub IsTextAt : Option (List Config) → List ℕ → List ℕ → Type 0
IsTextAt texts path bytes = IfSome texts (λ configs. text_at configs path ≡ Some bytes)
