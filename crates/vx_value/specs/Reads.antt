-- What a byte makes of a reader in the midst of a path.
use Rattle.std.specs.Prelude.{◌≡◌, ℕ, ◌++◌, Bool, true, false, List, [], ◌∷◌, option_map, drop, take}
use Rattle.std.specs.Str.{IsUtf8}
use Rattle.vx_value.specs.Texts.{ByteString, is_empty}
use Rattle.vx_value.specs.Paths.{move_of, names_from, path_names}
use Rattle.vx_value.specs.declared.path_mode.PathMode.{PathMode}
use Rattle.vx_value.specs.declared.path_mode.PathMode.TheVariants.{Name}
use Rattle.vx_value.specs.declared.path_mode.PathMove.{PathMove}
use Rattle.vx_value.specs.declared.path_mode.PathMove.TheVariants.{Refused, Adds, Passes, Ends}
use Rattle.vx_value.specs.declared.path_reader.PathReader.{PathReader}

-- the reader has moved so, or the byte was refused
abbrev pub Moved : PathMove → PathReader → PathReader → ℕ → Bool → Type 0
Moved Refused old new b taken = taken ≡ false
Moved (Adds mode) old new b taken = (taken ≡ true) × (new.mode ≡ mode) × (new.name.items ≡ old.name.items ++ b ∷ []) × (new.names ≡ old.names)
Moved (Passes mode) old new b taken = (taken ≡ true) × (new.mode ≡ mode) × (new.name.items ≡ old.name.items) × (new.names ≡ old.names)
Moved Ends old new b taken = (taken ≡ true) × (new.mode ≡ Name) × (new.name.items ≡ []) × (new.names ≡ old.names ++ old.name.items ∷ [])

-- the reader has taken a byte, or it was refused
abbrev pub Takes : PathReader → PathReader → ℕ → Bool → Type 0
Takes old new b taken = Moved (move_of old.mode (is_empty old.name.items) b) old new b taken

-- the reader stands so after the first i bytes of a text
pub record HasRead (text : List ℕ) (i : ℕ) (mode : PathMode) (name : ByteString) (names : List ByteString) : Type 0 where
  pub reads : (rest : List ℕ) → path_names (take i text ++ rest) ≡ option_map (λ more. names ++ more) (names_from mode name rest)
  pub utf8 : IsUtf8 (name ++ drop i text)
