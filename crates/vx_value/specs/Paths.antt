-- The texts of paths.
use Rattle.std.specs.Prelude.{◌≡◌, ℕ, ◌+◌, ◌<◌, ◌==◌, ◌&&◌, ◌||◌, ◌++◌, nat_le, Bool, true, false, Option, Some, None, IsTrue, is_some, option_map, List, [], ◌∷◌, length, take, if◌then◌else◌, ⊤}
use Rattle.vx_value.specs.Texts.{ByteString, is_empty}
use Rattle.vx_value.specs.declared.path_mode.PathMode.{PathMode}
use Rattle.vx_value.specs.declared.path_mode.PathMode.TheVariants.{Start, Name, Bare, Quoted, Escaped, Closed}
use Rattle.vx_value.specs.declared.path_mode.PathMove.{PathMove}
use Rattle.vx_value.specs.declared.path_mode.PathMove.TheVariants.{Refused, Adds, Passes, Ends}
use Rattle.vx_value.specs.declared.path_fault.PathFault.{PathFault}
use Rattle.vx_value.specs.declared.path_fault.PathFault.TheVariants.{Syntax, Long, WantOfMemory}

-- whether a byte may begin a bare name: a letter, `_` or `@`
abbrev pub begins_name : ℕ → Bool
begins_name b = (nat_le 97 b && nat_le b 122) || (nat_le 65 b && nat_le b 90) || (b == 95) || (b == 64)

-- whether a byte may stand in a bare name: one that may begin it, or a digit
abbrev pub goes_on : ℕ → Bool
goes_on b = begins_name b || (nat_le 48 b && nat_le b 57)

-- what a byte before a name does: a quote opens one, and a letter begins one
abbrev pub name_move : ℕ → PathMove
name_move b = if b == 34 then Passes Quoted else (if begins_name b then Adds Bare else Refused)

-- what a byte does at each place of a path: the dot in front, names joined by dots, and in quotes the escapes of the quote and the backslash
abbrev pub move_of : PathMode → Bool → ℕ → PathMove
move_of Start none b = if b == 46 then Passes Name else name_move b
move_of Name none b = name_move b
move_of Bare none b = if goes_on b then Adds Bare else (if b == 46 then Ends else Refused)
move_of Quoted none b =
    if b == 92 then Passes Escaped else (if b == 34 then (if none then Refused else Passes Closed) else Adds Quoted)
move_of Escaped none b = if (b == 34) || (b == 92) then Adds Quoted else Refused
move_of Closed none b = if b == 46 then Ends else Refused

-- whether a path may end at a place
abbrev pub ends_path : PathMode → Bool
ends_path Start = false
ends_path Name = false
ends_path Bare = true
ends_path Quoted = false
ends_path Escaped = false
ends_path Closed = true

-- the names from a byte on, by what it does
abbrev pub carry : PathMove → ByteString → ℕ → (PathMode → ByteString → Option (List ByteString)) → Option (List ByteString)
carry Refused name b further = None
carry (Adds mode) name b further = further mode (name ++ b ∷ [])
carry (Passes mode) name b further = further mode name
carry Ends name b further = option_map (λ names. name ∷ names) (further Name [])

-- the names that the rest of a path has, at a place in it and with the bytes of the name that has begun; none where it is no such rest
abbrev pub names_from : PathMode → ByteString → List ℕ → Option (List ByteString)
names_from mode name [] = if ends_path mode then Some (name ∷ []) else None
names_from mode name (b ∷ text) = carry (move_of mode (is_empty name) b) name b (λ m n. names_from m n text)

-- the names that a text has as a path, if it is one
abbrev pub path_names : List ℕ → Option (List ByteString)
path_names text = names_from Start [] text

-- some path begins so
abbrev pub BeginsPath : List ℕ → Type 0
BeginsPath front = (rest : List ℕ) × IsTrue (is_some (path_names (front ++ rest)))

-- the text's first bytes begin a path, and no more of them do
pub record IsLongestBeginning (text : List ℕ) (at : ℕ) : Type 0 where
  pub begins : BeginsPath (take at text)
  pub longest : at < length text → BeginsPath (take (at + 1) text) → ⊥

-- when each fault comes
abbrev pub IsPathFault : List ℕ → PathFault → Type 0
IsPathFault text (Syntax at) = (path_names text ≡ None) × IsLongestBeginning text at
IsPathFault text Long = (names : List ByteString) × (path_names text ≡ Some names) × (31 < length names)
IsPathFault text WantOfMemory = ⊤
