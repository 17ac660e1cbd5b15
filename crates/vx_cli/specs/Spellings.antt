-- How words look.
use Rattle.std.specs.Prelude.{◌≡◌, ◌∷◌}
use Rattle.vx_value.specs.Texts.{ByteString}

-- the word doesn't begin with a hyphen
abbrev pub IsPlain : ByteString → Type 0
IsPlain word = (rest : ByteString) → word ≡ 45 ∷ rest → ⊥

-- the word begins with a hyphen, and has more behind it
abbrev pub IsHyphened : ByteString → Type 0
IsHyphened (first ∷ second ∷ rest) = first ≡ 45
IsHyphened word = ⊥
