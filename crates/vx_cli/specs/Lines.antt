-- What a line is.
use Rattle.std.specs.Prelude.{◌≡◌, ◌≢◌, ℕ, ◌≤◌, ◌++◌, All, codes}
use Rattle.vx_value.specs.Texts.{ByteString}

-- a byte that is no control of ASCII: from 32 on, and not 127
abbrev pub IsPlainByte : ℕ → Type 0
IsPlainByte b = (32 ≤ b) × (b ≢ 127)

-- one line: such bytes, and then a line feed
pub record IsLine (text : ByteString) : Type 0 where
  pub line : ByteString
  pub plain : All IsPlainByte line
  pub whole : text ≡ line ++ codes "\n"
