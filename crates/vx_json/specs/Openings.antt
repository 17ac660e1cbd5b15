-- What a quote opens.
use Rattle.std.specs.Prelude.{◌≡◌, true, ◌∷◌}
use Rattle.vx_value.specs.Texts.{ByteString}
use Rattle.vx_json.specs.Runs.{are_plain, IsClosed}
use Rattle.vx_json.specs.declared.run.Opened.{Opened}
use Rattle.vx_json.specs.declared.run.Opened.TheVariants as opened

-- a quote and what is closed behind it
pub record IsQuoted (w words : ByteString) : Type 0 where
  pub rest : ByteString
  pub bytes : w ≡ 34 ∷ rest
  pub closed : IsClosed rest words

-- a quote and plain bytes behind it
pub record IsPart (w text : ByteString) : Type 0 where
  pub bytes : w ≡ 34 ∷ text
  pub plain : are_plain text ≡ true

abbrev pub IsOpened : ByteString → Opened → Type 0
IsOpened w (opened.Whole words) = IsQuoted w words
IsOpened w (opened.Part text) = IsPart w text.items
