-- What a text becomes where its variables are replaced.
use Rattle.std.specs.Prelude.{Bool, false, Option, Some, None, is_none, unwrap_or, List, [], ◌∷◌, find}
use Rattle.std.specs.List.{flat_map}
use Rattle.vx_value.specs.declared.variable.Variable.{Variable}
use Rattle.vx_value.specs.Texts.{ByteString}
use Rattle.vx_subst.specs.Environment.{value_of}
use Rattle.vx_subst.specs.Pieces.{Piece, Plain, Dollar, Bare, Braced, WithDefault, Placed, pieces, dollar}

-- a value, or the default where it is missing or empty
abbrev pub or_default : Option ByteString → ByteString → ByteString
or_default None default = default
or_default (Some []) default = default
or_default (Some (b ∷ value)) default = b ∷ value

-- what a piece becomes
unfoldable pub becomes : List Variable → Piece → ByteString
becomes environment (Plain b) = b ∷ []
becomes environment Dollar = dollar ∷ []
becomes environment (Bare name) = unwrap_or (value_of environment name) []
becomes environment (Braced name) = unwrap_or (value_of environment name) []
becomes environment (WithDefault name default) = or_default (value_of environment name) default

-- whether a piece needs a variable that the environment lacks
unfoldable pub lacks : List Variable → Piece → Bool
lacks environment (Plain b) = false
lacks environment Dollar = false
lacks environment (Bare name) = is_none (value_of environment name)
lacks environment (Braced name) = is_none (value_of environment name)
lacks environment (WithDefault name default) = false

-- the name in a piece
unfoldable pub name_in : Piece → ByteString
name_in (Plain b) = []
name_in Dollar = []
name_in (Bare name) = name
name_in (Braced name) = name
name_in (WithDefault name default) = name

-- the text that some pieces become
unfoldable pub text_of : List Variable → List Placed → ByteString
text_of environment placed = flat_map (λ (p : Placed). becomes environment p.piece) placed

-- the first of some pieces that needs a variable which the environment lacks
unfoldable pub lacking : List Variable → List Placed → Option Placed
lacking environment placed = find (λ (p : Placed). lacks environment p.piece) placed

-- a text with its variables replaced
abbrev pub replaced : List Variable → ByteString → ByteString
replaced environment text = text_of environment (pieces text)

-- the first piece of a text that needs a variable which the environment lacks
abbrev pub first_lacking : List Variable → ByteString → Option Placed
first_lacking environment text = lacking environment (pieces text)
