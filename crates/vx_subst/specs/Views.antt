-- The piece that a form of the code stands for.
use Rattle.vx_subst.specs.Pieces.{Piece, Plain, Dollar, Bare, Braced, WithDefault, dollar}
use Rattle.vx_subst.specs.declared.form.Form.{Form}
use Rattle.vx_subst.specs.declared.form.Form.TheVariants.{Escaped, Lone, Named, InBraces, InBracesOr}

-- the piece of a form
abbrev pub piece_view : Form → Piece
piece_view Escaped = Dollar
piece_view Lone = Plain dollar
piece_view (Named name) = Bare name.now
piece_view (InBraces name) = Braced name.now
piece_view (InBracesOr name default) = WithDefault name.now default.now
