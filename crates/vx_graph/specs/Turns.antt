-- What one comparison of a pattern with a text found.
use Rattle.std.specs.Prelude.{◌≡◌, ◌<◌, ◌≤◌, ◌∷◌, ◌++◌, true, false, length, drop}
use Rattle.vx_value.specs.Texts.{ByteString}
use Rattle.vx_graph.specs.Patterns.{is_like, shared, star}
use Rattle.vx_graph.specs.declared.pattern.Left.{Left}
use Rattle.vx_graph.specs.declared.pattern.Turn.{Turn}
use Rattle.vx_graph.specs.declared.pattern.Turn.TheVariants.{Like, Star, Unlike}

-- the text that some pieces make
abbrev pub left_text : Left → ByteString
left_text left = left.name.now ++ (left.dot.now ++ left.port.now)

-- the text is of the form, or isn't, or a `*` follows what they share
abbrev pub IsTurn : ByteString → ByteString → Turn → Type 0
IsTurn form text Like = is_like form text ≡ true
IsTurn form text (Star behind left) =
    (drop (shared form text) form ≡ star ∷ behind.now) × (left_text left ≡ drop (shared form text) text)
    × (length behind.now < length form) × (length (left_text left) ≤ length text)
IsTurn form text Unlike = is_like form text ≡ false
