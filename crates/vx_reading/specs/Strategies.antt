-- The ways in which a field is merged, by their names.
use Rattle.std.specs.Prelude.{Option, List, [], ◌∷◌, codes, find}
use Rattle.vx_value.specs.Texts.{ByteString, same_text}
use Rattle.vx_condition.specs.declared.how.How.{How}
use Rattle.vx_condition.specs.declared.how.How.TheVariants.{Discard, Retain, Sum, Max, Min, Concat, ConcatNewline, ConcatRaw, Array}

-- all of them
abbrev pub hows : List How
hows = Discard ∷ Retain ∷ Sum ∷ Max ∷ Min ∷ Concat ∷ ConcatNewline ∷ ConcatRaw ∷ Array ∷ []

-- the name of each
abbrev pub how_name : How → ByteString
how_name Discard = codes "discard"
how_name Retain = codes "retain"
how_name Sum = codes "sum"
how_name Max = codes "max"
how_name Min = codes "min"
how_name Concat = codes "concat"
how_name ConcatNewline = codes "concat_newline"
how_name ConcatRaw = codes "concat_raw"
how_name Array = codes "array"

-- the way of that name
abbrev pub how_named : ByteString → Option How
how_named name = find (λ (how : How). same_text (how_name how) name) hows
