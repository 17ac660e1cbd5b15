-- The last of some fields.
use Rattle.std.specs.Prelude.{List, [], ◌∷◌}
use Rattle.std.specs.declared.cmp.Ordering.{Ordering}
use Rattle.std.specs.declared.cmp.Ordering.TheVariants.{Less}
use Rattle.vx_value.specs.Texts.{ByteString}
use Rattle.vx_value.specs.Datum.{NamedDatum}
use Rattle.vx_value.specs.Orders.{text_cmp}

-- how the last name stands to another; before it where there is none
abbrev pub last_order : List NamedDatum → ByteString → Ordering
last_order [] name = Less
last_order (f ∷ []) name = text_cmp f.name name
last_order (f ∷ g ∷ fs) name = last_order (g ∷ fs) name
