-- The object that some bytes are, as a function of them.
use Rattle.std.specs.Prelude.{ℕ, Bool, ◌&&◌, nat_le, Option, Some, None, List, [], ◌∷◌, if◌then◌else◌}
use Rattle.vx_value.specs.Texts.{ByteString}
use Rattle.vx_value.specs.Datum.{Datum, Null, Truth, Whole, Spelled, Words, Items, Fields, NamedDatum, named_list}
use Rattle.vx_json.specs.Faults.{Inside, Outside, inside_after, count_after}
use Rattle.vx_json.specs.Machine.{AtValue, outcome}

-- whether no more than 32 levels are open before, among and behind bytes
abbrev pub stays_shallow : Inside → ℕ → ByteString → Bool
stays_shallow inside n [] = nat_le n 32
stays_shallow inside n (b ∷ w) = nat_le n 32 && stays_shallow (inside_after inside b) (count_after inside n b) w

-- the fields of a value that is an object
abbrev pub object_fields : Option Datum → Option (List NamedDatum)
object_fields None = None
object_fields (Some Null) = None
object_fields (Some (Truth b)) = None
object_fields (Some (Whole z)) = None
object_fields (Some (Spelled w)) = None
object_fields (Some (Words w)) = None
object_fields (Some (Items ds)) = None
object_fields (Some (Fields ns)) = Some (named_list ns)

-- the fields of the one object that bytes are as a JSON text within 32 levels, or none
unfoldable pub object_of : ByteString → Option (List NamedDatum)
object_of bytes = if stays_shallow Outside 0 bytes then object_fields (outcome AtValue [] bytes) else None
