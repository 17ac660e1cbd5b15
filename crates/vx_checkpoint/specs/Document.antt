-- The document of a checkpoint, as JSON.
use Rattle.std.specs.Prelude.{ℕ, ◌^◌, ◌==◌, ℤ, pos, codes, Option, Some, None, option_and_then, nat_lt, if◌then◌else◌}
use Rattle.std.specs.Ordering.{int_eq}
use Rattle.serde_json.specs.Data.{Data, number, unsigned, string, object, Members, no_members, member}
use Rattle.serde_json.specs.Find.{get, as_number, as_i64, as_u64, as_str, as_object}
use Rattle.serde_json.specs.Events.{members_len}
use Rattle.vx_value.specs.Texts.{ByteString}

-- what a document says
pub data Reading : Type 0 where
  Mark : (path : ByteString) → (offset : ℕ) → Reading
  OtherVersion : ℤ → Reading
  Misshapen : Reading

-- how many members an object has; 0 where there is no object
abbrev pub members_in : Option Members → ℕ
members_in None = 0
members_in (Some members) = members_len members

-- how many members a value has; 0 where it is no object
abbrev pub member_count : Data → ℕ
member_count document = members_in (as_object document)

-- the version, where it is a whole number of 64 bits with a sign
unfoldable pub version_of : Data → Option ℤ
version_of document = option_and_then as_i64 (option_and_then as_number (get (codes "version") document))

-- the path, where it is a text
unfoldable pub path_of : Data → Option ByteString
path_of document = option_and_then as_str (get (codes "path") document)

-- the offset, where it is a whole number that isn't negative
unfoldable pub offset_of : Data → Option ℕ
offset_of document = option_and_then as_u64 (option_and_then as_number (get (codes "offset") document))

-- the mark of a path and an offset, if both are there and the offset is below 2^63
abbrev pub mark : Option ByteString → Option ℕ → Reading
mark None offset = Misshapen
mark (Some path) None = Misshapen
mark (Some path) (Some offset) = if nat_lt offset (2 ^ 63) then Mark path offset else Misshapen

-- what a document of version 1 says: it has exactly three keys
abbrev pub first_version : Data → Reading
first_version document = if member_count document == 3 then mark (path_of document) (offset_of document) else Misshapen

-- what a document says by its version
abbrev pub by_version : Data → Option ℤ → Reading
by_version document None = Misshapen
by_version document (Some version) = if int_eq version (pos 1) then first_version document else OtherVersion version

-- what a document says
unfoldable pub reading : Data → Reading
reading document = by_version document (version_of document)

-- the document of a path and an offset
unfoldable pub document_of : ByteString → ℕ → Data
document_of path offset =
    object (member (codes "offset") (number (unsigned offset))
    (member (codes "path") (string path) (member (codes "version") (number (unsigned 1)) no_members)))
