-- What a table gives, and how each value of it is judged.
use Rattle.std.specs.Prelude.{ℕ, ℤ, pos, negsuc, Bool, false, true, not, ◌&&◌, ◌||◌, ◌==◌, Option, Some, None, option_and_then, List, [], ◌∷◌, length, map, find, count_by, codes, if◌then◌else◌, is_some, nat_lt, nat_le}
use Rattle.std.specs.List.{list_any, list_all, flat_map}
use Rattle.vx_value.specs.Texts.{ByteString, same_text, is_empty}
use Rattle.vx_value.specs.Paths.{path_names}
use Rattle.toml.specs.Data.{Data, Items, no_items, item, Members, no_members, member, get, as_table, as_array, as_str, as_integer, as_bool}
use Rattle.vx_reading.specs.declared.item.Item.{Item}
use Rattle.vx_reading.specs.declared.item.Item.TheVariants as item
use Rattle.vx_reading.specs.declared.trouble.Trouble.{Trouble}
use Rattle.vx_reading.specs.declared.trouble.Trouble.TheVariants.{UnknownOption, BadValue, TooMany}
use Rattle.vx_reading.specs.Made.{is_unbroken}
use Rattle.vx_reading.specs.Options.{Place, Alone, Within, Either, Each, Any, Shape, Truth, AnyText, OneOf, Texts, Whole, Condition, Stages, ListOf, OneFile, FixedText, Row, covers, fits_place}

-- a name and the value under it
pub record Pair : Type 0 where
  pub name : ByteString
  pub value : Data

-- the members of a table, in their order, which is that of the bytes of their names
abbrev pub pairs_of : Members → List Pair
pairs_of no_members = []
pairs_of (member name value rest) = record { name = name; value = value } ∷ pairs_of rest

-- what a value has in it, where it is a table
abbrev pub pairs_in : Data → List Pair
pairs_in value = elim (as_table value) [ None ↦ [] | Some inner ↦ pairs_of inner ]

-- whether a value is a table
abbrev pub is_table : Data → Bool
is_table value = elim (as_table value) [ None ↦ false | Some inner ↦ true ]

-- an option that a table gives: where, and which value
pub record Given : Type 0 where
  pub place : Place
  pub value : Data

-- whether options stand in a table of that name
abbrev pub is_within : ByteString → Place → Bool
is_within group (Alone name) = false
is_within group (Within other name) = same_text other group
is_within group (Either other name) = same_text other group
is_within group (Each other most) = same_text other group
is_within group (Any other) = same_text other group

abbrev pub is_group : List Row → ByteString → Bool
is_group rows group = list_any (λ (r : Row). is_within group r.place) rows

abbrev pub within : ByteString → Pair → Given
within group p = record { place = Within group p.name; value = p.value }

abbrev pub alone : Pair → Given
alone p = record { place = Alone p.name; value = p.value }

-- what a table gives under a name: where options stand in a table of that name, those that this one has
abbrev pub given_by : List Row → Pair → List Given
given_by rows p = if is_group rows p.name && is_table p.value then map (within p.name) (pairs_in p.value) else alone p ∷ []

-- what a table gives
abbrev pub given : List Row → List Pair → List Given
given rows pairs = flat_map (given_by rows) pairs

-- whether the option of a place is given
abbrev pub is_given : Place → List Given → Bool
is_given place all = list_any (λ (g : Given). covers place g.place) all

-- how many of those that are given the option of a place is
abbrev pub count_given : Place → List Given → ℕ
count_given place all = count_by (λ (g : Given). covers place g.place) all

-- the items of a list, in order
abbrev pub items_in : Items → List Data
items_in no_items = []
items_in (item first rest) = first ∷ items_in rest

-- whether a value is a truth
abbrev pub is_truth : Data → Bool
is_truth value = elim (as_bool value) [ None ↦ false | Some truth ↦ true ]

-- whether a value is a text
abbrev pub is_text : Data → Bool
is_text value = elim (as_str value) [ None ↦ false | Some text ↦ true ]

-- whether a value is one of some texts
abbrev pub is_one_of : List ByteString → Data → Bool
is_one_of texts value = elim (as_str value) [ None ↦ false | Some text ↦ list_any (λ t. same_text t text) texts ]

-- a whole number, where it is between two, both among them
abbrev pub between : ℕ → ℕ → ℤ → Option ℕ
between least most (pos n) = if nat_le least n && nat_le n most then Some n else None
between least most (negsuc n) = None

-- the whole number that a value is, where it is one between two
abbrev pub whole_in : ℕ → ℕ → Data → Option ℕ
whole_in least most value = option_and_then (between least most) (as_integer value)

-- whether a value that may not be there is the text `vrl`
abbrev pub names_vrl : Option Data → Bool
names_vrl None = false
names_vrl (Some value) = elim (as_str value) [ None ↦ false | Some text ↦ same_text text (codes "vrl") ]

-- whether it is a text
abbrev pub has_text : Option Data → Bool
has_text None = false
has_text (Some value) = is_text value

-- whether a value is a table whose `type` is `vrl` and whose `source` is a text
abbrev pub is_vrl : Data → Bool
is_vrl value = names_vrl (get (codes "type") value) && has_text (get (codes "source") value)

-- the stages that a value gives: a table is one, and a list has one in each place
abbrev pub stages_in : Data → List Data
stages_in value = elim (as_array value) [ None ↦ (if is_table value then value ∷ [] else []) | Some items ↦ items_in items ]

-- whether a value is a text without a line feed
abbrev pub is_line : Data → Bool
is_line value = elim (as_str value) [ None ↦ false | Some text ↦ is_unbroken text ]

-- whether a byte stands in a text
abbrev pub has_byte : ℕ → ByteString → Bool
has_byte byte text = list_any (λ b. b == byte) text

-- whether a text is a pattern, which may stand for many files: `*`, `?` or `[` stands in it
abbrev pub is_pattern : ByteString → Bool
is_pattern text = (has_byte 42 text || has_byte 63 text) || has_byte 91 text

-- whether a text is a template, which each event may fill in: `{` stands in it
abbrev pub is_template : ByteString → Bool
is_template text = has_byte 123 text

-- whether a value is a text that is no pattern
abbrev pub is_file : Data → Bool
is_file value = elim (as_str value) [ None ↦ false | Some text ↦ not (is_pattern text) ]

-- whether a list has one value, and that is such a text
abbrev pub is_single : List Data → Bool
is_single (value ∷ []) = is_file value
is_single other = false

-- whether a value is such a list
abbrev pub is_one_file : Data → Bool
is_one_file value = elim (as_array value) [ None ↦ false | Some items ↦ is_single (items_in items) ]

-- whether a value is a text that is no template
abbrev pub is_fixed : Data → Bool
is_fixed value = elim (as_str value) [ None ↦ false | Some text ↦ not (is_template text) ]

-- the path that a text spells, if it is one and has at most 31 names
abbrev pub path_spelled : ByteString → Option (List ByteString)
path_spelled text = elim (path_names text) [ None ↦ None | Some names ↦ if nat_le (length names) 31 then Some names else None ]

-- whether a value is the text of a path
abbrev pub is_path : Data → Bool
is_path value = elim (as_str value) [ None ↦ false | Some text ↦ is_some (path_spelled text) ]

-- whether a value is what an item of a list has to be
abbrev pub is_item : Item → Data → Bool
is_item item.Text value = is_text value
is_item item.Table value = is_table value
is_item item.Line value = is_line value
is_item item.Path value = is_path value

-- whether a list has at least so many such items, and no others
abbrev pub are_items : Item → ℕ → List Data → Bool
are_items of least values = nat_le least (length values) && list_all (is_item of) values

-- whether a value is such a list
abbrev pub is_list_of : Item → ℕ → Data → Bool
is_list_of of least value = elim (as_array value) [ None ↦ false | Some items ↦ are_items of least (items_in items) ]

-- what is wrong with a value that isn't what it has to be
abbrev pub bad_unless : Bool → Option Trouble
bad_unless right = if right then None else Some BadValue

-- what is wrong with so many of something, of which there may be so many
abbrev pub too_many : ℕ → ℕ → Option Trouble
too_many count most = if nat_lt most count then Some (TooMany count most) else None

-- what is wrong with the items of a list, at most so many
abbrev pub fits_list : Item → ℕ → List Data → Option Trouble
fits_list of most values = if list_all (is_item of) values then too_many (length values) most else Some BadValue

-- what is wrong with stages, at most so many: there is none, or one is no table
abbrev pub fits_stages : ℕ → List Data → Option Trouble
fits_stages most stages = if is_empty stages then Some BadValue else fits_list item.Table most stages

-- what is wrong with a value, by what it has to be
abbrev pub fits : Shape → Data → Option Trouble
fits Truth value = bad_unless (is_truth value)
fits AnyText value = bad_unless (is_text value)
fits (OneOf texts) value = bad_unless (is_one_of texts value)
fits (Texts most) value = elim (as_array value) [ None ↦ Some BadValue | Some items ↦ fits_list item.Text most (items_in items) ]
fits (Whole least most) value = bad_unless (is_some (whole_in least most value))
fits Condition value = bad_unless (is_text value || is_vrl value)
fits (Stages most) value = fits_stages most (stages_in value)
fits (ListOf of least) value = bad_unless (is_list_of of least value)
fits OneFile value = bad_unless (is_one_file value)
fits FixedText value = bad_unless (is_fixed value)

-- the row of what is given at a place
abbrev pub row_at : List Row → Place → Option Row
row_at rows place = find (λ (r : Row). covers r.place place) rows

-- what is wrong with an option that is given, by its row: it stands where it may not, or the value isn't what the row says
abbrev pub judged_by : Row → Given → Option Trouble
judged_by row g = if fits_place row.place g.place then fits row.shape g.value else Some BadValue

-- or it has no row
abbrev pub judged : List Row → Given → Option Trouble
judged rows g = elim (row_at rows g.place) [ None ↦ Some UnknownOption | Some row ↦ judged_by row g ]
