-- Names with values in order: what is under a name or a path, and a value put there.
use Rattle.std.specs.Prelude.{ℕ, ◌<◌, max, length, take, IsTrue, not, ◌||◌, suc, zero, Bool, true, false, Option, Some, None, List, [], ◌∷◌, ◌&&◌, if◌then◌else◌}
use Rattle.vx_value.specs.Datum.{Datum, Null, Truth, Whole, Spelled, Words, Items, Fields, NamedDatum, named_of, named_list, depth}
use Rattle.vx_value.specs.Texts.{ByteString, same_text, text_lt}

-- the value under a name, if there is one
abbrev pub value_under : List NamedDatum → ByteString → Option Datum
value_under [] name = None
value_under (field ∷ rest) name = if same_text field.name name then Some field.value else value_under rest name

-- whether the last name comes before a text, or there is no name
abbrev pub last_below : List NamedDatum → ByteString → Bool
last_below [] name = true
last_below (field ∷ []) name = text_lt field.name name
last_below (field ∷ next ∷ rest) name = last_below (next ∷ rest) name

-- whether each name comes before the next by its bytes
abbrev pub names_rise : List NamedDatum → Bool
names_rise [] = true
names_rise (field ∷ []) = true
names_rise (field ∷ next ∷ rest) = text_lt field.name next.name && names_rise (next ∷ rest)

-- how deep fields are: one more than their deepest value, or 1 with no field
abbrev pub fields_depth : List NamedDatum → ℕ
fields_depth fields = depth (Fields (named_of fields))

-- the fields that a value has: none where there is no value, or one of another kind
abbrev pub fields_in : Option Datum → List NamedDatum
fields_in None = []
fields_in (Some Null) = []
fields_in (Some (Truth b)) = []
fields_in (Some (Whole z)) = []
fields_in (Some (Spelled w)) = []
fields_in (Some (Words w)) = []
fields_in (Some (Items ds)) = []
fields_in (Some (Fields fs)) = named_list fs

-- whether there is a value, of another kind than Fields
abbrev pub is_other : Option Datum → Bool
is_other None = false
is_other (Some Null) = true
is_other (Some (Truth b)) = true
is_other (Some (Whole z)) = true
is_other (Some (Spelled w)) = true
is_other (Some (Words w)) = true
is_other (Some (Items ds)) = true
is_other (Some (Fields fs)) = false

-- the value at a path of names, if there is one
abbrev pub value_at : List NamedDatum → List ByteString → Option Datum
value_at fields [] = None
value_at fields (name ∷ []) = value_under fields name
value_at fields (name ∷ next ∷ rest) = value_at (fields_in (value_under fields name)) (next ∷ rest)

-- fields with the value under a name, at its place by the names' bytes
abbrev pub with_field : List NamedDatum → ByteString → Datum → List NamedDatum
with_field [] name value = record { name = name; value = value } ∷ []
with_field (field ∷ rest) name value =
    if text_lt field.name name then field ∷ with_field rest name value
    else (if same_text field.name name then record { name = name; value = value } ∷ rest
    else record { name = name; value = value } ∷ field ∷ rest)

-- fields with the value at a path, and with the fields on the way there
abbrev pub put_at : List NamedDatum → List ByteString → Datum → List NamedDatum
put_at fields [] value = fields
put_at fields (name ∷ []) value = with_field fields name value
put_at fields (name ∷ next ∷ rest) value =
    with_field fields name (Fields (named_of (put_at (fields_in (value_under fields name)) (next ∷ rest) value)))

-- the number that stands for one name more, where there is one
abbrev pub one_more : ℕ → ℕ
one_more zero = 0
one_more (suc n) = suc (suc n)

-- how many names the shortest proper prefix of a path has that holds another value than fields, or 0 with none
abbrev pub blocked_names : List NamedDatum → List ByteString → ℕ
blocked_names fields [] = 0
blocked_names fields (name ∷ []) = 0
blocked_names fields (name ∷ next ∷ rest) =
    if is_other (value_under fields name) then 1 else one_more (blocked_names (fields_in (value_under fields name)) (next ∷ rest))

-- the depth of the deepest value under another name, or 0 with none
abbrev pub others_depth : List NamedDatum → ByteString → ℕ
others_depth [] name = 0
others_depth (field ∷ rest) name = if same_text field.name name then others_depth rest name else max (depth field.value) (others_depth rest name)

-- what stands under a name once a value is put at the rest of a path behind it
abbrev pub put_in : Option Datum → List ByteString → Datum → Datum
put_in held [] value = value
put_in held (name ∷ rest) value = Fields (named_of (put_at (fields_in held) (name ∷ rest) value))

-- a path's first names, and not all, lead to a value of another kind than fields
pub record IsBlocked (fields : List NamedDatum) (path : List ByteString) (names : ℕ) : Type 0 where
  pub within : names < length path
  pub other : IsTrue (is_other (value_at fields (take names path)))

-- no first names of a path lead to a value of another kind than fields
abbrev pub IsOpen : List NamedDatum → List ByteString → Type 0
IsOpen fields path = (names : ℕ) → IsBlocked fields path names → ⊥

-- whether two paths part: neither leads through the other
abbrev pub parts : List ByteString → List ByteString → Bool
parts [] q = false
parts (name ∷ p) [] = false
parts (name ∷ p) (other ∷ q) = not (same_text name other) || parts p q
