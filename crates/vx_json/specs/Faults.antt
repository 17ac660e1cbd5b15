-- Why bytes are no event.
use Rattle.std.specs.Prelude.{◌≡◌, ℕ, ◌+◌, ◌-◌, ◌<◌, ◌≤◌, ◌||◌, ◌==◌, List, [], ◌∷◌, length, take, if◌then◌else◌, Result, Ok, Err, ⊤}
use Rattle.vx_value.specs.Texts.{ByteString}
use Rattle.vx_value.specs.Datum.{Datum, Null, Truth, Whole, Spelled, Words, Items, Fields, NamedDatum, named_of, depth}
use Rattle.vx_value.specs.declared.event.Event.{Event}
use Rattle.vx_json.specs.Grammar.{IsText, BeginsText}
use Rattle.vx_json.specs.declared.json_fault.JsonFault.{JsonFault}
use Rattle.vx_json.specs.declared.json_fault.JsonFault.TheVariants.{NotJson, Deep, NotObject, WantOfMemory}

-- whether a place is outside of texts, inside one, or in one behind a backslash
pub data Inside : Type 0 where
  Outside : Inside
  InString : Inside
  Escaped : Inside

-- where a byte leads, of whatever text it is part
abbrev pub inside_after : Inside → ℕ → Inside
inside_after Outside b = if b == 34 then InString else Outside
inside_after InString b = if b == 34 then Outside else (if b == 92 then Escaped else InString)
inside_after Escaped b = InString

-- how many brackets and braces are open behind a byte
abbrev pub count_after : Inside → ℕ → ℕ → ℕ
count_after Outside n b = if (b == 91) || (b == 123) then n + 1 else (if (b == 93) || (b == 125) then n - 1 else n)
count_after InString n b = n
count_after Escaped n b = n

-- the levels that are open behind bytes, those in texts left out
abbrev pub open_behind : Inside → ℕ → ByteString → ℕ
open_behind inside n [] = n
open_behind inside n (b ∷ w) = open_behind (inside_after inside b) (count_after inside n b) w

abbrev pub open_levels : ByteString → ℕ
open_levels w = open_behind Outside 0 w

-- no more than 32 levels are open behind any of the first n bytes
abbrev pub StaysShallow : ByteString → ℕ → Type 0
StaysShallow bytes n = (k : ℕ) → k ≤ n → open_levels (take k bytes) ≤ 32

-- the bytes are no text, and their first ones, that many, are the longest beginning of one
pub record IsNotJson (bytes : ByteString) (at : ℕ) : Type 0 where
  pub no_text : (value : Datum) → IsText bytes value → ⊥
  pub within : at ≤ length bytes
  pub begins : BeginsText (take at bytes)
  pub longest : at < length bytes → BeginsText (take (at + 1) bytes) → ⊥
  pub shallow : StaysShallow bytes at

-- the bytes up to one begin a text, and that one is the first that opens a level 33
pub record IsDeep (bytes : ByteString) (at : ℕ) : Type 0 where
  pub within : at < length bytes
  pub begins : BeginsText (take (at + 1) bytes)
  pub opened : open_levels (take (at + 1) bytes) ≡ 33
  pub shallow : StaysShallow bytes at

-- a value of another kind than fields
abbrev pub IsNoObject : Datum → Type 0
IsNoObject Null = ⊤
IsNoObject (Truth b) = ⊤
IsNoObject (Whole z) = ⊤
IsNoObject (Spelled w) = ⊤
IsNoObject (Words w) = ⊤
IsNoObject (Items ds) = ⊤
IsNoObject (Fields ns) = ⊥

-- the bytes are a text of another value
pub record IsOther (bytes : ByteString) : Type 0 where
  pub value : Datum
  pub text : IsText bytes value
  pub no_object : IsNoObject value
  pub shallow : StaysShallow bytes (length bytes)

-- the bytes are a text of fields, and of nothing else, and the fields are at most 32 deep
pub record IsEvent (bytes : ByteString) (fields : List NamedDatum) : Type 0 where
  pub fits : depth (Fields (named_of fields)) ≤ 32
  pub text : IsText bytes (Fields (named_of fields))
  pub only : (value : Datum) → IsText bytes value → value ≡ Fields (named_of fields)
  pub shallow : StaysShallow bytes (length bytes)

-- when each fault comes
abbrev pub IsFault : ByteString → JsonFault → Type 0
IsFault bytes (NotJson at) = IsNotJson bytes at
IsFault bytes (Deep at) = IsDeep bytes at
IsFault bytes NotObject = IsOther bytes
IsFault bytes WantOfMemory = ⊤

-- the bytes are a text of that value, and of no other, and the value is at most 32 deep
pub record IsValue (bytes : ByteString) (value : Datum) : Type 0 where
  pub fits : depth value ≤ 32
  pub text : IsText bytes value
  pub only : (other : Datum) → IsText bytes other → other ≡ value
  pub shallow : StaysShallow bytes (length bytes)

-- when each fault comes where any value will do
abbrev pub IsTextFault : ByteString → JsonFault → Type 0
IsTextFault bytes (NotJson at) = IsNotJson bytes at
IsTextFault bytes (Deep at) = IsDeep bytes at
IsTextFault bytes NotObject = ⊥
IsTextFault bytes WantOfMemory = ⊤

-- bytes were read as these fields, or no memory was found
abbrev pub GivesFields : List NamedDatum → Result Event JsonFault → Type 0
GivesFields fields (Ok event) = event.fields ≡ fields
GivesFields fields (Err fault) = fault ≡ WantOfMemory
