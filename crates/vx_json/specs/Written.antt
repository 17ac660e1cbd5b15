-- The one spelling of a value: no blanks, names in the order in which they stand, and as few escapes as may be.
use Rattle.std.specs.Prelude.{ℕ, zero, suc, ◌+◌, ◌/◌, ◌%◌, Bool, true, false, ◌||◌, ◌==◌, nat_lt, [], ◌∷◌, ◌++◌, codes, if◌then◌else◌}
use Rattle.std.specs.Fmt.{signed_decimal}
use Rattle.vx_value.specs.Texts.{ByteString}
use Rattle.vx_value.specs.Datum.{Datum, Null, Truth, Whole, Spelled, Words, Items, Fields, Data, no_data, datum, NamedData, no_named, named}

-- a digit of base 16, in lower case
abbrev pub hex_digit : ℕ → ℕ
hex_digit n = if nat_lt n 10 then 48 + n else 87 + n

-- what stands for a byte of a text: a backslash before `"` and `\`, the short escapes of backspace, form feed, line feed, carriage return and tab, `\u00` and two digits for the other control characters, and else the byte
unfoldable pub escaped : ℕ → ByteString
escaped b =
    if (b == 34) || (b == 92) then 92 ∷ b ∷ []
    else (if b == 8 then 92 ∷ 98 ∷ []
    else (if b == 12 then 92 ∷ 102 ∷ []
    else (if b == 10 then 92 ∷ 110 ∷ []
    else (if b == 13 then 92 ∷ 114 ∷ []
    else (if b == 9 then 92 ∷ 116 ∷ []
    else (if nat_lt b 32 then 92 ∷ 117 ∷ 48 ∷ 48 ∷ hex_digit (b / 16) ∷ hex_digit (b % 16) ∷ []
    else b ∷ []))))))

-- the bytes of a text, each as it is written
abbrev pub escapes : ByteString → ByteString
escapes [] = []
escapes (b ∷ text) = escaped b ++ escapes text

-- a text in quotes
abbrev pub quoted : ByteString → ByteString
quoted text = 34 ∷ escapes text ++ 34 ∷ []

-- a truth value
abbrev pub truth_text : Bool → ByteString
truth_text true = codes "true"
truth_text false = codes "false"

-- what stands before the value at a place: nothing before the first, and a comma before each other
abbrev pub separator : ℕ → ByteString
separator zero = []
separator (suc i) = 44 ∷ []

abbrev mutual
  -- the spelling of a value
  pub written : Datum → ByteString
  written Null = codes "null"
  written (Truth b) = truth_text b
  written (Whole z) = signed_decimal z
  written (Spelled number) = number
  written (Words text) = quoted text
  written (Items ds) = 91 ∷ items_written ds ++ 93 ∷ []
  written (Fields ns) = 123 ∷ fields_written ns ++ 125 ∷ []

  -- the spelling of values in order, with commas between
  pub items_written : Data → ByteString
  items_written no_data = []
  items_written (datum d no_data) = written d
  items_written (datum d (datum e ds)) = written d ++ 44 ∷ items_written (datum e ds)

  -- the spelling of names with their values, with commas between
  pub fields_written : NamedData → ByteString
  fields_written no_named = []
  fields_written (named n d no_named) = quoted n ++ 58 ∷ written d
  fields_written (named n d (named m e ns)) = quoted n ++ 58 ∷ written d ++ 44 ∷ fields_written (named m e ns)
