-- What a byte does at each place of a JSON text.
use Rattle.std.specs.Prelude.{ℕ, ◌+◌, ◌^◌, Bool, true, false, ◌&&◌, ◌||◌, ◌==◌, nat_le, nat_lt, Option, Some, None, ℤ, pos, negsuc, List, [], ◌∷◌, ◌++◌, codes, length, encode_utf8, if◌then◌else◌}
use Rattle.std.specs.Fmt.{signed_decimal}
use Rattle.std.specs.Str.Lossy.{utf8_lossy}
use Rattle.std.specs.Str.Parse.{signed_digits_value}
use Rattle.vx_value.specs.Texts.{ByteString, is_empty, same_text}
use Rattle.vx_value.specs.Datum.{Datum, Null, Truth, Whole, Spelled, Words, Items, Fields, NamedDatum, data_of, named_of}
use Rattle.vx_value.specs.Events.{with_field}
use Rattle.vx_json.specs.Numbers.{is_digit}
use Rattle.vx_json.specs.Strings.{is_hex, hex_value, is_short, short_byte, is_high, paired_code, code_of}
use Rattle.vx_json.specs.Grammar.{is_blank}
use Rattle.vx_json.specs.declared.text_place.TextPlace.{TextPlace}
use Rattle.vx_json.specs.declared.text_place.TextPlace.TheVariants as place
use Rattle.vx_json.specs.declared.number_place.NumberPlace.{NumberPlace}
use Rattle.vx_json.specs.declared.number_place.NumberPlace.TheVariants as number

-- ---- inside a text

-- what a byte does inside a text: it leads to a place and adds bytes, or ends the text, or is wrong there
pub data TextMove : Type 0 where
  Goes : TextPlace → ByteString → TextMove
  Ends : TextMove
  Wrong : TextMove

-- where the first byte of a character leads
abbrev pub lead_move : ℕ → TextMove
lead_move b =
    if nat_lt b 0x80 then Goes place.Plain (b ∷ [])
    else (if nat_lt b 0xC2 then Wrong
    else (if nat_lt b 0xE0 then Goes place.Last (b ∷ [])
    else (if b == 0xE0 then Goes place.TwoHigh (b ∷ [])
    else (if b == 0xED then Goes place.TwoLow (b ∷ [])
    else (if nat_lt b 0xF0 then Goes place.Two (b ∷ [])
    else (if b == 0xF0 then Goes place.ThreeHigh (b ∷ [])
    else (if nat_lt b 0xF4 then Goes place.Three (b ∷ [])
    else (if b == 0xF4 then Goes place.ThreeLow (b ∷ []) else Wrong))))))))

-- a byte in a range leads to a place
abbrev pub within_move : ℕ → ℕ → TextPlace → ℕ → TextMove
within_move low high next b = if nat_le low b && nat_le b high then Goes next (b ∷ []) else Wrong

-- whether a number is that of a character
abbrev pub is_character_code : ℕ → Bool
is_character_code n = nat_lt n 0xD800 || (nat_lt 0xDFFF n && nat_lt n 0x110000)

-- the number of a character adds its bytes
abbrev pub code_move : ℕ → TextMove
code_move n = if is_character_code n then Goes place.Plain (encode_utf8 n) else Wrong

-- the number of the first four digits, which may be that of a surrogate
abbrev pub first_code_move : ℕ → TextMove
first_code_move n = if is_high n then Goes (place.Backslash n) [] else code_move n

-- a byte leads on where a test says so
abbrev pub digit_move : Bool → TextPlace → TextMove
digit_move fits next = if fits then Goes next [] else Wrong

abbrev pub text_move : TextPlace → ℕ → TextMove
text_move place.Plain b = if b == 34 then Ends else (if b == 92 then Goes place.Escaped [] else (if nat_lt b 32 then Wrong else lead_move b))
text_move place.Last b = within_move 0x80 0xBF place.Plain b
text_move place.Two b = within_move 0x80 0xBF place.Last b
text_move place.TwoHigh b = within_move 0xA0 0xBF place.Last b
text_move place.TwoLow b = within_move 0x80 0x9F place.Last b
text_move place.Three b = within_move 0x80 0xBF place.Two b
text_move place.ThreeHigh b = within_move 0x90 0xBF place.Two b
text_move place.ThreeLow b = within_move 0x80 0x8F place.Two b
text_move place.Escaped b = if b == 117 then Goes place.Hex1 [] else (if is_short b then Goes place.Plain (short_byte b ∷ []) else Wrong)
text_move place.Hex1 b = digit_move (is_hex b) (place.Hex2 b)
text_move (place.Hex2 x) b = digit_move (is_hex b && (if hex_value x == 13 then nat_le (hex_value b) 11 else true)) (place.Hex3 x b)
text_move (place.Hex3 x y) b = digit_move (is_hex b) (place.Hex4 x y b)
text_move (place.Hex4 x y z) b = if is_hex b then first_code_move (code_of (record { first = x; second = y; third = z; fourth = b })) else Wrong
text_move (place.Backslash h) b = digit_move (b == 92) (place.Letter h)
text_move (place.Letter h) b = digit_move (b == 117) (place.Low1 h)
text_move (place.Low1 h) b = digit_move (is_hex b && (hex_value b == 13)) (place.Low2 h b)
text_move (place.Low2 h x) b = digit_move (is_hex b && nat_le 12 (hex_value b)) (place.Low3 h x b)
text_move (place.Low3 h x y) b = digit_move (is_hex b) (place.Low4 h x y b)
text_move (place.Low4 h x y z) b = if is_hex b then code_move (paired_code h (code_of (record { first = x; second = y; third = z; fourth = b }))) else Wrong

-- ---- inside a number

-- whether a byte is an `e` of either case
abbrev pub is_mark : ℕ → Bool
is_mark b = (b == 101) || (b == 69)

-- what may come behind a whole part
abbrev pub after_whole : ℕ → Option NumberPlace
after_whole b = if b == 46 then Some number.Point else (if is_mark b then Some number.Mark else None)

abbrev pub number_move : NumberPlace → ℕ → Option NumberPlace
number_move number.Minus b = if b == 48 then Some number.Zero else (if is_digit b then Some number.Whole else None)
number_move number.Zero b = after_whole b
number_move number.Whole b = if is_digit b then Some number.Whole else after_whole b
number_move number.Point b = if is_digit b then Some number.Fraction else None
number_move number.Fraction b = if is_digit b then Some number.Fraction else (if is_mark b then Some number.Mark else None)
number_move number.Mark b = if (b == 43) || (b == 45) then Some number.Sign else (if is_digit b then Some number.Exponent else None)
number_move number.Sign b = if is_digit b then Some number.Exponent else None
number_move number.Exponent b = if is_digit b then Some number.Exponent else None

-- whether a number may end at a place
abbrev pub may_end : NumberPlace → Bool
may_end number.Zero = true
may_end number.Whole = true
may_end number.Fraction = true
may_end number.Exponent = true
may_end p = false

-- whether a whole number has 64 bits
abbrev pub is_within : ℤ → Bool
is_within (pos n) = nat_lt n (2 ^ 63)
is_within (negsuc n) = nat_lt n (2 ^ 63)

-- whether a text is what writing the whole number of its digits gives
abbrev pub is_whole_text : ByteString → Bool
is_whole_text w = is_within (signed_digits_value 10 w) && same_text (signed_decimal (signed_digits_value 10 w)) w

-- the value of a number by its text
unfoldable pub number_datum : ByteString → Datum
number_datum w = if is_whole_text w then Whole (signed_digits_value 10 w) else Spelled w

-- ---- around values

-- what is open around a place: an array with its values so far, or an object with its fields so far and the name whose value comes
pub data Frame : Type 0 where
  InItems : List Datum → Frame
  InFields : List NamedDatum → ByteString → Frame

-- where a reader stands
pub data Mode : Type 0 where
  -- before a value
  AtValue : Mode
  -- behind an opening bracket
  AtFirstItem : Mode
  -- behind an opening brace
  AtFirstName : Mode
  -- behind a comma of an object, with its fields so far
  AtName : List NamedDatum → Mode
  -- in a name
  InName : List NamedDatum → TextPlace → ByteString → Mode
  -- behind a name
  AtColon : List NamedDatum → ByteString → Mode
  -- behind a value
  AtEnd : Datum → Mode
  -- in a word, with what is left of it and its value
  InWord : ByteString → Datum → Mode
  InNumber : NumberPlace → ByteString → Mode
  InText : TextPlace → ByteString → Mode

-- where a reader stands, and what is open
pub record State : Type 0 where
  pub mode : Mode
  pub stack : List Frame

abbrev pub state : Mode → List Frame → Option State
state m st = Some (record { mode = m; stack = st })

-- a byte that begins a value
abbrev pub begin_move : List Frame → ℕ → Option State
begin_move st b =
    if b == 34 then state (InText place.Plain []) st
    else (if b == 45 then state (InNumber number.Minus (b ∷ [])) st
    else (if b == 48 then state (InNumber number.Zero (b ∷ [])) st
    else (if is_digit b then state (InNumber number.Whole (b ∷ [])) st
    else (if b == 91 then state AtFirstItem st
    else (if b == 123 then state AtFirstName st
    else (if b == 110 then state (InWord (codes "ull") Null) st
    else (if b == 116 then state (InWord (codes "rue") (Truth true)) st
    else (if b == 102 then state (InWord (codes "alse") (Truth false)) st else None))))))))

-- a byte behind a value that is no blank
abbrev pub end_move : Datum → List Frame → ℕ → Option State
end_move d [] b = None
end_move d (InItems ds ∷ st) b =
    if b == 44 then state AtValue (InItems (ds ++ d ∷ []) ∷ st)
    else (if b == 93 then state (AtEnd (Items (data_of (ds ++ d ∷ [])))) st else None)
end_move d (InFields fs name ∷ st) b =
    if b == 44 then state (AtName (with_field fs name d)) st
    else (if b == 125 then state (AtEnd (Fields (named_of (with_field fs name d)))) st else None)

abbrev pub after_move : Datum → List Frame → ℕ → Option State
after_move d st b = if is_blank b then state (AtEnd d) st else end_move d st b

-- a byte of a name
abbrev pub name_move : TextMove → List NamedDatum → ByteString → List Frame → Option State
name_move (Goes next more) fs w st = state (InName fs next (w ++ more)) st
name_move Ends fs w st = state (AtColon fs (utf8_lossy w)) st
name_move Wrong fs w st = None

-- a byte of a text
abbrev pub words_move : TextMove → ByteString → List Frame → Option State
words_move (Goes next more) w st = state (InText next (w ++ more)) st
words_move Ends w st = state (AtEnd (Words (utf8_lossy w))) st
words_move Wrong w st = None

-- a byte of a number, or one behind it
abbrev pub digits_move : Option NumberPlace → NumberPlace → ByteString → List Frame → ℕ → Option State
digits_move (Some next) here w st b = state (InNumber next (w ++ b ∷ [])) st
digits_move None here w st b = if may_end here then after_move (number_datum (utf8_lossy w)) st b else None

-- a byte of a word
abbrev pub word_move : ByteString → Datum → List Frame → ℕ → Option State
word_move [] d st b = None
word_move (a ∷ rest) d st b = if a == b then (if is_empty rest then state (AtEnd d) st else state (InWord rest d) st) else None

-- what a byte does
abbrev pub step : Mode → List Frame → ℕ → Option State
step AtValue st b = if is_blank b then state AtValue st else begin_move st b
step AtFirstItem st b = if is_blank b then state AtFirstItem st else (if b == 93 then state (AtEnd (Items (data_of []))) st else begin_move (InItems [] ∷ st) b)
step AtFirstName st b = if is_blank b then state AtFirstName st else (if b == 125 then state (AtEnd (Fields (named_of []))) st else (if b == 34 then state (InName [] place.Plain []) st else None))
step (AtName fs) st b = if is_blank b then state (AtName fs) st else (if b == 34 then state (InName fs place.Plain []) st else None)
step (InName fs here w) st b = name_move (text_move here b) fs w st
step (AtColon fs name) st b = if is_blank b then state (AtColon fs name) st else (if b == 58 then state AtValue (InFields fs name ∷ st) else None)
step (AtEnd d) st b = after_move d st b
step (InWord rest d) st b = word_move rest d st b
step (InNumber here w) st b = digits_move (number_move here b) here w st b
step (InText here w) st b = words_move (text_move here b) w st

-- the value of all bytes where they end at a place
abbrev pub finish : Mode → List Frame → Option Datum
finish (AtEnd d) [] = Some d
finish (InNumber here w) [] = if may_end here then Some (number_datum (utf8_lossy w)) else None
finish m st = None

-- what bytes come to from a place on, by what the first does
abbrev pub carry : {A : Type 0} → Option State → (Mode → List Frame → Option A) → Option A
carry None further = None
carry (Some s) further = further s.mode s.stack

-- where bytes lead to
abbrev pub reached : Mode → List Frame → ByteString → Option State
reached m st [] = state m st
reached m st (b ∷ w) = carry (step m st b) (λ n su. reached n su w)

-- the value that bytes have from a place on
abbrev pub outcome : Mode → List Frame → ByteString → Option Datum
outcome m st [] = finish m st
outcome m st (b ∷ w) = carry (step m st b) (λ n su. outcome n su w)

-- how many levels are open at a place
abbrev pub height : Mode → List Frame → ℕ
height AtFirstItem st = length st + 1
height AtFirstName st = length st + 1
height (AtName fs) st = length st + 1
height (InName fs p w) st = length st + 1
height (AtColon fs name) st = length st + 1
height m st = length st
