-- Where a judge of JSON stands that keeps no values, and what a byte does there.
use Rattle.std.specs.Prelude.{ℕ, ◌+◌, ◌*◌, ◌/◌, ◌%◌, ◌^◌, Bool, true, false, ◌==◌, nat_lt, Option, Some, None, [], ◌∷◌, codes, if◌then◌else◌}
use Rattle.vx_value.specs.Texts.{ByteString, is_empty}
use Rattle.vx_json.specs.Numbers.{is_digit}
use Rattle.vx_json.specs.Grammar.{is_blank}
use Rattle.vx_json.specs.Machine.{TextMove, Goes, Ends, Wrong, text_move, number_move, may_end}
use Rattle.vx_json.specs.declared.text_place.TextPlace.{TextPlace}
use Rattle.vx_json.specs.declared.text_place.TextPlace.TheVariants as text
use Rattle.vx_json.specs.declared.number_place.NumberPlace.{NumberPlace}
use Rattle.vx_json.specs.declared.number_place.NumberPlace.TheVariants as number

-- a place of the reader, without its values; a value that was read or begun only tells whether it is an object
pub data ProbeMode : Type 0 where
  Before : ProbeMode
  FirstItem : ProbeMode
  FirstName : ProbeMode
  NextName : ProbeMode
  InName : TextPlace → ProbeMode
  Colon : ProbeMode
  Behind : Bool → ProbeMode
  InWord : ByteString → Bool → ProbeMode
  InNumber : NumberPlace → ProbeMode
  InText : TextPlace → ProbeMode

-- where a judge stands, and what is open: a number of base 2 with a digit for each level behind a leading 1, the
-- innermost last, and a 1 for an object
pub record Place : Type 0 where
  pub probe_mode : ProbeMode
  pub levels : ℕ

abbrev pub stands : ProbeMode → ℕ → Option Place
stands s n = Some (record { probe_mode = s; levels = n })

-- one level more
abbrev pub opened : Bool → ℕ → ℕ
opened true n = n * 2 + 1
opened false n = n * 2

-- a bracket or a brace opens a level, if fewer than 32 are open
abbrev pub open_probe_mode : ProbeMode → Bool → ℕ → Option Place
open_probe_mode s object n = if nat_lt n (2 ^ 32) then stands s (opened object n) else None

-- a byte that begins a value
abbrev pub begin_probe_mode : ℕ → ℕ → Option Place
begin_probe_mode n b =
    if b == 34 then stands (InText text.Plain) n
    else (if b == 45 then stands (InNumber number.Minus) n
    else (if b == 48 then stands (InNumber number.Zero) n
    else (if is_digit b then stands (InNumber number.Whole) n
    else (if b == 91 then open_probe_mode FirstItem false n
    else (if b == 123 then open_probe_mode FirstName true n
    else (if b == 110 then stands (InWord (codes "ull") false) n
    else (if b == 116 then stands (InWord (codes "rue") false) n
    else (if b == 102 then stands (InWord (codes "alse") false) n else None))))))))

-- a byte behind a value of an array
abbrev pub item_probe_mode : ℕ → ℕ → Option Place
item_probe_mode n b = if b == 44 then stands Before n else (if b == 93 then stands (Behind false) (n / 2) else None)

-- a byte behind a value of an object
abbrev pub field_probe_mode : ℕ → ℕ → Option Place
field_probe_mode n b = if b == 44 then stands NextName n else (if b == 125 then stands (Behind true) (n / 2) else None)

-- a byte behind a value that is no blank
abbrev pub end_probe_mode : ℕ → ℕ → Option Place
end_probe_mode n b = if n == 1 then None else (if n % 2 == 1 then field_probe_mode n b else item_probe_mode n b)

abbrev pub after_probe_mode : Bool → ℕ → ℕ → Option Place
after_probe_mode object n b = if is_blank b then stands (Behind object) n else end_probe_mode n b

-- a byte of a name
abbrev pub name_probe_mode : TextMove → ℕ → Option Place
name_probe_mode (Goes next more) n = stands (InName next) n
name_probe_mode Ends n = stands Colon n
name_probe_mode Wrong n = None

-- a byte of a text
abbrev pub words_probe_mode : TextMove → ℕ → Option Place
words_probe_mode (Goes next more) n = stands (InText next) n
words_probe_mode Ends n = stands (Behind false) n
words_probe_mode Wrong n = None

-- a byte of a number, or one behind it
abbrev pub digits_probe_mode : Option NumberPlace → NumberPlace → ℕ → ℕ → Option Place
digits_probe_mode (Some next) here n b = stands (InNumber next) n
digits_probe_mode None here n b = if may_end here then after_probe_mode false n b else None

-- a byte of a word
abbrev pub word_probe_mode : ByteString → Bool → ℕ → ℕ → Option Place
word_probe_mode [] object n b = None
word_probe_mode (a ∷ rest) object n b = if a == b then (if is_empty rest then stands (Behind object) n else stands (InWord rest object) n) else None

-- what a byte does
abbrev pub probe_mode_step : ProbeMode → ℕ → ℕ → Option Place
probe_mode_step Before n b = if is_blank b then stands Before n else begin_probe_mode n b
probe_mode_step FirstItem n b = if is_blank b then stands FirstItem n else (if b == 93 then stands (Behind false) (n / 2) else begin_probe_mode n b)
probe_mode_step FirstName n b = if is_blank b then stands FirstName n else (if b == 125 then stands (Behind true) (n / 2) else (if b == 34 then stands (InName text.Plain) n else None))
probe_mode_step NextName n b = if is_blank b then stands NextName n else (if b == 34 then stands (InName text.Plain) n else None)
probe_mode_step (InName here) n b = name_probe_mode (text_move here b) n
probe_mode_step Colon n b = if is_blank b then stands Colon n else (if b == 58 then stands Before n else None)
probe_mode_step (Behind object) n b = after_probe_mode object n b
probe_mode_step (InWord rest object) n b = word_probe_mode rest object n b
probe_mode_step (InNumber here) n b = digits_probe_mode (number_move here b) here n b
probe_mode_step (InText here) n b = words_probe_mode (text_move here b) n

-- one byte more, if no earlier one was wrong
abbrev pub onward : Option Place → ℕ → Option Place
onward None b = None
onward (Some p) b = probe_mode_step p.probe_mode p.levels b

-- where bytes lead to
abbrev pub led : Option Place → ByteString → Option Place
led o [] = o
led o (b ∷ w) = led (onward o b) w

-- whether an object ends at a place, with nothing open
abbrev pub probe_mode_ends : ProbeMode → ℕ → Bool
probe_mode_ends (Behind true) n = n == 1
probe_mode_ends s n = false

abbrev pub ends_object : Option Place → Bool
ends_object None = false
ends_object (Some p) = probe_mode_ends p.probe_mode p.levels
