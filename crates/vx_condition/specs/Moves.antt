-- What a byte makes of a reader of conditions.
use Rattle.std.specs.Prelude.{◌≡◌, ℕ, ◌+◌, ◌-◌, ◌*◌, ◌^◌, ◌==◌, ◌&&◌, ◌||◌, nat_lt, nat_le, Bool, true, false, not, ℤ, pos, negsuc, Option, Some, None, Result, Ok, Err, List, [], ◌∷◌, ◌++◌, length, slice_index_or, if◌then◌else◌}
use Rattle.vx_value.specs.Texts.{ByteString}
use Rattle.vx_condition.specs.Trees as tree
use Rattle.vx_condition.specs.Trees.{disjunction_of, negated_times}
use Rattle.vx_condition.specs.Grammar.{is_blank, is_digit, escaped}
use Rattle.vx_value.specs.Paths.{move_of, ends_path}
use Rattle.vx_condition.specs.Words.{letters_of}
use Rattle.vx_condition.specs.Patterns.{IsRefused}
use Rattle.vx_condition.specs.declared.comparison.Comparison.{Comparison}
use Rattle.vx_condition.specs.declared.comparison.Comparison.TheVariants.{Less, AtMost, Greater, AtLeast}
use Rattle.vx_condition.specs.declared.literal.Literal.{Literal}
use Rattle.vx_condition.specs.declared.literal.Literal.TheVariants as literal
use Rattle.vx_condition.specs.declared.predicate.Predicate.{Predicate}
use Rattle.vx_condition.specs.declared.predicate.Predicate.TheVariants as predicate
use Rattle.vx_condition.specs.declared.operator.Operator.{Operator}
use Rattle.vx_condition.specs.declared.operator.Operator.TheVariants.{Is, Compared}
use Rattle.vx_condition.specs.declared.operator.Equality.{Equality}
use Rattle.vx_condition.specs.declared.operator.Equality.TheVariants.{Equal, Different}
use Rattle.vx_condition.specs.declared.call.Call.{Call}
use Rattle.vx_condition.specs.declared.call.Call.TheVariants as call
use Rattle.vx_condition.specs.declared.call.Search.{Search}
use Rattle.vx_condition.specs.declared.call.Search.TheVariants as search_for
use Rattle.vx_condition.specs.declared.fixed_word.FixedWord.{FixedWord}
use Rattle.vx_condition.specs.declared.fixed_word.FixedWord.TheVariants as fixed
use Rattle.vx_value.specs.declared.path_mode.PathMode.{PathMode}
use Rattle.vx_value.specs.declared.path_mode.PathMode.TheVariants.{Name}
use Rattle.vx_value.specs.declared.path_mode.PathMove.{PathMove}
use Rattle.vx_value.specs.declared.path_mode.PathMove.TheVariants as path
use Rattle.vx_condition.specs.declared.expected.Expected.{Expected}
use Rattle.vx_condition.specs.declared.expected.Expected.TheVariants as wants
use Rattle.vx_condition.specs.declared.mode.Behind.{Behind}
use Rattle.vx_condition.specs.declared.mode.Behind.TheVariants.{Wants, Done}
use Rattle.vx_condition.specs.declared.mode.PathUse.{PathUse}
use Rattle.vx_condition.specs.declared.mode.PathUse.TheVariants as path_of
use Rattle.vx_condition.specs.declared.mode.TextUse.{TextUse}
use Rattle.vx_condition.specs.declared.mode.TextUse.TheVariants as text_of
use Rattle.vx_condition.specs.declared.mode.Mode.{Mode}
use Rattle.vx_condition.specs.declared.mode.Mode.TheVariants as mode
use Rattle.vx_condition.specs.declared.frame.Frame.{Frame}
use Rattle.vx_condition.specs.declared.reader.Reader.{Reader}
use Rattle.vx_condition.specs.declared.stop.Stop.{Stop}
use Rattle.vx_condition.specs.declared.stop.Stop.TheVariants.{Refused, Deep, BadPattern, WantOfMemory}

-- a reader at another place
abbrev pub at : Reader → Mode → Reader
at r m = record r { mode = m }

-- the same, if there is one
abbrev pub at_some : Reader → Option Mode → Result Reader Stop
at_some r None = Err Refused
at_some r (Some m) = Ok (at r m)

-- how many levels are open inside a frame
abbrev pub levels_in : Frame → ℕ
levels_in f = f.base + f.negations

-- a frame with one term more, behind the `!` that stand before it
abbrev pub with_term : Frame → tree.Term → Frame
with_term f t = record f { terms = f.terms ++ negated_times f.negations t ∷ []; negations = 0 }

-- a frame without anything
abbrev pub fresh : ℕ → Frame
fresh base = record { base = base; branches = []; terms = []; negations = 0 }

-- the branches of a frame, with the one that has begun
abbrev pub all_branches : Frame → List (List tree.Term)
all_branches f = f.branches ++ f.terms ∷ []

-- a reader behind a predicate
abbrev pub stated : Reader → Predicate → Reader
stated r p = record r { frame = with_term r.frame (tree.stated p); mode = mode.Complete }

-- the predicate that a value is a literal, or isn't
abbrev pub equal_to : List ByteString → Equality → Literal → Predicate
equal_to p Equal l = predicate.Equal p l
equal_to p Different l = predicate.Different p l

-- the predicate of a path, an operator and a whole number
abbrev pub with_number : List ByteString → Operator → ℤ → Predicate
with_number p (Is e) z = equal_to p e (literal.Whole z)
with_number p (Compared c) z = predicate.Compared p c z

-- the number of a size
abbrev pub signed : Bool → ℕ → ℤ
signed false n = pos n
signed true n = negsuc (n - 1)

-- whether there is such a number of 64 bits
abbrev pub fits : Bool → ℕ → Bool
fits false n = nat_lt n (2 ^ 63)
fits true n = nat_le n (2 ^ 63)

-- what a term begins with
abbrev pub operand_mode : ℕ → Option Mode
operand_mode b =
    if b == 46 then Some (mode.Path path_of.Compared Name [] [])
    else (if b == 101 then Some (mode.Word fixed.Exists 1 (Wants (wants.Open call.Exists)))
    else (if b == 99 then Some (mode.Word fixed.Contains 1 (Wants (wants.Open (call.Has search_for.Part))))
    else (if b == 109 then Some (mode.Word fixed.Match 1 (Wants (wants.Open (call.Has search_for.Pattern)))) else None)))

-- what an operator begins with
abbrev pub operator_mode : List ByteString → ℕ → Option Mode
operator_mode p b =
    if b == 61 then Some (mode.Word fixed.Equals 1 (Wants (wants.Literal p (Is Equal))))
    else (if b == 33 then Some (mode.Word fixed.Differs 1 (Wants (wants.Literal p (Is Different))))
    else (if b == 60 then Some (mode.Angle p Less)
    else (if b == 62 then Some (mode.Angle p Greater) else None)))

-- whether a byte begins a whole number
abbrev pub begins_number : ℕ → Bool
begins_number b = (b == 45) || is_digit b

-- where its first byte leads
abbrev pub number_mode : List ByteString → Operator → ℕ → Mode
number_mode p o b = if b == 45 then mode.Minus p o else mode.Whole p o false (b - 48)

-- what another literal begins with
abbrev pub word_mode : List ByteString → Equality → ℕ → Option Mode
word_mode p e b =
    if b == 34 then Some (mode.Text (text_of.Literal p e) false [])
    else (if b == 116 then Some (mode.Word fixed.True 1 (Done (equal_to p e (literal.Truth true))))
    else (if b == 102 then Some (mode.Word fixed.False 1 (Done (equal_to p e (literal.Truth false))))
    else (if b == 110 then Some (mode.Word fixed.Null 1 (Done (equal_to p e literal.Null))) else None)))

-- what a literal begins with
abbrev pub literal_mode : List ByteString → Operator → ℕ → Option Mode
literal_mode p (Is e) b = if begins_number b then Some (number_mode p (Is e) b) else word_mode p e b
literal_mode p (Compared c) b = if begins_number b then Some (number_mode p (Compared c) b) else None

-- whether a `!` may stand before the bracket of a call
abbrev pub may_be_marked : Call → Bool
may_be_marked call.Exists = false
may_be_marked (call.Has s) = true

-- what an argument begins with
abbrev pub argument_mode : Search → List ByteString → ℕ → Option Mode
argument_mode search_for.Part p b = if b == 34 then Some (mode.Text (text_of.Part p) false []) else None
argument_mode search_for.Pattern p b = if b == 114 then Some (mode.Mark p) else None

-- what comes behind the path of a call
abbrev pub behind_path : PathUse → List ByteString → Expected
behind_path path_of.Compared p = wants.Operator p
behind_path (path_of.Called call.Exists) p = wants.Close (predicate.Exists p)
behind_path (path_of.Called (call.Has s)) p = wants.Comma s p

-- a byte where a term is expected: another level is opened only where fewer than so many are open
abbrev pub operand : ℕ → Reader → ℕ → Result Reader Stop
operand most r b =
    if b == 33 then (if nat_lt (levels_in r.frame) most
    then Ok (record r { frame = record r.frame { negations = r.frame.negations + 1 }; mode = mode.Expects wants.Operand }) else Err Deep)
    else (if b == 40 then (if nat_lt (levels_in r.frame) most
    then Ok (record r { frame = fresh (levels_in r.frame + 1); outer = r.frame ∷ r.outer; mode = mode.Expects wants.Operand }) else Err Deep)
    else at_some r (operand_mode b))

-- a closing bracket, with the frames around it
abbrev pub closed : Reader → List Frame → Result Reader Stop
closed r [] = Err Refused
closed r (f ∷ outer) = Ok (record r { frame = with_term f (tree.bracketed (disjunction_of (all_branches r.frame))); outer = outer; mode = mode.Complete })

-- a byte where an operand may be joined to another
abbrev pub joint : Reader → ℕ → Result Reader Stop
joint r b =
    if b == 38 then Ok (at r (mode.Word fixed.And 1 (Wants wants.Operand)))
    else (if b == 124 then Ok (record r { frame = record r.frame { branches = all_branches r.frame; terms = [] }; mode = mode.Word fixed.Or 1 (Wants wants.Operand) })
    else (if b == 41 then closed r r.outer else Err Refused))

-- a byte where something is expected
abbrev pub expected : ℕ → Reader → Expected → ℕ → Result Reader Stop
expected most r wants.Operand b = operand most r b
expected most r (wants.Operator p) b = at_some r (operator_mode p b)
expected most r (wants.Literal p o) b = at_some r (literal_mode p o b)
expected most r (wants.Open c) b =
    if b == 40 then Ok (at r (mode.Expects (wants.Path c)))
    else (if (b == 33) && may_be_marked c then Ok (at r (mode.Expects (wants.Bracket c))) else Err Refused)
expected most r (wants.Bracket c) b = if b == 40 then Ok (at r (mode.Expects (wants.Path c))) else Err Refused
expected most r (wants.Path c) b = if b == 46 then Ok (at r (mode.Path (path_of.Called c) Name [] [])) else Err Refused
expected most r (wants.Comma s p) b = if b == 44 then Ok (at r (mode.Expects (wants.Argument s p))) else Err Refused
expected most r (wants.Argument s p) b = at_some r (argument_mode s p b)
expected most r (wants.Close p) b = if b == 41 then Ok (stated r p) else Err Refused
expected most r wants.Joint b = joint r b

-- the same, where blanks may come
abbrev pub behind_blanks : ℕ → Reader → Expected → ℕ → Result Reader Stop
behind_blanks most r e b = if is_blank b then Ok (at r (mode.Expects e)) else expected most r e b

-- a reader behind a fixed word
abbrev pub arrived : Reader → Behind → Reader
arrived r (Wants e) = at r (mode.Expects e)
arrived r (Done p) = stated r p

-- a byte in a fixed word, of which some letters were read
abbrev pub in_word : Reader → FixedWord → ℕ → Behind → ℕ → Result Reader Stop
in_word r w read behind b =
    if nat_lt read (length (letters_of w)) && (b == slice_index_or (letters_of w) read 0)
    then Ok (if read + 1 == length (letters_of w) then arrived r behind else at r (mode.Word w (read + 1) behind)) else Err Refused

-- a byte in a path, by what it does there; no path has more than 31 names
abbrev pub in_path : ℕ → Reader → PathUse → PathMode → ByteString → List ByteString → ℕ → PathMove → Result Reader Stop
in_path most r use_of place name names b (path.Adds next) = Ok (at r (mode.Path use_of next (name ++ b ∷ []) names))
in_path most r use_of place name names b (path.Passes next) = Ok (at r (mode.Path use_of next name names))
in_path most r use_of place name names b path.Ends =
    if nat_lt (length names) 30 then Ok (at r (mode.Path use_of Name [] (names ++ name ∷ []))) else Err Refused
in_path most r use_of place name names b path.Refused =
    if ends_path place && nat_lt (length names) 31 && nat_lt b 128 then behind_blanks most r (behind_path use_of (names ++ name ∷ [])) b else Err Refused

-- a reader behind a text in quotes
abbrev pub behind_text : Reader → TextUse → ByteString → Reader
behind_text r (text_of.Literal p e) word = stated r (equal_to p e (literal.Words word))
behind_text r (text_of.Part p) word = at r (mode.Expects (wants.Close (predicate.Contains p word)))

-- a byte in a text, with another byte or none in its place
abbrev pub with_escape : Reader → TextUse → ByteString → Option ℕ → Result Reader Stop
with_escape r use_of held None = Err Refused
with_escape r use_of held (Some e) = Ok (at r (mode.Text use_of false (held ++ e ∷ [])))

-- a byte in a text in quotes
abbrev pub in_text : Reader → TextUse → Bool → ByteString → ℕ → Result Reader Stop
in_text r use_of true held b = with_escape r use_of held (escaped b)
in_text r use_of false held b =
    if b == 34 then Ok (behind_text r use_of held)
    else (if b == 92 then Ok (at r (mode.Text use_of true held)) else Ok (at r (mode.Text use_of false (held ++ b ∷ []))))

-- the predicate of a pattern; a reader that keeps none has a `contains` in its place
abbrev pub sought : Bool → List ByteString → ByteString → Predicate
sought true p pattern = predicate.Matches p pattern
sought false p pattern = predicate.Contains p pattern

-- a byte in a pattern
abbrev pub in_pattern : Reader → List ByteString → ByteString → ℕ → Result Reader Stop
in_pattern r p held b =
    if b == 39 then Ok (at r (mode.Expects (wants.Close (sought r.keeps p held)))) else Ok (at r (mode.Pattern p (held ++ b ∷ [])))

-- a byte directly behind an operand
abbrev pub behind_operand : Reader → ℕ → Result Reader Stop
behind_operand r b = if is_blank b then Ok (at r (mode.Expects wants.Joint)) else joint r b

-- a byte in a whole number
abbrev pub in_whole : Reader → List ByteString → Operator → Bool → ℕ → ℕ → Result Reader Stop
in_whole r p o negative size b =
    if is_digit b then (if (not (size == 0)) && fits negative (10 * size + (b - 48)) then Ok (at r (mode.Whole p o negative (10 * size + (b - 48)))) else Err Refused)
    else behind_operand (stated r (with_number p o (signed negative size))) b

-- the comparison with or equal
abbrev pub or_equal : Comparison → Comparison
or_equal Less = AtMost
or_equal Greater = AtLeast
or_equal c = c

-- what a byte makes of a reader, at each place
abbrev pub moved : ℕ → Reader → Mode → ℕ → Result Reader Stop
moved most r mode.Start b = if is_blank b then Err Refused else operand most r b
moved most r (mode.Expects e) b = behind_blanks most r e b
moved most r mode.Complete b = behind_operand r b
moved most r (mode.Word w read behind) b = in_word r w read behind b
moved most r (mode.Path use_of place name names) b = in_path most r use_of place name names b (move_of place (length name == 0) b)
moved most r (mode.Text use_of behind_backslash held) b = in_text r use_of behind_backslash held b
moved most r (mode.Mark p) b = if b == 39 then Ok (at r (mode.Pattern p [])) else Err Refused
moved most r (mode.Pattern p held) b = in_pattern r p held b
moved most r (mode.Minus p o) b = if nat_le 49 b && nat_le b 57 then Ok (at r (mode.Whole p o true (b - 48))) else Err Refused
moved most r (mode.Whole p o negative size) b = in_whole r p o negative size b
moved most r (mode.Angle p c) b =
    if b == 61 then Ok (at r (mode.Expects (wants.Literal p (Compared (or_equal c))))) else behind_blanks most r (wants.Literal p (Compared c)) b

-- what a byte makes of a reader that opens so many levels at most
abbrev pub step : ℕ → Reader → ℕ → Result Reader Stop
step most r b = moved most r r.mode b

-- the bytes that a reader holds of a name, a text or a pattern
abbrev pub held_by : Mode → ByteString
held_by (mode.Path use_of place name names) = name
held_by (mode.Text use_of behind_backslash held) = held
held_by (mode.Pattern p held) = held
held_by m = []

-- why a reader doesn't go on, by what the byte makes of it; a refused pattern isn't told so
abbrev pub Stops : Result Reader Stop → Stop → Type 0
Stops outcome Refused = outcome ≡ Err Refused
Stops outcome Deep = outcome ≡ Err Deep
Stops outcome (BadPattern n) = ⊥
Stops outcome WantOfMemory = Unit {0}

-- the same at the end of a pattern: one that is kept may be refused
abbrev pub StopsPattern : Bool → ByteString → Stop → Type 0
StopsPattern keeps held (BadPattern n) = (keeps ≡ true) × (n ≡ length held) × IsRefused held
StopsPattern keeps held WantOfMemory = Unit {0}
StopsPattern keeps held stop = ⊥
