-- What a byte does to the place of a reader, and to the bytes that it holds.
use Rattle.std.proofs.Common.{◌≡◌, ℕ, zero, suc, ◌+◌, ◌-◌, ◌*◌, ◌^◌, ◌<◌, ◌≤◌, Bool, true, false, cond, not, ◌==◌, ◌&&◌, ◌||◌, Option, Some, None, List, [], ◌∷◌, ◌++◌, length, codes, refl, sym, ◌∙◌, ap, subst, append_assoc, arith, nat_lt, nat_le, ltb-true, leb-true, lt-ltb, le-leb, eqb-true, ◌⊎◌, inl, inr, length-append, get_or}
use Rattle.std.specs.List.{list_all}
use Rattle.std.proofs.lemmas.Bool.{and_parts, eqb-false}
use Rattle.vx_value.specs.Texts.{ByteString}
use Rattle.vx_condition.specs.Grammar.{is_blank, is_digit, escaped}
use Rattle.vx_condition.specs.Words.{letters_of}
use Rattle.vx_value.specs.Paths.{begins_name, goes_on, name_move, move_of, ends_path}
use Rattle.vx_condition.specs.Moves.{at, at_some, stated, equal_to, with_number, signed, fits, operator_mode, literal_mode, word_mode, number_mode, begins_number, behind_path, with_term, expected, behind_blanks, in_word, arrived, in_text, behind_text, with_escape, in_pattern, in_path, sought, or_equal, may_be_marked}
use Rattle.vx_condition.specs.declared.comparison.Comparison.{Comparison}
use Rattle.vx_condition.specs.declared.comparison.Comparison.TheVariants.{Less, Greater}
use Rattle.vx_condition.specs.declared.literal.Literal.TheVariants as literal
use Rattle.vx_condition.specs.declared.predicate.Predicate.TheVariants.{Contains}
use Rattle.vx_condition.specs.declared.operator.Operator.{Operator}
use Rattle.vx_condition.specs.declared.operator.Operator.TheVariants as operator
use Rattle.vx_condition.specs.declared.operator.Equality.{Equality}
use Rattle.vx_condition.specs.declared.operator.Equality.TheVariants as equality
use Rattle.vx_condition.specs.declared.call.Call.TheVariants as call
use Rattle.vx_condition.specs.declared.call.Call as call_type
use Rattle.vx_condition.specs.declared.call.Search.{Search}
use Rattle.vx_condition.specs.declared.call.Search.TheVariants as search_for
use Rattle.vx_condition.specs.declared.fixed_word.FixedWord.{FixedWord}
use Rattle.vx_condition.specs.declared.fixed_word.FixedWord.TheVariants as fixed
use Rattle.vx_value.specs.declared.path_mode.PathMode.{PathMode}
use Rattle.vx_value.specs.declared.path_mode.PathMode.TheVariants as place
use Rattle.vx_value.specs.declared.path_mode.PathMove.{PathMove}
use Rattle.vx_value.specs.declared.path_mode.PathMove.TheVariants as move
use Rattle.vx_condition.specs.declared.expected.Expected.{Expected}
use Rattle.vx_condition.specs.declared.expected.Expected.TheVariants as wants
use Rattle.vx_condition.specs.declared.mode.Behind.{Behind}
use Rattle.vx_condition.specs.declared.mode.Behind.TheVariants.{Wants, Done}
use Rattle.vx_condition.specs.declared.mode.PathUse.{PathUse}
use Rattle.vx_condition.specs.declared.mode.PathUse.TheVariants as path_of
use Rattle.vx_condition.specs.declared.mode.TextUse.{TextUse}
use Rattle.vx_condition.specs.declared.mode.TextUse.TheVariants as text_of
use Rattle.vx_condition.specs.declared.mode.Mode.{Mode}
use Rattle.vx_condition.specs.declared.mode.Mode.TheVariants as mode
use Rattle.vx_condition.specs.declared.frame.Frame.{Frame}
use Rattle.vx_condition.specs.declared.reader.Reader.{Reader}
use Rattle.vx_condition.specs.declared.stop.Stop.TheVariants as stop
use Rattle.vx_condition.specs.Trees.{bracketed, disjunction_of}
use Rattle.vx_condition.specs.Moves.{operand, operand_mode, closed, joint, behind_operand, fresh, levels_in, all_branches, in_whole, moved, step}
use Rattle.vx_condition.proofs.Fits.{FitExpected, FitBehind, FitAt, Fit}
use Rattle.std.specs.Str.{IsUtf8}
use Rattle.std.proofs.lemmas.Str.{IsUtf8-append, IsUtf8-from_ascii}
use Rattle.std.proofs.lemmas.Bool.{or_cases}
use Rattle.vx_value.proofs.PathReads.{utf8-left, utf8-right}
use Rattle.vx_condition.specs.Moves.{held_by}
use Rattle.vx_condition.proofs.PathSteps.{ends_low}
use Rattle.vx_condition.proofs.Backs.{good, wrong, split, pick, bad}

-- no pattern, and none that is about to begin
abbrev pub NoPattern : Mode → Type 0
NoPattern (mode.Mark p) = ⊥
NoPattern (mode.Pattern p held) = ⊥
NoPattern m = Unit {0}

-- what a byte does to the place
pub data Leap (m : Mode) (b : ℕ) (n : Mode) : Type 0 where
  drops : b < 128 → held_by n ≡ [] → NoPattern n → Leap m b n
  passes : b < 128 → held_by n ≡ held_by m → NoPattern n → Leap m b n
  adds : held_by n ≡ held_by m ++ b ∷ [] → NoPattern n → Leap m b n
  stands : b < 128 → (e : ℕ) → e < 128 → held_by n ≡ held_by m ++ e ∷ [] → NoPattern n → Leap m b n
  marks : (p : List ByteString) → m ≡ mode.Expects (wants.Argument search_for.Pattern p) → b ≡ 114 → n ≡ mode.Mark p → Leap m b n
  starts : (p : List ByteString) → m ≡ mode.Mark p → b ≡ 39 → n ≡ mode.Pattern p [] → Leap m b n
  sought_more : (p : List ByteString) (held : ByteString) → m ≡ mode.Pattern p held → (b == 39) ≡ false → n ≡ mode.Pattern p (held ++ b ∷ []) → Leap m b n

pub record Leapt (m : Mode) (b : ℕ) (next : Reader) : Type 0 where
  pub leap : Leap m b next.mode
  pub fit : Fit next

pub reach : (a next : Reader) (P : Reader → Type 0) → good a ≡ good next → P a → P next
reach a next P e p = let same : a ≡ next = cc in subst P same p

-- a byte of ASCII, behind which nothing is held
record Fell (b : ℕ) (next : Reader) : Type 0 where
  low : b < 128
  none : held_by next.mode ≡ []
  plain : NoPattern next.mode
  fit : Fit next

lowed : (b k : ℕ) → (b == k) ≡ true → k < 128 → b < 128
lowed b k h l = omega (arith, eqb-true b k h)

blank_low : (b : ℕ) → is_blank b ≡ true → b < 128
blank_low b h =
    elim (or_cases ((b == 9) || (b == 10) || (b == 13)) (b == 32) h) [
      | inl x ↦ elim (or_cases ((b == 9) || (b == 10)) (b == 13) x) [
        | inl y ↦ elim (or_cases (b == 9) (b == 10) y) [
          | inl z ↦ lowed b 9 z (omega arith)
          | inr z ↦ lowed b 10 z (omega arith)
        ]
        | inr y ↦ lowed b 13 y (omega arith)
      ]
      | inr x ↦ lowed b 32 x (omega arith)
    ]

fell : (a next : Reader) (b : ℕ) → good a ≡ good next → b < 128 → held_by a.mode ≡ [] → NoPattern a.mode → Fit a → Fell b next
fell a next b e low none plain fit = reach a next (λ x. Fell b x) e (record { low = low; none = none; plain = plain; fit = fit })

-- ---- where something is expected
fell_operator : (r next : Reader) (p : List ByteString) (b : ℕ) → at_some r (operator_mode p b) ≡ good next → Fell b next
fell_operator r next p b h =
    pick (b == 61) r (Some (mode.Word fixed.Equals 1 (Wants (wants.Literal p (operator.Is equality.Equal))))) (cond (b == 33) (Some (mode.Word fixed.Differs 1 (Wants (wants.Literal p (operator.Is equality.Different))))) (cond (b == 60) (Some (mode.Angle p Less)) (cond (b == 62) (Some (mode.Angle p Greater)) None))) (good next) h
    (λ is e. fell (at r (mode.Word fixed.Equals 1 (Wants (wants.Literal p (operator.Is equality.Equal))))) next b e (lowed b 61 is (omega arith)) refl tt tt)
    (λ no1 h2. pick (b == 33) r (Some (mode.Word fixed.Differs 1 (Wants (wants.Literal p (operator.Is equality.Different))))) (cond (b == 60) (Some (mode.Angle p Less)) (cond (b == 62) (Some (mode.Angle p Greater)) None)) (good next) h2
    (λ is e. fell (at r (mode.Word fixed.Differs 1 (Wants (wants.Literal p (operator.Is equality.Different))))) next b e (lowed b 33 is (omega arith)) refl tt tt)
    (λ no2 h3. pick (b == 60) r (Some (mode.Angle p Less)) (cond (b == 62) (Some (mode.Angle p Greater)) None) (good next) h3
    (λ is e. fell (at r (mode.Angle p Less)) next b e (lowed b 60 is (omega arith)) refl tt tt)
    (λ no3 h4. pick (b == 62) r (Some (mode.Angle p Greater)) None (good next) h4
    (λ is e. fell (at r (mode.Angle p Greater)) next b e (lowed b 62 is (omega arith)) refl tt tt)
    (λ no4 e. bad stop.Refused next e))))

digit_high : (b : ℕ) → is_digit b ≡ true → b ≤ 57
digit_high b h = let both = and_parts (nat_le 48 b) (nat_le b 57) h in leb-true b 57 both.1

begun_number : (r next : Reader) (p : List ByteString) (o : Operator) (b : ℕ) (t : Bool) → (b == 45) ≡ t → begins_number b ≡ true → good (at r (cond t (mode.Minus p o) (mode.Whole p o false (b - 48)))) ≡ good next → Fell b next
begun_number r next p o b true is begins h = fell (at r (mode.Minus p o)) next b h (lowed b 45 is (omega arith)) refl tt tt
begun_number r next p o b false no_ begins h =
    let d : is_digit b ≡ true = ap (λ t. t || is_digit b) (sym no_) ∙ begins in
    let high = digit_high b d in
    fell (at r (mode.Whole p o false (b - 48))) next b h (omega arith) refl tt ((λ e. absurd (cc)), lt-ltb (b - 48) (2 ^ 63) (omega arith))

fell_number : (r next : Reader) (p : List ByteString) (o : Operator) (b : ℕ) → begins_number b ≡ true → good (at r (number_mode p o b)) ≡ good next → Fell b next
fell_number r next p o b begins h = begun_number r next p o b (b == 45) refl begins h

fell_word : (r next : Reader) (p : List ByteString) (e : Equality) (b : ℕ) → at_some r (word_mode p e b) ≡ good next → Fell b next
fell_word r next p e b h =
    pick (b == 34) r (Some (mode.Text (text_of.Literal p e) false [])) (cond (b == 116) (Some (mode.Word fixed.True 1 (Done (equal_to p e (literal.Truth true))))) (cond (b == 102) (Some (mode.Word fixed.False 1 (Done (equal_to p e (literal.Truth false))))) (cond (b == 110) (Some (mode.Word fixed.Null 1 (Done (equal_to p e literal.Null)))) None))) (good next) h
    (λ is g. fell (at r (mode.Text (text_of.Literal p e) false [])) next b g (lowed b 34 is (omega arith)) refl tt tt)
    (λ no1 h2. pick (b == 116) r (Some (mode.Word fixed.True 1 (Done (equal_to p e (literal.Truth true))))) (cond (b == 102) (Some (mode.Word fixed.False 1 (Done (equal_to p e (literal.Truth false))))) (cond (b == 110) (Some (mode.Word fixed.Null 1 (Done (equal_to p e literal.Null)))) None)) (good next) h2
    (λ is g. fell (at r (mode.Word fixed.True 1 (Done (equal_to p e (literal.Truth true))))) next b g (lowed b 116 is (omega arith)) refl tt tt)
    (λ no2 h3. pick (b == 102) r (Some (mode.Word fixed.False 1 (Done (equal_to p e (literal.Truth false))))) (cond (b == 110) (Some (mode.Word fixed.Null 1 (Done (equal_to p e literal.Null)))) None) (good next) h3
    (λ is g. fell (at r (mode.Word fixed.False 1 (Done (equal_to p e (literal.Truth false))))) next b g (lowed b 102 is (omega arith)) refl tt tt)
    (λ no3 h4. pick (b == 110) r (Some (mode.Word fixed.Null 1 (Done (equal_to p e literal.Null)))) None (good next) h4
    (λ is g. fell (at r (mode.Word fixed.Null 1 (Done (equal_to p e literal.Null)))) next b g (lowed b 110 is (omega arith)) refl tt tt)
    (λ no4 g. bad stop.Refused next g))))

fell_literal : (r next : Reader) (p : List ByteString) (o : Operator) (b : ℕ) → at_some r (literal_mode p o b) ≡ good next → Fell b next
fell_literal r next p (operator.Is e) b h =
    pick (begins_number b) r (Some (number_mode p (operator.Is e) b)) (word_mode p e b) (good next) h (λ begins g. fell_number r next p (operator.Is e) b begins g) (λ no_ g. fell_word r next p e b g)
fell_literal r next p (operator.Compared c) b h =
    pick (begins_number b) r (Some (number_mode p (operator.Compared c) b)) None (good next) h (λ begins g. fell_number r next p (operator.Compared c) b begins g) (λ no_ g. bad stop.Refused next g)

fell_open : (most : ℕ) (r next : Reader) (c : call_type.Call) (b : ℕ) → expected most r (wants.Open c) b ≡ good next → Fell b next
fell_open most r next c b h =
    split (b == 40) (good (at r (mode.Expects (wants.Path c)))) (cond ((b == 33) && may_be_marked c) (good (at r (mode.Expects (wants.Bracket c)))) (wrong stop.Refused)) (good next) h
    (λ is e. fell (at r (mode.Expects (wants.Path c))) next b e (lowed b 40 is (omega arith)) refl tt tt)
    (λ no1 h2. split ((b == 33) && may_be_marked c) (good (at r (mode.Expects (wants.Bracket c)))) (wrong stop.Refused) (good next) h2
    (λ is e. let both = and_parts (b == 33) (may_be_marked c) is in fell (at r (mode.Expects (wants.Bracket c))) next b e (lowed b 33 both.0 (omega arith)) refl tt tt)
    (λ no2 e. bad stop.Refused next e))

-- where a term may be joined
fell_closed : (r next : Reader) (outer : List Frame) (b : ℕ) → b < 128 → closed r outer ≡ good next → Fell b next
fell_closed r next [] b low h = bad stop.Refused next h
fell_closed r next (g ∷ outer) b low h =
    fell (record r { frame = with_term g (bracketed (disjunction_of (all_branches r.frame))); outer = outer; mode = mode.Complete }) next b h low refl tt refl

fell_joint : (r next : Reader) (b : ℕ) → joint r b ≡ good next → Fell b next
fell_joint r next b h =
    split (b == 38) (good (at r (mode.Word fixed.And 1 (Wants wants.Operand)))) (cond (b == 124) (good (record r { frame = record r.frame { branches = all_branches r.frame; terms = [] }; mode = mode.Word fixed.Or 1 (Wants wants.Operand) })) (cond (b == 41) (closed r r.outer) (wrong stop.Refused))) (good next) h
    (λ is e. fell (at r (mode.Word fixed.And 1 (Wants wants.Operand))) next b e (lowed b 38 is (omega arith)) refl tt tt)
    (λ no1 h2. split (b == 124) (good (record r { frame = record r.frame { branches = all_branches r.frame; terms = [] }; mode = mode.Word fixed.Or 1 (Wants wants.Operand) })) (cond (b == 41) (closed r r.outer) (wrong stop.Refused)) (good next) h2
    (λ is e. fell (record r { frame = record r.frame { branches = all_branches r.frame; terms = [] }; mode = mode.Word fixed.Or 1 (Wants wants.Operand) }) next b e (lowed b 124 is (omega arith)) refl tt tt)
    (λ no2 h3. split (b == 41) (closed r r.outer) (wrong stop.Refused) (good next) h3
    (λ is e. fell_closed r next r.outer b (lowed b 41 is (omega arith)) e)
    (λ no3 e. bad stop.Refused next e)))

fell_behind_operand : (r next : Reader) (b : ℕ) → r.frame.negations ≡ 0 → behind_operand r b ≡ good next → Fell b next
fell_behind_operand r next b plain h =
    split (is_blank b) (good (at r (mode.Expects wants.Joint))) (joint r b) (good next) h
    (λ is e. fell (at r (mode.Expects wants.Joint)) next b e (blank_low b is) refl tt plain)
    (λ no_ e. fell_joint r next b e)

fell_operand : (most : ℕ) (r next : Reader) (b : ℕ) → operand most r b ≡ good next → Fell b next
fell_operand most r next b h =
    split (b == 33) (cond (nat_lt (levels_in r.frame) most) (good (record r { frame = record r.frame { negations = r.frame.negations + 1 }; mode = mode.Expects wants.Operand })) (wrong stop.Deep))
    (cond (b == 40) (cond (nat_lt (levels_in r.frame) most) (good (record r { frame = fresh (levels_in r.frame + 1); outer = r.frame ∷ r.outer; mode = mode.Expects wants.Operand })) (wrong stop.Deep)) (at_some r (operand_mode b))) (good next) h
    (λ is e. split (nat_lt (levels_in r.frame) most) (good (record r { frame = record r.frame { negations = r.frame.negations + 1 }; mode = mode.Expects wants.Operand })) (wrong stop.Deep) (good next) e
    (λ room g. fell (record r { frame = record r.frame { negations = r.frame.negations + 1 }; mode = mode.Expects wants.Operand }) next b g (lowed b 33 is (omega arith)) refl tt tt)
    (λ no_ g. bad stop.Deep next g))
    (λ no1 h2. split (b == 40) (cond (nat_lt (levels_in r.frame) most) (good (record r { frame = fresh (levels_in r.frame + 1); outer = r.frame ∷ r.outer; mode = mode.Expects wants.Operand })) (wrong stop.Deep)) (at_some r (operand_mode b)) (good next) h2
    (λ is e. split (nat_lt (levels_in r.frame) most) (good (record r { frame = fresh (levels_in r.frame + 1); outer = r.frame ∷ r.outer; mode = mode.Expects wants.Operand })) (wrong stop.Deep) (good next) e
    (λ room g. fell (record r { frame = fresh (levels_in r.frame + 1); outer = r.frame ∷ r.outer; mode = mode.Expects wants.Operand }) next b g (lowed b 40 is (omega arith)) refl tt tt)
    (λ no_ g. bad stop.Deep next g))
    (λ no2 h3. predicates h3))
  where
    predicates : at_some r (operand_mode b) ≡ good next → Fell b next
    predicates h3 =
        pick (b == 46) r (Some (mode.Path path_of.Compared place.Name [] [])) (cond (b == 101) (Some (mode.Word fixed.Exists 1 (Wants (wants.Open call.Exists)))) (cond (b == 99) (Some (mode.Word fixed.Contains 1 (Wants (wants.Open (call.Has search_for.Part))))) (cond (b == 109) (Some (mode.Word fixed.Match 1 (Wants (wants.Open (call.Has search_for.Pattern))))) None))) (good next) h3
        (λ is e. fell (at r (mode.Path path_of.Compared place.Name [] [])) next b e (lowed b 46 is (omega arith)) refl tt (omega arith))
        (λ no1 h4. pick (b == 101) r (Some (mode.Word fixed.Exists 1 (Wants (wants.Open call.Exists)))) (cond (b == 99) (Some (mode.Word fixed.Contains 1 (Wants (wants.Open (call.Has search_for.Part))))) (cond (b == 109) (Some (mode.Word fixed.Match 1 (Wants (wants.Open (call.Has search_for.Pattern))))) None)) (good next) h4
        (λ is e. fell (at r (mode.Word fixed.Exists 1 (Wants (wants.Open call.Exists)))) next b e (lowed b 101 is (omega arith)) refl tt tt)
        (λ no2 h5. pick (b == 99) r (Some (mode.Word fixed.Contains 1 (Wants (wants.Open (call.Has search_for.Part))))) (cond (b == 109) (Some (mode.Word fixed.Match 1 (Wants (wants.Open (call.Has search_for.Pattern))))) None) (good next) h5
        (λ is e. fell (at r (mode.Word fixed.Contains 1 (Wants (wants.Open (call.Has search_for.Part))))) next b e (lowed b 99 is (omega arith)) refl tt tt)
        (λ no3 h6. pick (b == 109) r (Some (mode.Word fixed.Match 1 (Wants (wants.Open (call.Has search_for.Pattern))))) None (good next) h6
        (λ is e. fell (at r (mode.Word fixed.Match 1 (Wants (wants.Open (call.Has search_for.Pattern))))) next b e (lowed b 109 is (omega arith)) refl tt tt)
        (λ no4 e. bad stop.Refused next e))))

-- an argument may be a pattern; else the reader holds nothing
data Outcome (e : Expected) (b : ℕ) (next : Reader) : Type 0 where
  plain : Fell b next → Outcome e b next
  marked : (p : List ByteString) → e ≡ wants.Argument search_for.Pattern p → b ≡ 114 → next.mode ≡ mode.Mark p → Fit next → Outcome e b next

came_argument : (most : ℕ) (r next : Reader) (s : Search) (p : List ByteString) (b : ℕ) → expected most r (wants.Argument s p) b ≡ good next → Outcome (wants.Argument s p) b next
came_argument most r next search_for.Part p b h =
    pick (b == 34) r (Some (mode.Text (text_of.Part p) false [])) None (good next) h
    (λ is e. plain (fell (at r (mode.Text (text_of.Part p) false [])) next b e (lowed b 34 is (omega arith)) refl tt tt)) (λ no_ e. bad stop.Refused next e)
came_argument most r next search_for.Pattern p b h =
    pick (b == 114) r (Some (mode.Mark p)) None (good next) h
    (λ is e. reach (at r (mode.Mark p)) next (λ x. Outcome (wants.Argument search_for.Pattern p) b x) e (marked p refl (eqb-true b 114 is) refl tt)) (λ no_ e. bad stop.Refused next e)

came : (most : ℕ) (r next : Reader) (e : Expected) (b : ℕ) → expected most r e b ≡ good next → Outcome e b next
came most r next wants.Operand b h = plain (fell_operand most r next b h)
came most r next (wants.Operator p) b h = plain (fell_operator r next p b h)
came most r next (wants.Literal p o) b h = plain (fell_literal r next p o b h)
came most r next (wants.Open c) b h = plain (fell_open most r next c b h)
came most r next (wants.Bracket c) b h =
    split (b == 40) (good (at r (mode.Expects (wants.Path c)))) (wrong stop.Refused) (good next) h
    (λ is e. plain (fell (at r (mode.Expects (wants.Path c))) next b e (lowed b 40 is (omega arith)) refl tt tt)) (λ no_ e. bad stop.Refused next e)
came most r next (wants.Path c) b h =
    split (b == 46) (good (at r (mode.Path (path_of.Called c) place.Name [] []))) (wrong stop.Refused) (good next) h
    (λ is e. plain (fell (at r (mode.Path (path_of.Called c) place.Name [] [])) next b e (lowed b 46 is (omega arith)) refl tt (omega arith))) (λ no_ e. bad stop.Refused next e)
came most r next (wants.Comma s p) b h =
    split (b == 44) (good (at r (mode.Expects (wants.Argument s p)))) (wrong stop.Refused) (good next) h
    (λ is e. plain (fell (at r (mode.Expects (wants.Argument s p))) next b e (lowed b 44 is (omega arith)) refl tt tt)) (λ no_ e. bad stop.Refused next e)
came most r next (wants.Argument s p) b h = came_argument most r next s p b h
came most r next (wants.Close q) b h =
    split (b == 41) (good (stated r q)) (wrong stop.Refused) (good next) h (λ is e. plain (fell (stated r q) next b e (lowed b 41 is (omega arith)) refl tt refl)) (λ no_ e. bad stop.Refused next e)
came most r next wants.Joint b h = plain (fell_joint r next b h)

came_behind : (most : ℕ) (r next : Reader) (e : Expected) (b : ℕ) → FitExpected r.frame e → behind_blanks most r e b ≡ good next → Outcome e b next
came_behind most r next e b fit h =
    split (is_blank b) (good (at r (mode.Expects e))) (expected most r e b) (good next) h
    (λ is g. plain (fell (at r (mode.Expects e)) next b g (blank_low b is) refl tt fit)) (λ no_ g. came most r next e b g)

dropped : (m : Mode) (b : ℕ) (next : Reader) → Fell b next → Leapt m b next
dropped m b next f = record { leap = drops f.low f.none f.plain; fit = f.fit }

outcome_leap : (e : Expected) (b : ℕ) (next : Reader) → Outcome e b next → Leapt (mode.Expects e) b next
outcome_leap e b next (plain f) = dropped (mode.Expects e) b next f
outcome_leap e b next (marked p is r114 n fit) = record { leap = marks p (ap mode.Expects is) r114 n; fit = fit }

outcome_fell : (e : Expected) (b : ℕ) (next : Reader) → ((p : List ByteString) → e ≡ wants.Argument search_for.Pattern p → ⊥) → Outcome e b next → Fell b next
outcome_fell e b next never (plain f) = f
outcome_fell e b next never (marked p is r114 n fit) = absurd (never p is)

-- ---- inside a token
all_low : (l : ByteString) → list_all (λ x. nat_lt x 128) l ≡ true → (i : ℕ) → get_or l i 0 < 128
all_low [] h i = omega arith
all_low (x ∷ l) h zero = ltb-true x 128 (and_parts (nat_lt x 128) (list_all (λ y. nat_lt y 128) l) h).0
all_low (x ∷ l) h (suc i) = all_low l (and_parts (nat_lt x 128) (list_all (λ y. nat_lt y 128) l) h).1 i

letters_low : (w : FixedWord) (i : ℕ) → get_or (letters_of w) i 0 < 128
letters_low fixed.Exists i = all_low (codes "exists") refl i
letters_low fixed.Contains i = all_low (codes "contains") refl i
letters_low fixed.Match i = all_low (codes "match") refl i
letters_low fixed.And i = all_low (codes "&&") refl i
letters_low fixed.Or i = all_low (codes "||") refl i
letters_low fixed.Equals i = all_low (codes "==") refl i
letters_low fixed.Differs i = all_low (codes "!=") refl i
letters_low fixed.True i = all_low (codes "true") refl i
letters_low fixed.False i = all_low (codes "false") refl i
letters_low fixed.Null i = all_low (codes "null") refl i

fell_arrived : (r next : Reader) (behind : Behind) (b : ℕ) → b < 128 → FitBehind r.frame behind → good (arrived r behind) ≡ good next → Fell b next
fell_arrived r next (Wants e) b low fit h = fell (at r (mode.Expects e)) next b h low refl tt fit
fell_arrived r next (Done q) b low fit h = fell (stated r q) next b h low refl tt refl

fell_letter : (r next : Reader) (w : FixedWord) (read : ℕ) (behind : Behind) (b : ℕ) (t : Bool) → b < 128 → FitBehind r.frame behind → good (cond t (arrived r behind) (at r (mode.Word w (read + 1) behind))) ≡ good next → Fell b next
fell_letter r next w read behind b true low fit h = fell_arrived r next behind b low fit h
fell_letter r next w read behind b false low fit h = fell (at r (mode.Word w (read + 1) behind)) next b h low refl tt fit

fell_in_word : (r next : Reader) (w : FixedWord) (read : ℕ) (behind : Behind) (b : ℕ) → FitBehind r.frame behind → in_word r w read behind b ≡ good next → Fell b next
fell_in_word r next w read behind b fit h =
    split (nat_lt read (length (letters_of w)) && (b == get_or (letters_of w) read 0)) (good (cond (read + 1 == length (letters_of w)) (arrived r behind) (at r (mode.Word w (read + 1) behind)))) (wrong stop.Refused) (good next) h
    (λ is e.
    let both = and_parts (nat_lt read (length (letters_of w))) (b == get_or (letters_of w) read 0) is in
    let low : b < 128 = omega (arith, eqb-true b (get_or (letters_of w) read 0) both.1, letters_low w read) in
    fell_letter r next w read behind b (read + 1 == length (letters_of w)) low fit e)
    (λ no_ e. bad stop.Refused next e)

-- only bytes of ASCII are passed in a path
passes_first : (q : PathMode) (b : ℕ) → name_move b ≡ move.Passes q → b < 128
passes_first q b e = go (b == 34) refl e
  where
    go : (t : Bool) → (b == 34) ≡ t → cond t (move.Passes place.Quoted) (cond (begins_name b) (move.Adds place.Bare) move.Refused) ≡ move.Passes q → b < 128
    go true h e = lowed b 34 h (omega arith)
    go false h e = split (begins_name b) (move.Adds place.Bare) move.Refused (move.Passes q) e (λ is x. absurd (cc)) (λ no_ x. absurd (cc))

passes_low : (p q : PathMode) (none : Bool) (b : ℕ) → move_of p none b ≡ move.Passes q → b < 128
passes_low place.Start q none b e = go (b == 46) refl e
  where
    go : (t : Bool) → (b == 46) ≡ t → cond t (move.Passes place.Name) (name_move b) ≡ move.Passes q → b < 128
    go true h e = lowed b 46 h (omega arith)
    go false h e = passes_first q b e
passes_low place.Name q none b e = passes_first q b e
passes_low place.Bare q none b e =
    split (goes_on b) (move.Adds place.Bare) (cond (b == 46) move.Ends move.Refused) (move.Passes q) e (λ is x. absurd (cc))
    (λ no_ x. split (b == 46) move.Ends move.Refused (move.Passes q) x (λ is y. absurd (cc)) (λ no2 y. absurd (cc)))
passes_low place.Quoted q none b e =
    split (b == 92) (move.Passes place.Escaped) (cond (b == 34) (cond none move.Refused (move.Passes place.Closed)) (move.Adds place.Quoted)) (move.Passes q) e
    (λ is x. lowed b 92 is (omega arith))
    (λ no_ x. split (b == 34) (cond none move.Refused (move.Passes place.Closed)) (move.Adds place.Quoted) (move.Passes q) x (λ is y. lowed b 34 is (omega arith)) (λ no2 y. absurd (cc)))
passes_low place.Escaped q none b e = split ((b == 34) || (b == 92)) (move.Adds place.Quoted) move.Refused (move.Passes q) e (λ is x. absurd (cc)) (λ no_ x. absurd (cc))
passes_low place.Closed q none b e = split (b == 46) move.Ends move.Refused (move.Passes q) e (λ is x. absurd (cc)) (λ no_ x. absurd (cc))

no_argument : (use_of : PathUse) (names p : List ByteString) → behind_path use_of names ≡ wants.Argument search_for.Pattern p → ⊥
no_argument path_of.Compared names p e = cc
no_argument (path_of.Called call.Exists) names p e = cc
no_argument (path_of.Called (call.Has s)) names p e = cc

fit_behind : (f : Frame) (use_of : PathUse) (p : List ByteString) → FitExpected f (behind_path use_of p)
fit_behind f path_of.Compared p = tt
fit_behind f (path_of.Called call.Exists) p = tt
fit_behind f (path_of.Called (call.Has s)) p = tt

leapt_path : (most : ℕ) (r next : Reader) (use_of : PathUse) (p : PathMode) (name : ByteString) (names : List ByteString) (b : ℕ) → length names ≤ 30 → (s : PathMove) → move_of p (length name == 0) b ≡ s
    → in_path most r use_of p name names b s ≡ good next → Leapt (mode.Path use_of p name names) b next
leapt_path most r next use_of p name names b few (move.Adds q) e h =
    reach (at r (mode.Path use_of q (name ++ b ∷ []) names)) next (λ x. Leapt (mode.Path use_of p name names) b x) h (record { leap = adds refl tt; fit = few })
leapt_path most r next use_of p name names b few (move.Passes q) e h =
    reach (at r (mode.Path use_of q name names)) next (λ x. Leapt (mode.Path use_of p name names) b x) h (record { leap = passes (passes_low p q (length name == 0) b e) refl tt; fit = few })
leapt_path most r next use_of p name names b few move.Ends e h =
    split (nat_lt (length names) 30) (good (at r (mode.Path use_of place.Name [] (names ++ name ∷ [])))) (wrong stop.Refused) (good next) h
    (λ is g. dropped (mode.Path use_of p name names) b next (fell (at r (mode.Path use_of place.Name [] (names ++ name ∷ []))) next b g (ends_low p (length name == 0) b e) refl tt
    (omega (arith, ltb-true (length names) 30 is, length-append names (name ∷ [])))))
    (λ no_ g. bad stop.Refused next g)
leapt_path most r next use_of p name names b few move.Refused e h =
    split (ends_path p && nat_lt (length names) 31 && nat_lt b 128) (behind_blanks most r (behind_path use_of (names ++ name ∷ [])) b) (wrong stop.Refused) (good next) h
    (λ is g. dropped (mode.Path use_of p name names) b next (outcome_fell (behind_path use_of (names ++ name ∷ [])) b next (λ q x. no_argument use_of (names ++ name ∷ []) q x)
    (came_behind most r next (behind_path use_of (names ++ name ∷ [])) b (fit_behind r.frame use_of (names ++ name ∷ [])) g)))
    (λ no_ g. bad stop.Refused next g)

record Stands (b e : ℕ) : Type 0 where
  letter : b < 128
  byte : e < 128

escape_low : (b e : ℕ) → escaped b ≡ Some e → Stands b e
escape_low b e h =
    split ((b == 34) || (b == 92)) (Some b) (cond (b == 110) (Some 10) (cond (b == 114) (Some 13) (cond (b == 116) (Some 9) None))) (Some e) h
    (λ is x.
    let low : b < 128 = either (or_cases (b == 34) (b == 92) is) in
    let same : b ≡ e = cc in
    record { letter = low; byte = subst (λ y. y < 128) same low })
    (λ no1 h2. split (b == 110) (Some 10) (cond (b == 114) (Some 13) (cond (b == 116) (Some 9) None)) (Some e) h2
    (λ is x. let same : 10 ≡ e = cc in record { letter = lowed b 110 is (omega arith); byte = omega arith })
    (λ no2 h3. split (b == 114) (Some 13) (cond (b == 116) (Some 9) None) (Some e) h3
    (λ is x. let same : 13 ≡ e = cc in record { letter = lowed b 114 is (omega arith); byte = omega arith })
    (λ no3 h4. split (b == 116) (Some 9) None (Some e) h4
    (λ is x. let same : 9 ≡ e = cc in record { letter = lowed b 116 is (omega arith); byte = omega arith })
    (λ no4 x. absurd (cc)))))
  where
    either : ((b == 34) ≡ true) ⊎ ((b == 92) ≡ true) → b < 128
    either (inl x) = lowed b 34 x (omega arith)
    either (inr x) = lowed b 92 x (omega arith)

leapt_escape : (r next : Reader) (use_of : TextUse) (held : ByteString) (b : ℕ) (o : Option ℕ) → escaped b ≡ o → with_escape r use_of held o ≡ good next → Leapt (mode.Text use_of true held) b next
leapt_escape r next use_of held b None e h = bad stop.Refused next h
leapt_escape r next use_of held b (Some x) e h =
    let s = escape_low b x e in
    reach (at r (mode.Text use_of false (held ++ x ∷ []))) next (λ y. Leapt (mode.Text use_of true held) b y) h (record { leap = stands s.letter x s.byte refl tt; fit = tt })

fell_behind_text : (r next : Reader) (use_of : TextUse) (held : ByteString) (b : ℕ) → b < 128 → good (behind_text r use_of held) ≡ good next → Fell b next
fell_behind_text r next (text_of.Literal p e) held b low h = fell (stated r (equal_to p e (literal.Words held))) next b h low refl tt refl
fell_behind_text r next (text_of.Part p) held b low h = fell (at r (mode.Expects (wants.Close (Contains p held)))) next b h low refl tt tt

leapt_text : (r next : Reader) (use_of : TextUse) (held : ByteString) (b : ℕ) → in_text r use_of false held b ≡ good next → Leapt (mode.Text use_of false held) b next
leapt_text r next use_of held b h =
    split (b == 34) (good (behind_text r use_of held)) (cond (b == 92) (good (at r (mode.Text use_of true held))) (good (at r (mode.Text use_of false (held ++ b ∷ []))))) (good next) h
    (λ is e. dropped (mode.Text use_of false held) b next (fell_behind_text r next use_of held b (lowed b 34 is (omega arith)) e))
    (λ no1 h2. split (b == 92) (good (at r (mode.Text use_of true held))) (good (at r (mode.Text use_of false (held ++ b ∷ [])))) (good next) h2
    (λ is e. reach (at r (mode.Text use_of true held)) next (λ y. Leapt (mode.Text use_of false held) b y) e (record { leap = passes (lowed b 92 is (omega arith)) refl tt; fit = tt }))
    (λ no2 e. reach (at r (mode.Text use_of false (held ++ b ∷ []))) next (λ y. Leapt (mode.Text use_of false held) b y) e (record { leap = adds refl tt; fit = tt })))

leapt_mark : (r next : Reader) (p : List ByteString) (b : ℕ) → cond (b == 39) (good (at r (mode.Pattern p []))) (wrong stop.Refused) ≡ good next → Leapt (mode.Mark p) b next
leapt_mark r next p b h =
    split (b == 39) (good (at r (mode.Pattern p []))) (wrong stop.Refused) (good next) h
    (λ is e. reach (at r (mode.Pattern p [])) next (λ y. Leapt (mode.Mark p) b y) e (record { leap = starts p refl (eqb-true b 39 is) refl; fit = tt }))
    (λ no_ e. bad stop.Refused next e)

leapt_pattern : (r next : Reader) (p : List ByteString) (held : ByteString) (b : ℕ) → in_pattern r p held b ≡ good next → Leapt (mode.Pattern p held) b next
leapt_pattern r next p held b h =
    split (b == 39) (good (at r (mode.Expects (wants.Close (sought r.keeps p held))))) (good (at r (mode.Pattern p (held ++ b ∷ [])))) (good next) h
    (λ is e. dropped (mode.Pattern p held) b next (fell (at r (mode.Expects (wants.Close (sought r.keeps p held)))) next b e (lowed b 39 is (omega arith)) refl tt tt))
    (λ no_ e. reach (at r (mode.Pattern p (held ++ b ∷ []))) next (λ y. Leapt (mode.Pattern p held) b y) e (record { leap = sought_more p held refl no_ refl; fit = tt }))

fell_minus : (most : ℕ) (r next : Reader) (p : List ByteString) (o : Operator) (b : ℕ) → moved most r (mode.Minus p o) b ≡ good next → Fell b next
fell_minus most r next p o b h =
    split (nat_le 49 b && nat_le b 57) (good (at r (mode.Whole p o true (b - 48)))) (wrong stop.Refused) (good next) h
    (λ is e.
    let both = and_parts (nat_le 49 b) (nat_le b 57) is in
    let low = leb-true 49 b both.0 in
    let high = leb-true b 57 both.1 in
    fell (at r (mode.Whole p o true (b - 48))) next b e (omega arith) refl tt ((λ x. omega arith), le-leb (b - 48) (2 ^ 63) (omega arith)))
    (λ no_ e. bad stop.Refused next e)

some_more : (size b : ℕ) → (size ≡ 0 → ⊥) → 0 < 10 * size + (b - 48)
some_more zero b f = absurd (f refl)
some_more (suc n) b f = omega arith

grown : (size b : ℕ) → not (size == 0) ≡ true → 0 < 10 * size + (b - 48)
grown size b h = positive (size == 0) refl h
  where
    positive : (t : Bool) → (size == 0) ≡ t → not t ≡ true → 0 < 10 * size + (b - 48)
    positive true e g = absurd (cc)
    positive false e g = some_more size b (λ z. eqb-false size 0 e z)

fell_whole : (r next : Reader) (p : List ByteString) (o : Operator) (negative : Bool) (size b : ℕ) → in_whole r p o negative size b ≡ good next → Fell b next
fell_whole r next p o negative size b h =
    split (is_digit b) (cond (not (size == 0) && fits negative (10 * size + (b - 48))) (good (at r (mode.Whole p o negative (10 * size + (b - 48))))) (wrong stop.Refused)) (behind_operand (stated r (with_number p o (signed negative size))) b) (good next) h
    (λ d g. split (not (size == 0) && fits negative (10 * size + (b - 48))) (good (at r (mode.Whole p o negative (10 * size + (b - 48))))) (wrong stop.Refused) (good next) g
    (λ is e.
    let both = and_parts (not (size == 0)) (fits negative (10 * size + (b - 48))) is in
    let high = digit_high b d in
    fell (at r (mode.Whole p o negative (10 * size + (b - 48)))) next b e (omega arith) refl tt ((λ x. grown size b both.0), both.1))
    (λ no_ e. bad stop.Refused next e))
    (λ no_ g. fell_behind_operand (stated r (with_number p o (signed negative size))) next b refl g)

no_pattern_literal : (q : List ByteString) (o : Operator) (p : List ByteString) → wants.Literal q o ≡ wants.Argument search_for.Pattern p → ⊥
no_pattern_literal q o p e = cc

fell_angle : (most : ℕ) (r next : Reader) (p : List ByteString) (c : Comparison) (b : ℕ) → moved most r (mode.Angle p c) b ≡ good next → Fell b next
fell_angle most r next p c b h =
    split (b == 61) (good (at r (mode.Expects (wants.Literal p (operator.Compared (or_equal c)))))) (behind_blanks most r (wants.Literal p (operator.Compared c)) b) (good next) h
    (λ is e. fell (at r (mode.Expects (wants.Literal p (operator.Compared (or_equal c))))) next b e (lowed b 61 is (omega arith)) refl tt tt)
    (λ no_ e. outcome_fell (wants.Literal p (operator.Compared c)) b next (λ q x. no_pattern_literal p (operator.Compared c) q x) (came_behind most r next (wants.Literal p (operator.Compared c)) b tt e))

leapt_at : (most : ℕ) (r next : Reader) (m : Mode) (b : ℕ) → FitAt r.frame m → moved most r m b ≡ good next → Leapt m b next
leapt_at most r next mode.Start b fit h =
    split (is_blank b) (wrong stop.Refused) (operand most r b) (good next) h (λ is e. bad stop.Refused next e) (λ no_ e. dropped mode.Start b next (fell_operand most r next b e))
leapt_at most r next (mode.Expects e) b fit h = outcome_leap e b next (came_behind most r next e b fit h)
leapt_at most r next mode.Complete b fit h = dropped mode.Complete b next (fell_behind_operand r next b fit h)
leapt_at most r next (mode.Word w read behind) b fit h = dropped (mode.Word w read behind) b next (fell_in_word r next w read behind b fit h)
leapt_at most r next (mode.Path use_of p name names) b fit h = leapt_path most r next use_of p name names b fit (move_of p (length name == 0) b) refl h
leapt_at most r next (mode.Text use_of false held) b fit h = leapt_text r next use_of held b h
leapt_at most r next (mode.Text use_of true held) b fit h = leapt_escape r next use_of held b (escaped b) refl h
leapt_at most r next (mode.Mark p) b fit h = leapt_mark r next p b h
leapt_at most r next (mode.Pattern p held) b fit h = leapt_pattern r next p held b h
leapt_at most r next (mode.Minus p o) b fit h = dropped (mode.Minus p o) b next (fell_minus most r next p o b h)
leapt_at most r next (mode.Whole p o negative size) b fit h = dropped (mode.Whole p o negative size) b next (fell_whole r next p o negative size b h)
leapt_at most r next (mode.Angle p c) b fit h = dropped (mode.Angle p c) b next (fell_angle most r next p c b h)

pub leapt : (most : ℕ) (r next : Reader) (b : ℕ) → Fit r → step most r b ≡ good next → Leapt r.mode b next
leapt most r next b fit h = leapt_at most r next r.mode b fit h

-- ---- what is held, with the rest of the text, is UTF-8
one_ascii : (e : ℕ) → e < 128 → IsUtf8 (e ∷ [])
one_ascii e low = IsUtf8-from_ascii (e ∷ []) below
  where
    below : (i : ℕ) → get_or (e ∷ []) i 0 < 128
    below zero = low
    below (suc i) = omega arith

leap_utf8 : (m n : Mode) (b : ℕ) (rest : ByteString) → Leap m b n → IsUtf8 (held_by m ++ b ∷ rest) → IsUtf8 (held_by n ++ rest)
leap_utf8 m n b rest (drops low none bare) u = subst (λ w. IsUtf8 (w ++ rest)) (sym none) (utf8-right (held_by m) rest b low u)
leap_utf8 m n b rest (passes low same bare) u =
    subst (λ w. IsUtf8 (w ++ rest)) (sym same) (IsUtf8-append (held_by m) rest (utf8-left (held_by m) rest b low u) (utf8-right (held_by m) rest b low u))
leap_utf8 m n b rest (adds same bare) u = subst (λ w. IsUtf8 (w ++ rest)) (sym same) (subst IsUtf8 (sym (append_assoc (held_by m) (b ∷ []) rest)) u)
leap_utf8 m n b rest (stands low e small same bare) u =
    subst (λ w. IsUtf8 (w ++ rest)) (sym same)
    (IsUtf8-append (held_by m ++ e ∷ []) rest (IsUtf8-append (held_by m) (e ∷ []) (utf8-left (held_by m) rest b low u) (one_ascii e small)) (utf8-right (held_by m) rest b low u))
leap_utf8 m n b rest (marks p there is114 to) u = subst (λ k. IsUtf8 (held_by k ++ rest)) (sym to) (utf8-right (held_by m) rest b (omega arith) u)
leap_utf8 m n b rest (starts p there is39 to) u = subst (λ k. IsUtf8 (held_by k ++ rest)) (sym to) (utf8-right (held_by m) rest b (omega arith) u)
leap_utf8 m n b rest (sought_more p held there no_ to) u =
    subst (λ k. IsUtf8 (held_by k ++ rest)) (sym to)
    (subst IsUtf8 (sym (append_assoc held (b ∷ []) rest)) (subst (λ k. IsUtf8 (held_by k ++ b ∷ rest)) there u))

pub step_utf8 : (most : ℕ) (r next : Reader) (b : ℕ) (rest : ByteString) → Fit r → step most r b ≡ good next → IsUtf8 (held_by r.mode ++ b ∷ rest) → IsUtf8 (held_by next.mode ++ rest)
step_utf8 most r next b rest fit h u = let l = leapt most r next b fit h in leap_utf8 r.mode next.mode b rest l.leap u
