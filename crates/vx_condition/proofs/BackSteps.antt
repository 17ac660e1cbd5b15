-- Each byte that a reader takes is one that the text has to go on with.
use Rattle.std.proofs.Common.{◌≡◌, ℕ, suc, ◌+◌, ◌-◌, ◌*◌, ◌^◌, ◌≤◌, Bool, true, false, cond, not, ◌==◌, ◌&&◌, List, [], ◌∷◌, ◌++◌, length, refl, ◌∙◌, arith, nat_le, leb-true, le-leb, inl, inr}
use Rattle.std.proofs.lemmas.Bool.{and_parts, and_from, eqb-false}
use Rattle.vx_value.specs.Texts.{ByteString}
use Rattle.vx_condition.specs.Trees.{Disjunction}
use Rattle.vx_condition.specs.Grammar.{is_blank, is_digit, number_behind}
use Rattle.vx_value.specs.Paths.{move_of}
use Rattle.vx_condition.specs.Moves.{at, stated, with_number, signed, fits, behind_path, expected, behind_blanks, or_equal}
use Rattle.vx_condition.specs.declared.comparison.Comparison.{Comparison}
use Rattle.vx_condition.specs.declared.predicate.Predicate.{Predicate}
use Rattle.vx_condition.specs.declared.operator.Operator.{Operator}
use Rattle.vx_condition.specs.declared.operator.Operator.TheVariants as operator
use Rattle.vx_condition.specs.declared.call.Call.TheVariants as call
use Rattle.vx_condition.specs.declared.expected.Expected.{Expected}
use Rattle.vx_condition.specs.declared.expected.Expected.TheVariants as wants
use Rattle.vx_condition.specs.declared.mode.PathUse.{PathUse}
use Rattle.vx_condition.specs.declared.mode.PathUse.TheVariants as path_of
use Rattle.vx_condition.specs.declared.mode.Mode.{Mode}
use Rattle.vx_condition.specs.declared.mode.Mode.TheVariants as mode
use Rattle.vx_condition.specs.declared.frame.Frame.{Frame}
use Rattle.vx_condition.specs.declared.reader.Reader.{Reader}
use Rattle.vx_condition.specs.declared.stop.Stop.TheVariants as stop
use Rattle.vx_condition.specs.Moves.{operand, behind_operand, in_whole, moved, step}
use Rattle.vx_condition.proofs.Rests.{Blanks, Measured, ExpectedRest, InMinus, InWhole, InAngle, Before, Joins, RestExpected, RestAt, Rest}
use Rattle.vx_condition.proofs.Backs.{good, wrong, split, land, bad, as_byte, before_blanks, no_blanks, via, same_text, Rest_of, back_operator, back_literal, back_open, back_path, back_bracket, back_comma, back_argument, back_close, digits_with, plain_with, zeroed}
use Rattle.vx_condition.proofs.BackTokens.{back_word, back_in_path, back_text, back_escape, back_pattern, back_mark}
use Rattle.vx_condition.proofs.BackTrees.{back_joint, blank_joins, back_behind_operand}
use Rattle.vx_condition.proofs.NumberRuns.{grows}
use Rattle.vx_condition.proofs.Fits.{FitExpected, FitAt, Fit}
use Rattle.vx_condition.proofs.BackMoves.{back_operand}

-- ---- where something is expected
abbrev Expecting : ℕ → Reader → Expected → Disjunction → ByteString → Type 0
Expecting most r wants.Operand all text = Before most r.keeps r.frame r.outer all text
Expecting most r wants.Joint all text = Joins most r.keeps r.frame r.outer all text
Expecting most r e all text = Rest_of most r (ExpectedRest r.keeps e) all text

unblanked : (most : ℕ) (r : Reader) (e : Expected) (all : Disjunction) (text : ByteString) → Expecting most r e all text → RestExpected most r.keeps r.frame r.outer e all text
unblanked most r wants.Operand all text x = no_blanks (Before most r.keeps r.frame r.outer all) text x
unblanked most r wants.Joint all text x = x
unblanked most r e all text x = same_text most r.keeps r.frame r.outer (ExpectedRest r.keeps e) (λ found. Blanks (ExpectedRest r.keeps e found)) all text (λ found t y. no_blanks (ExpectedRest r.keeps e found) t y) x

blanked : (most : ℕ) (r : Reader) (e : Expected) (b : ℕ) (all : Disjunction) (text : ByteString) → is_blank b ≡ true → RestExpected most r.keeps r.frame r.outer e all text → RestExpected most r.keeps r.frame r.outer e all (b ∷ text)
blanked most r wants.Operand b all text is x = before_blanks (Before most r.keeps r.frame r.outer all) b text is x
blanked most r wants.Joint b all text is x = blank_joins most r.keeps r.frame r.outer b all text is x
blanked most r e b all text is x =
    via most r.keeps r.frame r.outer (λ found. Blanks (ExpectedRest r.keeps e found)) (λ found. Blanks (ExpectedRest r.keeps e found)) all b text (λ found t y. before_blanks (ExpectedRest r.keeps e found) b t is y) x

back_expected : (most : ℕ) (r next : Reader) (e : Expected) (b : ℕ) (all : Disjunction) (text : ByteString) → FitExpected r.frame e → expected most r e b ≡ good next → Rest most next all text → Expecting most r e all (b ∷ text)
back_expected most r next wants.Operand b all text fit h rest = back_operand most r next b all text h rest
back_expected most r next (wants.Operator p) b all text fit h rest = back_operator most r next p b all text h rest
back_expected most r next (wants.Literal p o) b all text fit h rest = back_literal most r next p o b all text h rest
back_expected most r next (wants.Open c) b all text fit h rest = back_open most r next c b all text h rest
back_expected most r next (wants.Bracket c) b all text fit h rest = back_bracket most r next c b all text h rest
back_expected most r next (wants.Path c) b all text fit h rest = back_path most r next c b all text h rest
back_expected most r next (wants.Comma s p) b all text fit h rest = back_comma most r next s p b all text h rest
back_expected most r next (wants.Argument s p) b all text fit h rest = back_argument most r next s p b all text h rest
back_expected most r next (wants.Close q) b all text fit h rest = back_close most r next q b all text h rest
back_expected most r next wants.Joint b all text fit h rest = back_joint most r next b all text fit h rest

back_blanks : (most : ℕ) (r next : Reader) (e : Expected) (b : ℕ) (all : Disjunction) (text : ByteString) → FitExpected r.frame e → behind_blanks most r e b ≡ good next → Rest most next all text
    → RestExpected most r.keeps r.frame r.outer e all (b ∷ text)
back_blanks most r next e b all text fit h rest =
    split (is_blank b) (good (at r (mode.Expects e))) (expected most r e b) (good next) h
    (λ is g. blanked most r e b all text is (land (at r (mode.Expects e)) next (λ x. Rest most x all text) g rest))
    (λ no_ g. unblanked most r e all (b ∷ text) (back_expected most r next e b all text fit g rest))

fit_behind_path : (f : Frame) (use_of : PathUse) (p : List ByteString) → FitExpected f (behind_path use_of p)
fit_behind_path f path_of.Compared p = tt
fit_behind_path f (path_of.Called call.Exists) p = tt
fit_behind_path f (path_of.Called (call.Has s)) p = tt

-- ---- a number
not_false : (t : Bool) → not t ≡ true → t ≡ false
not_false true h = absurd (cc)
not_false false h = refl

digit_more : (p : List ByteString) (o : Operator) (negative : Bool) (size b : ℕ) (found : Predicate) (t : ByteString) → is_digit b ≡ true → not (size == 0) ≡ true
    → InWhole p o negative (10 * size + (b - 48)) found t → InWhole p o negative size found (b ∷ t)
digit_more p o negative size b found t d some iw =
    record { digits = digits_with b t d iw.digits; plain = λ e. absurd (eqb-false size 0 (not_false (size == 0) some) e); small = iw.small; same = iw.same }

back_whole : (most : ℕ) (r next : Reader) (p : List ByteString) (o : Operator) (negative : Bool) (size b : ℕ) (all : Disjunction) (text : ByteString) → fits negative size ≡ true → in_whole r p o negative size b ≡ good next → Rest most next all text
    → Rest_of most r (InWhole p o negative size) all (b ∷ text)
back_whole most r next p o negative size b all text fit h rest =
    split (is_digit b) (cond (not (size == 0) && fits negative (10 * size + (b - 48))) (good (at r (mode.Whole p o negative (10 * size + (b - 48))))) (wrong stop.Refused)) (behind_operand (stated r (with_number p o (signed negative size))) b) (good next) h
    (λ d g. split (not (size == 0) && fits negative (10 * size + (b - 48))) (good (at r (mode.Whole p o negative (10 * size + (b - 48))))) (wrong stop.Refused) (good next) g
    (λ is e.
    let both = and_parts (not (size == 0)) (fits negative (10 * size + (b - 48))) is in
    via most r.keeps r.frame r.outer (InWhole p o negative (10 * size + (b - 48))) (InWhole p o negative size) all b text (λ found t iw. digit_more p o negative size b found t d both.0 iw)
    (land (at r (mode.Whole p o negative (10 * size + (b - 48)))) next (λ x. Rest most x all text) e rest))
    (λ no_ e. bad stop.Refused next e))
    (λ no_ g. record {
      found = with_number p o (signed negative size);
      front = [];
      back = b ∷ text;
      rest = record { digits = refl; plain = λ e. refl; small = fit; same = refl };
      more = back_behind_operand most (stated r (with_number p o (signed negative size))) next b all text refl g rest;
      whole = refl;
    })

minus_more : (p : List ByteString) (o : Operator) (b : ℕ) (found : Predicate) (t : ByteString) → 49 ≤ b → b ≤ 57 → InWhole p o true (b - 48) found t → InMinus p o found (b ∷ t)
minus_more p o b found t low high iw =
    let some : b - 48 ≤ number_behind (b - 48) t = grows (b - 48) t in
    let size : number_behind (b - 48) t ≤ 2 ^ 63 = leb-true (number_behind (b - 48) t) (2 ^ 63) iw.small in
    let back : number_behind (b - 48) t ≡ suc (number_behind (b - 48) t - 1) = omega arith in
    record {
      less = number_behind (b - 48) t - 1;
      number = record {
        digits = digits_with b t (and_from (nat_le 48 b) (nat_le b 57) (le-leb 48 b (omega arith)) (le-leb b 57 high)) iw.digits;
        plain = plain_with b t (λ e. absurd (omega arith));
        value = zeroed b t ∙ back;
      };
      small = omega arith;
      same = iw.same;
    }

back_minus : (most : ℕ) (r next : Reader) (p : List ByteString) (o : Operator) (b : ℕ) (all : Disjunction) (text : ByteString) → moved most r (mode.Minus p o) b ≡ good next → Rest most next all text
    → Rest_of most r (InMinus p o) all (b ∷ text)
back_minus most r next p o b all text h rest =
    split (nat_le 49 b && nat_le b 57) (good (at r (mode.Whole p o true (b - 48)))) (wrong stop.Refused) (good next) h
    (λ is e.
    let both = and_parts (nat_le 49 b) (nat_le b 57) is in
    via most r.keeps r.frame r.outer (InWhole p o true (b - 48)) (InMinus p o) all b text (λ found t iw. minus_more p o b found t (leb-true 49 b both.0) (leb-true b 57 both.1) iw)
    (land (at r (mode.Whole p o true (b - 48))) next (λ x. Rest most x all text) e rest))
    (λ no_ e. bad stop.Refused next e)

back_angle : (most : ℕ) (r next : Reader) (p : List ByteString) (c : Comparison) (b : ℕ) (all : Disjunction) (text : ByteString) → moved most r (mode.Angle p c) b ≡ good next → Rest most next all text
    → RestAt most r.keeps r.frame r.outer (mode.Angle p c) all (b ∷ text)
back_angle most r next p c b all text h rest =
    split (b == 61) (good (at r (mode.Expects (wants.Literal p (operator.Compared (or_equal c)))))) (behind_blanks most r (wants.Literal p (operator.Compared c)) b) (good next) h
    (λ is e. inl (as_byte b 61 (λ x. Rest_of most r (InAngle p c) all (x ∷ text)) is
    (via most r.keeps r.frame r.outer (λ found. Blanks (Measured p (or_equal c) found)) (InAngle p c) all 61 text (λ found t bl. record { back = t; more = bl; whole = refl })
    (land (at r (mode.Expects (wants.Literal p (operator.Compared (or_equal c))))) next (λ x. Rest most x all text) e rest))))
    (λ no_ e. inr (back_blanks most r next (wants.Literal p (operator.Compared c)) b all text tt e rest))

-- ---- at each place
back_moved : (most : ℕ) (r next : Reader) (m : Mode) (b : ℕ) (all : Disjunction) (text : ByteString) → FitAt r.frame m → moved most r m b ≡ good next → Rest most next all text
    → RestAt most r.keeps r.frame r.outer m all (b ∷ text)
back_moved most r next mode.Start b all text fit h rest =
    split (is_blank b) (wrong stop.Refused) (operand most r b) (good next) h (λ is e. bad stop.Refused next e) (λ no_ e. back_operand most r next b all text e rest)
back_moved most r next (mode.Expects e) b all text fit h rest = back_blanks most r next e b all text fit h rest
back_moved most r next mode.Complete b all text fit h rest = back_behind_operand most r next b all text fit h rest
back_moved most r next (mode.Word w read behind) b all text fit h rest = back_word most r next w read behind b all text h rest
back_moved most r next (mode.Path use_of p name names) b all text fit h rest =
    back_in_path most r next use_of p name names b all text
    (λ n e x. back_blanks most r n (behind_path use_of (names ++ name ∷ [])) b all text (fit_behind_path r.frame use_of (names ++ name ∷ [])) e x)
    (move_of p (length name == 0) b) refl h rest
back_moved most r next (mode.Text use_of false held) b all text fit h rest = back_text most r next use_of held b all text h rest
back_moved most r next (mode.Text use_of true held) b all text fit h rest = back_escape most r next use_of held b all text h rest
back_moved most r next (mode.Mark p) b all text fit h rest = back_mark most r next p b all text h rest
back_moved most r next (mode.Pattern p held) b all text fit h rest = back_pattern most r next p held b all text h rest
back_moved most r next (mode.Minus p o) b all text fit h rest = back_minus most r next p o b all text h rest
back_moved most r next (mode.Whole p o negative size) b all text fit h rest = back_whole most r next p o negative size b all text fit.1 h rest
back_moved most r next (mode.Angle p c) b all text fit h rest = back_angle most r next p c b all text h rest

-- what completes a reader behind a byte completes it before the byte
pub back : (most : ℕ) (r next : Reader) (b : ℕ) (all : Disjunction) (text : ByteString) → Fit r → step most r b ≡ good next → Rest most next all text → Rest most r all (b ∷ text)
back most r next b all text fit h rest = back_moved most r next r.mode b all text fit h rest
