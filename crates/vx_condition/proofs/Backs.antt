-- What a byte takes away from what a text has to go on with: inside a predicate.
use Rattle.std.proofs.Common.{◌≡◌, ℕ, ◌+◌, ◌-◌, ◌*◌, ◌^◌, ◌≤◌, Bool, true, false, cond, not, ◌==◌, ◌&&◌, ◌||◌, Option, Some, None, Result, Ok, Err, ℤ, pos, negsuc, List, [], ◌∷◌, ◌++◌, drop, codes, refl, sym, ◌∙◌, ap, subst, append_assoc, append-nil, arith, nat_le, ltb-true, leb-true, eqb-true, inl, inr}
use Rattle.std.specs.List.{list_all}
use Rattle.std.proofs.lemmas.Bool.{and_parts, and_from}
use Rattle.vx_value.specs.Texts.{ByteString}
use Rattle.vx_condition.specs.Trees as tree
use Rattle.vx_condition.specs.Trees.{Disjunction}
use Rattle.vx_condition.specs.Grammar.{Then, Is, is_blank, is_digit, quoted, begins_well, number_behind, IsPathText, IsString, IsWhole, IsPatternText, sign_of}
use Rattle.vx_condition.specs.Words.{letters_of}
use Rattle.vx_condition.specs.Moves.{at, at_some, stated, equal_to, with_number, operator_mode, literal_mode, word_mode, number_mode, begins_number, with_term, expected, sought, or_equal, may_be_marked}
use Rattle.vx_condition.specs.declared.comparison.Comparison.{Comparison}
use Rattle.vx_condition.specs.declared.comparison.Comparison.TheVariants.{Less, Greater}
use Rattle.vx_condition.specs.declared.literal.Literal.TheVariants as literal
use Rattle.vx_condition.specs.declared.predicate.Predicate.{Predicate}
use Rattle.vx_condition.specs.declared.predicate.Predicate.TheVariants.{Contains}
use Rattle.vx_condition.specs.declared.operator.Operator.{Operator}
use Rattle.vx_condition.specs.declared.operator.Operator.TheVariants as operator
use Rattle.vx_condition.specs.declared.operator.Equality.{Equality}
use Rattle.vx_condition.specs.declared.operator.Equality.TheVariants as equality
use Rattle.vx_condition.specs.declared.call.Call.TheVariants as call
use Rattle.vx_condition.specs.declared.call.Call as call_type
use Rattle.vx_condition.specs.declared.call.Search.{Search}
use Rattle.vx_condition.specs.declared.call.Search.TheVariants as search_for
use Rattle.vx_condition.specs.declared.fixed_word.FixedWord.{FixedWord}
use Rattle.vx_condition.specs.declared.fixed_word.FixedWord.TheVariants as fixed
use Rattle.vx_value.specs.declared.path_mode.PathMode.TheVariants as place
use Rattle.vx_condition.specs.declared.expected.Expected.TheVariants as wants
use Rattle.vx_condition.specs.declared.mode.Behind.TheVariants.{Wants, Done}
use Rattle.vx_condition.specs.declared.mode.PathUse.{PathUse}
use Rattle.vx_condition.specs.declared.mode.PathUse.TheVariants as path_of
use Rattle.vx_condition.specs.declared.mode.TextUse.TheVariants as text_of
use Rattle.vx_condition.specs.declared.mode.Mode.{Mode}
use Rattle.vx_condition.specs.declared.mode.Mode.TheVariants as mode
use Rattle.vx_condition.specs.declared.frame.Frame.{Frame}
use Rattle.vx_condition.specs.declared.reader.Reader.{Reader}
use Rattle.vx_condition.specs.declared.stop.Stop.{Stop}
use Rattle.vx_condition.specs.declared.stop.Stop.TheVariants as stop
use Rattle.vx_condition.proofs.Rests.{Blanks, Close, Part, Sought, Argument, Equated, Measured, LiteralRest, sign_for, Operated, BehindPath, Pathed, Bracket, Open, InWord, InPath, InText, InMark, InMinus, InWhole, InAngle, After, Finishes, RestAt, Rest}

-- a reader that goes on
abbrev pub good : Reader → Result Reader Stop
good r = Ok r

abbrev pub wrong : Stop → Result Reader Stop
wrong e = Err e

-- a test that chooses
pub split : {X G : Type 0} (t : Bool) (x y z : X) → cond t x y ≡ z → (t ≡ true → x ≡ z → G) → (t ≡ false → y ≡ z → G) → G
split true x y z e f g = f refl e
split false x y z e f g = g refl e

pub pick : {G : Type 0} (t : Bool) (r : Reader) (x y : Option Mode) (v : Result Reader Stop) → at_some r (cond t x y) ≡ v → (t ≡ true → at_some r x ≡ v → G) → (t ≡ false → at_some r y ≡ v → G) → G
pick true r x y v e f g = f refl e
pick false r x y v e f g = g refl e

pub land : (a next : Reader) (P : Reader → Type 0) → good a ≡ good next → P next → P a
land a next P e p = let same : a ≡ next = cc in subst P (sym same) p

pub bad : {G : Type 0} (e : Stop) (next : Reader) → wrong e ≡ good next → G
bad e next h = absurd (cc)

pub as_byte : (b k : ℕ) (P : ℕ → Type 0) → (b == k) ≡ true → P k → P b
as_byte b k P h p = subst P (sym (eqb-true b k h)) p

-- ---- one byte before the rest
pub before_blanks : (More : ByteString → Type 0) (b : ℕ) (text : ByteString) → is_blank b ≡ true → Blanks More text → Blanks More (b ∷ text)
before_blanks More b text h bl =
    record { blanks = b ∷ bl.blanks; back = bl.back; blank = and_from (is_blank b) (list_all is_blank bl.blanks) h bl.blank; more = bl.more; whole = ap (λ t. b ∷ t) bl.whole }

pub no_blanks : (More : ByteString → Type 0) (text : ByteString) → More text → Blanks More text
no_blanks More text m = record { blanks = []; back = text; blank = refl; more = m; whole = refl }

pub token_then : (First More : ByteString → Type 0) (token text : ByteString) → First token → Blanks More text → Then First More (token ++ text)
token_then First More token text f bl =
    record { front = token; blanks = bl.blanks; back = bl.back; first = f; blank = bl.blank; more = bl.more; whole = ap (λ t. token ++ t) bl.whole }

pub via : (most : ℕ) (keeps : Bool) (f : Frame) (outer : List Frame) (L M : Predicate → ByteString → Type 0) (all : Disjunction) (b : ℕ) (text : ByteString)
    → ((found : Predicate) (t : ByteString) → L found t → M found (b ∷ t)) → Finishes most keeps f outer L all text → Finishes most keeps f outer M all (b ∷ text)
via most keeps f outer L M all b text go fin =
    record { found = fin.found; front = b ∷ fin.front; back = fin.back; rest = go fin.found fin.front fin.rest; more = fin.more; whole = ap (λ t. b ∷ t) fin.whole }

pub same_text : (most : ℕ) (keeps : Bool) (f : Frame) (outer : List Frame) (L M : Predicate → ByteString → Type 0) (all : Disjunction) (text : ByteString)
    → ((found : Predicate) (t : ByteString) → L found t → M found t) → Finishes most keeps f outer L all text → Finishes most keeps f outer M all text
same_text most keeps f outer L M all text go fin =
    record { found = fin.found; front = fin.front; back = fin.back; rest = go fin.found fin.front fin.rest; more = fin.more; whole = fin.whole }

-- behind a fixed word
pub via_word : (most : ℕ) (keeps : Bool) (f : Frame) (outer : List Frame) (L M : Predicate → ByteString → Type 0) (all : Disjunction) (w : FixedWord) (b : ℕ) (text : ByteString)
    → b ∷ drop 1 (letters_of w) ≡ letters_of w → ((found : Predicate) (t : ByteString) → L found t → M found (letters_of w ++ t))
    → InWord w 1 (Finishes most keeps f outer L all) text → Finishes most keeps f outer M all (b ∷ text)
via_word most keeps f outer L M all w b text begins go iw =
    record {
      found = iw.more.found;
      front = letters_of w ++ iw.more.front;
      back = iw.more.back;
      rest = go iw.more.found iw.more.front iw.more.rest;
      more = iw.more.more;
      whole = ap (λ t. b ∷ t) iw.whole ∙ ap (λ u. b ∷ (drop 1 (letters_of w) ++ u)) iw.more.whole ∙ ap (λ l. l ++ (iw.more.front ++ iw.more.back)) begins ∙ sym (append_assoc (letters_of w) iw.more.front iw.more.back);
    }

pub via_done : (most : ℕ) (keeps : Bool) (f : Frame) (outer : List Frame) (M : Predicate → ByteString → Type 0) (all : Disjunction) (w : FixedWord) (q : Predicate) (b : ℕ) (text : ByteString)
    → b ∷ drop 1 (letters_of w) ≡ letters_of w → M q (letters_of w)
    → InWord w 1 (After most keeps (with_term f (tree.stated q)) outer all) text → Finishes most keeps f outer M all (b ∷ text)
via_done most keeps f outer M all w q b text begins m iw =
    record {
      found = q;
      front = letters_of w;
      back = iw.back;
      rest = m;
      more = iw.more;
      whole = ap (λ t. b ∷ t) iw.whole ∙ ap (λ l. l ++ iw.back) begins;
    }

-- ---- an operator
signed_by : (p : List ByteString) (o : Operator) (found : Predicate) (t : ByteString) → Blanks (LiteralRest p o found) t → Operated p found (sign_for o ++ t)
signed_by p o found t bl = record { sign = o; rest = token_then (Is (sign_for o)) (LiteralRest p o found) (sign_for o) t refl bl }

angled : (p : List ByteString) (c : Comparison) (found : Predicate) (b : ℕ) (t : ByteString) → sign_of c ≡ b ∷ [] → sign_of (or_equal c) ≡ b ∷ 61 ∷ [] → InAngle p c found t → Operated p found (b ∷ t)
angled p c found b t one two ia =
    subst (Operated p found) (ap (λ s. s ++ ia.back) two ∙ ap (λ u. b ∷ u) (sym ia.whole)) (signed_by p (operator.Compared (or_equal c)) found ia.back ia.more)

plain_angled : (p : List ByteString) (c : Comparison) (found : Predicate) (b : ℕ) (t : ByteString) → sign_of c ≡ b ∷ [] → Blanks (Measured p c found) t → Operated p found (b ∷ t)
plain_angled p c found b t one bl = subst (Operated p found) (ap (λ s. s ++ t) one) (signed_by p (operator.Compared c) found t bl)

either_angled : (most : ℕ) (r : Reader) (p : List ByteString) (c : Comparison) (all : Disjunction) (b : ℕ) (text : ByteString) → sign_of c ≡ b ∷ [] → sign_of (or_equal c) ≡ b ∷ 61 ∷ []
    → Rest most (at r (mode.Angle p c)) all text → Finishes most r.keeps r.frame r.outer (Operated p) all (b ∷ text)
either_angled most r p c all b text one two (inl fin) = via most r.keeps r.frame r.outer (InAngle p c) (Operated p) all b text (λ found t ia. angled p c found b t one two ia) fin
either_angled most r p c all b text one two (inr fin) =
    via most r.keeps r.frame r.outer (λ found. Blanks (Measured p c found)) (Operated p) all b text (λ found t bl. plain_angled p c found b t one bl) fin

pub back_operator : (most : ℕ) (r next : Reader) (p : List ByteString) (b : ℕ) (all : Disjunction) (text : ByteString) → at_some r (operator_mode p b) ≡ good next → Rest most next all text
    → Finishes most r.keeps r.frame r.outer (Operated p) all (b ∷ text)
back_operator most r next p b all text h rest =
    pick (b == 61) r (Some (mode.Word fixed.Equals 1 (Wants (wants.Literal p (operator.Is equality.Equal))))) (cond (b == 33) (Some (mode.Word fixed.Differs 1 (Wants (wants.Literal p (operator.Is equality.Different))))) (cond (b == 60) (Some (mode.Angle p Less)) (cond (b == 62) (Some (mode.Angle p Greater)) None))) (good next) h
    (λ is e. as_byte b 61 (λ x. Finishes most r.keeps r.frame r.outer (Operated p) all (x ∷ text)) is
    (via_word most r.keeps r.frame r.outer (λ found. Blanks (Equated p equality.Equal found)) (Operated p) all fixed.Equals 61 text refl (λ found t bl. signed_by p (operator.Is equality.Equal) found t bl)
    (land (at r (mode.Word fixed.Equals 1 (Wants (wants.Literal p (operator.Is equality.Equal))))) next (λ x. Rest most x all text) e rest)))
    (λ no_ h2. pick (b == 33) r (Some (mode.Word fixed.Differs 1 (Wants (wants.Literal p (operator.Is equality.Different))))) (cond (b == 60) (Some (mode.Angle p Less)) (cond (b == 62) (Some (mode.Angle p Greater)) None)) (good next) h2
    (λ is e. as_byte b 33 (λ x. Finishes most r.keeps r.frame r.outer (Operated p) all (x ∷ text)) is
    (via_word most r.keeps r.frame r.outer (λ found. Blanks (Equated p equality.Different found)) (Operated p) all fixed.Differs 33 text refl (λ found t bl. signed_by p (operator.Is equality.Different) found t bl)
    (land (at r (mode.Word fixed.Differs 1 (Wants (wants.Literal p (operator.Is equality.Different))))) next (λ x. Rest most x all text) e rest)))
    (λ no2 h3. pick (b == 60) r (Some (mode.Angle p Less)) (cond (b == 62) (Some (mode.Angle p Greater)) None) (good next) h3
    (λ is e. as_byte b 60 (λ x. Finishes most r.keeps r.frame r.outer (Operated p) all (x ∷ text)) is
    (either_angled most r p Less all 60 text refl refl (land (at r (mode.Angle p Less)) next (λ x. Rest most x all text) e rest)))
    (λ no3 h4. pick (b == 62) r (Some (mode.Angle p Greater)) None (good next) h4
    (λ is e. as_byte b 62 (λ x. Finishes most r.keeps r.frame r.outer (Operated p) all (x ∷ text)) is
    (either_angled most r p Greater all 62 text refl refl (land (at r (mode.Angle p Greater)) next (λ x. Rest most x all text) e rest)))
    (λ no4 h5. bad stop.Refused next h5))))

-- ---- a literal
record Counted (p : List ByteString) (o : Operator) (found : Predicate) (text : ByteString) : Type 0 where
  number : ℤ
  same : found ≡ with_number p o number
  written : IsWhole number text

as_literal : (p : List ByteString) (o : Operator) (found : Predicate) (text : ByteString) → Counted p o found text → LiteralRest p o found text
as_literal p (operator.Is e) found text n = record { value = literal.Whole n.number; same = n.same; written = n.written }
as_literal p (operator.Compared c) found text n = record { number = n.number; same = n.same; written = n.written }

pub digits_with : (b : ℕ) (text : ByteString) → is_digit b ≡ true → list_all is_digit text ≡ true → list_all is_digit (b ∷ text) ≡ true
digits_with b text h all = and_from (is_digit b) (list_all is_digit text) h all

pub plain_with : (b : ℕ) (text : ByteString) → (b ≡ 48 → text ≡ []) → begins_well (b ∷ text) ≡ true
plain_with b [] h = refl
plain_with b (c ∷ text) h = go (b == 48) refl
  where
    go : (t : Bool) → (b == 48) ≡ t → not t ≡ true
    go true e = let empty : c ∷ text ≡ [] = h (eqb-true b 48 e) in absurd (cc)
    go false e = refl

pub zeroed : (b : ℕ) (text : ByteString) → number_behind 0 (b ∷ text) ≡ number_behind (b - 48) text
zeroed b text = let e : 10 * 0 + (b - 48) ≡ b - 48 = omega arith in ap (λ k. number_behind k text) e

digit_range : (b : ℕ) → is_digit b ≡ true → (48 ≤ b) × (b ≤ 57)
digit_range b h = let both = and_parts (nat_le 48 b) (nat_le b 57) h in (leb-true 48 b both.0, leb-true b 57 both.1)

counted : (p : List ByteString) (o : Operator) (found : Predicate) (b : ℕ) (t : ByteString) → is_digit b ≡ true → InWhole p o false (b - 48) found t → Counted p o found (b ∷ t)
counted p o found b t d iw =
    let low = digit_range b d in
    record {
      number = pos (number_behind (b - 48) t);
      same = iw.same;
      written = (
        record {
          digits = digits_with b t d iw.digits;
          plain = plain_with b t (λ e. iw.plain (omega (arith, e)));
          value = zeroed b t;
        },
        ltb-true (number_behind (b - 48) t) (2 ^ 63) iw.small,
      );
    }

negative_counted : (p : List ByteString) (o : Operator) (found : Predicate) (t : ByteString) → InMinus p o found t → Counted p o found (45 ∷ t)
negative_counted p o found t im =
    record { number = negsuc im.less; same = im.same; written = (record { rest = t; sign = refl; number = im.number }, im.small) }

numbered : (most : ℕ) (r : Reader) (p : List ByteString) (o : Operator) (all : Disjunction) (b : ℕ) (text : ByteString) (t : Bool) → (b == 45) ≡ t → begins_number b ≡ true
    → RestAt most r.keeps r.frame r.outer (cond t (mode.Minus p o) (mode.Whole p o false (b - 48))) all text
    → Finishes most r.keeps r.frame r.outer (LiteralRest p o) all (b ∷ text)
numbered most r p o all b text true is begins rest =
    as_byte b 45 (λ x. Finishes most r.keeps r.frame r.outer (LiteralRest p o) all (x ∷ text)) is
    (via most r.keeps r.frame r.outer (InMinus p o) (LiteralRest p o) all 45 text (λ found u im. as_literal p o found (45 ∷ u) (negative_counted p o found u im)) rest)
numbered most r p o all b text false no_ begins rest =
    let d : is_digit b ≡ true = ap (λ t. t || is_digit b) (sym no_) ∙ begins in
    via most r.keeps r.frame r.outer (InWhole p o false (b - 48)) (LiteralRest p o) all b text (λ found u iw. as_literal p o found (b ∷ u) (counted p o found b u d iw)) rest

number_back : (most : ℕ) (r next : Reader) (p : List ByteString) (o : Operator) (b : ℕ) (all : Disjunction) (text : ByteString) → begins_number b ≡ true
    → good (at r (number_mode p o b)) ≡ good next → Rest most next all text → Finishes most r.keeps r.frame r.outer (LiteralRest p o) all (b ∷ text)
number_back most r next p o b all text begins h rest =
    numbered most r p o all b text (b == 45) refl begins (land (at r (number_mode p o b)) next (λ x. Rest most x all text) h rest)

quoted_literal : (p : List ByteString) (e : Equality) (found : Predicate) (t : ByteString) → InText (text_of.Literal p e) [] found t → Equated p e found (34 ∷ t)
quoted_literal p e found t it =
    let whole : t ≡ it.front = it.whole ∙ ap (λ u. it.front ++ u) it.more.none ∙ append-nil it.front in
    record { value = literal.Words it.word; same = it.more.same; written = record { rest = t; opened = refl; held = ap quoted whole ∙ it.spelled } }

word_literal : (most : ℕ) (r next : Reader) (p : List ByteString) (e : Equality) (b : ℕ) (all : Disjunction) (text : ByteString) → at_some r (word_mode p e b) ≡ good next → Rest most next all text
    → Finishes most r.keeps r.frame r.outer (Equated p e) all (b ∷ text)
word_literal most r next p e b all text h rest =
    pick (b == 34) r (Some (mode.Text (text_of.Literal p e) false [])) (cond (b == 116) (Some (mode.Word fixed.True 1 (Done (equal_to p e (literal.Truth true))))) (cond (b == 102) (Some (mode.Word fixed.False 1 (Done (equal_to p e (literal.Truth false))))) (cond (b == 110) (Some (mode.Word fixed.Null 1 (Done (equal_to p e literal.Null)))) None))) (good next) h
    (λ is e1. as_byte b 34 (λ x. Finishes most r.keeps r.frame r.outer (Equated p e) all (x ∷ text)) is (via most r.keeps r.frame r.outer (InText (text_of.Literal p e) []) (Equated p e) all 34 text (λ found t it. quoted_literal p e found t it)
    (land (at r (mode.Text (text_of.Literal p e) false [])) next (λ x. Rest most x all text) e1 rest)))
    (λ no1 h2. pick (b == 116) r (Some (mode.Word fixed.True 1 (Done (equal_to p e (literal.Truth true))))) (cond (b == 102) (Some (mode.Word fixed.False 1 (Done (equal_to p e (literal.Truth false))))) (cond (b == 110) (Some (mode.Word fixed.Null 1 (Done (equal_to p e literal.Null)))) None)) (good next) h2
    (λ is e1. as_byte b 116 (λ x. Finishes most r.keeps r.frame r.outer (Equated p e) all (x ∷ text)) is (via_done most r.keeps r.frame r.outer (Equated p e) all fixed.True (equal_to p e (literal.Truth true)) 116 text refl (record { value = literal.Truth true; same = refl; written = refl })
    (land (at r (mode.Word fixed.True 1 (Done (equal_to p e (literal.Truth true))))) next (λ x. Rest most x all text) e1 rest)))
    (λ no2 h3. pick (b == 102) r (Some (mode.Word fixed.False 1 (Done (equal_to p e (literal.Truth false))))) (cond (b == 110) (Some (mode.Word fixed.Null 1 (Done (equal_to p e literal.Null)))) None) (good next) h3
    (λ is e1. as_byte b 102 (λ x. Finishes most r.keeps r.frame r.outer (Equated p e) all (x ∷ text)) is (via_done most r.keeps r.frame r.outer (Equated p e) all fixed.False (equal_to p e (literal.Truth false)) 102 text refl (record { value = literal.Truth false; same = refl; written = refl })
    (land (at r (mode.Word fixed.False 1 (Done (equal_to p e (literal.Truth false))))) next (λ x. Rest most x all text) e1 rest)))
    (λ no3 h4. pick (b == 110) r (Some (mode.Word fixed.Null 1 (Done (equal_to p e literal.Null)))) None (good next) h4
    (λ is e1. as_byte b 110 (λ x. Finishes most r.keeps r.frame r.outer (Equated p e) all (x ∷ text)) is (via_done most r.keeps r.frame r.outer (Equated p e) all fixed.Null (equal_to p e literal.Null) 110 text refl (record { value = literal.Null; same = refl; written = refl })
    (land (at r (mode.Word fixed.Null 1 (Done (equal_to p e literal.Null)))) next (λ x. Rest most x all text) e1 rest)))
    (λ no4 h5. bad stop.Refused next h5))))

pub back_literal : (most : ℕ) (r next : Reader) (p : List ByteString) (o : Operator) (b : ℕ) (all : Disjunction) (text : ByteString) → at_some r (literal_mode p o b) ≡ good next → Rest most next all text
    → Finishes most r.keeps r.frame r.outer (LiteralRest p o) all (b ∷ text)
back_literal most r next p (operator.Is e) b all text h rest =
    pick (begins_number b) r (Some (number_mode p (operator.Is e) b)) (word_mode p e b) (good next) h
    (λ begins e1. number_back most r next p (operator.Is e) b all text begins e1 rest)
    (λ no_ e1. word_literal most r next p e b all text e1 rest)
back_literal most r next p (operator.Compared c) b all text h rest =
    pick (begins_number b) r (Some (number_mode p (operator.Compared c) b)) None (good next) h
    (λ begins e1. number_back most r next p (operator.Compared c) b all text begins e1 rest)
    (λ no_ e1. bad stop.Refused next e1)

-- ---- a call
abbrev pub Rest_of : ℕ → Reader → (Predicate → ByteString → Type 0) → Disjunction → ByteString → Type 0
Rest_of most r L all text = Finishes most r.keeps r.frame r.outer L all text

pub open_bracket : (most : ℕ) (r next : Reader) (c : call_type.Call) (b : ℕ) (all : Disjunction) (text : ByteString) → (b == 40) ≡ true
    → good (at r (mode.Expects (wants.Path c))) ≡ good next → Rest most next all text → Rest_of most r (Bracket r.keeps c) all (b ∷ text)
open_bracket most r next c b all text is e rest =
    as_byte b 40 (λ x. Rest_of most r (Bracket r.keeps c) all (x ∷ text)) is
    (via most r.keeps r.frame r.outer (λ found. Blanks (Pathed r.keeps (path_of.Called c) found)) (Bracket r.keeps c) all 40 text
    (λ found t bl. token_then (Is (codes "(")) (Pathed r.keeps (path_of.Called c) found) (codes "(") t refl bl)
    (land (at r (mode.Expects (wants.Path c))) next (λ x. Rest most x all text) e rest))

opened : (keeps : Bool) (c : call_type.Call) (found : Predicate) (text : ByteString) → Bracket keeps c found text → Open keeps c found text
opened keeps call.Exists found text x = x
opened keeps (call.Has s) found text x = inl x

marked : (most : ℕ) (r next : Reader) (c : call_type.Call) (b : ℕ) (all : Disjunction) (text : ByteString) → ((b == 33) && may_be_marked c) ≡ true
    → good (at r (mode.Expects (wants.Bracket c))) ≡ good next → Rest most next all text → Rest_of most r (Open r.keeps c) all (b ∷ text)
marked most r next call.Exists b all text h e rest = let both = and_parts (b == 33) false h in absurd (cc (both.1))
marked most r next (call.Has s) b all text h e rest =
    let both = and_parts (b == 33) true h in
    as_byte b 33 (λ x. Rest_of most r (Open r.keeps (call.Has s)) all (x ∷ text)) both.0
    (via most r.keeps r.frame r.outer (λ found. Blanks (Bracket r.keeps (call.Has s) found)) (Open r.keeps (call.Has s)) all 33 text
    (λ found t bl. inr (token_then (Is (codes "!")) (Bracket r.keeps (call.Has s) found) (codes "!") t refl bl))
    (land (at r (mode.Expects (wants.Bracket (call.Has s)))) next (λ x. Rest most x all text) e rest))

pub back_open : (most : ℕ) (r next : Reader) (c : call_type.Call) (b : ℕ) (all : Disjunction) (text : ByteString) → expected most r (wants.Open c) b ≡ good next → Rest most next all text
    → Rest_of most r (Open r.keeps c) all (b ∷ text)
back_open most r next c b all text h rest =
    split (b == 40) (good (at r (mode.Expects (wants.Path c)))) (cond ((b == 33) && may_be_marked c) (good (at r (mode.Expects (wants.Bracket c)))) (wrong stop.Refused)) (good next) h
    (λ is e. same_text most r.keeps r.frame r.outer (Bracket r.keeps c) (Open r.keeps c) all (b ∷ text) (λ found t x. opened r.keeps c found t x) (open_bracket most r next c b all text is e rest))
    (λ no1 h2. split ((b == 33) && may_be_marked c) (good (at r (mode.Expects (wants.Bracket c)))) (wrong stop.Refused) (good next) h2
    (λ is e. marked most r next c b all text is e rest)
    (λ no2 e. bad stop.Refused next e))

-- a path that is whole, behind its dot
pub pathed : (keeps : Bool) (use_of : PathUse) (found : Predicate) (t : ByteString) → InPath keeps use_of place.Name [] [] found t → Pathed keeps use_of found (46 ∷ t)
pathed keeps use_of found t ip =
    record {
      path = ip.others;
      rest = subst (Then (IsPathText ip.others) (BehindPath keeps use_of ip.others found)) (ap (λ u. 46 ∷ u) (sym ip.whole))
          (token_then (IsPathText ip.others) (BehindPath keeps use_of ip.others found) (46 ∷ ip.front) ip.back (record { rest = ip.front; dot = refl; names = ip.named; few = ip.few }) ip.more);
    }

pub begin_path : (most : ℕ) (r next : Reader) (use_of : PathUse) (b : ℕ) (all : Disjunction) (text : ByteString) → (b == 46) ≡ true
    → good (at r (mode.Path use_of place.Name [] [])) ≡ good next → Rest most next all text → Rest_of most r (Pathed r.keeps use_of) all (b ∷ text)
begin_path most r next use_of b all text is e rest =
    as_byte b 46 (λ x. Rest_of most r (Pathed r.keeps use_of) all (x ∷ text)) is
    (via most r.keeps r.frame r.outer (InPath r.keeps use_of place.Name [] []) (Pathed r.keeps use_of) all 46 text (λ found t ip. pathed r.keeps use_of found t ip)
    (land (at r (mode.Path use_of place.Name [] [])) next (λ x. Rest most x all text) e rest))

pub back_path : (most : ℕ) (r next : Reader) (c : call_type.Call) (b : ℕ) (all : Disjunction) (text : ByteString) → expected most r (wants.Path c) b ≡ good next → Rest most next all text
    → Rest_of most r (Pathed r.keeps (path_of.Called c)) all (b ∷ text)
back_path most r next c b all text h rest =
    split (b == 46) (good (at r (mode.Path (path_of.Called c) place.Name [] []))) (wrong stop.Refused) (good next) h
    (λ is e. begin_path most r next (path_of.Called c) b all text is e rest) (λ no_ e. bad stop.Refused next e)

pub back_bracket : (most : ℕ) (r next : Reader) (c : call_type.Call) (b : ℕ) (all : Disjunction) (text : ByteString) → expected most r (wants.Bracket c) b ≡ good next → Rest most next all text
    → Rest_of most r (Bracket r.keeps c) all (b ∷ text)
back_bracket most r next c b all text h rest =
    split (b == 40) (good (at r (mode.Expects (wants.Path c)))) (wrong stop.Refused) (good next) h
    (λ is e. open_bracket most r next c b all text is e rest) (λ no_ e. bad stop.Refused next e)

pub back_comma : (most : ℕ) (r next : Reader) (s : Search) (p : List ByteString) (b : ℕ) (all : Disjunction) (text : ByteString) → expected most r (wants.Comma s p) b ≡ good next → Rest most next all text
    → Rest_of most r (λ found. Then (Is (codes ",")) (Argument r.keeps s p found)) all (b ∷ text)
back_comma most r next s p b all text h rest =
    split (b == 44) (good (at r (mode.Expects (wants.Argument s p)))) (wrong stop.Refused) (good next) h
    (λ is e. as_byte b 44 (λ x. Rest_of most r (λ found. Then (Is (codes ",")) (Argument r.keeps s p found)) all (x ∷ text)) is
    (via most r.keeps r.frame r.outer (λ found. Blanks (Argument r.keeps s p found)) (λ found. Then (Is (codes ",")) (Argument r.keeps s p found)) all 44 text
    (λ found t bl. token_then (Is (codes ",")) (Argument r.keeps s p found) (codes ",") t refl bl)
    (land (at r (mode.Expects (wants.Argument s p))) next (λ x. Rest most x all text) e rest)))
    (λ no_ e. bad stop.Refused next e)

parted : (p : List ByteString) (found : Predicate) (t : ByteString) → InText (text_of.Part p) [] found t → Part p found (34 ∷ t)
parted p found t it =
    record {
      word = it.word;
      rest = subst (Then (IsString it.word) (Close (Contains p it.word) found)) (ap (λ u. 34 ∷ u) (sym it.whole))
          (token_then (IsString it.word) (Close (Contains p it.word) found) (34 ∷ it.front) it.back (record { rest = it.front; opened = refl; held = it.spelled }) it.more);
    }

sought_by : (keeps : Bool) (p : List ByteString) (found : Predicate) (t : ByteString) → InMark keeps p found t → Sought keeps p found (114 ∷ t)
sought_by keeps p found t im =
    let ip = im.more in
    record {
      word = ip.front;
      rest = subst (Then (IsPatternText ip.front) (Close (sought keeps p ip.front) found))
          (ap (λ u. 114 ∷ 39 ∷ u) (append_assoc ip.front (39 ∷ []) ip.back ∙ sym ip.whole) ∙ ap (λ u. 114 ∷ u) (sym im.whole))
          (token_then (IsPatternText ip.front) (Close (sought keeps p ip.front) found) (114 ∷ 39 ∷ (ip.front ++ 39 ∷ [])) ip.back (record { bare = ap not ip.bare; written = refl }) ip.more);
    }

pub back_argument : (most : ℕ) (r next : Reader) (s : Search) (p : List ByteString) (b : ℕ) (all : Disjunction) (text : ByteString) → expected most r (wants.Argument s p) b ≡ good next → Rest most next all text
    → Rest_of most r (Argument r.keeps s p) all (b ∷ text)
back_argument most r next search_for.Part p b all text h rest =
    pick (b == 34) r (Some (mode.Text (text_of.Part p) false [])) None (good next) h
    (λ is e. as_byte b 34 (λ x. Rest_of most r (Part p) all (x ∷ text)) is
    (via most r.keeps r.frame r.outer (InText (text_of.Part p) []) (Part p) all 34 text (λ found t it. parted p found t it)
    (land (at r (mode.Text (text_of.Part p) false [])) next (λ x. Rest most x all text) e rest)))
    (λ no_ e. bad stop.Refused next e)
back_argument most r next search_for.Pattern p b all text h rest =
    pick (b == 114) r (Some (mode.Mark p)) None (good next) h
    (λ is e. as_byte b 114 (λ x. Rest_of most r (Sought r.keeps p) all (x ∷ text)) is
    (via most r.keeps r.frame r.outer (InMark r.keeps p) (Sought r.keeps p) all 114 text (λ found t im. sought_by r.keeps p found t im)
    (land (at r (mode.Mark p)) next (λ x. Rest most x all text) e rest)))
    (λ no_ e. bad stop.Refused next e)

pub back_close : (most : ℕ) (r next : Reader) (q : Predicate) (b : ℕ) (all : Disjunction) (text : ByteString) → expected most r (wants.Close q) b ≡ good next → Rest most next all text
    → Rest_of most r (Close q) all (b ∷ text)
back_close most r next q b all text h rest =
    split (b == 41) (good (stated r q)) (wrong stop.Refused) (good next) h
    (λ is e. as_byte b 41 (λ x. Rest_of most r (Close q) all (x ∷ text)) is
    (record { found = q; front = 41 ∷ []; back = text; rest = record { same = refl; written = refl }; more = land (stated r q) next (λ x. Rest most x all text) e rest; whole = refl }))
    (λ no_ e. bad stop.Refused next e)
