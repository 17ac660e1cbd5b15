-- Each JSON text leads to its value.
use Rattle.std.proofs.Common.{◌≡◌, ℕ, Bool, true, false, cond, ◌==◌, Some, List, [], ◌∷◌, ◌++◌, refl, sym, ◌∙◌, ap, append_assoc, codes}
use Rattle.std.proofs.lemmas.List.{append-nil}
use Rattle.std.specs.Fmt.{signed_decimal}
use Rattle.vx_value.specs.Texts.{ByteString}
use Rattle.vx_value.specs.Datum.{Datum, Items, Fields, NamedDatum, data_of, named_of}
use Rattle.vx_value.specs.Events.{with_field}
use Rattle.vx_json.specs.Strings.{pieces_bytes, pieces_text, string_text}
use Rattle.vx_json.specs.Grammar.{is_blank, are_blanks, Syntax, NullWord, TruthWord, WholeNumber, OtherNumber, String, EmptyArray, Array, EmptyObject, Object, Elements, NoElements, Element, Members, NoMembers, Member, spelling, elements_spelling, members_spelling, IsSyntax, AreElements, AreMembers, value_of, element_values, with_members, IsText}
use Rattle.vx_json.specs.Machine.{Frame, InItems, InFields, Mode, AtValue, AtFirstItem, AtFirstName, AtName, AtColon, AtEnd, InText, state, step, begin_move, carry, outcome, number_datum}
use Rattle.vx_json.specs.declared.text_place.TextPlace.TheVariants as place
use Rattle.vx_json.proofs.Choices.{both_true}
use Rattle.vx_json.proofs.NumberValues.{lossy-number, whole-datum, other-datum}
use Rattle.vx_json.proofs.NumberRuns.{follows, run-number, Begins, number-begins}
use Rattle.vx_json.proofs.WholeNumbers.{whole-parts}
use Rattle.vx_json.proofs.TextRuns.{run-text, run-name}
use Rattle.vx_json.proofs.Soundness.{join-members}

-- ---- blanks change nothing
pub blanks : (m : Mode) (st : List Frame) → ((b : ℕ) → is_blank b ≡ true → step m st b ≡ state m st) → (bl rest : ByteString) → are_blanks bl ≡ true → outcome m st (bl ++ rest) ≡ outcome m st rest
blanks m st f [] rest h = refl
blanks m st f (b ∷ bl) rest h =
    let k = both_true _ _ h in ap (λ o. carry o (λ n su. outcome n su (bl ++ rest))) (f b k.0) ∙ blanks m st f bl rest k.1

true-first : {A : Type 0} (t : Bool) (x y : A) → t ≡ true → cond t x y ≡ x
true-first true x y h = refl
true-first false x y h = cc

false-second : {A : Type 0} (t : Bool) (x y : A) → t ≡ false → cond t x y ≡ y
false-second true x y h = cc
false-second false x y h = refl

pub at-value : (st : List Frame) (bl rest : ByteString) → are_blanks bl ≡ true → outcome AtValue st (bl ++ rest) ≡ outcome AtValue st rest
at-value st bl rest h = blanks AtValue st (λ b k. true-first (is_blank b) _ _ k) bl rest h

at-first-item : (st : List Frame) (bl rest : ByteString) → are_blanks bl ≡ true → outcome AtFirstItem st (bl ++ rest) ≡ outcome AtFirstItem st rest
at-first-item st bl rest h = blanks AtFirstItem st (λ b k. true-first (is_blank b) _ _ k) bl rest h

at-first-name : (st : List Frame) (bl rest : ByteString) → are_blanks bl ≡ true → outcome AtFirstName st (bl ++ rest) ≡ outcome AtFirstName st rest
at-first-name st bl rest h = blanks AtFirstName st (λ b k. true-first (is_blank b) _ _ k) bl rest h

at-name : (fs : List NamedDatum) (st : List Frame) (bl rest : ByteString) → are_blanks bl ≡ true → outcome (AtName fs) st (bl ++ rest) ≡ outcome (AtName fs) st rest
at-name fs st bl rest h = blanks (AtName fs) st (λ b k. true-first (is_blank b) _ _ k) bl rest h

at-colon : (fs : List NamedDatum) (name : ByteString) (st : List Frame) (bl rest : ByteString) → are_blanks bl ≡ true → outcome (AtColon fs name) st (bl ++ rest) ≡ outcome (AtColon fs name) st rest
at-colon fs name st bl rest h = blanks (AtColon fs name) st (λ b k. true-first (is_blank b) _ _ k) bl rest h

pub at-end : (v : Datum) (st : List Frame) (bl rest : ByteString) → are_blanks bl ≡ true → outcome (AtEnd v) st (bl ++ rest) ≡ outcome (AtEnd v) st rest
at-end v st bl rest h = blanks (AtEnd v) st (λ b k. true-first (is_blank b) _ _ k) bl rest h

-- ---- what may follow a value
blank-follows : (b : ℕ) (w : ByteString) → is_blank b ≡ true → follows (b ∷ w) ≡ true
blank-follows b w h = rw h refl

pub follows-blanks : (bl rest : ByteString) → are_blanks bl ≡ true → follows rest ≡ true → follows (bl ++ rest) ≡ true
follows-blanks [] rest h k = k
follows-blanks (b ∷ bl) rest h k = blank-follows b (bl ++ rest) (both_true _ _ h).0

follows-elements : (es : Elements) (rest : ByteString) → follows (elements_spelling es ++ 93 ∷ rest) ≡ true
follows-elements NoElements rest = refl
follows-elements (Element b v c es) rest = refl

follows-members : (ms : Members) (rest : ByteString) → follows (members_spelling ms ++ 125 ∷ rest) ≡ true
follows-members NoMembers rest = refl
follows-members (Member b n c d v e ms) rest = refl

-- ---- a value begins with no blank and no bracket that closes
syntax-begins : (s : Syntax) → IsSyntax s → Begins (spelling s)
syntax-begins NullWord h = record { first = 110; behind = codes "ull"; spelled = refl; no_blank = refl; no_bracket = refl }
syntax-begins (TruthWord true) h = record { first = 116; behind = codes "rue"; spelled = refl; no_blank = refl; no_bracket = refl }
syntax-begins (TruthWord false) h = record { first = 102; behind = codes "alse"; spelled = refl; no_blank = refl; no_bracket = refl }
syntax-begins (WholeNumber z) h = number-begins (signed_decimal z) (whole-parts z h)
syntax-begins (OtherNumber w) h = number-begins w h.0
syntax-begins (String ps) h = record { first = 34; behind = pieces_text ps ++ 34 ∷ []; spelled = refl; no_blank = refl; no_bracket = refl }
syntax-begins (EmptyArray b) h = record { first = 91; behind = b ++ 93 ∷ []; spelled = refl; no_blank = refl; no_bracket = refl }
syntax-begins (Array b v c es) h = record { first = 91; behind = b ++ spelling v ++ c ++ elements_spelling es ++ 93 ∷ []; spelled = refl; no_blank = refl; no_bracket = refl }
syntax-begins (EmptyObject b) h = record { first = 123; behind = b ++ 125 ∷ []; spelled = refl; no_blank = refl; no_bracket = refl }
syntax-begins (Object b n c d v e ms) h = record { first = 123; behind = b ++ string_text n ++ c ++ 58 ∷ d ++ spelling v ++ e ++ members_spelling ms ++ 125 ∷ []; spelled = refl; no_blank = refl; no_bracket = refl }

-- so behind an opening bracket it begins the first value
first-item-at : (st : List Frame) (b : ℕ) (rest : ByteString) → is_blank b ≡ false → (b == 93) ≡ false → outcome AtFirstItem st (b ∷ rest) ≡ outcome AtValue (InItems [] ∷ st) (b ∷ rest)
first-item-at st b rest n k =
    ap (λ o. carry o (λ m su. outcome m su rest)) (false-second (is_blank b) _ _ n ∙ false-second (b == 93) _ _ k ∙ sym (false-second (is_blank b) (state AtValue (InItems [] ∷ st)) (begin_move (InItems [] ∷ st) b) n))

first-item : (s : Syntax) (st : List Frame) (rest : ByteString) → IsSyntax s → outcome AtFirstItem st (spelling s ++ rest) ≡ outcome AtValue (InItems [] ∷ st) (spelling s ++ rest)
first-item s st rest h =
    let b = syntax-begins s h in
    ap (λ w. outcome AtFirstItem st (w ++ rest)) b.spelled ∙ first-item-at st b.first (b.behind ++ rest) b.no_blank b.no_bracket
    ∙ ap (λ w. outcome AtValue (InItems [] ∷ st) (w ++ rest)) (sym b.spelled)

join-array : (a b c e m : ByteString) → (a ++ b ++ c ++ e ++ 93 ∷ []) ++ m ≡ a ++ (b ++ (c ++ (e ++ 93 ∷ m)))
join-array a b c e m = simp append_assoc

join-object : (a n b c v e ms m : ByteString) → (a ++ 34 ∷ (n ++ 34 ∷ []) ++ b ++ 58 ∷ c ++ v ++ e ++ ms ++ 125 ∷ []) ++ m ≡ a ++ 34 ∷ (n ++ 34 ∷ (b ++ 58 ∷ (c ++ (v ++ (e ++ (ms ++ 125 ∷ m))))))
join-object a n b c v e ms m =
    append_assoc (a ++ 34 ∷ (n ++ 34 ∷ []) ++ b ++ 58 ∷ c ++ v ++ e ++ ms) (125 ∷ []) m
    ∙ sym (join-members a n b c v e ms (125 ∷ m))
    ∙ ap (λ r. a ++ 34 ∷ (n ++ 34 ∷ (b ++ 58 ∷ r))) (tail-of c v e ms (125 ∷ m))
  where
    tail-of : (c v e ms m : ByteString) → c ++ v ++ (e ++ ms ++ m) ≡ c ++ (v ++ (e ++ (ms ++ m)))
    tail-of c v e ms m = simp append_assoc

elements-tail : (a b c e m : ByteString) → (a ++ b ++ c ++ e) ++ m ≡ a ++ (b ++ (c ++ (e ++ m)))
elements-tail a b c e m = simp append_assoc

members-tail : (a n b c v e ms m : ByteString) → (a ++ 34 ∷ (n ++ 34 ∷ []) ++ b ++ 58 ∷ c ++ v ++ e ++ ms) ++ m ≡ a ++ 34 ∷ (n ++ 34 ∷ (b ++ 58 ∷ (c ++ (v ++ (e ++ (ms ++ m))))))
members-tail a n b c v e ms m =
    sym (join-members a n b c v e ms m) ∙ ap (λ r. a ++ 34 ∷ (n ++ 34 ∷ (b ++ 58 ∷ r))) (tail-of c v e ms m)
  where
    tail-of : (c v e ms m : ByteString) → c ++ v ++ (e ++ ms ++ m) ≡ c ++ (v ++ (e ++ (ms ++ m)))
    tail-of c v e ms m = simp append_assoc

mutual
  -- ---- a value leads behind it
  pub run-value : (s : Syntax) (st : List Frame) (rest : ByteString) → IsSyntax s → follows rest ≡ true → outcome AtValue st (spelling s ++ rest) ≡ outcome (AtEnd (value_of s)) st rest
  run-value NullWord st rest h l = refl
  run-value (TruthWord true) st rest h l = refl
  run-value (TruthWord false) st rest h l = refl
  run-value (WholeNumber z) st rest h l =
      run-number st (signed_decimal z) rest (whole-parts z h) l
      ∙ ap (λ v. outcome (AtEnd v) st rest) (ap number_datum (lossy-number (signed_decimal z) (whole-parts z h)) ∙ whole-datum z h)
  run-value (OtherNumber w) st rest h l =
      run-number st w rest h.0 l ∙ ap (λ v. outcome (AtEnd v) st rest) (ap number_datum (lossy-number w h.0) ∙ other-datum w h.1)
  run-value (String ps) st rest h l = ap (λ r. outcome (InText place.Plain []) st r) (append_assoc (pieces_text ps) (34 ∷ []) rest) ∙ run-text ps st rest h
  run-value (EmptyArray b) st rest h l =
      ap (λ r. outcome AtFirstItem st r) (append_assoc b (93 ∷ []) rest) ∙ at-first-item st b (93 ∷ rest) h
  run-value (Array b v c es) st rest h l =
      let behind = c ++ (elements_spelling es ++ 93 ∷ rest) in
      ap (λ r. outcome AtFirstItem st r) (join-array b (spelling v) c (elements_spelling es) rest)
      ∙ at-first-item st b (spelling v ++ behind) h.0
      ∙ first-item v st behind h.1
      ∙ run-value v (InItems [] ∷ st) behind h.1 (follows-blanks c (elements_spelling es ++ 93 ∷ rest) h.2 (follows-elements es rest))
      ∙ at-end (value_of v) (InItems [] ∷ st) c (elements_spelling es ++ 93 ∷ rest) h.2
      ∙ run-elements es [] (value_of v) st rest h.3
  run-value (EmptyObject b) st rest h l =
      ap (λ r. outcome AtFirstName st r) (append_assoc b (125 ∷ []) rest) ∙ at-first-name st b (125 ∷ rest) h
  run-value (Object b n c d v e ms) st rest h l =
      let last = members_spelling ms ++ 125 ∷ rest in
      let frame = InFields [] (pieces_bytes n) ∷ st in
      ap (λ r. outcome AtFirstName st r) (join-object b (pieces_text n) c d (spelling v) e (members_spelling ms) rest)
      ∙ at-first-name st b (34 ∷ (pieces_text n ++ 34 ∷ (c ++ 58 ∷ (d ++ (spelling v ++ (e ++ last)))))) h.0
      ∙ run-name n [] st (c ++ 58 ∷ (d ++ (spelling v ++ (e ++ last)))) h.1
      ∙ at-colon [] (pieces_bytes n) st c (58 ∷ (d ++ (spelling v ++ (e ++ last)))) h.2
      ∙ at-value frame d (spelling v ++ (e ++ last)) h.3
      ∙ run-value v frame (e ++ last) h.4 (follows-blanks e last h.5 (follows-members ms rest))
      ∙ at-end (value_of v) frame e last h.5
      ∙ run-members ms [] (pieces_bytes n) (value_of v) st rest h.6

  -- the other values of an array lead behind it
  run-elements : (es : Elements) (ds : List Datum) (v : Datum) (st : List Frame) (rest : ByteString) → AreElements es → outcome (AtEnd v) (InItems ds ∷ st) (elements_spelling es ++ 93 ∷ rest) ≡ outcome (AtEnd (Items (data_of (ds ++ v ∷ element_values es)))) st rest
  run-elements NoElements ds v st rest h = refl
  run-elements (Element b u c es) ds v st rest h =
      let last = elements_spelling es ++ 93 ∷ rest in
      let frame = InItems (ds ++ v ∷ []) ∷ st in
      ap (λ r. outcome AtValue frame r) (elements-tail b (spelling u) c (elements_spelling es) (93 ∷ rest))
      ∙ at-value frame b (spelling u ++ (c ++ last)) h.0
      ∙ run-value u frame (c ++ last) h.1 (follows-blanks c last h.2 (follows-elements es rest))
      ∙ at-end (value_of u) frame c last h.2
      ∙ run-elements es (ds ++ v ∷ []) (value_of u) st rest h.3
      ∙ ap (λ x. outcome (AtEnd (Items (data_of x))) st rest) (append_assoc ds (v ∷ []) (value_of u ∷ element_values es))

  -- the other members of an object lead behind it
  run-members : (ms : Members) (fs : List NamedDatum) (name : ByteString) (v : Datum) (st : List Frame) (rest : ByteString) → AreMembers ms → outcome (AtEnd v) (InFields fs name ∷ st) (members_spelling ms ++ 125 ∷ rest) ≡ outcome (AtEnd (Fields (named_of (with_members (with_field fs name v) ms)))) st rest
  run-members NoMembers fs name v st rest h = refl
  run-members (Member b n c d u e ms) fs name v st rest h =
      let last = members_spelling ms ++ 125 ∷ rest in
      let fields = with_field fs name v in
      let frame = InFields fields (pieces_bytes n) ∷ st in
      ap (λ r. outcome (AtName fields) st r) (members-tail b (pieces_text n) c d (spelling u) e (members_spelling ms) (125 ∷ rest))
      ∙ at-name fields st b (34 ∷ (pieces_text n ++ 34 ∷ (c ++ 58 ∷ (d ++ (spelling u ++ (e ++ last)))))) h.0
      ∙ run-name n fields st (c ++ 58 ∷ (d ++ (spelling u ++ (e ++ last)))) h.1
      ∙ at-colon fields (pieces_bytes n) st c (58 ∷ (d ++ (spelling u ++ (e ++ last)))) h.2
      ∙ at-value frame d (spelling u ++ (e ++ last)) h.3
      ∙ run-value u frame (e ++ last) h.4 (follows-blanks e last h.5 (follows-members ms rest))
      ∙ at-end (value_of u) frame e last h.5
      ∙ run-members ms fields (pieces_bytes n) (value_of u) st rest h.6

-- ---- a text leads to its value
follows-all : (bl : ByteString) → are_blanks bl ≡ true → follows bl ≡ true
follows-all [] h = refl
follows-all (b ∷ bl) h = blank-follows b bl (both_true _ _ h).0

pub text-outcome : (bytes : ByteString) (d : Datum) → IsText bytes d → outcome AtValue [] bytes ≡ Some d
text-outcome bytes d t =
    ap (λ w. outcome AtValue [] w) (t.spelled ∙ append_assoc t.before (spelling t.syntax) t.behind)
    ∙ at-value [] t.before (spelling t.syntax ++ t.behind) t.blank_before
    ∙ run-value t.syntax [] t.behind t.is_syntax (follows-all t.behind t.blank_behind)
    ∙ ap (λ w. outcome (AtEnd (value_of t.syntax)) [] w) (sym (append-nil t.behind))
    ∙ at-end (value_of t.syntax) [] t.behind [] t.blank_behind
    ∙ ap Some (sym t.valued)
