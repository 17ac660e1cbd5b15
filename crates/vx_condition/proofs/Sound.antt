-- What a reader takes begins a condition, and what it has read at the end of a text is one.
use Rattle.std.proofs.Common.{◌≡◌, ℕ, max, ◌-◌, ◌≤◌, Bool, true, false, cond, Some, Result, Ok, Err, pos, negsuc, List, [], ◌∷◌, ◌++◌, length, drop, codes, refl, sym, ◌∙◌, ap, subst, append_assoc, append-nil, arith, inl, inr, length-append}
use Rattle.vx_value.specs.Texts.{ByteString, is_empty}
use Rattle.vx_value.specs.Paths.{carry, names_from}
use Rattle.vx_value.specs.declared.path_mode.PathMove.TheVariants as move
use Rattle.vx_condition.specs.Trees as tree
use Rattle.vx_condition.specs.Trees.{Disjunction}
use Rattle.vx_condition.specs.Grammar.{Then, Is, IsPathText, IsString, IsPatternText}
use Rattle.vx_condition.specs.Words.{letters_of}
use Rattle.vx_condition.specs.Moves.{at, equal_to, with_number, signed, fits, with_term, sought}
use Rattle.vx_condition.specs.declared.comparison.Comparison.{Comparison}
use Rattle.vx_condition.specs.declared.literal.Literal.TheVariants as literal
use Rattle.vx_condition.specs.declared.predicate.Predicate.{Predicate}
use Rattle.vx_condition.specs.declared.predicate.Predicate.TheVariants.{Compared, Exists, Contains}
use Rattle.vx_condition.specs.declared.operator.Operator.{Operator}
use Rattle.vx_condition.specs.declared.operator.Operator.TheVariants as operator
use Rattle.vx_condition.specs.declared.operator.Equality.TheVariants as equality
use Rattle.vx_condition.specs.declared.call.Call.TheVariants as call
use Rattle.vx_condition.specs.declared.call.Call as call_type
use Rattle.vx_condition.specs.declared.call.Search.{Search}
use Rattle.vx_condition.specs.declared.call.Search.TheVariants as search_for
use Rattle.vx_condition.specs.declared.fixed_word.FixedWord.TheVariants as fixed
use Rattle.vx_value.specs.declared.path_mode.PathMode.{PathMode}
use Rattle.vx_value.specs.declared.path_mode.PathMode.TheVariants as place
use Rattle.vx_condition.specs.declared.expected.Expected.{Expected}
use Rattle.vx_condition.specs.declared.expected.Expected.TheVariants as wants
use Rattle.vx_condition.specs.declared.mode.Behind.{Behind}
use Rattle.vx_condition.specs.declared.mode.Behind.TheVariants.{Wants, Done}
use Rattle.vx_condition.specs.declared.mode.PathUse.{PathUse}
use Rattle.vx_condition.specs.declared.mode.PathUse.TheVariants as path_of
use Rattle.vx_condition.specs.declared.mode.TextUse.{TextUse}
use Rattle.vx_condition.specs.declared.mode.TextUse.TheVariants as text_of
use Rattle.vx_condition.specs.declared.mode.Mode.{Mode}
use Rattle.vx_condition.specs.declared.mode.Mode.TheVariants as mode
use Rattle.vx_condition.specs.declared.frame.Frame.{Frame}
use Rattle.vx_condition.specs.declared.reader.Reader.{Reader}
use Rattle.vx_condition.specs.declared.stop.Stop.{Stop}
use Rattle.vx_condition.specs.Grammar.{IsDisjunctionText}
use Rattle.vx_condition.specs.Trees.{Term, negated, bracketed, Conjunction, no_term, term, no_branch, branch, negated_times, conjunction_of, disjunction_of}
use Rattle.vx_condition.specs.Conditions.{term_levels, conjunction_levels, disjunction_levels}
use Rattle.vx_condition.specs.Moves.{fresh, all_branches, step}
use Rattle.vx_condition.specs.Runs.{kept_disjunction}
use Rattle.vx_condition.proofs.Rests.{Blanks, Close, Argument, Equated, Measured, LiteralRest, Operated, BehindPath, Pathed, Bracket, Open, InPath, InText, InEscape, InPattern, InMark, InMinus, InWhole, all_with, After, Before, Joins, Finishes, RestExpected, RestBehind, RestAt, Rest}
use Rattle.vx_condition.proofs.Backs.{good, land, bad, no_blanks, token_then}
use Rattle.vx_condition.proofs.BackTrees.{conjunction_with, disjunction_with, back_joint}
use Rattle.vx_condition.proofs.Fits.{FitExpected, FitBehind, FitAt, Fit}
use Rattle.vx_condition.specs.Runs.{go_on, run, begun}
use Rattle.vx_condition.proofs.BackMoves.{back_operand}
use Rattle.vx_condition.specs.Takes.{whole_in, end_at}
use Rattle.vx_condition.proofs.BackMoves.{opened_all}
use Rattle.vx_condition.proofs.BackTrees.{none_more, close_all}
use Rattle.vx_condition.proofs.BackSteps.{back}
use Rattle.vx_condition.proofs.Leaps.{leapt, reach}

-- ---- one byte after another
pub record Went (s : Result Reader Stop) (f : Reader → Result Reader Stop) (last : Reader) : Type 0 where
  pub next : Reader
  pub one : s ≡ good next
  pub more : f next ≡ good last

pub went : (s : Result Reader Stop) (f : Reader → Result Reader Stop) (last : Reader) → go_on s f ≡ good last → Went s f last
went (Ok next) f last h = record { next = next; one = refl; more = h }
went (Err e) f last h = bad e last h

pub fit_run : (most : ℕ) (r last : Reader) (text : ByteString) → Fit r → run most r text ≡ good last → Fit last
fit_run most r last [] fit h = reach r last Fit h fit
fit_run most r last (b ∷ text) fit h =
    let w = went (step most r b) (λ next. run most next text) last h in
    let l = leapt most r w.next b fit w.one in
    fit_run most w.next last text l.fit w.more

pub rest_run : (most : ℕ) (r last : Reader) (text : ByteString) (all : Disjunction) (rest : ByteString) → Fit r → run most r text ≡ good last → Rest most last all rest → Rest most r all (text ++ rest)
rest_run most r last [] all rest fit h x = land r last (λ y. Rest most y all rest) h x
rest_run most r last (b ∷ text) all rest fit h x =
    let w = went (step most r b) (λ next. run most next text) last h in
    let l = leapt most r w.next b fit w.one in
    back most r w.next b all (text ++ rest) fit w.one (rest_run most w.next last text all rest l.fit w.more x)

-- ---- a whole condition
pub record Found (most : ℕ) (keeps : Bool) (all : Disjunction) (text : ByteString) : Type 0 where
  pub tree : Disjunction
  pub spelled : IsDisjunctionText tree text
  pub low : disjunction_levels tree ≤ most
  pub same : all ≡ kept_disjunction keeps tree

found_whole : (most : ℕ) (keeps : Bool) (all : Disjunction) (text : ByteString) → Before most keeps (fresh 0) [] all text → Found most keeps all text
found_whole most keeps all text before =
    let t = before.first in
    let e = before.more in
    record {
      tree = branch (term t e.terms) e.branches;
      spelled = subst (IsDisjunctionText (branch (term t e.terms) e.branches))
          (append_assoc before.front e.tails.front e.tails.back ∙ ap (λ u. before.front ++ u) (sym e.tails.whole) ∙ sym before.whole)
          (disjunction_with (term t e.terms) e.branches (before.front ++ e.tails.front) e.tails.back (conjunction_with t e.terms before.front e.tails.front before.spelled e.tails.terms) e.tails.branches);
      low = low_whole most (term_levels t) (conjunction_levels e.terms) (disjunction_levels e.branches) before.low e.tails.low_terms e.tails.low_branches;
      same = e.same ∙ opened_all keeps 0 t e.terms e.branches;
    }
  where
    low_whole : (most l m n : ℕ) → l ≤ most - 0 → m ≤ most - 0 → n ≤ most - 0 → max (max l m) n ≤ most
    low_whole most l m n a b c = omega arith

pub found_run : (most : ℕ) (keeps : Bool) (last : Reader) (text : ByteString) (all : Disjunction) (rest : ByteString) → run most (begun keeps) text ≡ good last → Rest most last all rest → Found most keeps all (text ++ rest)
found_run most keeps last text all rest h x = found_whole most keeps all (text ++ rest) (rest_run most (begun keeps) last text all rest tt h x)

-- ---- at the end of a text
ended_in : (most : ℕ) (keeps : Bool) (f : Frame) (outer : List Frame) (bs : List (List Term)) → whole_in f outer ≡ Some bs → After most keeps f outer (disjunction_of bs) []
ended_in most keeps f [] bs h =
    let same : all_branches f ≡ bs = cc in
    record { terms = no_term; branches = no_branch; tails = none_more most f.base; same = ap disjunction_of (sym same) ∙ close_all keeps f }
ended_in most keeps f (g ∷ outer) bs h = absurd (cc)

ended_at : (most : ℕ) (keeps : Bool) (f : Frame) (outer : List Frame) (m : Mode) (bs : List (List Term)) → FitAt f m → end_at f outer m ≡ Some bs → RestAt most keeps f outer m (disjunction_of bs) []
ended_at most keeps f outer mode.Complete bs fit h = ended_in most keeps f outer bs h
ended_at most keeps f outer (mode.Whole p o negative size) bs fit h =
    record {
      found = with_number p o (signed negative size);
      front = [];
      back = [];
      rest = record { digits = refl; plain = λ e. refl; small = fit.1; same = refl };
      more = ended_in most keeps (with_term f (tree.stated (with_number p o (signed negative size)))) outer bs h;
      whole = refl;
    }
ended_at most keeps f outer mode.Start bs fit h = absurd (cc)
ended_at most keeps f outer (mode.Expects e) bs fit h = absurd (cc)
ended_at most keeps f outer (mode.Word w read behind) bs fit h = absurd (cc)
ended_at most keeps f outer (mode.Path use_of p name names) bs fit h = absurd (cc)
ended_at most keeps f outer (mode.Text use_of t held) bs fit h = absurd (cc)
ended_at most keeps f outer (mode.Mark p) bs fit h = absurd (cc)
ended_at most keeps f outer (mode.Pattern p held) bs fit h = absurd (cc)
ended_at most keeps f outer (mode.Minus p o) bs fit h = absurd (cc)
ended_at most keeps f outer (mode.Angle p c) bs fit h = absurd (cc)

-- a text at whose end a reader has read a condition is one, with that tree
pub sound : (most : ℕ) (keeps : Bool) (last : Reader) (text : ByteString) (bs : List (List Term)) → run most (begun keeps) text ≡ good last → end_at last.frame last.outer last.mode ≡ Some bs
    → Found most keeps (disjunction_of bs) text
sound most keeps last text bs h e =
    let fit : Fit last = fit_run most (begun keeps) last text tt h in
    subst (Found most keeps (disjunction_of bs)) (append-nil text)
    (found_run most keeps last text (disjunction_of bs) [] h (ended_at most last.keeps last.frame last.outer last.mode bs fit e))

-- ---- something completes each reader
record Some_rest (Q : Disjunction → ByteString → Type 0) : Type 0 where
  all : Disjunction
  text : ByteString
  holds : Q all text

record Some_predicate (L : Predicate → ByteString → Type 0) : Type 0 where
  found : Predicate
  text : ByteString
  holds : L found text

some_after : (most : ℕ) (keeps : Bool) (f : Frame) (outer : List Frame) → Some_rest (After most keeps f outer)
some_after most keeps f [] = record { all = all_with keeps f no_term no_branch; text = []; holds = record { terms = no_term; branches = no_branch; tails = none_more most f.base; same = refl } }
some_after most keeps f (g ∷ outer) =
    let more = some_after most keeps (with_term g (bracketed (all_with keeps f no_term no_branch))) outer in
    record {
      all = more.all;
      text = 41 ∷ more.text;
      holds = record { terms = no_term; branches = no_branch; front = []; blanks = []; back = more.text; tails = none_more most f.base; blank = refl; more = more.holds; whole = refl };
    }

some_finish : (most : ℕ) (keeps : Bool) (f : Frame) (outer : List Frame) (L : Predicate → ByteString → Type 0) → Some_predicate L → Some_rest (Finishes most keeps f outer L)
some_finish most keeps f outer L p =
    let more = some_after most keeps (with_term f (tree.stated p.found)) outer in
    record { all = more.all; text = p.text ++ more.text; holds = record { found = p.found; front = p.text; back = more.text; rest = p.holds; more = more.holds; whole = refl } }

some_blanks : (L : Predicate → ByteString → Type 0) → Some_predicate L → Some_predicate (λ found. Blanks (L found))
some_blanks L p = record { found = p.found; text = p.text; holds = no_blanks (L p.found) p.text p.holds }

some_then : (First : ByteString → Type 0) (token : ByteString) (L : Predicate → ByteString → Type 0) → First token → Some_predicate L → Some_predicate (λ found. Then First (L found))
some_then First token L f p = record { found = p.found; text = token ++ p.text; holds = token_then First (L p.found) token p.text f (no_blanks (L p.found) p.text p.holds) }

some_close : (q : Predicate) → Some_predicate (Close q)
some_close q = record { found = q; text = codes ")"; holds = record { same = refl; written = refl } }

some_argument : (keeps : Bool) (s : Search) (p : List ByteString) → Some_predicate (Argument keeps s p)
some_argument keeps search_for.Part p =
    let c = some_then (IsString []) (34 ∷ 34 ∷ []) (Close (Contains p [])) (record { rest = 34 ∷ []; opened = refl; held = refl }) (some_close (Contains p [])) in
    record { found = c.found; text = c.text; holds = record { word = []; rest = c.holds } }
some_argument keeps search_for.Pattern p =
    let c = some_then (IsPatternText []) (codes "r''") (Close (sought keeps p [])) (record { bare = refl; written = refl }) (some_close (sought keeps p [])) in
    record { found = c.found; text = c.text; holds = record { word = []; rest = c.holds } }

some_comma : (keeps : Bool) (s : Search) (p : List ByteString) → Some_predicate (λ found. Then (Is (codes ",")) (Argument keeps s p found))
some_comma keeps s p = some_then (Is (codes ",")) (codes ",") (Argument keeps s p) refl (some_argument keeps s p)

some_measure : (p : List ByteString) (c : Comparison) → Some_predicate (Measured p c)
some_measure p c = record { found = Compared p c (pos 0); text = codes "0"; holds = record { number = pos 0; same = refl; written = (record { digits = refl; plain = refl; value = refl }, omega arith) } }

some_literal : (p : List ByteString) (o : Operator) → Some_predicate (LiteralRest p o)
some_literal p (operator.Is e) = record { found = equal_to p e literal.Null; text = codes "null"; holds = record { value = literal.Null; same = refl; written = refl } }
some_literal p (operator.Compared c) = some_measure p c

some_operator : (p : List ByteString) → Some_predicate (Operated p)
some_operator p =
    let l = some_then (Is (codes "==")) (codes "==") (Equated p equality.Equal) refl (some_literal p (operator.Is equality.Equal)) in
    record { found = l.found; text = l.text; holds = record { sign = operator.Is equality.Equal; rest = l.holds } }

some_behind_path : (keeps : Bool) (use_of : PathUse) (p : List ByteString) → Some_predicate (BehindPath keeps use_of p)
some_behind_path keeps path_of.Compared p = some_operator p
some_behind_path keeps (path_of.Called call.Exists) p = some_close (Exists p)
some_behind_path keeps (path_of.Called (call.Has s)) p = some_comma keeps s p

some_path : (keeps : Bool) (use_of : PathUse) → Some_predicate (Pathed keeps use_of)
some_path keeps use_of =
    let path : List ByteString = (97 ∷ []) ∷ [] in
    let l = some_then (IsPathText path) (46 ∷ 97 ∷ []) (BehindPath keeps use_of path) (record { rest = 97 ∷ []; dot = refl; names = refl; few = omega arith }) (some_behind_path keeps use_of path) in
    record { found = l.found; text = l.text; holds = record { path = path; rest = l.holds } }

some_bracket : (keeps : Bool) (c : call_type.Call) → Some_predicate (Bracket keeps c)
some_bracket keeps c = some_then (Is (codes "(")) (codes "(") (Pathed keeps (path_of.Called c)) refl (some_path keeps (path_of.Called c))

some_open : (keeps : Bool) (c : call_type.Call) → Some_predicate (Open keeps c)
some_open keeps call.Exists = let b = some_bracket keeps call.Exists in record { found = b.found; text = b.text; holds = b.holds }
some_open keeps (call.Has s) = let b = some_bracket keeps (call.Has s) in record { found = b.found; text = b.text; holds = inl b.holds }

-- ---- the same inside a token
not_empty : (name : ByteString) (b : ℕ) → is_empty (name ++ b ∷ []) ≡ false
not_empty [] b = refl
not_empty (c ∷ name) b = refl

record Some_name (p : PathMode) (name : ByteString) : Type 0 where
  front : ByteString
  other : ByteString
  named : names_from p name front ≡ Some (other ∷ [])

quote_ends : (name : ByteString) (b : ℕ) → names_from place.Quoted (name ++ b ∷ []) (34 ∷ []) ≡ Some ((name ++ b ∷ []) ∷ [])
quote_ends name b = ap (λ t. carry (cond t move.Refused (move.Passes place.Closed)) (name ++ b ∷ []) 34 (λ m n. names_from m n [])) (not_empty name b)

some_name : (p : PathMode) (name : ByteString) → Some_name p name
some_name place.Start name = record { front = 97 ∷ []; other = name ++ 97 ∷ []; named = refl }
some_name place.Name name = record { front = 97 ∷ []; other = name ++ 97 ∷ []; named = refl }
some_name place.Bare name = record { front = []; other = name; named = refl }
some_name place.Quoted name = record { front = 97 ∷ 34 ∷ []; other = name ++ 97 ∷ []; named = quote_ends name 97 }
some_name place.Escaped name = record { front = 34 ∷ 34 ∷ []; other = name ++ 34 ∷ []; named = quote_ends name 34 }
some_name place.Closed name = record { front = []; other = name; named = refl }

some_in_path : (keeps : Bool) (use_of : PathUse) (p : PathMode) (name : ByteString) (names : List ByteString) → length names ≤ 30 → Some_predicate (InPath keeps use_of p name names)
some_in_path keeps use_of p name names few =
    let n = some_name p name in
    let b = some_behind_path keeps use_of (names ++ n.other ∷ []) in
    record {
      found = b.found;
      text = n.front ++ b.text;
      holds = record {
        front = n.front;
        back = b.text;
        others = n.other ∷ [];
        named = n.named;
        few = omega (arith, few, length-append names (n.other ∷ []));
        more = no_blanks (BehindPath keeps use_of (names ++ n.other ∷ []) b.found) b.text b.holds;
        whole = refl;
      };
    }

some_in_text : (use_of : TextUse) (held : ByteString) → Some_predicate (InText use_of held)
some_in_text (text_of.Literal p e) held =
    record {
      found = equal_to p e (literal.Words (held ++ []));
      text = 34 ∷ [];
      holds = record { front = 34 ∷ []; back = []; word = []; spelled = refl; more = record { same = refl; none = refl }; whole = refl };
    }
some_in_text (text_of.Part p) held =
    let c = some_close (Contains p (held ++ [])) in
    record {
      found = c.found;
      text = 34 ∷ c.text;
      holds = record { front = 34 ∷ []; back = c.text; word = []; spelled = refl; more = no_blanks (Close (Contains p (held ++ [])) c.found) c.text c.holds; whole = refl };
    }

some_in_escape : (use_of : TextUse) (held : ByteString) → Some_predicate (InEscape use_of held)
some_in_escape use_of held =
    let t = some_in_text use_of (held ++ 10 ∷ []) in
    record { found = t.found; text = 110 ∷ t.text; holds = record { letter = 110; byte = 10; back = t.text; stands = refl; more = t.holds; whole = refl } }

some_in_pattern : (keeps : Bool) (p : List ByteString) (held : ByteString) → Some_predicate (InPattern keeps p held)
some_in_pattern keeps p held =
    let c = some_close (sought keeps p (held ++ [])) in
    record { found = c.found; text = 39 ∷ c.text; holds = record { front = []; back = c.text; bare = refl; more = no_blanks (Close (sought keeps p (held ++ [])) c.found) c.text c.holds; whole = refl } }

some_in_mark : (keeps : Bool) (p : List ByteString) → Some_predicate (InMark keeps p)
some_in_mark keeps p = let i = some_in_pattern keeps p [] in record { found = i.found; text = 39 ∷ i.text; holds = record { back = i.text; more = i.holds; whole = refl } }

some_in_minus : (p : List ByteString) (o : Operator) → Some_predicate (InMinus p o)
some_in_minus p o = record { found = with_number p o (negsuc 0); text = codes "1"; holds = record { less = 0; number = record { digits = refl; plain = refl; value = refl }; small = omega arith; same = refl } }

some_in_whole : (p : List ByteString) (o : Operator) (negative : Bool) (size : ℕ) → fits negative size ≡ true → Some_predicate (InWhole p o negative size)
some_in_whole p o negative size fit = record { found = with_number p o (signed negative size); text = []; holds = record { digits = refl; plain = λ e. refl; small = fit; same = refl } }

-- ---- the same where something is expected
some_before : (most : ℕ) (r : Reader) → Some_rest (Before most r.keeps r.frame r.outer)
some_before most r =
    let p = some_finish most r.keeps r.frame r.outer (InPath r.keeps path_of.Compared place.Name [] []) (some_in_path r.keeps path_of.Compared place.Name [] [] (omega arith)) in
    record { all = p.all; text = 46 ∷ p.text; holds = back_operand most r (at r (mode.Path path_of.Compared place.Name [] [])) 46 p.all p.text refl p.holds }

some_joins : (most : ℕ) (r : Reader) → r.frame.negations ≡ 0 → Some_rest (Joins most r.keeps r.frame r.outer)
some_joins most r plain =
    let b = some_before most r in
    record {
      all = b.all;
      text = 38 ∷ 38 ∷ b.text;
      holds = back_joint most r (at r (mode.Word fixed.And 1 (Wants wants.Operand))) 38 b.all (38 ∷ b.text) plain refl
          (record { back = b.text; more = no_blanks (Before most r.keeps r.frame r.outer b.all) b.text b.holds; whole = refl });
    }

some_expected : (most : ℕ) (r : Reader) (e : Expected) → FitExpected r.frame e → Some_rest (RestExpected most r.keeps r.frame r.outer e)
some_expected most r wants.Operand fit = let b = some_before most r in record { all = b.all; text = b.text; holds = no_blanks (Before most r.keeps r.frame r.outer b.all) b.text b.holds }
some_expected most r (wants.Operator p) fit = some_finish most r.keeps r.frame r.outer (λ found. Blanks (Operated p found)) (some_blanks (Operated p) (some_operator p))
some_expected most r (wants.Literal p o) fit = some_finish most r.keeps r.frame r.outer (λ found. Blanks (LiteralRest p o found)) (some_blanks (LiteralRest p o) (some_literal p o))
some_expected most r (wants.Open c) fit = some_finish most r.keeps r.frame r.outer (λ found. Blanks (Open r.keeps c found)) (some_blanks (Open r.keeps c) (some_open r.keeps c))
some_expected most r (wants.Bracket c) fit = some_finish most r.keeps r.frame r.outer (λ found. Blanks (Bracket r.keeps c found)) (some_blanks (Bracket r.keeps c) (some_bracket r.keeps c))
some_expected most r (wants.Path c) fit = some_finish most r.keeps r.frame r.outer (λ found. Blanks (Pathed r.keeps (path_of.Called c) found)) (some_blanks (Pathed r.keeps (path_of.Called c)) (some_path r.keeps (path_of.Called c)))
some_expected most r (wants.Comma s p) fit = some_finish most r.keeps r.frame r.outer (λ found. Blanks (Then (Is (codes ",")) (Argument r.keeps s p found))) (some_blanks (λ found. Then (Is (codes ",")) (Argument r.keeps s p found)) (some_comma r.keeps s p))
some_expected most r (wants.Argument s p) fit = some_finish most r.keeps r.frame r.outer (λ found. Blanks (Argument r.keeps s p found)) (some_blanks (Argument r.keeps s p) (some_argument r.keeps s p))
some_expected most r (wants.Close q) fit = some_finish most r.keeps r.frame r.outer (λ found. Blanks (Close q found)) (some_blanks (Close q) (some_close q))
some_expected most r wants.Joint fit = some_joins most r fit

some_behind : (most : ℕ) (r : Reader) (behind : Behind) → FitBehind r.frame behind → Some_rest (RestBehind most r.keeps r.frame r.outer behind)
some_behind most r (Wants e) fit = some_expected most r e fit
some_behind most r (Done q) fit = some_after most r.keeps (with_term r.frame (tree.stated q)) r.outer

some_at : (most : ℕ) (r : Reader) (m : Mode) → FitAt r.frame m → Some_rest (RestAt most r.keeps r.frame r.outer m)
some_at most r mode.Start fit = some_before most r
some_at most r (mode.Expects e) fit = some_expected most r e fit
some_at most r mode.Complete fit = some_after most r.keeps r.frame r.outer
some_at most r (mode.Word w read behind) fit =
    let b = some_behind most r behind fit in record { all = b.all; text = drop read (letters_of w) ++ b.text; holds = record { back = b.text; more = b.holds; whole = refl } }
some_at most r (mode.Path use_of p name names) fit = some_finish most r.keeps r.frame r.outer (InPath r.keeps use_of p name names) (some_in_path r.keeps use_of p name names fit)
some_at most r (mode.Text use_of false held) fit = some_finish most r.keeps r.frame r.outer (InText use_of held) (some_in_text use_of held)
some_at most r (mode.Text use_of true held) fit = some_finish most r.keeps r.frame r.outer (InEscape use_of held) (some_in_escape use_of held)
some_at most r (mode.Mark p) fit = some_finish most r.keeps r.frame r.outer (InMark r.keeps p) (some_in_mark r.keeps p)
some_at most r (mode.Pattern p held) fit = some_finish most r.keeps r.frame r.outer (InPattern r.keeps p held) (some_in_pattern r.keeps p held)
some_at most r (mode.Minus p o) fit = some_finish most r.keeps r.frame r.outer (InMinus p o) (some_in_minus p o)
some_at most r (mode.Whole p o negative size) fit = some_finish most r.keeps r.frame r.outer (InWhole p o negative size) (some_in_whole p o negative size fit.1)
some_at most r (mode.Angle p c) fit =
    let m = some_finish most r.keeps r.frame r.outer (λ found. Blanks (Measured p c found)) (some_blanks (Measured p c) (some_measure p c)) in
    record { all = m.all; text = m.text; holds = inr m.holds }

-- a text that a reader of so many levels takes begins a condition of so many levels
pub record Viable (most : ℕ) (front : ByteString) : Type 0 where
  pub rest : ByteString
  pub tree : Disjunction
  pub spelled : IsDisjunctionText tree (front ++ rest)
  pub low : disjunction_levels tree ≤ most

pub viable : (most : ℕ) (keeps : Bool) (last : Reader) (front : ByteString) → run most (begun keeps) front ≡ good last → Viable most front
viable most keeps last front h =
    let fit : Fit last = fit_run most (begun keeps) last front tt h in
    let s = some_at most last last.mode fit in
    let f = found_run most keeps last front s.all s.text h s.holds in
    record { rest = s.text; tree = f.tree; spelled = f.spelled; low = f.low }
