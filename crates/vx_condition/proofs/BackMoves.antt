-- What a byte takes away from what a text has to go on with: at each place of a reader.
use Rattle.std.proofs.Common.{◌≡◌, ℕ, suc, max, ◌+◌, ◌-◌, ◌<◌, ◌≤◌, Bool, cond, ◌==◌, Some, None, List, [], ◌∷◌, ◌++◌, codes, refl, sym, ◌∙◌, ap, subst, append_assoc, arith, nat_lt, ltb-true, add-one, inl, inr}
use Rattle.vx_value.specs.Texts.{ByteString}
use Rattle.vx_condition.specs.Trees as tree
use Rattle.vx_condition.specs.Trees.{Disjunction}
use Rattle.vx_condition.specs.Grammar.{Then, Is, IsPathText, IsString, IsWhole, IsPatternText, IsLiteralText, IsPredicateText, Arguments, Call, sign_of}
use Rattle.vx_condition.specs.Moves.{at, at_some, with_term}
use Rattle.vx_condition.specs.Runs.{kept}
use Rattle.vx_condition.specs.declared.predicate.Predicate.{Predicate}
use Rattle.vx_condition.specs.declared.predicate.Predicate.TheVariants.{Equal, Different, Compared, Exists, Contains, Matches}
use Rattle.vx_condition.specs.declared.operator.Operator.{Operator}
use Rattle.vx_condition.specs.declared.operator.Operator.TheVariants as operator
use Rattle.vx_condition.specs.declared.operator.Equality.TheVariants as equality
use Rattle.vx_condition.specs.declared.call.Call.TheVariants as call
use Rattle.vx_condition.specs.declared.call.Search.{Search}
use Rattle.vx_condition.specs.declared.call.Search.TheVariants as search_for
use Rattle.vx_condition.specs.declared.fixed_word.FixedWord.TheVariants as fixed
use Rattle.vx_value.specs.declared.path_mode.PathMode.TheVariants as place
use Rattle.vx_condition.specs.declared.expected.Expected.TheVariants as wants
use Rattle.vx_condition.specs.declared.mode.Behind.TheVariants.{Wants}
use Rattle.vx_condition.specs.declared.mode.PathUse.TheVariants as path_of
use Rattle.vx_condition.specs.declared.mode.Mode.TheVariants as mode
use Rattle.vx_condition.specs.declared.frame.Frame.{Frame}
use Rattle.vx_condition.specs.declared.reader.Reader.{Reader}
use Rattle.vx_condition.specs.declared.stop.Stop.TheVariants as stop
use Rattle.vx_condition.specs.Trees.{Term, negated, bracketed, Conjunction, no_term, term, no_branch, branch, negated_times, conjunction_of, disjunction_of}
use Rattle.vx_condition.specs.Conditions.{term_levels, conjunction_levels, disjunction_levels}
use Rattle.vx_condition.specs.Moves.{operand, operand_mode, fresh, levels_in}
use Rattle.vx_condition.specs.Runs.{kept_term, kept_conjunction, kept_disjunction}
use Rattle.vx_condition.proofs.TreeRuns.{one_more, conjunction_of-terms, disjunction_of-branches}
use Rattle.vx_condition.proofs.Rests.{Blanks, Close, Worded, Argument, Equated, Measured, LiteralRest, sign_for, Operated, Pathed, Bracket, Open, all_with, After, Before, Finishes, Rest}
use Rattle.vx_condition.proofs.Backs.{good, wrong, split, pick, land, bad, as_byte, token_then, via_word, same_text, Rest_of, begin_path}
use Rattle.vx_condition.proofs.BackTrees.{conjunction_with, disjunction_with}

-- ---- a predicate
record HasPredicate (keeps : Bool) (found : Predicate) (text : ByteString) : Type 0 where
  predicate : Predicate
  same : found ≡ kept keeps predicate
  spelled : IsPredicateText predicate text

with_more : (First More Other : ByteString → Type 0) (text : ByteString) (t : Then First More text) → Other t.back → Then First Other text
with_more First More Other text t other = record { front = t.front; blanks = t.blanks; back = t.back; first = t.first; blank = t.blank; more = other; whole = t.whole }

by_sign : (keeps : Bool) (p : List ByteString) (found : Predicate) (text : ByteString) (t : Then (IsPathText p) (Operated p found) text) (o : Operator) → Then (Is (sign_for o)) (LiteralRest p o found) t.back → HasPredicate keeps found text
by_sign keeps p found text t (operator.Is equality.Equal) u =
    let l : Equated p equality.Equal found u.back = u.more in
    record { predicate = Equal p l.value; same = l.same; spelled = with_more (IsPathText p) (Operated p found) (Then (Is (codes "==")) (IsLiteralText l.value)) text t (with_more (Is (codes "==")) (Equated p equality.Equal found) (IsLiteralText l.value) t.back u l.written) }
by_sign keeps p found text t (operator.Is equality.Different) u =
    let l : Equated p equality.Different found u.back = u.more in
    record { predicate = Different p l.value; same = l.same; spelled = with_more (IsPathText p) (Operated p found) (Then (Is (codes "!=")) (IsLiteralText l.value)) text t (with_more (Is (codes "!=")) (Equated p equality.Different found) (IsLiteralText l.value) t.back u l.written) }
by_sign keeps p found text t (operator.Compared c) u =
    let l : Measured p c found u.back = u.more in
    record { predicate = Compared p c l.number; same = l.same; spelled = with_more (IsPathText p) (Operated p found) (Then (Is (sign_of c)) (IsWhole l.number)) text t (with_more (Is (sign_of c)) (Measured p c found) (IsWhole l.number) t.back u l.written) }

path_predicate : (keeps : Bool) (found : Predicate) (text : ByteString) → Pathed keeps path_of.Compared found text → HasPredicate keeps found text
path_predicate keeps found text p = let o = p.rest.more in by_sign keeps p.path found text p.rest o.sign o.rest

exists_predicate : (keeps : Bool) (found : Predicate) (t : ByteString) → Blanks (Open keeps call.Exists found) t → HasPredicate keeps found (codes "exists" ++ t)
exists_predicate keeps found t bl =
    let b : Then (Is (codes "(")) (Pathed keeps (path_of.Called call.Exists) found) bl.back = bl.more in
    let p = b.more in
    let close = p.rest.more in
    record {
      predicate = Exists p.path;
      same = close.same;
      spelled = token_then (Is (codes "exists")) (Then (Is (codes "(")) (Then (IsPathText p.path) (Is (codes ")")))) (codes "exists") t refl
          (record {
            blanks = bl.blanks;
            back = bl.back;
            blank = bl.blank;
            whole = bl.whole;
            more = with_more (Is (codes "(")) (Pathed keeps (path_of.Called call.Exists) found) (Then (IsPathText p.path) (Is (codes ")"))) bl.back b
                (with_more (IsPathText p.path) (Close (Exists p.path) found) (Is (codes ")")) b.back p.rest close.written);
          });
    }

record Searched (keeps : Bool) (made : List ByteString → ByteString → Predicate) (IsWord : ByteString → ByteString → Type 0) (found : Predicate) (text : ByteString) : Type 0 where
  path : List ByteString
  word : ByteString
  same : found ≡ kept keeps (made path word)
  spelled : Arguments (IsPathText path) (IsWord word) text

-- what a search of either kind has in its brackets
abbrev HasWords : Bool → Search → (List ByteString → ByteString → Predicate) → (ByteString → ByteString → Type 0) → Type 0
HasWords keeps s made IsWord = (p : List ByteString) (found : Predicate) (text : ByteString) → Argument keeps s p found text → Worded IsWord (λ word. kept keeps (made p word)) found text

searched : (keeps : Bool) (s : Search) (made : List ByteString → ByteString → Predicate) (IsWord : ByteString → ByteString → Type 0) → HasWords keeps s made IsWord → (found : Predicate) (text : ByteString) → Bracket keeps (call.Has s) found text → Searched keeps made IsWord found text
searched keeps s made IsWord worded found text b =
    let p = b.more in
    let c : Then (Is (codes ",")) (Argument keeps s p.path found) p.rest.back = p.rest.more in
    let a = worded p.path found c.back c.more in
    let close = a.rest.more in
    record {
      path = p.path;
      word = a.word;
      same = close.same;
      spelled = with_more (Is (codes "(")) (Pathed keeps (path_of.Called (call.Has s)) found) (Then (IsPathText p.path) (Then (Is (codes ",")) (Then (IsWord a.word) (Is (codes ")"))))) text b
          (with_more (IsPathText p.path) (Then (Is (codes ",")) (Argument keeps s p.path found)) (Then (Is (codes ",")) (Then (IsWord a.word) (Is (codes ")")))) b.back p.rest
          (with_more (Is (codes ",")) (Argument keeps s p.path found) (Then (IsWord a.word) (Is (codes ")"))) p.rest.back c
          (with_more (IsWord a.word) (Close (kept keeps (made p.path a.word)) found) (Is (codes ")")) c.back a.rest close.written)));
    }

-- more of a text behind blanks
blanks_with : (More Other : ByteString → Type 0) (text : ByteString) (bl : Blanks More text) → Other bl.back → Blanks Other text
blanks_with More Other text bl other = record { blanks = bl.blanks; back = bl.back; blank = bl.blank; more = other; whole = bl.whole }

-- a search of either kind, with the name of its call
search_predicate : (keeps : Bool) (s : Search) (made : List ByteString → ByteString → Predicate) (IsWord : ByteString → ByteString → Type 0) (name : ByteString) → HasWords keeps s made IsWord
    → ((p : List ByteString) (word text : ByteString) → Call name (Arguments (IsPathText p) (IsWord word)) text → IsPredicateText (made p word) text)
    → (found : Predicate) (t : ByteString) (bl : Blanks (Open keeps (call.Has s) found) t) → Open keeps (call.Has s) found bl.back → HasPredicate keeps found (name ++ t)
search_predicate keeps s made IsWord name worded spelling found t bl (inl b) =
    let a = searched keeps s made IsWord worded found bl.back b in
    let arguments = Arguments (IsPathText a.path) (IsWord a.word) in
    record {
      predicate = made a.path a.word;
      same = a.same;
      spelled = spelling a.path a.word (name ++ t) (inl (token_then (Is name) arguments name t refl (blanks_with (Open keeps (call.Has s) found) arguments t bl a.spelled)));
    }
search_predicate keeps s made IsWord name worded spelling found t bl (inr m) =
    let a = searched keeps s made IsWord worded found m.back m.more in
    let arguments = Arguments (IsPathText a.path) (IsWord a.word) in
    record {
      predicate = made a.path a.word;
      same = a.same;
      spelled = spelling a.path a.word (name ++ t) (inr (token_then (Is name) (Then (Is (codes "!")) arguments) name t refl
          (blanks_with (Open keeps (call.Has s) found) (Then (Is (codes "!")) arguments) t bl (with_more (Is (codes "!")) (Bracket keeps (call.Has s) found) arguments bl.back m a.spelled))));
    }

-- a predicate is a term
stated_term : (most : ℕ) (keeps : Bool) (f : Frame) (outer : List Frame) (all : Disjunction) (text : ByteString) → Finishes most keeps f outer (HasPredicate keeps) all text → Before most keeps f outer all text
stated_term most keeps f outer all text fin =
    record {
      first = tree.stated fin.rest.predicate;
      front = fin.front;
      back = fin.back;
      spelled = fin.rest.spelled;
      low = omega arith;
      more = subst (λ q. After most keeps (with_term f (tree.stated q)) outer all fin.back) fin.rest.same fin.more;
      whole = fin.whole;
    }

-- ---- where a level is opened
-- a frame behind one `!` more
abbrev pub marked : Frame → Frame
marked f = record f { negations = f.negations + 1 }

marked_with : (f : Frame) (t : Term) → with_term (marked f) t ≡ with_term f (negated t)
marked_with f t = ap (λ u. record f { terms = f.terms ++ u ∷ []; negations = 0 }) (ap (λ n. negated_times n t) (add-one f.negations) ∙ one_more f.negations t)

low_marked : (most base n l : ℕ) → base + n < most → l ≤ most - (base + (n + 1)) → suc l ≤ most - (base + n)
low_marked most base n l h g = omega arith

back_marked : (most : ℕ) (keeps : Bool) (f : Frame) (outer : List Frame) (all : Disjunction) (text : ByteString) → levels_in f < most → Blanks (Before most keeps (marked f) outer all) text → Before most keeps f outer all (33 ∷ text)
back_marked most keeps f outer all text room bl =
    let before = bl.more in
    record {
      first = negated before.first;
      front = 33 ∷ (bl.blanks ++ before.front);
      back = before.back;
      spelled = record { front = codes "!"; blanks = bl.blanks; back = before.front; first = refl; blank = bl.blank; more = before.spelled; whole = refl };
      low = low_marked most f.base f.negations (term_levels before.first) room before.low;
      more = subst (λ g. After most keeps g outer all before.back) (marked_with f (kept_term keeps before.first)) before.more;
      whole = ap (λ u. 33 ∷ u) (bl.whole ∙ ap (λ u. bl.blanks ++ u) before.whole ∙ sym (append_assoc bl.blanks before.front before.back));
    }

pub opened_all : (keeps : Bool) (base : ℕ) (t : Term) (ts : Conjunction) (cs : Disjunction)
    → all_with keeps (with_term (fresh base) (kept_term keeps t)) ts cs ≡ kept_disjunction keeps (branch (term t ts) cs)
opened_all keeps base t ts cs = λ i. branch (term (kept_term keeps t) (conjunction_of-terms (kept_conjunction keeps ts) i)) (disjunction_of-branches (kept_disjunction keeps cs) i)

low_opened : (most here l m n : ℕ) → here < most → l ≤ most - (here + 1 + 0) → m ≤ most - (here + 1) → n ≤ most - (here + 1) → suc (max (max l m) n) ≤ most - here
low_opened most here l m n room a b c = omega arith

opened_text : (bl front x y blanks back : ByteString) → bl ++ (front ++ ((x ++ y) ++ (blanks ++ 41 ∷ back))) ≡ (bl ++ (((front ++ x) ++ y) ++ (blanks ++ 41 ∷ []))) ++ back
opened_text bl front x y blanks back = simp append_assoc

back_opened : (most : ℕ) (keeps : Bool) (f : Frame) (outer : List Frame) (all : Disjunction) (text : ByteString) → levels_in f < most
    → Blanks (Before most keeps (fresh (levels_in f + 1)) (f ∷ outer) all) text → Before most keeps f outer all (40 ∷ text)
back_opened most keeps f outer all text room bl =
    let before = bl.more in
    let t = before.first in
    let c = before.more in
    let inside = (before.front ++ c.tails.front) ++ c.tails.back in
    record {
      first = bracketed (branch (term t c.terms) c.branches);
      front = 40 ∷ (bl.blanks ++ (inside ++ (c.blanks ++ 41 ∷ [])));
      back = c.back;
      spelled = record {
        front = codes "(";
        blanks = bl.blanks;
        back = inside ++ (c.blanks ++ 41 ∷ []);
        first = refl;
        blank = bl.blank;
        more = record {
          front = inside;
          blanks = c.blanks;
          back = 41 ∷ [];
          first = disjunction_with (term t c.terms) c.branches (before.front ++ c.tails.front) c.tails.back (conjunction_with t c.terms before.front c.tails.front before.spelled c.tails.terms) c.tails.branches;
          blank = c.blank;
          more = refl;
          whole = refl;
        };
        whole = refl;
      };
      low = low_opened most (levels_in f) (term_levels t) (conjunction_levels c.terms) (disjunction_levels c.branches) room before.low c.tails.low_terms c.tails.low_branches;
      more = subst (λ d. After most keeps (with_term f (bracketed d)) outer all c.back) (opened_all keeps (levels_in f + 1) t c.terms c.branches) c.more;
      whole = ap (λ u. 40 ∷ u) (bl.whole ∙ ap (λ u. bl.blanks ++ u) (before.whole ∙ ap (λ u. before.front ++ u) (c.whole ∙ ap (λ u. u ++ (c.blanks ++ 41 ∷ c.back)) c.tails.whole))
          ∙ opened_text bl.blanks before.front c.tails.front c.tails.back c.blanks c.back);
    }

-- ---- where a term is expected
pub back_operand : (most : ℕ) (r next : Reader) (b : ℕ) (all : Disjunction) (text : ByteString) → operand most r b ≡ good next → Rest most next all text → Before most r.keeps r.frame r.outer all (b ∷ text)
back_operand most r next b all text h rest =
    split (b == 33) (cond (nat_lt (levels_in r.frame) most) (good (record r { frame = marked r.frame; mode = mode.Expects wants.Operand })) (wrong stop.Deep))
    (cond (b == 40) (cond (nat_lt (levels_in r.frame) most) (good (record r { frame = fresh (levels_in r.frame + 1); outer = r.frame ∷ r.outer; mode = mode.Expects wants.Operand })) (wrong stop.Deep)) (at_some r (operand_mode b))) (good next) h
    (λ is e. as_byte b 33 (λ x. Before most r.keeps r.frame r.outer all (x ∷ text)) is
    (split (nat_lt (levels_in r.frame) most) (good (record r { frame = marked r.frame; mode = mode.Expects wants.Operand })) (wrong stop.Deep) (good next) e
    (λ room e2. back_marked most r.keeps r.frame r.outer all text (ltb-true (levels_in r.frame) most room)
    (land (record r { frame = marked r.frame; mode = mode.Expects wants.Operand }) next (λ x. Rest most x all text) e2 rest))
    (λ no_ e2. bad stop.Deep next e2)))
    (λ no1 h2. split (b == 40) (cond (nat_lt (levels_in r.frame) most) (good (record r { frame = fresh (levels_in r.frame + 1); outer = r.frame ∷ r.outer; mode = mode.Expects wants.Operand })) (wrong stop.Deep)) (at_some r (operand_mode b)) (good next) h2
    (λ is e. as_byte b 40 (λ x. Before most r.keeps r.frame r.outer all (x ∷ text)) is
    (split (nat_lt (levels_in r.frame) most) (good (record r { frame = fresh (levels_in r.frame + 1); outer = r.frame ∷ r.outer; mode = mode.Expects wants.Operand })) (wrong stop.Deep) (good next) e
    (λ room e2. back_opened most r.keeps r.frame r.outer all text (ltb-true (levels_in r.frame) most room)
    (land (record r { frame = fresh (levels_in r.frame + 1); outer = r.frame ∷ r.outer; mode = mode.Expects wants.Operand }) next (λ x. Rest most x all text) e2 rest))
    (λ no_ e2. bad stop.Deep next e2)))
    (λ no2 h3. stated_term most r.keeps r.frame r.outer all (b ∷ text) (predicates h3)))
  where
    predicates : at_some r (operand_mode b) ≡ good next → Rest_of most r (HasPredicate r.keeps) all (b ∷ text)
    predicates h3 =
        pick (b == 46) r (Some (mode.Path path_of.Compared place.Name [] [])) (cond (b == 101) (Some (mode.Word fixed.Exists 1 (Wants (wants.Open call.Exists)))) (cond (b == 99) (Some (mode.Word fixed.Contains 1 (Wants (wants.Open (call.Has search_for.Part))))) (cond (b == 109) (Some (mode.Word fixed.Match 1 (Wants (wants.Open (call.Has search_for.Pattern))))) None))) (good next) h3
        (λ is e. same_text most r.keeps r.frame r.outer (Pathed r.keeps path_of.Compared) (HasPredicate r.keeps) all (b ∷ text) (λ found t p. path_predicate r.keeps found t p) (begin_path most r next path_of.Compared b all text is e rest))
        (λ no1 h4. pick (b == 101) r (Some (mode.Word fixed.Exists 1 (Wants (wants.Open call.Exists)))) (cond (b == 99) (Some (mode.Word fixed.Contains 1 (Wants (wants.Open (call.Has search_for.Part))))) (cond (b == 109) (Some (mode.Word fixed.Match 1 (Wants (wants.Open (call.Has search_for.Pattern))))) None)) (good next) h4
        (λ is e. as_byte b 101 (λ x. Rest_of most r (HasPredicate r.keeps) all (x ∷ text)) is
        (via_word most r.keeps r.frame r.outer (λ found. Blanks (Open r.keeps call.Exists found)) (HasPredicate r.keeps) all fixed.Exists 101 text refl (λ found t bl. exists_predicate r.keeps found t bl)
        (land (at r (mode.Word fixed.Exists 1 (Wants (wants.Open call.Exists)))) next (λ x. Rest most x all text) e rest)))
        (λ no2 h5. pick (b == 99) r (Some (mode.Word fixed.Contains 1 (Wants (wants.Open (call.Has search_for.Part))))) (cond (b == 109) (Some (mode.Word fixed.Match 1 (Wants (wants.Open (call.Has search_for.Pattern))))) None) (good next) h5
        (λ is e. as_byte b 99 (λ x. Rest_of most r (HasPredicate r.keeps) all (x ∷ text)) is
        (via_word most r.keeps r.frame r.outer (λ found. Blanks (Open r.keeps (call.Has search_for.Part) found)) (HasPredicate r.keeps) all fixed.Contains 99 text refl (λ found t bl. search_predicate r.keeps search_for.Part Contains IsString (codes "contains") (λ p f u a. a) (λ p w u x. x) found t bl bl.more)
        (land (at r (mode.Word fixed.Contains 1 (Wants (wants.Open (call.Has search_for.Part))))) next (λ x. Rest most x all text) e rest)))
        (λ no3 h6. pick (b == 109) r (Some (mode.Word fixed.Match 1 (Wants (wants.Open (call.Has search_for.Pattern))))) None (good next) h6
        (λ is e. as_byte b 109 (λ x. Rest_of most r (HasPredicate r.keeps) all (x ∷ text)) is
        (via_word most r.keeps r.frame r.outer (λ found. Blanks (Open r.keeps (call.Has search_for.Pattern) found)) (HasPredicate r.keeps) all fixed.Match 109 text refl (λ found t bl. search_predicate r.keeps search_for.Pattern Matches IsPatternText (codes "match") (λ p f u a. a) (λ p w u x. x) found t bl bl.more)
        (land (at r (mode.Word fixed.Match 1 (Wants (wants.Open (call.Has search_for.Pattern))))) next (λ x. Rest most x all text) e rest)))
        (λ no4 e. bad stop.Refused next e))))
