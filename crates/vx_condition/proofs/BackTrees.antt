-- What a byte takes away from what a text has to go on with: between predicates, and at each place.
use Rattle.std.proofs.Common.{◌≡◌, ℕ, max, ◌+◌, ◌-◌, ◌≤◌, Bool, true, cond, ◌==◌, List, [], ◌∷◌, ◌++◌, codes, refl, sym, ◌∙◌, ap, subst, append_assoc, append-nil, arith}
use Rattle.std.specs.List.{list_all}
use Rattle.std.proofs.lemmas.Bool.{and_parts, and_from}
use Rattle.vx_value.specs.Texts.{ByteString}
use Rattle.vx_condition.specs.Trees.{Disjunction}
use Rattle.vx_condition.specs.Grammar.{is_blank}
use Rattle.vx_condition.specs.Moves.{at, with_term}
use Rattle.vx_condition.specs.declared.fixed_word.FixedWord.TheVariants as fixed
use Rattle.vx_condition.specs.declared.expected.Expected.TheVariants as wants
use Rattle.vx_condition.specs.declared.mode.Behind.TheVariants.{Wants}
use Rattle.vx_condition.specs.declared.mode.Mode.TheVariants as mode
use Rattle.vx_condition.specs.declared.frame.Frame.{Frame}
use Rattle.vx_condition.specs.declared.reader.Reader.{Reader}
use Rattle.vx_condition.specs.declared.stop.Stop.TheVariants as stop
use Rattle.vx_condition.specs.Grammar.{IsTermText, IsConjunctionText, IsDisjunctionText}
use Rattle.vx_condition.specs.Trees.{Term, bracketed, Conjunction, no_term, term, no_branch, branch, negated_times, disjunction_of}
use Rattle.vx_condition.specs.Conditions.{term_levels, conjunction_levels, disjunction_levels}
use Rattle.vx_condition.specs.Moves.{closed, joint, behind_operand, levels_in, all_branches}
use Rattle.vx_condition.specs.Runs.{kept_term, kept_conjunction, kept_disjunction, terms_in, branches_in}
use Rattle.vx_condition.proofs.Rests.{MoreTerms, MoreBranches, all_with, Tails, After, Joins, Rest}
use Rattle.vx_condition.proofs.Backs.{good, wrong, split, land, bad, as_byte}

-- ---- pieces of the grammar
pub conjunction_with : (t : Term) (ts : Conjunction) (front tail : ByteString) → IsTermText t front → MoreTerms ts tail → IsConjunctionText (term t ts) (front ++ tail)
conjunction_with t no_term front tail is more = subst (IsTermText t) (sym (append-nil front) ∙ ap (λ u. front ++ u) (sym more)) is
conjunction_with t (term u us) front tail is more =
    record { front = front; blanks = more.blanks; back = more.back; first = is; blank = more.blank; more = more.more; whole = ap (λ w. front ++ w) more.whole }

pub disjunction_with : (c : Conjunction) (cs : Disjunction) (front tail : ByteString) → IsConjunctionText c front → MoreBranches cs tail → IsDisjunctionText (branch c cs) (front ++ tail)
disjunction_with c no_branch front tail is more = subst (IsConjunctionText c) (sym (append-nil front) ∙ ap (λ u. front ++ u) (sym more)) is
disjunction_with c (branch d ds) front tail is more =
    record { front = front; blanks = more.blanks; back = more.back; first = is; blank = more.blank; more = more.more; whole = ap (λ w. front ++ w) more.whole }

pub most_of : (m n k : ℕ) → m ≤ k → n ≤ k → max m n ≤ k
most_of m n k h g = omega arith

-- ---- behind a term: `&&` and another term
and_text : (bs bl front x y : ByteString) → bs ++ (38 ∷ 38 ∷ (bl ++ (front ++ (x ++ y)))) ≡ (bs ++ (38 ∷ 38 ∷ (bl ++ (front ++ x)))) ++ y
and_text bs bl front x y = simp append_assoc

and_tails : (most base : ℕ) (t : Term) (ts : Conjunction) (cs : Disjunction) (bs bl front text : ByteString) → list_all is_blank bs ≡ true → list_all is_blank bl ≡ true → IsTermText t front → term_levels t ≤ most - base
    → Tails most base ts cs text → Tails most base (term t ts) cs (bs ++ (38 ∷ 38 ∷ (bl ++ (front ++ text))))
and_tails most base t ts cs bs bl front text hb hl is low tails =
    record {
      front = bs ++ (38 ∷ 38 ∷ (bl ++ (front ++ tails.front)));
      back = tails.back;
      terms = record {
        blanks = bs;
        back = 38 ∷ 38 ∷ (bl ++ (front ++ tails.front));
        blank = hb;
        more = record { front = codes "&&"; blanks = bl; back = front ++ tails.front; first = refl; blank = hl; more = conjunction_with t ts front tails.front is tails.terms; whole = refl };
        whole = refl;
      };
      branches = tails.branches;
      whole = ap (λ u. bs ++ (38 ∷ 38 ∷ (bl ++ (front ++ u)))) tails.whole ∙ and_text bs bl front tails.front tails.back;
      low_terms = most_of (term_levels t) (conjunction_levels ts) (most - base) low tails.low_terms;
      low_branches = tails.low_branches;
    }

and_all : (keeps : Bool) (f : Frame) (t : Term) (ts : Conjunction) (cs : Disjunction) → f.negations ≡ 0
    → all_with keeps (with_term f (kept_term keeps t)) ts cs ≡ all_with keeps f (term t ts) cs
and_all keeps f t ts cs plain =
    ap (λ us. disjunction_of (f.branches ++ us ∷ branches_in (kept_disjunction keeps cs)))
    (append_assoc f.terms (negated_times f.negations (kept_term keeps t) ∷ []) (terms_in (kept_conjunction keeps ts))
    ∙ ap (λ n. f.terms ++ (negated_times n (kept_term keeps t) ∷ terms_in (kept_conjunction keeps ts))) plain)

low_plain : (most base n l : ℕ) → n ≡ 0 → l ≤ most - (base + n) → l ≤ most - base
low_plain most base n l e h = omega arith

and_after : (most : ℕ) (keeps : Bool) (f : Frame) (outer : List Frame) (all : Disjunction) (t : Term) (bs bl front back : ByteString) → f.negations ≡ 0
    → list_all is_blank bs ≡ true → list_all is_blank bl ≡ true → IsTermText t front → term_levels t ≤ most - levels_in f
    → After most keeps (with_term f (kept_term keeps t)) outer all back → After most keeps f outer all (bs ++ (38 ∷ 38 ∷ (bl ++ (front ++ back))))
and_after most keeps f [] all t bs bl front back plain hb hl is low e =
    record {
      terms = term t e.terms;
      branches = e.branches;
      tails = and_tails most f.base t e.terms e.branches bs bl front back hb hl is (low_plain most f.base f.negations (term_levels t) plain low) e.tails;
      same = e.same ∙ and_all keeps f t e.terms e.branches plain;
    }
and_after most keeps f (g ∷ outer) all t bs bl front back plain hb hl is low c =
    record {
      terms = term t c.terms;
      branches = c.branches;
      front = bs ++ (38 ∷ 38 ∷ (bl ++ (front ++ c.front)));
      blanks = c.blanks;
      back = c.back;
      tails = and_tails most f.base t c.terms c.branches bs bl front c.front hb hl is (low_plain most f.base f.negations (term_levels t) plain low) c.tails;
      blank = c.blank;
      more = subst (λ d. After most keeps (with_term g (bracketed d)) outer all c.back) (and_all keeps f t c.terms c.branches plain) c.more;
      whole = ap (λ u. bs ++ (38 ∷ 38 ∷ (bl ++ (front ++ u)))) c.whole ∙ and_text bs bl front c.front (c.blanks ++ 41 ∷ c.back);
    }

-- ---- behind a term: `||` and another branch
or_text : (bs bl front x y : ByteString) → bs ++ (124 ∷ 124 ∷ (bl ++ (front ++ (x ++ y)))) ≡ bs ++ (124 ∷ 124 ∷ (bl ++ ((front ++ x) ++ y)))
or_text bs bl front x y = simp append_assoc

or_end : (bs bl front x y : ByteString) → bs ++ (124 ∷ 124 ∷ (bl ++ (front ++ (x ++ y)))) ≡ (bs ++ (124 ∷ 124 ∷ (bl ++ (front ++ x)))) ++ y
or_end bs bl front x y = simp append_assoc

or_tails : (most base : ℕ) (t : Term) (ts : Conjunction) (cs : Disjunction) (bs bl front text : ByteString) → list_all is_blank bs ≡ true → list_all is_blank bl ≡ true → IsTermText t front → term_levels t ≤ most - base
    → Tails most base ts cs text → Tails most base no_term (branch (term t ts) cs) (bs ++ (124 ∷ 124 ∷ (bl ++ (front ++ text))))
or_tails most base t ts cs bs bl front text hb hl is low tails =
    record {
      front = [];
      back = bs ++ (124 ∷ 124 ∷ (bl ++ (front ++ text)));
      terms = refl;
      branches = record {
        blanks = bs;
        back = 124 ∷ 124 ∷ (bl ++ ((front ++ tails.front) ++ tails.back));
        blank = hb;
        more = record {
          front = codes "||";
          blanks = bl;
          back = (front ++ tails.front) ++ tails.back;
          first = refl;
          blank = hl;
          more = disjunction_with (term t ts) cs (front ++ tails.front) tails.back (conjunction_with t ts front tails.front is tails.terms) tails.branches;
          whole = refl;
        };
        whole = ap (λ u. bs ++ (124 ∷ 124 ∷ (bl ++ (front ++ u)))) tails.whole ∙ or_text bs bl front tails.front tails.back;
      };
      whole = refl;
      low_terms = omega arith;
      low_branches = most_of (conjunction_levels (term t ts)) (disjunction_levels cs) (most - base) (most_of (term_levels t) (conjunction_levels ts) (most - base) low tails.low_terms) tails.low_branches;
    }

-- a frame whose branch has ended
abbrev pub branched : Frame → Frame
branched f = record f { branches = all_branches f; terms = [] }

or_all : (keeps : Bool) (f : Frame) (t : Term) (ts : Conjunction) (cs : Disjunction) → f.negations ≡ 0
    → all_with keeps (with_term (branched f) (kept_term keeps t)) ts cs ≡ all_with keeps f no_term (branch (term t ts) cs)
or_all keeps f t ts cs plain =
    ap disjunction_of (append_assoc f.branches (f.terms ∷ []) ((negated_times f.negations (kept_term keeps t) ∷ terms_in (kept_conjunction keeps ts)) ∷ branches_in (kept_disjunction keeps cs))
    ∙ ap (λ n. f.branches ++ (f.terms ∷ ((negated_times n (kept_term keeps t) ∷ terms_in (kept_conjunction keeps ts)) ∷ branches_in (kept_disjunction keeps cs)))) plain
    ∙ ap (λ us. f.branches ++ (us ∷ ((kept_term keeps t ∷ terms_in (kept_conjunction keeps ts)) ∷ branches_in (kept_disjunction keeps cs)))) (sym (append-nil f.terms)))

or_after : (most : ℕ) (keeps : Bool) (f : Frame) (outer : List Frame) (all : Disjunction) (t : Term) (bs bl front back : ByteString) → f.negations ≡ 0
    → list_all is_blank bs ≡ true → list_all is_blank bl ≡ true → IsTermText t front → term_levels t ≤ most - levels_in f
    → After most keeps (with_term (branched f) (kept_term keeps t)) outer all back → After most keeps f outer all (bs ++ (124 ∷ 124 ∷ (bl ++ (front ++ back))))
or_after most keeps f [] all t bs bl front back plain hb hl is low e =
    record {
      terms = no_term;
      branches = branch (term t e.terms) e.branches;
      tails = or_tails most f.base t e.terms e.branches bs bl front back hb hl is (low_plain most f.base f.negations (term_levels t) plain low) e.tails;
      same = e.same ∙ or_all keeps f t e.terms e.branches plain;
    }
or_after most keeps f (g ∷ outer) all t bs bl front back plain hb hl is low c =
    record {
      terms = no_term;
      branches = branch (term t c.terms) c.branches;
      front = bs ++ (124 ∷ 124 ∷ (bl ++ (front ++ c.front)));
      blanks = c.blanks;
      back = c.back;
      tails = or_tails most f.base t c.terms c.branches bs bl front c.front hb hl is (low_plain most f.base f.negations (term_levels t) plain low) c.tails;
      blank = c.blank;
      more = subst (λ d. After most keeps (with_term g (bracketed d)) outer all c.back) (or_all keeps f t c.terms c.branches plain) c.more;
      whole = ap (λ u. bs ++ (124 ∷ 124 ∷ (bl ++ (front ++ u)))) c.whole ∙ or_end bs bl front c.front (c.blanks ++ 41 ∷ c.back);
    }

-- ---- behind a term: a closing bracket
pub none_more : (most base : ℕ) → Tails most base no_term no_branch []
none_more most base = record { front = []; back = []; terms = refl; branches = refl; whole = refl; low_terms = omega arith; low_branches = omega arith }

pub close_all : (keeps : Bool) (f : Frame) → disjunction_of (all_branches f) ≡ all_with keeps f no_term no_branch
close_all keeps f = ap (λ us. disjunction_of (f.branches ++ us ∷ [])) (sym (append-nil f.terms))

back_closed : (most : ℕ) (r next : Reader) (outer : List Frame) (all : Disjunction) (bs text : ByteString) → list_all is_blank bs ≡ true → closed r outer ≡ good next → Rest most next all text
    → After most r.keeps r.frame outer all (bs ++ 41 ∷ text)
back_closed most r next [] all bs text hb h rest = bad stop.Refused next h
back_closed most r next (g ∷ outer) all bs text hb h rest =
    let inside = disjunction_of (all_branches r.frame) in
    let more : After most r.keeps (with_term g (bracketed inside)) outer all text =
    land (record r { frame = with_term g (bracketed inside); outer = outer; mode = mode.Complete }) next (λ x. Rest most x all text) h rest in
    record {
      terms = no_term;
      branches = no_branch;
      front = [];
      blanks = bs;
      back = text;
      tails = none_more most r.frame.base;
      blank = hb;
      more = subst (λ d. After most r.keeps (with_term g (bracketed d)) outer all text) (close_all r.keeps r.frame) more;
      whole = refl;
    }

-- ---- where a term may be joined
and_joined : (most : ℕ) (r : Reader) (all : Disjunction) (text bs : ByteString) → r.frame.negations ≡ 0 → list_all is_blank bs ≡ true
    → Rest most (at r (mode.Word fixed.And 1 (Wants wants.Operand))) all text → After most r.keeps r.frame r.outer all (bs ++ 38 ∷ text)
and_joined most r all text bs plain hb iw =
    let bl = iw.more in
    let before = bl.more in
    subst (After most r.keeps r.frame r.outer all) (ap (λ u. bs ++ (38 ∷ 38 ∷ u)) (ap (λ u. bl.blanks ++ u) (sym before.whole) ∙ sym bl.whole) ∙ ap (λ u. bs ++ (38 ∷ u)) (sym iw.whole))
    (and_after most r.keeps r.frame r.outer all before.first bs bl.blanks before.front before.back plain hb bl.blank before.spelled before.low before.more)

or_joined : (most : ℕ) (r : Reader) (all : Disjunction) (text bs : ByteString) → r.frame.negations ≡ 0 → list_all is_blank bs ≡ true
    → Rest most (record r { frame = branched r.frame; mode = mode.Word fixed.Or 1 (Wants wants.Operand) }) all text → After most r.keeps r.frame r.outer all (bs ++ 124 ∷ text)
or_joined most r all text bs plain hb iw =
    let bl = iw.more in
    let before = bl.more in
    subst (After most r.keeps r.frame r.outer all) (ap (λ u. bs ++ (124 ∷ 124 ∷ u)) (ap (λ u. bl.blanks ++ u) (sym before.whole) ∙ sym bl.whole) ∙ ap (λ u. bs ++ (124 ∷ u)) (sym iw.whole))
    (or_after most r.keeps r.frame r.outer all before.first bs bl.blanks before.front before.back plain hb bl.blank before.spelled before.low before.more)

joined_behind : (most : ℕ) (r next : Reader) (b : ℕ) (all : Disjunction) (text bs : ByteString) → r.frame.negations ≡ 0 → list_all is_blank bs ≡ true → joint r b ≡ good next → Rest most next all text
    → After most r.keeps r.frame r.outer all (bs ++ b ∷ text)
joined_behind most r next b all text bs plain hb h rest =
    split (b == 38) (good (at r (mode.Word fixed.And 1 (Wants wants.Operand)))) (cond (b == 124) (good (record r { frame = branched r.frame; mode = mode.Word fixed.Or 1 (Wants wants.Operand) })) (cond (b == 41) (closed r r.outer) (wrong stop.Refused))) (good next) h
    (λ is e. as_byte b 38 (λ x. After most r.keeps r.frame r.outer all (bs ++ x ∷ text)) is
    (and_joined most r all text bs plain hb (land (at r (mode.Word fixed.And 1 (Wants wants.Operand))) next (λ x. Rest most x all text) e rest)))
    (λ no1 h2. split (b == 124) (good (record r { frame = branched r.frame; mode = mode.Word fixed.Or 1 (Wants wants.Operand) })) (cond (b == 41) (closed r r.outer) (wrong stop.Refused)) (good next) h2
    (λ is e. as_byte b 124 (λ x. After most r.keeps r.frame r.outer all (bs ++ x ∷ text)) is
    (or_joined most r all text bs plain hb (land (record r { frame = branched r.frame; mode = mode.Word fixed.Or 1 (Wants wants.Operand) }) next (λ x. Rest most x all text) e rest)))
    (λ no2 h3. split (b == 41) (closed r r.outer) (wrong stop.Refused) (good next) h3
    (λ is e. as_byte b 41 (λ x. After most r.keeps r.frame r.outer all (bs ++ x ∷ text)) is (back_closed most r next r.outer all bs text hb e rest))
    (λ no3 e. bad stop.Refused next e)))

pub back_joint : (most : ℕ) (r next : Reader) (b : ℕ) (all : Disjunction) (text : ByteString) → r.frame.negations ≡ 0 → joint r b ≡ good next → Rest most next all text
    → Joins most r.keeps r.frame r.outer all (b ∷ text)
back_joint most r next b all text plain h rest = record { behind = λ bs hb. joined_behind most r next b all text bs plain hb h rest }

pub blank_joins : (most : ℕ) (keeps : Bool) (f : Frame) (outer : List Frame) (b : ℕ) (all : Disjunction) (text : ByteString) → is_blank b ≡ true → Joins most keeps f outer all text → Joins most keeps f outer all (b ∷ text)
blank_joins most keeps f outer b all text is j =
    record { behind = λ bs hb. subst (After most keeps f outer all) (append_assoc bs (b ∷ []) text) (j.behind (bs ++ b ∷ []) (blanks_more bs hb)) }
  where
    blanks_more : (bs : ByteString) → list_all is_blank bs ≡ true → list_all is_blank (bs ++ b ∷ []) ≡ true
    blanks_more [] h = and_from (is_blank b) true is refl
    blanks_more (c ∷ cs) h = let both = and_parts (is_blank c) (list_all is_blank cs) h in and_from (is_blank c) (list_all is_blank (cs ++ b ∷ [])) both.0 (blanks_more cs both.1)

pub back_behind_operand : (most : ℕ) (r next : Reader) (b : ℕ) (all : Disjunction) (text : ByteString) → r.frame.negations ≡ 0 → behind_operand r b ≡ good next → Rest most next all text
    → After most r.keeps r.frame r.outer all (b ∷ text)
back_behind_operand most r next b all text plain h rest =
    split (is_blank b) (good (at r (mode.Expects wants.Joint))) (joint r b) (good next) h
    (λ is e. let j : Joins most r.keeps r.frame r.outer all text = land (at r (mode.Expects wants.Joint)) next (λ x. Rest most x all text) e rest in j.behind (b ∷ []) (and_from (is_blank b) true is refl))
    (λ no_ e. let j = back_joint most r next b all text plain e rest in j.behind [] refl)
