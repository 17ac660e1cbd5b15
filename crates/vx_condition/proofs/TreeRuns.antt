-- How a reader goes over a condition.
use Rattle.std.proofs.Common.{◌≡◌, ℕ, zero, suc, ◌+◌, ◌≤◌, ◌<◌, Bool, true, false, not, ◌==◌, ◌||◌, Ok, Err, List, [], ◌∷◌, ◌++◌, refl, sym, ◌∙◌, ap, append_assoc, arith, nat_lt, lt-ltb, add-one, eqb-true, inl, inr}
use Rattle.std.specs.List.{list_all}
use Rattle.std.proofs.lemmas.Bool.{and_parts, or_cases}
use Rattle.vx_value.specs.Texts.{ByteString}
use Rattle.vx_condition.specs.Trees as tree
use Rattle.vx_condition.specs.Trees.{Term, negated, bracketed, Conjunction, no_term, term, Disjunction, no_branch, branch, negated_times, conjunction_of, disjunction_of}
use Rattle.vx_condition.specs.Grammar.{is_blank, is_digit, IsTermText, IsConjunctionText, IsDisjunctionText}
use Rattle.vx_condition.specs.Conditions.{term_levels, conjunction_levels, disjunction_levels}
use Rattle.vx_condition.specs.Moves.{at, joint, fresh, levels_in}
use Rattle.vx_condition.specs.Runs.{run, out, settled, kept_term, kept_conjunction, kept_disjunction, terms_in, branches_in, behind_term, inside, earlier_branches, last_branch}
use Rattle.vx_condition.specs.declared.expected.Expected.TheVariants as wants
use Rattle.vx_condition.specs.declared.mode.Mode.TheVariants as mode
use Rattle.vx_condition.specs.declared.frame.Frame.{Frame}
use Rattle.vx_condition.specs.declared.reader.Reader.{Reader}
use Rattle.vx_condition.specs.declared.stop.Stop.TheVariants as stop
use Rattle.vx_condition.proofs.Runs.{chosen, over_blanks}
use Rattle.vx_condition.proofs.NumberRuns.{may_follow}
use Rattle.vx_condition.proofs.PredicateRuns.{regroup, over_predicate}

-- one `!` more
pub one_more : (n : ℕ) (t : Term) → negated_times (suc n) t ≡ negated_times n (negated t)
one_more zero t = refl
one_more (suc n) t = ap negated (one_more n t)

pub negated_behind : (r : Reader) (t : Term)
    → behind_term (record r { frame = record r.frame { negations = r.frame.negations + 1 }; mode = mode.Expects wants.Operand }) t ≡ behind_term r (negated t)
negated_behind r t =
    ap (λ u. record r { frame = record r.frame { terms = r.frame.terms ++ u ∷ []; negations = 0 }; mode = mode.Complete })
    (ap (λ n. negated_times n t) (add-one r.frame.negations) ∙ one_more r.frame.negations t)

no_digit : (b k : ℕ) → is_digit k ≡ false → is_digit b ≡ true → b ≡ k → ⊥
no_digit b k f d e = let never : is_digit k ≡ true = sym (ap is_digit e) ∙ d in cc

-- blanks, and then a byte that joins
blank_no_digit : (b : ℕ) → is_blank b ≡ true → not (is_digit b) ≡ true
blank_no_digit b h = undigit (is_digit b) (λ d. no_both b h d)
  where
    undigit : (t : Bool) → (t ≡ true → ⊥) → not t ≡ true
    undigit true f = absurd (f refl)
    undigit false f = refl

    no_both : (b : ℕ) → is_blank b ≡ true → is_digit b ≡ true → ⊥
    no_both b h d =
        elim (or_cases ((b == 9) || (b == 10) || (b == 13)) (b == 32) h) [
          | inl x ↦ elim (or_cases ((b == 9) || (b == 10)) (b == 13) x) [
            | inl y ↦ elim (or_cases (b == 9) (b == 10) y) [
              | inl z ↦ no_digit b 9 refl d (eqb-true b 9 z)
              | inr z ↦ no_digit b 10 refl d (eqb-true b 10 z)
            ]
            | inr y ↦ no_digit b 13 refl d (eqb-true b 13 y)
          ]
          | inr x ↦ no_digit b 32 refl d (eqb-true b 32 x)
        ]

blanks_follow : (blanks : ByteString) (k : ℕ) (more : ByteString) → list_all is_blank blanks ≡ true → not (is_digit k) ≡ true → may_follow (blanks ++ (k ∷ more)) ≡ true
blanks_follow [] k more h d = d
blanks_follow (b ∷ blanks) k more h d = let both = and_parts (is_blank b) (list_all is_blank blanks) h in blank_no_digit b both.0

to_joint : (most : ℕ) (r : Reader) (blanks : ByteString) (k : ℕ) (more : ByteString) → list_all is_blank blanks ≡ true
    → (run most (at r mode.Complete) (k ∷ more) ≡ run most (at r (mode.Expects wants.Joint)) (k ∷ more))
    → run most (at r mode.Complete) (blanks ++ (k ∷ more)) ≡ run most (at r (mode.Expects wants.Joint)) (k ∷ more)
to_joint most r [] k more h here = here
to_joint most r (b ∷ blanks) k more h here =
    let both = and_parts (is_blank b) (list_all is_blank blanks) h in
    chosen (is_blank b) (Ok (at r (mode.Expects wants.Joint))) (joint (at r mode.Complete) b) (λ n. run most n (blanks ++ (k ∷ more))) both.0
    ∙ over_blanks most r wants.Joint blanks (k ∷ more) both.1

-- opening a level
opens_mark : (most : ℕ) (r : Reader) (text : ByteString) → levels_in r.frame < most
    → run most (at r (mode.Expects wants.Operand)) (33 ∷ text) ≡ run most (record r { frame = record r.frame { negations = r.frame.negations + 1 }; mode = mode.Expects wants.Operand }) text
opens_mark most r text h = chosen (nat_lt (levels_in r.frame) most) (Ok (record r { frame = record r.frame { negations = r.frame.negations + 1 }; mode = mode.Expects wants.Operand })) (Err stop.Deep) (λ n. run most n text) (lt-ltb (levels_in r.frame) most h)

opens_bracket : (most : ℕ) (r : Reader) (text : ByteString) → levels_in r.frame < most
    → run most (at r (mode.Expects wants.Operand)) (40 ∷ text) ≡ run most (inside r.keeps (levels_in r.frame + 1) (r.frame ∷ r.outer) [] [] (mode.Expects wants.Operand)) text
opens_bracket most r text h = chosen (nat_lt (levels_in r.frame) most) (Ok (record r { frame = fresh (levels_in r.frame + 1); outer = r.frame ∷ r.outer; mode = mode.Expects wants.Operand })) (Err stop.Deep) (λ n. run most n text) (lt-ltb (levels_in r.frame) most h)

-- the branches of a disjunction, the last one with the others
pub all_of : (branches : List (List Term)) (c : Conjunction) (cs : Disjunction) → earlier_branches branches (branch c cs) ++ last_branch (branch c cs) ∷ [] ≡ branches ++ branches_in (branch c cs)
all_of branches c no_branch = refl
all_of branches c (branch d ds) = all_of (branches ++ terms_in c ∷ []) d ds ∙ append_assoc branches (terms_in c ∷ []) (branches_in (branch d ds))

pub conjunction_of-terms : (c : Conjunction) → conjunction_of (terms_in c) ≡ c
conjunction_of-terms no_term = refl
conjunction_of-terms (term t ts) = ap (term t) (conjunction_of-terms ts)

pub disjunction_of-branches : (d : Disjunction) → disjunction_of (branches_in d) ≡ d
disjunction_of-branches no_branch = refl
disjunction_of-branches (branch c cs) = λ i. branch (conjunction_of-terms c i) (disjunction_of-branches cs i)

-- what is read inside brackets is the whole condition
pub whole_of : (keeps : Bool) (d : Disjunction) (text : ByteString) → IsDisjunctionText d text
    → disjunction_of (earlier_branches [] (kept_disjunction keeps d) ++ last_branch (kept_disjunction keeps d) ∷ []) ≡ kept_disjunction keeps d
whole_of keeps no_branch text is = absurd is
whole_of keeps (branch c cs) text is =
    ap disjunction_of (all_of [] (kept_conjunction keeps c) (kept_disjunction keeps cs)) ∙ disjunction_of-branches (branch (kept_conjunction keeps c) (kept_disjunction keeps cs))

mutual
  pub over_term : (t : Term) (most : ℕ) (r : Reader) (text more : ByteString) → IsTermText t text → may_follow more ≡ true → term_levels t + levels_in r.frame ≤ most
      → out most (at r (mode.Expects wants.Operand)) (text ++ more) ≡ out most (behind_term r (kept_term r.keeps t)) more
  over_term (tree.stated p) most r text more is h few = over_predicate most r p text more is h
  over_term (negated t) most r text more is h few =
      let next = record r { frame = record r.frame { negations = r.frame.negations + 1 }; mode = mode.Expects wants.Operand } in
      ap (out most (at r (mode.Expects wants.Operand))) (regroup text is.front is.blanks is.back more is.whole ∙ ap (λ w. w ++ (is.blanks ++ (is.back ++ more))) is.first)
      ∙ ap settled (opens_mark most r (is.blanks ++ (is.back ++ more)) (omega arith) ∙ over_blanks most (record r { frame = record r.frame { negations = r.frame.negations + 1 } }) wants.Operand is.blanks (is.back ++ more) is.blank)
      ∙ over_term t most (record r { frame = record r.frame { negations = r.frame.negations + 1 } }) is.back more is.more h (omega arith)
      ∙ ap (λ n. out most n more) (negated_behind r (kept_term r.keeps t))
  over_term (bracketed d) most r text more is h few =
      let inner = is.more in
      let around = r.frame ∷ r.outer in
      let base = levels_in r.frame + 1 in
      let kd = kept_disjunction r.keeps d in
      ap (out most (at r (mode.Expects wants.Operand))) (regroup text is.front is.blanks is.back more is.whole ∙ ap (λ w. w ++ (is.blanks ++ (is.back ++ more))) is.first)
      ∙ ap settled (opens_bracket most r (is.blanks ++ (is.back ++ more)) (omega arith) ∙ over_blanks most (inside r.keeps base around [] [] mode.Complete) wants.Operand is.blanks (is.back ++ more) is.blank)
      ∙ ap (out most (inside r.keeps base around [] [] (mode.Expects wants.Operand))) (regroup is.back inner.front inner.blanks inner.back more inner.whole ∙ ap (λ w. inner.front ++ (inner.blanks ++ (w ++ more))) inner.more)
      ∙ over_disjunction d most r.keeps base around [] inner.front (inner.blanks ++ (41 ∷ more)) inner.first (blanks_follow inner.blanks 41 more inner.blank refl) (omega arith)
      ∙ ap settled (to_joint most (inside r.keeps base around (earlier_branches [] kd) (last_branch kd) mode.Complete) inner.blanks 41 more inner.blank refl)
      ∙ ap (λ e. out most (behind_term r (bracketed e)) more) (whole_of r.keeps d inner.front inner.first)

  pub over_conjunction : (c : Conjunction) (most : ℕ) (keeps : Bool) (base : ℕ) (outer : List Frame) (branches : List (List Term)) (terms : List Term) (text more : ByteString)
      → IsConjunctionText c text → may_follow more ≡ true → conjunction_levels c + base ≤ most
      → out most (inside keeps base outer branches terms (mode.Expects wants.Operand)) (text ++ more)
      ≡ out most (inside keeps base outer branches (terms ++ terms_in (kept_conjunction keeps c)) mode.Complete) more
  over_conjunction no_term most keeps base outer branches terms text more is h few = absurd is
  over_conjunction (term t no_term) most keeps base outer branches terms text more is h few =
      over_term t most (inside keeps base outer branches terms mode.Complete) text more is h (omega arith)
  over_conjunction (term t (term u ts)) most keeps base outer branches terms text more is h few =
      let joined = is.more in
      let rest = joined.blanks ++ (joined.back ++ more) in
      let kt = kept_term keeps t in
      let here = inside keeps base outer branches terms mode.Complete in
      let next = inside keeps base outer branches (terms ++ kt ∷ []) mode.Complete in
      ap (out most (at here (mode.Expects wants.Operand)))
      (regroup text is.front is.blanks is.back more is.whole ∙ ap (λ w. is.front ++ (is.blanks ++ w)) (regroup is.back joined.front joined.blanks joined.back more joined.whole ∙ ap (λ w. w ++ rest) joined.first))
      ∙ over_term t most here is.front (is.blanks ++ (38 ∷ 38 ∷ rest)) is.first (blanks_follow is.blanks 38 (38 ∷ rest) is.blank refl) (omega arith)
      ∙ ap settled (to_joint most next is.blanks 38 (38 ∷ rest) is.blank refl ∙ over_blanks most next wants.Operand joined.blanks (joined.back ++ more) joined.blank)
      ∙ over_conjunction (term u ts) most keeps base outer branches (terms ++ kt ∷ []) joined.back more joined.more h (omega arith)
      ∙ ap (λ us. out most (inside keeps base outer branches us mode.Complete) more) (append_assoc terms (kt ∷ []) (terms_in (kept_conjunction keeps (term u ts))))

  pub over_disjunction : (d : Disjunction) (most : ℕ) (keeps : Bool) (base : ℕ) (outer : List Frame) (branches : List (List Term)) (text more : ByteString)
      → IsDisjunctionText d text → may_follow more ≡ true → disjunction_levels d + base ≤ most
      → out most (inside keeps base outer branches [] (mode.Expects wants.Operand)) (text ++ more)
      ≡ out most (inside keeps base outer (earlier_branches branches (kept_disjunction keeps d)) (last_branch (kept_disjunction keeps d)) mode.Complete) more
  over_disjunction no_branch most keeps base outer branches text more is h few = absurd is
  over_disjunction (branch c no_branch) most keeps base outer branches text more is h few =
      over_conjunction c most keeps base outer branches [] text more is h (omega arith)
  over_disjunction (branch c (branch d ds)) most keeps base outer branches text more is h few =
      let joined = is.more in
      let rest = joined.blanks ++ (joined.back ++ more) in
      let kc = kept_conjunction keeps c in
      let next = inside keeps base outer branches (terms_in kc) mode.Complete in
      let after = inside keeps base outer (branches ++ terms_in kc ∷ []) [] mode.Complete in
      ap (out most (inside keeps base outer branches [] (mode.Expects wants.Operand)))
      (regroup text is.front is.blanks is.back more is.whole ∙ ap (λ w. is.front ++ (is.blanks ++ w)) (regroup is.back joined.front joined.blanks joined.back more joined.whole ∙ ap (λ w. w ++ rest) joined.first))
      ∙ over_conjunction c most keeps base outer branches [] is.front (is.blanks ++ (124 ∷ 124 ∷ rest)) is.first (blanks_follow is.blanks 124 (124 ∷ rest) is.blank refl) (omega arith)
      ∙ ap settled (to_joint most next is.blanks 124 (124 ∷ rest) is.blank refl ∙ over_blanks most after wants.Operand joined.blanks (joined.back ++ more) joined.blank)
      ∙ over_disjunction (branch d ds) most keeps base outer (branches ++ terms_in kc ∷ []) joined.back more joined.more h (omega arith)
