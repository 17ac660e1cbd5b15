-- Every condition is read, with its tree; so no text has two trees, and where a reader stops no condition goes on.
use Rattle.std.proofs.Common.{◌≡◌, ℕ, ◌≤◌, max, Bool, true, false, Result, Ok, Err, List, [], ◌∷◌, ◌++◌, codes, refl, sym, ◌∙◌, ap, append-nil, arith, inl, inr}
use Rattle.vx_value.specs.Texts.{ByteString}
use Rattle.vx_condition.specs.Trees as tree
use Rattle.vx_condition.specs.Trees.{Term, negated, bracketed, Conjunction, no_term, term, Disjunction, no_branch, branch, disjunction_of}
use Rattle.vx_condition.specs.Grammar.{Then, Is, is_blank, IsPathText, IsPredicateText, IsTermText, IsConjunctionText, IsDisjunctionText, Call}
use Rattle.vx_condition.specs.Conditions.{disjunction_levels}
use Rattle.vx_condition.specs.Moves.{operand, all_branches}
use Rattle.vx_condition.specs.Runs.{go_on, run, out, settled, begun, kept, kept_term, kept_conjunction, kept_disjunction, inside, earlier_branches, last_branch}
use Rattle.vx_condition.specs.declared.predicate.Predicate.{Predicate}
use Rattle.vx_condition.specs.declared.predicate.Predicate.TheVariants.{Equal, Different, Compared, Exists, Contains, Matches}
use Rattle.vx_condition.specs.declared.expected.Expected.TheVariants as wants
use Rattle.vx_condition.specs.declared.mode.Mode.TheVariants as mode
use Rattle.vx_condition.specs.declared.reader.Reader.{Reader}
use Rattle.vx_condition.specs.declared.stop.Stop.{Stop}
use Rattle.vx_condition.specs.declared.stop.Stop.TheVariants as stop
use Rattle.vx_condition.proofs.Runs.{run-append, other}
use Rattle.vx_condition.proofs.TreeRuns.{over_disjunction, whole_of}

-- a text begins with a byte that is no blank
record Begins (text : ByteString) : Type 0 where
  head : ℕ
  tail : ByteString
  whole : text ≡ head ∷ tail
  dark : is_blank head ≡ false

begins_then : (First More : ByteString → Type 0) (text : ByteString) → ((front : ByteString) → First front → Begins front) → Then First More text → Begins text
begins_then First More text first t =
    let b = first t.front t.first in
    record { head = b.head; tail = b.tail ++ (t.blanks ++ t.back); whole = t.whole ∙ ap (λ w. w ++ (t.blanks ++ t.back)) b.whole; dark = b.dark }

begins_is : (k : ℕ) (token text : ByteString) → is_blank k ≡ false → text ≡ k ∷ token → Begins text
begins_is k token text dark e = record { head = k; tail = token; whole = e; dark = dark }

begins_path : (p : List ByteString) (text : ByteString) → IsPathText p text → Begins text
begins_path p text is = begins_is 46 is.rest text refl is.dot

begins_call : (k : ℕ) (token : ByteString) (Rest : ByteString → Type 0) (text : ByteString) → is_blank k ≡ false → Call (k ∷ token) Rest text → Begins text
begins_call k token Rest text dark (inl t) = begins_then (Is (k ∷ token)) Rest text (λ front e. begins_is k token front dark e) t
begins_call k token Rest text dark (inr t) = begins_then (Is (k ∷ token)) (Then (Is (codes "!")) Rest) text (λ front e. begins_is k token front dark e) t

begins_predicate : (x : Predicate) (text : ByteString) → IsPredicateText x text → Begins text
begins_predicate (Equal p l) text t = begins_then (IsPathText p) _ text (begins_path p) t
begins_predicate (Different p l) text t = begins_then (IsPathText p) _ text (begins_path p) t
begins_predicate (Compared p c z) text t = begins_then (IsPathText p) _ text (begins_path p) t
begins_predicate (Exists p) text t = begins_then (Is (codes "exists")) _ text (λ front e. begins_is 101 (codes "xists") front refl e) t
begins_predicate (Contains p w) text t = begins_call 99 (codes "ontains") _ text refl t
begins_predicate (Matches p q) text t = begins_call 109 (codes "atch") _ text refl t

begins_term : (t : Term) (text : ByteString) → IsTermText t text → Begins text
begins_term (negated t) text is = begins_then (Is (codes "!")) (IsTermText t) text (λ front e. begins_is 33 [] front refl e) is
begins_term (bracketed d) text is = begins_then (Is (codes "(")) _ text (λ front e. begins_is 40 [] front refl e) is
begins_term (tree.stated p) text is = begins_predicate p text is

begins_conjunction : (c : Conjunction) (text : ByteString) → IsConjunctionText c text → Begins text
begins_conjunction no_term text is = absurd is
begins_conjunction (term t no_term) text is = begins_term t text is
begins_conjunction (term t (term u ts)) text is = begins_then (IsTermText t) _ text (begins_term t) is

begins_disjunction : (d : Disjunction) (text : ByteString) → IsDisjunctionText d text → Begins text
begins_disjunction no_branch text is = absurd is
begins_disjunction (branch c no_branch) text is = begins_conjunction c text is
begins_disjunction (branch c (branch d ds)) text is = begins_then (IsConjunctionText c) _ text (begins_conjunction c) is

-- before everything a reader goes on as where a term is expected, except over blanks
from_start : (most : ℕ) (keeps : Bool) (b : ℕ) (text : ByteString) → is_blank b ≡ false
    → run most (begun keeps) (b ∷ text) ≡ run most (inside keeps 0 [] [] [] (mode.Expects wants.Operand)) (b ∷ text)
from_start most keeps b text dark =
    other (is_blank b) (Err stop.Refused) (operand most (begun keeps) b) (λ n. run most n text) dark
    ∙ sym (other (is_blank b) (Ok (inside keeps 0 [] [] [] (mode.Expects wants.Operand))) (operand most (inside keeps 0 [] [] [] (mode.Expects wants.Operand)) b) (λ n. run most n text) dark)

-- what a reader is behind a whole condition
abbrev pub behind_all : Bool → Disjunction → Reader
behind_all keeps d = inside keeps 0 [] (earlier_branches [] (kept_disjunction keeps d)) (last_branch (kept_disjunction keeps d)) mode.Complete

-- each condition of the grammar is read
pub complete : (most : ℕ) (keeps : Bool) (d : Disjunction) (text : ByteString) → IsDisjunctionText d text → disjunction_levels d ≤ most
    → out most (begun keeps) text ≡ Ok (behind_all keeps d)
complete most keeps d text is few =
    let b = begins_disjunction d text is in
    ap (out most (begun keeps)) b.whole
    ∙ ap settled (from_start most keeps b.head b.tail b.dark)
    ∙ ap (out most (inside keeps 0 [] [] [] (mode.Expects wants.Operand))) (sym (append-nil text ∙ b.whole))
    ∙ over_disjunction d most keeps 0 [] [] text [] is refl (omega (arith, few))

kept-predicate : (p : Predicate) → kept true p ≡ p
kept-predicate (Matches p q) = refl
kept-predicate p = refl

mutual
  kept-term : (t : Term) → kept_term true t ≡ t
  kept-term (negated t) = ap negated (kept-term t)
  kept-term (bracketed d) = ap bracketed (kept-disjunction d)
  kept-term (tree.stated p) = ap tree.stated (kept-predicate p)

  kept-conjunction : (c : Conjunction) → kept_conjunction true c ≡ c
  kept-conjunction no_term = refl
  kept-conjunction (term t ts) = λ i. term (kept-term t i) (kept-conjunction ts i)

  pub kept-disjunction : (d : Disjunction) → kept_disjunction true d ≡ d
  kept-disjunction no_branch = refl
  kept-disjunction (branch c cs) = λ i. branch (kept-conjunction c i) (kept-disjunction cs i)

-- the tree that a reader has read
abbrev tree_read : Result Reader Stop → Disjunction
tree_read (Ok r) = disjunction_of (all_branches r.frame)
tree_read (Err e) = no_branch

-- no text has two trees
pub one_tree : (s t : Disjunction) (text : ByteString) → IsDisjunctionText s text → IsDisjunctionText t text → s ≡ t
one_tree s t text is also =
    let most = max (disjunction_levels s) (disjunction_levels t) in
    let first = complete most true s text is (omega arith) in
    let second = complete most true t text also (omega arith) in
    sym (kept-disjunction s) ∙ sym (whole_of true s text is) ∙ ap tree_read (sym first ∙ second) ∙ whole_of true t text also ∙ kept-disjunction t

-- where a reader stops no condition of so many levels goes on
pub stopped : (most : ℕ) (keeps : Bool) (front rest : ByteString) (e : Stop) (d : Disjunction) → run most (begun keeps) front ≡ Err e → IsDisjunctionText d (front ++ rest) → disjunction_levels d ≤ most → ⊥
stopped most keeps front rest e d halted is few =
    let ran : out most (begun keeps) (front ++ rest) ≡ Err e = ap settled (run-append most (begun keeps) front rest ∙ ap (λ v. go_on v (λ next. run most next rest)) halted) in
    let whole : Ok (behind_all keeps d) ≡ Err e = sym (complete most keeps d (front ++ rest) is few) ∙ ran in
    cc
