-- What a text makes of a reader.
use Rattle.std.specs.Prelude.{ℕ, Bool, Result, Ok, Err, List, [], ◌∷◌, ◌++◌}
use Rattle.vx_value.specs.Texts.{ByteString}
use Rattle.vx_condition.specs.Trees as tree
use Rattle.vx_condition.specs.Trees.{Term, negated, bracketed, Conjunction, no_term, term, Disjunction, no_branch, branch}
use Rattle.vx_condition.specs.declared.frame.Frame.{Frame}
use Rattle.vx_condition.specs.Moves.{step, fresh, stated, with_number, with_term, signed, sought}
use Rattle.vx_condition.specs.declared.predicate.Predicate.{Predicate}
use Rattle.vx_condition.specs.declared.predicate.Predicate.TheVariants as predicate
use Rattle.vx_condition.specs.declared.mode.Mode.{Mode}
use Rattle.vx_condition.specs.declared.mode.Mode.TheVariants as mode
use Rattle.vx_condition.specs.declared.reader.Reader.{Reader}
use Rattle.vx_condition.specs.declared.stop.Stop.{Stop}

-- a further move, if the one before it was made
abbrev pub go_on : Result Reader Stop → (Reader → Result Reader Stop) → Result Reader Stop
go_on (Ok r) further = further r
go_on (Err stop) further = Err stop

-- what a text makes of a reader that opens so many levels at most
abbrev pub run : ℕ → Reader → ByteString → Result Reader Stop
run most r [] = Ok r
run most r (b ∷ text) = go_on (step most r b) (λ next. run most next text)

-- a reader before everything
abbrev pub begun : Bool → Reader
begun keeps = record { frame = fresh 0; outer = []; mode = mode.Start; keeps = keeps }

-- a reader at the end of the text: a number that has begun is whole there
abbrev pub settle_at : Reader → Mode → Reader
settle_at r (mode.Whole p o negative size) = stated r (with_number p o (signed negative size))
settle_at r m = r

abbrev pub settled : Result Reader Stop → Result Reader Stop
settled (Ok r) = Ok (settle_at r r.mode)
settled (Err stop) = Err stop

-- what a whole text makes of a reader
abbrev pub out : ℕ → Reader → ByteString → Result Reader Stop
out most r text = settled (run most r text)

-- a predicate as a reader keeps it
abbrev pub kept : Bool → Predicate → Predicate
kept keeps (predicate.Matches p pattern) = sought keeps p pattern
kept keeps p = p

abbrev mutual
  -- a tree as a reader keeps it
  pub kept_term : Bool → Term → Term
  kept_term keeps (negated t) = negated (kept_term keeps t)
  kept_term keeps (bracketed d) = bracketed (kept_disjunction keeps d)
  kept_term keeps (tree.stated p) = tree.stated (kept keeps p)

  pub kept_conjunction : Bool → Conjunction → Conjunction
  kept_conjunction keeps no_term = no_term
  kept_conjunction keeps (term t ts) = term (kept_term keeps t) (kept_conjunction keeps ts)

  pub kept_disjunction : Bool → Disjunction → Disjunction
  kept_disjunction keeps no_branch = no_branch
  kept_disjunction keeps (branch c cs) = branch (kept_conjunction keeps c) (kept_disjunction keeps cs)

-- the terms of a conjunction
abbrev pub terms_in : Conjunction → List Term
terms_in no_term = []
terms_in (term t ts) = t ∷ terms_in ts

-- the terms of each branch
abbrev pub branches_in : Disjunction → List (List Term)
branches_in no_branch = []
branches_in (branch c cs) = terms_in c ∷ branches_in cs

-- a reader behind a term
abbrev pub behind_term : Reader → Term → Reader
behind_term r t = record r { frame = with_term r.frame t; mode = mode.Complete }

-- a reader with so many levels open, and with branches and terms read inside its brackets
abbrev pub inside : Bool → ℕ → List Frame → List (List Term) → List Term → Mode → Reader
inside keeps base outer branches terms m =
    record { frame = record { base = base; branches = branches; terms = terms; negations = 0 }; outer = outer; mode = m; keeps = keeps }

-- what a disjunction makes of the branches that are whole, and of the one that has begun
abbrev pub earlier_branches : List (List Term) → Disjunction → List (List Term)
earlier_branches branches no_branch = branches
earlier_branches branches (branch c no_branch) = branches
earlier_branches branches (branch c (branch d ds)) = earlier_branches (branches ++ terms_in c ∷ []) (branch d ds)

abbrev pub last_branch : Disjunction → List Term
last_branch no_branch = []
last_branch (branch c no_branch) = terms_in c
last_branch (branch c (branch d ds)) = last_branch (branch d ds)
