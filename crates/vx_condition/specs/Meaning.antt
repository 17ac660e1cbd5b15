-- What a condition says of an event.
use Rattle.std.specs.Prelude.{ℤ, Bool, true, false, not, ◌&&◌, ◌||◌, ◌==◌, int_lt, int_le, Option, Some, is_some, unwrap_or, List, [], ◌∷◌, if◌then◌else◌}
use Rattle.std.specs.Ordering.{int_eq}
use Rattle.vx_value.specs.Texts.{ByteString, same_text}
use Rattle.vx_value.specs.Datum.{Datum, NamedDatum}
use Rattle.vx_value.specs.Datum as datum
use Rattle.vx_value.specs.Events.{value_at}
use Rattle.vx_condition.specs.Patterns.{has_match}
use Rattle.vx_condition.specs.Trees.{Term, negated, bracketed, stated, Conjunction, no_term, term, Disjunction, no_branch, branch}
use Rattle.vx_condition.specs.declared.comparison.Comparison.{Comparison}
use Rattle.vx_condition.specs.declared.comparison.Comparison.TheVariants.{Less, AtMost, Greater, AtLeast}
use Rattle.vx_condition.specs.declared.literal.Literal.{Literal}
use Rattle.vx_condition.specs.declared.literal.Literal.TheVariants as literal
use Rattle.vx_condition.specs.declared.predicate.Predicate.{Predicate}
use Rattle.vx_condition.specs.declared.predicate.Predicate.TheVariants.{Equal, Different, Compared, Exists, Contains, Matches}

-- whether a number compares so to another
abbrev pub compares : Comparison → ℤ → ℤ → Bool
compares Less a b = int_lt a b
compares AtMost a b = int_le a b
compares Greater a b = int_lt b a
compares AtLeast a b = int_le b a

-- whether two truth values are the same
abbrev pub same_truth : Bool → Bool → Bool
same_truth a b = if a then b else not b

-- whether a value is the one that is written
abbrev pub is_literal : Literal → Datum → Bool
is_literal literal.Null datum.Null = true
is_literal (literal.Truth a) (datum.Truth b) = same_truth a b
is_literal (literal.Whole a) (datum.Whole b) = int_eq a b
is_literal (literal.Words a) (datum.Words b) = same_text a b
is_literal l d = false

-- whether there is a whole number, of which a test holds
abbrev pub is_whole_and : (ℤ → Bool) → Option Datum → Bool
is_whole_and test (Some (datum.Whole z)) = test z
is_whole_and test d = false

-- whether there is a text, of which a test holds
abbrev pub is_words_and : (ByteString → Bool) → Option Datum → Bool
is_words_and test (Some (datum.Words w)) = test w
is_words_and test d = false

-- whether a text begins with another
abbrev pub begins_with : ByteString → ByteString → Bool
begins_with [] text = true
begins_with (a ∷ part) [] = false
begins_with (a ∷ part) (b ∷ text) = (a == b) && begins_with part text

-- whether a text is a part of another
abbrev pub is_part : ByteString → ByteString → Bool
is_part part [] = begins_with part []
is_part part (b ∷ text) = begins_with part (b ∷ text) || is_part part text

-- whether a predicate holds of an event's fields
abbrev pub predicate_holds : Predicate → List NamedDatum → Bool
predicate_holds (Equal path written) fields = is_literal written (unwrap_or (value_at fields path) datum.Null)
predicate_holds (Different path written) fields = not (is_literal written (unwrap_or (value_at fields path) datum.Null))
predicate_holds (Compared path comparison number) fields = is_whole_and (λ whole. compares comparison whole number) (value_at fields path)
predicate_holds (Exists path) fields = is_some (value_at fields path)
predicate_holds (Contains path part) fields = is_words_and (is_part part) (value_at fields path)
predicate_holds (Matches path pattern) fields = is_words_and (has_match pattern) (value_at fields path)

-- whether a predicate is none of a match
abbrev pub is_match_free : Predicate → Bool
is_match_free (Matches path pattern) = false
is_match_free p = true

abbrev mutual
  -- whether a term holds of an event's fields
  pub term_holds : Term → List NamedDatum → Bool
  term_holds (negated t) fields = not (term_holds t fields)
  term_holds (bracketed d) fields = disjunction_holds d fields
  term_holds (stated p) fields = predicate_holds p fields

  -- whether each term holds
  pub conjunction_holds : Conjunction → List NamedDatum → Bool
  conjunction_holds no_term fields = true
  conjunction_holds (term t ts) fields = term_holds t fields && conjunction_holds ts fields

  -- whether some branch holds
  pub disjunction_holds : Disjunction → List NamedDatum → Bool
  disjunction_holds no_branch fields = false
  disjunction_holds (branch c cs) fields = conjunction_holds c fields || disjunction_holds cs fields

abbrev mutual
  -- whether a term has no match in it
  pub is_free_term : Term → Bool
  is_free_term (negated t) = is_free_term t
  is_free_term (bracketed d) = is_free_disjunction d
  is_free_term (stated p) = is_match_free p

  -- the same of each term
  pub is_free_conjunction : Conjunction → Bool
  is_free_conjunction no_term = true
  is_free_conjunction (term t ts) = is_free_term t && is_free_conjunction ts

  -- the same of each branch
  pub is_free_disjunction : Disjunction → Bool
  is_free_disjunction no_branch = true
  is_free_disjunction (branch c cs) = is_free_conjunction c && is_free_disjunction cs
