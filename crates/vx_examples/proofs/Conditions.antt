-- The condition of the examples: that a line is `k`.
use Rattle.std.proofs.Common.{◌≡◌, ◌≤◌, ◌++◌, List, [], ◌∷◌, codes, refl, lit≤, length, Some, IsTrue}
use Rattle.std.specs.List.{list_all}
use Rattle.vx_value.specs.Paths.{path_names}
use Rattle.vx_value.specs.Texts.{ByteString}
use Rattle.vx_condition.specs.Steps.{Test}
use Rattle.vx_condition.specs.Trees.{stated, no_term, term, Disjunction, no_branch, branch}
use Rattle.vx_condition.specs.Grammar.{Then, IsPathText, is_blank}
use Rattle.vx_condition.specs.Conditions.{IsCondition}
use Rattle.vx_condition.specs.Meaning.{disjunction_holds}
use Rattle.vx_condition.specs.declared.literal.Literal.TheVariants as literal
use Rattle.vx_condition.specs.declared.predicate.Predicate.TheVariants.{Equal}
use Rattle.vx_record.specs.Transforms.{Means}

-- a token and more, with blanks between
then : {First More : ByteString → Type 0} {text : ByteString} (front blanks back : ByteString) → First front → IsTrue (list_all is_blank blanks) → More back → text ≡ front ++ (blanks ++ back) → Then First More text
then front blanks back first blank more whole = record { front = front; blanks = blanks; back = back; first = first; blank = blank; more = more; whole = whole }

path : {names : List ByteString} (rest : ByteString) → path_names (46 ∷ rest) ≡ Some names → length names ≤ 31 → IsPathText names (46 ∷ rest)
path rest named few = record { rest = rest; dot = refl; names = named; few = few }

abbrev pub k_tree : Disjunction
k_tree = branch (term (stated (Equal (codes "message" ∷ []) (literal.Words (codes "k")))) no_term) no_branch

pub k_condition : IsCondition k_tree (codes ".message == \"k\"")
k_condition = record {
  spelled = then (codes ".message") (32 ∷ []) (codes "== \"k\"") (path (codes "message") refl (lit≤ tt)) refl
      (then (codes "==") (32 ∷ []) (codes "\"k\"") refl refl (record { rest = codes "k\""; opened = refl; held = refl }) refl) refl;
  shallow = lit≤ tt;
}

abbrev pub is_k : Test
is_k e = disjunction_holds k_tree e.fields

pub means_k : Means (codes ".message == \"k\"") is_k
means_k e = record { tree = k_tree; condition = k_condition; meant = refl }
