use Rattle.std.proofs.Common.{◌≡◌, ◌≤◌, ◌++◌, List, [], ◌∷◌, codes, refl, lit≤, lit<, length, Some, inl, IsTrue}
use Rattle.std.specs.List.{list_all}
use Rattle.vx_value.specs.Paths.{path_names}
use Rattle.vx_value.specs.Texts.{ByteString}
use Rattle.vx_condition.specs.Grammar.{Then, IsPathText, is_blank}
use Rattle.vx_condition.proofs.examples.conditions.Goals as goal

-- a token and more, with blanks between
then : {First More : ByteString → Type 0} {text : ByteString} (front blanks back : ByteString) → First front → IsTrue (list_all is_blank blanks) → More back → text ≡ front ++ (blanks ++ back) → Then First More text
then front blanks back first blank more whole = record { front = front; blanks = blanks; back = back; first = first; blank = blank; more = more; whole = whole }

path : {names : List ByteString} (rest : ByteString) → path_names (46 ∷ rest) ≡ Some names → length names ≤ 31 → IsPathText names (46 ∷ rest)
path rest named few = record { rest = rest; dot = refl; names = named; few = few }

pub returns-clause-message_text : goal.returns-clause-message_text
returns-clause-message_text c = record {
  spelled = then (codes ".message") (32 ∷ []) (codes "== \"k\"") (path (codes "message") refl (lit≤ tt)) refl
      (then (codes "==") (32 ∷ []) (codes "\"k\"") refl refl (record { rest = codes "k\""; opened = refl; held = refl }) refl) refl;
  shallow = lit≤ tt;
}

pub returns-clause-null_text : goal.returns-clause-null_text
returns-clause-null_text c = record {
  spelled = then (codes ".a") (32 ∷ []) (codes "== null") (path (codes "a") refl (lit≤ tt)) refl
      (then (codes "==") (32 ∷ []) (codes "null") refl refl refl refl) refl;
  shallow = lit≤ tt;
}

pub returns-clause-two_terms_text : goal.returns-clause-two_terms_text
returns-clause-two_terms_text c = record {
  spelled = then (codes ".n > 3") (32 ∷ []) (codes "&& !exists(.x)")
      (then (codes ".n") (32 ∷ []) (codes "> 3") (path (codes "n") refl (lit≤ tt)) refl
      (then (codes ">") (32 ∷ []) (codes "3") refl refl (record { digits = refl; plain = refl; value = refl }, lit< tt) refl) refl)
      refl
      (then (codes "&&") (32 ∷ []) (codes "!exists(.x)") refl refl
      (then (codes "!") [] (codes "exists(.x)") refl refl
      (then (codes "exists") [] (codes "(.x)") refl refl
      (then (codes "(") [] (codes ".x)") refl refl
      (then (codes ".x") [] (codes ")") (path (codes "x") refl (lit≤ tt)) refl refl refl) refl) refl) refl) refl)
      refl;
  shallow = lit≤ tt;
}

pub returns-clause-match_text : goal.returns-clause-match_text
returns-clause-match_text c = record {
  spelled = inl (then (codes "match") [] (codes "(.message, r'^d.*l$')") refl refl
      (then (codes "(") [] (codes ".message, r'^d.*l$')") refl refl
      (then (codes ".message") [] (codes ", r'^d.*l$')") (path (codes "message") refl (lit≤ tt)) refl
      (then (codes ",") (32 ∷ []) (codes "r'^d.*l$')") refl refl
      (then (codes "r'^d.*l$'") [] (codes ")") (record { bare = refl; written = refl }) refl refl refl) refl) refl) refl) refl);
  shallow = lit≤ tt;
}
