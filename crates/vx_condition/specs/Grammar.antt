-- The texts of conditions.
use Rattle.std.specs.Prelude.{◌≡◌, ◌⊎◌, ℕ, ◌≤◌, ◌<◌, ◌==◌, ◌&&◌, ◌||◌, ◌++◌, ◌+◌, ◌-◌, ◌*◌, ◌^◌, nat_le, suc, Bool, true, false, ℤ, pos, negsuc, Option, Some, None, IsTrue, not, List, [], ◌∷◌, length, codes, if◌then◌else◌}
use Rattle.std.specs.List.{list_all, list_any}
use Rattle.vx_value.specs.Texts.{ByteString}
use Rattle.vx_value.specs.Paths.{path_names}
use Rattle.vx_condition.specs.Trees.{Term, negated, bracketed, stated, Conjunction, no_term, term, Disjunction, no_branch, branch}
use Rattle.vx_condition.specs.declared.comparison.Comparison.{Comparison}
use Rattle.vx_condition.specs.declared.comparison.Comparison.TheVariants.{Less, AtMost, Greater, AtLeast}
use Rattle.vx_condition.specs.declared.literal.Literal.{Literal}
use Rattle.vx_condition.specs.declared.literal.Literal.TheVariants as literal
use Rattle.vx_condition.specs.declared.predicate.Predicate.{Predicate}
use Rattle.vx_condition.specs.declared.predicate.Predicate.TheVariants.{Equal, Different, Compared, Exists, Contains, Matches}

-- whether a byte is a blank: a tab, a line feed, a carriage return or a space
abbrev pub is_blank : ℕ → Bool
is_blank b = (b == 9) || (b == 10) || (b == 13) || (b == 32)

-- the text is a token and then more, with any blanks between
pub record Then (First More : ByteString → Type 0) (text : ByteString) : Type 0 where
  pub front : ByteString
  pub blanks : ByteString
  pub back : ByteString
  pub first : First front
  pub blank : IsTrue (list_all is_blank blanks)
  pub more : More back
  pub whole : text ≡ front ++ (blanks ++ back)

-- the text is that token
abbrev pub Is : ByteString → ByteString → Type 0
Is token text = text ≡ token

-- the text is a path: its dot, and the names, of which there are 31 at most
pub record IsPathText (path : List ByteString) (text : ByteString) : Type 0 where
  pub rest : ByteString
  pub dot : text ≡ 46 ∷ rest
  pub names : path_names text ≡ Some path
  pub few : length path ≤ 31

-- the byte that a letter behind a backslash stands for, if it is an escape of strings
abbrev pub escaped : ℕ → Option ℕ
escaped b =
    if (b == 34) || (b == 92) then Some b
    else (if b == 110 then Some 10 else (if b == 114 then Some 13 else (if b == 116 then Some 9 else None)))

-- a byte before what is read of the rest
abbrev pub before_rest : Option ℕ → Option ByteString → Option ByteString
before_rest (Some b) (Some rest) = Some (b ∷ rest)
before_rest b rest = None

-- what a string holds, by what stands behind its first quote: escapes and other bytes, and then the quote that ends the text
abbrev pub quoted : ByteString → Option ByteString
quoted [] = None
quoted (b ∷ []) = if b == 34 then Some [] else None
quoted (b ∷ c ∷ rest) =
    if b == 34 then None
    else (if b == 92 then before_rest (escaped c) (quoted rest) else before_rest (Some b) (quoted (c ∷ rest)))

-- the text is a string that holds a word
pub record IsString (word text : ByteString) : Type 0 where
  pub rest : ByteString
  pub opened : text ≡ 34 ∷ rest
  pub held : quoted rest ≡ Some word

-- whether a byte is a digit
abbrev pub is_digit : ℕ → Bool
is_digit b = nat_le 48 b && nat_le b 57

-- whether there are digits, the first of which isn't a needless zero
abbrev pub begins_well : ByteString → Bool
begins_well [] = false
begins_well (b ∷ []) = true
begins_well (b ∷ c ∷ digits) = not (b == 48)

-- the number that digits give behind a number
abbrev pub number_behind : ℕ → ByteString → ℕ
number_behind n [] = n
number_behind n (b ∷ digits) = number_behind (10 * n + (b - 48)) digits

-- the text is the digits of a number
pub record IsNumber (number : ℕ) (text : ByteString) : Type 0 where
  pub digits : IsTrue (list_all is_digit text)
  pub plain : IsTrue (begins_well text)
  pub value : number_behind 0 text ≡ number

-- the text is `-` and the digits of a number
pub record IsMinus (size : ℕ) (text : ByteString) : Type 0 where
  pub rest : ByteString
  pub sign : text ≡ 45 ∷ rest
  pub number : IsNumber size rest

-- the text is a whole number of 64 bits, as it is written
abbrev pub IsWhole : ℤ → ByteString → Type 0
IsWhole (pos n) text = IsNumber n text × (n < 2 ^ 63)
IsWhole (negsuc n) text = IsMinus (suc n) text × (n < 2 ^ 63)

-- the text is a pattern in its quotes, of which it has none
pub record IsPatternText (pattern text : ByteString) : Type 0 where
  pub bare : IsTrue (not (list_any (λ b. b == 39) pattern))
  pub written : text ≡ codes "r'" ++ (pattern ++ 39 ∷ [])

-- the text is a literal
abbrev pub IsLiteralText : Literal → ByteString → Type 0
IsLiteralText literal.Null text = text ≡ codes "null"
IsLiteralText (literal.Truth true) text = text ≡ codes "true"
IsLiteralText (literal.Truth false) text = text ≡ codes "false"
IsLiteralText (literal.Whole number) text = IsWhole number text
IsLiteralText (literal.Words word) text = IsString word text

-- the sign of a comparison
abbrev pub sign_of : Comparison → ByteString
sign_of Less = codes "<"
sign_of AtMost = codes "<="
sign_of Greater = codes ">"
sign_of AtLeast = codes ">="

-- a path, a comma and an argument in brackets
abbrev pub Arguments : (ByteString → Type 0) → (ByteString → Type 0) → ByteString → Type 0
Arguments Path Last = Then (Is (codes "(")) (Then Path (Then (Is (codes ",")) (Then Last (Is (codes ")")))))

-- a name and arguments, with a `!` before these or without
abbrev pub Call : ByteString → (ByteString → Type 0) → ByteString → Type 0
Call name Rest text = Then (Is name) Rest text ⊎ Then (Is name) (Then (Is (codes "!")) Rest) text

-- the text is a predicate
abbrev pub IsPredicateText : Predicate → ByteString → Type 0
IsPredicateText (Equal path written) = Then (IsPathText path) (Then (Is (codes "==")) (IsLiteralText written))
IsPredicateText (Different path written) = Then (IsPathText path) (Then (Is (codes "!=")) (IsLiteralText written))
IsPredicateText (Compared path comparison number) = Then (IsPathText path) (Then (Is (sign_of comparison)) (IsWhole number))
IsPredicateText (Exists path) = Then (Is (codes "exists")) (Then (Is (codes "(")) (Then (IsPathText path) (Is (codes ")"))))
IsPredicateText (Contains path word) = Call (codes "contains") (Arguments (IsPathText path) (IsString word))
IsPredicateText (Matches path pattern) = Call (codes "match") (Arguments (IsPathText path) (IsPatternText pattern))

abbrev mutual
  -- the text is a term: a negated one, a condition in brackets or a predicate
  pub IsTermText : Term → ByteString → Type 0
  IsTermText (negated t) = Then (Is (codes "!")) (IsTermText t)
  IsTermText (bracketed d) = Then (Is (codes "(")) (Then (IsDisjunctionText d) (Is (codes ")")))
  IsTermText (stated p) = IsPredicateText p

  -- the text is one term, or several with `&&` between them
  pub IsConjunctionText : Conjunction → ByteString → Type 0
  IsConjunctionText no_term = λ text. ⊥
  IsConjunctionText (term t no_term) = IsTermText t
  IsConjunctionText (term t (term u ts)) = Then (IsTermText t) (Then (Is (codes "&&")) (IsConjunctionText (term u ts)))

  -- the text is one conjunction, or several with `||` between them
  pub IsDisjunctionText : Disjunction → ByteString → Type 0
  IsDisjunctionText no_branch = λ text. ⊥
  IsDisjunctionText (branch c no_branch) = IsConjunctionText c
  IsDisjunctionText (branch c (branch d ds)) = Then (IsConjunctionText c) (Then (Is (codes "||")) (IsDisjunctionText (branch d ds)))
