-- What a text has to go on with at each place of a reader, to be a condition.
use Rattle.std.proofs.Common.{◌≡◌, ℕ, suc, ◌-◌, ◌^◌, ◌<◌, ◌≤◌, Bool, true, false, ◌==◌, Some, ℤ, negsuc, List, [], ◌∷◌, ◌++◌, length, drop, codes, ◌⊎◌}
use Rattle.std.specs.List.{list_all, list_any}
use Rattle.vx_value.specs.Texts.{ByteString}
use Rattle.vx_value.specs.Paths.{names_from}
use Rattle.vx_condition.specs.Trees as tree
use Rattle.vx_condition.specs.Trees.{Term, bracketed, Conjunction, no_term, term, Disjunction, no_branch, branch, disjunction_of}
use Rattle.vx_condition.specs.Grammar.{Then, Is, is_blank, is_digit, escaped, quoted, IsPathText, IsString, IsNumber, IsWhole, IsPatternText, IsLiteralText, IsTermText, IsConjunctionText, IsDisjunctionText, sign_of, number_behind}
use Rattle.vx_condition.specs.Conditions.{term_levels, conjunction_levels, disjunction_levels}
use Rattle.vx_condition.specs.Words.{letters_of}
use Rattle.vx_condition.specs.Moves.{equal_to, with_number, signed, fits, sought, or_equal, levels_in, with_term}
use Rattle.vx_condition.specs.Runs.{kept_term, kept_conjunction, kept_disjunction, terms_in, branches_in}
use Rattle.vx_condition.specs.declared.predicate.Predicate.{Predicate}
use Rattle.vx_condition.specs.declared.predicate.Predicate.TheVariants.{Exists, Contains, Compared}
use Rattle.vx_condition.specs.declared.literal.Literal.{Literal}
use Rattle.vx_condition.specs.declared.literal.Literal.TheVariants as literal
use Rattle.vx_condition.specs.declared.comparison.Comparison.{Comparison}
use Rattle.vx_condition.specs.declared.operator.Operator.{Operator}
use Rattle.vx_condition.specs.declared.operator.Operator.TheVariants as operator
use Rattle.vx_condition.specs.declared.operator.Equality.{Equality}
use Rattle.vx_condition.specs.declared.operator.Equality.TheVariants as equality
use Rattle.vx_condition.specs.declared.call.Call.{Call}
use Rattle.vx_condition.specs.declared.call.Call.TheVariants as call
use Rattle.vx_condition.specs.declared.call.Search.{Search}
use Rattle.vx_condition.specs.declared.call.Search.TheVariants as search_for
use Rattle.vx_condition.specs.declared.fixed_word.FixedWord.{FixedWord}
use Rattle.vx_value.specs.declared.path_mode.PathMode.{PathMode}
use Rattle.vx_condition.specs.declared.expected.Expected.{Expected}
use Rattle.vx_condition.specs.declared.expected.Expected.TheVariants as wants
use Rattle.vx_condition.specs.declared.mode.Behind.{Behind}
use Rattle.vx_condition.specs.declared.mode.Behind.TheVariants.{Wants, Done}
use Rattle.vx_condition.specs.declared.mode.PathUse.{PathUse}
use Rattle.vx_condition.specs.declared.mode.PathUse.TheVariants as path_of
use Rattle.vx_condition.specs.declared.mode.TextUse.{TextUse}
use Rattle.vx_condition.specs.declared.mode.TextUse.TheVariants as text_of
use Rattle.vx_condition.specs.declared.mode.Mode.{Mode}
use Rattle.vx_condition.specs.declared.mode.Mode.TheVariants as mode
use Rattle.vx_condition.specs.declared.frame.Frame.{Frame}
use Rattle.vx_condition.specs.declared.reader.Reader.{Reader}

-- any blanks, and then a text
pub record Blanks (More : ByteString → Type 0) (text : ByteString) : Type 0 where
  pub blanks : ByteString
  pub back : ByteString
  pub blank : list_all is_blank blanks ≡ true
  pub more : More back
  pub whole : text ≡ blanks ++ back

-- ---- the rest of a predicate

-- the bracket that closes a call
pub record Close (q found : Predicate) (text : ByteString) : Type 0 where
  pub same : found ≡ q
  pub written : text ≡ codes ")"

-- what is looked for, and the closing bracket
pub record Worded (IsWord : ByteString → ByteString → Type 0) (made : ByteString → Predicate) (found : Predicate) (text : ByteString) : Type 0 where
  pub word : ByteString
  pub rest : Then (IsWord word) (Close (made word) found) text

abbrev pub Part : List ByteString → Predicate → ByteString → Type 0
Part p = Worded IsString (λ word. Contains p word)

abbrev pub Sought : Bool → List ByteString → Predicate → ByteString → Type 0
Sought keeps p = Worded IsPatternText (λ word. sought keeps p word)

abbrev pub Argument : Bool → Search → List ByteString → Predicate → ByteString → Type 0
Argument keeps search_for.Part p = Part p
Argument keeps search_for.Pattern p = Sought keeps p

-- a literal behind an operator
pub record Equated (p : List ByteString) (e : Equality) (found : Predicate) (text : ByteString) : Type 0 where
  pub value : Literal
  pub same : found ≡ equal_to p e value
  pub written : IsLiteralText value text

pub record Measured (p : List ByteString) (c : Comparison) (found : Predicate) (text : ByteString) : Type 0 where
  pub number : ℤ
  pub same : found ≡ Compared p c number
  pub written : IsWhole number text

abbrev pub LiteralRest : List ByteString → Operator → Predicate → ByteString → Type 0
LiteralRest p (operator.Is e) = Equated p e
LiteralRest p (operator.Compared c) = Measured p c

abbrev pub sign_for : Operator → ByteString
sign_for (operator.Is equality.Equal) = codes "=="
sign_for (operator.Is equality.Different) = codes "!="
sign_for (operator.Compared c) = sign_of c

-- an operator and a literal
pub record Operated (p : List ByteString) (found : Predicate) (text : ByteString) : Type 0 where
  pub sign : Operator
  pub rest : Then (Is (sign_for sign)) (LiteralRest p sign found) text

-- what stands behind a path
abbrev pub BehindPath : Bool → PathUse → List ByteString → Predicate → ByteString → Type 0
BehindPath keeps path_of.Compared p = Operated p
BehindPath keeps (path_of.Called call.Exists) p = Close (Exists p)
BehindPath keeps (path_of.Called (call.Has s)) p = λ found. Then (Is (codes ",")) (Argument keeps s p found)

-- a path, and what stands behind it
pub record Pathed (keeps : Bool) (use_of : PathUse) (found : Predicate) (text : ByteString) : Type 0 where
  pub path : List ByteString
  pub rest : Then (IsPathText path) (BehindPath keeps use_of path found) text

abbrev pub Bracket : Bool → Call → Predicate → ByteString → Type 0
Bracket keeps c found = Then (Is (codes "(")) (Pathed keeps (path_of.Called c) found)

abbrev pub Open : Bool → Call → Predicate → ByteString → Type 0
Open keeps call.Exists found text = Bracket keeps call.Exists found text
Open keeps (call.Has s) found text = Bracket keeps (call.Has s) found text ⊎ Then (Is (codes "!")) (Bracket keeps (call.Has s) found) text

-- what is expected, where it is no term and no joint
abbrev pub ExpectedRest : Bool → Expected → Predicate → ByteString → Type 0
ExpectedRest keeps wants.Operand found text = ⊥
ExpectedRest keeps (wants.Operator p) found text = Operated p found text
ExpectedRest keeps (wants.Literal p o) found text = LiteralRest p o found text
ExpectedRest keeps (wants.Open c) found text = Open keeps c found text
ExpectedRest keeps (wants.Bracket c) found text = Bracket keeps c found text
ExpectedRest keeps (wants.Path c) found text = Pathed keeps (path_of.Called c) found text
ExpectedRest keeps (wants.Comma s p) found text = Then (Is (codes ",")) (Argument keeps s p found) text
ExpectedRest keeps (wants.Argument s p) found text = Argument keeps s p found text
ExpectedRest keeps (wants.Close q) found text = Close q found text
ExpectedRest keeps wants.Joint found text = ⊥

-- a fixed word, of which some letters were read
pub record InWord (w : FixedWord) (read : ℕ) (More : ByteString → Type 0) (text : ByteString) : Type 0 where
  pub back : ByteString
  pub more : More back
  pub whole : text ≡ drop read (letters_of w) ++ back

pub record Completed (q found : Predicate) (text : ByteString) : Type 0 where
  pub same : found ≡ q
  pub none : text ≡ []

-- a path that has begun
pub record InPath (keeps : Bool) (use_of : PathUse) (place : PathMode) (name : ByteString) (names : List ByteString) (found : Predicate) (text : ByteString) : Type 0 where
  pub front : ByteString
  pub back : ByteString
  pub others : List ByteString
  pub named : names_from place name front ≡ Some others
  pub few : length (names ++ others) ≤ 31
  pub more : Blanks (BehindPath keeps use_of (names ++ others) found) back
  pub whole : text ≡ front ++ back

-- behind a text in quotes
abbrev pub BehindText : TextUse → ByteString → Predicate → ByteString → Type 0
BehindText (text_of.Literal p e) word found text = Completed (equal_to p e (literal.Words word)) found text
BehindText (text_of.Part p) word found text = Blanks (Close (Contains p word) found) text

-- a text in quotes that has begun
pub record InText (use_of : TextUse) (held : ByteString) (found : Predicate) (text : ByteString) : Type 0 where
  pub front : ByteString
  pub back : ByteString
  pub word : ByteString
  pub spelled : quoted front ≡ Some word
  pub more : BehindText use_of (held ++ word) found back
  pub whole : text ≡ front ++ back

pub record InEscape (use_of : TextUse) (held : ByteString) (found : Predicate) (text : ByteString) : Type 0 where
  pub letter : ℕ
  pub byte : ℕ
  pub back : ByteString
  pub stands : escaped letter ≡ Some byte
  pub more : InText use_of (held ++ byte ∷ []) found back
  pub whole : text ≡ letter ∷ back

-- a pattern that has begun
pub record InPattern (keeps : Bool) (p : List ByteString) (held : ByteString) (found : Predicate) (text : ByteString) : Type 0 where
  pub front : ByteString
  pub back : ByteString
  pub bare : list_any (λ b. b == 39) front ≡ false
  pub more : Blanks (Close (sought keeps p (held ++ front)) found) back
  pub whole : text ≡ front ++ (39 ∷ back)

pub record InMark (keeps : Bool) (p : List ByteString) (found : Predicate) (text : ByteString) : Type 0 where
  pub back : ByteString
  pub more : InPattern keeps p [] found back
  pub whole : text ≡ 39 ∷ back

-- a number that has begun
pub record InMinus (p : List ByteString) (o : Operator) (found : Predicate) (text : ByteString) : Type 0 where
  pub less : ℕ
  pub number : IsNumber (suc less) text
  pub small : less < 2 ^ 63
  pub same : found ≡ with_number p o (negsuc less)

pub record InWhole (p : List ByteString) (o : Operator) (negative : Bool) (size : ℕ) (found : Predicate) (text : ByteString) : Type 0 where
  pub digits : list_all is_digit text ≡ true
  pub plain : size ≡ 0 → text ≡ []
  pub small : fits negative (number_behind size text) ≡ true
  pub same : found ≡ with_number p o (signed negative (number_behind size text))

pub record InAngle (p : List ByteString) (c : Comparison) (found : Predicate) (text : ByteString) : Type 0 where
  pub back : ByteString
  pub more : Blanks (Measured p (or_equal c) found) back
  pub whole : text ≡ 61 ∷ back

-- ---- the rest of a condition

-- more terms of a branch
abbrev pub MoreTerms : Conjunction → ByteString → Type 0
MoreTerms no_term text = text ≡ []
MoreTerms (term t ts) text = Blanks (Then (Is (codes "&&")) (IsConjunctionText (term t ts))) text

-- more branches of a condition
abbrev pub MoreBranches : Disjunction → ByteString → Type 0
MoreBranches no_branch text = text ≡ []
MoreBranches (branch c cs) text = Blanks (Then (Is (codes "||")) (IsDisjunctionText (branch c cs))) text

-- what was read inside some brackets, and more terms and branches
abbrev pub all_with : Bool → Frame → Conjunction → Disjunction → Disjunction
all_with keeps f ts cs = disjunction_of (f.branches ++ (f.terms ++ terms_in (kept_conjunction keeps ts)) ∷ branches_in (kept_disjunction keeps cs))

-- the rest of what stands in some brackets, behind a term
pub record Tails (most : ℕ) (base : ℕ) (ts : Conjunction) (cs : Disjunction) (text : ByteString) : Type 0 where
  pub front : ByteString
  pub back : ByteString
  pub terms : MoreTerms ts front
  pub branches : MoreBranches cs back
  pub whole : text ≡ front ++ back
  pub low_terms : conjunction_levels ts ≤ most - base
  pub low_branches : disjunction_levels cs ≤ most - base

pub record Ends (most : ℕ) (keeps : Bool) (f : Frame) (all : Disjunction) (text : ByteString) : Type 0 where
  pub terms : Conjunction
  pub branches : Disjunction
  pub tails : Tails most f.base terms branches text
  pub same : all ≡ all_with keeps f terms branches

pub record Closes (most : ℕ) (keeps : Bool) (f : Frame) (Outside : Disjunction → ByteString → Type 0) (text : ByteString) : Type 0 where
  pub terms : Conjunction
  pub branches : Disjunction
  pub front : ByteString
  pub blanks : ByteString
  pub back : ByteString
  pub tails : Tails most f.base terms branches front
  pub blank : list_all is_blank blanks ≡ true
  pub more : Outside (all_with keeps f terms branches) back
  pub whole : text ≡ front ++ (blanks ++ 41 ∷ back)

-- behind a term, with the frames around it
abbrev pub After : ℕ → Bool → Frame → List Frame → Disjunction → ByteString → Type 0
After most keeps f [] all text = Ends most keeps f all text
After most keeps f (g ∷ outer) all text = Closes most keeps f (λ inside. After most keeps (with_term g (bracketed inside)) outer all) text

-- a term, and the rest
pub record Before (most : ℕ) (keeps : Bool) (f : Frame) (outer : List Frame) (all : Disjunction) (text : ByteString) : Type 0 where
  pub first : Term
  pub front : ByteString
  pub back : ByteString
  pub spelled : IsTermText first front
  pub low : term_levels first ≤ most - levels_in f
  pub more : After most keeps (with_term f (kept_term keeps first)) outer all back
  pub whole : text ≡ front ++ back

-- behind a term, where blanks may have been read
pub record Joins (most : ℕ) (keeps : Bool) (f : Frame) (outer : List Frame) (all : Disjunction) (text : ByteString) : Type 0 where
  pub behind : (blanks : ByteString) → list_all is_blank blanks ≡ true → After most keeps f outer all (blanks ++ text)

-- the rest of a predicate, and what stands behind it
pub record Finishes (most : ℕ) (keeps : Bool) (f : Frame) (outer : List Frame) (Rest : Predicate → ByteString → Type 0) (all : Disjunction) (text : ByteString) : Type 0 where
  pub found : Predicate
  pub front : ByteString
  pub back : ByteString
  pub rest : Rest found front
  pub more : After most keeps (with_term f (tree.stated found)) outer all back
  pub whole : text ≡ front ++ back

abbrev pub RestExpected : ℕ → Bool → Frame → List Frame → Expected → Disjunction → ByteString → Type 0
RestExpected most keeps f outer wants.Operand all text = Blanks (Before most keeps f outer all) text
RestExpected most keeps f outer wants.Joint all text = Joins most keeps f outer all text
RestExpected most keeps f outer e all text = Finishes most keeps f outer (λ found. Blanks (ExpectedRest keeps e found)) all text

abbrev pub RestBehind : ℕ → Bool → Frame → List Frame → Behind → Disjunction → ByteString → Type 0
RestBehind most keeps f outer (Wants e) all text = RestExpected most keeps f outer e all text
RestBehind most keeps f outer (Done q) all text = After most keeps (with_term f (tree.stated q)) outer all text

abbrev pub RestAt : ℕ → Bool → Frame → List Frame → Mode → Disjunction → ByteString → Type 0
RestAt most keeps f outer mode.Start all text = Before most keeps f outer all text
RestAt most keeps f outer (mode.Expects e) all text = RestExpected most keeps f outer e all text
RestAt most keeps f outer mode.Complete all text = After most keeps f outer all text
RestAt most keeps f outer (mode.Word w read behind) all text = InWord w read (RestBehind most keeps f outer behind all) text
RestAt most keeps f outer (mode.Path use_of place name names) all text = Finishes most keeps f outer (InPath keeps use_of place name names) all text
RestAt most keeps f outer (mode.Text use_of false held) all text = Finishes most keeps f outer (InText use_of held) all text
RestAt most keeps f outer (mode.Text use_of true held) all text = Finishes most keeps f outer (InEscape use_of held) all text
RestAt most keeps f outer (mode.Mark p) all text = Finishes most keeps f outer (InMark keeps p) all text
RestAt most keeps f outer (mode.Pattern p held) all text = Finishes most keeps f outer (InPattern keeps p held) all text
RestAt most keeps f outer (mode.Minus p o) all text = Finishes most keeps f outer (InMinus p o) all text
RestAt most keeps f outer (mode.Whole p o negative size) all text = Finishes most keeps f outer (InWhole p o negative size) all text
RestAt most keeps f outer (mode.Angle p c) all text =
    Finishes most keeps f outer (InAngle p c) all text ⊎ Finishes most keeps f outer (λ found. Blanks (Measured p c found)) all text

-- a text completes what a reader has read to a condition with that tree
abbrev pub Rest : ℕ → Reader → Disjunction → ByteString → Type 0
Rest most r all text = RestAt most r.keeps r.frame r.outer r.mode all text
