-- The texts of JSON, by the cases of its grammar, and the value of each.
use Rattle.std.specs.Prelude.{◌≡◌, ℕ, suc, max, Bool, true, false, ◌&&◌, ◌||◌, ◌==◌, IsTrue, ℤ, List, [], ◌∷◌, ◌++◌, codes, FitsSigned}
use Rattle.std.specs.Fmt.{signed_decimal}
use Rattle.std.specs.Int.{w64}
use Rattle.vx_value.specs.Texts.{ByteString}
use Rattle.vx_value.specs.Datum.{Datum, Null, Truth, Whole, Spelled, Words, Items, Fields, NamedDatum, data_of, named_of}
use Rattle.vx_value.specs.Events.{with_field}
use Rattle.vx_json.specs.Numbers.{NumberParts}
use Rattle.vx_json.specs.Strings.{Piece, ArePieces, pieces_bytes, string_text}

-- whether a byte is a blank: a space, a tab, a line feed or a carriage return
abbrev pub is_blank : ℕ → Bool
is_blank b = (b == 32) || ((b == 9) || ((b == 10) || (b == 13)))

-- whether all bytes are blanks
abbrev pub are_blanks : ByteString → Bool
are_blanks [] = true
are_blanks (b ∷ w) = is_blank b && are_blanks w

mutual
  -- a value as it is spelled
  pub data Syntax : Type 0 where
    NullWord : Syntax
    TruthWord : Bool → Syntax
    -- a number that is spelled as a whole number of 64 bits is written
    WholeNumber : ℤ → Syntax
    -- any other number
    OtherNumber : ByteString → Syntax
    String : List Piece → Syntax
    -- brackets with blanks alone between
    EmptyArray : ByteString → Syntax
    -- blanks, the first value, blanks, and the other values
    Array : ByteString → Syntax → ByteString → Elements → Syntax
    -- braces with blanks alone between
    EmptyObject : ByteString → Syntax
    -- blanks, the first name, blanks before and behind the colon, its value, blanks, and the other members
    Object : ByteString → List Piece → ByteString → ByteString → Syntax → ByteString → Members → Syntax

  -- the values behind the first, each behind a comma and blanks, with blanks behind it
  pub data Elements : Type 0 where
    NoElements : Elements
    Element : ByteString → Syntax → ByteString → Elements → Elements

  -- the members behind the first, each behind a comma and blanks: its name, the blanks around its colon, its value, and blanks
  pub data Members : Type 0 where
    NoMembers : Members
    Member : ByteString → List Piece → ByteString → ByteString → Syntax → ByteString → Members → Members

abbrev mutual
  -- how a value is spelled
  pub spelling : Syntax → ByteString
  spelling NullWord = codes "null"
  spelling (TruthWord true) = codes "true"
  spelling (TruthWord false) = codes "false"
  spelling (WholeNumber z) = signed_decimal z
  spelling (OtherNumber w) = w
  spelling (String ps) = string_text ps
  spelling (EmptyArray b) = 91 ∷ b ++ 93 ∷ []
  spelling (Array b v c es) = 91 ∷ b ++ spelling v ++ c ++ elements_spelling es ++ 93 ∷ []
  spelling (EmptyObject b) = 123 ∷ b ++ 125 ∷ []
  spelling (Object b n c d v e ms) = 123 ∷ b ++ string_text n ++ c ++ 58 ∷ d ++ spelling v ++ e ++ members_spelling ms ++ 125 ∷ []

  pub elements_spelling : Elements → ByteString
  elements_spelling NoElements = []
  elements_spelling (Element b v c es) = 44 ∷ b ++ spelling v ++ c ++ elements_spelling es

  pub members_spelling : Members → ByteString
  members_spelling NoMembers = []
  members_spelling (Member b n c d v e ms) = 44 ∷ b ++ string_text n ++ c ++ 58 ∷ d ++ spelling v ++ e ++ members_spelling ms

abbrev mutual
  -- what may be spelled
  pub IsSyntax : Syntax → Type 0
  IsSyntax NullWord = Unit {0}
  IsSyntax (TruthWord b) = Unit {0}
  IsSyntax (WholeNumber z) = FitsSigned w64 z
  IsSyntax (OtherNumber w) = NumberParts w × ((z : ℤ) → FitsSigned w64 z → w ≡ signed_decimal z → ⊥)
  IsSyntax (String ps) = ArePieces ps
  IsSyntax (EmptyArray b) = IsTrue (are_blanks b)
  IsSyntax (Array b v c es) = IsTrue (are_blanks b) × IsSyntax v × IsTrue (are_blanks c) × AreElements es
  IsSyntax (EmptyObject b) = IsTrue (are_blanks b)
  IsSyntax (Object b n c d v e ms) = IsTrue (are_blanks b) × ArePieces n × IsTrue (are_blanks c) × IsTrue (are_blanks d) × IsSyntax v × IsTrue (are_blanks e) × AreMembers ms

  pub AreElements : Elements → Type 0
  AreElements NoElements = Unit {0}
  AreElements (Element b v c es) = IsTrue (are_blanks b) × IsSyntax v × IsTrue (are_blanks c) × AreElements es

  pub AreMembers : Members → Type 0
  AreMembers NoMembers = Unit {0}
  AreMembers (Member b n c d v e ms) = IsTrue (are_blanks b) × ArePieces n × IsTrue (are_blanks c) × IsTrue (are_blanks d) × IsSyntax v × IsTrue (are_blanks e) × AreMembers ms

abbrev mutual
  -- the value that is spelled
  pub value_of : Syntax → Datum
  value_of NullWord = Null
  value_of (TruthWord b) = Truth b
  value_of (WholeNumber z) = Whole z
  value_of (OtherNumber w) = Spelled w
  value_of (String ps) = Words (pieces_bytes ps)
  value_of (EmptyArray b) = Items (data_of [])
  value_of (Array b v c es) = Items (data_of (value_of v ∷ element_values es))
  value_of (EmptyObject b) = Fields (named_of [])
  value_of (Object b n c d v e ms) = Fields (named_of (with_members (with_field [] (pieces_bytes n) (value_of v)) ms))

  pub element_values : Elements → List Datum
  element_values NoElements = []
  element_values (Element b v c es) = value_of v ∷ element_values es

  -- fields with those of members put in one after another, so that of equal names the last counts
  pub with_members : List NamedDatum → Members → List NamedDatum
  with_members fields NoMembers = fields
  with_members fields (Member b n c d v e ms) = with_members (with_field fields (pieces_bytes n) (value_of v)) ms

abbrev mutual
  -- how many levels of brackets and braces a value opens
  pub levels : Syntax → ℕ
  levels (EmptyArray b) = 1
  levels (Array b v c es) = suc (max (levels v) (element_levels es))
  levels (EmptyObject b) = 1
  levels (Object b n c d v e ms) = suc (max (levels v) (member_levels ms))
  levels v = 0

  pub element_levels : Elements → ℕ
  element_levels NoElements = 0
  element_levels (Element b v c es) = max (levels v) (element_levels es)

  pub member_levels : Members → ℕ
  member_levels NoMembers = 0
  member_levels (Member b n c d v e ms) = max (levels v) (member_levels ms)

-- the bytes are a JSON text of that value: one value, and blanks around it
pub record IsText (bytes : ByteString) (value : Datum) : Type 0 where
  pub before : ByteString
  pub syntax : Syntax
  pub behind : ByteString
  pub blank_before : IsTrue (are_blanks before)
  pub blank_behind : IsTrue (are_blanks behind)
  pub is_syntax : IsSyntax syntax
  pub spelled : bytes ≡ before ++ spelling syntax ++ behind
  pub valued : value ≡ value_of syntax

-- some JSON text begins so
abbrev pub BeginsText : ByteString → Type 0
BeginsText front = (rest : ByteString) × (value : Datum) × IsText (front ++ rest) value
