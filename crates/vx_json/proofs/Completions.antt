-- What may come at each place of a JSON text, by its grammar, and that each byte leads there.
use Rattle.std.proofs.Common.{◌≡◌, ℕ, true, Option, Some, None, ◌⊎◌, List, [], ◌∷◌, ◌++◌}
use Rattle.std.specs.Str.Lossy.{utf8_lossy}
use Rattle.vx_value.specs.Texts.{ByteString}
use Rattle.vx_value.specs.Datum.{Datum, Words, Items, Fields, NamedDatum, data_of, named_of}
use Rattle.vx_value.specs.Events.{with_field}
use Rattle.vx_json.specs.Grammar.{are_blanks, Syntax, Elements, Members, spelling, elements_spelling, members_spelling, IsSyntax, AreElements, AreMembers, value_of, element_values, with_members}
use Rattle.vx_json.specs.Machine.{Frame, InItems, InFields, Mode, AtValue, AtFirstItem, AtFirstName, AtName, InName, AtColon, AtEnd, InWord, InNumber, InText, State, number_datum}
use Rattle.vx_json.specs.declared.number_place.NumberPlace.{NumberPlace}
use Rattle.vx_json.proofs.TextTails.{HasText, TextTail}
use Rattle.vx_json.proofs.NumberTails.{NumberTail}

-- blanks, a value and more
pub record HasValue (rest : ByteString) (next : Datum → ByteString → Type 0) : Type 0 where
  pub blanks : ByteString
  pub syntax : Syntax
  pub more : ByteString
  pub blank : are_blanks blanks ≡ true
  pub is : IsSyntax syntax
  pub spelled : rest ≡ blanks ++ spelling syntax ++ more
  pub then : next (value_of syntax) more

-- blanks, a byte and more
pub record HasMark (mark : ℕ) (rest : ByteString) (next : ByteString → Type 0) : Type 0 where
  pub blanks : ByteString
  pub more : ByteString
  pub blank : are_blanks blanks ≡ true
  pub spelled : rest ≡ blanks ++ mark ∷ more
  pub then : next more

-- blanks, the other values of an array, its bracket and more
pub record HasElements (rest : ByteString) (next : Elements → ByteString → Type 0) : Type 0 where
  pub blanks : ByteString
  pub elements : Elements
  pub more : ByteString
  pub blank : are_blanks blanks ≡ true
  pub are : AreElements elements
  pub spelled : rest ≡ blanks ++ elements_spelling elements ++ 93 ∷ more
  pub then : next elements more

-- blanks, the other members of an object, its brace and more
pub record HasMembers (rest : ByteString) (next : Members → ByteString → Type 0) : Type 0 where
  pub blanks : ByteString
  pub members : Members
  pub more : ByteString
  pub blank : are_blanks blanks ≡ true
  pub are : AreMembers members
  pub spelled : rest ≡ blanks ++ members_spelling members ++ 125 ∷ more
  pub then : next members more

-- bytes are the rest of a word and more
pub record HasWord (word rest : ByteString) (next : ByteString → Type 0) : Type 0 where
  pub more : ByteString
  pub spelled : rest ≡ word ++ more
  pub then : next more

-- bytes are the rest of a number and more
pub record HasNumber (here : NumberPlace) (rest : ByteString) (next : ByteString → ByteString → Type 0) : Type 0 where
  pub tail : ByteString
  pub more : ByteString
  pub is : NumberTail here tail
  pub spelled : rest ≡ tail ++ more
  pub then : next tail more

-- what may come behind a value
abbrev pub Closes : List Frame → Datum → ByteString → Datum → Type 0
Closes [] v rest d = (are_blanks rest ≡ true) × (d ≡ v)
Closes (InItems ds ∷ st) v rest d = HasElements rest (λ es more. Closes st (Items (data_of (ds ++ v ∷ element_values es))) more d)
Closes (InFields fs name ∷ st) v rest d = HasMembers rest (λ ms more. Closes st (Fields (named_of (with_members (with_field fs name v) ms))) more d)

-- a colon and a value
abbrev pub ColonTail : List NamedDatum → ByteString → List Frame → ByteString → Datum → Type 0
ColonTail fs name st rest d = HasMark 58 rest (λ more. HasValue more (λ v behind. Closes (InFields fs name ∷ st) v behind d))

-- a name, a colon and a value
abbrev pub NameTail : List NamedDatum → List Frame → ByteString → Datum → Type 0
NameTail fs st rest d = HasMark 34 rest (λ more. HasText more (λ name behind. ColonTail fs name st behind d))

-- the rest of a text of value d, from a place on
abbrev pub Completes : Mode → List Frame → ByteString → Datum → Type 0
Completes AtValue st rest d = HasValue rest (λ v more. Closes st v more d)
Completes AtFirstItem st rest d = HasMark 93 rest (λ more. Closes st (Items (data_of [])) more d) ⊎ HasValue rest (λ v more. Closes (InItems [] ∷ st) v more d)
Completes AtFirstName st rest d = HasMark 125 rest (λ more. Closes st (Fields (named_of [])) more d) ⊎ NameTail [] st rest d
Completes (AtName fs) st rest d = NameTail fs st rest d
Completes (InName fs here w) st rest d = TextTail here rest (λ t more. ColonTail fs (utf8_lossy (w ++ t)) st more d)
Completes (AtColon fs name) st rest d = ColonTail fs name st rest d
Completes (AtEnd v) st rest d = Closes st v rest d
Completes (InWord word v) st rest d = HasWord word rest (λ more. Closes st v more d)
Completes (InNumber here w) st rest d = HasNumber here rest (λ t more. Closes st (number_datum (utf8_lossy (w ++ t))) more d)
Completes (InText here w) st rest d = TextTail here rest (λ t more. Closes st (Words (utf8_lossy (w ++ t))) more d)

-- the same behind a byte, by what it did
abbrev pub Onward : Option State → ByteString → Datum → Type 0
Onward None rest d = ⊥
Onward (Some s) rest d = Completes s.mode s.stack rest d
