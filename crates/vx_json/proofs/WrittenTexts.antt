-- What is written is a text of JSON, of that value.
use Rattle.std.proofs.Common.{◌≡◌, ℕ, ◌/◌, ◌%◌, ◌<◌, ◌≤◌, Bool, true, false, ◌||◌, ◌==◌, nat_lt, List, [], ◌∷◌, ◌++◌, refl, sym, ◌∙◌, ap, subst, arith, append_assoc}
use Rattle.std.proofs.lemmas.List.{append-nil}
use Rattle.std.proofs.lemmas.Bool.Decides.{nat_tests}
use Rattle.std.proofs.str.Laws.{one, both}
use Rattle.std.specs.Str.{IsUtf8}
use Rattle.std.specs.Char.{encode_utf8}
use lib.Utf8.{encodes, scalars}
use Rattle.vx_value.specs.Texts.{ByteString}
use Rattle.vx_value.specs.Datum.{Datum, Null, Truth, Whole, Spelled, Words, Items, Fields, Data, no_data, datum, NamedData, no_named, named, NamedDatum, data_of, data_list, named_of, named_list}
use Rattle.vx_value.specs.Events.{with_field, names_rise}
use Rattle.vx_value.specs.Replacement.{IsCharacter, BeginThree, BeginFour}
use Rattle.vx_value.proofs.Characters.{row_of}
use Rattle.vx_json.specs.Written.{hex_digit, escaped, escapes, quoted, written, items_written, fields_written}
use Rattle.vx_json.specs.Writable.{IsWritable, AreWritable, AreWritableFields}
use Rattle.vx_json.specs.Strings.{is_hex, hex_value, is_special, is_high, is_low, is_short, short_byte, Four, code_of, Piece, Itself, Short, Coded, IsPiece, ArePieces, piece_text, piece_bytes, pieces_text, pieces_bytes, string_text}
use Rattle.vx_json.specs.Grammar.{Syntax, NullWord, TruthWord, WholeNumber, OtherNumber, String, EmptyArray, Array, EmptyObject, Object, Elements, NoElements, Element, Members, NoMembers, Member, spelling, elements_spelling, members_spelling, IsSyntax, AreElements, AreMembers, value_of, element_values, with_members, IsText}
use Rattle.vx_json.proofs.Escaping.{escapes-append}
use Rattle.vx_json.proofs.Choices.{and_true, eq_of, lt_of}
use Rattle.vx_json.proofs.TextTails.{four}
use Rattle.vx_json.proofs.Putting.{field, with-last, last-below-next, rise-front}

-- ---- characters
pub record PieceOf (c : ByteString) : Type 0 where
  pub piece : Piece
  pub is : IsPiece piece
  pub text : piece_text piece ≡ escapes c
  pub bytes : piece_bytes piece ≡ c

piece-for : (a : ℕ) (p : Piece) → IsPiece p → piece_text p ≡ escaped a → piece_bytes p ≡ a ∷ [] → PieceOf (a ∷ [])
piece-for a p i t b = record { piece = p; is = i; text = t ∙ sym (append-nil (escaped a)); bytes = b }

short-for : (a c : ℕ) → is_short c ≡ true → 92 ∷ c ∷ [] ≡ escaped a → short_byte c ≡ a → PieceOf (a ∷ [])
short-for a c i t b = piece-for a (Short c) i t (ap (λ x. x ∷ []) b)

pub hex_of : (n : ℕ) → n < 16 → is_hex (hex_digit n) ≡ true
hex_of n h = grind (arith, nat_tests)

value_of_hex : (n : ℕ) → n < 16 → hex_value (hex_digit n) ≡ n
value_of_hex n h = grind (arith, nat_tests)

abbrev control : ℕ → Four
control a = four 48 48 (hex_digit (a / 16)) (hex_digit (a % 16))

control_code : (a : ℕ) → a < 32 → code_of (control a) ≡ a
control_code a h = let p = value_of_hex (a / 16) (omega arith) in let q = value_of_hex (a % 16) (omega arith) in omega arith

small_not : (n a : ℕ) → n ≡ a → a < 32 → (is_high n ≡ false) × (is_low n ≡ false)
small_not n a e h = (high n (omega arith), low n (omega arith))
  where
    high : (n : ℕ) → n < 32 → is_high n ≡ false
    high n h = grind (arith, nat_tests)

    low : (n : ℕ) → n < 32 → is_low n ≡ false
    low n h = grind (arith, nat_tests)

control-for : (a : ℕ) → a < 32 → 92 ∷ 117 ∷ 48 ∷ 48 ∷ hex_digit (a / 16) ∷ hex_digit (a % 16) ∷ [] ≡ escaped a → PieceOf (a ∷ [])
control-for a h t =
    let e = control_code a h in
    let n = small_not (code_of (control a)) a e h in
    piece-for a (Coded (control a)) (and_true (is_hex 48) _ refl (and_true (is_hex 48) _ refl (and_true _ _ (hex_of (a / 16) (omega arith)) (hex_of (a % 16) (omega arith)))), n.0, n.1) t
    (ap encode_utf8 e ∙ one a (omega arith))

high-plain : (b : ℕ) → 128 ≤ b → escaped b ≡ b ∷ []
unfolding escaped
high-plain b h = grind (arith, nat_tests)

high_special : (b : ℕ) → 128 ≤ b → is_special b ≡ false
high_special b h = grind (arith, nat_tests)

plain-test : (a : ℕ) → (a == 34) || (a == 92) ≡ false → nat_lt a 32 ≡ false → is_special a ≡ false
plain-test a h k = grind (arith, nat_tests)

either-short : (a : ℕ) → (a == 34) || (a == 92) ≡ true → (is_short a ≡ true) × (short_byte a ≡ a)
either-short a h = (is a h, byte a h)
  where
    is : (a : ℕ) → (a == 34) || (a == 92) ≡ true → is_short a ≡ true
    is a h = grind (arith, nat_tests)

    byte : (a : ℕ) → (a == 34) || (a == 92) ≡ true → short_byte a ≡ a
    byte a h = grind (arith, nat_tests)

ascii-for : (a : ℕ) → a ≤ 127 → PieceOf (a ∷ [])
unfolding escaped
ascii-for a h = by_quote ((a == 34) || (a == 92)) refl
  where
    by_control : (t : Bool) → nat_lt a 32 ≡ t → (a == 34) || (a == 92) ≡ false → (a == 8) ≡ false → (a == 12) ≡ false → (a == 10) ≡ false → (a == 13) ≡ false → (a == 9) ≡ false → PieceOf (a ∷ [])
    by_control true e q b f n r t = control-for a (lt_of a 32 e) (sym (rw (q, b, f, n, r, t, e) refl))
    by_control false e q b f n r t = piece-for a (Itself (a ∷ [])) ((omega arith, h), plain-test a q e) (sym (rw (q, b, f, n, r, t, e) refl)) refl

    by_tab : (t : Bool) → (a == 9) ≡ t → (a == 34) || (a == 92) ≡ false → (a == 8) ≡ false → (a == 12) ≡ false → (a == 10) ≡ false → (a == 13) ≡ false → PieceOf (a ∷ [])
    by_tab true e q b f n r = short-for a 116 refl (sym (rw (q, b, f, n, r, e) refl)) (sym (eq_of a 9 e))
    by_tab false e q b f n r = by_control (nat_lt a 32) refl q b f n r e

    by_return : (t : Bool) → (a == 13) ≡ t → (a == 34) || (a == 92) ≡ false → (a == 8) ≡ false → (a == 12) ≡ false → (a == 10) ≡ false → PieceOf (a ∷ [])
    by_return true e q b f n = short-for a 114 refl (sym (rw (q, b, f, n, e) refl)) (sym (eq_of a 13 e))
    by_return false e q b f n = by_tab (a == 9) refl q b f n e

    by_feed : (t : Bool) → (a == 10) ≡ t → (a == 34) || (a == 92) ≡ false → (a == 8) ≡ false → (a == 12) ≡ false → PieceOf (a ∷ [])
    by_feed true e q b f = short-for a 110 refl (sym (rw (q, b, f, e) refl)) (sym (eq_of a 10 e))
    by_feed false e q b f = by_return (a == 13) refl q b f e

    by_form : (t : Bool) → (a == 12) ≡ t → (a == 34) || (a == 92) ≡ false → (a == 8) ≡ false → PieceOf (a ∷ [])
    by_form true e q b = short-for a 102 refl (sym (rw (q, b, e) refl)) (sym (eq_of a 12 e))
    by_form false e q b = by_feed (a == 10) refl q b e

    by_back : (t : Bool) → (a == 8) ≡ t → (a == 34) || (a == 92) ≡ false → PieceOf (a ∷ [])
    by_back true e q = short-for a 98 refl (sym (rw (q, e) refl)) (sym (eq_of a 8 e))
    by_back false e q = by_form (a == 12) refl q e

    by_quote : (t : Bool) → (a == 34) || (a == 92) ≡ t → PieceOf (a ∷ [])
    by_quote true e = let s = either-short a e in short-for a a s.0 (sym (rw e refl)) s.1
    by_quote false e = by_back (a == 8) refl e

character-for : (c : ByteString) → IsCharacter c → PieceOf c
character-for [] h = absurd h
character-for (a ∷ []) h = ascii-for a h.1
character-for (a ∷ b ∷ []) h = record { piece = Itself (a ∷ b ∷ []); is = (h, high_special a (omega arith)); text = sym (rw (high-plain a (omega arith), high-plain b (omega arith)) refl); bytes = refl }
character-for (a ∷ b ∷ c ∷ []) h =
    let s = three-high a b h.0 in
    record { piece = Itself (a ∷ b ∷ c ∷ []); is = (h, high_special a s.0); text = sym (rw (high-plain a s.0, high-plain b s.1, high-plain c (omega arith)) refl); bytes = refl }
  where
    three-high : (a b : ℕ) → BeginThree a b → (128 ≤ a) × (128 ≤ b)
    three-high a b h = (grind arith, grind arith)
character-for (a ∷ b ∷ c ∷ d ∷ []) h =
    let s = four-high a b h.0 in
    record { piece = Itself (a ∷ b ∷ c ∷ d ∷ []); is = (h, high_special a s.0); text = sym (rw (high-plain a s.0, high-plain b s.1, high-plain c (omega arith), high-plain d (omega arith)) refl); bytes = refl }
  where
    four-high : (a b : ℕ) → BeginFour a b → (128 ≤ a) × (128 ≤ b)
    four-high a b h = (grind arith, grind arith)
character-for (a ∷ b ∷ c ∷ d ∷ e ∷ more) h = absurd h

-- ---- texts
pub record PiecesOf (w : ByteString) : Type 0 where
  pub pieces : List Piece
  pub are : ArePieces pieces
  pub text : pieces_text pieces ≡ escapes w
  pub bytes : pieces_bytes pieces ≡ w

codes-for : (cs : List ℕ) → scalars cs ≡ true → PiecesOf (encodes cs)
codes-for [] h = record { pieces = []; are = tt; text = refl; bytes = refl }
codes-for (c ∷ cs) h =
    let k = both _ _ h in
    let p = character-for (encode_utf8 c) (row_of c k.0) in
    let q = codes-for cs k.1 in record {
      pieces = p.piece ∷ q.pieces;
      are = (p.is, q.are);
      text = (λ i. p.text i ++ q.text i) ∙ sym (escapes-append (encode_utf8 c) (encodes cs));
      bytes = λ i. p.bytes i ++ q.bytes i;
    }

text-for : (w : ByteString) → IsUtf8 w → PiecesOf w
text-for w u = subst PiecesOf u.1.1 (codes-for u.0 u.1.0)

-- ---- values
pub record SyntaxOf (d : Datum) : Type 0 where
  pub syntax : Syntax
  pub is : IsSyntax syntax
  pub text : spelling syntax ≡ written d
  pub value : value_of syntax ≡ d

-- what is written behind the first value
abbrev pub items_behind : Data → ByteString
items_behind no_data = []
items_behind (datum d ds) = 44 ∷ items_written (datum d ds)

pub items-split : (d : Datum) (ds : Data) → items_written (datum d ds) ≡ written d ++ items_behind ds
items-split d no_data = sym (append-nil (written d))
items-split d (datum e ds) = refl

pub record ElementsOf (ds : Data) : Type 0 where
  pub elements : Elements
  pub are : AreElements elements
  pub text : elements_spelling elements ≡ items_behind ds
  pub values : element_values elements ≡ data_list ds

data-back : (ds : Data) → data_of (data_list ds) ≡ ds
data-back no_data = refl
data-back (datum d ds) = ap (datum d) (data-back ds)

-- what is written of one field, and behind the first
abbrev pub field_text : ByteString → Datum → ByteString
field_text n d = quoted n ++ 58 ∷ written d

abbrev pub fields_behind : NamedData → ByteString
fields_behind no_named = []
fields_behind (named n d ns) = 44 ∷ fields_written (named n d ns)

pub fields-split : (n : ByteString) (d : Datum) (ns : NamedData) → fields_written (named n d ns) ≡ field_text n d ++ fields_behind ns
fields-split n d no_named = sym (append-nil (field_text n d))
fields-split n d (named m e ns) = refl

pub record MembersOf (ns : NamedData) : Type 0 where
  pub members : Members
  pub are : AreMembers members
  pub text : members_spelling members ≡ fields_behind ns
  pub values : (fs : List NamedDatum) → names_rise (fs ++ named_list ns) ≡ true → with_members fs members ≡ fs ++ named_list ns

pub named-back : (ns : NamedData) → named_of (named_list ns) ≡ ns
named-back no_named = refl
named-back (named n d ns) = ap (named n d) (named-back ns)

-- a field more, where names rise
one-field : (fs : List NamedDatum) (n : ByteString) (d : Datum) (rest : List NamedDatum) → names_rise (fs ++ field n d ∷ rest) ≡ true → with_field fs n d ≡ fs ++ field n d ∷ []
one-field fs n d rest r = with-last fs n d (rise-front fs (field n d ∷ rest) r) (last-below-next fs (field n d) rest r)

empty-behind : (a b c : ByteString) → a ++ b ++ [] ++ c ≡ a ++ (b ++ c)
empty-behind a b c = ap (λ x. x ++ c) (append-nil (a ++ b)) ∙ append_assoc a b c

no-blanks : (a q c v m : ByteString) → a ++ q ++ [] ++ c ++ v ++ [] ++ m ≡ a ++ (q ++ (c ++ v)) ++ m
no-blanks a q c v m =
    ap (λ x. x ++ m) (append-nil (a ++ q ++ [] ++ c ++ v) ∙ ap (λ x. x ++ c ++ v) (append-nil (a ++ q)) ∙ append_assoc (a ++ q) c v ∙ append_assoc a q (c ++ v))

object-text : (b : ℕ) (ps : List Piece) (v : Syntax) (m : ByteString) → b ∷ [] ++ string_text ps ++ [] ++ 58 ∷ [] ++ spelling v ++ [] ++ m ≡ b ∷ (34 ∷ pieces_text ps ++ 34 ∷ [] ++ 58 ∷ spelling v) ++ m
object-text b ps v m = no-blanks (b ∷ []) (string_text ps) (58 ∷ []) (spelling v) m

mutual
  syntax-for : (d : Datum) → IsWritable d → SyntaxOf d
  syntax-for Null h = record { syntax = NullWord; is = tt; text = refl; value = refl }
  syntax-for (Truth true) h = record { syntax = TruthWord true; is = tt; text = refl; value = refl }
  syntax-for (Truth false) h = record { syntax = TruthWord false; is = tt; text = refl; value = refl }
  syntax-for (Whole z) h = record { syntax = WholeNumber z; is = h; text = refl; value = refl }
  syntax-for (Spelled w) h = record { syntax = OtherNumber w; is = h; text = refl; value = refl }
  syntax-for (Words w) h = let p = text-for w h in record { syntax = String p.pieces; is = p.are; text = ap (λ r. 34 ∷ r ++ 34 ∷ []) p.text; value = ap Words p.bytes }
  syntax-for (Items no_data) h = record { syntax = EmptyArray []; is = refl; text = refl; value = refl }
  syntax-for (Items (datum d ds)) h =
      let v = syntax-for d h.0 in
      let es = elements-for ds h.1 in record {
        syntax = Array [] v.syntax [] es.elements;
        is = (refl, v.is, refl, es.are);
        text = ap (λ r. r ++ 93 ∷ []) (empty-behind (91 ∷ []) (spelling v.syntax) (elements_spelling es.elements) ∙ ap (λ r. 91 ∷ r) ((λ i. v.text i ++ es.text i) ∙ sym (items-split d ds)));
        value = (λ i. Items (data_of (v.value i ∷ es.values i))) ∙ ap (λ x. Items (datum d x)) (data-back ds);
      }
  syntax-for (Fields no_named) h = record { syntax = EmptyObject []; is = refl; text = refl; value = refl }
  syntax-for (Fields (named n d ns)) h =
      let p = text-for n h.1.0 in
      let v = syntax-for d h.1.1 in
      let ms = members-for ns h.1.2 in record {
        syntax = Object [] p.pieces [] [] v.syntax [] ms.members;
        is = (refl, p.are, refl, refl, v.is, refl, ms.are);
        text = ap (λ r. r ++ 125 ∷ []) (object-text 123 p.pieces v.syntax (members_spelling ms.members) ∙ (λ i. 123 ∷ (34 ∷ p.text i ++ 34 ∷ [] ++ 58 ∷ v.text i) ++ ms.text i) ∙ ap (λ r. 123 ∷ r) (sym (fields-split n d ns)));
        value = ap (λ x. Fields (named_of x)) ((λ i. with_members (field (p.bytes i) (v.value i) ∷ []) ms.members) ∙ ms.values (field n d ∷ []) h.0) ∙ ap (λ x. Fields (named n d x)) (named-back ns);
      }

  elements-for : (ds : Data) → AreWritable ds → ElementsOf ds
  elements-for no_data h = record { elements = NoElements; are = tt; text = refl; values = refl }
  elements-for (datum d ds) h =
      let v = syntax-for d h.0 in
      let es = elements-for ds h.1 in record {
        elements = Element [] v.syntax [] es.elements;
        are = (refl, v.is, refl, es.are);
        text = empty-behind (44 ∷ []) (spelling v.syntax) (elements_spelling es.elements) ∙ ap (λ r. 44 ∷ r) ((λ i. v.text i ++ es.text i) ∙ sym (items-split d ds));
        values = λ i. v.value i ∷ es.values i;
      }

  members-for : (ns : NamedData) → AreWritableFields ns → MembersOf ns
  members-for no_named h = record { members = NoMembers; are = tt; text = refl; values = λ fs r. sym (append-nil fs) }
  members-for (named n d ns) h =
      let p = text-for n h.0 in
      let v = syntax-for d h.1 in
      let ms = members-for ns h.2 in record {
        members = Member [] p.pieces [] [] v.syntax [] ms.members;
        are = (refl, p.are, refl, refl, v.is, refl, ms.are);
        text = object-text 44 p.pieces v.syntax (members_spelling ms.members) ∙ (λ i. 44 ∷ (34 ∷ p.text i ++ 34 ∷ [] ++ 58 ∷ v.text i) ++ ms.text i) ∙ ap (λ r. 44 ∷ r) (sym (fields-split n d ns));
        values = λ fs r. (λ i. with_members (with_field fs (p.bytes i) (v.value i)) ms.members)
            ∙ ap (λ x. with_members x ms.members) (one-field fs n d (named_list ns) r)
            ∙ ms.values (fs ++ field n d ∷ []) (ap names_rise (append_assoc fs (field n d ∷ []) (named_list ns)) ∙ r)
            ∙ append_assoc fs (field n d ∷ []) (named_list ns);
      }

pub written-text : (d : Datum) → IsWritable d → IsText (written d) d
written-text d h =
    let s = syntax-for d h in record {
      before = [];
      syntax = s.syntax;
      behind = [];
      blank_before = refl;
      blank_behind = refl;
      is_syntax = s.is;
      spelled = sym s.text ∙ sym (append-nil (spelling s.syntax));
      valued = sym s.value;
    }
