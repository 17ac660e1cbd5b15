-- What the bytes of a text do at each place is what the grammar allows.
use Rattle.std.proofs.Common.{◌≡◌, ℕ, Bool, true, false, cond, ◌==◌, Option, Some, None, ⊎_elim, inl, inr, List, [], ◌∷◌, ◌++◌, refl, sym, ◌∙◌, ap, subst, append_assoc, codes}
use Rattle.std.proofs.lemmas.List.{append-nil}
use Rattle.std.specs.Str.Lossy.{utf8_lossy}
use Rattle.vx_value.specs.Texts.{ByteString}
use Rattle.vx_value.specs.Datum.{Datum, Words, Items, Fields, NamedDatum, data_of, named_of}
use Rattle.vx_value.specs.Events.{with_field}
use Rattle.vx_json.specs.Numbers.{NumberParts}
use Rattle.vx_json.specs.Strings.{pieces_text}
use Rattle.vx_json.specs.Grammar.{is_blank, Syntax, NullWord, TruthWord, String, EmptyArray, Array, EmptyObject, Object, NoElements, Element, NoMembers, Member, spelling, elements_spelling, members_spelling, IsSyntax, value_of, element_values, IsText}
use Rattle.vx_json.specs.Machine.{TextMove, Goes, Ends, Wrong, text_move, number_move, Frame, InItems, InFields, Mode, AtValue, AtFirstItem, AtFirstName, AtName, InName, AtColon, AtEnd, InWord, InNumber, InText, State, step, begin_move, end_move, after_move, name_move, words_move, digits_move, word_move, number_datum, may_end, finish, carry, outcome, state}
use Rattle.vx_json.specs.declared.text_place.TextPlace.TheVariants as place
use Rattle.vx_json.specs.declared.number_place.NumberPlace.{NumberPlace}
use Rattle.vx_json.specs.declared.number_place.NumberPlace.TheVariants as number
use Rattle.vx_json.proofs.Choices.{chosen, choice, and_true, eq_of}
use Rattle.vx_json.proofs.TextTails.{HasText, TextTail, Moved, text-sound}
use Rattle.vx_json.proofs.NumberTails.{NumberTail, NumberMoved, number-sound, number-ends, begins-minus, begins-zero, begins-digit}
use Rattle.vx_json.proofs.NumberValues.{lossy-number, number-syntax}
use Rattle.vx_json.proofs.PieceTexts.{lossy-pieces}
use Rattle.vx_json.proofs.Completions.{HasValue, HasMark, HasWord, HasNumber, Closes, ColonTail, NameTail, Completes, Onward}

-- ---- blanks in front
blank-value : (b : ℕ) (rest : ByteString) (next : Datum → ByteString → Type 0) → is_blank b ≡ true → HasValue rest next → HasValue (b ∷ rest) next
blank-value b rest next e h = record { blanks = b ∷ h.blanks; syntax = h.syntax; more = h.more; blank = and_true _ _ e h.blank; is = h.is; spelled = ap (λ r. b ∷ r) h.spelled; then = h.then }

blank-mark : (mark b : ℕ) (rest : ByteString) (next : ByteString → Type 0) → is_blank b ≡ true → HasMark mark rest next → HasMark mark (b ∷ rest) next
blank-mark mark b rest next e h = record { blanks = b ∷ h.blanks; more = h.more; blank = and_true _ _ e h.blank; spelled = ap (λ r. b ∷ r) h.spelled; then = h.then }

mark-here : (mark b : ℕ) (rest : ByteString) (next : ByteString → Type 0) → (b == mark) ≡ true → next rest → HasMark mark (b ∷ rest) next
mark-here mark b rest next e h = record { blanks = []; more = rest; blank = refl; spelled = ap (λ x. x ∷ rest) (eq_of b mark e); then = h }

blank-close : (st : List Frame) (v : Datum) (b : ℕ) (rest : ByteString) (d : Datum) → is_blank b ≡ true → Closes st v rest d → Closes st v (b ∷ rest) d
blank-close [] v b rest d e h = (and_true _ _ e h.0, h.1)
blank-close (InItems ds ∷ st) v b rest d e h = record { blanks = b ∷ h.blanks; elements = h.elements; more = h.more; blank = and_true _ _ e h.blank; are = h.are; spelled = ap (λ r. b ∷ r) h.spelled; then = h.then }
blank-close (InFields fs name ∷ st) v b rest d e h = record { blanks = b ∷ h.blanks; members = h.members; more = h.more; blank = and_true _ _ e h.blank; are = h.are; spelled = ap (λ r. b ∷ r) h.spelled; then = h.then }

-- a value without blanks before it
value-here : (s : Syntax) (bytes more : ByteString) (next : Datum → ByteString → Type 0) → IsSyntax s → bytes ≡ spelling s ++ more → next (value_of s) more → HasValue bytes next
value-here s bytes more next i e h = record { blanks = []; syntax = s; more = more; blank = refl; is = i; spelled = e; then = h }

-- ---- how pieces of bytes are joined
pub join-elements : (a b c e m : ByteString) → a ++ b ++ (c ++ e ++ m) ≡ (a ++ b ++ c ++ e) ++ m
join-elements a b c e m = simp append_assoc

join-words : (a q n r b k c v e ms m : ByteString) → a ++ (q ++ (n ++ (r ++ (b ++ (k ++ (c ++ v ++ (e ++ ms ++ m))))))) ≡ (a ++ (q ++ (n ++ r)) ++ b ++ (k ++ c) ++ v ++ e ++ ms) ++ m
join-words a q n r b k c v e ms m = simp append_assoc

pub join-members : (a n b c v e ms m : ByteString) → a ++ 34 ∷ (n ++ 34 ∷ (b ++ 58 ∷ (c ++ v ++ (e ++ ms ++ m)))) ≡ (a ++ 34 ∷ (n ++ 34 ∷ []) ++ b ++ 58 ∷ c ++ v ++ e ++ ms) ++ m
join-members a n b c v e ms m = join-words a (34 ∷ []) n (34 ∷ []) b (58 ∷ []) c v e ms m

-- ---- behind a value
items-comma : (ds : List Datum) (v : Datum) (st : List Frame) (rest : ByteString) (d : Datum) → HasValue rest (λ u more. Closes (InItems (ds ++ v ∷ []) ∷ st) u more d) → Closes (InItems ds ∷ st) v (44 ∷ rest) d
items-comma ds v st rest d h =
    let t = h.then in record {
      blanks = [];
      elements = Element h.blanks h.syntax t.blanks t.elements;
      more = t.more;
      blank = refl;
      are = (h.blank, h.is, t.blank, t.are);
      spelled = ap (λ r. 44 ∷ r) (h.spelled ∙ ap (λ r. h.blanks ++ spelling h.syntax ++ r) t.spelled ∙ join-elements h.blanks (spelling h.syntax) t.blanks (elements_spelling t.elements) (93 ∷ t.more));
      then = subst (λ es. Closes st (Items (data_of es)) t.more d) (append_assoc ds (v ∷ []) (value_of h.syntax ∷ element_values t.elements)) t.then;
    }

fields-comma : (fs : List NamedDatum) (name : ByteString) (v : Datum) (st : List Frame) (rest : ByteString) (d : Datum) → NameTail (with_field fs name v) st rest d → Closes (InFields fs name ∷ st) v (44 ∷ rest) d
fields-comma fs name v st rest d h =
    let n = h.then in
    let c = n.then in
    let u = c.then in
    let t = u.then in record {
      blanks = [];
      members = Member h.blanks n.pieces c.blanks u.blanks u.syntax t.blanks t.members;
      more = t.more;
      blank = refl;
      are = (h.blank, n.are, c.blank, u.blank, u.is, t.blank, t.are);
      spelled = ap (λ r. 44 ∷ r) (h.spelled ∙ ap (λ r. h.blanks ++ 34 ∷ r) (n.spelled ∙ ap (λ r. pieces_text n.pieces ++ 34 ∷ r) (c.spelled ∙ ap (λ r. c.blanks ++ 58 ∷ r) (u.spelled ∙ ap (λ r. u.blanks ++ spelling u.syntax ++ r) t.spelled))) ∙ join-members h.blanks (pieces_text n.pieces) c.blanks u.blanks (spelling u.syntax) t.blanks (members_spelling t.members) (125 ∷ t.more));
      then = t.then;
    }

end-sound : (st : List Frame) (v : Datum) (b : ℕ) (rest : ByteString) (d : Datum) → Onward (end_move v st b) rest d → Closes st v (b ∷ rest) d
end-sound [] v b rest d h = absurd h
end-sound (InItems ds ∷ st) v b rest d h = ⊎_elim
    (λ k. subst (λ x. Closes (InItems ds ∷ st) v (x ∷ rest) d) (sym (eq_of b 44 k.0)) (items-comma ds v st rest d k.1))
    (λ k. ⊎_elim
    (λ l. record { blanks = []; elements = NoElements; more = rest; blank = refl; are = tt; spelled = ap (λ x. x ∷ rest) (eq_of b 93 l.0); then = l.1 })
    (λ l. absurd l.1)
    (chosen (λ z. Onward z rest d) (b == 93) (state (AtEnd (Items (data_of (ds ++ v ∷ [])))) st) None k.1))
    (chosen (λ z. Onward z rest d) (b == 44) (state AtValue (InItems (ds ++ v ∷ []) ∷ st)) (cond (b == 93) (state (AtEnd (Items (data_of (ds ++ v ∷ [])))) st) None) h)
end-sound (InFields fs name ∷ st) v b rest d h = ⊎_elim
    (λ k. subst (λ x. Closes (InFields fs name ∷ st) v (x ∷ rest) d) (sym (eq_of b 44 k.0)) (fields-comma fs name v st rest d k.1))
    (λ k. ⊎_elim
    (λ l. record { blanks = []; members = NoMembers; more = rest; blank = refl; are = tt; spelled = ap (λ x. x ∷ rest) (eq_of b 125 l.0); then = l.1 })
    (λ l. absurd l.1)
    (chosen (λ z. Onward z rest d) (b == 125) (state (AtEnd (Fields (named_of (with_field fs name v)))) st) None k.1))
    (chosen (λ z. Onward z rest d) (b == 44) (state (AtName (with_field fs name v)) st) (cond (b == 125) (state (AtEnd (Fields (named_of (with_field fs name v)))) st) None) h)

after-sound : (st : List Frame) (v : Datum) (b : ℕ) (rest : ByteString) (d : Datum) → Onward (after_move v st b) rest d → Closes st v (b ∷ rest) d
after-sound st v b rest d h =
    ⊎_elim (λ k. blank-close st v b rest d k.0 k.1) (λ k. end-sound st v b rest d k.1) (chosen (λ z. Onward z rest d) (is_blank b) (state (AtEnd v) st) (end_move v st b) h)

-- ---- where a value begins
colon-text : (fs : List NamedDatum) (st : List Frame) (more : ByteString) (d : Datum) → HasText more (λ t r. ColonTail fs (utf8_lossy t) st r d) → HasText more (λ t r. ColonTail fs t st r d)
colon-text fs st more d h = record { pieces = h.pieces; more = h.more; are = h.are; spelled = h.spelled; then = subst (λ t. ColonTail fs t st h.more d) (lossy-pieces h.pieces h.are) h.then }

name-here : (fs : List NamedDatum) (b : ℕ) (st : List Frame) (rest : ByteString) (d : Datum) → (b == 34) ≡ true → Completes (InName fs place.Plain []) st rest d → NameTail fs st (b ∷ rest) d
name-here fs b st rest d e h = mark-here 34 b rest (λ more. HasText more (λ name behind. ColonTail fs name st behind d)) e (colon-text fs st rest d h)

text-here : (b : ℕ) (st : List Frame) (rest : ByteString) (d : Datum) → (b == 34) ≡ true → Completes (InText place.Plain []) st rest d → Completes AtValue st (b ∷ rest) d
text-here b st rest d e h =
    value-here (String h.pieces) (b ∷ rest) h.more (λ v more. Closes st v more d) h.are
    ((λ i. eq_of b 34 e i ∷ h.spelled i) ∙ ap (λ r. 34 ∷ r) (sym (append_assoc (pieces_text h.pieces) (34 ∷ []) h.more)))
    (subst (λ t. Closes st (Words t) h.more d) (lossy-pieces h.pieces h.are) h.then)

number-here : (b : ℕ) (here : NumberPlace) (st : List Frame) (rest : ByteString) (d : Datum) → ((t : ByteString) → NumberTail here t → NumberParts (b ∷ t)) → Completes (InNumber here (b ∷ [])) st rest d → Completes AtValue st (b ∷ rest) d
number-here b here st rest d parts h =
    let p = parts h.tail h.is in
    let s = number-syntax (b ∷ h.tail) p in
    value-here s.syntax (b ∷ rest) h.more (λ v more. Closes st v more d) s.is
    (ap (λ r. b ∷ r) h.spelled ∙ ap (λ r. r ++ h.more) (sym s.spelled))
    (subst (λ v. Closes st v h.more d) (ap number_datum (lossy-number (b ∷ h.tail) p) ∙ sym s.valued) h.then)

word-here : (s : Syntax) (b first : ℕ) (word : ByteString) (st : List Frame) (rest : ByteString) (d : Datum) → IsSyntax s → spelling s ≡ first ∷ word → (b == first) ≡ true → HasWord word rest (λ more. Closes st (value_of s) more d) → Completes AtValue st (b ∷ rest) d
word-here s b first word st rest d i spelled e h =
    value-here s (b ∷ rest) h.more (λ v more. Closes st v more d) i
    ((λ k. eq_of b first e k ∷ h.spelled k) ∙ ap (λ w. w ++ h.more) (sym spelled))
    h.then

array-here : (b : ℕ) (st : List Frame) (rest : ByteString) (d : Datum) → (b == 91) ≡ true → Completes AtFirstItem st rest d → Completes AtValue st (b ∷ rest) d
array-here b st rest d e (inl h) =
    value-here (EmptyArray h.blanks) (b ∷ rest) h.more (λ v more. Closes st v more d) h.blank
    ((λ i. eq_of b 91 e i ∷ h.spelled i) ∙ ap (λ r. 91 ∷ r) (sym (append_assoc h.blanks (93 ∷ []) h.more))) h.then
array-here b st rest d e (inr h) =
    let t = h.then in
    value-here (Array h.blanks h.syntax t.blanks t.elements) (b ∷ rest) t.more (λ v more. Closes st v more d) (h.blank, h.is, t.blank, t.are)
    ((λ i. eq_of b 91 e i ∷ h.spelled i) ∙ ap (λ r. 91 ∷ h.blanks ++ spelling h.syntax ++ r) t.spelled
    ∙ ap (λ r. 91 ∷ r) (join-array h.blanks (spelling h.syntax) t.blanks (elements_spelling t.elements) t.more)) t.then
  where
    join-array : (a b c e m : ByteString) → a ++ b ++ (c ++ e ++ 93 ∷ m) ≡ (a ++ b ++ c ++ e ++ 93 ∷ []) ++ m
    join-array a b c e m = simp append_assoc

object-here : (b : ℕ) (st : List Frame) (rest : ByteString) (d : Datum) → (b == 123) ≡ true → Completes AtFirstName st rest d → Completes AtValue st (b ∷ rest) d
object-here b st rest d e (inl h) =
    value-here (EmptyObject h.blanks) (b ∷ rest) h.more (λ v more. Closes st v more d) h.blank
    ((λ i. eq_of b 123 e i ∷ h.spelled i) ∙ ap (λ r. 123 ∷ r) (sym (append_assoc h.blanks (125 ∷ []) h.more))) h.then
object-here b st rest d e (inr h) =
    let n = h.then in
    let c = n.then in
    let u = c.then in
    let t = u.then in
    value-here (Object h.blanks n.pieces c.blanks u.blanks u.syntax t.blanks t.members) (b ∷ rest) t.more (λ v more. Closes st v more d) (h.blank, n.are, c.blank, u.blank, u.is, t.blank, t.are)
    ((λ i. eq_of b 123 e i ∷ h.spelled i)
    ∙ ap (λ r. 123 ∷ r) (ap (λ r. h.blanks ++ 34 ∷ r) (n.spelled ∙ ap (λ r. pieces_text n.pieces ++ 34 ∷ r) (c.spelled ∙ ap (λ r. c.blanks ++ 58 ∷ r) (u.spelled ∙ ap (λ r. u.blanks ++ spelling u.syntax ++ r) t.spelled)))
    ∙ join-object h.blanks (pieces_text n.pieces) c.blanks u.blanks (spelling u.syntax) t.blanks (members_spelling t.members) t.more)) t.then
  where
    join-object : (a n b c v e ms m : ByteString) → a ++ 34 ∷ (n ++ 34 ∷ (b ++ 58 ∷ (c ++ v ++ (e ++ ms ++ 125 ∷ m)))) ≡ (a ++ 34 ∷ (n ++ 34 ∷ []) ++ b ++ 58 ∷ c ++ v ++ e ++ ms ++ 125 ∷ []) ++ m
    join-object a n b c v e ms m =
        join-members a n b c v e ms (125 ∷ m) ∙ sym (append_assoc (a ++ 34 ∷ (n ++ 34 ∷ []) ++ b ++ 58 ∷ c ++ v ++ e ++ ms) (125 ∷ []) m)

begin-sound : (b : ℕ) (st : List Frame) (rest : ByteString) (d : Datum) → Onward (begin_move st b) rest d → Completes AtValue st (b ∷ rest) d
begin-sound b st rest d h =
    choice (λ z. Onward z rest d) _ _ _ h (λ e k. text-here b st rest d e k) (λ _ h.
    choice (λ z. Onward z rest d) _ _ _ h (λ e k. number-here b number.Minus st rest d (λ t. begins-minus b t e) k) (λ _ h.
    choice (λ z. Onward z rest d) _ _ _ h (λ e k. number-here b number.Zero st rest d (λ t. begins-zero b t e) k) (λ other h.
    choice (λ z. Onward z rest d) _ _ _ h (λ e k. number-here b number.Whole st rest d (λ t. begins-digit b t other e) k) (λ _ h.
    choice (λ z. Onward z rest d) _ _ _ h (λ e k. array-here b st rest d e k) (λ _ h.
    choice (λ z. Onward z rest d) _ _ _ h (λ e k. object-here b st rest d e k) (λ _ h.
    choice (λ z. Onward z rest d) _ _ _ h (λ e k. word-here NullWord b 110 (codes "ull") st rest d tt refl e k) (λ _ h.
    choice (λ z. Onward z rest d) _ _ _ h (λ e k. word-here (TruthWord true) b 116 (codes "rue") st rest d tt refl e k) (λ _ h.
    choice (λ z. Onward z rest d) _ _ _ h (λ e k. word-here (TruthWord false) b 102 (codes "alse") st rest d tt refl e k) (λ _ h. absurd h)))))))))

-- ---- inside texts, numbers and words
name-sound : (m : TextMove) (fs : List NamedDatum) (w : ByteString) (st : List Frame) (rest : ByteString) (d : Datum) → Onward (name_move m fs w st) rest d → Moved m rest (λ t more. ColonTail fs (utf8_lossy (w ++ t)) st more d)
name-sound (Goes q bytes) fs w st rest d h = subst (λ (next : ByteString → ByteString → Type 0). TextTail q rest next) (λ i t more. ColonTail fs (utf8_lossy (append_assoc w bytes t i)) st more d) h
name-sound Ends fs w st rest d h = subst (λ x. ColonTail fs (utf8_lossy x) st rest d) (sym (append-nil w)) h
name-sound Wrong fs w st rest d h = h

words-sound : (m : TextMove) (w : ByteString) (st : List Frame) (rest : ByteString) (d : Datum) → Onward (words_move m w st) rest d → Moved m rest (λ t more. Closes st (Words (utf8_lossy (w ++ t))) more d)
words-sound (Goes q bytes) w st rest d h = subst (λ (next : ByteString → ByteString → Type 0). TextTail q rest next) (λ i t more. Closes st (Words (utf8_lossy (append_assoc w bytes t i))) more d) h
words-sound Ends w st rest d h = subst (λ x. Closes st (Words (utf8_lossy x)) rest d) (sym (append-nil w)) h
words-sound Wrong w st rest d h = h

digits-sound : (o : Option NumberPlace) (here : NumberPlace) (w : ByteString) (st : List Frame) (b : ℕ) (rest : ByteString) (d : Datum) → ((t : ByteString) → NumberMoved o t → NumberTail here (b ∷ t)) → Onward (digits_move o here w st b) rest d → HasNumber here (b ∷ rest) (λ t more. Closes st (number_datum (utf8_lossy (w ++ t))) more d)
digits-sound (Some q) here w st b rest d f h = record {
  tail = b ∷ h.tail;
  more = h.more;
  is = f h.tail h.is;
  spelled = ap (λ r. b ∷ r) h.spelled;
  then = subst (λ x. Closes st (number_datum (utf8_lossy x)) h.more d) (append_assoc w (b ∷ []) h.tail) h.then;
}
digits-sound None here w st b rest d f h = ⊎_elim
    (λ k. record {
      tail = [];
      more = b ∷ rest;
      is = number-ends here k.0;
      spelled = refl;
      then = subst (λ x. Closes st (number_datum (utf8_lossy x)) (b ∷ rest) d) (sym (append-nil w)) (after-sound st (number_datum (utf8_lossy w)) b rest d k.1);
    })
    (λ k. absurd k.1)
    (chosen (λ z. Onward z rest d) (may_end here) (after_move (number_datum (utf8_lossy w)) st b) None h)

word-sound : (word : ByteString) (v : Datum) (st : List Frame) (b : ℕ) (rest : ByteString) (d : Datum) → Onward (word_move word v st b) rest d → HasWord word (b ∷ rest) (λ more. Closes st v more d)
word-sound [] v st b rest d h = absurd h
word-sound (a ∷ []) v st b rest d h = ⊎_elim
    (λ k. record { more = rest; spelled = ap (λ x. x ∷ rest) (sym (eq_of a b k.0)); then = k.1 })
    (λ k. absurd k.1)
    (chosen (λ z. Onward z rest d) (a == b) (state (AtEnd v) st) None h)
word-sound (a ∷ c ∷ word) v st b rest d h = ⊎_elim
    (λ k. let w = k.1 in record { more = w.more; spelled = λ i. sym (eq_of a b k.0) i ∷ w.spelled i; then = w.then })
    (λ k. absurd k.1)
    (chosen (λ z. Onward z rest d) (a == b) (state (InWord (c ∷ word) v) st) None h)

-- ---- each byte leads where the grammar allows
first-item-sound : (b : ℕ) (st : List Frame) (rest : ByteString) (d : Datum) → Onward (step AtFirstItem st b) rest d → Completes AtFirstItem st (b ∷ rest) d
first-item-sound b st rest d h = ⊎_elim
    (λ k. ⊎_elim (λ m. inl (blank-mark 93 b rest (λ more. Closes st (Items (data_of [])) more d) k.0 m)) (λ v. inr (blank-value b rest (λ x more. Closes (InItems [] ∷ st) x more d) k.0 v)) k.1)
    (λ k. ⊎_elim
    (λ l. inl (mark-here 93 b rest (λ more. Closes st (Items (data_of [])) more d) l.0 l.1))
    (λ l. inr (begin-sound b (InItems [] ∷ st) rest d l.1))
    (chosen (λ z. Onward z rest d) (b == 93) (state (AtEnd (Items (data_of []))) st) (begin_move (InItems [] ∷ st) b) k.1))
    (chosen (λ z. Onward z rest d) (is_blank b) (state AtFirstItem st) (cond (b == 93) (state (AtEnd (Items (data_of []))) st) (begin_move (InItems [] ∷ st) b)) h)

quote-sound : (fs : List NamedDatum) (b : ℕ) (st : List Frame) (rest : ByteString) (d : Datum) → Onward (cond (b == 34) (state (InName fs place.Plain []) st) None) rest d → NameTail fs st (b ∷ rest) d
quote-sound fs b st rest d h =
    ⊎_elim (λ k. name-here fs b st rest d k.0 k.1) (λ k. absurd k.1) (chosen (λ z. Onward z rest d) (b == 34) (state (InName fs place.Plain []) st) None h)

blank-name : (fs : List NamedDatum) (b : ℕ) (st : List Frame) (rest : ByteString) (d : Datum) → is_blank b ≡ true → NameTail fs st rest d → NameTail fs st (b ∷ rest) d
blank-name fs b st rest d e h = blank-mark 34 b rest (λ more. HasText more (λ name behind. ColonTail fs name st behind d)) e h

first-name-sound : (b : ℕ) (st : List Frame) (rest : ByteString) (d : Datum) → Onward (step AtFirstName st b) rest d → Completes AtFirstName st (b ∷ rest) d
first-name-sound b st rest d h = ⊎_elim
    (λ k. ⊎_elim (λ m. inl (blank-mark 125 b rest (λ more. Closes st (Fields (named_of [])) more d) k.0 m)) (λ n. inr (blank-name [] b st rest d k.0 n)) k.1)
    (λ k. ⊎_elim
    (λ l. inl (mark-here 125 b rest (λ more. Closes st (Fields (named_of [])) more d) l.0 l.1))
    (λ l. inr (quote-sound [] b st rest d l.1))
    (chosen (λ z. Onward z rest d) (b == 125) (state (AtEnd (Fields (named_of []))) st) (cond (b == 34) (state (InName [] place.Plain []) st) None) k.1))
    (chosen (λ z. Onward z rest d) (is_blank b) (state AtFirstName st) (cond (b == 125) (state (AtEnd (Fields (named_of []))) st) (cond (b == 34) (state (InName [] place.Plain []) st) None)) h)

colon-sound : (fs : List NamedDatum) (name : ByteString) (b : ℕ) (st : List Frame) (rest : ByteString) (d : Datum) → Onward (step (AtColon fs name) st b) rest d → ColonTail fs name st (b ∷ rest) d
colon-sound fs name b st rest d h = ⊎_elim
    (λ k. blank-mark 58 b rest (λ more. HasValue more (λ v behind. Closes (InFields fs name ∷ st) v behind d)) k.0 k.1)
    (λ k. ⊎_elim
    (λ l. mark-here 58 b rest (λ more. HasValue more (λ v behind. Closes (InFields fs name ∷ st) v behind d)) l.0 l.1)
    (λ l. absurd l.1)
    (chosen (λ z. Onward z rest d) (b == 58) (state AtValue (InFields fs name ∷ st)) None k.1))
    (chosen (λ z. Onward z rest d) (is_blank b) (state (AtColon fs name) st) (cond (b == 58) (state AtValue (InFields fs name ∷ st)) None) h)

step-sound : (m : Mode) (st : List Frame) (b : ℕ) (rest : ByteString) (d : Datum) → Onward (step m st b) rest d → Completes m st (b ∷ rest) d
step-sound AtValue st b rest d h = ⊎_elim
    (λ k. blank-value b rest (λ v more. Closes st v more d) k.0 k.1)
    (λ k. begin-sound b st rest d k.1)
    (chosen (λ z. Onward z rest d) (is_blank b) (state AtValue st) (begin_move st b) h)
step-sound AtFirstItem st b rest d h = first-item-sound b st rest d h
step-sound AtFirstName st b rest d h = first-name-sound b st rest d h
step-sound (AtName fs) st b rest d h = ⊎_elim
    (λ k. blank-name fs b st rest d k.0 k.1)
    (λ k. quote-sound fs b st rest d k.1)
    (chosen (λ z. Onward z rest d) (is_blank b) (state (AtName fs) st) (cond (b == 34) (state (InName fs place.Plain []) st) None) h)
step-sound (InName fs here w) st b rest d h =
    text-sound here b rest (λ t more. ColonTail fs (utf8_lossy (w ++ t)) st more d) (name-sound (text_move here b) fs w st rest d h)
step-sound (AtColon fs name) st b rest d h = colon-sound fs name b st rest d h
step-sound (AtEnd v) st b rest d h = after-sound st v b rest d h
step-sound (InWord word v) st b rest d h = word-sound word v st b rest d h
step-sound (InNumber here w) st b rest d h = digits-sound (number_move here b) here w st b rest d (λ t. number-sound here b t) h
step-sound (InText here w) st b rest d h =
    text-sound here b rest (λ t more. Closes st (Words (utf8_lossy (w ++ t))) more d) (words-sound (text_move here b) w st rest d h)

number-finish : (t : Bool) (here : NumberPlace) (w : ByteString) (d : Datum) → may_end here ≡ t → cond t (Some (number_datum (utf8_lossy w))) None ≡ Some d → HasNumber here [] (λ x more. Closes [] (number_datum (utf8_lossy (w ++ x))) more d)
number-finish true here w d e h =
    let same : number_datum (utf8_lossy w) ≡ d = cc in record {
      tail = [];
      more = [];
      is = number-ends here e;
      spelled = refl;
      then = (refl, sym same ∙ ap (λ x. number_datum (utf8_lossy x)) (sym (append-nil w)));
    }
number-finish false here w d e h = cc

finish-sound : (m : Mode) (st : List Frame) (d : Datum) → finish m st ≡ Some d → Completes m st [] d
finish-sound (AtEnd v) [] d h = let same : v ≡ d = cc in (refl, sym same)
finish-sound (InNumber here w) [] d h = number-finish (may_end here) here w d refl h
finish-sound m st d h = cc

onward : (o : Option State) (w : ByteString) (d : Datum) → ((m : Mode) (st : List Frame) → outcome m st w ≡ Some d → Completes m st w d) → carry o (λ n su. outcome n su w) ≡ Some d → Onward o w d
onward None w d ih h = cc
onward (Some s) w d ih h = ih s.mode s.stack h

-- a value that bytes have from a place on is one that the grammar allows
pub sound : (w : ByteString) (m : Mode) (st : List Frame) (d : Datum) → outcome m st w ≡ Some d → Completes m st w d
sound [] m st d h = finish-sound m st d h
sound (b ∷ w) m st d h = step-sound m st b w d (onward (step m st b) w d (λ n su. sound w n su d) h)

-- the value of a text
pub text-of : (bytes : ByteString) (d : Datum) → outcome AtValue [] bytes ≡ Some d → IsText bytes d
text-of bytes d h =
    let v = sound bytes AtValue [] d h in record {
      before = v.blanks;
      syntax = v.syntax;
      behind = v.more;
      blank_before = v.blank;
      blank_behind = v.then.0;
      is_syntax = v.is;
      spelled = v.spelled;
      valued = v.then.1;
    }
