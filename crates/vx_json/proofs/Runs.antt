-- Where runs of bytes of one kind lead.
use Rattle.std.proofs.Common.{◌≡◌, ℕ, ◌+◌, ◌<◌, ◌==◌, true, false, Some, List, [], ◌∷◌, ◌++◌, length, take, get_or, refl, sym, ◌∙◌, ap, subst, arith, append_assoc}
use Rattle.std.proofs.lemmas.List.{take_more, append-nil}
use Rattle.std.proofs.lemmas.Bool.Decides.{nat_tests}
use Rattle.std.specs.Str.Lossy.{utf8_lossy}
use Rattle.vx_value.specs.Texts.{ByteString, is_empty}
use Rattle.vx_value.specs.Datum.{Datum, Words, NamedDatum}
use Rattle.vx_json.specs.Numbers.{is_digit, are_digits}
use Rattle.vx_json.specs.Machine.{Goes, text_move, number_move, digits_move, Mode, Frame, InText, InName, InNumber, InWord, AtValue, AtFirstName, AtName, AtEnd, AtColon}
use Rattle.vx_json.specs.Openings.{IsQuoted, IsPart}
use Rattle.vx_json.specs.Runs.{is_plain, are_plain, takes_digits, IsClosed, LeadsLevel}
use Rattle.vx_json.specs.declared.text_place.TextPlace.TheVariants as place
use Rattle.vx_json.specs.WordViews.{word_rest, word_datum}
use Rattle.vx_json.specs.declared.word_place.WordPlace.{WordPlace}
use Rattle.vx_json.specs.declared.word_place.WordPlace.TheVariants as word
use Rattle.vx_json.specs.declared.number_place.NumberPlace.{NumberPlace}
use Rattle.vx_json.specs.declared.number_place.NumberPlace.TheVariants as number
use Rattle.vx_json.proofs.Choices.{both_true, and_true}
use Rattle.vx_json.proofs.TextRuns.{in-text, in-name}

-- ---- one byte more
pub plain-append : (a b : ByteString) → are_plain a ≡ true → are_plain b ≡ true → are_plain (a ++ b) ≡ true
plain-append [] b h k = k
plain-append (x ∷ a) b h k = let l = both_true _ _ h in and_true _ _ l.0 (plain-append a b l.1 k)

pub plain-next : (bytes : ByteString) (i : ℕ) → i < length bytes → is_plain (get_or bytes i 0) ≡ true → are_plain (take i bytes) ≡ true → are_plain (take (i + 1) bytes) ≡ true
plain-next bytes i h p k = ap are_plain (take_more bytes i 0 h) ∙ plain-append (take i bytes) (get_or bytes i 0 ∷ []) k (and_true _ _ p refl)

pub digits-append : (a b : ByteString) → are_digits a ≡ true → are_digits b ≡ true → are_digits (a ++ b) ≡ true
digits-append [] b h k = k
digits-append (x ∷ a) b h k = let l = both_true _ _ h in and_true _ _ l.0 (digits-append a b l.1 k)

pub digits-next : (bytes : ByteString) (i : ℕ) → i < length bytes → is_digit (get_or bytes i 0) ≡ true → are_digits (take i bytes) ≡ true → are_digits (take (i + 1) bytes) ≡ true
digits-next bytes i h p k = ap are_digits (take_more bytes i 0 h) ∙ digits-append (take i bytes) (get_or bytes i 0 ∷ []) k (and_true _ _ p refl)

-- ---- where they lead
plain-goes : (b : ℕ) → is_plain b ≡ true → text_move place.Plain b ≡ Goes place.Plain (b ∷ [])
plain-goes b h = grind (arith, nat_tests)

leads-append : (m k n : Mode) (st : List Frame) (a b : ByteString) → LeadsLevel m st a k → LeadsLevel k st b n → LeadsLevel m st (a ++ b) n
leads-append m k n st [] b h l = subst (λ x. LeadsLevel x st b n) (sym h) l
leads-append m k n st (x ∷ a) b h l = (h.0, h.1, h.2, leads-append h.0 k n st a b h.3 l)

pub text-run : (w run : ByteString) (st : List Frame) → are_plain run ≡ true → LeadsLevel (InText place.Plain w) st run (InText place.Plain (w ++ run))
text-run w [] st h = ap (λ x. InText place.Plain x) (sym (append-nil w))
text-run w (b ∷ run) st h =
    let k = both_true _ _ h in (
      InText place.Plain (w ++ b ∷ []),
      (in-text st).goes place.Plain w b place.Plain (b ∷ []) (plain-goes b k.0),
      refl,
      subst (λ x. LeadsLevel (InText place.Plain (w ++ b ∷ [])) st run (InText place.Plain x)) (append_assoc w (b ∷ []) run) (text-run (w ++ b ∷ []) run st k.1),
    )

pub name-run : (fs : List NamedDatum) (w run : ByteString) (st : List Frame) → are_plain run ≡ true → LeadsLevel (InName fs place.Plain w) st run (InName fs place.Plain (w ++ run))
name-run fs w [] st h = ap (λ x. InName fs place.Plain x) (sym (append-nil w))
name-run fs w (b ∷ run) st h =
    let k = both_true _ _ h in (
      InName fs place.Plain (w ++ b ∷ []),
      (in-name fs st).goes place.Plain w b place.Plain (b ∷ []) (plain-goes b k.0),
      refl,
      subst (λ x. LeadsLevel (InName fs place.Plain (w ++ b ∷ [])) st run (InName fs place.Plain x)) (append_assoc w (b ∷ []) run) (name-run fs (w ++ b ∷ []) run st k.1),
    )

pub text-closed : (w text : ByteString) (st : List Frame) → IsClosed w text → LeadsLevel (InText place.Plain []) st w (AtEnd (Words text))
text-closed w text st c =
    subst (λ t. LeadsLevel (InText place.Plain []) st w (AtEnd (Words t))) (sym c.text)
    (subst (λ x. LeadsLevel (InText place.Plain []) st x (AtEnd (Words (utf8_lossy c.run)))) (sym c.bytes)
    (leads-append (InText place.Plain []) (InText place.Plain c.run) (AtEnd (Words (utf8_lossy c.run))) st c.run (34 ∷ []) (text-run [] c.run st c.plain) (AtEnd (Words (utf8_lossy c.run)), refl, refl, refl)))

pub name-closed : (fs : List NamedDatum) (w name : ByteString) (st : List Frame) → IsClosed w name → LeadsLevel (InName fs place.Plain []) st w (AtColon fs name)
name-closed fs w name st c =
    subst (λ t. LeadsLevel (InName fs place.Plain []) st w (AtColon fs t)) (sym c.text)
    (subst (λ x. LeadsLevel (InName fs place.Plain []) st x (AtColon fs (utf8_lossy c.run))) (sym c.bytes)
    (leads-append (InName fs place.Plain []) (InName fs place.Plain c.run) (AtColon fs (utf8_lossy c.run)) st c.run (34 ∷ []) (name-run fs [] c.run st c.plain) (AtColon fs (utf8_lossy c.run), refl, refl, refl)))

pub text-quoted : (w words : ByteString) (st : List Frame) → IsQuoted w words → LeadsLevel AtValue st w (AtEnd (Words words))
text-quoted w words st q = subst (λ x. LeadsLevel AtValue st x (AtEnd (Words words))) (sym q.bytes) (InText place.Plain [], refl, refl, text-closed q.rest words st q.closed)

pub first-quoted : (w name : ByteString) (st : List Frame) → IsQuoted w name → LeadsLevel AtFirstName st w (AtColon [] name)
first-quoted w name st q = subst (λ x. LeadsLevel AtFirstName st x (AtColon [] name)) (sym q.bytes) (InName [] place.Plain [], refl, refl, name-closed [] q.rest name st q.closed)

pub next-quoted : (fs : List NamedDatum) (w name : ByteString) (st : List Frame) → IsQuoted w name → LeadsLevel (AtName fs) st w (AtColon fs name)
next-quoted fs w name st q = subst (λ x. LeadsLevel (AtName fs) st x (AtColon fs name)) (sym q.bytes) (InName fs place.Plain [], refl, refl, name-closed fs q.rest name st q.closed)

pub text-begun : (w text : ByteString) (st : List Frame) → IsPart w text → LeadsLevel AtValue st w (InText place.Plain text)
text-begun w text st q = subst (λ x. LeadsLevel AtValue st x (InText place.Plain text)) (sym q.bytes) (InText place.Plain [], refl, refl, text-run [] text st q.plain)

pub first-begun : (w text : ByteString) (st : List Frame) → IsPart w text → LeadsLevel AtFirstName st w (InName [] place.Plain text)
first-begun w text st q = subst (λ x. LeadsLevel AtFirstName st x (InName [] place.Plain text)) (sym q.bytes) (InName [] place.Plain [], refl, refl, name-run [] [] text st q.plain)

pub next-begun : (fs : List NamedDatum) (w text : ByteString) (st : List Frame) → IsPart w text → LeadsLevel (AtName fs) st w (InName fs place.Plain text)
next-begun fs w text st q = subst (λ x. LeadsLevel (AtName fs) st x (InName fs place.Plain text)) (sym q.bytes) (InName fs place.Plain [], refl, refl, name-run fs [] text st q.plain)

pub first-named : (fs : List NamedDatum) (w name : ByteString) (st : List Frame) → fs ≡ [] → IsQuoted w name → LeadsLevel AtFirstName st w (AtColon fs name)
first-named fs w name st e q = rw e (first-quoted w name st q)

pub first-named-part : (fs : List NamedDatum) (w text : ByteString) (st : List Frame) → fs ≡ [] → IsPart w text → LeadsLevel AtFirstName st w (InName fs place.Plain text)
first-named-part fs w text st e q = rw e (first-begun w text st q)

-- digits go on with digits
abbrev pub TakesDigits : NumberPlace → Type 0
TakesDigits p = (b : ℕ) → is_digit b ≡ true → number_move p b ≡ Some p

pub digits-run : (p : NumberPlace) (w run : ByteString) (st : List Frame) → TakesDigits p → are_digits run ≡ true → LeadsLevel (InNumber p w) st run (InNumber p (w ++ run))
digits-run p w [] st t h = ap (λ x. InNumber p x) (sym (append-nil w))
digits-run p w (b ∷ run) st t h =
    let k = both_true _ _ h in (
      InNumber p (w ++ b ∷ []),
      ap (λ o. digits_move o p w st b) (t b k.0),
      refl,
      subst (λ x. LeadsLevel (InNumber p (w ++ b ∷ [])) st run (InNumber p x)) (append_assoc w (b ∷ []) run) (digits-run p (w ++ b ∷ []) run st t k.1),
    )

pub digits-again : (p : NumberPlace) → takes_digits p ≡ true → TakesDigits p
digits-again number.Minus h b k = cc
digits-again number.Zero h b k = cc
digits-again number.Whole h b k = rw k refl
digits-again number.Point h b k = cc
digits-again number.Fraction h b k = rw k refl
digits-again number.Mark h b k = cc
digits-again number.Sign h b k = cc
digits-again number.Exponent h b k = rw k refl

-- ---- words
word-run : (rest : ByteString) (d : Datum) (st : List Frame) → is_empty rest ≡ false → LeadsLevel (InWord rest d) st rest (AtEnd d)
word-run [] d st h = cc
word-run (a ∷ []) d st h = (AtEnd d, rw (same a) refl, refl, refl)
  where
    same : (a : ℕ) → (a == a) ≡ true
    same a = grind (arith, nat_tests)
word-run (a ∷ b ∷ rest) d st h = (InWord (b ∷ rest) d, rw (same a) refl, refl, word-run (b ∷ rest) d st refl)
  where
    same : (a : ℕ) → (a == a) ≡ true
    same a = grind (arith, nat_tests)

rest-some : (w : WordPlace) → is_empty (word_rest w) ≡ false
rest-some word.N = refl
rest-some word.Nu = refl
rest-some word.Nul = refl
rest-some word.T = refl
rest-some word.Tr = refl
rest-some word.Tru = refl
rest-some word.F = refl
rest-some word.Fa = refl
rest-some word.Fal = refl
rest-some word.Fals = refl

pub word-ends : (w : WordPlace) (bytes : ByteString) (d : Datum) (st : List Frame) → bytes ≡ word_rest w → d ≡ word_datum w → LeadsLevel (InWord (word_rest w) (word_datum w)) st bytes (AtEnd d)
word-ends w bytes d st e k = rw (e, k) (word-run (word_rest w) (word_datum w) st (rest-some w))

-- ---- the same, by what the code knows of the bytes that it keeps
pub text-goes-on : (w v run : ByteString) (st : List Frame) → are_plain run ≡ true → v ≡ w ++ run → LeadsLevel (InText place.Plain w) st run (InText place.Plain v)
text-goes-on w v run st h e = subst (λ x. LeadsLevel (InText place.Plain w) st run (InText place.Plain x)) (sym e) (text-run w run st h)

pub name-goes-on : (fs : List NamedDatum) (w v run : ByteString) (st : List Frame) → are_plain run ≡ true → v ≡ w ++ run → LeadsLevel (InName fs place.Plain w) st run (InName fs place.Plain v)
name-goes-on fs w v run st h e = subst (λ x. LeadsLevel (InName fs place.Plain w) st run (InName fs place.Plain x)) (sym e) (name-run fs w run st h)

pub text-ends : (w bytes words : ByteString) (st : List Frame) → w ≡ [] → IsClosed bytes words → LeadsLevel (InText place.Plain w) st bytes (AtEnd (Words words))
text-ends w bytes words st e c = subst (λ x. LeadsLevel (InText place.Plain x) st bytes (AtEnd (Words words))) (sym e) (text-closed bytes words st c)

pub digits-go-on : (p : NumberPlace) (w v run : ByteString) (st : List Frame) → TakesDigits p → are_digits run ≡ true → v ≡ w ++ run → LeadsLevel (InNumber p w) st run (InNumber p v)
digits-go-on p w v run st t h e = subst (λ x. LeadsLevel (InNumber p w) st run (InNumber p x)) (sym e) (digits-run p w run st t h)
