-- Where the bytes of a number lead.
use Rattle.std.proofs.Common.{◌≡◌, ℕ, suc, ◌+◌, ◌<◌, ◌||◌, ◌==◌, true, cond, Option, Some, None, List, [], ◌∷◌, ◌++◌, length, take, drop, get_or, refl, sym, ◌∙◌, ap, subst, arith, append_assoc}
use Rattle.std.proofs.lemmas.List.{take_more, append-nil}
use Rattle.std.proofs.lemmas.Bool.Decides.{nat_tests}
use Rattle.std.specs.Str.Lossy.{utf8_lossy}
use Rattle.vx_value.specs.Texts.{ByteString}
use Rattle.vx_value.specs.Datum.{Datum}
use Rattle.vx_json.specs.Numbers.{is_digit}
use Rattle.vx_json.specs.Machine.{is_mark, after_whole, number_move, number_datum, digits_move, Frame, AtValue, InNumber, step, state}
use Rattle.vx_json.specs.Runs.{is_plain, are_plain, LeadsLevel}
use Rattle.vx_json.specs.Walks.{LeadsNumber, EndsNumber, IsNumber}
use Rattle.vx_json.specs.declared.number_place.NumberPlace.{NumberPlace}
use Rattle.vx_json.specs.declared.number_place.NumberPlace.TheVariants as number
use Rattle.vx_json.proofs.Choices.{both_true, and_true}
use Rattle.vx_json.proofs.Levels.{choose}

-- ---- one byte more
spelled-append : (a b : ByteString) (p q r : NumberPlace) → LeadsNumber p a q → LeadsNumber q b r → LeadsNumber p (a ++ b) r
spelled-append [] b p q r h k = subst (λ x. LeadsNumber x b r) (sym h) k
spelled-append (x ∷ a) b p q r h k = (h.0, h.1, spelled-append a b h.0 q r h.2 k)

pub spelled-next : (bytes : ByteString) (i : ℕ) (p q r : NumberPlace) → i < length bytes → LeadsNumber p (take i bytes) q → number_move q (get_or bytes i 0) ≡ Some r → LeadsNumber p (take (i + 1) bytes) r
spelled-next bytes i p q r l h m =
    subst (λ w. LeadsNumber p w r) (sym (take_more bytes i 0 l)) (spelled-append (take i bytes) (get_or bytes i 0 ∷ []) p q r h (r, m, refl))

-- ---- each byte stands for itself
abbrev PlainMove : ℕ → Option NumberPlace → Type 0
PlainMove b None = Unit {0}
PlainMove b (Some q) = is_plain b ≡ true

digit-plain : (b : ℕ) → is_digit b ≡ true → is_plain b ≡ true
digit-plain b h = grind (arith, nat_tests)

mark-plain : (b : ℕ) → is_mark b ≡ true → is_plain b ≡ true
mark-plain b h = grind (arith, nat_tests)

point-plain : (b : ℕ) → (b == 46) ≡ true → is_plain b ≡ true
point-plain b h = grind (arith, nat_tests)

zero-plain : (b : ℕ) → (b == 48) ≡ true → is_plain b ≡ true
zero-plain b h = grind (arith, nat_tests)

sign-plain : (b : ℕ) → ((b == 43) || (b == 45)) ≡ true → is_plain b ≡ true
sign-plain b h = grind (arith, nat_tests)

on-digit : (b : ℕ) (q : NumberPlace) (o : Option NumberPlace) → PlainMove b o → PlainMove b (cond (is_digit b) (Some q) o)
on-digit b q o h = choose (PlainMove b) (is_digit b) (Some q) o (digit-plain b) (λ _. h)

after-whole-plain : (b : ℕ) → PlainMove b (after_whole b)
after-whole-plain b =
    choose (PlainMove b) (b == 46) (Some number.Point) (cond (is_mark b) (Some number.Mark) None) (point-plain b)
    (λ _. choose (PlainMove b) (is_mark b) (Some number.Mark) None (mark-plain b) (λ _. tt))

move-plain : (p : NumberPlace) (b : ℕ) → PlainMove b (number_move p b)
move-plain number.Minus b = choose (PlainMove b) (b == 48) (Some number.Zero) (cond (is_digit b) (Some number.Whole) None) (zero-plain b) (λ _. on-digit b number.Whole None tt)
move-plain number.Zero b = after-whole-plain b
move-plain number.Whole b = on-digit b number.Whole (after_whole b) (after-whole-plain b)
move-plain number.Point b = on-digit b number.Fraction None tt
move-plain number.Fraction b = on-digit b number.Fraction (cond (is_mark b) (Some number.Mark) None) (choose (PlainMove b) (is_mark b) (Some number.Mark) None (mark-plain b) (λ _. tt))
move-plain number.Mark b = choose (PlainMove b) ((b == 43) || (b == 45)) (Some number.Sign) (cond (is_digit b) (Some number.Exponent) None) (sign-plain b) (λ _. on-digit b number.Exponent None tt)
move-plain number.Sign b = on-digit b number.Exponent None tt
move-plain number.Exponent b = on-digit b number.Exponent None tt

pub spelled-plain : (w : ByteString) (p q : NumberPlace) → LeadsNumber p w q → are_plain w ≡ true
spelled-plain [] p q h = refl
spelled-plain (b ∷ w) p q h = and_true _ _ (subst (PlainMove b) h.1 (move-plain p b)) (spelled-plain w h.0 q h.2)

-- ---- where they lead
spelled-run : (w v : ByteString) (p q : NumberPlace) (st : List Frame) → LeadsNumber p w q → LeadsLevel (InNumber p v) st w (InNumber q (v ++ w))
spelled-run [] v p q st h = ap (λ x. InNumber x v) h ∙ ap (λ x. InNumber q x) (sym (append-nil v))
spelled-run (b ∷ w) v p q st h = (
  InNumber h.0 (v ++ b ∷ []),
  ap (λ o. digits_move o p v st b) h.1,
  refl,
  subst (λ x. LeadsLevel (InNumber h.0 (v ++ b ∷ [])) st w (InNumber q x)) (append_assoc v (b ∷ []) w) (spelled-run w (v ++ b ∷ []) h.0 q st h.2),
)

first-spelled : (b : ℕ) (rest : ByteString) (n : ℕ) (p : NumberPlace) (d : Datum) →
    ((st : List Frame) → step AtValue st b ≡ state (InNumber p (b ∷ [])) st) → EndsNumber p rest n → d ≡ number_datum (utf8_lossy (b ∷ take n rest)) → IsNumber (b ∷ rest) (suc n) d
first-spelled b rest n p d s e v = record {
  place = e.place;
  leads = λ st. (InNumber p (b ∷ []), s st, refl, spelled-run (take n rest) (b ∷ []) p e.place st e.leads);
  ends = e.ends;
  stops = e.stops;
  value = v;
}

-- a byte that begins a number, and those that go on with it
pub spelled : (bytes rest : ByteString) (n : ℕ) (p : NumberPlace) (d : Datum) → 0 < length bytes → rest ≡ drop 1 bytes →
    ((st : List Frame) → step AtValue st (get_or bytes 0 0) ≡ state (InNumber p (get_or bytes 0 0 ∷ [])) st) → EndsNumber p rest n → d ≡ number_datum (utf8_lossy (take (n + 1) bytes)) → IsNumber bytes (n + 1) d
spelled [] rest n p d l r s e v = absurd (omega arith)
spelled (b ∷ bytes) rest n p d l r s e v =
    let one : suc n ≡ n + 1 = omega arith in
    subst (λ k. IsNumber (b ∷ bytes) k d) one
    (first-spelled b bytes n p d s (subst (λ w. EndsNumber p w n) r e) (v ∙ ap (λ k. number_datum (utf8_lossy (take k (b ∷ bytes)))) (sym one)))

pub spelled-all-plain : (bytes rest : ByteString) (n : ℕ) (p : NumberPlace) → 0 < length bytes → rest ≡ drop 1 bytes → are_plain (get_or bytes 0 0 ∷ []) ≡ true → EndsNumber p rest n → are_plain (take (n + 1) bytes) ≡ true
spelled-all-plain [] rest n p l r h e = absurd (omega arith)
spelled-all-plain (b ∷ bytes) rest n p l r h e =
    let one : n + 1 ≡ suc n = omega arith in
    let tail : are_plain (take n bytes) ≡ true = spelled-plain (take n bytes) p e.place (subst (λ w. LeadsNumber p (take n w) e.place) r e.leads) in
    ap (λ k. are_plain (take k (b ∷ bytes))) one ∙ and_true _ _ (both_true _ _ h).0 tail
