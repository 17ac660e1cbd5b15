-- One step of comparing a form with a text, by their first bytes.
use Rattle.std.proofs.Common.{Bor, subst, append_assoc, ◌≡◌, ◌≢◌, ℕ, suc, true, false, ◌==◌, ◌&&◌, not, [], ◌∷◌, ◌++◌, length, drop, refl, sym, ap, ◌∙◌, arith, if◌then◌else◌}
use Rattle.std.proofs.lemmas.Bool.Decides.{nat_tests}
use Rattle.std.proofs.lemmas.List.{append-nil}
use Rattle.vx_value.specs.Texts.{ByteString}
use Rattle.vx_graph.specs.Patterns.{star, is_like, shared}
use Rattle.vx_graph.specs.Turns.{IsTurn, left_text}
use Rattle.vx_graph.specs.declared.pattern.Left.{Left}
use Rattle.vx_graph.specs.declared.pattern.Turn.{Turn}
use Rattle.vx_graph.specs.declared.pattern.Turn.TheVariants.{Like, Star, Unlike}
use Rattle.vx_graph.proofs.Likeness.{literal, differs, unlike, shared_star}

-- nothing is left of either
pub both_over : (f t : ByteString) → f ≡ [] → t ≡ [] → is_like f t ≡ true
both_over f t e k = λ i. (ap (λ x. is_like x t) e ∙ ap (is_like []) k) i

-- nothing is left of the form
pub form_over : (f t : ByteString) (x : ℕ) (u : ByteString) → f ≡ [] → t ≡ x ∷ u → is_like f t ≡ false
form_over f t x u e k = ap (λ y. is_like y t) e ∙ ap (is_like []) k

-- nothing is left of the text
pub text_over : (f t : ByteString) (x : ℕ) (g : ByteString) → f ≡ x ∷ g → t ≡ [] → x ≢ star → is_like f t ≡ false
text_over f t x g e k apart =
    let not_star : (x == star) ≡ false = grind (arith, nat_tests) in
    ap (λ y. is_like y t) e ∙ ap (is_like (x ∷ g)) k ∙ unlike (x ∷ g) [] not_star refl

-- the first bytes differ
pub bytes_differ : (f t : ByteString) (x y : ℕ) (g u : ByteString) → f ≡ x ∷ g → t ≡ y ∷ u → x ≢ star → y ≢ x → is_like f t ≡ false
bytes_differ f t x y g u e k apart other =
    let not_star : (x == star) ≡ false = grind (arith, nat_tests) in
    let differ : (x == y) ≡ false = grind (arith, nat_tests) in
    ap (λ z. is_like z t) e ∙ ap (is_like (x ∷ g)) k ∙ differs x y g u not_star (ap (λ b. b && not (x == star)) differ)

-- the same first byte, which is no `*`
same_first : (x : ℕ) → x ≢ star → ((x == x) && not (x == star)) ≡ true
same_first x apart = grind (arith, nat_tests)

-- a `*` is met
pub star_met : (f t : ByteString) (g : Bor ByteString) (left : Left) → f ≡ star ∷ g.now → left_text left ≡ t → IsTurn f t (Star g left)
star_met f t g left e k =
    let none : shared f t ≡ 0 = ap (λ z. shared z t) e ∙ shared_star star g.now t refl in
    let longer : length f ≡ length (star ∷ g.now) = ap (λ (z : ByteString). length z) e in
    let same : length (left_text left) ≡ length t = ap (λ (z : ByteString). length z) k in
    (ap (λ n. drop n f) none ∙ e, k ∙ sym (ap (λ n. drop n t) none), omega (arith, longer), omega (arith, same))

pub turn_literal : (x : ℕ) (f t : ByteString) (turn : Turn) → x ≢ star → IsTurn f t turn → IsTurn (x ∷ f) (x ∷ t) turn
turn_literal x f t Like apart is = literal x x f t (same_first x apart) ∙ is
turn_literal x f t Unlike apart is = literal x x f t (same_first x apart) ∙ is
turn_literal x f t (Star g left) apart is =
    let on : shared (x ∷ f) (x ∷ t) ≡ suc (shared f t) = ap (λ b. if b then suc (shared f t) else 0) (same_first x apart) in (
      ap (λ n. drop n (x ∷ f)) on ∙ is.0,
      is.1 ∙ sym (ap (λ n. drop n (x ∷ t)) on),
      omega (arith, is.2),
      omega (arith, is.3),
    )

-- what is found behind the same first byte is found
pub turn_behind : (f t : ByteString) (x : ℕ) (g u : ByteString) (turn : Turn) → f ≡ x ∷ g → t ≡ x ∷ u → x ≢ star → IsTurn g u turn → IsTurn f t turn
turn_behind f t x g u turn e k apart is =
    subst (λ z. IsTurn z t turn) (sym e) (subst (λ z. IsTurn (x ∷ g) z turn) (sym k) (turn_literal x g u turn apart is))

-- the last byte of three pieces
pub last_of_port : (left : Left) (last : ℕ) (front : ByteString) → left.port.now ≡ front ++ last ∷ [] → (whole : ByteString) × (left_text left ≡ whole ++ last ∷ [])
last_of_port left last front e = (
  left.name.now ++ (left.dot.now ++ front),
  ap (λ z. left.name.now ++ (left.dot.now ++ z)) e
      ∙ ap (λ z. left.name.now ++ z) (sym (append_assoc left.dot.now front (last ∷ [])))
      ∙ sym (append_assoc left.name.now (left.dot.now ++ front) (last ∷ [])),
)

pub last_of_dot : (left : Left) (last : ℕ) (front : ByteString) → left.port.now ≡ [] → left.dot.now ≡ front ++ last ∷ [] → (whole : ByteString) × (left_text left ≡ whole ++ last ∷ [])
last_of_dot left last front none e = (
  left.name.now ++ front,
  ap (λ z. left.name.now ++ (left.dot.now ++ z)) none
      ∙ ap (λ z. left.name.now ++ z) (append-nil left.dot.now ∙ e)
      ∙ sym (append_assoc left.name.now front (last ∷ [])),
)
