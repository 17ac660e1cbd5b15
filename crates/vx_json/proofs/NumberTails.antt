-- What may come inside a number, place by place, and that each byte leads there.
use Rattle.std.proofs.Common.{◌≡◌, ℕ, Bool, true, false, cond, ◌&&◌, ◌||◌, ◌==◌, Option, Some, None, ⊎_elim, [], ◌∷◌, ◌++◌, refl, ap}
use Rattle.vx_value.specs.Texts.{ByteString}
use Rattle.vx_json.specs.Numbers.{is_digit, are_digits, some_digits, is_whole_part, is_fraction, are_signed_digits, is_exponent, NumberParts}
use Rattle.vx_json.specs.Machine.{is_mark, after_whole, number_move, may_end}
use Rattle.vx_json.specs.declared.number_place.NumberPlace.{NumberPlace}
use Rattle.vx_json.specs.declared.number_place.NumberPlace.TheVariants as number
use Rattle.vx_json.proofs.Choices.{chosen, and_true}

-- digits that pass a test, and what may follow a whole part
pub record WholeTail (test : ByteString → Bool) (t : ByteString) : Type 0 where
  pub digits : ByteString
  pub fraction : ByteString
  pub exponent : ByteString
  pub are : test digits ≡ true
  pub is_fraction_part : is_fraction fraction ≡ true
  pub is_exponent_part : is_exponent exponent ≡ true
  pub joined : t ≡ digits ++ fraction ++ exponent

-- what may follow a whole part
pub record PartsTail (t : ByteString) : Type 0 where
  pub fraction : ByteString
  pub exponent : ByteString
  pub is_fraction_part : is_fraction fraction ≡ true
  pub is_exponent_part : is_exponent exponent ≡ true
  pub joined : t ≡ fraction ++ exponent

-- digits that pass a test, and perhaps an exponent
pub record FractionTail (test : ByteString → Bool) (t : ByteString) : Type 0 where
  pub digits : ByteString
  pub exponent : ByteString
  pub are : test digits ≡ true
  pub is_exponent_part : is_exponent exponent ≡ true
  pub joined : t ≡ digits ++ exponent

-- the rest of a number from a place on
abbrev pub NumberTail : NumberPlace → ByteString → Type 0
NumberTail number.Minus t = WholeTail is_whole_part t
NumberTail number.Zero t = PartsTail t
NumberTail number.Whole t = WholeTail are_digits t
NumberTail number.Point t = FractionTail some_digits t
NumberTail number.Fraction t = FractionTail are_digits t
NumberTail number.Mark t = are_signed_digits t ≡ true
NumberTail number.Sign t = some_digits t ≡ true
NumberTail number.Exponent t = are_digits t ≡ true

abbrev pub NumberMoved : Option NumberPlace → ByteString → Type 0
NumberMoved None t = ⊥
NumberMoved (Some q) t = NumberTail q t

mark-sound : (b : ℕ) (t : ByteString) → is_mark b ≡ true → are_signed_digits t ≡ true → is_exponent (b ∷ t) ≡ true
mark-sound b t h k = and_true _ _ h k

after-whole-sound : (b : ℕ) (t : ByteString) → NumberMoved (after_whole b) t → PartsTail (b ∷ t)
after-whole-sound b t h = ⊎_elim
    (λ k. let p = k.1 in record { fraction = b ∷ p.digits; exponent = p.exponent; is_fraction_part = and_true _ _ k.0 p.are; is_exponent_part = p.is_exponent_part; joined = ap (λ r. b ∷ r) p.joined })
    (λ k. ⊎_elim
    (λ l. record { fraction = []; exponent = b ∷ t; is_fraction_part = refl; is_exponent_part = mark-sound b t l.0 l.1; joined = refl })
    (λ l. absurd l.1)
    (chosen (λ z. NumberMoved z t) (is_mark b) (Some number.Mark) None k.1))
    (chosen (λ z. NumberMoved z t) (b == 46) (Some number.Point) (cond (is_mark b) (Some number.Mark) None) h)

whole-of-digits : (b : ℕ) (ds : ByteString) → (b == 48) ≡ false → is_digit b ≡ true → are_digits ds ≡ true → is_whole_part (b ∷ ds) ≡ true
whole-of-digits b ds z h k = rw z (and_true _ _ h k)

whole-of-zero : (b : ℕ) → (b == 48) ≡ true → is_whole_part (b ∷ []) ≡ true
whole-of-zero b z = rw z refl

minus-sound : (b : ℕ) (t : ByteString) → NumberMoved (number_move number.Minus b) t → WholeTail is_whole_part (b ∷ t)
minus-sound b t h = ⊎_elim
    (λ k. let p = k.1 in record { digits = b ∷ []; fraction = p.fraction; exponent = p.exponent; are = whole-of-zero b k.0; is_fraction_part = p.is_fraction_part; is_exponent_part = p.is_exponent_part; joined = ap (λ r. b ∷ r) p.joined })
    (λ k. ⊎_elim
    (λ l. let p = l.1 in record { digits = b ∷ p.digits; fraction = p.fraction; exponent = p.exponent; are = whole-of-digits b p.digits k.0 l.0 p.are; is_fraction_part = p.is_fraction_part; is_exponent_part = p.is_exponent_part; joined = ap (λ r. b ∷ r) p.joined })
    (λ l. absurd l.1)
    (chosen (λ z. NumberMoved z t) (is_digit b) (Some number.Whole) None k.1))
    (chosen (λ z. NumberMoved z t) (b == 48) (Some number.Zero) (cond (is_digit b) (Some number.Whole) None) h)

whole-sound : (b : ℕ) (t : ByteString) → NumberMoved (number_move number.Whole b) t → WholeTail are_digits (b ∷ t)
whole-sound b t h = ⊎_elim
    (λ k. let p = k.1 in record { digits = b ∷ p.digits; fraction = p.fraction; exponent = p.exponent; are = and_true _ _ k.0 p.are; is_fraction_part = p.is_fraction_part; is_exponent_part = p.is_exponent_part; joined = ap (λ r. b ∷ r) p.joined })
    (λ k. let p = after-whole-sound b t k.1 in record { digits = []; fraction = p.fraction; exponent = p.exponent; are = refl; is_fraction_part = p.is_fraction_part; is_exponent_part = p.is_exponent_part; joined = p.joined })
    (chosen (λ z. NumberMoved z t) (is_digit b) (Some number.Whole) (after_whole b) h)

point-sound : (b : ℕ) (t : ByteString) → NumberMoved (number_move number.Point b) t → FractionTail some_digits (b ∷ t)
point-sound b t h = ⊎_elim
    (λ k. let p = k.1 in record { digits = b ∷ p.digits; exponent = p.exponent; are = and_true _ _ k.0 p.are; is_exponent_part = p.is_exponent_part; joined = ap (λ r. b ∷ r) p.joined })
    (λ k. absurd k.1)
    (chosen (λ z. NumberMoved z t) (is_digit b) (Some number.Fraction) None h)

fraction-sound : (b : ℕ) (t : ByteString) → NumberMoved (number_move number.Fraction b) t → FractionTail are_digits (b ∷ t)
fraction-sound b t h = ⊎_elim
    (λ k. let p = k.1 in record { digits = b ∷ p.digits; exponent = p.exponent; are = and_true _ _ k.0 p.are; is_exponent_part = p.is_exponent_part; joined = ap (λ r. b ∷ r) p.joined })
    (λ k. ⊎_elim
    (λ l. record { digits = []; exponent = b ∷ t; are = refl; is_exponent_part = mark-sound b t l.0 l.1; joined = refl })
    (λ l. absurd l.1)
    (chosen (λ z. NumberMoved z t) (is_mark b) (Some number.Mark) None k.1))
    (chosen (λ z. NumberMoved z t) (is_digit b) (Some number.Fraction) (cond (is_mark b) (Some number.Mark) None) h)

exponent-digit-sound : (b : ℕ) (t : ByteString) → NumberMoved (cond (is_digit b) (Some number.Exponent) None) t → is_digit b && are_digits t ≡ true
exponent-digit-sound b t h = ⊎_elim
    (λ k. and_true _ _ k.0 k.1)
    (λ k. absurd k.1)
    (chosen (λ z. NumberMoved z t) (is_digit b) (Some number.Exponent) None h)

signed : (t : Bool) (x y : Bool) → (t ≡ true) × (x ≡ true) → cond t x y ≡ true
signed true x y h = h.1
signed false x y h = cc

unsigned : (t : Bool) (x y : Bool) → (t ≡ false) × (y ≡ true) → cond t x y ≡ true
unsigned true x y h = cc
unsigned false x y h = h.1

signed-sound : (b : ℕ) (t : ByteString) → NumberMoved (number_move number.Mark b) t → are_signed_digits (b ∷ t) ≡ true
signed-sound b t h = ⊎_elim
    (λ k. signed ((b == 43) || (b == 45)) (some_digits t) (is_digit b && are_digits t) k)
    (λ k. unsigned ((b == 43) || (b == 45)) (some_digits t) (is_digit b && are_digits t) (k.0, exponent-digit-sound b t k.1))
    (chosen (λ z. NumberMoved z t) ((b == 43) || (b == 45)) (Some number.Sign) (cond (is_digit b) (Some number.Exponent) None) h)

-- ---- each byte leads where it says
pub number-sound : (p : NumberPlace) (b : ℕ) (t : ByteString) → NumberMoved (number_move p b) t → NumberTail p (b ∷ t)
number-sound number.Minus b t h = minus-sound b t h
number-sound number.Zero b t h = after-whole-sound b t h
number-sound number.Whole b t h = whole-sound b t h
number-sound number.Point b t h = point-sound b t h
number-sound number.Fraction b t h = fraction-sound b t h
number-sound number.Mark b t h = signed-sound b t h
number-sound number.Sign b t h = exponent-digit-sound b t h
number-sound number.Exponent b t h = exponent-digit-sound b t h

-- where a number may end nothing has to come
pub number-ends : (p : NumberPlace) → may_end p ≡ true → NumberTail p []
number-ends number.Minus h = cc
number-ends number.Zero h = record { fraction = []; exponent = []; is_fraction_part = refl; is_exponent_part = refl; joined = refl }
number-ends number.Whole h = record { digits = []; fraction = []; exponent = []; are = refl; is_fraction_part = refl; is_exponent_part = refl; joined = refl }
number-ends number.Point h = cc
number-ends number.Fraction h = record { digits = []; exponent = []; are = refl; is_exponent_part = refl; joined = refl }
number-ends number.Mark h = cc
number-ends number.Sign h = cc
number-ends number.Exponent h = refl

-- ---- where numbers begin
pub begins-minus : (b : ℕ) (t : ByteString) → (b == 45) ≡ true → WholeTail is_whole_part t → NumberParts (b ∷ t)
begins-minus b t h p = record { minus = b ∷ []; whole = p.digits; fraction = p.fraction; exponent = p.exponent; is_minus_part = and_true _ _ h refl; is_whole = p.are; is_fraction_part = p.is_fraction_part; is_exponent_part = p.is_exponent_part; joined = ap (λ r. b ∷ r) p.joined }

pub begins-zero : (b : ℕ) (t : ByteString) → (b == 48) ≡ true → PartsTail t → NumberParts (b ∷ t)
begins-zero b t h p = record { minus = []; whole = b ∷ []; fraction = p.fraction; exponent = p.exponent; is_minus_part = refl; is_whole = whole-of-zero b h; is_fraction_part = p.is_fraction_part; is_exponent_part = p.is_exponent_part; joined = ap (λ r. b ∷ r) p.joined }

pub begins-digit : (b : ℕ) (t : ByteString) → (b == 48) ≡ false → is_digit b ≡ true → WholeTail are_digits t → NumberParts (b ∷ t)
begins-digit b t z h p = record { minus = []; whole = b ∷ p.digits; fraction = p.fraction; exponent = p.exponent; is_minus_part = refl; is_whole = whole-of-digits b p.digits z h p.are; is_fraction_part = p.is_fraction_part; is_exponent_part = p.is_exponent_part; joined = ap (λ r. b ∷ r) p.joined }
