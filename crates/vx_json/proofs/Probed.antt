-- A judge that keeps no values stands where the reader stands.
use Rattle.std.proofs.Common.{◌≡◌, ℕ, zero, suc, ◌+◌, ◌*◌, ◌/◌, ◌%◌, ◌^◌, ◌<◌, ◌≤◌, Bool, true, false, cond, ◌&&◌, ◌==◌, nat_le, nat_lt, Option, Some, None, is_some, List, [], ◌∷◌, ◌++◌, length, refl, sym, ◌∙◌, ap, subst, arith, codes}
use Rattle.std.proofs.lemmas.Bool.Decides.{nat_tests}
use Rattle.std.specs.Str.Lossy.{utf8_lossy}
use Rattle.std.specs.Str.Parse.{signed_digits_value}
use Rattle.vx_value.specs.Texts.{ByteString, is_empty}
use Rattle.vx_value.specs.Datum.{Datum, Null, Truth, Whole, Spelled, Words, Items, Fields, NamedDatum, data_of, named_of}
use Rattle.vx_value.specs.Events.{with_field}
use Rattle.vx_json.specs.Numbers.{is_digit}
use Rattle.vx_json.specs.Grammar.{is_blank}
use Rattle.vx_json.specs.Faults.{Inside, inside_after, count_after}
use Rattle.vx_json.specs.Objects.{stays_shallow, object_fields, object_of}
use Rattle.vx_json.specs.Machine as machine
use Rattle.vx_json.specs.Machine.{TextMove, Goes, Ends, Wrong, text_move, number_move, may_end, is_whole_text, number_datum, Frame, InItems, InFields, Mode, State, state, step, begin_move, end_move, after_move, name_move, words_move, digits_move, word_move, finish, carry, outcome, height}
use Rattle.vx_json.specs.ProbeModes.{ProbeMode, Before, FirstItem, FirstName, NextName, InName, Colon, Behind, InWord, InNumber, InText, Place, stands, opened, open_probe_mode, begin_probe_mode, end_probe_mode, after_probe_mode, name_probe_mode, words_probe_mode, digits_probe_mode, word_probe_mode, probe_mode_step, onward, led, probe_mode_ends, ends_object}
use Rattle.vx_json.specs.Probing.{probe_mode_view, place_view, HasProbed}
use Rattle.vx_json.specs.declared.probe_mode.ProbeMode as probe_mode
use Rattle.vx_json.specs.declared.probe.Probe.{Probe}
use Rattle.vx_json.specs.declared.text_place.TextPlace.TheVariants as text
use Rattle.vx_json.specs.declared.number_place.NumberPlace.{NumberPlace}
use Rattle.vx_json.specs.declared.number_place.NumberPlace.TheVariants as number
use Rattle.vx_json.proofs.Choices.{le_of}
use Rattle.vx_json.proofs.Reaching.{IsLive}
use Rattle.vx_json.proofs.Levels.{StepFacts, step-facts, inside_of}

-- ---- what a judge keeps of a place
abbrev is_fields : Datum → Bool
is_fields (Fields ns) = true
is_fields d = false

abbrev bare : Mode → ProbeMode
bare machine.AtValue = Before
bare machine.AtFirstItem = FirstItem
bare machine.AtFirstName = FirstName
bare (machine.AtName fs) = NextName
bare (machine.InName fs p w) = InName p
bare (machine.AtColon fs name) = Colon
bare (machine.AtEnd d) = Behind (is_fields d)
bare (machine.InWord rest d) = InWord rest (is_fields d)
bare (machine.InNumber p w) = InNumber p
bare (machine.InText p w) = InText p

abbrev kinds : List Frame → ℕ
kinds [] = 1
kinds (InItems ds ∷ st) = opened false (kinds st)
kinds (InFields fs name ∷ st) = opened true (kinds st)

-- what is open, with the bracket or brace behind which no value was read
abbrev levels_of : Mode → List Frame → ℕ
levels_of machine.AtFirstItem st = opened false (kinds st)
levels_of machine.AtFirstName st = opened true (kinds st)
levels_of (machine.AtName fs) st = opened true (kinds st)
levels_of (machine.InName fs p w) st = opened true (kinds st)
levels_of (machine.AtColon fs name) st = opened true (kinds st)
levels_of m st = kinds st

abbrev shown : Mode → List Frame → Option Place
shown m st = stands (bare m) (levels_of m st)

-- what it keeps of where a byte leads, which is nothing above 32 levels
abbrev kept : Option State → Option Place
kept None = None
kept (Some s) = cond (nat_le (height s.mode s.stack) 32) (shown s.mode s.stack) None

record Agrees (p : Option Place) (o : Option State) : Type 0 where
  pub same : p ≡ kept o

-- ---- numbers of levels
abbrev power : ℕ → ℕ
power zero = 1
power (suc k) = power k * 2

power-positive : (k : ℕ) → 1 ≤ power k
power-positive zero = omega arith
power-positive (suc k) = let h = power-positive k in omega arith

few : (st : List Frame) (k : ℕ) → length st ≤ k → kinds st < power k * 2
few [] k l = let h = power-positive k in omega arith
few (f ∷ st) zero l = absurd (omega arith)
few (InItems ds ∷ st) (suc k) l = let h = few st k (omega arith) in omega arith
few (InFields fs name ∷ st) (suc k) l = let h = few st k (omega arith) in omega arith

many : (st : List Frame) (k : ℕ) → k ≤ length st → power k ≤ kinds st
many [] zero l = omega arith
many [] (suc k) l = absurd (omega arith)
many (InItems ds ∷ st) zero l = let h = many st 0 (omega arith) in omega arith
many (InFields fs name ∷ st) zero l = let h = many st 0 (omega arith) in omega arith
many (InItems ds ∷ st) (suc k) l = let h = many st k (omega arith) in omega arith
many (InFields fs name ∷ st) (suc k) l = let h = many st k (omega arith) in omega arith

limit_at : (l n : ℕ) → (l ≤ 31 → n < 2 ^ 32) → (32 ≤ l → 2 ^ 32 ≤ n) → nat_lt n (2 ^ 32) ≡ nat_le (l + 1) 32
limit_at l n f g = grind (arith, nat_tests)

limit : (st : List Frame) → nat_lt (kinds st) (2 ^ 32) ≡ nat_le (length st + 1) 32
limit st = limit_at (length st) (kinds st) (λ h. few st 31 h) (λ h. many st 32 h)

le_true : (n : ℕ) → n ≤ 32 → nat_le n 32 ≡ true
le_true n h = grind (arith, nat_tests)

half_even : (n : ℕ) → n * 2 / 2 ≡ n
half_even n = omega arith

half_odd : (n : ℕ) → (n * 2 + 1) / 2 ≡ n
half_odd n = omega arith

even_one : (n : ℕ) → (n * 2 == 1) ≡ false
even_one n = grind (arith, nat_tests)

even_rest : (n : ℕ) → (n * 2 % 2 == 1) ≡ false
even_rest n = grind (arith, nat_tests)

odd_one : (n : ℕ) → 1 ≤ n → (n * 2 + 1 == 1) ≡ false
odd_one n h = grind (arith, nat_tests)

odd_rest : (n : ℕ) → ((n * 2 + 1) % 2 == 1) ≡ true
odd_rest n = grind (arith, nat_tests)

-- ---- places
stay : (m : Mode) (st : List Frame) → height m st ≤ 32 → Agrees (shown m st) (state m st)
stay m st h = record { same = sym (ap (λ t. cond t (shown m st) None) (le_true (height m st) h)) }

wrong : Agrees None None
wrong = record { same = refl }

pick : {p q : Option Place} {o r : Option State} (t : Bool) → Agrees p o → Agrees q r → Agrees (cond t p q) (cond t o r)
pick true e f = e
pick false e f = f

opens-array : (st : List Frame) → Agrees (open_probe_mode FirstItem false (kinds st)) (state machine.AtFirstItem st)
opens-array st = record { same = ap (λ t. cond t (shown machine.AtFirstItem st) None) (limit st) }

opens-object : (st : List Frame) → Agrees (open_probe_mode FirstName true (kinds st)) (state machine.AtFirstName st)
opens-object st = record { same = ap (λ t. cond t (shown machine.AtFirstName st) None) (limit st) }

begin-agrees : (st : List Frame) (b : ℕ) → length st ≤ 32 → Agrees (begin_probe_mode (kinds st) b) (begin_move st b)
begin-agrees st b h =
    pick (b == 34) (stay (machine.InText text.Plain []) st h)
    (pick (b == 45) (stay (machine.InNumber number.Minus (b ∷ [])) st h)
    (pick (b == 48) (stay (machine.InNumber number.Zero (b ∷ [])) st h)
    (pick (is_digit b) (stay (machine.InNumber number.Whole (b ∷ [])) st h)
    (pick (b == 91) (opens-array st)
    (pick (b == 123) (opens-object st)
    (pick (b == 110) (stay (machine.InWord (codes "ull") Null) st h)
    (pick (b == 116) (stay (machine.InWord (codes "rue") (Truth true)) st h)
    (pick (b == 102) (stay (machine.InWord (codes "alse") (Truth false)) st h) wrong))))))))

-- ---- behind values
at-item : (n b : ℕ) → end_probe_mode (n * 2) b ≡ cond (b == 44) (stands Before (n * 2)) (cond (b == 93) (stands (Behind false) n) None)
at-item n b = rw (even_one n, even_rest n, half_even n) refl

at-field : (n b : ℕ) → 1 ≤ n → end_probe_mode (n * 2 + 1) b ≡ cond (b == 44) (stands NextName (n * 2 + 1)) (cond (b == 125) (stands (Behind true) n) None)
at-field n b h = rw (odd_one n h, odd_rest n, half_odd n) refl

end-agrees : (d : Datum) (st : List Frame) (b : ℕ) → length st ≤ 32 → Agrees (end_probe_mode (kinds st) b) (end_move d st b)
end-agrees d [] b h = wrong
end-agrees d (InItems ds ∷ st) b h =
    let moves : Agrees (cond (b == 44) (stands Before (kinds st * 2)) (cond (b == 93) (stands (Behind false) (kinds st)) None)) (end_move d (InItems ds ∷ st) b) =
    pick (b == 44) (stay machine.AtValue (InItems (ds ++ d ∷ []) ∷ st) h) (pick (b == 93) (stay (machine.AtEnd (Items (data_of (ds ++ d ∷ [])))) st (omega arith)) wrong) in
    record { same = at-item (kinds st) b ∙ moves.same }
end-agrees d (InFields fs name ∷ st) b h =
    let moves : Agrees (cond (b == 44) (stands NextName (kinds st * 2 + 1)) (cond (b == 125) (stands (Behind true) (kinds st)) None)) (end_move d (InFields fs name ∷ st) b) =
    pick (b == 44) (stay (machine.AtName (with_field fs name d)) st (omega arith)) (pick (b == 125) (stay (machine.AtEnd (Fields (named_of (with_field fs name d)))) st (omega arith)) wrong) in
    record { same = at-field (kinds st) b (many st 0 (omega arith)) ∙ moves.same }

after-agrees : (d : Datum) (st : List Frame) (b : ℕ) → length st ≤ 32 → Agrees (after_probe_mode (is_fields d) (kinds st) b) (after_move d st b)
after-agrees d st b h = pick (is_blank b) (stay (machine.AtEnd d) st h) (end-agrees d st b h)

number-fields : (w : ByteString) → is_fields (number_datum w) ≡ false
unfolding number_datum
number-fields w = either (is_whole_text w) (Whole (signed_digits_value 10 w)) (Spelled w) refl refl
  where
    either : (t : Bool) (x y : Datum) → is_fields x ≡ false → is_fields y ≡ false → is_fields (cond t x y) ≡ false
    either true x y e f = e
    either false x y e f = f

-- ---- inside values
name-agrees : (m : TextMove) (fs : List NamedDatum) (w : ByteString) (st : List Frame) → length st + 1 ≤ 32 → Agrees (name_probe_mode m (opened true (kinds st))) (name_move m fs w st)
name-agrees (Goes q more) fs w st h = stay (machine.InName fs q (w ++ more)) st h
name-agrees Ends fs w st h = stay (machine.AtColon fs (utf8_lossy w)) st h
name-agrees Wrong fs w st h = wrong

words-agrees : (m : TextMove) (w : ByteString) (st : List Frame) → length st ≤ 32 → Agrees (words_probe_mode m (kinds st)) (words_move m w st)
words-agrees (Goes q more) w st h = stay (machine.InText q (w ++ more)) st h
words-agrees Ends w st h = stay (machine.AtEnd (Words (utf8_lossy w))) st h
words-agrees Wrong w st h = wrong

digits-agrees : (o : Option NumberPlace) (p : NumberPlace) (w : ByteString) (st : List Frame) (b : ℕ) → length st ≤ 32 → Agrees (digits_probe_mode o p (kinds st) b) (digits_move o p w st b)
digits-agrees (Some q) p w st b h = stay (machine.InNumber q (w ++ b ∷ [])) st h
digits-agrees None p w st b h =
    let after : Agrees (after_probe_mode (is_fields (number_datum (utf8_lossy w))) (kinds st) b) (after_move (number_datum (utf8_lossy w)) st b) = after-agrees (number_datum (utf8_lossy w)) st b h in
    pick (may_end p) (subst (λ (t : Bool). Agrees (after_probe_mode t (kinds st) b) (after_move (number_datum (utf8_lossy w)) st b)) (number-fields (utf8_lossy w)) after) wrong

word-agrees : (rest : ByteString) (d : Datum) (st : List Frame) (b : ℕ) → length st ≤ 32 → Agrees (word_probe_mode rest (is_fields d) (kinds st) b) (word_move rest d st b)
word-agrees [] d st b h = wrong
word-agrees (a ∷ rest) d st b h = pick (a == b) (pick (is_empty rest) (stay (machine.AtEnd d) st h) (stay (machine.InWord rest d) st h)) wrong

-- ---- each byte
first-item-agrees : (st : List Frame) (b : ℕ) → length st + 1 ≤ 32 → Agrees (probe_mode_step FirstItem (kinds st * 2) b) (step machine.AtFirstItem st b)
first-item-agrees st b h =
    pick (is_blank b) (stay machine.AtFirstItem st h)
    (pick (b == 93) (subst (λ (n : ℕ). Agrees (stands (Behind false) n) (state (machine.AtEnd (Items (data_of []))) st)) (sym (half_even (kinds st))) (stay (machine.AtEnd (Items (data_of []))) st (omega arith)))
    (begin-agrees (InItems [] ∷ st) b (omega arith)))

first-name-agrees : (st : List Frame) (b : ℕ) → length st + 1 ≤ 32 → Agrees (probe_mode_step FirstName (kinds st * 2 + 1) b) (step machine.AtFirstName st b)
first-name-agrees st b h =
    pick (is_blank b) (stay machine.AtFirstName st h)
    (pick (b == 125) (subst (λ (n : ℕ). Agrees (stands (Behind true) n) (state (machine.AtEnd (Fields (named_of []))) st)) (sym (half_odd (kinds st))) (stay (machine.AtEnd (Fields (named_of []))) st (omega arith)))
    (pick (b == 34) (stay (machine.InName [] text.Plain []) st h) wrong))

step-agrees : (m : Mode) (st : List Frame) (b : ℕ) → height m st ≤ 32 → Agrees (probe_mode_step (bare m) (levels_of m st) b) (step m st b)
step-agrees machine.AtValue st b h = pick (is_blank b) (stay machine.AtValue st h) (begin-agrees st b h)
step-agrees machine.AtFirstItem st b h = first-item-agrees st b h
step-agrees machine.AtFirstName st b h = first-name-agrees st b h
step-agrees (machine.AtName fs) st b h = pick (is_blank b) (stay (machine.AtName fs) st h) (pick (b == 34) (stay (machine.InName fs text.Plain []) st h) wrong)
step-agrees (machine.InName fs p w) st b h = name-agrees (text_move p b) fs w st h
step-agrees (machine.AtColon fs name) st b h = pick (is_blank b) (stay (machine.AtColon fs name) st h) (pick (b == 58) (stay machine.AtValue (InFields fs name ∷ st) (omega arith)) wrong)
step-agrees (machine.AtEnd d) st b h = after-agrees d st b h
step-agrees (machine.InWord rest d) st b h = word-agrees rest d st b h
step-agrees (machine.InNumber p w) st b h = digits-agrees (number_move p b) p w st b h
step-agrees (machine.InText p w) st b h = words-agrees (text_move p b) w st h

-- ---- where the bytes end
kind-inside : (f : Frame) (st : List Frame) → (kinds (f ∷ st) == 1) ≡ false
kind-inside (InItems ds) st = even_one (kinds st)
kind-inside (InFields fs name) st = odd_one (kinds st) (many st 0 (omega arith))

ends-inside : (o : Bool) (f : Frame) (st : List Frame) → false ≡ probe_mode_ends (Behind o) (kinds (f ∷ st))
ends-inside true f st = sym (kind-inside f st)
ends-inside false f st = refl

ends-value : (d : Datum) → is_some (object_fields (Some d)) ≡ probe_mode_ends (Behind (is_fields d)) 1
ends-value Null = refl
ends-value (Truth b) = refl
ends-value (Whole z) = refl
ends-value (Spelled w) = refl
ends-value (Words w) = refl
ends-value (Items ds) = refl
ends-value (Fields ns) = refl

ends-number : (t : Bool) (w : ByteString) → is_some (object_fields (cond t (Some (number_datum w)) None)) ≡ false
ends-number false w = refl
ends-number true w = ends-value (number_datum w) ∙ ap (λ o. probe_mode_ends (Behind o) 1) (number-fields w)

finish-agrees : (m : Mode) (st : List Frame) → is_some (object_fields (finish m st)) ≡ probe_mode_ends (bare m) (levels_of m st)
finish-agrees (machine.AtEnd d) [] = ends-value d
finish-agrees (machine.AtEnd d) (f ∷ st) = ends-inside (is_fields d) f st
finish-agrees (machine.InNumber p w) [] = ends-number (may_end p) (utf8_lossy w)
finish-agrees (machine.InNumber p w) (f ∷ st) = refl
finish-agrees m st = refl

-- ---- all bytes
led-none : (w : ByteString) → led None w ≡ None
led-none [] = refl
led-none (b ∷ w) = led-none w

led-more : (w : ByteString) (b : ℕ) (o : Option Place) → led o (w ++ b ∷ []) ≡ onward (led o w) b
led-more [] b o = refl
led-more (a ∷ w) b o = led-more w b (onward o a)

shallow-high : (w : ByteString) (inside : Inside) (n : ℕ) → nat_le n 32 ≡ false → stays_shallow inside n w ≡ false
shallow-high [] inside n h = h
shallow-high (b ∷ w) inside n h = ap (λ t. t && stays_shallow (inside_after inside b) (count_after inside n b) w) h

-- whether bytes are an object from a place on
abbrev found : Inside → ℕ → ByteString → Option Datum → Bool
found inside n w o = is_some (cond (stays_shallow inside n w) (object_fields o) None)

found-none : (t : Bool) → is_some (cond t (object_fields None) None) ≡ false
found-none true = refl
found-none false = refl

judged : (w : ByteString) (m : Mode) (st : List Frame) → IsLive m → height m st ≤ 32 → found (inside_of m) (height m st) w (outcome m st w) ≡ ends_object (led (shown m st) w)
judged [] m st l h = ap (λ t. is_some (cond t (object_fields (finish m st)) None)) (le_true (height m st) h) ∙ finish-agrees m st
judged (b ∷ w) m st l h =
    onward_from (step m st b) (step-facts m st b l) (λ n su live low. judged w n su live low)
    ∙ ap (λ o. ends_object (led o w)) (sym (step-agrees m st b h).same)
  where
    leads_low : (s : State) (t : Bool) → t ≡ nat_le (height s.mode s.stack) 32 → ((n : Mode) (su : List Frame) → IsLive n → height n su ≤ 32 → found (inside_of n) (height n su) w (outcome n su w) ≡ ends_object (led (shown n su) w)) → StepFacts (inside_of m) (height m st) b (Some s) → found (inside_after (inside_of m) b) (count_after (inside_of m) (height m st) b) w (outcome s.mode s.stack w) ≡ ends_object (led (cond t (shown s.mode s.stack) None) w)
    leads_low s true e ih f =
        let there : found (inside_of s.mode) (height s.mode s.stack) w (outcome s.mode s.stack w) ≡ found (inside_after (inside_of m) b) (count_after (inside_of m) (height m st) b) w (outcome s.mode s.stack w) = λ k. found (f.1 k) (f.2 k) w (outcome s.mode s.stack w) in
        sym there ∙ ih s.mode s.stack f.0 (le_of (height s.mode s.stack) 32 (sym e))
    leads_low s false e ih f =
        let high : stays_shallow (inside_after (inside_of m) b) (count_after (inside_of m) (height m st) b) w ≡ false = shallow-high w (inside_after (inside_of m) b) (count_after (inside_of m) (height m st) b) (ap (λ n. nat_le n 32) (sym f.2) ∙ sym e) in
        ap (λ t. is_some (cond t (object_fields (outcome s.mode s.stack w)) None)) high ∙ sym (ap ends_object (led-none w))

    onward_from : (o : Option State) → StepFacts (inside_of m) (height m st) b o → ((n : Mode) (su : List Frame) → IsLive n → height n su ≤ 32 → found (inside_of n) (height n su) w (outcome n su w) ≡ ends_object (led (shown n su) w)) → found (inside_of m) (height m st) (b ∷ w) (carry o (λ n su. outcome n su w)) ≡ ends_object (led (kept o) w)
    onward_from None f ih = found-none (stays_shallow (inside_of m) (height m st) (b ∷ w)) ∙ sym (ap ends_object (led-none w))
    onward_from (Some s) f ih =
        ap (λ t. is_some (cond (t && stays_shallow (inside_after (inside_of m) b) (count_after (inside_of m) (height m st) b) w) (object_fields (outcome s.mode s.stack w)) None)) (le_true (height m st) h)
        ∙ leads_low s (nat_le (height s.mode s.stack) 32) refl ih f

-- ---- what a judge tells
probe-observed : (bytes : ByteString) (p : Probe) → HasProbed bytes p → ends_object (place_view p.probe_mode p.nesting.kinds) ≡ is_some (object_of bytes)
unfolding HasProbed object_of
probe-observed bytes p h = ap ends_object h ∙ sym (judged bytes machine.AtValue [] tt (omega arith))

pub observed-by : (bytes : ByteString) (p : Probe) (s : probe_mode.ProbeMode) → p.probe_mode ≡ Some s → HasProbed bytes p → probe_mode_ends (probe_mode_view s) p.nesting.kinds ≡ is_some (object_of bytes)
observed-by bytes p s e h = ap (λ o. ends_object (place_view o p.nesting.kinds)) (sym e) ∙ probe-observed bytes p h

pub observed-none : (bytes : ByteString) (p : Probe) → p.probe_mode ≡ None → HasProbed bytes p → false ≡ is_some (object_of bytes)
observed-none bytes p e h = ap (λ o. ends_object (place_view o p.nesting.kinds)) (sym e) ∙ probe-observed bytes p h

-- ---- one byte more
pub takes : (bytes : ByteString) (b : ℕ) (p q : Probe) (s : probe_mode.ProbeMode) → p.probe_mode ≡ Some s → place_view q.probe_mode q.nesting.kinds ≡ probe_mode_step (probe_mode_view s) p.nesting.kinds b → HasProbed bytes p → HasProbed (bytes ++ b ∷ []) q
unfolding HasProbed
takes bytes b p q s e f h =
    f ∙ ap (λ o. onward (place_view o p.nesting.kinds) b) (sym e) ∙ ap (λ o. onward o b) h ∙ sym (led-more bytes b (stands Before 1))

pub takes-none : (bytes : ByteString) (b : ℕ) (p : Probe) → p.probe_mode ≡ None → HasProbed bytes p → HasProbed (bytes ++ b ∷ []) p
unfolding HasProbed
takes-none bytes b p e h =
    ap (λ o. place_view o p.nesting.kinds) e ∙ ap (λ o. onward (place_view o p.nesting.kinds) b) (sym e) ∙ ap (λ o. onward o b) h ∙ sym (led-more bytes b (stands Before 1))
