-- Where bytes lead that may open and close levels.
use Rattle.std.proofs.Common.{◌≡◌, ℕ, zero, suc, ◌+◌, ◌-◌, ◌<◌, ◌≤◌, true, cond, Option, Some, None, List, [], ◌∷◌, ◌++◌, length, take, drop, get_or, take-add, refl, sym, ◌∙◌, ap, subst, arith}
use Rattle.std.proofs.lemmas.List.{take_more, take_all, take_more_set, length-set}
use Rattle.std.proofs.Math.ListN.{set}
use Rattle.std.proofs.Math.Seq.{drop-cons}
use Rattle.std.specs.Str.Lossy.{utf8_lossy}
use Rattle.vx_value.specs.Texts.{ByteString}
use Rattle.vx_value.specs.Datum.{Datum, NamedDatum}
use Rattle.vx_value.specs.Events.{with_field}
use Rattle.vx_value.specs.Values.{datum_of}
use Rattle.vx_value.specs.declared.value.Value.{Value}
use Rattle.vx_json.specs.Machine.{Frame, InItems, InFields, Mode, AtValue, AtFirstName, AtName, AtColon, AtEnd, InWord, InNumber, number_move, may_end, number_datum, digits_move, after_move, step, state, height}
use Rattle.vx_json.specs.ModeViews.{frame_view, stack_view}
use Rattle.vx_json.specs.Runs.{LeadsLevel}
use Rattle.vx_json.specs.Walks.{LeadsLow, LeadsOn, held_view, EndsInnermost, IsNamed, IsNumber, closed_datum, end_byte}
use Rattle.vx_json.specs.WordViews.{word_rest, word_datum}
use Rattle.vx_json.specs.declared.frame.Frame as code
use Rattle.vx_json.specs.declared.number_place.NumberPlace.{NumberPlace}
use Rattle.vx_json.specs.declared.word_place.WordPlace.{WordPlace}
use Rattle.vx_json.proofs.Readings.{HasRead, read-more}
use Rattle.vx_json.proofs.Runs.{next-quoted, first-quoted, word-ends}
use Rattle.vx_json.proofs.Stacks.{stack_view-push}

-- ---- parts
pub low-append : (a b : ByteString) (m k n : Mode) (st sv su : List Frame) → LeadsLow m st a k sv → LeadsLow k sv b n su → LeadsLow m st (a ++ b) n su
low-append [] b m k n st sv su h l = subst (λ x. LeadsLow x st b n su) (sym h.0) (subst (λ x. LeadsLow k x b n su) (sym h.1) l)
low-append (x ∷ a) b m k n st sv su h l = (h.0, h.1, h.2, h.3, low-append a b h.0 k n h.1 sv su h.4 l)

-- where as many levels stay open, few do
pub level-low : (w : ByteString) (m n : Mode) (st : List Frame) → height m st ≤ 32 → LeadsLevel m st w n → LeadsLow m st w n st
level-low [] m n st l h = (h, refl)
level-low (b ∷ w) m n st l h =
    let low : height h.0 st ≤ 32 = omega (arith, h.2) in (h.0, st, h.1, low, level-low w h.0 n st low h.3)

-- few are open at the end
pub low-height : (w : ByteString) (m n : Mode) (st su : List Frame) → height m st ≤ 32 → LeadsLow m st w n su → height n su ≤ 32
low-height [] m n st su l h = subst (λ x. height x su ≤ 32) h.0 (subst (λ x. height m x ≤ 32) h.1 l)
low-height (b ∷ w) m n st su l h = low-height w h.0 n h.1 su h.3 h.4

-- so many bytes, and so many more
pub low-more : (i n : ℕ) (bytes : ByteString) (m k q : Mode) (st sv su : List Frame) → LeadsLow m st (take i bytes) k sv → LeadsLow k sv (take n (drop i bytes)) q su → LeadsLow m st (take (i + n) bytes) q su
low-more i n bytes m k q st sv su h l = subst (λ w. LeadsLow m st w q su) (sym (take-add i n bytes)) (low-append (take i bytes) (take n (drop i bytes)) m k q st sv su h l)

-- where a value is held, or none
pub on-more : (i n : ℕ) (bytes rest : ByteString) (m : Mode) (held next : Option Value) (st sv su : List Frame) → rest ≡ drop i bytes → LeadsOn m st (take i bytes) held sv → LeadsOn (held_view held) sv (take n rest) next su → LeadsOn m st (take (i + n) bytes) next su
on-more i n bytes rest m held next st sv su r h l low =
    let a : LeadsLow m st (take i bytes) (held_view held) sv = h low in
    let there : height (held_view held) sv ≤ 32 = low-height (take i bytes) m (held_view held) st sv low a in
    low-more i n bytes m (held_view held) (held_view next) st sv su a (subst (λ w. LeadsLow (held_view held) sv (take n w) (held_view next) su) r (l there))

-- and so many more that open and close nothing
pub level-more : (i n : ℕ) (bytes rest : ByteString) (m k p q : Mode) (st su : List Frame) → rest ≡ drop i bytes → height m st ≤ 32 → LeadsLow m st (take i bytes) k su → p ≡ k → ((sv : List Frame) → LeadsLevel p sv (take n rest) q) → LeadsLow m st (take (i + n) bytes) q su
level-more i n bytes rest m k p q st su r low a e l =
    let there : height k su ≤ 32 = low-height (take i bytes) m k st su low a in
    let led : LeadsLevel k su (take n (drop i bytes)) q = subst (λ x. LeadsLevel x su (take n (drop i bytes)) q) e (subst (λ w. LeadsLevel p su (take n w) q) r (l su)) in
    low-more i n bytes m k q st su su a (level-low (take n (drop i bytes)) k q su there led)

-- ---- what a reader knows behind them
read-next : (bytes : ByteString) (i : ℕ) (m k : Mode) (st su : List Frame) → i < length bytes → HasRead bytes i m st → step m st (get_or bytes i 0) ≡ state k su → height k su ≤ 32 → HasRead bytes (i + 1) k su
read-next bytes i m k st su l h s low = read-more bytes i (get_or bytes i 0) m k st su l refl h (sym s) low

pub read-low : (n : ℕ) (bytes : ByteString) (i : ℕ) (m k : Mode) (st su : List Frame) → i + n ≤ length bytes → HasRead bytes i m st → LeadsLow m st (take n (drop i bytes)) k su → HasRead bytes (i + n) k su
read-low zero bytes i m k st su l h e = subst (λ j. HasRead bytes j k su) (omega arith) (subst (λ x. HasRead bytes i x su) e.0 (subst (λ x. HasRead bytes i m x) e.1 h))
read-low (suc n) bytes i m k st su l h e =
    let within : i < length bytes = omega arith in
    let next_place : suc i ≡ i + 1 = omega arith in
    let front : take (suc n) (drop i bytes) ≡ get_or bytes i 0 ∷ take n (drop (i + 1) bytes) = ap (take (suc n)) (drop-cons bytes i 0 within) ∙ ap (λ j. get_or bytes i 0 ∷ take n (drop j bytes)) next_place in
    let f : LeadsLow m st (get_or bytes i 0 ∷ take n (drop (i + 1) bytes)) k su = subst (λ x. LeadsLow m st x k su) front e in
    let next : HasRead bytes (i + 1) f.0 f.1 = read-next bytes i m f.0 st f.1 within h f.2 f.3 in
    subst (λ j. HasRead bytes j k su) (omega arith) (read-low n bytes (i + 1) f.0 k f.1 su (omega arith) next f.4)

-- ---- the first byte, and those behind it
pub front : (bytes : ByteString) (n b : ℕ) → 0 < length bytes → get_or bytes 0 0 ≡ b → take (n + 1) bytes ≡ b ∷ take n (drop 1 bytes)
front [] n b l e = absurd (omega arith)
front (x ∷ bytes) n b l e =
    let one : n + 1 ≡ suc n = omega arith in
    ap (λ k. take k (x ∷ bytes)) one ∙ ap (λ y. y ∷ take n bytes) e

-- ---- words
pub word-led : (bytes : ByteString) (n : ℕ) (w : WordPlace) (d : Datum) (st : List Frame) → 0 < length bytes →
    step AtValue st (get_or bytes 0 0) ≡ state (InWord (word_rest w) (word_datum w)) st → take n (drop 1 bytes) ≡ word_rest w → d ≡ word_datum w → LeadsLevel AtValue st (take (n + 1) bytes) (AtEnd d)
word-led bytes n w d st l s e k =
    subst (λ x. LeadsLevel AtValue st x (AtEnd d)) (sym (front bytes n (get_or bytes 0 0) l refl))
    (InWord (word_rest w) (word_datum w), s, refl, word-ends w (take n (drop 1 bytes)) d st e k)

-- ---- a number, which ends with the byte behind it
number-then : (b : ℕ) (w rest : ByteString) (p : NumberPlace) (n : Mode) (st su : List Frame) → may_end p ≡ true → number_move p b ≡ None → LeadsLow (AtEnd (number_datum (utf8_lossy w))) st (b ∷ rest) n su → LeadsLow (InNumber p w) st (b ∷ rest) n su
number-then b w rest p n st su e s h =
    let same : step (InNumber p w) st b ≡ after_move (number_datum (utf8_lossy w)) st b =
    ap (λ o. digits_move o p w st b) s ∙ ap (λ t. cond t (after_move (number_datum (utf8_lossy w)) st b) None) e in
    (h.0, h.1, same ∙ h.2, h.3, h.4)

pub number-low : (bytes : ByteString) (n k : ℕ) (d : Datum) (m : Mode) (st su : List Frame) → n < length bytes → length st ≤ 32 → IsNumber bytes n d → LeadsLow (AtEnd d) st (take (suc k) (drop n bytes)) m su → LeadsLow AtValue st (take (n + suc k) bytes) m su
number-low bytes n k d m st su l low h e =
    let rest : take (suc k) (drop n bytes) ≡ get_or bytes n 0 ∷ take k (drop (suc n) bytes) = ap (take (suc k)) (drop-cons bytes n 0 l) in
    let end : LeadsLow (AtEnd (number_datum (utf8_lossy (take n bytes)))) st (get_or bytes n 0 ∷ take k (drop (suc n) bytes)) m su =
    subst (λ x. LeadsLow (AtEnd x) st (get_or bytes n 0 ∷ take k (drop (suc n) bytes)) m su) h.value (subst (λ w. LeadsLow (AtEnd d) st w m su) rest e) in
    let on : LeadsLow (InNumber h.place (take n bytes)) st (take (suc k) (drop n bytes)) m su =
    subst (λ w. LeadsLow (InNumber h.place (take n bytes)) st w m su) (sym rest) (number-then (get_or bytes n 0) (take n bytes) (take k (drop (suc n) bytes)) h.place m st su h.ends h.stops end) in
    low-more n (suc k) bytes AtValue (InNumber h.place (take n bytes)) m st st su (level-low (take n bytes) AtValue (InNumber h.place (take n bytes)) st low (h.leads st)) on

-- ---- names
colon-low : (fs : List NamedDatum) (name : ByteString) (st : List Frame) → length st < 32 → LeadsLow (AtColon fs name) st (58 ∷ []) AtValue (InFields fs name ∷ st)
colon-low fs name st l = (AtValue, InFields fs name ∷ st, refl, omega arith, (refl, refl))

pub named-low : (w name : ByteString) (fs : List NamedDatum) (st : List Frame) → length st < 32 → IsNamed w name → LeadsLow (AtName fs) st w AtValue (InFields fs name ∷ st)
named-low w name fs st l h =
    let low : length st + 1 ≤ 32 = omega arith in
    subst (λ x. LeadsLow (AtName fs) st x AtValue (InFields fs name ∷ st)) (sym h.bytes)
    (low-append h.text (58 ∷ []) (AtName fs) (AtColon fs name) AtValue st st (InFields fs name ∷ st) (level-low h.text (AtName fs) (AtColon fs name) st low (next-quoted fs h.text name st h.quoted)) (colon-low fs name st l))

first-low : (w name : ByteString) (st : List Frame) → length st < 32 → IsNamed w name → LeadsLow AtFirstName st w AtValue (InFields [] name ∷ st)
first-low w name st l h =
    let low : length st + 1 ≤ 32 = omega arith in
    subst (λ x. LeadsLow AtFirstName st x AtValue (InFields [] name ∷ st)) (sym h.bytes)
    (low-append h.text (58 ∷ []) AtFirstName (AtColon [] name) AtValue st st (InFields [] name ∷ st) (level-low h.text AtFirstName (AtColon [] name) st low (first-quoted h.text name st h.quoted)) (colon-low [] name st l))

-- an object that opens, and its first name
pub opened-low : (bytes : ByteString) (n : ℕ) (name : ByteString) (st : List Frame) → 0 < length bytes → get_or bytes 0 0 ≡ 123 → length st < 32 → IsNamed (take n (drop 1 bytes)) name → LeadsLow AtValue st (take (n + 1) bytes) AtValue (InFields [] name ∷ st)
opened-low bytes n name st l e low h =
    let level : length st + 1 ≤ 32 = omega arith in
    subst (λ w. LeadsLow AtValue st w AtValue (InFields [] name ∷ st)) (sym (front bytes n 123 l e))
    (AtFirstName, st, refl, level, first-low (take n (drop 1 bytes)) name st low h)

-- ---- behind a value
-- a comma of an object, and the next name
pub fields-next : (bytes : ByteString) (n : ℕ) (name next : ByteString) (fs : List NamedDatum) (d : Datum) (st : List Frame) → 0 < length bytes → get_or bytes 0 0 ≡ 44 → suc (length st) ≤ 32 → IsNamed (take n (drop 1 bytes)) next →
    LeadsLow (AtEnd d) (InFields fs name ∷ st) (take (n + 1) bytes) AtValue (InFields (with_field fs name d) next ∷ st)
fields-next bytes n name next fs d st l e low h =
    let level : length st + 1 ≤ 32 = omega arith in
    subst (λ w. LeadsLow (AtEnd d) (InFields fs name ∷ st) w AtValue (InFields (with_field fs name d) next ∷ st)) (sym (front bytes n 44 l e))
    (AtName (with_field fs name d), st, refl, level, named-low (take n (drop 1 bytes)) next (with_field fs name d) st (omega arith) h)

-- the same by what the code knows of the value and of the frame
pub name-over : (old new : Option Value) (value : Value) (f : Frame) (fs gs : List NamedDatum) (name next set_name : ByteString) (bytes : ByteString) (n : ℕ) (st : List Frame) →
    old ≡ Some value → new ≡ None → f ≡ InFields fs name → gs ≡ with_field fs name (datum_of value) → set_name ≡ next → 0 < length bytes → get_or bytes 0 0 ≡ 44 → IsNamed (take n (drop 1 bytes)) next →
    LeadsOn (held_view old) (f ∷ st) (take (n + 1) bytes) new (InFields gs set_name ∷ st)
name-over old new value f fs gs name next set_name bytes n st was gone frame put set l e h = rw (was, gone, frame, put, set) (λ low. fields-next bytes n name next fs (datum_of value) st l e low h)

-- a comma of an array
pub items-next : (bytes : ByteString) (ds es : List Datum) (d : Datum) (st : List Frame) → 0 < length bytes → get_or bytes 0 0 ≡ 44 → es ≡ ds ++ d ∷ [] → suc (length st) ≤ 32 → LeadsLow (AtEnd d) (InItems ds ∷ st) (take 1 bytes) AtValue (InItems es ∷ st)
items-next bytes ds es d st l e more low =
    subst (λ w. LeadsLow (AtEnd d) (InItems ds ∷ st) w AtValue (InItems es ∷ st)) (sym (front bytes 0 44 l e))
    (AtValue, InItems (ds ++ d ∷ []) ∷ st, refl, low, (refl, ap (λ x. InItems x ∷ st) (sym more)))

-- the end of either
pub end-low : (f : Frame) (d v : Datum) (b : ℕ) (st : List Frame) → suc (length st) ≤ 32 → b ≡ end_byte f → v ≡ closed_datum f d → LeadsLow (AtEnd d) (f ∷ st) (b ∷ []) (AtEnd v) st
end-low (InItems ds) d v b st l e k = rw (e, k) (AtEnd (closed_datum (InItems ds) d), st, refl, omega arith, (refl, refl))
end-low (InFields fs name) d v b st l e k = rw (e, k) (AtEnd (closed_datum (InFields fs name) d), st, refl, omega arith, (refl, refl))

-- the end of the innermost of what is open
pub end-over : (st su : List Frame) (f : Frame) (d v : Datum) → st ≡ f ∷ su → v ≡ closed_datum f d → (b : ℕ) → EndsInnermost st b → length st ≤ 32 → LeadsLow (AtEnd d) st (b ∷ []) (AtEnd v) su
end-over st su f d v e k b =
    subst (λ s. EndsInnermost s b → length s ≤ 32 → LeadsLow (AtEnd d) s (b ∷ []) (AtEnd v) su) (sym e) (λ h l. end-low f d v b su l h k)

-- what goes on in the innermost of what is open
pub next-over : (st su below : List Frame) (f g : Frame) (m : Mode) (w : ByteString) (held : Option Value) → st ≡ f ∷ below → su ≡ g ∷ below → ((sv : List Frame) → LeadsOn m (f ∷ sv) w held (g ∷ sv)) → LeadsOn m st w held su
next-over st su below f g m w held e k h = subst (λ s. LeadsOn m s w held su) (sym e) (subst (λ s. LeadsOn m (f ∷ below) w held s) (sym k) (h below))

-- ---- the innermost of what is open
pub last-frame : (xs : List code.Frame) (f : code.Frame) → 0 < length xs → f ≡ get_or xs (length xs - 1) f → stack_view xs ≡ frame_view f ∷ stack_view (take (length xs - 1) xs)
last-frame xs f l e =
    let i = length xs - 1 in
    let within : i < length xs = omega arith in
    let all : xs ≡ take i xs ++ f ∷ [] = sym (take_all (i + 1) xs (omega arith)) ∙ take_more xs i f within ∙ ap (λ x. take i xs ++ x ∷ []) (sym e) in
    ap stack_view all ∙ stack_view-push (take i xs) f

pub last-set : (xs : List code.Frame) (f : code.Frame) → 0 < length xs → stack_view (set xs (length xs - 1) f) ≡ frame_view f ∷ stack_view (take (length xs - 1) xs)
last-set xs f l =
    let i = length xs - 1 in
    let within : i < length xs = omega arith in
    let all : set xs i f ≡ take i xs ++ f ∷ [] = sym (take_all (i + 1) (set xs i f) (omega (arith, length-set xs i f))) ∙ take_more_set xs i f within in
    ap stack_view all ∙ stack_view-push (take i xs) f
