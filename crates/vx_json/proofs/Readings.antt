-- What a reader knows of the bytes that it has read.
use Rattle.std.proofs.Common.{◌≡◌, ℕ, zero, suc, ◌+◌, ◌<◌, ◌≤◌, Some, None, ◌⊎◌, ⊎_elim, List, [], ◌∷◌, ◌++◌, length, take, drop, get_or, refl, sym, ◌∙◌, ap, subst, arith}
use Rattle.std.proofs.lemmas.List.{take_more, take_all, take-append-drop, append-nil}
use Rattle.std.proofs.str.Laws.{order}
use Rattle.vx_value.specs.Texts.{ByteString}
use Rattle.vx_value.specs.Datum.{Datum, Fields, NamedDatum, named_of, depth}
use Rattle.vx_json.specs.Grammar.{IsText, BeginsText}
use Rattle.vx_json.specs.Machine.{Frame, Mode, AtValue, AtEnd, state, step, finish, carry, reached, outcome, height}
use Rattle.vx_json.specs.Faults.{open_levels, StaysShallow, IsNotJson, IsDeep, IsValue, IsEvent}
use Rattle.vx_json.proofs.Soundness.{text-of}
use Rattle.vx_json.proofs.Completeness.{text-outcome}
use Rattle.vx_json.proofs.Reaching.{reached-append, outcome-append, no-beginning, beginning}
use Rattle.vx_json.proofs.Fitting.{ModeFits, StackFits, Fits, step-fits, finish-fits}
use Rattle.vx_json.proofs.Levels.{stands, StepFacts, step-facts, inside_of, count-bound}

-- the first i bytes lead to a place, and open no more than 32 levels
pub record HasRead (bytes : ByteString) (i : ℕ) (m : Mode) (st : List Frame) : Type 0 where
  pub leads : reached AtValue [] (take i bytes) ≡ state m st
  pub shallow : StaysShallow bytes i
  pub mode_fits : ModeFits m (length st)
  pub stack_fits : StackFits st

-- before the first byte
pub read-none : (bytes : ByteString) → HasRead bytes 0 AtValue []
read-none bytes = record { leads = refl; shallow = λ k h. first k h; mode_fits = tt; stack_fits = tt }
  where
    first : (k : ℕ) → k ≤ 0 → open_levels (take k bytes) ≤ 32
    first zero h = omega arith
    first (suc k) h = absurd (omega arith)

-- one byte more
one-more : (bytes : ByteString) (i b : ℕ) (m : Mode) (st : List Frame) → i < length bytes → get_or bytes i 0 ≡ b → reached AtValue [] (take i bytes) ≡ state m st → reached AtValue [] (take (i + 1) bytes) ≡ carry (step m st b) (λ n su. state n su)
one-more bytes i b m st l e h =
    ap (reached AtValue []) (take_more bytes i 0 l ∙ ap (λ x. take i bytes ++ x ∷ []) e)
    ∙ reached-append (take i bytes) (b ∷ []) AtValue []
    ∙ ap (λ s. carry s (λ n su. reached n su (b ∷ []))) h

-- the levels that are open there
height-is : (bytes : ByteString) (i : ℕ) (m : Mode) (st : List Frame) → HasRead bytes i m st → height m st ≡ open_levels (take i bytes)
height-is bytes i m st h = (stands (take i bytes) (record { mode = m; stack = st }) h.leads).count

-- and they are few
pub low-at : (bytes : ByteString) (i : ℕ) (m : Mode) (st : List Frame) → HasRead bytes i m st → height m st ≤ 32
low-at bytes i m st h = omega (arith, height-is bytes i m st h, h.shallow i (omega arith))

-- a text begins with what was read
begins-at : (bytes : ByteString) (i : ℕ) (m : Mode) (st : List Frame) → reached AtValue [] (take i bytes) ≡ state m st → BeginsText (take i bytes)
begins-at bytes i m st e = beginning (take i bytes) m st e (stands (take i bytes) (record { mode = m; stack = st }) e).live

-- a text begins with each of its beginnings
text-begins : (bytes : ByteString) (i : ℕ) (v : Datum) → IsText bytes v → BeginsText (take i bytes)
text-begins bytes i v t = (drop i bytes, v, subst (λ w. IsText w v) (sym (take-append-drop i bytes)) t)

-- a byte that may not come
pub read-refused : (bytes : ByteString) (i b : ℕ) (m : Mode) (st : List Frame) → i < length bytes → get_or bytes i 0 ≡ b → HasRead bytes i m st → None ≡ step m st b → IsNotJson bytes i
read-refused bytes i b m st l e h n =
    let none : reached AtValue [] (take (i + 1) bytes) ≡ None = one-more bytes i b m st l e h.leads ∙ ap (λ s. carry s (λ k su. state k su)) (sym n) in record {
      no_text = λ v t. no-beginning (take (i + 1) bytes) none (text-begins bytes (i + 1) v t);
      within = omega arith;
      begins = begins-at bytes i m st h.leads;
      longest = λ _ k. no-beginning (take (i + 1) bytes) none k;
      shallow = h.shallow;
    }

pub leads-on : (bytes : ByteString) (i b : ℕ) (m n : Mode) (st su : List Frame) → i < length bytes → get_or bytes i 0 ≡ b → HasRead bytes i m st → state n su ≡ step m st b → reached AtValue [] (take (i + 1) bytes) ≡ state n su
leads-on bytes i b m n st su l e h s = one-more bytes i b m st l e h.leads ∙ ap (λ o. carry o (λ k sv. state k sv)) (sym s)

-- a byte that goes on
pub read-more : (bytes : ByteString) (i b : ℕ) (m n : Mode) (st su : List Frame) → i < length bytes → get_or bytes i 0 ≡ b → HasRead bytes i m st → state n su ≡ step m st b → height n su ≤ 32 → HasRead bytes (i + 1) n su
read-more bytes i b m n st su l e h s low =
    let leads = leads-on bytes i b m n st su l e h s in
    let count : height n su ≡ open_levels (take (i + 1) bytes) = (stands (take (i + 1) bytes) (record { mode = n; stack = su }) leads).count in
    let before : height m st ≤ 32 = omega (arith, height-is bytes i m st h, h.shallow i (omega arith)) in
    let fits : Fits (state n su) = subst Fits (sym s) (step-fits m st b before h.mode_fits h.stack_fits) in
    record { leads = leads; shallow = λ k below. at k below count (order k (i + 1)); mode_fits = fits.0; stack_fits = fits.1 }
  where
    at : (k : ℕ) → k ≤ i + 1 → height n su ≡ open_levels (take (i + 1) bytes) → (k < i + 1) ⊎ (i + 1 ≤ k) → open_levels (take k bytes) ≤ 32
    at k below count t = ⊎_elim (λ a. h.shallow k (omega arith)) (λ a. let same : k ≡ i + 1 = omega arith in subst (λ x. open_levels (take x bytes) ≤ 32) (sym same) (omega (arith, count))) t

-- a byte that opens a level too many
pub read-deep : (bytes : ByteString) (i b : ℕ) (m n : Mode) (st su : List Frame) → i < length bytes → get_or bytes i 0 ≡ b → HasRead bytes i m st → state n su ≡ step m st b → 32 < height n su → IsDeep bytes i
read-deep bytes i b m n st su l e h s high =
    let leads = leads-on bytes i b m n st su l e h s in
    let after = stands (take (i + 1) bytes) (record { mode = n; stack = su }) leads in
    let live = (stands (take i bytes) (record { mode = m; stack = st }) h.leads).live in
    let facts : StepFacts (inside_of m) (height m st) b (state n su) = subst (StepFacts (inside_of m) (height m st) b) (sym s) (step-facts m st b live) in
    let before : height m st ≤ 32 = omega (arith, height-is bytes i m st h, h.shallow i (omega arith)) in record {
      within = l;
      begins = beginning (take (i + 1) bytes) n su leads after.live;
      opened = omega (arith, after.count, facts.2, count-bound (inside_of m) (height m st) b);
      shallow = h.shallow;
    }

-- where all bytes were read
all-leads : (bytes : ByteString) (i : ℕ) (m : Mode) (st : List Frame) → i ≡ length bytes → HasRead bytes i m st → reached AtValue [] bytes ≡ state m st
all-leads bytes i m st e h = ap (reached AtValue []) (sym (take_all i bytes (omega arith))) ∙ h.leads

all-outcome : (bytes : ByteString) (i : ℕ) (m : Mode) (st : List Frame) → i ≡ length bytes → HasRead bytes i m st → outcome AtValue [] bytes ≡ finish m st
all-outcome bytes i m st e h =
    ap (outcome AtValue []) (sym (append-nil bytes)) ∙ outcome-append bytes [] AtValue [] ∙ ap (λ s. carry s (λ n su. outcome n su [])) (all-leads bytes i m st e h)

-- no text ends there
pub read-unfinished : (bytes : ByteString) (i : ℕ) (m : Mode) (st : List Frame) → i ≡ length bytes → HasRead bytes i m st → finish m st ≡ None → IsNotJson bytes i
read-unfinished bytes i m st e h n = record {
  no_text = λ v t. none_some v (sym (all-outcome bytes i m st e h ∙ n) ∙ text-outcome bytes v t);
  within = omega arith;
  begins = begins-at bytes i m st h.leads;
  longest = λ l _. absurd (omega arith);
  shallow = h.shallow;
}
  where
    none_some : (d : Datum) → None ≡ Some d → ⊥
    none_some d k = cc

pub finish-open : (m : Mode) (f : Frame) (st : List Frame) → finish m (f ∷ st) ≡ None
finish-open (AtEnd v) f st = refl
finish-open m f st = refl

-- a text ends there
pub read-finished : (bytes : ByteString) (i : ℕ) (m : Mode) (st : List Frame) (v : Datum) → i ≡ length bytes → HasRead bytes i m st → finish m st ≡ Some v → IsValue bytes v
read-finished bytes i m st v e h n =
    let o = all-outcome bytes i m st e h ∙ n in record {
      fits = finish-fits m st v h.mode_fits n;
      text = text-of bytes v o;
      only = λ w t. same w (sym (text-outcome bytes w t) ∙ o);
      shallow = subst (StaysShallow bytes) e h.shallow;
    }
  where
    same : (w : Datum) → Some w ≡ Some v → w ≡ v
    same w k = cc

-- a value that is fields is an event
pub event-of-value : (bytes : ByteString) (v : Datum) (fs : List NamedDatum) → IsValue bytes v → v ≡ Fields (named_of fs) → IsEvent bytes fs
event-of-value bytes v fs h e = record { fits = subst (λ d. depth d ≤ 32) e h.fits; text = subst (IsText bytes) e h.text; only = λ w t. h.only w t ∙ e; shallow = h.shallow }

-- where something is open no text ends
pub finish-nonempty : (m : Mode) (st : List Frame) → 0 < length st → finish m st ≡ None
finish-nonempty m [] h = absurd (omega arith)
finish-nonempty m (f ∷ st) h = finish-open m f st
