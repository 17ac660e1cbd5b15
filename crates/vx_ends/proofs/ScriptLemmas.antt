-- How a script is told, step by step.
use Rattle.std.proofs.Common.{◌≡◌, ℕ, zero, suc, ◌+◌, ◌<◌, ◌==◌, List, [], ◌∷◌, ◌++◌, length, take, drop, get_or, refl, arith, add-one, true, false, if◌then◌else◌, append_assoc, ◌∙◌}
use Rattle.std.proofs.lemmas.Grind.{common_steps}
use Rattle.std.proofs.Math.Seq.{drop-cons, take-suc}
use Rattle.vx_ends.specs.declared.step.Step.{Step}
use Rattle.vx_ends.specs.declared.step.Step.TheVariants.{Bytes, StreamEnded, AllEnded, Idle, Fail}
use Rattle.vx_ends.specs.Script.{part_observed, part_left, has_ended, bytes_of, without, ends_of, is_nothing, passes_first, upcoming}

pub has_ended-append : (stream : ℕ) (xs ys : List Step) → has_ended stream (xs ++ ys) ≡ (if has_ended stream xs then true else has_ended stream ys)
has_ended-append stream [] ys = refl
has_ended-append stream (Bytes from bytes ∷ xs) ys = has_ended-append stream xs ys
has_ended-append stream (StreamEnded from ∷ xs) ys = grind (arith, has_ended-append stream xs ys)
has_ended-append stream (AllEnded ∷ xs) ys = refl
has_ended-append stream (Idle ∷ xs) ys = has_ended-append stream xs ys
has_ended-append stream (Fail ∷ xs) ys = has_ended-append stream xs ys

pub bytes_of-append : (stream : ℕ) (xs ys : List Step) → bytes_of stream (xs ++ ys) ≡ (if has_ended stream xs then bytes_of stream xs else bytes_of stream xs ++ bytes_of stream ys)
bytes_of-append stream [] ys = refl
bytes_of-append stream (Bytes from bytes ∷ xs) ys = grind (arith, common_steps, bytes_of-append stream xs ys, append_assoc)
bytes_of-append stream (StreamEnded from ∷ xs) ys = grind (arith, common_steps, bytes_of-append stream xs ys)
bytes_of-append stream (AllEnded ∷ xs) ys = refl
bytes_of-append stream (Idle ∷ xs) ys = bytes_of-append stream xs ys
bytes_of-append stream (Fail ∷ xs) ys = bytes_of-append stream xs ys

without-last : (x : ℕ) (ys : List ℕ) → without x (ys ++ x ∷ []) ≡ without x ys
without-last x [] = grind arith
without-last x (y ∷ ys) = grind (arith, common_steps, without-last x ys)

without-other : (x y : ℕ) (ys : List ℕ) → (y == x) ≡ false → without x (ys ++ y ∷ []) ≡ without x ys ++ y ∷ []
without-other x y [] e = grind arith
without-other x y (z ∷ ys) e = grind (arith, common_steps, without-other x y ys)

-- one more end of a stream
pub ends_of-end : (xs : List Step) (s : ℕ) → ends_of (xs ++ StreamEnded s ∷ []) ≡ (if has_ended s xs then ends_of xs else ends_of xs ++ s ∷ [])
ends_of-end [] s = refl
ends_of-end (Bytes from bytes ∷ xs) s = ends_of-end xs s
ends_of-end (StreamEnded from ∷ xs) s = grind (arith, common_steps, ends_of-end xs s, without-last s (ends_of xs), without-other from s (ends_of xs))
ends_of-end (AllEnded ∷ xs) s = refl
ends_of-end (Idle ∷ xs) s = ends_of-end xs s
ends_of-end (Fail ∷ xs) s = ends_of-end xs s

-- steps that end nothing
pub ends_of-others : (xs ys : List Step) → ends_of ys ≡ [] → ends_of (xs ++ ys) ≡ ends_of xs
ends_of-others [] ys e = e
ends_of-others (Bytes from bytes ∷ xs) ys e = ends_of-others xs ys e
ends_of-others (StreamEnded from ∷ xs) ys e = grind (arith, common_steps, ends_of-others xs ys e)
ends_of-others (AllEnded ∷ xs) ys e = refl
ends_of-others (Idle ∷ xs) ys e = ends_of-others xs ys e
ends_of-others (Fail ∷ xs) ys e = ends_of-others xs ys e

-- what is passed over leaves the same
pub left_of-upcoming : (stream : ℕ) (past steps : List Step) → has_ended stream past ≡ false → bytes_of stream (upcoming past steps) ≡ bytes_of stream steps
left_of-upcoming stream past [] e = refl
left_of-upcoming stream past (Bytes from [] ∷ steps) e = grind (arith, common_steps, left_of-upcoming stream past steps e)
left_of-upcoming stream past (Bytes from (b ∷ bytes) ∷ steps) e = grind (arith, common_steps, left_of-upcoming stream past steps e)
left_of-upcoming stream past (StreamEnded from ∷ steps) e = grind (arith, common_steps, left_of-upcoming stream past steps e)
left_of-upcoming stream past (AllEnded ∷ steps) e = refl
left_of-upcoming stream past (Idle ∷ steps) e = refl
left_of-upcoming stream past (Fail ∷ steps) e = refl

pub part_left-zero : (steps : List Step) → part_left 0 steps ≡ steps
part_left-zero (Bytes from bytes ∷ steps) = refl
part_left-zero steps = refl

pub part_observed-zero : (steps : List Step) → part_observed 0 steps ≡ []
part_observed-zero (Bytes from bytes ∷ steps) = refl
part_observed-zero steps = refl

-- the step at a place, before those behind it
pub drop_next : (steps : List Step) (at : ℕ) (s : Step) → at < length steps → s ≡ get_or steps at s → drop at steps ≡ s ∷ drop (at + 1) steps
drop_next steps at s l e = grind (arith, drop-cons steps at s l, add-one)

-- the steps up to the step at a place
pub take_next : (steps : List Step) (at : ℕ) (s : Step) → at < length steps → s ≡ get_or steps at s → take (at + 1) steps ≡ take at steps ++ s ∷ []
take_next steps at s l e = grind (arith, take-suc steps at s l, add-one)

-- a stream that a step ends
pub ended_at : (stream at : ℕ) (s : Step) (steps : List Step) → at < length steps → s ≡ get_or steps at s → has_ended stream (s ∷ []) ≡ true → has_ended stream steps ≡ true
ended_at stream at s [] l e h = grind arith
ended_at stream zero s (x ∷ steps) l e h = let same : has_ended stream (x ∷ steps) ≡ has_ended stream (x ∷ [] ++ steps) = refl in same ∙ grind (arith, has_ended-append stream (x ∷ []) steps)
ended_at stream (suc at) s (x ∷ steps) l e h = let same : has_ended stream (x ∷ steps) ≡ has_ended stream (x ∷ [] ++ steps) = refl in same ∙ grind (arith, common_steps, has_ended-append stream (x ∷ []) steps, ended_at stream at s steps)

pub open_on : (stream at : ℕ) (s : Step) (steps : List Step) → at < length steps → s ≡ get_or steps at s → has_ended stream (take at steps) ≡ false → has_ended stream (s ∷ []) ≡ false → has_ended stream (take (at + 1) steps) ≡ false
open_on stream at s steps l e g h = rw (take_next steps at s l e) (grind (arith, has_ended-append stream (take at steps) (s ∷ [])))

-- a part of a step ends nothing
pub has_ended-part : (stream offset : ℕ) (xs steps : List Step) → has_ended stream (xs ++ part_observed offset steps) ≡ has_ended stream xs
has_ended-part stream offset xs [] = grind (arith, has_ended-append stream xs [])
has_ended-part stream zero xs (Bytes from bytes ∷ steps) = grind (arith, has_ended-append stream xs [])
has_ended-part stream (suc n) xs (Bytes from bytes ∷ steps) = grind (arith, has_ended-append stream xs (Bytes from (take (suc n) bytes) ∷ []))
has_ended-part stream offset xs (StreamEnded from ∷ steps) = grind (arith, has_ended-append stream xs [])
has_ended-part stream offset xs (AllEnded ∷ steps) = grind (arith, has_ended-append stream xs [])
has_ended-part stream offset xs (Idle ∷ steps) = grind (arith, has_ended-append stream xs [])
has_ended-part stream offset xs (Fail ∷ steps) = grind (arith, has_ended-append stream xs [])

pub is_nothing-drop : (n : ℕ) (bytes : List ℕ) → n < length bytes → is_nothing (drop n bytes) ≡ false
is_nothing-drop n [] l = grind arith
is_nothing-drop zero (b ∷ bytes) l = refl
is_nothing-drop (suc n) (b ∷ bytes) l = grind (arith, common_steps, is_nothing-drop n bytes)

-- whether a step with bytes is passed over at a place
pub passes-bytes : (steps : List Step) (at offset from : ℕ) (bytes : List ℕ) → at < length steps → Bytes from bytes ≡ get_or steps at (Bytes from bytes) →
    passes_first (take at steps ++ part_observed offset (drop at steps)) (part_left offset (drop at steps)) ≡ (if is_nothing (drop offset bytes) then true else has_ended from (take at steps))
passes-bytes steps at offset from bytes l e = rw (← has_ended-part from offset (take at steps) (drop at steps)) (rw (drop_next steps at (Bytes from bytes) l e) refl)

-- whether the end of a stream is passed over at a place
pub passes-end : (steps : List Step) (at offset from : ℕ) → at < length steps → StreamEnded from ≡ get_or steps at (StreamEnded from) →
    passes_first (take at steps ++ part_observed offset (drop at steps)) (part_left offset (drop at steps)) ≡ has_ended from (take at steps)
passes-end steps at offset from l e = rw (← has_ended-part from offset (take at steps) (drop at steps)) (rw (drop_next steps at (StreamEnded from) l e) refl)

-- a step that isn't passed over is of a stream that goes on
pub live-bytes : (steps : List Step) (at offset from : ℕ) (bytes : List ℕ) → at < length steps → Bytes from bytes ≡ get_or steps at (Bytes from bytes) →
    passes_first (take at steps ++ part_observed offset (drop at steps)) (part_left offset (drop at steps)) ≡ false → has_ended from (take at steps) ≡ false
live-bytes steps at offset from bytes l e h = grind (arith, passes-bytes steps at offset from bytes l e)
