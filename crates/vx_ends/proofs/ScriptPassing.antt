-- What it leaves to pass over a step.
use Rattle.std.proofs.Common.{◌≡◌, ℕ, zero, suc, ◌+◌, ◌<◌, ◌==◌, List, [], ◌∷◌, ◌++◌, length, take, drop, get_or, refl, sym, ap, arith, add-one, true, if◌then◌else◌, ◌∙◌}
use Rattle.std.proofs.lemmas.Grind.{common_steps}
use Rattle.std.proofs.lemmas.List.{append-nil}
use Rattle.std.proofs.Math.Seq.{drop-cons, take-suc}
use Rattle.vx_ends.specs.declared.step.Step.{Step}
use Rattle.vx_ends.specs.declared.step.Step.TheVariants.{Bytes, StreamEnded, AllEnded, Idle, Fail}
use Rattle.vx_ends.specs.Script.{progress_of, part_observed, part_left, has_ended, bytes_of, ends_of, is_nothing, is_passed, passes_first, upcoming, SameObserved}
use Rattle.vx_ends.proofs.ScriptLemmas.{has_ended-append, bytes_of-append, ends_of-end, ends_of-others, has_ended-part, part_observed-zero, part_left-zero}

-- the bytes of a part of a step
pub bytes_of-part : (stream offset from : ℕ) (bytes : List ℕ) (steps : List Step) → bytes_of stream (part_observed offset (Bytes from bytes ∷ steps)) ≡ (if from == stream then take offset bytes else [])
bytes_of-part stream zero from bytes steps = grind (arith, common_steps)
bytes_of-part stream (suc n) from bytes steps = grind (arith, common_steps, append-nil (take (suc n) bytes))

-- a part of a step tells no end
pub ends_of-part : (offset : ℕ) (steps : List Step) → ends_of (part_observed offset steps) ≡ []
ends_of-part offset [] = refl
ends_of-part zero (Bytes from bytes ∷ steps) = refl
ends_of-part (suc n) (Bytes from bytes ∷ steps) = grind arith
ends_of-part offset (StreamEnded from ∷ steps) = refl
ends_of-part offset (AllEnded ∷ steps) = refl
ends_of-part offset (Idle ∷ steps) = refl
ends_of-part offset (Fail ∷ steps) = refl

nothing_left : (n : ℕ) (bytes : List ℕ) → is_nothing (drop n bytes) ≡ true → take n bytes ≡ bytes
nothing_left n [] h = grind (arith, common_steps)
nothing_left zero (b ∷ bytes) h = grind arith
nothing_left (suc n) (b ∷ bytes) h = grind (arith, common_steps, nothing_left n bytes)

-- a step with bytes that is passed over
passed-bytes : (stream offset from : ℕ) (xs : List Step) (bytes : List ℕ) (steps : List Step) → (if is_nothing (drop offset bytes) then true else has_ended from xs) ≡ true →
    bytes_of stream (xs ++ Bytes from bytes ∷ []) ≡ bytes_of stream (xs ++ part_observed offset (Bytes from bytes ∷ steps))
passed-bytes stream offset from xs bytes steps h =
    grind (arith, common_steps, bytes_of-append stream xs (Bytes from bytes ∷ []), bytes_of-append stream xs (part_observed offset (Bytes from bytes ∷ steps)), bytes_of-part stream offset from bytes steps, nothing_left offset bytes, append-nil bytes)

passed-end : (stream from : ℕ) (xs : List Step) → has_ended from xs ≡ true → bytes_of stream (xs ++ StreamEnded from ∷ []) ≡ bytes_of stream (xs ++ [])
passed-end stream from xs h = grind (arith, common_steps, bytes_of-append stream xs (StreamEnded from ∷ []), bytes_of-append stream xs [])

closed-end : (stream from : ℕ) (xs : List Step) → has_ended from xs ≡ true → has_ended stream (xs ++ StreamEnded from ∷ []) ≡ has_ended stream (xs ++ [])
closed-end stream from xs h = grind (arith, common_steps, has_ended-append stream xs (StreamEnded from ∷ []), has_ended-append stream xs [])

passed : (xs steps : List Step) (s : Step) (offset : ℕ) → passes_first (xs ++ part_observed offset (s ∷ steps)) (part_left offset (s ∷ steps)) ≡ true →
    SameObserved (xs ++ part_observed offset (s ∷ steps)) (xs ++ s ∷ [])
passed xs steps (Bytes from bytes) offset h = record {
  closed = λ stream. grind (arith, has_ended-append stream xs (Bytes from bytes ∷ []), has_ended-part stream offset xs (Bytes from bytes ∷ steps));
  bytes = λ stream. passed-bytes stream offset from xs bytes steps (rw has_ended-part at h);
  ends = ends_of-others xs (Bytes from bytes ∷ []) refl ∙ sym (ends_of-others xs (part_observed offset (Bytes from bytes ∷ steps)) (ends_of-part offset (Bytes from bytes ∷ steps)));
}
passed xs steps (StreamEnded from) offset h =
    let ended : has_ended from xs ≡ true = sym (has_ended-part from offset xs (StreamEnded from ∷ steps)) ∙ h in record {
      closed = λ stream. closed-end stream from xs ended;
      bytes = λ stream. passed-end stream from xs ended;
      ends = grind (arith, common_steps, ends_of-end xs from, append-nil xs);
    }
passed xs steps AllEnded offset h = absurd (grind arith)
passed xs steps Idle offset h = absurd (grind arith)
passed xs steps Fail offset h = absurd (grind arith)

pub same_observed-trans : (a b c : List Step) → SameObserved a b → SameObserved b c → SameObserved a c
same_observed-trans a b c g h = record {
  closed = λ stream. h.closed stream ∙ g.closed stream;
  bytes = λ stream. h.bytes stream ∙ g.bytes stream;
  ends = h.ends ∙ g.ends;
}

-- the place behind a step that is passed over
pub observed_passed : (steps : List Step) (at offset : ℕ) → at < length steps → passes_first (progress_of steps at offset).past (progress_of steps at offset).rest ≡ true →
    SameObserved (progress_of steps at offset).past (progress_of steps (at + 1) 0).past
observed_passed steps at offset l h =
    let s : Step = get_or steps at Idle in
    let next : drop at steps ≡ s ∷ drop (at + 1) steps = rw (add-one at) (drop-cons steps at Idle l) in
    let front : take (at + 1) steps ≡ take at steps ++ s ∷ [] = rw (add-one at) (take-suc steps at Idle l) in
    let moved = rw next at h in
    let behind : (progress_of steps (at + 1) 0).past ≡ take at steps ++ s ∷ [] = rw (part_observed-zero (drop (at + 1) steps)) (append-nil (take (at + 1) steps) ∙ front) in
    rw behind (rw next (passed (take at steps) (drop (at + 1) steps) s offset moved))

-- what is passed over depends on the ends alone
passed_same : (a b : List Step) (s : Step) → SameObserved a b → is_passed b s ≡ is_passed a s
passed_same a b (Bytes from bytes) h = grind (arith, h.closed from)
passed_same a b (StreamEnded from) h = h.closed from
passed_same a b AllEnded h = refl
passed_same a b Idle h = refl
passed_same a b Fail h = refl

first_passed : (past now steps : List Step) (s : Step) → SameObserved past now → is_passed now s ≡ true → upcoming past (s ∷ steps) ≡ upcoming past steps
first_passed past now steps s same h = grind (arith, passed_same past now s same)

part_passed : (past now steps : List Step) (s : Step) (offset : ℕ) → SameObserved past now → passes_first now (part_left offset (s ∷ steps)) ≡ true →
    upcoming past (part_left offset (s ∷ steps)) ≡ upcoming past steps
part_passed past now steps (Bytes from bytes) offset same h = first_passed past now steps (Bytes from (drop offset bytes)) same h
part_passed past now steps (StreamEnded from) offset same h = first_passed past now steps (StreamEnded from) same h
part_passed past now steps AllEnded offset same h = absurd (grind arith)
part_passed past now steps Idle offset same h = absurd (grind arith)
part_passed past now steps Fail offset same h = absurd (grind arith)

-- the steps to come are the same behind a step that is passed over
pub upcoming_passed : (steps : List Step) (at offset : ℕ) (past : List Step) → at < length steps → SameObserved past (progress_of steps at offset).past → passes_first (progress_of steps at offset).past (progress_of steps at offset).rest ≡ true →
    upcoming past (progress_of steps (at + 1) 0).rest ≡ upcoming past (progress_of steps at offset).rest
upcoming_passed steps at offset past l same h =
    let s : Step = get_or steps at Idle in
    let now : List Step = (progress_of steps at offset).past in
    let next : drop at steps ≡ s ∷ drop (at + 1) steps = rw (add-one at) (drop-cons steps at Idle l) in
    let moved : passes_first now (part_left offset (s ∷ drop (at + 1) steps)) ≡ true = sym (ap (λ steps. passes_first now (part_left offset steps)) next) ∙ h in
    ap (upcoming past) (part_left-zero (drop (at + 1) steps))
    ∙ sym (part_passed past now (drop (at + 1) steps) s offset same moved)
    ∙ sym (ap (λ steps. upcoming past (part_left offset steps)) next)
