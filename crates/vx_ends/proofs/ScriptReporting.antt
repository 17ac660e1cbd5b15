-- What a take tells at each step.
use Rattle.std.proofs.Common.{◌≡◌, ℕ, ◌+◌, ◌<◌, ◌==◌, List, [], ◌∷◌, ◌++◌, length, take, drop, get_or, refl, sym, ap, arith, Bool, true, false, if◌then◌else◌, ◌∙◌, Result, Ok, Err, append_assoc, Contains, IfOk, inl, inr}
use Rattle.std.proofs.lemmas.List.Elements.{Contains-append_cases, Contains-append_left, Contains-append_right, Contains-push_cases}
use Rattle.std.proofs.lemmas.Grind.{common_steps}
use Rattle.std.proofs.lemmas.List.{append-nil, take-append-drop}
use Rattle.std.proofs.Math.Seq.{take-add}
use Rattle.vx_ends.specs.declared.step.Step.{Step}
use Rattle.vx_ends.specs.declared.step.Step.TheVariants.{Bytes, StreamEnded, AllEnded, Idle, Fail}
use Rattle.vx_ends.specs.declared.port.Took.TheVariants as took
use Rattle.vx_ends.specs.declared.trouble.Trouble.TheVariants as trouble
use Rattle.vx_ends.specs.Script.{Progress, progress_of, part_observed, part_left, has_ended, bytes_of, left_of, without, ends_of, TakeChanges, SameObserved, upcoming, passes_first, answer_of}
use Rattle.vx_ends.specs.Observation.{IsOfOpen}
use Rattle.vx_ends.proofs.ScriptLemmas.{has_ended-append, bytes_of-append, ends_of-end, ends_of-others, has_ended-part, part_observed-zero, part_left-zero}
use Rattle.vx_ends.proofs.ScriptLemmas.{drop_next, take_next, left_of-upcoming}
use Rattle.std.proofs.lemmas.List.{take_all}
use Rattle.std.proofs.Math.Seq.{drop-length}
use Rattle.vx_ends.proofs.ScriptPassing.{bytes_of-part, ends_of-part}

-- the end of all
pub reports-all : (xs steps : List Step) (buffer : List ℕ) →
    TakeChanges (record { past = xs ++ []; rest = AllEnded ∷ steps }) (record { past = xs ++ AllEnded ∷ steps; rest = [] }) (Ok took.AllEnded) buffer
reports-all xs steps buffer = record {
  taken = λ stream. grind (arith, common_steps, bytes_of-append stream xs (AllEnded ∷ steps), append-nil xs, append-nil (bytes_of stream xs));
  left = λ stream. grind (arith, common_steps);
  ended = grind (arith, common_steps, ends_of-others xs (AllEnded ∷ steps), append-nil xs, append-nil (ends_of xs));
}

-- the end of a stream
pub reports-end : (xs steps : List Step) (from : ℕ) (buffer : List ℕ) → has_ended from xs ≡ false →
    TakeChanges (record { past = xs ++ []; rest = StreamEnded from ∷ steps }) (record { past = xs ++ StreamEnded from ∷ []; rest = steps }) (Ok (took.StreamEnded from)) buffer
reports-end xs steps from buffer live = record {
  taken = λ stream. grind (arith, common_steps, bytes_of-append stream xs (StreamEnded from ∷ []), append-nil xs, append-nil (bytes_of stream xs));
  left = λ stream. grind (arith, common_steps, has_ended-append stream xs (StreamEnded from ∷ []), append-nil xs);
  ended = grind (arith, common_steps, ends_of-end xs from, append-nil xs);
}

-- a step that tells nothing of a stream
pub reports-idle : (xs steps : List Step) (buffer : List ℕ) →
    TakeChanges (record { past = xs ++ []; rest = Idle ∷ steps }) (record { past = xs ++ Idle ∷ []; rest = steps }) (Ok took.Idle) buffer
reports-idle xs steps buffer = record {
  taken = λ stream. grind (arith, common_steps, bytes_of-append stream xs (Idle ∷ []), append-nil xs, append-nil (bytes_of stream xs));
  left = λ stream. grind (arith, common_steps, has_ended-append stream xs (Idle ∷ []), append-nil xs);
  ended = grind (arith, common_steps, ends_of-others xs (Idle ∷ []), append-nil xs, append-nil (ends_of xs));
}

pub reports-fail : (xs steps : List Step) (buffer : List ℕ) →
    TakeChanges (record { past = xs ++ []; rest = Fail ∷ steps }) (record { past = xs ++ Fail ∷ []; rest = steps }) (Err trouble.Failed) buffer
reports-fail xs steps buffer = record {
  taken = λ stream. grind (arith, common_steps, bytes_of-append stream xs (Fail ∷ []), append-nil xs, append-nil (bytes_of stream xs));
  left = λ stream. grind (arith, common_steps, has_ended-append stream xs (Fail ∷ []), append-nil xs);
  ended = grind (arith, common_steps, ends_of-others xs (Fail ∷ []), append-nil xs, append-nil (ends_of xs));
}

-- a part of the bytes of a step
pub reports-bytes : (xs steps : List Step) (from offset n : ℕ) (bytes buffer : List ℕ) → has_ended from xs ≡ false → take n buffer ≡ take n (drop offset bytes) →
    TakeChanges (record { past = xs ++ part_observed offset (Bytes from bytes ∷ steps); rest = Bytes from (drop offset bytes) ∷ steps })
    (record { past = xs ++ part_observed (offset + n) (Bytes from bytes ∷ steps); rest = Bytes from (drop (offset + n) bytes) ∷ steps })
    (Ok (took.Bytes from n)) buffer
reports-bytes xs steps from offset n bytes buffer live brought = record {
  taken = λ stream. grind (arith, common_steps, bytes_of-append stream xs (part_observed offset (Bytes from bytes ∷ steps)), bytes_of-append stream xs (part_observed (offset + n) (Bytes from bytes ∷ steps)), bytes_of-part stream offset from bytes steps, bytes_of-part stream (offset + n) from bytes steps, take-add offset n bytes, append_assoc);
  left = λ stream. grind (arith, common_steps, has_ended-part stream offset xs (Bytes from bytes ∷ steps), has_ended-part stream (offset + n) xs (Bytes from bytes ∷ steps), take-append-drop n (drop offset bytes));
  ended = ends_of-others xs (part_observed (offset + n) (Bytes from bytes ∷ steps)) (ends_of-part (offset + n) (Bytes from bytes ∷ steps)) ∙ sym (ends_of-others xs (part_observed offset (Bytes from bytes ∷ steps)) (ends_of-part offset (Bytes from bytes ∷ steps))) ∙ sym (append-nil _);
}

-- a script at the place of a step
here : (steps : List Step) (at offset : ℕ) (s : Step) → at < length steps → s ≡ get_or steps at s →
    progress_of steps at offset ≡ record { past = take at steps ++ part_observed offset (s ∷ drop (at + 1) steps); rest = part_left offset (s ∷ drop (at + 1) steps) }
here steps at offset s l e = let rest = drop_next steps at s l e in ap (λ (left : List Step). let p : Progress = record { past = take at steps ++ part_observed offset left; rest = part_left offset left } in p) rest

-- and behind it
behind : (steps : List Step) (at : ℕ) (s : Step) → at < length steps → s ≡ get_or steps at s →
    progress_of steps (at + 1) 0 ≡ record { past = take at steps ++ s ∷ []; rest = drop (at + 1) steps }
behind steps at s l e = rw (part_observed-zero (drop (at + 1) steps), part_left-zero (drop (at + 1) steps), take_next steps at s l e, append-nil (take at steps ++ s ∷ [])) refl

at_end : (steps : List Step) → progress_of steps (length steps) 0 ≡ record { past = steps; rest = [] }
at_end steps = rw (drop-length steps, take_all (length steps) steps (omega arith), append-nil steps) refl

pub reports_behind : (steps : List Step) (at offset : ℕ) (s : Step) (result : Result took.the_data trouble.the_data) (buffer : List ℕ) → at < length steps → s ≡ get_or steps at s →
    TakeChanges (record { past = take at steps ++ part_observed offset (s ∷ drop (at + 1) steps); rest = part_left offset (s ∷ drop (at + 1) steps) }) (record { past = take at steps ++ s ∷ []; rest = drop (at + 1) steps }) result buffer →
    TakeChanges (progress_of steps at offset) (progress_of steps (at + 1) 0) result buffer
reports_behind steps at offset s result buffer l e h = rw (here steps at offset s l e, behind steps at s l e) h

pub reports_all_at : (steps : List Step) (at offset : ℕ) (buffer : List ℕ) → at < length steps → AllEnded ≡ get_or steps at AllEnded →
    TakeChanges (progress_of steps at offset) (progress_of steps (length steps) 0) (Ok took.AllEnded) buffer
reports_all_at steps at offset buffer l e =
    let whole : steps ≡ take at steps ++ AllEnded ∷ drop (at + 1) steps = sym (take-append-drop at steps) ∙ ap (λ left. take at steps ++ left) (drop_next steps at AllEnded l e) in
    let end : progress_of steps (length steps) 0 ≡ record { past = take at steps ++ AllEnded ∷ drop (at + 1) steps; rest = [] } = at_end steps ∙ ap (λ (past : List Step). let p : Progress = record { past = past; rest = [] } in p) whole in
    rw (here steps at offset AllEnded l e, end) (reports-all (take at steps) (drop (at + 1) steps) buffer)

pub reports_bytes_at : (steps : List Step) (at from offset n : ℕ) (bytes buffer : List ℕ) → at < length steps → Bytes from bytes ≡ get_or steps at (Bytes from bytes) → has_ended from (take at steps) ≡ false → take n buffer ≡ take n (drop offset bytes) →
    TakeChanges (progress_of steps at offset) (progress_of steps at (offset + n)) (Ok (took.Bytes from n)) buffer
reports_bytes_at steps at from offset n bytes buffer l e live brought =
    rw (here steps at offset (Bytes from bytes) l e, here steps at (offset + n) (Bytes from bytes) l e) (reports-bytes (take at steps) (drop (at + 1) steps) from offset n bytes buffer live brought)

left_same : (stream : ℕ) (old live : Progress) → SameObserved old.past live.past → live.rest ≡ upcoming old.past old.rest → left_of stream old ≡ left_of stream live
left_same stream old live same rest = grind (arith, same.closed stream, left_of-upcoming stream old.past old.rest)

-- what is passed over first changes nothing of what a take tells
pub reports_from : (old live new : Progress) (result : Result took.the_data trouble.the_data) (buffer : List ℕ) → SameObserved old.past live.past → live.rest ≡ upcoming old.past old.rest → TakeChanges live new result buffer → TakeChanges old new result buffer
reports_from old live new result buffer same rest h = record {
  taken = λ stream. grind (arith, h.taken stream, same.bytes stream);
  left = λ stream. left_same stream old live same rest ∙ h.left stream;
  ended = grind (arith, h.ended, same.ends);
}

-- the first of the steps to come isn't passed over
pub upcoming_lives : (past steps : List Step) → passes_first past (upcoming past steps) ≡ false
upcoming_lives past [] = refl
upcoming_lives past (s ∷ steps) = grind (arith, upcoming_lives past steps)

contains-one : (y s : ℕ) → Contains (y ∷ []) s → y ≡ s
contains-one y s h = elim (Contains-push_cases [] y s h) [ inl a ↦ absurd (omega (arith, a.1)) | inr e ↦ e ]

without_cons : (b : Bool) (s x y : ℕ) (ys : List ℕ) → (Contains (without x ys) s → Contains ys s) → Contains (if b then without x ys else y ∷ without x ys) s → Contains (y ∷ ys) s
without_cons true s x y ys more h = Contains-append_right (y ∷ []) ys s (more h)
without_cons false s x y ys more h =
    elim (Contains-append_cases (y ∷ []) (without x ys) s h) [ inl a ↦ Contains-append_left (y ∷ []) ys s a | inr b ↦ Contains-append_right (y ∷ []) ys s (more b) ]

contains-without : (s x : ℕ) (ys : List ℕ) → Contains (without x ys) s → Contains ys s
contains-without s x [] h = h
contains-without s x (y ∷ ys) h = without_cons (y == x) s x y ys (contains-without s x ys) h

ended_same : (from s : ℕ) (past : List Step) → from ≡ s → (if from == s then true else has_ended s past) ≡ true
ended_same from s past e = grind arith

ended_later : (from s : ℕ) (past : List Step) → has_ended s past ≡ true → (if from == s then true else has_ended s past) ≡ true
ended_later from s past e = grind arith

-- a stream among the ends has ended
pub ends-ended : (s : ℕ) (past : List Step) → Contains (ends_of past) s → has_ended s past ≡ true
ends-ended s [] h = absurd (omega (arith, h.1))
ends-ended s (Bytes from bytes ∷ past) h = ends-ended s past h
ends-ended s (StreamEnded from ∷ past) h =
    elim (Contains-append_cases (from ∷ []) (without from (ends_of past)) s h) [
      | inl a ↦ ended_same from s past (contains-one from s a)
      | inr b ↦ ended_later from s past (ends-ended s past (contains-without s from (ends_of past) b))
    ]
ends-ended s (AllEnded ∷ past) h = refl
ends-ended s (Idle ∷ past) h = ends-ended s past h
ends-ended s (Fail ∷ past) h = ends-ended s past h

open_false : (b : Bool) → b ≡ true → b ≡ false → ⊥
open_false b g h = grind (arith, g, h)

pub answers_open : (room : ℕ) (past steps : List Step) → passes_first past steps ≡ false → IfOk (answer_of room steps) (IsOfOpen (ends_of past))
answers_open room past [] h = tt
answers_open room past (Bytes from [] ∷ steps) h = absurd (grind arith)
answers_open room past (Bytes from (b ∷ bytes) ∷ steps) h = λ ended. open_false _ (ends-ended from past ended) h
answers_open room past (StreamEnded from ∷ steps) h = λ ended. open_false _ (ends-ended from past ended) h
answers_open room past (AllEnded ∷ steps) h = tt
answers_open room past (Idle ∷ steps) h = tt
answers_open room past (Fail ∷ steps) h = tt
