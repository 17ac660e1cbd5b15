-- What a turn counts: a start, and then a take.
use Rattle.std.proofs.Common.{◌≡◌, ◌∙◌, ◌≤◌, ℕ, Bool, true, false, List, [], ◌++◌, Option, IfSome, refl, sym, ap, subst, arith}
use Rattle.std.specs.Prelude.{not, ◌&&◌, Result, Ok, Err, IfOk, OnErr}
use Rattle.vx_value.specs.declared.want_of_memory.WantOfMemory.{WantOfMemory}
use Rattle.vx_ends.specs.Observation.{Observation, Grows, SameBytes, Happened, CountsBy, nothing}
use Rattle.vx_ends.proofs.Counted.{Apart, all_both, rose_later}
use Rattle.vx_sourcecore.specs.declared.source.Turned.{Turned}
use Rattle.vx_sourcecore.specs.declared.source.Turned.TheVariants.{Lines, StreamEnded, AllEnded, Idle, Failed}
use Rattle.vx_sourcecore.specs.Turns.{DidTake, IsUnmoved, ShowsTurn, StartsAtMost, reading_of, read_bytes, ends_observed, turn_counts}

abbrev start_counts : Bool → Happened
start_counts was = record nothing { started = not was }

-- nothing is counted twice
apart : (was : Bool) (b : Happened) → b.started ≡ false → b.failed ≡ b.failed → Apart (start_counts was) b
apart was b none same = record {
  failed = go b.failed;
  refused = go b.refused;
  idle = go b.idle;
  started = starts b.started (not was) none;
  finished = go b.finished;
  confirmed = go b.confirmed;
}
  where
    go : (t : Bool) → (t && false) ≡ false
    go true = refl
    go false = refl

    starts : (t r : Bool) → t ≡ false → (t && r) ≡ false
    starts true r is = cc
    starts false r is = refl

pub counts_ok : (was : Bool) (turned : Turned) (old mid new : Observation) → CountsBy (start_counts was) old mid → CountsBy (turn_counts true turned) mid new → mid.started ≡ true → ShowsTurn mid new turned → CountsBy (turn_counts was turned) old new
counts_ok was (Lines stream n room cut) old mid new one two on shown = all_both (start_counts was) (turn_counts true (Lines stream n room cut)) old mid new (apart was _ refl refl) one two
counts_ok was (StreamEnded stream cut) old mid new one two on shown = all_both (start_counts was) (turn_counts true (StreamEnded stream cut)) old mid new (apart was _ refl refl) one two
counts_ok was (AllEnded stream cut) old mid new one two on shown = all_both (start_counts was) (turn_counts true (AllEnded stream cut)) old mid new (apart was _ refl refl) one two
counts_ok was Idle old mid new one two on shown = all_both (start_counts was) (turn_counts true Idle) old mid new (apart was _ refl refl) one two
counts_ok was (Failed true) old mid new one two on shown = let contrary : true ≡ false = sym on ∙ shown.2 refl in cc
counts_ok was (Failed false) old mid new one two on shown = all_both (start_counts was) (turn_counts true (Failed false)) old mid new (apart was _ refl refl) one two

-- whatever the take answered
pub counts_so : (was : Bool) (answer : Result Turned WantOfMemory) (old mid new : Observation) → CountsBy (start_counts was) old mid → mid.started ≡ true → IfOk answer (λ turned. CountsBy (turn_counts true turned) mid new) →
    IfOk answer (λ turned. DidTake mid turned new) → IfOk answer (λ turned. CountsBy (turn_counts was turned) old new)
counts_so was (Ok turned) old mid new one on two did = counts_ok was turned old mid new one two on did.shown
counts_so was (Err e) old mid new one on two did = tt

-- and where it found no memory
not_false : (was : Bool) → not was ≡ true → was ≡ false
not_false true is = cc
not_false false is = refl

pub uncounted_so : (answer : Result Turned WantOfMemory) (old mid new : Observation) → CountsBy (start_counts old.started) old mid → OnErr answer (CountsBy nothing mid new) → OnErr answer (StartsAtMost old new)
uncounted_so (Ok turned) old mid new one two = tt
uncounted_so (Err e) old mid new one two = record {
  started = not old.started;
  first = not_false old.started;
  counts = all_both (start_counts old.started) nothing old mid new (apart old.started nothing refl refl) one two;
}

-- A TAKE BEHIND A START
shown_behind : (old mid new : Observation) (turned : Turned) → old.faults ≤ mid.faults → old.idles ≤ mid.idles → mid.faults ≤ new.faults → mid.idles ≤ new.idles → mid.started ≡ true → ShowsTurn mid new turned → ShowsTurn old new turned
shown_behind old mid new (Lines stream n room cut) faults idles more rest on shown = shown
shown_behind old mid new (StreamEnded stream cut) faults idles more rest on shown = shown
shown_behind old mid new (AllEnded stream cut) faults idles more rest on shown = shown
shown_behind old mid new Idle faults idles more rest on shown = (rose_later old.idles mid.idles new.idles idles rest shown.0, shown.1)
shown_behind old mid new (Failed at_start) faults idles more rest on shown =
    (rose_later old.faults mid.faults new.faults faults more shown.0, shown.1, λ is. let contrary : true ≡ false = sym on ∙ shown.2 is in cc)

did_behind : (old mid new : Observation) (turned : Turned) → SameBytes old mid → old.faults ≤ mid.faults → old.refusals ≤ mid.refusals → old.idles ≤ mid.idles → mid.started ≡ true → DidTake mid turned new → DidTake old turned new
did_behind old mid new turned same faults refusals idles on did = record {
  taken = λ s. subst (λ (f : ℕ → Option (List ℕ)). Grows (f s) (new.taken s) (read_bytes (reading_of turned) s)) same.taken (did.taken s);
  ended = did.ended ∙ ap (λ (xs : List ℕ). xs ++ ends_observed (reading_of turned)) same.ended;
  rest = record {
    given = did.rest.given ∙ same.given;
    confirmed = did.rest.confirmed ∙ same.confirmed;
    spec = did.rest.spec ∙ same.spec;
    left = λ none. did.rest.left (λ s. subst (λ (f : ℕ → Option (List ℕ)). IfSome (f s) (λ rest. rest ≡ [])) (sym same.left) (none s));
    faults = let more = did.rest.faults in omega (arith, faults, more);
    refusals = let more = did.rest.refusals in omega (arith, refusals, more);
    idles = let more = did.rest.idles in omega (arith, idles, more);
  };
  shown = shown_behind old mid new turned faults idles did.rest.faults did.rest.idles on did.shown;
  over = did.over;
}

pub did_so : (answer : Result Turned WantOfMemory) (old mid new : Observation) → SameBytes old mid → old.faults ≤ mid.faults → old.refusals ≤ mid.refusals → old.idles ≤ mid.idles → mid.started ≡ true →
    IfOk answer (λ turned. DidTake mid turned new) → IfOk answer (λ turned. DidTake old turned new)
did_so (Ok turned) old mid new same faults refusals idles on did = did_behind old mid new turned same faults refusals idles on did
did_so (Err e) old mid new same faults refusals idles on did = tt

pub unmoved_so : (answer : Result Turned WantOfMemory) (old mid new : Observation) → SameBytes old mid → old.faults ≤ mid.faults → old.refusals ≤ mid.refusals → old.idles ≤ mid.idles →
    OnErr answer (IsUnmoved mid new) → OnErr answer (IsUnmoved old new)
unmoved_so (Ok turned) old mid new same faults refusals idles is = tt
unmoved_so (Err e) old mid new same faults refusals idles is = record {
  taken = is.taken ∙ same.taken;
  ended = is.ended ∙ same.ended;
  rest = record {
    given = is.rest.given ∙ same.given;
    confirmed = is.rest.confirmed ∙ same.confirmed;
    spec = is.rest.spec ∙ same.spec;
    left = λ none. is.rest.left (λ s. subst (λ (f : ℕ → Option (List ℕ)). IfSome (f s) (λ rest. rest ≡ [])) (sym same.left) (none s));
    faults = let more = is.rest.faults in omega (arith, faults, more);
    refusals = let more = is.rest.refusals in omega (arith, refusals, more);
    idles = let more = is.rest.idles in omega (arith, idles, more);
  };
}
