-- A source that was abreast of the record is so behind its turn.
use Rattle.std.proofs.Common.{◌≡◌, ℕ, zero, suc, ◌+◌, ◌-◌, ◌<◌, Bool, true, false, List, [], ◌∷◌, ◌++◌, length, map, Option, Some, None, inl, inr, arith, refl, sym, subst, ◌∙◌, ap}
use Rattle.std.specs.Prelude.{◌≢◌, ◌⊎◌, ◌==◌, ◌&&◌, not, if◌then◌else◌, unwrap_or, IfSome, IfOk, Result, Ok, Err, IsSomeAnd, slice_index_or, Contains, flat_map, take}
use Rattle.std.proofs.lemmas.Bool.Decides.{nat_tests}
use Rattle.std.proofs.lemmas.Bool.{and_from as both_true, and_right as second_false, cases_eq, eq-eqb as equal_test, eqb-true as test_equal, or_parts as either_false}
use Rattle.std.proofs.lemmas.List.{append-nil}
use Rattle.std.proofs.lemmas.List.Elements.{Contains-append_left, Contains-append_right, Contains-append_cases, Contains-push}
use Rattle.vx_value.specs.Texts.{ByteString, is_empty}
use Rattle.vx_value.specs.declared.want_of_memory.WantOfMemory.{WantOfMemory}
use Rattle.vx_frame.specs.Frames.{Frame, frames, discarded}
use Rattle.vx_frame.specs.Framings.{Framing, HasTaken, untouched, left_behind, line_of}
use Rattle.vx_plan.specs.declared.component.Component.{Component}
use Rattle.vx_record.specs.Records.{Record, capped}
use Rattle.vx_record.specs.Installs.{component_of}
use Rattle.vx_record.specs.Reads.{taken, all_ended, last_stream, open_bytes, still_open, stream_of, ended_streams, ended_by, is_end, new_lines, end_of, last_end}
use Rattle.vx_record.specs.declared.entry.Entry.TheVariants.{Read}
use Rattle.vx_record.specs.declared.taken.Taken.{Taken}
use Rattle.vx_record.specs.declared.taken.Taken.TheVariants as taken
use Rattle.vx_sourcecore.specs.declared.source.Cut.{Cut}
use Rattle.vx_sourcecore.specs.declared.source.SourceCore.{SourceCore}
use Rattle.vx_sourcecore.specs.declared.source.Turned.{Turned}
use Rattle.vx_sourcecore.specs.declared.source.Turned.TheVariants.{Lines, StreamEnded, AllEnded, Idle, Failed}
use Rattle.vx_sourcecore.specs.Sources.{IsOf, KeepsOthers, HasFed, HasFinished, HasBrought, BringsSome, IsOfOpen, IsSame, events_of_cut, new_lines as cut_lines, new_overlong as cut_overlong}
use Rattle.vx_sourcecore.specs.Abreast.{IsMadeFor, IsAbreast, IsCutOf, HasCut, HasTurned, MayTurnOn}
use Rattle.vx_sourcecore.proofs.Bridging.{Adds, IsGiven, given_by}

-- TESTS
pub same_test : (i : ℕ) → (i == i) ≡ true
same_test i = grind (arith, nat_tests)

other_test : (i j : ℕ) → j ≢ i → (i == j) ≡ false
other_test i j other = go (i == j) refl
  where
    go : (b : Bool) → (i == j) ≡ b → (i == j) ≡ false
    go false e = e
    go true e = absurd (other (grind (arith, nat_tests)))

pub when_true : {X : Type 0} (b : Bool) (x y : X) → b ≡ true → (if b then x else y) ≡ x
when_true true x y e = refl
when_true false x y e = cc

when_false : {X : Type 0} (b : Bool) (x y : X) → b ≡ false → (if b then x else y) ≡ y
when_false true x y e = cc
when_false false x y e = refl

-- MEMBERS
pub none_in : (x : ℕ) → Contains [] x → ⊥
none_in x c = omega (arith, c.1)

only_in : (x y : ℕ) → Contains (y ∷ []) x → y ≡ x
only_in x y c = go c.0 c.1 c.2
  where
    go : (k : ℕ) → k < 1 → slice_index_or (y ∷ []) k x ≡ x → y ≡ x
    go zero l e = e
    go (suc k) l e = absurd (omega (arith, l))

contained : (xs : List ℕ) (x : ℕ) → Contains xs x ⊎ (Contains xs x → ⊥)
contained [] x = inr (none_in x)
contained (y ∷ xs) x = go (cases_eq y x) (contained xs x)
  where
    go : (y ≡ x) ⊎ (y ≢ x) → Contains xs x ⊎ (Contains xs x → ⊥) → Contains (y ∷ xs) x ⊎ (Contains (y ∷ xs) x → ⊥)
    go (inl same) rest = inl (Contains-append_left (y ∷ []) xs x (subst (λ z. Contains (z ∷ []) x) (sym same) (Contains-push [] x)))
    go (inr other) (inl there) = inl (Contains-append_right (y ∷ []) xs x there)
    go (inr other) (inr gone) = inr (λ c. by_side (Contains-append_cases (y ∷ []) xs x c))
      where
        by_side : Contains (y ∷ []) x ⊎ Contains xs x → ⊥
        by_side (inl front) = other (only_in x y front)
        by_side (inr back) = gone back

-- BYTES
-- a Read of a stream changes the unended bytes of that one, and of no other
open_same : (h : Record) (i stream : ℕ) (took : Taken) (s : ℕ) → stream_of h i stream took ≡ s → open_bytes (Read i stream took ∷ h) i s ≡ still_open took (open_bytes h i s)
open_same h i stream took s same = when_true ((i == i) && (stream_of h i stream took == s)) (still_open took (open_bytes h i s)) (open_bytes h i s) (both_true (i == i) (stream_of h i stream took == s) (same_test i) (equal_test (stream_of h i stream took) s same))

open_other : (h : Record) (i stream : ℕ) (took : Taken) (s : ℕ) → stream_of h i stream took ≢ s → open_bytes (Read i stream took ∷ h) i s ≡ open_bytes h i s
open_other h i stream took s other = when_false ((i == i) && (stream_of h i stream took == s)) (still_open took (open_bytes h i s)) (open_bytes h i s) (second_false (i == i) (stream_of h i stream took == s) (other_test (stream_of h i stream took) s (λ e. other (sym e))))

-- while the end of all wasn't told, all bytes of a stream that hasn't ended are unended
pub open_whole : (h : Record) (i stream : ℕ) → all_ended h i ≡ false → (Contains (ended_streams h i) stream → ⊥) → open_bytes h i stream ≡ taken h i stream
open_whole [] i stream over unended = refl
open_whole (Read j s (taken.Bytes bytes) ∷ h) i stream over unended =
    go ((j == i) && (s == stream)) (open_whole h i stream (either_false ((j == i) && is_end (taken.Bytes bytes)) (all_ended h i) over).1 (λ c. unended (Contains-append_left (ended_streams h i) [] stream c)))
  where
    go : (b : Bool) → open_bytes h i stream ≡ taken h i stream → (if b then open_bytes h i stream ++ bytes else open_bytes h i stream) ≡ taken h i stream ++ (if b then bytes else [])
    go true e = ap (λ (w : ByteString). w ++ bytes) e
    go false e = e ∙ sym (append-nil (taken h i stream))
open_whole (Read j s taken.StreamEnded ∷ h) i stream over unended =
    go (j == i) (s == stream) refl refl (open_whole h i stream (either_false ((j == i) && is_end taken.StreamEnded) (all_ended h i) over).1 (λ c. unended (Contains-append_left (ended_streams h i) (if j == i then s ∷ [] else []) stream c)))
  where
    go : (a b : Bool) → (j == i) ≡ a → (s == stream) ≡ b → open_bytes h i stream ≡ taken h i stream → (if a && b then [] else open_bytes h i stream) ≡ taken h i stream ++ (if a && b then [] else [])
    go true true p q e = absurd (unended (Contains-append_right (ended_streams h i) (if j == i then s ∷ [] else []) stream
        (subst (λ (xs : List ℕ). Contains xs stream) (sym (when_true (j == i) (s ∷ []) [] p)) (subst (λ z. Contains (z ∷ []) stream) (sym (test_equal s stream q)) (Contains-push [] stream)))))
    go true false p q e = e ∙ sym (append-nil (taken h i stream))
    go false b p q e = e ∙ sym (append-nil (taken h i stream))
open_whole (Read j s taken.AllEnded ∷ h) i stream over unended =
    go (j == i) (stream_of h i s taken.AllEnded == stream) (s == stream) (either_false ((j == i) && is_end taken.AllEnded) (all_ended h i) over).0 (open_whole h i stream (either_false ((j == i) && is_end taken.AllEnded) (all_ended h i) over).1 (λ c. unended (Contains-append_left (ended_streams h i) [] stream c)))
  where
    go : (a b b' : Bool) → (a && true) ≡ false → open_bytes h i stream ≡ taken h i stream → (if a && b then [] else open_bytes h i stream) ≡ taken h i stream ++ (if a && b' then [] else [])
    go true b b' p e = cc
    go false b b' p e = e ∙ sym (append-nil (taken h i stream))
open_whole (e ∷ h) i stream over unended =
    open_whole h i stream over (λ c. unended (Contains-append_left (ended_streams h i) [] stream c))

-- SOURCES
made_on : (o : Option Component) (old : SourceCore) (stream : ℕ) (new : SourceCore) → KeepsOthers old stream new → IsSomeAnd o (λ (c : Component). IsMadeFor c.settings old) → IsSomeAnd o (λ (c : Component). IsMadeFor c.settings new)
made_on None old stream new rest m = m
made_on (Some c) old stream new rest m = record { limit = rest.limit ∙ m.limit; source_type = rest.source_type ∙ m.source_type; file = rest.file ∙ m.file; decoding_is = m.decoding_is ∙ ap Some (sym rest.decoding) }

-- what was left of another stream is left of it
others_taken : (old : SourceCore) (stream : ℕ) (new : SourceCore) (s : ℕ) (bytes : ByteString) → KeepsOthers old stream new → s ≢ stream → HasTaken old.framer s bytes → HasTaken new.framer s bytes
others_taken old stream new s bytes rest other was = rest.others s other ∙ was ∙ ap (λ n. left_behind n untouched bytes) (sym rest.limit)

some_bytes : (bytes : ByteString) → 0 < length bytes → not (is_empty bytes) ≡ true
some_bytes [] l = absurd (omega arith)
some_bytes (b ∷ bytes) l = refl

-- a source that took bytes
fed_abreast : (h : Record) (i stream : ℕ) (bytes : ByteString) (brought : Cut) (old new : SourceCore) → 0 < length bytes → (Contains (ended_streams h i) stream → ⊥) → IsAbreast h i old → HasFed old stream bytes brought new →
    IsAbreast (Read i stream (taken.Bytes bytes) ∷ h) i new
fed_abreast h i stream bytes brought old new some unended a fed = record {
  made_for = made_on (component_of h i) old stream new fed.rest a.made_for;
  last = fed.last ∙ sym (when_true ((i == i) && not (is_empty bytes)) (Some stream) (last_stream h i) (both_true (i == i) (not (is_empty bytes)) (same_test i) (some_bytes bytes some)));
  taken = λ s. taken_at s (cases_eq stream s);
  ended = λ s there. ended_at s (cases_eq stream s) (Contains-append_cases (ended_streams h i) [] s there);
}
  where
    taken_at : (s : ℕ) → (stream ≡ s) ⊎ (stream ≢ s) → HasTaken new.framer s (open_bytes (Read i stream (taken.Bytes bytes) ∷ h) i s)
    taken_at s (inl same) = subst (λ (w : ByteString). HasTaken new.framer s w) (sym (open_same h i stream (taken.Bytes bytes) s same))
        (subst (λ z. HasTaken new.framer z (open_bytes h i z ++ bytes)) same (fed.taken (open_bytes h i stream) (a.taken stream)))
    taken_at s (inr other) = subst (λ (w : ByteString). HasTaken new.framer s w) (sym (open_other h i stream (taken.Bytes bytes) s other))
        (others_taken old stream new s (open_bytes h i s) fed.rest (λ e. other (sym e)) (a.taken s))

    ended_at : (s : ℕ) → (stream ≡ s) ⊎ (stream ≢ s) → Contains (ended_streams h i) s ⊎ Contains [] s → open_bytes (Read i stream (taken.Bytes bytes) ∷ h) i s ≡ []
    ended_at s same (inr none) = absurd (none_in s none)
    ended_at s (inl same) (inl there) = absurd (unended (subst (λ z. Contains (ended_streams h i) z) (sym same) there))
    ended_at s (inr other) (inl there) = open_other h i stream (taken.Bytes bytes) s other ∙ a.ended s there

-- the stream that is told to have ended, if one is
ended_is : (h : Record) (i stream : ℕ) (took : Taken) (s : ℕ) → Contains (ended_by i (Read i stream took)) s → stream_of h i stream took ≡ s
ended_is h i stream (taken.Bytes bytes) s there = absurd (none_in s there)
ended_is h i stream taken.StreamEnded s there = only_in s stream (subst (λ (xs : List ℕ). Contains xs s) (when_true (i == i) (stream ∷ []) [] (same_test i)) there)
ended_is h i stream taken.AllEnded s there = absurd (none_in s there)

-- nothing is unended behind the end of a stream, and the end brings no bytes
abbrev pub Ends : Taken → Type 0
Ends (taken.Bytes bytes) = ⊥
Ends taken.StreamEnded = Unit {0}
Ends taken.AllEnded = Unit {0}

ends_open : (took : Taken) (w : ByteString) → Ends took → still_open took w ≡ []
ends_open (taken.Bytes bytes) w e = absurd e
ends_open taken.StreamEnded w e = refl
ends_open taken.AllEnded w e = refl

ends_last : (h : Record) (i stream : ℕ) (took : Taken) → Ends took → last_stream (Read i stream took ∷ h) i ≡ last_stream h i
ends_last h i stream (taken.Bytes bytes) e = absurd e
ends_last h i stream taken.StreamEnded e = when_false ((i == i) && false) (Some stream) (last_stream h i) (second_false (i == i) false refl)
ends_last h i stream taken.AllEnded e = when_false ((i == i) && false) (Some stream) (last_stream h i) (second_false (i == i) false refl)

-- a source that was told an end
finished_abreast : (h : Record) (i stream : ℕ) (took : Taken) (at : ℕ) (brought : Cut) (old new : SourceCore) → Ends took → stream_of h i stream took ≡ at → IsAbreast h i old → HasFinished old at brought new →
    IsAbreast (Read i stream took ∷ h) i new
finished_abreast h i stream took at brought old new ends is a finished = record {
  made_for = made_on (component_of h i) old at new finished.rest a.made_for;
  last = finished.last ∙ a.last ∙ sym (ends_last h i stream took ends);
  taken = λ s. taken_at s (cases_eq at s);
  ended = λ s there. ended_at s (cases_eq at s) (Contains-append_cases (ended_streams h i) (ended_by i (Read i stream took)) s there);
}
  where
    shut : (s : ℕ) → at ≡ s → open_bytes (Read i stream took ∷ h) i s ≡ []
    shut s same = open_same h i stream took s (is ∙ same) ∙ ends_open took (open_bytes h i s) ends

    apart : (s : ℕ) → at ≢ s → open_bytes (Read i stream took ∷ h) i s ≡ open_bytes h i s
    apart s other = open_other h i stream took s (λ e. other (sym is ∙ e))

    taken_at : (s : ℕ) → (at ≡ s) ⊎ (at ≢ s) → HasTaken new.framer s (open_bytes (Read i stream took ∷ h) i s)
    taken_at s (inl same) = subst (λ (w : ByteString). HasTaken new.framer s w) (sym (shut s same)) (subst (λ z. HasTaken new.framer z []) same finished.anew)
    taken_at s (inr other) = subst (λ (w : ByteString). HasTaken new.framer s w) (sym (apart s other))
        (others_taken old at new s (open_bytes h i s) finished.rest (λ e. other (sym e)) (a.taken s))

    ended_at : (s : ℕ) → (at ≡ s) ⊎ (at ≢ s) → Contains (ended_streams h i) s ⊎ Contains (ended_by i (Read i stream took)) s → open_bytes (Read i stream took ∷ h) i s ≡ []
    ended_at s (inl same) there = shut s same
    ended_at s (inr other) (inl there) = apart s other ∙ a.ended s there
    ended_at s (inr other) (inr there) = absurd (other (sym is ∙ ended_is h i stream took s there))

-- WHAT WAS CUT
all_open : (a b n : ℕ) → a ≡ b → n ≡ (b - a) + n
all_open a b n same = omega (arith, same)

-- the end of a stream's line in all its bytes, where all of them are unended
end_open : (h : Record) (i stream : ℕ) (took : Taken) (brought : Cut) → open_bytes h i (stream_of h i stream took) ≡ taken h i (stream_of h i stream took) → IsGiven h i stream took brought →
    brought.end ≡ capped (end_of h i stream took)
end_open h i stream took brought whole given =
    given.end
    ∙ ap capped (all_open (length (open_bytes h i (stream_of h i stream took))) (length (taken h i (stream_of h i stream took))) (last_end (new_lines h i stream took)) (ap length whole))

fed_given : (h : Record) (i stream : ℕ) (bytes : ByteString) (brought : Cut) (old new : SourceCore) → IsAbreast h i old → HasFed old stream bytes brought new → IsGiven h i stream (taken.Bytes bytes) brought
fed_given h i stream bytes brought old new a fed =
    given_by h i stream (taken.Bytes bytes) old (cut_lines old.framer stream false bytes) (cut_overlong old.framer stream false bytes) brought a.made_for
    (record { lines = fed.behind (open_bytes h i stream) (a.taken stream); more = fed.discards (open_bytes h i stream) (a.taken stream) }) fed.gave

fed_cut : (h : Record) (i stream : ℕ) (bytes : ByteString) (brought : Cut) (old new : SourceCore) → all_ended h i ≡ false → (Contains (ended_streams h i) stream → ⊥) → IsAbreast h i old → HasFed old stream bytes brought new →
    IsCutOf h i stream (taken.Bytes bytes) brought
fed_cut h i stream bytes brought old new over unended a fed =
    let given = fed_given h i stream bytes brought old new a fed in
    record {
      events = given.events;
      of_stream = λ some. refl;
      end = λ some. end_open h i stream (taken.Bytes bytes) brought (open_whole h i stream over unended) given;
      new = given.new;
    }

-- what an end adds
end_adds : (limit : ℕ) (w : ByteString) (took : Taken) (behind : List Frame) (over : ℕ) → Ends took → frames w limit true ≡ frames w limit false ++ behind → discarded w limit true ≡ discarded w limit false + over →
    Adds limit w took behind over
end_adds limit w (taken.Bytes bytes) behind over ends lines more = absurd ends
end_adds limit w taken.StreamEnded behind over ends lines more = record { lines = lines; more = more }
end_adds limit w taken.AllEnded behind over ends lines more = record { lines = lines; more = more }

finished_given : (h : Record) (i stream : ℕ) (took : Taken) (at : ℕ) (brought : Cut) (old new : SourceCore) → Ends took → stream_of h i stream took ≡ at → IsAbreast h i old → HasFinished old at brought new →
    IsGiven h i stream took brought
finished_given h i stream took at brought old new ends is a finished =
    given_by h i stream took old lines over brought a.made_for
    (subst (λ z. Adds old.framer.limit (open_bytes h i z) took lines over) (sym is)
    (end_adds old.framer.limit (open_bytes h i at) took lines over ends (finished.behind (open_bytes h i at) (a.taken at)) (finished.discards (open_bytes h i at) (a.taken at))))
    (subst (λ z. IsOf old.decoding old.source_type old.file (map (line_of z) lines) over brought) (sym is) finished.gave)
  where
    lines : List Frame
    lines = cut_lines old.framer at true []

    over : ℕ
    over = cut_overlong old.framer at true []

-- a stream of which nothing is unended gives nothing at its end
nothing_gave : (old : SourceCore) (at : ℕ) (brought : Cut) (new : SourceCore) → HasTaken old.framer at [] → HasFinished old at brought new → 0 < length brought.events → ⊥
nothing_gave old at brought new none finished some =
    let empty : brought.events ≡ [] = finished.gave.each ∙ ap (λ (fs : List Frame). flat_map (events_of_cut old.decoding old.source_type old.file) (map (line_of at) fs)) (sym (finished.behind [] none)) in
    let zero_long : length brought.events ≡ 0 = ap length empty in
    omega (arith, some, zero_long)

-- at an end what a stream had left is all that it has, or nothing
finished_cut : (h : Record) (i stream : ℕ) (took : Taken) (at : ℕ) (brought : Cut) (old new : SourceCore) → Ends took → all_ended h i ≡ false → stream ≡ at → stream_of h i stream took ≡ at → IsAbreast h i old →
    HasFinished old at brought new → IsCutOf h i stream took brought
finished_cut h i stream took at brought old new ends over of is a finished = record {
  events = given.events;
  of_stream = λ some. of ∙ sym is;
  end = λ some. by_open (contained (ended_streams h i) at) some;
  new = given.new;
}
  where
    given : IsGiven h i stream took brought
    given = finished_given h i stream took at brought old new ends is a finished

    by_open : Contains (ended_streams h i) at ⊎ (Contains (ended_streams h i) at → ⊥) → 0 < length brought.events → brought.end ≡ capped (end_of h i stream took)
    by_open (inl there) some = absurd (nothing_gave old at brought new (subst (λ (w : ByteString). HasTaken old.framer at w) (a.ended at there) (a.taken at)) finished some)
    by_open (inr unended) some = end_open h i stream took brought (subst (λ z. open_bytes h i z ≡ taken h i z) (sym is) (open_whole h i at over unended)) given

-- TURNS
pub same_abreast : (h : Record) (i : ℕ) (old new : SourceCore) → IsSame old new → IsAbreast h i old → IsAbreast h i new
same_abreast h i old new same a = record {
  made_for = made_same (component_of h i) a.made_for;
  last = same.last ∙ a.last;
  taken = λ s. subst (λ (f : Framing). HasTaken f s (open_bytes h i s)) (sym same.framer) (a.taken s);
  ended = a.ended;
}
  where
    made_same : (o : Option Component) → IsSomeAnd o (λ (c : Component). IsMadeFor c.settings old) → IsSomeAnd o (λ (c : Component). IsMadeFor c.settings new)
    made_same None m = m
    made_same (Some c) m = record { limit = ap (λ (f : Framing). f.limit) same.framer ∙ m.limit; source_type = same.source_type ∙ m.source_type; file = same.file ∙ m.file; decoding_is = m.decoding_is ∙ ap Some (sym same.decoding) }

pub fed_turned : (h : Record) (i stream : ℕ) (bytes : ByteString) (cut : Option Cut) (old new : SourceCore) → all_ended h i ≡ false → 0 < length bytes → (Contains (ended_streams h i) stream → ⊥) → IsAbreast h i old →
    IfSome cut (λ brought. HasFed old stream bytes brought new) → HasCut h i new (record { stream = stream; took = taken.Bytes bytes }) cut
fed_turned h i stream bytes None old new over some unended a fed = tt
fed_turned h i stream bytes (Some brought) old new over some unended a fed = (fed_abreast h i stream bytes brought old new some unended a fed, fed_cut h i stream bytes brought old new over unended a fed)

pub finished_turned : (h : Record) (i stream : ℕ) (took : Taken) (cut : Option Cut) (old new : SourceCore) → Ends took → all_ended h i ≡ false → stream_of h i stream took ≡ stream → IsAbreast h i old →
    IfSome cut (λ brought. HasFinished old stream brought new) → HasCut h i new (record { stream = stream; took = took }) cut
finished_turned h i stream took None old new ends over is a finished = tt
finished_turned h i stream took (Some brought) old new ends over is a finished = (
  finished_abreast h i stream took stream brought old new ends is a finished,
  finished_cut h i stream took stream brought old new ends over refl is a finished,
)

-- a turn of a source that may be read
pub has_turned : (h : Record) (i : ℕ) (ended : List ℕ) (old : SourceCore) (turned : Turned) (new : SourceCore) → MayTurnOn h i ended → IsAbreast h i old → BringsSome turned → IsOfOpen ended turned → HasBrought old turned new → HasTurned h i new turned
has_turned h i ended old (Lines stream n room cut) new may a some unended b =
    fed_turned h i stream (take n room.value.items) cut old new may.unended some.0 (subst (λ (streams : List ℕ). Contains streams stream → ⊥) may.observed unended) a b
has_turned h i ended old (StreamEnded stream cut) new may a some unended b = finished_turned h i stream taken.StreamEnded cut old new tt may.unended refl a b
has_turned h i ended old (AllEnded stream cut) new may a some unended b =
    finished_turned h i stream taken.AllEnded cut old new tt may.unended (ap (λ (o : Option ℕ). unwrap_or o 0) (sym a.last) ∙ sym b.0) a b.1
has_turned h i ended old Idle new may a some unended b = same_abreast h i old new b a
has_turned h i ended old (Failed at_start) new may a some unended b = same_abreast h i old new b a

-- and so of each that a turn answers
pub turned_ok : (ended later : List ℕ) (old new : SourceCore) (r : Result Turned WantOfMemory) → later ≡ ended → IfOk r BringsSome → IfOk r (IsOfOpen later) → IfOk r (λ turned. HasBrought old turned new) →
    IfOk r (λ turned. (h : Record) → (i : ℕ) → MayTurnOn h i ended → IsAbreast h i old → HasTurned h i new turned)
turned_ok ended later old new (Ok turned) same some unended b =
    λ h i may a. has_turned h i ended old turned new may a some (subst (λ (streams : List ℕ). IsOfOpen streams turned) same unended) b
turned_ok ended later old new (Err e) same some unended b = tt
