-- The lines that a source's turn completes, and their events.
use Rattle.std.proofs.Common.{◌≡◌, ℕ, suc, ◌+◌, ◌≤◌, Bool, true, false, cond, List, [], ◌∷◌, ◌++◌, length, take, map, leb, eqb, arith, refl, sym, subst, ◌∙◌, ap}
use Rattle.std.specs.Prelude.{◌==◌, if◌then◌else◌, Option, Some, None, is_some, IfSome, Result, Ok, Err, IfOk, flat_map}
use Rattle.std.proofs.lemmas.Bool.Decides.{nat_tests}
use Rattle.std.proofs.lemmas.List.{length-append, flat_map_more}
use Rattle.vx_value.specs.Texts.{ByteString, is_empty}
use Rattle.vx_value.specs.Datum.{NamedDatum}
use Rattle.vx_value.specs.declared.event.Event.{Event}
use Rattle.vx_value.specs.declared.want_of_memory.WantOfMemory.{WantOfMemory}
use Rattle.vx_frame.specs.Frames.{Frame, Parts, cut, capped, some_byte}
use Rattle.vx_frame.specs.Pieces.{kept, lines_of}
use Rattle.vx_frame.specs.Framings.{unfinished, lines_behind, line_of}
use Rattle.vx_frame.specs.declared.unfinished.Unfinished.{Unfinished}
use Rattle.vx_frame.specs.declared.line.Line.{Line}
use Rattle.vx_codec.specs.declared.decoding.Decoding.{Decoding}
use Rattle.vx_json.specs.LineEvents.{line_fields, event_fields}
use Rattle.vx_record.specs.Reads.{event_with}
use Rattle.vx_sourcecore.specs.declared.new_lines.NewLines.{NewLines}
use Rattle.vx_sourcecore.specs.declared.source.Cut.{Cut}
use Rattle.vx_sourcecore.specs.NewLines.{AreObserved, IsObservedOf}
use Rattle.vx_sourcecore.specs.declared.source.SourceCore.{SourceCore}
use Rattle.vx_sourcecore.specs.declared.source.Turned.{Turned}
use Rattle.vx_sourcecore.specs.declared.source.Turned.TheVariants.{Lines, StreamEnded, AllEnded, Idle, Failed}
use Rattle.vx_sourcecore.specs.Turns.{cut_of}
use Rattle.vx_sourcecore.specs.Sources.{events_of_cut, last_end, frame_of, IsOf, HasFed, HasFinished, HasBrought, BringsSome, new_lines as cut_lines, new_overlong as cut_overlong}
use Rattle.vx_sourcecore.proofs.Dues.{map_more}

end_last : (lines : List Line) (line : Line) → last_end (lines ++ line ∷ []) ≡ line.end
end_last [] line = refl
end_last (x ∷ []) line = refl
end_last (x ∷ y ∷ lines) line = end_last (y ∷ lines) line

some_fields : (event : Option Event) → is_some event ≡ is_some (event_fields event)
some_fields None = refl
some_fields (Some event) = refl

-- bytes that are none
pub none_there : (w : ByteString) → (length w == 0) ≡ is_empty w
none_there [] = refl
none_there (b ∷ w) = let some : (length (b ∷ w) == 0) ≡ false = grind (arith, nat_tests) in some

-- how a line more is told
abbrev pub ReportsLine : NewLines → Bool → Bool → NewLines → Type 0
ReportsLine old empty gives new =
    (d : Decoding) (given : List Frame) (frame : Frame) (over : ℕ) → IsObservedOf d frame empty gives → AreObserved d given over old → AreObserved d (given ++ frame ∷ []) over new

-- one line more gives its event more, if it gives one, and its end, and counts once
pub line_step : (d : Decoding) (source_type : ByteString) (file : Option ByteString) (lines : List Line) (line : Line) (event : Option Event) (empty gives : Bool) (old new : Cut) →
    event_fields event ≡ line_fields d source_type file line.bytes → empty ≡ is_empty line.bytes → gives ≡ is_some event → ReportsLine old.new empty gives new.new →
    new.events ≡ old.events ++ event_with (event_fields event) → new.end ≡ line.end → IsOf d source_type file lines 0 old → IsOf d source_type file (lines ++ line ∷ []) 0 new
line_step d source_type file lines line event empty gives old new made bare some reports pushed ends so =
    let f : Line → List Event = events_of_cut d source_type file in
    record {
      each = pushed ∙ ap (λ (o : Option (List NamedDatum)). old.events ++ event_with o) made ∙ ap (λ (es : List Event). es ++ f line) so.each ∙ flat_map_more f [] lines line;
      last = ends ∙ sym (end_last lines line);
      new = subst (λ (fs : List Frame). AreObserved d fs 0 new.new) (sym (map_more frame_of lines line))
          (reports d (map frame_of lines) (frame_of line) 0 (record { empty_is = bare; gives_is = (source_type, (file, some ∙ some_fields event ∙ ap (λ (o : Option (List NamedDatum)). is_some o) made)) }) so.new);
    }

kept_few : (limit : ℕ) (f : Frame) (fs : List Frame) (n : ℕ) → length fs ≤ n → length (kept limit f fs) ≤ n + 1
kept_few limit f fs n l = by_length (leb (length f.bytes) limit)
  where
    by_length : (b : Bool) → length (cond b (f ∷ fs) fs) ≤ n + 1
    by_length true = omega (arith, l)
    by_length false = omega (arith, l)

pub lines_few : (limit : ℕ) (s : ℕ) (h part : List ℕ) (more : List (List ℕ)) → length (lines_of limit false s h part more) ≤ length more
lines_few limit s h part [] = omega arith
lines_few limit s h part (next ∷ more) =
    let rest = kept_few limit (record { bytes = h ++ part; end = capped (s + length part + 1) }) (lines_of limit false (capped (s + length part + 1)) [] next more) (length more) (lines_few limit (capped (s + length part + 1)) [] next more) in omega (arith, rest)

parts_few : (bytes : List ℕ) → length (cut bytes).more ≤ length bytes
parts_few [] = omega arith
parts_few (b ∷ bytes) = by_feed (eqb b 10) (parts_few bytes)
  where
    by_feed : (f : Bool) → length (cut bytes).more ≤ length bytes → length (cond {A = Parts} f (record { first = []; more = (cut bytes).first ∷ (cut bytes).more }) (record { first = b ∷ (cut bytes).first; more = (cut bytes).more })).more ≤ suc (length bytes)
    by_feed true rest = omega (arith, rest)
    by_feed false rest = omega (arith, rest)

map_length : {X Y : Type 0} (f : X → Y) (xs : List X) → length (map f xs) ≡ length xs
map_length f [] = refl
map_length f (x ∷ xs) = ap suc (map_length f xs)

with_few : (o : Option (List NamedDatum)) → length (event_with o) ≤ 1
with_few None = omega arith
with_few (Some fields) = omega arith

-- a line gives one event at most
events_few : (d : Decoding) (source_type : ByteString) (file : Option ByteString) (lines : List Line) → length (flat_map (events_of_cut d source_type file) lines) ≤ length lines
events_few d source_type file [] = omega arith
events_few d source_type file (line ∷ lines) =
    let first = with_few (line_fields d source_type file line.bytes) in
    let rest = events_few d source_type file lines in
    let both = length-append (events_of_cut d source_type file line) (flat_map (events_of_cut d source_type file) lines) in
    omega (arith, first, rest, both)

-- so no more events are cut than there are lines
pub cut_few : (d : Decoding) (source_type : ByteString) (file : Option ByteString) (stream over : ℕ) (frames : List Frame) (brought : Cut) → IsOf d source_type file (map (line_of stream) frames) over brought → length brought.events ≤ length frames
cut_few d source_type file stream over frames brought are =
    let mapped : length (map (line_of stream) frames) ≡ length frames = map_length (line_of stream) frames in
    let few : length brought.events ≤ length (map (line_of stream) frames) = subst (λ (es : List Event). length es ≤ length (map (line_of stream) frames)) (sym are.each) (events_few d source_type file (map (line_of stream) frames)) in
    omega (arith, mapped, few)

-- no more lines end than there are bytes
fed_few : (limit : ℕ) (left : Unfinished) (bytes : List ℕ) → length (lines_behind limit false left bytes) ≤ length bytes
fed_few limit left bytes =
    let some : length (lines_behind limit false left bytes) ≤ length (cut bytes).more = lines_few limit left.seen left.held (cut bytes).first (cut bytes).more in
    omega (arith, some, parts_few bytes)

-- an end ends one line at most
end_few : (limit : ℕ) (left : Unfinished) → length (lines_behind limit true left []) ≤ 1
end_few limit left = by_rest (some_byte (left.held ++ []))
  where
    by_rest : (b : Bool) → length (if b then kept limit (record { bytes = left.held ++ []; end = capped (left.seen + 0) }) [] else []) ≤ 1
    by_rest true = kept_few limit (record { bytes = left.held ++ []; end = capped (left.seen + 0) }) [] 0 (omega arith)
    by_rest false = omega arith

-- so no more than the room holds
few_fed : (old : SourceCore) (stream : ℕ) (bytes : List ℕ) (cut : Option Cut) (new : SourceCore) → length bytes ≤ 65536 → IfSome cut (λ brought. HasFed old stream bytes brought new) →
    IfSome cut (λ brought. length brought.events ≤ 65536)
few_fed old stream bytes None new within fed = tt
few_fed old stream bytes (Some brought) new within fed =
    let few = cut_few old.decoding old.source_type old.file stream (cut_overlong old.framer stream false bytes) (cut_lines old.framer stream false bytes) brought fed.gave in
    let lines = fed_few old.framer.limit (unfinished old.framer stream) bytes in
    omega (arith, few, lines, within)

pub few_finished : (old : SourceCore) (stream : ℕ) (cut : Option Cut) (new : SourceCore) → IfSome cut (λ brought. HasFinished old stream brought new) → IfSome cut (λ brought. length brought.events ≤ 65536)
few_finished old stream None new finished = tt
few_finished old stream (Some brought) new finished =
    let few = cut_few old.decoding old.source_type old.file stream (cut_overlong old.framer stream true []) (cut_lines old.framer stream true []) brought finished.gave in
    let lines = end_few old.framer.limit (unfinished old.framer stream) in
    omega (arith, few, lines)

few_turned : (old : SourceCore) (turned : Turned) (new : SourceCore) → BringsSome turned → HasBrought old turned new → IfSome (cut_of turned) (λ brought. length brought.events ≤ 65536)
few_turned old (Lines stream n room cut) new some b = few_fed old stream (take n room.value.items) cut new some.1 b
few_turned old (StreamEnded stream cut) new some b = few_finished old stream cut new b
few_turned old (AllEnded stream cut) new some b = few_finished old stream cut new b.1
few_turned old Idle new some b = tt
few_turned old (Failed at_start) new some b = tt

pub few_ok : (old new : SourceCore) (r : Result Turned WantOfMemory) → IfOk r BringsSome → IfOk r (λ turned. HasBrought old turned new) →
    IfOk r (λ turned. IfSome (cut_of turned) (λ brought. length brought.events ≤ 65536))
few_ok old new (Ok turned) some b = few_turned old turned new some b
few_ok old new (Err e) some b = tt
