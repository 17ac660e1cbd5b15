-- The record's lines are those of a framer.
use Rattle.std.proofs.Common.{◌≡◌, ℕ, ◌+◌, ◌≤◌, Bool, true, false, List, [], ◌∷◌, ◌++◌, ◌&&◌, length, map, arith, Option, Some, None, refl, sym, subst, ◌∙◌, ap}
use Rattle.std.specs.Prelude.{filter, IsSomeAnd, flat_map, if◌then◌else◌}
use Rattle.vx_value.specs.Texts.{ByteString}
use Rattle.vx_frame.specs.Frames.{Frame, cut, capped, some_byte, lines_from, fits, frames, discarded, open_line, open_from}
use Rattle.vx_frame.specs.Framings.{line_of}
use Rattle.vx_value.specs.declared.event.Event.{Event}
use Rattle.vx_codec.specs.declared.decoding.Decoding.{Decoding}
use Rattle.vx_plan.specs.declared.component.Component.{Component}
use Rattle.vx_plan.specs.declared.settings.Settings.{Settings}
use Rattle.vx_plan.specs.Components.{longest_line}
use Rattle.vx_plan.specs.Options.{file_read, decoding, type_name}
use Rattle.vx_record.specs.declared.taken.Taken.{Taken}
use Rattle.vx_record.specs.declared.taken.Taken.TheVariants.{Bytes, StreamEnded, AllEnded}
use Rattle.vx_record.specs.Records.{Record}
use Rattle.vx_record.specs.Installs.{component_of}
use Rattle.vx_record.specs.LineBytes.{lines_after, overlong_after}
use Rattle.vx_record.specs.Reads.{stream_of, open_bytes, lines_past, new_lines, limit_of, line_events, decoded, events_of_lines, events_of, last_end as record_end}
use Rattle.vx_sourcecore.specs.declared.source.Cut.{Cut}
use Rattle.vx_sourcecore.specs.declared.source.SourceCore.{SourceCore}
use Rattle.vx_sourcecore.specs.NewLines.{codec_of, AreFramed, AreObserved, AreNew}
use Rattle.vx_sourcecore.specs.Sources.{events_of_cut, last_end, frame_of, IsOf}
use Rattle.vx_sourcecore.specs.Abreast.{IsMadeFor}
use Rattle.vx_sourcecore.proofs.Framed.{framed_lines, observed_new}

-- the lines that some bytes, or the end, add, and how many more are too long
pub record Adds (limit : ℕ) (before : ByteString) (took : Taken) (behind : List Frame) (over : ℕ) : Type 0 where
  pub lines : lines_after limit before took ≡ frames before limit false ++ behind
  pub more : overlong_after limit before took ≡ discarded before limit false + over

-- the ends of lines stand still at the end of their type
abbrev end_fits : List Frame → Type 0
end_fits lines = record_end lines ≤ 18446744073709551615

first_fits : (limit : ℕ) (line : Frame) (lines : List Frame) → line.end ≤ 18446744073709551615 → end_fits (filter (fits limit) lines) → end_fits (filter (fits limit) (line ∷ lines))
first_fits limit line lines first others = by_length (fits limit line) (filter (fits limit) lines) others
  where
    by_length : (b : Bool) (lines : List Frame) → end_fits lines → end_fits (if b then line ∷ lines else lines)
    by_length false lines others = others
    by_length true [] others = first
    by_length true (next ∷ rest) others = others

lines_fit : (limit : ℕ) (ended : Bool) (at : ℕ) (part : List ℕ) (more : List (List ℕ)) → end_fits (filter (fits limit) (lines_from at ended part more))
lines_fit limit ended at part [] = by_end (ended && some_byte part)
  where
    by_end : (b : Bool) → end_fits (filter (fits limit) (if b then record { bytes = part; end = capped (at + length part) } ∷ [] else []))
    by_end true = first_fits limit (record { bytes = part; end = capped (at + length part) }) [] (omega arith) (omega arith)
    by_end false = omega arith
lines_fit limit ended at part (next ∷ more) =
    let end = at + length part + 1 in
    first_fits limit (record { bytes = part; end = capped end }) (lines_from end ended next more) (omega arith) (lines_fit limit ended end next more)

past_fits : (limit : ℕ) (before : ByteString) (took : Taken) → end_fits (lines_past limit before took)
past_fits limit before (Bytes bytes) = lines_fit limit false (open_from before) (cut (open_line before ++ bytes)).first (cut (open_line before ++ bytes)).more
past_fits limit before StreamEnded = lines_fit limit true (open_from before) (cut (open_line before)).first (cut (open_line before)).more
past_fits limit before AllEnded = lines_fit limit true (open_from before) (cut (open_line before)).first (cut (open_line before)).more

-- their events and their end
events_by : (d : Decoding) (settings : Settings) (stream : ℕ) (lines : List Frame) → decoded d settings lines ≡ flat_map (events_of_cut d (type_name settings) (file_read settings)) (map (line_of stream) lines)
events_by d settings stream [] = refl
events_by d settings stream (line ∷ lines) = ap (λ (es : List Event). line_events d settings line ++ es) (events_by d settings stream lines)

end_by : (stream : ℕ) (lines : List Frame) → record_end lines ≡ last_end (map (line_of stream) lines)
end_by stream [] = refl
end_by stream (line ∷ []) = refl
end_by stream (line ∷ next ∷ rest) = end_by stream (next ∷ rest)

still : (n : ℕ) → n ≤ 18446744073709551615 → capped n ≡ n
still n small = omega arith

decoded_by : (d : Decoding) (settings : Settings) (lines : List Frame) → decoding settings ≡ Some d → events_of_lines settings lines ≡ decoded d settings lines
decoded_by d settings lines is = ap (λ (o : Option Decoding). elim o [ None ↦ [] | Some by ↦ decoded by settings lines ]) is

-- lines without their stream are those that were cut
framed_again : (stream : ℕ) (lines : List Frame) → map frame_of (map (line_of stream) lines) ≡ lines
framed_again stream [] = refl
framed_again stream (line ∷ lines) = ap (λ (fs : List Frame). line ∷ fs) (framed_again stream lines)

-- what a record says of the component that there is
observed_some : {X : Type 0} (o : Option Component) (P : Component → Type 0) (none x : X) (f : Component → X) → IsSomeAnd o P → ((c : Component) → P c → x ≡ f c) → x ≡ elim o [ None ↦ none | Some c ↦ f c ]
observed_some None P none x f some is = absurd some
observed_some (Some c) P none x f some is = is c some

-- what was cut is what the record's Read gives, with the end in its stream's bytes since their last end
pub record IsGiven (h : Record) (i stream : ℕ) (took : Taken) (brought : Cut) : Type 0 where
  pub events : brought.events ≡ events_of h i stream took
  pub end : brought.end ≡ capped (record_end (new_lines h i stream took))
  pub new : AreNew h i stream took brought.new

-- the lines that a framer adds are those
pub given_by : (h : Record) (i stream : ℕ) (took : Taken) (core : SourceCore) (behind : List Frame) (over : ℕ) (brought : Cut) → IsSomeAnd (component_of h i) (λ (c : Component). IsMadeFor c.settings core) →
    Adds core.framer.limit (open_bytes h i (stream_of h i stream took)) took behind over → IsOf core.decoding core.source_type core.file (map (line_of (stream_of h i stream took)) behind) over brought →
    IsGiven h i stream took brought
given_by h i stream took core behind over brought made adds are = record {
  events =
      observed_some (component_of h i) (λ c. IsMadeFor c.settings core) [] brought.events (λ c. events_of_lines c.settings lines) made
      (λ c m. are.each ∙ ap (λ (w : ByteString). flat_map (events_of_cut core.decoding w core.file) (map (line_of s) behind)) m.source_type
      ∙ ap (λ (o : Option ByteString). flat_map (events_of_cut core.decoding (type_name c.settings) o) (map (line_of s) behind)) m.file
      ∙ ap (λ (fs : List Frame). flat_map (events_of_cut core.decoding (type_name c.settings) (file_read c.settings)) (map (line_of s) fs)) (sym same)
      ∙ sym (events_by core.decoding c.settings s lines) ∙ sym (decoded_by core.decoding c.settings lines m.decoding_is));
  end =
      are.last ∙ ap (λ (fs : List Frame). last_end (map (line_of s) fs)) (sym same) ∙ sym (end_by s lines)
      ∙ sym (still (record_end lines) (past_fits (limit_of h i) (open_bytes h i s) took));
  new = observed_new h i stream took behind over core.decoding brought.new framed codec (subst (λ (fs : List Frame). AreObserved core.decoding fs over brought.new) (framed_again s behind) are.new);
}
  where
    s : ℕ
    s = stream_of h i stream took

    lines : List Frame
    lines = new_lines h i stream took

    limit : core.framer.limit ≡ limit_of h i
    limit = observed_some (component_of h i) (λ c. IsMadeFor c.settings core) 0 core.framer.limit (λ c. longest_line c.settings) made (λ c m. m.limit)

    codec : codec_of h i ≡ Some core.decoding
    codec = sym (observed_some (component_of h i) (λ c. IsMadeFor c.settings core) None (Some core.decoding) (λ c. decoding c.settings) made (λ c m. sym m.decoding_is))

    added : Adds (limit_of h i) (open_bytes h i s) took behind over
    added = subst (λ n. Adds n (open_bytes h i s) took behind over) limit adds

    framed : AreFramed h i stream took behind over
    framed = record { frames_are = added.lines; discards = added.more }

    same : lines ≡ behind
    same = framed_lines h i stream took behind over framed
