-- What a source reads of one stream until the end of all is the events of all lines of its bytes.
use Rattle.std.proofs.Common.{◌≡◌, ℕ, Bool, false, List, [], ◌∷◌, ◌++◌, refl, sym, ap, ◌∙◌, Option, Some, None}
use Rattle.std.proofs.lemmas.List.{append_assoc}
use Rattle.vx_value.specs.Texts.{ByteString}
use Rattle.vx_value.specs.declared.event.Event.{Event}
use Rattle.vx_frame.specs.Frames.{Frame, frames}
use Rattle.vx_codec.specs.declared.decoding.Decoding.{Decoding}
use Rattle.vx_plan.specs.declared.plan.Plan.{Plan}
use Rattle.vx_plan.specs.declared.component.Component.{Component}
use Rattle.vx_plan.specs.declared.settings.Settings.{Settings}
use Rattle.vx_plan.specs.Components.{longest_line}
use Rattle.vx_plan.specs.Options.{decoding}
use Rattle.vx_record.specs.declared.taken.Taken.{Taken}
use Rattle.vx_record.specs.Records.{Record}
use Rattle.vx_record.specs.Installs.{in_force, component_of}
use Rattle.vx_record.specs.Reads.{all_ended, stream_of, open_bytes, lines_past, new_lines, line_events, decoded, events_of_lines, events_of}
use Rattle.vx_record.specs.Sourcing.{MayTurn}
use Rattle.vx_record.specs.LineBytes.{lines_after}
use Rattle.vx_record.specs.Legal.{IsLegal}
use Rattle.vx_record.proofs.PastLines.{lines-after}
use Rattle.vx_record.proofs.Turning.{turn_undry, unended}
use Rattle.vx_record.proofs.Wired.{component_there}
use Rattle.vx_plain_case.proofs.Plans.{Reads, reads_source}

-- LINES
decoded-append : (d : Decoding) (settings : Settings) (xs ys : List Frame) → decoded d settings (xs ++ ys) ≡ decoded d settings xs ++ decoded d settings ys
decoded-append d settings [] ys = refl
decoded-append d settings (x ∷ xs) ys =
    ap (λ es. line_events d settings x ++ es) (decoded-append d settings xs ys)
    ∙ sym (append_assoc (line_events d settings x) (decoded d settings xs) (decoded d settings ys))

-- the events of lines and of more are those of both
lines-append : (settings : Settings) (xs ys : List Frame) → events_of_lines settings (xs ++ ys) ≡ events_of_lines settings xs ++ events_of_lines settings ys
lines-append settings xs ys = go (decoding settings)
  where
    by : Option Decoding → List Frame → List Event
    by o lines = elim o [ None ↦ [] | Some d ↦ decoded d settings lines ]

    go : (o : Option Decoding) → by o (xs ++ ys) ≡ by o xs ++ by o ys
    go None = refl
    go (Some d) = decoded-append d settings xs ys

-- no line has no event
pub no_lines : (settings : Settings) → events_of_lines settings [] ≡ []
no_lines settings = go (decoding settings)
  where
    go : (o : Option Decoding) → ◌≡◌ {A = List Event} (elim o [ None ↦ [] | Some d ↦ [] ]) []
    go None = refl
    go (Some d) = refl

-- the events of the lines of some bytes, open or ended
abbrev pub lines_of : Settings → ByteString → Bool → List Event
lines_of settings bytes ended = events_of_lines settings (frames bytes (longest_line settings) ended)

-- what a Read adds to the events of some open bytes
pub adds : (settings : Settings) (before : ByteString) (took : Taken) →
    lines_of settings before false ++ events_of_lines settings (lines_past (longest_line settings) before took) ≡ events_of_lines settings (lines_after (longest_line settings) before took)
adds settings before took =
    sym (lines-append settings (frames before (longest_line settings) false) (lines_past (longest_line settings) before took))
    ∙ ap (λ (lines : List Frame). events_of_lines settings lines) (sym (lines-after (longest_line settings) before took))

-- A READ
-- the events of a Read by the component that reads
pub events_by : (plan : Plan) (h : Record) (i s : ℕ) (took : Taken) (reads : Reads plan i) → IsLegal h → in_force h ≡ Some plan →
    events_of h i s took ≡ events_of_lines reads.component.settings (lines_past (longest_line reads.component.settings) (open_bytes h i (stream_of h i s took)) took)
events_by plan h i s took reads legal force =
    ap (λ (o : Option Component). elim o [ None ↦ [] | Some c ↦ events_of_lines c.settings (new_lines h i s took) ]) runs
    ∙ ap (λ (n : ℕ). events_of_lines reads.component.settings (lines_past n (open_bytes h i (stream_of h i s took)) took))
    (ap {B = ℕ} (λ (o : Option Component). elim o [ None ↦ 0 | Some c ↦ longest_line c.settings ]) runs)
  where
    runs : component_of h i ≡ Some reads.component
    runs = component_there h plan i reads.component legal force reads.there

-- a source that takes its turn wasn't told the end of all
pub unended_yet : (plan : Plan) (h : Record) (i : ℕ) → Reads plan i → IsLegal h → in_force h ≡ Some plan → MayTurn h i → all_ended h i ≡ false
unended_yet plan h i reads legal force turn =
    unended _ (all_ended h i) _ _ (reads_source plan h i reads legal force) (turn_undry h i legal turn)
