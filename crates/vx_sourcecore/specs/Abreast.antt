-- A source that has come as far as a record has it.
use Rattle.std.specs.Prelude.{◌≡◌, ℕ, ◌<◌, false, Option, Some, None, IsSomeAnd, List, [], ◌∷◌, length, Contains}
use Rattle.vx_frame.specs.Framings.{HasTaken}
use Rattle.vx_plan.specs.declared.component.Component.{Component}
use Rattle.vx_plan.specs.declared.settings.Settings.{Settings}
use Rattle.vx_plan.specs.Components.{longest_line}
use Rattle.vx_plan.specs.Options.{decoding, file_read, type_name}
use Rattle.vx_record.specs.Records.{Record, capped}
use Rattle.vx_record.specs.Installs.{component_of}
use Rattle.vx_record.specs.Reads.{last_stream, open_bytes, ended_streams, events_of, stream_of, end_of, all_ended}
use Rattle.vx_record.specs.declared.entry.Entry.TheVariants.{Read}
use Rattle.vx_record.specs.declared.taken.Taken.{Taken}
use Rattle.vx_sourcecore.specs.NewLines.{AreNew}
use Rattle.vx_sourcecore.specs.declared.source.SourceCore.{SourceCore}
use Rattle.vx_sourcecore.specs.declared.source.Cut.{Cut}
use Rattle.vx_sourcecore.specs.declared.source.Turned.{Turned}
use Rattle.vx_sourcecore.specs.Turns.{Reading, reading_of, cut_of}

-- a source takes the lines of its component, and decodes them by the component's codec, with its type and the file that it reads
pub record IsMadeFor (settings : Settings) (core : SourceCore) : Type 0 where
  pub limit : core.framer.limit ≡ longest_line settings
  pub source_type : core.source_type ≡ type_name settings
  pub file : core.file ≡ file_read settings
  pub decoding_is : decoding settings ≡ Some core.decoding

-- a source is made for the component of its instance; it knows the stream of which bytes came last, and has of each stream the
-- bytes that came since its last end; none came of a stream that has ended
pub record IsAbreast (h : Record) (i : ℕ) (core : SourceCore) : Type 0 where
  pub made_for : IsSomeAnd (component_of h i) (λ (c : Component). IsMadeFor c.settings core)
  pub last : core.last ≡ last_stream h i
  pub taken : (stream : ℕ) → HasTaken core.framer stream (open_bytes h i stream)
  pub ended : (stream : ℕ) → Contains (ended_streams h i) stream → open_bytes h i stream ≡ []

-- what was cut is what the record has a Read complete: its events, the end of its last line where there is an event, and the
-- number of its lines
pub record IsCutOf (h : Record) (i stream : ℕ) (took : Taken) (cut : Cut) : Type 0 where
  pub events : cut.events ≡ events_of h i stream took
  pub of_stream : 0 < length cut.events → stream ≡ stream_of h i stream took
  pub end : 0 < length cut.events → cut.end ≡ capped (end_of h i stream took)
  pub new : AreNew h i stream took cut.new

-- where its lines were cut, a source is abreast of the record with its Read
abbrev pub HasCut : Record → ℕ → SourceCore → Reading → Option Cut → Type 0
HasCut h i core reading None = Unit {0}
HasCut h i core reading (Some cut) = IsAbreast (Read i reading.stream reading.took ∷ h) i core × IsCutOf h i reading.stream reading.took cut

-- a source that took its turn
abbrev pub HasTurnedBy : Record → ℕ → SourceCore → Option Reading → Option Cut → Type 0
HasTurnedBy h i core None cut = IsAbreast h i core
HasTurnedBy h i core (Some reading) cut = HasCut h i core reading cut

abbrev pub HasTurned : Record → ℕ → SourceCore → Turned → Type 0
HasTurned h i core turned = HasTurnedBy h i core (reading_of turned) (cut_of turned)

-- what a turn of a source that was abreast needs: the end of all wasn't told, and the streams that ended are the record's
pub record MayTurnOn (h : Record) (i : ℕ) (ended : List ℕ) : Type 0 where
  pub unended : all_ended h i ≡ false
  pub observed : ended ≡ ended_streams h i
