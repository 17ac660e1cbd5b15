-- A chain from a source through transforms that pick to a sink, a plain run of it, and what the sink writes then.
use Rattle.std.specs.Prelude.{ℕ, ◌<◌, ◌≡◌, ◌≢◌, true, false, Some, None, List, [], ◌∷◌, ◌++◌, slice_get}
use Rattle.vx_value.specs.Texts.{ByteString}
use Rattle.vx_value.specs.declared.event.Event.{Event}
use Rattle.vx_frame.specs.Frames.{frames}
use Rattle.vx_codec.specs.declared.codec.Codec.{Codec}
use Rattle.vx_condition.specs.Steps.{Test, passed_after}
use Rattle.vx_plan.specs.declared.plan.Plan.{Plan}
use Rattle.vx_plan.specs.declared.component.Component.{Component}
use Rattle.vx_plan.specs.declared.stage.Stage.{Stage}
use Rattle.vx_plan.specs.declared.when_full.WhenFull.TheVariants.{Block}
use Rattle.vx_plan.specs.Components.{is_source, is_transform, is_sink, stages, longest_line}
use Rattle.vx_plan.specs.Options.{conditions_of, encoding}
use Rattle.vx_plan.specs.Numbers.{reader_numbers}
use Rattle.vx_record.specs.declared.taken.Taken.TheVariants.{Bytes}
use Rattle.vx_record.specs.declared.entry.Entry.TheVariants.{Read}
use Rattle.vx_record.specs.Records.{Record}
use Rattle.vx_record.specs.Copies.{count}
use Rattle.vx_record.specs.Installs.{in_force}
use Rattle.vx_record.specs.Abandoning.{abandoned}
use Rattle.vx_record.specs.Reads.{taken, all_ended, ended_streams, events_of_lines}
use Rattle.vx_record.specs.Encoding.{encode, given}
use Rattle.vx_record.specs.PortCounts.{fault_count, refusal_count}
use Rattle.vx_record.specs.Transforms.{AllMean, rule_of, judges, passing}
use Rattle.vx_record.specs.Legal.{IsLegal, IsClosed}

-- THE CHAIN
-- a transform of the chain: its place in the plan, and whether it passes an event, by those that came before
pub record Picker : Type 0 where
  pub number : ℕ
  pub passes : List Event → Test

-- what some transforms pass of some events, one after the other
abbrev pub picked : List Picker → List Event → List Event
picked [] events = events
picked (picker ∷ rest) events = picked rest (passed_after [] picker.passes events)

-- the places of the components that read a port of the component in a place
abbrev pub readers_of : Plan → ℕ → ℕ → List ℕ
readers_of plan i port = elim (slice_get plan.components i) [ None ↦ [] | Some c ↦ reader_numbers plan c.name port ]

-- a component's first port is read by another alone, which reads nobody else
pub record Feeds (plan : Plan) (i t : ℕ) : Type 0 where
  pub only : readers_of plan i 0 ≡ t ∷ []
  pub alone : (j port : ℕ) → 0 < count t (readers_of plan j port) → j ≡ i

-- the component in that place is a transform that passes just these events, as a filter, a sample or a dedupe does
pub record IsPicker (plan : Plan) (picker : Picker) : Type 0 where
  pub component : Component
  pub there : slice_get plan.components picker.number ≡ Some component
  pub transform : is_transform component ≡ true
  pub tests : List Test
  pub mean : AllMean (conditions_of component.settings) tests
  pub ruled : rule_of component.settings tests ≡ Some (judges (passing picker.passes))

-- from a component a chain leads through these transforms to another component
abbrev pub IsChain : Plan → ℕ → List Picker → ℕ → Type 0
IsChain plan i [] sink = Feeds plan i sink
IsChain plan i (picker ∷ rest) sink = Feeds plan i picker.number × IsPicker plan picker × IsChain plan picker.number rest sink

-- a component's buffer is one stage, which blocks where it is full
pub record BlocksFull (c : Component) : Type 0 where
  pub stage : Stage
  pub one : stages c ≡ stage ∷ []
  pub blocks : stage.when_full ≡ Block

-- a plan with a chain from a source to a sink that writes by a codec
pub record Chain (plan : Plan) : Type 0 where
  pub source : ℕ
  pub pickers : List Picker
  pub sink : ℕ
  pub linked : IsChain plan source pickers sink
  pub reader : Component
  pub reads_there : slice_get plan.components source ≡ Some reader
  pub reads : is_source reader ≡ true
  pub writer : Component
  pub writes_there : slice_get plan.components sink ≡ Some writer
  pub writes : is_sink writer ≡ true
  pub codec : Codec
  pub encodes : encoding writer.settings ≡ Some codec
  pub buffer : BlocksFull writer

-- THE RUN
-- no bytes of a stream came behind an end that was told of it alone
abbrev pub NoneBehindEnd : Record → ℕ → ℕ → Type 0
NoneBehindEnd h i stream =
    (later earlier : Record) (bytes : ByteString) → later ++ Read i stream (Bytes bytes) ∷ earlier ≡ h → 0 < count stream (ended_streams earlier i) → bytes ≡ []

-- so it is where no end was told of it alone
abbrev pub EndlessLaw : Type 0
EndlessLaw = (h : Record) (i stream : ℕ) → count stream (ended_streams h i) ≡ 0 → NoneBehindEnd h i stream

-- a run of the plan that came to its end: nothing is left to do, it wasn't given up, no attempt of the sink failed or was refused,
-- and the source took bytes of one stream, none behind its end, until it was told the end of all. An instance has the place of its
-- component as its number
pub record IsPlainRun {plan : Plan} (chain : Chain plan) (h : Record) (stream : ℕ) : Type 0 where
  pub legal : IsLegal h
  pub installed : in_force h ≡ Some plan
  pub closed : IsClosed h
  pub whole : abandoned h ≡ false
  pub unfailed : fault_count h chain.sink ≡ 0
  pub unrefused : refusal_count h chain.sink ≡ 0
  pub ended : all_ended h chain.source ≡ true
  pub one : (other : ℕ) → other ≢ stream → taken h chain.source other ≡ []
  pub unbroken : NoneBehindEnd h chain.source stream

-- the events of the lines of some bytes that the source of a chain takes: of those within its limit, the last too though no line
-- feed ends it
abbrev pub events_in : {plan : Plan} → Chain plan → ByteString → List Event
events_in chain bytes = events_of_lines chain.reader.settings (frames bytes (longest_line chain.reader.settings) true)

-- the events of the lines that it took
abbrev pub events_read : {plan : Plan} → Chain plan → Record → ℕ → List Event
events_read chain h stream = events_in chain (taken h chain.source stream)

-- THE LAW
-- the sink's bytes are the encoding of what the transforms pass of those events, one after the other
abbrev pub PlainCase : Type 0
PlainCase =
    (plan : Plan) (chain : Chain plan) (h : Record) (stream : ℕ) → IsPlainRun chain h stream →
    given h chain.sink ≡ encode chain.codec (picked chain.pickers (events_read chain h stream))
