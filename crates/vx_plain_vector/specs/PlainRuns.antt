-- A plain run as the top call tells it: by its clauses, and by what its ports tell.
use Rattle.std.specs.Prelude.{ℕ, ◌≡◌, ◌≢◌, true, List, [], Option, Some, None, IfSome, slice_get}
use Rattle.vx_value.specs.Texts.{ByteString}
use Rattle.vx_value.specs.declared.variable.Variable.{Variable}
use Rattle.vx_ends.specs.Observation.{Observation}
use Rattle.vx_ends.specs.declared.world.Config.{Config}
use Rattle.vx_plan.specs.declared.plan.Plan.{Plan}
use Rattle.vx_plan.specs.Options.{has_device}
use Rattle.vx_record.specs.Records.{Record}
use Rattle.vx_record.specs.Copies.{count}
use Rattle.vx_record.specs.Installs.{in_force}
use Rattle.vx_record.specs.Reads.{taken}
use Rattle.vx_record.specs.Encoding.{encode, given}
use Rattle.vx_record.specs.PortCounts.{fault_count, refusal_count}
use Rattle.vx_record.specs.Legal.{IsLegal, IsClosed}
use Rattle.vx_hub.specs.Remains.{AreNumbered}
use Rattle.vx_hub.specs.declared.parts.Numbered.{Numbered}
use Rattle.vx_run.specs.Answers.{IsReady, IsAnswer}
use Rattle.vx_run.specs.Running.{IsTrueTo, HasInstalled, IsReadOut}
use Rattle.vx_plain_case.specs.Plain.{Chain, NoneBehindEnd, picked, events_in, events_read}

-- what the top call ensures of the record of a run that ended well: it is legal and leaves nothing to do, the input was read out, and
-- what the answer says
pub record HasRunWell (words : List ByteString) (environment : List Variable) (names : List ByteString) (texts : Option (List Config)) (before now : ℕ) (h : Record) : Type 0 where
  pub legal : IsLegal h
  pub complete : IsClosed h
  pub read : IsReadOut h None
  pub answer : IsAnswer words environment names texts before now h None

-- and of its plan and its ports: what they tell, and how they are numbered. There is one for each component of the plan in force
pub record HasObservedWell {P : Type 0} (observe : P → Observation) (words : List ByteString) (environment : List Variable) (texts : Option (List Config)) (h : Record) (ports : List (Numbered P)) : Type 0 where
  pub observed : IsTrueTo observe h ports None
  pub installed : HasInstalled words environment texts h None
  pub numbers : AreNumbered 0 ports

-- the source of a chain took bytes of one stream, none behind its end, and no attempt of the sink failed or was refused
pub record IsSmooth {plan : Plan} (chain : Chain plan) (h : Record) (stream : ℕ) : Type 0 where
  pub one : (other : ℕ) → other ≢ stream → taken h chain.source other ≡ []
  pub unbroken : NoneBehindEnd h chain.source stream
  pub unfailed : fault_count h chain.sink ≡ 0
  pub unrefused : refusal_count h chain.sink ≡ 0

-- the port of an instance, in its place
pub record PortAt {P : Type 0} (ports : List (Numbered P)) (i : ℕ) : Type 0 where
  pub numbered : Numbered P
  pub there : slice_get ports i ≡ Some numbered

-- a port tells that these bytes were taken of one stream and none of another, and no end of that one alone
pub record TookOne (observed : Observation) (stream : ℕ) (bytes : ByteString) : Type 0 where
  pub taken : observed.taken stream ≡ Some bytes
  pub others : (other : ℕ) → other ≢ stream → observed.taken other ≡ Some []
  pub ended : count stream observed.ended ≡ 0

-- it tells that nothing failed and nothing was refused
pub record NothingFailed (observed : Observation) : Type 0 where
  pub faults : observed.faults ≡ 0
  pub refusals : observed.refusals ≡ 0

-- in a run that ended well, of a plan in force with a chain: by the record, what the sink was given is the encoding of what the
-- transforms pass, one after the other, of the events of the lines that the source took
abbrev pub PlainRecord : Type 0
PlainRecord =
    (words : List ByteString) (environment : List Variable) (names : List ByteString) (texts : Option (List Config)) (before now : ℕ) (h : Record) →
    HasRunWell words environment names texts before now h → (plan : Plan) (chain : Chain plan) → in_force h ≡ Some plan → (stream : ℕ) → IsSmooth chain h stream →
    given h chain.sink ≡ encode chain.codec (picked chain.pickers (events_read chain h stream))

-- and where the world tells its texts, and the words ask for a run of that plan: what the sink's port was given, where it tells that,
-- is the encoding of what the transforms pass of the events of the lines of the bytes that the source's port tells
abbrev pub PlainBytes : {P : Type 0} → (P → Observation) → Type 0
PlainBytes {P} observe =
    (words : List ByteString) (environment : List Variable) (names : List ByteString) (configs : List Config) (before now : ℕ) (h : Record) (ports : List (Numbered P)) →
    HasRunWell words environment names (Some configs) before now h → HasObservedWell observe words environment (Some configs) h ports →
    (plan : Plan) (chain : Chain plan) → IsReady words environment (Some configs) plan → has_device chain.reader.settings ≡ true →
    (source : PortAt ports chain.source) (sink : PortAt ports chain.sink) (stream : ℕ) (bytes : ByteString) →
    TookOne (observe source.numbered.port) stream bytes → NothingFailed (observe sink.numbered.port) →
    IfSome (observe sink.numbered.port).given (λ written. written ≡ encode chain.codec (picked chain.pickers (events_in chain bytes)))
