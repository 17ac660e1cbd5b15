-- What the clauses of the top call come to in a plain run.
use Rattle.std.proofs.Common.{◌≡◌, ℕ, zero, suc, ◌+◌, ◌≤◌, true, false, List, [], ◌∷◌, Option, Some, None, Ok, inl, inr, refl, sym, ap, subst, ◌∙◌, arith}
use Rattle.std.specs.Prelude.{Bool, IfSome, if◌then◌else◌, slice_get}
use Rattle.vx_value.specs.Texts.{ByteString}
use Rattle.vx_value.specs.declared.variable.Variable.{Variable}
use Rattle.vx_ends.specs.Observation.{Observation}
use Rattle.vx_ends.specs.Texts.{text_at}
use Rattle.vx_ends.specs.declared.world.Config.{Config}
use Rattle.vx_reading.specs.Reading.{IsReading}
use Rattle.vx_cli.specs.Commands.{IsCommand, has_once, has_stats}
use Rattle.vx_cli.specs.declared.command.Command.{Command}
use Rattle.vx_cli.specs.declared.command.Command.TheVariants.{Run, Validate}
use Rattle.vx_run.specs.Running.{HasInstalled}
use Rattle.vx_record.proofs.Rules.{some_is}
use Rattle.vx_plan.specs.declared.plan.Plan.{Plan}
use Rattle.vx_plan.specs.declared.component.Component.{Component}
use Rattle.vx_plan.specs.Components.{is_source}
use Rattle.vx_plan.specs.Options.{has_device}
use Rattle.vx_record.specs.Records.{Record, capped}
use Rattle.vx_record.specs.Copies.{count}
use Rattle.vx_record.specs.Installs.{in_force, component_of, device_at, source_at}
use Rattle.vx_record.specs.PortCounts.{fault_count, refusal_count}
use Rattle.vx_record.specs.Reads.{taken}
use Rattle.vx_record.specs.Encoding.{given, encode}
use Rattle.vx_record.proofs.Ceasing.{unabandoned}
use Rattle.vx_record.proofs.Wired.{component_there}
use Rattle.vx_tasks.specs.Observing.{IsObserved}
use Rattle.vx_hub.specs.Remains.{AreNumbered, AreObserved}
use Rattle.vx_hub.specs.declared.parts.Numbered.{Numbered}
use Rattle.vx_plain_case.specs.Plain.{IsPlainRun, picked, events_in}
use Rattle.vx_plain_case.proofs.Streams.{endless_unbroken}
use Rattle.vx_plain_case.proofs.Composing.{plain_case}
use Rattle.vx_run.specs.Answers.{IsReady}
use Rattle.vx_plain_vector.specs.PlainRuns.{IsSmooth, PlainRecord, PlainBytes}

-- the port in a place is that of the instance with that number, and tells what the record has of it
observed_at : {P : Type 0} (observe : P → Observation) (h : Record) (k : ℕ) (ports : List (Numbered P)) (i : ℕ) (n : Numbered P) → AreObserved observe h ports → AreNumbered k ports →
    slice_get ports i ≡ Some n → IsObserved (observe n.port) h (k + i)
observed_at observe h k [] i n observed numbers there = cc
observed_at observe h k (m ∷ ports) zero n observed numbers there =
    let same : m ≡ n = cc in
    let number : n.instance ≡ k + 0 = ap (λ (x : Numbered _). x.instance) (sym same) ∙ numbers.0 ∙ omega arith in
    subst (λ (j : ℕ). IsObserved (observe n.port) h j) number (subst (λ (x : Numbered _). IsObserved (observe x.port) h x.instance) same observed.0)
observed_at observe h k (m ∷ ports) (suc i) n observed numbers there =
    let further : k + 1 + i ≡ k + suc i = omega arith in
    subst (λ (j : ℕ). IsObserved (observe n.port) h j) further (observed_at observe h (k + 1) ports i n observed.1 numbers.1 there)

-- where a port counted none the record has none
none_counted : (count observed : ℕ) → observed ≡ 0 → capped count ≤ observed → count ≡ 0
none_counted count observed none few = omega (arith, none, few)

-- words are one command
abbrev pub OneCommand : Type 0
OneCommand = (words : List ByteString) (a b : Command) → IsCommand words a → IsCommand words b → a ≡ b

-- a text stands for one plan
abbrev pub OnePlan : Type 0
OnePlan = (environment : List Variable) (bytes : ByteString) (p q : Plan) → IsReading environment bytes (Ok p) → IsReading environment bytes (Ok q) → p ≡ q

-- so the plan in force is the one that was asked for
in_force_asked : (words : List ByteString) (environment : List Variable) (configs : List Config) (h : Record) (plan : Plan) → OneCommand → OnePlan →
    IsReady words environment (Some configs) plan → HasInstalled words environment (Some configs) h None → in_force h ≡ Some plan
in_force_asked words environment configs h plan one_command one_plan asks (inl installed) =
    let ready = installed.ready in
    let same_run : Run ready.file (has_once words) (has_stats words) ≡ Run asks.file (has_once words) (has_stats words) =
    one_command words (Run ready.file (has_once words) (has_stats words)) (Run asks.file (has_once words) (has_stats words)) (ready.asked, (refl, refl)) (asks.asked, (refl, refl)) in
    let same_file : ready.file ≡ asks.file = cc in
    let text : text_at configs asks.file ≡ Some ready.stands.bytes = subst (λ (file : ByteString). text_at configs file ≡ Some ready.stands.bytes) same_file ready.stands.text in
    let same_bytes : ready.stands.bytes ≡ asks.stands.bytes = some_is ready.stands.bytes asks.stands.bytes (sym text ∙ asks.stands.text) in
    let same_plan : installed.plan ≡ plan =
    one_plan environment asks.stands.bytes installed.plan plan (subst (λ (w : ByteString). IsReading environment w (Ok installed.plan)) same_bytes ready.stands.read) asks.stands.read in
    installed.began.installed ∙ ap (λ (p : Plan). Some p) same_plan
in_force_asked words environment configs h plan one_command one_plan asks (inr judged) =
    let no : Validate judged.valid.file ≡ Run asks.file (has_once words) (has_stats words) =
    one_command words (Validate judged.valid.file) (Run asks.file (has_once words) (has_stats words)) judged.valid.asked (asks.asked, (refl, refl)) in
    cc

-- the law by the clauses of the top call, of the record
pub plain_record : PlainRecord
plain_record words environment names texts before now h well plan chain force stream smooth = plain_case plan chain h stream plain
  where
    runs : component_of h chain.source ≡ Some chain.reader
    runs = component_there h plan chain.source chain.reader well.legal force chain.reads_there

    is_one : source_at h chain.source ≡ true
    is_one = ap (λ (o : Option Component). elim o [ None ↦ false | Some c ↦ is_source c ]) runs ∙ chain.reads

    plain : IsPlainRun chain h stream
    plain = record {
      legal = well.legal;
      installed = force;
      closed = well.complete;
      whole = unabandoned h well.answer.0;
      unfailed = smooth.unfailed;
      unrefused = smooth.unrefused;
      ended = well.read chain.source is_one;
      one = smooth.one;
      unbroken = smooth.unbroken;
    }

-- and of what the ports tell
pub plain_bytes : {P : Type 0} (observe : P → Observation) → OneCommand → OnePlan → PlainBytes observe
plain_bytes observe one_command one_plan words environment names configs before now h ports well ports_well plan chain asks device source sink stream bytes took none =
    go (observe sink.numbered.port).given sink_observed.given
  where
    force : in_force h ≡ Some plan
    force = in_force_asked words environment configs h plan one_command one_plan asks ports_well.installed

    all : AreObserved observe h ports
    all = ports_well.observed.whole (λ same. cc)

    source_observed : IsObserved (observe source.numbered.port) h chain.source
    source_observed =
        subst (λ (j : ℕ). IsObserved (observe source.numbered.port) h j) (omega arith)
        (observed_at observe h 0 ports chain.source source.numbered all ports_well.numbers source.there)

    sink_observed : IsObserved (observe sink.numbered.port) h chain.sink
    sink_observed =
        subst (λ (j : ℕ). IsObserved (observe sink.numbered.port) h j) (omega arith)
        (observed_at observe h 0 ports chain.sink sink.numbered all ports_well.numbers sink.there)

    with_port : device_at h chain.source ≡ true
    with_port =
        ap (λ (o : Option Component). elim o [ None ↦ false | Some c ↦ has_device c.settings ])
        (component_there h plan chain.source chain.reader well.legal force chain.reads_there)
        ∙ device

    taken_is : (s : ℕ) (w : ByteString) → (observe source.numbered.port).taken s ≡ Some w → taken h chain.source s ≡ w
    taken_is s w is =
        sym (subst (λ (o : Option ByteString). IfSome o (λ bytes. bytes ≡ (if device_at h chain.source then taken h chain.source s else []))) is (source_observed.taken s)
        ∙ ap (λ (b : Bool). if b then taken h chain.source s else []) with_port)

    smooth : IsSmooth chain h stream
    smooth = record {
      one = λ other apart. taken_is other [] (took.others other apart);
      unbroken = endless_unbroken h chain.source stream (ap (count stream) (sym source_observed.ended) ∙ took.ended);
      unfailed = none_counted (fault_count h chain.sink) (observe sink.numbered.port).faults none.faults sink_observed.faults.least;
      unrefused = none_counted (refusal_count h chain.sink) (observe sink.numbered.port).refusals none.refusals sink_observed.refusals.least;
    }

    law : given h chain.sink ≡ encode chain.codec (picked chain.pickers (events_in chain bytes))
    law =
        plain_record words environment names (Some configs) before now h well plan chain force stream smooth
        ∙ ap (λ (w : ByteString). encode chain.codec (picked chain.pickers (events_in chain w))) (taken_is stream bytes took.taken)

    go : (o : Option ByteString) → IfSome o (λ written. written ≡ given h chain.sink) → IfSome o (λ written. written ≡ encode chain.codec (picked chain.pickers (events_in chain bytes)))
    go None is = tt
    go (Some written) is = is ∙ law
