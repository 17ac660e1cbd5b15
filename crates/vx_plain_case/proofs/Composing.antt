-- The parts of a chain put together: what the sink gave is the encoding of what the transforms pass of what the source read.
use Rattle.std.proofs.Common.{◌≡◌, ℕ, true, List, [], ◌∷◌, ◌++◌, map, inl, inr, sym, ap, ◌∙◌}
use Rattle.vx_value.specs.declared.event.Event.{Event}
use Rattle.vx_condition.specs.Steps.{passed_after}
use Rattle.std.proofs.lemmas.List.{append-nil}
use Rattle.vx_plan.specs.declared.plan.Plan.{Plan}
use Rattle.vx_plan.specs.Components.{is_source}
use Rattle.vx_record.specs.Records.{Record}
use Rattle.vx_record.specs.Places.Place.{Outputs, Waiting, Contents}
use Rattle.vx_record.specs.Parcels.{parcel_event}
use Rattle.vx_record.specs.Installs.{is_retired}
use Rattle.vx_record.specs.Encoding.{encode}
use Rattle.vx_record.specs.Shifts.{at}
use Rattle.vx_record.proofs.Senders.{started_component_or}
use Rattle.vx_plain_case.specs.Plain.{Picker, picked, Feeds, IsChain, PlainCase}
use Rattle.vx_plain_case.proofs.Plans.{Run, Reads, Sends, Buffers, transform_buffers, reads_source}
use Rattle.vx_plain_case.proofs.Flows.{put_events, took_events}
use Rattle.vx_plain_case.proofs.Links.{carried}
use Rattle.vx_plain_case.proofs.Ended.{NoneLive, nothing_at}
use Rattle.vx_plain_case.proofs.Meanings.{picks_passed}
use Rattle.vx_plain_case.proofs.Sinks.{Writes, Unfailed, given_bytes}
use Rattle.vx_plain_case.proofs.Giving.{gave_all}
use Rattle.vx_plain_case.proofs.Births.{created_all}
use Rattle.vx_plain_case.proofs.Streams.{OneStream}
use Rattle.vx_plain_case.proofs.ReadEnds.{read_all}

-- in the end a reader took all that was put out for it
took_all : (plan : Plan) (h : Record) (i t : ℕ) → Sends plan i → Feeds plan i t → Buffers plan t → Run plan h → NoneLive h → took_events h t ≡ put_events h i
took_all plan h i t sends feeds buffers run none =
    sym (carried plan h i t sends feeds buffers run
    ∙ ap (λ (ps : List (List ℕ)). took_events h t ++ (map (parcel_event h) ps ++ (map (parcel_event h) (at h (Waiting i t)) ++ map (parcel_event h) (at h (Outputs i)))))
    (nothing_at h (Contents t 0) run.legal none)
    ∙ ap (λ (ps : List (List ℕ)). took_events h t ++ (map (parcel_event h) ps ++ map (parcel_event h) (at h (Outputs i)))) (nothing_at h (Waiting i t) run.legal none)
    ∙ ap (λ (ps : List (List ℕ)). took_events h t ++ map (parcel_event h) ps) (nothing_at h (Outputs i) run.legal none)
    ∙ append-nil (took_events h t))

-- so the sink took what the transforms pass, one after the other
took_picked : (plan : Plan) (h : Record) (i : ℕ) (pickers : List Picker) (sink : ℕ) → Sends plan i → IsChain plan i pickers sink → Buffers plan sink → Run plan h → NoneLive h →
    took_events h sink ≡ picked pickers (put_events h i)
took_picked plan h i [] sink sends linked buffers run none = took_all plan h i sink sends linked buffers run none
took_picked plan h i (picker ∷ rest) sink sends linked buffers run none =
    took_picked plan h picker.number rest sink (inr (picker.passes, linked.1)) linked.2 buffers run none
    ∙ ap (λ (es : List Event). picked rest es)
    (picks_passed plan h picker.number picker.passes linked.1 run none
    ∙ ap (λ (es : List Event). passed_after [] picker.passes es)
    (took_all plan h i picker.number sends linked.0 (transform_buffers plan picker linked.1) run none))

-- the law
pub plain_case : PlainCase
plain_case plan chain h stream plain =
    given_bytes plan h chain.sink chain.codec writes plain.legal plain.installed unfailed
    ∙ ap (λ (es : List Event). encode chain.codec es)
    (gave_all plan h chain.sink chain.codec writes run unfailed none
    ∙ took_picked plan h chain.source chain.pickers chain.sink (inl reads) chain.linked buffers run none
    ∙ ap (λ (es : List Event). picked chain.pickers es)
    (created_all plan h chain.source reads run retired ∙ read_all plan h chain.source stream reads run one plain.ended))
  where
    run : Run plan h
    run = record { legal = plain.legal; installed = plain.installed; whole = plain.whole }

    reads : Reads plan chain.source
    reads = record { component = chain.reader; there = chain.reads_there; reads = chain.reads }

    writes : Writes plan chain.sink chain.codec
    writes = record { component = chain.writer; there = chain.writes_there; writes = chain.writes; encodes = chain.encodes }

    buffers : Buffers plan chain.sink
    buffers = record { component = chain.writer; there = chain.writes_there; buffer = chain.buffer }

    unfailed : Unfailed h chain.sink
    unfailed = record { faults = plain.unfailed; refusals = plain.unrefused }

    none : NoneLive h
    none = plain.closed.spent

    one : OneStream h chain.source stream
    one = record { one = plain.one; unbroken = plain.unbroken }

    retired : is_retired h chain.source ≡ true
    retired =
        plain.closed.retired chain.source
        (started_component_or h chain.source is_source plain.legal (reads_source plan h chain.source reads plain.legal plain.installed))
