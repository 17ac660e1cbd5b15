-- What a plan in force says of the instances of a legal record.
use Rattle.std.proofs.Common.{◌≡◌, ℕ, Bool, true, false, List, [], ◌∷◌, Option, Some, None, refl, sym, ap, ◌∙◌}
use Rattle.std.specs.Prelude.{◌⊎◌, if◌then◌else◌, slice_get}
use Rattle.vx_value.specs.declared.event.Event.{Event}
use Rattle.vx_condition.specs.Steps.{Test}
use Rattle.vx_plan.specs.declared.plan.Plan.{Plan}
use Rattle.vx_plan.specs.declared.component.Component.{Component}
use Rattle.vx_plan.specs.declared.class.Class.{Class}
use Rattle.vx_plan.specs.declared.class.Class.TheVariants.{Source, Transform, Sink}
use Rattle.vx_plan.specs.declared.stage.Stage.{Stage}
use Rattle.vx_plan.specs.declared.when_full.WhenFull.TheVariants.{Block}
use Rattle.vx_plan.specs.Components.{is_source, stages, transform_stages, sink_stages}
use Rattle.vx_plan.specs.Numbers.{reader_numbers}
use Rattle.vx_record.specs.Records.{Record}
use Rattle.vx_record.specs.Installs.{Wiring, in_force, once_in, wired, source_at}
use Rattle.vx_record.specs.Routing.{wired_targets}
use Rattle.vx_record.specs.Wirings.{begun}
use Rattle.vx_record.specs.Stages.{stages_of, first_room, room_from, first_filled, filled_from, drops_newest, last_drops}
use Rattle.vx_record.specs.Abandoning.{abandoned}
use Rattle.vx_record.specs.Transforms.{RunsBy, judges, passing}
use Rattle.vx_record.specs.Legal.{IsLegal}
use Rattle.vx_record.proofs.FirstWiring.{targets_of_first}
use Rattle.vx_record.proofs.Wired.{in_force_accepted, wired_so, component_there, begun_legal, unwired_past}
use Rattle.vx_plain_case.specs.Plain.{Picker, IsPicker, BlocksFull, readers_of}

-- a legal record of a run of the plan that wasn't given up
pub record Run (plan : Plan) (h : Record) : Type 0 where
  pub legal : IsLegal h
  pub installed : in_force h ≡ Some plan
  pub whole : abandoned h ≡ false

-- the component in a place is a source
pub record Reads (plan : Plan) (i : ℕ) : Type 0 where
  pub component : Component
  pub there : slice_get plan.components i ≡ Some component
  pub reads : is_source component ≡ true

-- the component in a place is a source, or a transform that picks
abbrev pub Sends : Plan → ℕ → Type 0
Sends plan i = Reads plan i ⊎ ((passes : List Event → Test) × IsPicker plan (record { number = i; passes = passes }))

-- the component in a place has one stage, which blocks
pub record Buffers (plan : Plan) (t : ℕ) : Type 0 where
  pub component : Component
  pub there : slice_get plan.components t ≡ Some component
  pub buffer : BlocksFull component

-- TARGETS
-- an instance's targets are the readers of its component
pub readers_wired : (plan : Plan) (h : Record) (i port : ℕ) → IsLegal h → in_force h ≡ Some plan → wired [] (wired_targets port) h i ≡ readers_of plan i port
readers_wired plan h i port legal force = go (slice_get plan.components i) refl
  where
    targets : Option Wiring → List ℕ
    targets o = elim o [ None ↦ [] | Some w ↦ wired_targets port w ]

    go : (o : Option Component) → slice_get plan.components i ≡ o →
        wired [] (wired_targets port) h i ≡ elim o [ None ↦ [] | Some c ↦ reader_numbers plan c.name port ]
    go None past = ap (λ (o : Option Wiring). elim o [ None ↦ [] | Some w ↦ wired_targets port w ]) (unwired_past h plan i legal force past)
    go (Some c) at =
        ap (λ (o : Option Wiring). elim o [ None ↦ [] | Some w ↦ wired_targets port w ])
        (wired_so h plan i c legal force at
        ∙ sym (wired_so (begun plan (once_in h) 0) plan i c (begun_legal plan (once_in h) 0 (in_force_accepted h plan legal force)) refl at))
        ∙ targets_of_first plan (once_in h) 0 i port c at

-- STAGES
-- a transform has one stage, which blocks
pub transform_buffers : (plan : Plan) (picker : Picker) → IsPicker plan picker → Buffers plan picker.number
transform_buffers plan picker picks = record {
  component = picks.component;
  there = picks.there;
  buffer = record { stage = record { max_events = 100; when_full = Block }; one = go picks.component.class picks.transform; blocks = refl };
}
  where
    go : (class : Class) → elim class [ Source ↦ false | Transform ↦ true | Sink ↦ false ] ≡ true →
        elim class [ Source ↦ [] | Transform ↦ transform_stages | Sink ↦ sink_stages picks.component.settings ] ≡ transform_stages
    go Source is = cc
    go Transform is = refl
    go Sink is = cc

-- an instance has the one stage of its component
one_stage : (plan : Plan) (h : Record) (t : ℕ) (b : Buffers plan t) → IsLegal h → in_force h ≡ Some plan → stages_of h t ≡ b.buffer.stage ∷ []
one_stage plan h t b legal force =
    ap (λ (o : Option Component). elim o [ None ↦ [] | Some c ↦ stages c ]) (component_there h plan t b.component legal force b.there) ∙ b.buffer.one

-- so it drops nothing
pub never_drops : (plan : Plan) (h : Record) (t : ℕ) → Buffers plan t → IsLegal h → in_force h ≡ Some plan → last_drops (stages_of h t) ≡ false
never_drops plan h t b legal force = ap last_drops (one_stage plan h t b legal force) ∙ ap drops_newest b.buffer.blocks

-- a choice between the first and none is the first
only_zero : (b : Bool) (s : ℕ) → (if b then Some 0 else None) ≡ Some s → s ≡ 0
only_zero true s is = cc
only_zero false s is = cc

-- and what enters it enters that stage
pub enters_first : (plan : Plan) (h : Record) (t s : ℕ) → Buffers plan t → IsLegal h → in_force h ≡ Some plan → first_room h t ≡ Some s → s ≡ 0
enters_first plan h t s b legal force room =
    only_zero _ s (sym (ap (λ (stages : List Stage). room_from 0 h t stages) (one_stage plan h t b legal force)) ∙ room)

-- and what is taken stands there
pub taken_first : (plan : Plan) (h : Record) (t s : ℕ) → Buffers plan t → IsLegal h → in_force h ≡ Some plan → first_filled h t ≡ Some s → s ≡ 0
taken_first plan h t s b legal force filled =
    only_zero _ s (sym (ap (λ (stages : List Stage). filled_from 0 h t stages) (one_stage plan h t b legal force)) ∙ filled)

-- RULES
-- a transform that picks runs by its rule
pub runs_by : (plan : Plan) (h : Record) (i : ℕ) (passes : List Event → Test) → IsPicker plan (record { number = i; passes = passes }) → IsLegal h → in_force h ≡ Some plan →
    RunsBy h i (judges (passing passes))
runs_by plan h i passes picks legal force = record {
  component = picks.component;
  runs = component_there h plan i picks.component legal force picks.there;
  transform = picks.transform;
  tests = picks.tests;
  mean = picks.mean;
  ruled = picks.ruled;
}

-- and a source is one
pub reads_source : (plan : Plan) (h : Record) (i : ℕ) → Reads plan i → IsLegal h → in_force h ≡ Some plan → source_at h i ≡ true
reads_source plan h i reads legal force =
    ap (λ (o : Option Component). elim o [ None ↦ false | Some c ↦ is_source c ]) (component_there h plan i reads.component legal force reads.there) ∙ reads.reads
