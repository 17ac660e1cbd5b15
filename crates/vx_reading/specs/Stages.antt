-- The stages of a sink's buffer.
use Rattle.std.specs.Prelude.{ℕ, Bool, not, Option, Some, None, option_and_then, unwrap_or, List, [], ◌∷◌, map, codes, if◌then◌else◌}
use Rattle.std.specs.List.{sum_by}
use Rattle.vx_value.specs.Texts.{ByteString, same_text}
use Rattle.toml.specs.Data.{Data, get, as_str}
use Rattle.vx_plan.specs.declared.stage.Stage.{Stage}
use Rattle.vx_plan.specs.declared.when_full.WhenFull.{WhenFull}
use Rattle.vx_plan.specs.declared.when_full.WhenFull.TheVariants.{Block, DropNewest, Overflow}
use Rattle.vx_plan.specs.declared.class.Class.TheVariants.{Source, Transform, Sink}
use Rattle.vx_reading.specs.declared.kind.Kind.{Kind}
use Rattle.vx_reading.specs.Components.{Part, kind_of}
use Rattle.vx_reading.specs.Judging.{whole_in, stages_in}
use Rattle.vx_reading.specs.Options.{kind_class, most_capacity}

-- the stages that the table of a sink gives, in order
abbrev pub stages_of : Data → List Data
stages_of value = elim (get (codes "buffer") value) [ None ↦ [] | Some inner ↦ stages_in inner ]

-- the same of a component of a type; one that is no sink gives none
abbrev pub stages_for : Kind → Data → List Data
stages_for kind value = elim (kind_class kind) [ Source ↦ [] | Transform ↦ [] | Sink ↦ stages_of value ]

-- for how many events a stage has room: 500 where it says no number that it may
abbrev pub capacity_at : Data → ℕ
capacity_at stage = unwrap_or (option_and_then (whole_in 1 most_capacity) (get (codes "max_events") stage)) 500

-- what a full stage does: it blocks where it says nothing else that it may
abbrev pub when_full_named : Option ByteString → WhenFull
when_full_named None = Block
when_full_named (Some text) =
    if same_text text (codes "overflow") then Overflow else (if same_text text (codes "drop_newest") then DropNewest else Block)

abbrev pub when_full_of : Data → WhenFull
when_full_of stage = when_full_named (option_and_then as_str (get (codes "when_full") stage))

-- whether a stage stands where it may not, by whether it is the last: one that may stand overflows exactly where another is behind it
abbrev pub is_misplaced : Bool → WhenFull → Bool
is_misplaced last Block = not last
is_misplaced last DropNewest = not last
is_misplaced last Overflow = last

-- a stage
abbrev pub stage_of : Data → Stage
stage_of stage = record { max_events = capacity_at stage; when_full = when_full_of stage }

-- a stage that says nothing
abbrev pub default_stage : Stage
default_stage = record { max_events = 500; when_full = Block }

-- these stages, or where there are none one that says nothing
abbrev pub or_default : List Stage → List Stage
or_default [] = default_stage ∷ []
or_default (stage ∷ rest) = stage ∷ rest

-- the buffer of a sink: one stage that says nothing where its table gives none
abbrev pub buffer_of : Data → List Stage
buffer_of value = or_default (map stage_of (stages_of value))

-- for how many events some stages have room together
abbrev pub capacity_in : List Stage → ℕ
capacity_in stages = sum_by (λ (s : Stage). s.max_events) stages

-- the same of the buffer of a component of a type; only those of sinks count
abbrev pub room_for : Kind → Data → ℕ
room_for kind value = elim (kind_class kind) [ Source ↦ 0 | Transform ↦ 0 | Sink ↦ capacity_in (buffer_of value) ]

abbrev pub room_of : Part → ℕ
room_of part = elim (kind_of part) [ None ↦ 0 | Some kind ↦ room_for kind part.value ]

-- the same of some components
abbrev pub capacity_of_all : List Part → ℕ
capacity_of_all all = sum_by room_of all
