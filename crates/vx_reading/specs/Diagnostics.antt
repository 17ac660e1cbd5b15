-- Every fault of a document, and which is the first.
use Rattle.std.specs.Prelude.{◌≡◌, ℕ, Bool, false, not, ◌&&◌, ◌||◌, ◌==◌, Option, Some, None, List, [], ◌∷◌, ◌++◌, All, Contains, length, codes, if◌then◌else◌, nat_lt, filter}
use Rattle.std.specs.List.{flat_map}
use Rattle.vx_value.specs.Texts.{ByteString, same_text, is_empty, text_lt}
use Rattle.toml.specs.Data.{Data, as_str}
use Rattle.vx_plan.specs.declared.class.Class.{Class}
use Rattle.vx_plan.specs.declared.class.Class.TheVariants.{Source, Transform, Sink}
use Rattle.vx_reading.specs.declared.kind.Kind.{Kind}
use Rattle.vx_reading.specs.declared.diagnostic.Diagnostic.{Diagnostic}
use Rattle.vx_reading.specs.declared.plan_fault.PlanFault.{PlanFault}
use Rattle.vx_reading.specs.declared.plan_fault.PlanFault.TheVariants as faults
use Rattle.vx_reading.specs.declared.trouble.Trouble.{Trouble}
use Rattle.vx_reading.specs.declared.trouble.Trouble.TheVariants.{UnknownKind, UnknownOption, MissingOption, BadValue, TooMany}
use Rattle.vx_reading.specs.Components.{Part, section_name, section, parts, part_path, is_name, is_taken, type_in, first_stdin, is_later_stdin}
use Rattle.vx_reading.specs.Judging.{Pair, pairs_in, is_table, Given, given, is_given, count_given, bad_unless, too_many, judged}
use Rattle.vx_reading.specs.Options.{Place, Alone, Row, Exclusion, exclusion_of, dot, place_path, most_at, global_rows, rows_of, stage_rows, most_capacity, kind_named}
use Rattle.vx_reading.specs.Stages.{stages_for, when_full_of, is_misplaced, capacity_of_all}

-- the part of a document to which a fault belongs: 0 for the global options, 1 to 3 for the three tables, and a component's name
pub record Owner : Type 0 where
  pub section : ℕ
  pub name : ByteString

abbrev pub section_number : Class → ℕ
section_number Source = 1
section_number Transform = 2
section_number Sink = 3

abbrev pub global_owner : Owner
global_owner = record { section = 0; name = [] }

abbrev pub owner_in : Class → ByteString → Owner
owner_in class name = record { section = section_number class; name = name }

abbrev pub owner_of : Part → Owner
owner_of part = owner_in part.class part.name

-- something that is wrong at a path
abbrev pub found : Owner → ByteString → Trouble → Diagnostic
found owner path trouble = record { section = owner.section; name = owner.name; path = path; trouble = trouble }

-- something at a path, if it is wrong
abbrev pub found_if : Owner → ByteString → Option Trouble → List Diagnostic
found_if owner path None = []
found_if owner path (Some trouble) = found owner path trouble ∷ []

-- the same at the path of an option, which begins with what leads to its table
abbrev pub at_option : Owner → ByteString → Place → Option Trouble → List Diagnostic
at_option owner lead place trouble = found_if owner (lead ++ place_path place) trouble

-- the faults of what a table gives
abbrev pub given_diagnostics : Owner → ByteString → List Row → List Given → List Diagnostic
given_diagnostics owner lead rows all = flat_map (λ (g : Given). at_option owner lead g.place (judged rows g)) all

-- what is wrong with an option that has to be there and isn't
abbrev pub lacking : List Given → Row → Option Trouble
lacking all row = if row.required && not (is_given row.place all) then Some MissingOption else None

-- what is wrong with an option that is given more often than it may be
abbrev pub crowded : List Given → Row → Option Trouble
crowded all row = elim (most_at row.place) [ None ↦ None | Some most ↦ too_many (count_given row.place all) most ]

-- the faults of how often an option is given
abbrev pub row_diagnostics : Owner → ByteString → List Given → Row → List Diagnostic
row_diagnostics owner lead all row = at_option owner lead row.place (lacking all row) ++ at_option owner lead row.place (crowded all row)

-- the faults of a table's options
abbrev pub option_diagnostics : Owner → ByteString → List Row → List Given → List Diagnostic
option_diagnostics owner lead rows all = given_diagnostics owner lead rows all ++ flat_map (row_diagnostics owner lead all) rows

-- what is wrong with the later one of two options that exclude each other, where both are given
abbrev pub excluded : List Given → Exclusion → Option Trouble
excluded all x = bad_unless (not (is_given x.earlier all && is_given x.later all))

-- whether a name is that of one of the three tables
abbrev pub is_section : ByteString → Bool
is_section name =
    (same_text name (section_name Source) || same_text name (section_name Transform)) || same_text name (section_name Sink)

-- the global options
abbrev pub global_given : Data → List Given
global_given root = given global_rows (filter (λ (p : Pair). not (is_section p.name)) (pairs_in root))

-- a fault at the table of a class
abbrev pub at_table : ℕ → Class → Option Trouble → List Diagnostic
at_table number class trouble = found_if (record { section = number; name = [] }) (section_name class) trouble

-- the fault of one of the three that is no table
abbrev pub section_diagnostics : Data → Class → List Diagnostic
section_diagnostics root class =
    elim (section root class) [ None ↦ [] | Some value ↦ at_table (section_number class) class (bad_unless (is_table value)) ]

-- the fault of a component itself: it is no table, its name is malformed, or an earlier table has it
abbrev pub part_diagnostic : Data → Part → List Diagnostic
part_diagnostic root part =
    found_if (owner_of part) (part_path part) (bad_unless (is_table part.value && (is_name part.name && not (is_taken root part.class part.name))))

-- the path of a component's type
abbrev pub type_path : Part → ByteString
type_path part = part_path part ++ dot ∷ codes "type"

-- a fault there
abbrev pub at_type : Part → Option Trouble → List Diagnostic
at_type part trouble = found_if (owner_of part) (type_path part) trouble

-- the fault of a component that reads standard input after another that does
abbrev pub later_diagnostics : Option ByteString → Part → List Diagnostic
later_diagnostics first part = at_type part (bad_unless (not (is_later_stdin first part)))

-- what leads to the options of a component, and to those of a stage of its buffer
abbrev pub part_lead : Part → ByteString
part_lead part = part_path part ++ dot ∷ []

abbrev pub buffer_lead : Part → ByteString
buffer_lead part = part_lead part ++ codes "buffer."

-- what is wrong with the place of a stage, by whether it is the last
abbrev pub misplaced : Bool → Data → Option Trouble
misplaced last stage = bad_unless (not (is_misplaced last (when_full_of stage)))

-- the faults of a stage
abbrev pub stage_diagnostics : Owner → ByteString → Bool → Data → List Diagnostic
stage_diagnostics owner lead last stage =
    option_diagnostics owner lead stage_rows (given stage_rows (pairs_in stage)) ++ at_option owner lead (Alone (codes "when_full")) (misplaced last stage)

-- the faults of the stages of a buffer, in order
abbrev pub buffer_diagnostics : Owner → ByteString → List Data → List Diagnostic
buffer_diagnostics owner lead [] = []
buffer_diagnostics owner lead (stage ∷ rest) = stage_diagnostics owner lead (is_empty rest) stage ++ buffer_diagnostics owner lead rest

-- the faults of the options of a component of a type
abbrev pub own_diagnostics : Part → Kind → List Given → List Diagnostic
own_diagnostics part kind all =
    option_diagnostics (owner_of part) (part_lead part) (rows_of kind) all
    ++ elim (exclusion_of kind) [ None ↦ [] | Some x ↦ at_option (owner_of part) (part_lead part) x.later (excluded all x) ]

-- the faults of a component whose type is known
abbrev pub kind_diagnostics : Option ByteString → Part → Kind → List Diagnostic
kind_diagnostics first part kind =
    later_diagnostics first part
    ++ (own_diagnostics part kind (given (rows_of kind) (pairs_in part.value))
    ++ buffer_diagnostics (owner_of part) (buffer_lead part) (stages_for kind part.value))

-- the same by what its type is called
abbrev pub named_diagnostics : Option ByteString → Part → Option Kind → List Diagnostic
named_diagnostics first part None = at_type part (Some UnknownKind)
named_diagnostics first part (Some kind) = kind_diagnostics first part kind

-- the same by its type, which has to be a text
abbrev pub text_diagnostics : Option ByteString → Part → Option ByteString → List Diagnostic
text_diagnostics first part None = at_type part (Some BadValue)
text_diagnostics first part (Some text) = named_diagnostics first part (kind_named part.class text)

-- the same by its type, which has to be there
abbrev pub type_diagnostics : Option ByteString → Part → Option Data → List Diagnostic
type_diagnostics first part None = at_type part (Some MissingOption)
type_diagnostics first part (Some value) = text_diagnostics first part (as_str value)

-- the faults of a component; one that is no table has no options
abbrev pub part_diagnostics : Data → Option ByteString → Part → List Diagnostic
part_diagnostics root first part =
    part_diagnostic root part ++ (if is_table part.value then type_diagnostics first part (type_in part.value) else [])

-- the limit of components
abbrev pub most_parts : ℕ
most_parts = 256

-- the fault of too many components
abbrev pub count_diagnostics : Data → List Diagnostic
count_diagnostics root = at_table 0 Source (too_many (length (parts root)) most_parts)

-- the fault of stages of sinks that have too much room together
abbrev pub capacity_diagnostics : Data → List Diagnostic
capacity_diagnostics root = at_table (section_number Sink) Sink (too_many (capacity_of_all (parts root)) most_capacity)

-- the faults of the global options
abbrev pub global_diagnostics : Data → List Diagnostic
global_diagnostics root = option_diagnostics global_owner [] global_rows (global_given root)

-- the faults of the three tables themselves
abbrev pub all_section_diagnostics : Data → List Diagnostic
all_section_diagnostics root = section_diagnostics root Source ++ (section_diagnostics root Transform ++ section_diagnostics root Sink)

-- every fault of a document
abbrev pub diagnostics : Data → List Diagnostic
diagnostics root =
    global_diagnostics root ++ (count_diagnostics root ++ (capacity_diagnostics root
    ++ (all_section_diagnostics root ++ flat_map (part_diagnostics root (first_stdin root)) (parts root))))

-- the place of a trouble among the kinds
abbrev pub rank : Trouble → ℕ
rank UnknownKind = 0
rank UnknownOption = 1
rank MissingOption = 2
rank BadValue = 3
rank (TooMany count most) = 4

-- whether a fault is tried before another: by kind, then by table, then by the component's name, then by path
abbrev pub precedes : Diagnostic → Diagnostic → Bool
precedes f g =
    nat_lt (rank f.trouble) (rank g.trouble)
    || ((rank f.trouble == rank g.trouble)
    && (nat_lt f.section g.section
    || ((f.section == g.section)
    && (text_lt f.name g.name || (same_text f.name g.name && text_lt f.path g.path)))))

-- one of some faults, before which none of them is tried
pub record IsFirst (all : List Diagnostic) (diagnostic : Diagnostic) : Type 0 where
  pub among : Contains all diagnostic
  pub first : All (λ g. precedes g diagnostic ≡ false) all

-- two faults are of one kind, in one part, and at one path
pub record AreAlike (f g : Diagnostic) : Type 0 where
  pub kind : rank f.trouble ≡ rank g.trouble
  pub section : f.section ≡ g.section
  pub name : f.name ≡ g.name
  pub path : f.path ≡ g.path

-- what is answered of a trouble at a path
abbrev pub fault_at : ByteString → Trouble → PlanFault
fault_at path UnknownKind = faults.UnknownKind path
fault_at path UnknownOption = faults.UnknownOption path
fault_at path MissingOption = faults.MissingOption path
fault_at path BadValue = faults.BadValue path
fault_at path (TooMany count most) = faults.TooMany path count most

-- what is answered of the first of some faults
pub record HasFault (all : List Diagnostic) (fault : PlanFault) : Type 0 where
  pub diagnostic : Diagnostic
  pub first : IsFirst all diagnostic
  pub same : fault ≡ fault_at diagnostic.path diagnostic.trouble
