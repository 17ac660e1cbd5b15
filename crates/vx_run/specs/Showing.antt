-- What is shown on standard output: of a configuration that was judged, and of what a run counted.
use Rattle.std.specs.Prelude.{◌≡◌, ◌⊎◌, ℕ, ◌+◌, Bool, true, false, List, [], ◌∷◌, ◌++◌, ◌&&◌, length, Option, Some, None, codes, if◌then◌else◌}
use Rattle.std.specs.Fmt.{decimal}
use Rattle.std.specs.List.{flat_map}
use Rattle.vx_value.specs.Texts.{ByteString}
use Rattle.vx_value.specs.declared.variable.Variable.{Variable}
use Rattle.vx_ends.specs.Observation.{Grows, Rose}
use Rattle.vx_ends.specs.declared.world.Config.{Config}
use Rattle.vx_plan.specs.declared.class.Class.{Class}
use Rattle.vx_plan.specs.declared.class.Class.TheVariants.{Source, Transform, Sink}
use Rattle.vx_plan.specs.declared.component.Component.{Component}
use Rattle.vx_plan.specs.declared.plan.Plan.{Plan}
use Rattle.vx_record.specs.Records.{Record}
use Rattle.vx_record.specs.Copies.{counting}
use Rattle.vx_record.specs.Installs.{started, component_of}
use Rattle.vx_record.specs.Tallies.{tally}
use Rattle.vx_cli.specs.Commands.{IsRun}
use Rattle.vx_cli.specs.Summaries.{summary_line}
use Rattle.vx_cli.specs.declared.fault.Fault.{Fault}
use Rattle.vx_cli.specs.declared.fault.Fault.TheVariants.{Usage, ConfigRead, ConfigRefused, UnknownHost, PrintFailed, WantOfMemory}
use Rattle.vx_run.specs.Answers.{AsksRun, AsksStats, IsPlanAt, IsValid, IsUnready}

-- whether two classes are the same
abbrev pub same_class : Class → Class → Bool
same_class Source Source = true
same_class Transform Transform = true
same_class Sink Sink = true
same_class _ _ = false

-- how many components are of a class
abbrev pub count_of : Class → List Component → ℕ
count_of class [] = 0
count_of class (c ∷ rest) = count_of class rest + (if same_class c.class class then 1 else 0)

-- what is printed of a configuration that stands for a plan
abbrev pub valid_text : Plan → ByteString
valid_text plan =
    codes "valid: " ++ (decimal (count_of Source plan.components) ++ (codes " sources, " ++ (decimal (count_of Transform plan.components)
    ++ (codes " transforms, " ++ (decimal (count_of Sink plan.components) ++ codes " sinks\n")))))

-- a file stands for a plan, whose text was printed
pub record IsPlanShown (environment : List Variable) (texts : Option (List Config)) (file : ByteString) (old new : Option ByteString) (before now : ℕ) : Type 0 where
  pub plan : Plan
  pub stands : IsPlanAt environment texts file plan
  pub observed : Grows old new (valid_text plan)
  pub kept : now ≡ before

-- or whose text couldn't be
pub record IsPlanUnshown (environment : List Variable) (texts : Option (List Config)) (file : ByteString) (old new : Option ByteString) (before now : ℕ) : Type 0 where
  pub plan : Plan
  pub stands : IsPlanAt environment texts file plan
  pub same : new ≡ old
  pub rose : Rose before now

-- what it says where a file was judged: its plan is shown, or couldn't be, or there is none
abbrev pub IsJudgedSo : List Variable → Option (List Config) → ByteString → ℕ → ℕ → Type 0 → Option ByteString → Option ByteString → ℕ → ℕ → Option Fault → Type 0
IsJudgedSo environment texts file was is same old new before now None = IsPlanShown environment texts file old new before now
IsJudgedSo environment texts file was is same old new before now (Some PrintFailed) = IsPlanUnshown environment texts file old new before now
IsJudgedSo environment texts file was is same old new before now (Some fault) = IsUnready environment texts file was is fault × same

-- the line of what an instance counted
abbrev pub line_of : Record → ℕ → ByteString
line_of h i = elim (component_of h i) [ None ↦ [] | Some c ↦ summary_line c.class c.name (tally h i) ]

-- the lines of the first so many instances, in order
abbrev pub lines_of : Record → ℕ → ByteString
lines_of h count = flat_map (line_of h) (counting 0 count)

-- those of all
abbrev pub summary_of : Record → ByteString
summary_of h = lines_of h (length (started h))

-- whether something is to be printed of what a run counted that ends with this fault, or with none: it began, and memory sufficed
abbrev pub is_summed : Option Fault → Bool
is_summed (Some Usage) = false
is_summed (Some (ConfigRead path)) = false
is_summed (Some (ConfigRefused fault)) = false
is_summed (Some (UnknownHost name)) = false
is_summed (Some WantOfMemory) = false
is_summed fault = true

-- what is to be printed of what the instances counted, where it is asked for
abbrev pub summary_for : Bool → Record → Option Fault → Option ByteString
summary_for stats h fault = if stats && is_summed fault then Some (summary_of h) else None

-- whether a fault comes before a run begins
abbrev pub is_unready : Option Fault → Bool
is_unready (Some Usage) = true
is_unready (Some (ConfigRead path)) = true
is_unready (Some (ConfigRefused fault)) = true
is_unready (Some (UnknownHost name)) = true
is_unready fault = false

-- so by the words: there is nothing where nothing is to be printed, and else what the instances of a run that began counted
abbrev pub IsSummary : List ByteString → Record → Option Fault → Option ByteString → Type 0
IsSummary words h fault None = AsksStats words → is_summed fault ≡ false
IsSummary words h fault (Some text) = AsksStats words × ((text ≡ summary_of h) × (is_unready fault ≡ false))

-- a text was printed, and no print failed
abbrev pub HasPrinted : Option ByteString → Option ByteString → ℕ → ℕ → ByteString → Type 0
HasPrinted old new before now text = Grows old new text × (now ≡ before)

-- a print failed, and nothing was printed
abbrev pub IsUnprinted : Option ByteString → Option ByteString → ℕ → ℕ → Type 0
IsUnprinted old new before now = (new ≡ old) × Rose before now

-- what there was to print of the counts was printed behind a run that ended with a fault or with none, or the print failed, which is the
-- fault where there was none
abbrev pub IsFollowed : Type 0 → Option ByteString → Option ByteString → ℕ → ℕ → Option ByteString → Option Fault → Option Fault → Type 0
IsFollowed same old new before now None was fault = (fault ≡ was) × same
IsFollowed same old new before now (Some text) None fault =
    ((fault ≡ None) × HasPrinted old new before now text) ⊎ ((fault ≡ Some PrintFailed) × IsUnprinted old new before now)
IsFollowed same old new before now (Some text) (Some WantOfMemory) fault = (fault ≡ Some WantOfMemory) × same
IsFollowed same old new before now (Some text) (Some was) fault =
    (fault ≡ Some was) × (HasPrinted old new before now text ⊎ IsUnprinted old new before now)

-- a configuration that was judged is told, and no print failed
pub record HasPrintedValid (words : List ByteString) (environment : List Variable) (texts : Option (List Config)) (old new : Option ByteString) (before now : ℕ) : Type 0 where
  pub plan : Plan
  pub valid : IsValid words environment texts plan
  pub observed : Grows old new (valid_text plan)
  pub kept : now ≡ before

-- or couldn't be: the print failed
pub record IsUnprintedValid (words : List ByteString) (environment : List Variable) (texts : Option (List Config)) (old new : Option ByteString) (before now : ℕ) : Type 0 where
  pub plan : Plan
  pub valid : IsValid words environment texts plan
  pub same : new ≡ old
  pub rose : Rose before now

-- the words ask for a run
abbrev pub AsksAny : List ByteString → Type 0
AsksAny words = (file : ByteString) × IsRun words file

-- what the printer of standard output shows before the counts of a run are printed: nothing of a run, and of a judgement its text
abbrev pub IsShownFirst : List ByteString → List Variable → Option (List Config) → Type 0 → Option ByteString → Option ByteString → ℕ → ℕ → Option Fault → Type 0
IsShownFirst words environment texts same old new before now None = (AsksAny words × same) ⊎ HasPrintedValid words environment texts old new before now
IsShownFirst words environment texts same old new before now (Some PrintFailed) = IsUnprintedValid words environment texts old new before now
IsShownFirst words environment texts same old new before now (Some WantOfMemory) = (AsksAny words → same) × (new ≡ old)
IsShownFirst words environment texts same old new before now other = same

-- what is shown of a run, by whether its counts are asked for, and could be printed
abbrev pub IsRunShown : List ByteString → Record → Type 0 → Option ByteString → Option ByteString → ℕ → ℕ → Type 0
IsRunShown words h same old new before now = (AsksRun words × same) ⊎ (AsksStats words × (HasPrinted old new before now (summary_of h) ⊎ IsUnprinted old new before now))

-- what the printer of standard output shows: of a run nothing, or what its instances counted; and of a judgement its text
abbrev pub IsShown : List ByteString → List Variable → Option (List Config) → Record → Type 0 → Option ByteString → Option ByteString → ℕ → ℕ → Option Fault → Type 0
IsShown words environment texts h same old new before now None =
    (AsksRun words × same) ⊎ ((AsksStats words × HasPrinted old new before now (summary_of h)) ⊎ HasPrintedValid words environment texts old new before now)
IsShown words environment texts h same old new before now (Some PrintFailed) =
    (AsksStats words × IsUnprinted old new before now) ⊎ IsUnprintedValid words environment texts old new before now
IsShown words environment texts h same old new before now (Some WantOfMemory) = (AsksAny words → same) × (new ≡ old)
IsShown words environment texts h same old new before now (Some Usage) = same
IsShown words environment texts h same old new before now (Some (ConfigRead path)) = same
IsShown words environment texts h same old new before now (Some (ConfigRefused fault)) = same
IsShown words environment texts h same old new before now (Some (UnknownHost name)) = same
IsShown words environment texts h same old new before now other = IsRunShown words h same old new before now
