-- The components of a document.
use Rattle.std.specs.Prelude.{Bool, true, false, not, ◌&&◌, ◌||◌, Option, Some, None, option_map, option_and_then, is_some, List, [], ◌++◌, ◌∷◌, map, codes, find}
use Rattle.vx_value.specs.Texts.{ByteString, same_text}
use Rattle.toml.specs.Data.{Data, get, as_str}
use Rattle.vx_plan.specs.declared.class.Class.{Class}
use Rattle.vx_plan.specs.declared.class.Class.TheVariants.{Source, Transform, Sink}
use Rattle.vx_reading.specs.declared.kind.Kind.{Kind}
use Rattle.vx_reading.specs.declared.kind.Kind.TheVariants.{Stdin, FileIn, DemoLogs, Filter, Route, Sample, Dedupe, Reduce, Host, Console, FileOut, Blackhole}
use Rattle.vx_reading.specs.Judging.{Pair, pairs_in}
use Rattle.vx_reading.specs.Options.{dot, kind_named}
pub use Rattle.vx_reading.specs.Options.{is_name_byte, is_name}

-- a component as the document has it
pub record Part : Type 0 where
  pub class : Class
  pub name : ByteString
  pub value : Data

-- the name of the table of a class
abbrev pub section_name : Class → ByteString
section_name Source = codes "sources"
section_name Transform = codes "transforms"
section_name Sink = codes "sinks"

-- the table of a class, if it is there
abbrev pub section : Data → Class → Option Data
section root class = get (section_name class) root

-- a member of the table of a class
abbrev pub part_in : Class → Pair → Part
part_in class p = record { class = class; name = p.name; value = p.value }

-- the components of a class, by the bytes of their names
abbrev pub parts_in : Data → Class → List Part
parts_in root class =
    elim (section root class) [
      | None ↦ []
      | Some value ↦ map (part_in class) (pairs_in value)
    ]

-- the components: sources, transforms, sinks
abbrev pub parts : Data → List Part
parts root = parts_in root Source ++ (parts_in root Transform ++ parts_in root Sink)

-- where a component stands
abbrev pub part_path : Part → ByteString
part_path part = section_name part.class ++ dot ∷ part.name

-- whether a class has a component of that name
abbrev pub has_part : Data → Class → ByteString → Bool
has_part root class name = is_some (option_and_then (get name) (section root class))

-- whether a name stands in an earlier one of the three tables
abbrev pub is_taken : Data → Class → ByteString → Bool
is_taken root Source name = false
is_taken root Transform name = has_part root Source name
is_taken root Sink name = has_part root Source name || has_part root Transform name

-- the value of `type`
abbrev pub type_in : Data → Option Data
type_in value = get (codes "type") value

-- the type of a component, where its table has that type
abbrev pub kind_of : Part → Option Kind
kind_of part = option_and_then (kind_named part.class) (option_and_then as_str (type_in part.value))

-- whether it reads standard input
abbrev pub reads_stdin : Part → Bool
reads_stdin part = elim (kind_of part) [ None ↦ false | Some kind ↦ elim kind [ Stdin ↦ true | FileIn ↦ false | DemoLogs ↦ false | Filter ↦ false | Route ↦ false | Sample ↦ false | Dedupe ↦ false | Reduce ↦ false | Host ↦ false | Console ↦ false | FileOut ↦ false | Blackhole ↦ false ] ]

-- the name of the first component that reads standard input
abbrev pub first_stdin : Data → Option ByteString
first_stdin root = option_map (λ (p : Part). p.name) (find reads_stdin (parts root))

-- whether a component reads standard input after the first that does
abbrev pub is_later_stdin : Option ByteString → Part → Bool
is_later_stdin None part = false
is_later_stdin (Some first) part = reads_stdin part && not (same_text first part.name)
