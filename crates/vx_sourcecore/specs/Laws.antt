-- When a source stays abreast of a record.
use Rattle.std.specs.Prelude.{◌≡◌, ℕ, ◌<◌, true, Some, None, is_some, [], ◌∷◌, length}
use Rattle.std.specs.List.{list_all}
use Rattle.vx_codec.specs.declared.decoding.Decoding.{Decoding}
use Rattle.vx_demo.specs.declared.demo_settings.DemoSettings.{DemoSettings}
use Rattle.vx_plan.specs.declared.component.Component.{Component}
use Rattle.vx_plan.specs.declared.settings.Settings.{Settings}
use Rattle.vx_plan.specs.Components.{longest_line}
use Rattle.vx_plan.specs.Options.{file_read, decoding, type_name, demo_of}
use Rattle.vx_record.specs.Records.{Record}
use Rattle.vx_record.specs.Legal.{IsLegal}
use Rattle.vx_record.specs.Makers.{Spares}
use Rattle.vx_record.specs.Additions.{OnlyAdds}
use Rattle.vx_record.specs.Installs.{wiring, component_of}
use Rattle.vx_record.specs.Reads.{last_stream, open_bytes, taken, ended_streams}
use Rattle.vx_record.specs.Generating.{lines_at_once}
use Rattle.vx_record.specs.declared.entry.Entry.{Entry}
use Rattle.vx_record.specs.declared.entry.Entry.TheVariants.{Install, Read}
use Rattle.vx_sourcecore.specs.declared.source.SourceCore.{SourceCore}
use Rattle.vx_sourcecore.specs.declared.source.Turned.{Turned}
use Rattle.vx_sourcecore.specs.declared.generator.Generator.{Generator}
use Rattle.vx_sourcecore.specs.Sources.{IsFresh}
use Rattle.vx_sourcecore.specs.Abreast.{IsAbreast, HasTurned}
use Rattle.vx_sourcecore.specs.Lines.{is_unbroken, is_generating}
use Rattle.vx_sourcecore.specs.Generators.{IsBegun, IsGenerating, HasMade, IsNext}

-- a fresh source for a component is abreast of a record in which that component's instance read nothing
abbrev pub FreshAbreast : Type 0
FreshAbreast =
    (h : Record) (i : ℕ) (c : Component) (d : Decoding) (core : SourceCore) → component_of h i ≡ Some c → decoding c.settings ≡ Some d →
    IsFresh (longest_line c.settings) d (type_name c.settings) (file_read c.settings) core → last_stream h i ≡ None → ((stream : ℕ) → open_bytes h i stream ≡ []) →
    IsAbreast h i core

-- one more entry of a legal record leaves the component that an instance runs
abbrev pub ComponentStays : Type 0
ComponentStays = (h : Record) (e : Entry) (i : ℕ) → IsLegal (e ∷ h) → is_some (component_of h i) ≡ true → component_of (e ∷ h) i ≡ component_of h i

-- so do others that go on
abbrev pub ComponentKept : Type 0
ComponentKept = (old new : Record) (i : ℕ) → is_some (component_of old i) ≡ true → OnlyAdds (Spares i) old new → component_of new i ≡ component_of old i

-- nor how it is wired
abbrev pub WiringKept : Type 0
WiringKept = (old new : Record) (i : ℕ) → is_some (component_of old i) ≡ true → OnlyAdds (Spares i) old new → wiring new i ≡ wiring old i

-- while others go on, a source stays abreast
abbrev pub AbreastKept : Type 0
AbreastKept = (old new : Record) (i : ℕ) (core : SourceCore) → OnlyAdds (Spares i) old new → IsAbreast old i core → IsAbreast new i core

-- and what it brings stays what its turn gave
abbrev pub TurnedKept : Type 0
TurnedKept = (old new : Record) (i : ℕ) (core : SourceCore) (turned : Turned) → OnlyAdds (Spares i) old new → HasTurned old i core turned → HasTurned new i core turned

-- an entry that is no Install and no Read
abbrev pub IsUnread : Entry → Type 0
IsUnread (Install version plan once instances now) = ⊥
IsUnread (Read i stream took) = ⊥
IsUnread other = Unit {0}

-- such an entry leaves a source abreast, be it of its own instance
abbrev pub AbreastUnder : Type 0
AbreastUnder = (h : Record) (e : Entry) (i : ℕ) (core : SourceCore) → IsUnread e → IsAbreast h i core → IsAbreast (e ∷ h) i core

-- and leaves what it brings what its turn gave, so that the turn may be told behind such an entry
abbrev pub TurnedUnder : Type 0
TurnedUnder =
    (h : Record) (e : Entry) (i : ℕ) (core : SourceCore) (turned : Turned) → IsUnread e → HasTurned h i core turned → HasTurned (e ∷ h) i core turned

-- a component that makes its lines has texts to make them of, none of which has a line feed
abbrev pub GeneratorTexts : Type 0
GeneratorTexts =
    (settings : Settings) (demo : DemoSettings) → is_generating settings ≡ true → demo_of settings ≡ Some demo →
    (0 < length demo.lines) × (list_all is_unbroken demo.lines ≡ true)

-- a generator at its beginning, made for a component, has come as far as a record in which that component's instance read nothing
abbrev pub GeneratorFresh : Type 0
GeneratorFresh =
    (h : Record) (i : ℕ) (c : Component) (d : Decoding) (demo : DemoSettings) (most : ℕ) (core : SourceCore) (g : Generator) → component_of h i ≡ Some c →
    demo_of c.settings ≡ Some demo → lines_at_once h i ≡ most → decoding c.settings ≡ Some d → IsFresh (longest_line c.settings) d (type_name c.settings) (file_read c.settings) core →
    IsBegun core demo most g → last_stream h i ≡ None → ((stream : ℕ) → open_bytes h i stream ≡ []) → taken h i 0 ≡ [] →
    ended_streams h i ≡ [] → IsGenerating h i g

-- while others go on, a generator has come as far as the record has it
abbrev pub GeneratingKept : Type 0
GeneratingKept = (old new : Record) (i : ℕ) (g : Generator) → OnlyAdds (Spares i) old new → IsGenerating old i g → IsGenerating new i g

-- and what it made stays what its turn gave
abbrev pub MadeKept : Type 0
MadeKept = (old new : Record) (i : ℕ) (g : Generator) (turned : Turned) → OnlyAdds (Spares i) old new → HasMade old i g turned → HasMade new i g turned

-- and stays what comes next
abbrev pub NextKept : Type 0
NextKept =
    (old new : Record) (i : ℕ) (turned : Turned) → is_some (component_of old i) ≡ true → OnlyAdds (Spares i) old new → IsNext old i turned → IsNext new i turned

-- so it is under an entry that is no Install and no Read, be it of its own instance
abbrev pub GeneratingUnder : Type 0
GeneratingUnder = (h : Record) (e : Entry) (i : ℕ) (g : Generator) → IsUnread e → IsGenerating h i g → IsGenerating (e ∷ h) i g

-- and what it made stays what its turn gave
abbrev pub MadeUnder : Type 0
MadeUnder = (h : Record) (e : Entry) (i : ℕ) (g : Generator) (turned : Turned) → IsUnread e → HasMade h i g turned → HasMade (e ∷ h) i g turned

-- and stays what comes next
abbrev pub NextUnder : Type 0
NextUnder = (h : Record) (e : Entry) (i : ℕ) (turned : Turned) → IsUnread e → IsNext h i turned → IsNext (e ∷ h) i turned
