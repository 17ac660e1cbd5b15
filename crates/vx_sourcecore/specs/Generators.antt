-- A source that makes its lines itself, as far as a record has it.
use Rattle.std.specs.Prelude.{◌≡◌, ℕ, true, Option, Some, None, IfSome, IsSomeAnd, [], ◌∷◌}
use Rattle.std.specs.List.{list_all}
use Rattle.vx_demo.specs.declared.demo_settings.DemoSettings.{DemoSettings}
use Rattle.vx_record.specs.Records.{Record}
use Rattle.vx_record.specs.Reads.{ended_streams}
use Rattle.vx_record.specs.Generating.{generator_of, lines_given, lines_at_once, IsGenerated}
use Rattle.vx_record.specs.declared.entry.Entry.TheVariants.{Read}
use Rattle.vx_sourcecore.specs.declared.source.SourceCore.{SourceCore}
use Rattle.vx_sourcecore.specs.declared.source.Cut.{Cut}
use Rattle.vx_sourcecore.specs.declared.source.Turned.{Turned}
use Rattle.vx_sourcecore.specs.declared.source.Turned.TheVariants.{Lines, StreamEnded, AllEnded, Idle, Failed}
use Rattle.vx_sourcecore.specs.declared.generator.Generator.{Generator}
use Rattle.vx_sourcecore.specs.Turns.{Reading, reading_of, cut_of}
use Rattle.vx_sourcecore.specs.Abreast.{IsAbreast, IsCutOf}
use Rattle.vx_sourcecore.specs.Lines.{is_unbroken}

-- a generator at its beginning: it cuts with a core, makes lines of some settings, so many at once, and gave none
pub record IsBegun (core : SourceCore) (demo : DemoSettings) (most : ℕ) (g : Generator) : Type 0 where
  pub core_is : g.core ≡ core
  pub lines_are : g.lines ≡ record { settings = demo; given = 0 }
  pub most_is : g.most ≡ most

-- a generator has come as far as a record has it: it cuts its own lines, which are made of what the component says, gave as many of
-- them as the record has, gives as many at once as the component says, and no text of it has a line feed; all are of stream 0, whose
-- end is that of all
pub record IsGenerating (h : Record) (i : ℕ) (g : Generator) : Type 0 where
  pub abreast : IsAbreast h i g.core
  pub made_of : generator_of h i ≡ Some g.lines.settings
  pub most : lines_at_once h i ≡ g.most
  pub given : g.lines.given ≡ lines_given h i
  pub unbroken : list_all is_unbroken g.lines.settings.lines ≡ true
  pub stream : IfSome g.core.last (λ stream. stream ≡ 0)
  pub unended : ended_streams h i ≡ []

-- where what it made was cut, it has come as far as the record with its Read
abbrev pub HasMadeCut : Record → ℕ → Generator → Reading → Option Cut → Type 0
HasMadeCut h i g reading None = Unit {0}
HasMadeCut h i g reading (Some cut) = IsGenerating (Read i reading.stream reading.took ∷ h) i g × IsCutOf h i reading.stream reading.took cut

-- a generator that took its turn: each is a read
abbrev pub HasMadeBy : Record → ℕ → Generator → Option Reading → Option Cut → Type 0
HasMadeBy h i g None cut = ⊥
HasMadeBy h i g (Some reading) cut = HasMadeCut h i g reading cut

abbrev pub HasMade : Record → ℕ → Generator → Turned → Type 0
HasMade h i g turned = HasMadeBy h i g (reading_of turned) (cut_of turned)

-- what it made are the lines that come next, or the end behind the last
abbrev pub IsNext : Record → ℕ → Turned → Type 0
IsNext h i turned = IsSomeAnd (reading_of turned) (λ (reading : Reading). IsGenerated h i reading.stream reading.took)

-- a turn of a source that makes its lines brings some, or is the end of all
abbrev pub IsMade : Turned → Type 0
IsMade (Lines stream n room cut) = Unit {0}
IsMade (StreamEnded stream cut) = ⊥
IsMade (AllEnded stream cut) = Unit {0}
IsMade Idle = ⊥
IsMade (Failed at_start) = ⊥
