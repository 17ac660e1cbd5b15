-- What a source that makes its lines itself gives.
use Rattle.std.specs.Prelude.{ℕ, zero, suc, ◌+◌, ◌-◌, ◌≡◌, ◌<◌, min, Option, Some, None, [], ◌∷◌, ◌++◌, ◌==◌, if◌then◌else◌}
use Rattle.vx_value.specs.Texts.{ByteString}
use Rattle.vx_demo.specs.DemoLines.{demo_line}
use Rattle.vx_demo.specs.declared.demo_settings.DemoSettings.{DemoSettings}
use Rattle.vx_plan.specs.declared.component.Component.{Component}
use Rattle.vx_plan.specs.Options.{demo_of, reading_interval}
use Rattle.vx_record.specs.declared.taken.Taken.{Taken}
use Rattle.vx_record.specs.declared.taken.Taken.TheVariants.{Bytes, StreamEnded, AllEnded}
use Rattle.vx_record.specs.Records.{Record}
use Rattle.vx_record.specs.Copies.{count}
use Rattle.vx_record.specs.Installs.{component_or}
use Rattle.vx_record.specs.Reads.{taken}

-- what an instance's lines are made of, if it makes them
abbrev pub generator_of : Record → ℕ → Option DemoSettings
generator_of = component_or None (λ (c : Component). demo_of c.settings)

-- how many lines an instance gave: each ends at a line feed, and no line has one
abbrev pub lines_given : Record → ℕ → ℕ
lines_given h i = count 10 (taken h i 0)

-- how many lines it may give at once: one for each interval, and without one 64
abbrev pub lines_at_once : Record → ℕ → ℕ
lines_at_once = component_or 0 (λ (c : Component). if reading_interval c.settings == 0 then 64 else 1)

-- n lines from the k-th on, each with its line feed
abbrev pub lines_from : DemoSettings → ℕ → ℕ → ByteString
lines_from demo k zero = []
lines_from demo k (suc n) = demo_line demo k ++ 10 ∷ lines_from demo (k + 1) n

-- how many lines are left
abbrev pub lines_left : DemoSettings → Record → ℕ → ℕ
lines_left demo h i = demo.count - lines_given h i

-- the next lines, as many as are given at once and are left, of stream 0
pub record AreNextLines (demo : DemoSettings) (h : Record) (i stream : ℕ) (bytes : ByteString) : Type 0 where
  pub some : 0 < lines_left demo h i
  pub of_stream : stream ≡ 0
  pub lines : bytes ≡ lines_from demo (lines_given h i) (min (lines_at_once h i) (lines_left demo h i))

-- the end of all, of stream 0, where no line is left
pub record IsLastEnd (demo : DemoSettings) (h : Record) (i stream : ℕ) : Type 0 where
  pub none : lines_left demo h i ≡ 0
  pub of_stream : stream ≡ 0

-- a generator's Read: its next lines, and the end of all behind the last
abbrev pub IsNextOf : DemoSettings → Record → ℕ → ℕ → Taken → Type 0
IsNextOf demo h i stream (Bytes bytes) = AreNextLines demo h i stream bytes
IsNextOf demo h i stream StreamEnded = ⊥
IsNextOf demo h i stream AllEnded = IsLastEnd demo h i stream

-- what an instance's Read gives, where the instance makes its lines
abbrev pub IsGenerated : Record → ℕ → ℕ → Taken → Type 0
IsGenerated h i stream took = (demo : DemoSettings) → generator_of h i ≡ Some demo → IsNextOf demo h i stream took
