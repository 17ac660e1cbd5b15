-- A source that makes its lines itself.
use Rattle.std.specs.Prelude.{ℕ, ◌≡◌, ◌+◌, ◌-◌, ◌<◌, ◌≤◌, ◌==◌, ◌&&◌, Bool, true, false, not, min, length}
use Rattle.std.specs.List.{list_all}
use Rattle.rand_pcg.specs.Lcg.{Lcg, advance}
use Rattle.rand_pcg.specs.Pcg.{multiplier_64}
use Rattle.vx_value.specs.Texts.{ByteString, is_empty}
use Rattle.vx_demo.specs.DemoLines.{generator}
use Rattle.vx_demo.specs.declared.demo_settings.DemoSettings.{DemoSettings}
use Rattle.vx_record.specs.Generating.{lines_from}
use Rattle.vx_plan.specs.declared.settings.Settings.{Settings}
use Rattle.vx_plan.specs.declared.settings.Settings.TheVariants.{Stdin, FileIn, DemoLogs, Filter, Route, Sample, Dedupe, Reduce, Host, Console, FileOut, Blackhole}

-- what its lines are made of, and how many it gave
pub record Generated : Type 0 where
  pub settings : DemoSettings
  pub given : ℕ

-- how many lines are left
abbrev pub left_of : Generated → ℕ
left_of source = source.settings.count - source.given

-- the lines that come next, so many at most at once
abbrev pub next_lines : Generated → ℕ → ByteString
next_lines source most = lines_from source.settings source.given (min most (left_of source))

-- the source behind them
abbrev pub behind : Generated → ℕ → Generated
behind source most = record source { given = source.given + min most (left_of source) }

-- the generator of a seed when it has given k words, so that its next is the word of line k, counted from 0
unfoldable pub generator_at : ℕ → ℕ → Lcg
generator_at seed k = advance 64 multiplier_64 k (generator seed)

-- a source has a text to choose, gave no more lines than there are, and took one word of its generator for each
pub record IsInStep (settings : DemoSettings) (given : ℕ) (words : Lcg) : Type 0 where
  pub some : 0 < length settings.lines
  pub within : given ≤ settings.count
  pub words_are : words ≡ generator_at settings.seed given

-- whether a text has no line feed
abbrev pub is_unbroken : ByteString → Bool
is_unbroken text = list_all (λ byte. not (byte == 10)) text

-- whether settings are those of a source that makes its lines itself, of some texts, none of which has a line feed
abbrev pub is_generating : Settings → Bool
is_generating (Stdin max_length codec) = false
is_generating (FileIn most path from codec) = false
is_generating (DemoLogs demo interval) = not (is_empty demo.lines) && list_all is_unbroken demo.lines
is_generating (Filter condition) = false
is_generating (Route routes reroute) = false
is_generating (Sample rate exclude) = false
is_generating (Dedupe fields most) = false
is_generating (Reduce group_by starts_when ends_when expire flush strategies) = false
is_generating Host = false
is_generating (Console target codec sink) = false
is_generating (FileOut path compression codec sink) = false
is_generating (Blackhole seconds sink) = false

-- whether settings are those of a sink that writes nothing
abbrev pub is_blackhole : Settings → Bool
is_blackhole (Stdin max_length codec) = false
is_blackhole (FileIn most path from codec) = false
is_blackhole (DemoLogs demo interval) = false
is_blackhole (Filter condition) = false
is_blackhole (Route routes reroute) = false
is_blackhole (Sample rate exclude) = false
is_blackhole (Dedupe fields most) = false
is_blackhole (Reduce group_by starts_when ends_when expire flush strategies) = false
is_blackhole Host = false
is_blackhole (Console target codec sink) = false
is_blackhole (FileOut path compression codec sink) = false
is_blackhole (Blackhole seconds sink) = true
