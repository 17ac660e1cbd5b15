-- What a judge was given that takes its bytes one at a time.
use Rattle.std.specs.Prelude.{◌≡◌, ℕ, false, Option, Some, None}
use Rattle.vx_value.specs.Texts.{ByteString}
use Rattle.vx_json.specs.ProbeModes as probe_modes
use Rattle.vx_json.specs.WordViews.{word_rest}
use Rattle.vx_json.specs.declared.probe_mode.ProbeMode.{ProbeMode}
use Rattle.vx_json.specs.declared.probe_mode.ProbeMode.TheVariants as probe_mode
use Rattle.vx_json.specs.declared.probe.Probe.{Probe}

-- what a mode of the probe stands for
abbrev pub probe_mode_view : ProbeMode → probe_modes.ProbeMode
probe_mode_view probe_mode.Before = probe_modes.Before
probe_mode_view probe_mode.FirstItem = probe_modes.FirstItem
probe_mode_view probe_mode.FirstName = probe_modes.FirstName
probe_mode_view probe_mode.NextName = probe_modes.NextName
probe_mode_view (probe_mode.InName place) = probe_modes.InName place
probe_mode_view probe_mode.Colon = probe_modes.Colon
probe_mode_view (probe_mode.Behind object) = probe_modes.Behind object
probe_mode_view (probe_mode.InWord word) = probe_modes.InWord (word_rest word) false
probe_mode_view (probe_mode.InNumber place) = probe_modes.InNumber place
probe_mode_view (probe_mode.InText place) = probe_modes.InText place

-- where a judge has come to, if it could go on, with what is open
abbrev pub place_view : Option ProbeMode → ℕ → Option probe_modes.Place
place_view None n = None
place_view (Some s) n = probe_modes.stands (probe_mode_view s) n

-- the judge was given these bytes, one at a time
unfoldable pub HasProbed : ByteString → Probe → Type 0
HasProbed bytes p = place_view p.probe_mode p.nesting.kinds ≡ probe_modes.led (probe_modes.stands probe_modes.Before 1) bytes
