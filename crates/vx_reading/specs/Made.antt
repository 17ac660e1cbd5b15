-- What a component is that is made of what was read.
use Rattle.std.specs.Prelude.{Bool, false, true, not, ◌&&◌, ◌||◌, ◌==◌, length, nat_le}
use Rattle.std.specs.List.{list_all}
use Rattle.vx_value.specs.Texts.{ByteString, is_empty}
use Rattle.vx_plan.specs.declared.component.Component.{Component}
use Rattle.vx_plan.specs.declared.settings.Settings.{Settings}
use Rattle.vx_plan.specs.declared.settings.Settings.TheVariants.{DemoLogs, Filter, Route, Sample, Dedupe, Reduce, Host, Blackhole}
use Rattle.vx_plan.specs.Components.{is_source, is_transform, is_sink}
use Rattle.vx_plan.specs.Options.{has_device}
use Rattle.vx_reading.specs.Options.{most_period}

-- whether it works with a port, and is no transform
abbrev pub is_ported : Component → Bool
is_ported c = has_device c.settings && not (is_transform c)

-- whether options are those of a filter, of a route of at most 64 ways, of a sample that passes one of some, or of a dedupe that keeps
-- some keys
abbrev pub is_picking : Settings → Bool
is_picking (Filter condition) = true
is_picking (Route ways reroute) = nat_le (length ways) 64
is_picking (Sample rate exclude) = nat_le 1 rate
is_picking (Dedupe fields most) = nat_le 1 most && nat_le most 1000000
is_picking other = false

-- whether options are those of a reduce whose two periods are a millisecond at least, and no longer than may be said
abbrev pub is_merging : Settings → Bool
is_merging (Reduce group_by starts_when ends_when expire flush strategies) =
    (nat_le 1 expire && nat_le expire most_period) && (nat_le 1 flush && nat_le flush most_period)
is_merging other = false

-- whether options are those of a transform that is handed in
abbrev pub is_hosted : Settings → Bool
is_hosted Host = true
is_hosted other = false

-- whether a text has no line feed
abbrev pub is_unbroken : ByteString → Bool
is_unbroken text = list_all (λ byte. not (byte == 10)) text

-- whether options are those of a source that makes its lines of some texts, none of which has a line feed
abbrev pub is_generating : Settings → Bool
is_generating (DemoLogs demo interval) = not (is_empty demo.lines) && list_all is_unbroken demo.lines
is_generating other = false

-- whether options are those of a sink that writes nothing
abbrev pub is_blackhole : Settings → Bool
is_blackhole (Blackhole seconds sink) = true
is_blackhole other = false

-- a component works with a port, or is such a transform, such a source or such a sink
abbrev pub is_made : Component → Bool
is_made c =
    is_ported c || (is_transform c && is_picking c.settings) || (is_transform c && is_merging c.settings) || (is_transform c && is_hosted c.settings) || (is_source c && is_generating c.settings) || (is_sink c && is_blackhole c.settings)
