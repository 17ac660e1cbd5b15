-- A small configuration, and the plan that it stands for.
use Rattle.std.specs.Prelude.{◌^◌, ◌-◌, false, [], ◌∷◌, codes}
use Rattle.vx_plan.specs.declared.class.Class.TheVariants.{Source, Sink}
use Rattle.vx_codec.specs.declared.codec.Codec.TheVariants as codec
use Rattle.vx_plan.specs.declared.component.Component.{Component}
use Rattle.vx_plan.specs.declared.console_target.ConsoleTarget.TheVariants.{Stdout}
use Rattle.vx_codec.specs.declared.decoding.Decoding.TheVariants as decoding
use Rattle.vx_plan.specs.declared.global.Global.{Global}
use Rattle.vx_plan.specs.declared.plan.Plan.{Plan}
use Rattle.vx_plan.specs.declared.settings.Settings.TheVariants.{Stdin, Console}
use Rattle.vx_plan.specs.declared.sink_settings.SinkSettings.{SinkSettings}
use Rattle.vx_plan.specs.declared.when_full.WhenFull.TheVariants.{Block}
use Rattle.vx_value.specs.Texts.{ByteString}

-- its bytes
abbrev pub first_configuration : ByteString
first_configuration =
    codes "[sources.in]\ntype = \"stdin\"\n\n[sinks.out]\ntype = \"console\"\ninputs = [\"in\"]\nencoding.codec = \"text\"\n"

-- the global options of a configuration that says none
abbrev pub default_global : Global
default_global = record { data_dir = codes "/var/lib/vector/"; acknowledgements = false }

-- the options of a sink that says none
abbrev pub default_sink : SinkSettings
default_sink = record {
  acknowledgements = false;
  buffer = record { max_events = 500; when_full = Block } ∷ [];
  batch_max_events = 1;
  batch_timeout_secs = 1;
  request_retry_attempts = 2 ^ 63 - 1;
  request_retry_initial_backoff_secs = 1;
  request_retry_max_duration_secs = 30;
}

-- standard input, named `in`
abbrev pub first_source : Component
first_source = record { name = codes "in"; class = Source; inputs = []; settings = Stdin 102400 decoding.Bytes }

-- standard output as text, named `out`, which reads `in`
abbrev pub first_sink : Component
first_sink = record { name = codes "out"; class = Sink; inputs = codes "in" ∷ []; settings = Console Stdout codec.Text default_sink }

-- what the configuration stands for
abbrev pub first_plan : Plan
first_plan = record { global = default_global; components = first_source ∷ first_sink ∷ [] }
