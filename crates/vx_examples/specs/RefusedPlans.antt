-- Records that begin with a plan that may not be installed, and that no further entry makes legal.
use Rattle.std.specs.Prelude.{false, List, [], ◌∷◌, codes}
use Rattle.vx_codec.specs.declared.codec.Codec.TheVariants as codec
use Rattle.vx_codec.specs.declared.decoding.Decoding.TheVariants as decoding
use Rattle.vx_plan.specs.declared.class.Class.TheVariants.{Source, Transform, Sink}
use Rattle.vx_plan.specs.declared.component.Component.{Component}
use Rattle.vx_plan.specs.declared.console_target.ConsoleTarget.TheVariants.{Stdout}
use Rattle.vx_plan.specs.declared.plan.Plan.{Plan}
use Rattle.vx_plan.specs.declared.settings.Settings.TheVariants.{Stdin, Filter, Console}
use Rattle.vx_value.specs.Texts.{ByteString}
use Rattle.vx_record.specs.Records.{Record}
use Rattle.vx_record.specs.Wirings.{begun}
use Rattle.vx_examples.specs.Parts.{source, sink, options, block, plan_with}

-- the Install of some components, each of which begins
abbrev pub install_of : List Component → Record
install_of components = begun (plan_with components) false 0

-- two components of one name
abbrev pub two_of_one_name : Record
two_of_one_name = install_of (source (codes "in") ∷ sink (codes "out") (codes "in") block ∷ sink (codes "out") (codes "in") block ∷ [])

-- a source with the options of a sink
abbrev pub source_that_writes : Record
source_that_writes =
    install_of (record { name = codes "in"; class = Source; inputs = []; settings = Console Stdout codec.Text (options false (block ∷ []) 1 0 30) }
    ∷ sink (codes "out") (codes "in") block ∷ [])

-- a source that reads another
abbrev pub source_that_listens : Record
source_that_listens =
    install_of (source (codes "in") ∷ record { name = codes "u"; class = Source; inputs = codes "in" ∷ []; settings = Stdin 102400 decoding.Bytes }
    ∷ sink (codes "out") (codes "in") block ∷ [])

-- a sink whose buffer has no stage
abbrev pub sink_without_a_stage : Record
sink_without_a_stage =
    install_of (source (codes "in")
    ∷ record { name = codes "out"; class = Sink; inputs = codes "in" ∷ []; settings = Console Stdout codec.Text (options false [] 1 0 30) } ∷ [])

-- no source
abbrev pub no_source : Record
no_source = install_of (sink (codes "out") (codes "in") block ∷ [])

-- no sink
abbrev pub no_sink : Record
no_sink = install_of (source (codes "in") ∷ [])

-- a sink that reads nobody
abbrev pub sink_without_an_input : Record
sink_without_an_input =
    install_of (source (codes "in")
    ∷ record { name = codes "out"; class = Sink; inputs = []; settings = Console Stdout codec.Text (options false (block ∷ []) 1 0 30) } ∷ [])

-- an input that names nobody
abbrev pub input_of_nobody : Record
input_of_nobody = install_of (source (codes "in") ∷ sink (codes "out") (codes "no") block ∷ [])

-- a filter
abbrev pub filter_of : ByteString → List ByteString → Component
filter_of name inputs = record { name = name; class = Transform; inputs = inputs; settings = Filter (codes ".message == \"k\"") }

-- two filters, each of which reads the other
abbrev pub round_plan : Plan
round_plan =
    plan_with (source (codes "in") ∷ filter_of (codes "f") (codes "in" ∷ codes "g" ∷ []) ∷ filter_of (codes "g") (codes "f" ∷ [])
    ∷ sink (codes "out") (codes "g") block ∷ [])

-- a cycle
abbrev pub filters_in_a_round : Record
filters_in_a_round = begun round_plan false 0
