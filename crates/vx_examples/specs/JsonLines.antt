-- The record of a run that reads JSON and writes JSON, on an object, an empty line and a line that is no object, as one
-- worker makes it.
use Rattle.std.specs.Prelude.{◌-◌, ◌^◌, pos, false, [], ◌∷◌, ◌++◌, codes}
use Rattle.vx_value.specs.declared.event.Event.{Event}
use Rattle.vx_value.specs.Texts.{ByteString}
use Rattle.vx_value.specs.Datum.{Words, Whole}
use Rattle.vx_codec.specs.declared.decoding.Decoding.TheVariants as decoding
use Rattle.vx_codec.specs.declared.codec.Codec.TheVariants as codec
use Rattle.vx_plan.specs.declared.class.Class.TheVariants.{Source}
use Rattle.vx_plan.specs.declared.settings.Settings.TheVariants.{Stdin, Console}
use Rattle.vx_plan.specs.declared.console_target.ConsoleTarget.TheVariants.{Stdout}
use Rattle.vx_plan.specs.declared.plan.Plan.{Plan}
use Rattle.vx_record.specs.Records.{Record}
use Rattle.vx_examples.specs.Parts.{sink, options, block, plan_with}
use Rattle.vx_examples.specs.Phrases.{recorded, begins, turn, taken_in, told_the_end, confirmed, passed_on, written, noticed, ended}

-- standard input and output, both with codec json
abbrev pub plan : Plan
plan =
    plan_with (record { name = codes "in"; class = Source; inputs = []; settings = Stdin 102400 decoding.Json }
    ∷ record (sink (codes "out") (codes "in") block) { settings = Console Stdout codec.Json (options false (block ∷ []) 1 (2 ^ 63 - 1) 30) }
    ∷ [])

-- an object, nothing, and no object
abbrev pub piece : ByteString
piece = codes "{\"a\":1}\n\nx\n"

-- the event of the object, and the line that it is written as
abbrev pub event : Event
event = record {
  fields = record { name = codes "a"; value = Whole (pos 1) } ∷ record { name = codes "source_type"; value = Words (codes "stdin") } ∷ [];
}

abbrev pub line : ByteString
line = codes "{\"a\":1,\"source_type\":\"stdin\"}\n"

abbrev pub run : Record
run =
    recorded (begins plan ∷ turn 0 0 (taken_in 0 0 piece 0 (event ∷ []) 11) ∷ passed_on 0 1 0 event 1
    ∷ turn 1 0 (written 1 1 line ++ noticed 0) ∷ turn 0 0 (confirmed 0 0 11 ++ told_the_end 0) ∷ ended 1 0 ∷ ended 0 0 ∷ [])
