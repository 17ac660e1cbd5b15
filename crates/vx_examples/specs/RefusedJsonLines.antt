-- Records that differ from the run on JSON lines in one entry, and that no further entry makes legal.
use Rattle.std.specs.Prelude.{false, [], ◌∷◌, codes}
use Rattle.vx_value.specs.declared.event.Event.{Event}
use Rattle.vx_ends.specs.declared.trouble.Reply.TheVariants.{Failed}
use Rattle.vx_record.specs.declared.entry.Entry.TheVariants.{Born, Attempt}
use Rattle.vx_record.specs.Records.{Record}
use Rattle.vx_examples.specs.Parts.{event_from}
use Rattle.vx_examples.specs.Phrases.{so_far}
use Rattle.vx_examples.specs.JsonLines as json_lines

-- a line as a text
abbrev pub text : Event
text = event_from (codes "stdin") (codes "x")

-- a Born with an event of the line that is no object
abbrev pub born_of_no_object : Record
born_of_no_object = Born 0 0 0 (0 ∷ 1 ∷ []) (json_lines.event ∷ text ∷ []) false 0 11 ∷ so_far 3 json_lines.run

-- a Born whose position is the end of the last line that gave an event
abbrev pub born_before_the_last_line : Record
born_before_the_last_line = Born 0 0 0 (0 ∷ []) (json_lines.event ∷ []) false 0 8 ∷ so_far 3 json_lines.run

-- an Attempt that gives what another codec would write
abbrev pub written_as_text : Record
written_as_text = Attempt 1 (1 ∷ []) (10 ∷ []) Failed ∷ so_far 9 json_lines.run
