-- What the places and the open brackets of the code stand for.
use Rattle.std.specs.Prelude.{Option, Some, None, List, [], ◌∷◌}
use Rattle.vx_value.specs.Values.{datum_of}
use Rattle.vx_json.specs.Machine as machine
use Rattle.vx_json.specs.WordViews.{word_rest, word_datum}
use Rattle.vx_json.specs.declared.frame.Frame.{Frame}
use Rattle.vx_json.specs.declared.frame.Frame.TheVariants as frame
use Rattle.vx_json.specs.declared.mode.Mode.{Mode}
use Rattle.vx_json.specs.declared.mode.Mode.TheVariants as mode

-- what an open bracket stands for
abbrev pub frame_view : Frame → machine.Frame
frame_view (frame.Items ds) = machine.InItems ds
frame_view (frame.Fields fs name) = machine.InFields fs name

-- what is open over what was open before, the last frame first
abbrev pub stack_over : List Frame → List machine.Frame → List machine.Frame
stack_over [] st = st
stack_over (f ∷ frames) st = stack_over frames (frame_view f ∷ st)

-- what is open, the last frame first
unfoldable pub stack_view : List Frame → List machine.Frame
stack_view frames = stack_over frames []

-- what a place stands for
abbrev pub mode_view : Mode → machine.Mode
mode_view mode.Before = machine.AtValue
mode_view mode.FirstItem = machine.AtFirstItem
mode_view mode.FirstName = machine.AtFirstName
mode_view (mode.NextName fs) = machine.AtName fs
mode_view (mode.InName fs place text) = machine.InName fs place text.items
mode_view (mode.Colon fs name) = machine.AtColon fs name
mode_view (mode.Behind value) = machine.AtEnd (datum_of value)
mode_view (mode.InWord word) = machine.InWord (word_rest word) (word_datum word)
mode_view (mode.InNumber place text) = machine.InNumber place text.items
mode_view (mode.InText place text) = machine.InText place text.items

-- where a reader has come to, if it could go on, with what is open
abbrev pub state_view : Option Mode → List machine.Frame → Option machine.State
state_view None st = None
state_view (Some m) st = machine.state (mode_view m) st
