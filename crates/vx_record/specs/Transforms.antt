-- What transforms answer to what a record gives them.
use Rattle.std.specs.Prelude.{ℕ, ◌+◌, ◌^◌, ◌≡◌, Bool, true, false, not, ◌&&◌, Option, Some, None, List, [], ◌∷◌, ◌++◌, map, reverse, length, drop, if◌then◌else◌, ◌==◌, nat_le, nat_lt}
use Rattle.std.specs.List.{list_all}
use Rattle.vx_value.specs.Texts.{ByteString, is_empty}
use Rattle.vx_value.specs.declared.event.Event.{Event}
use Rattle.vx_condition.specs.Steps.{Test, Step, comes, ticks, ends, events_of}
use Rattle.vx_condition.specs.Conditions.{Says}
use Rattle.vx_condition.specs.Picking.{filter_passes, route_ports, sample_passes, dedupe_passes}
use Rattle.vx_condition.specs.Reducing.{Settings as Reducing, Arrival, put_out, group_event, due}
use Rattle.vx_plan.specs.declared.component.Component.{Component}
use Rattle.vx_plan.specs.declared.settings.Settings.{Settings}
use Rattle.vx_plan.specs.declared.settings.Settings.TheVariants.{Filter, Route, Sample, Dedupe, Reduce, Host}
use Rattle.vx_plan.specs.Components.{is_transform}
use Rattle.vx_plan.specs.Options.{if_any, conditions_of}
use Rattle.vx_record.specs.declared.output.Output.{Output}
use Rattle.vx_record.specs.Records.{Record}
use Rattle.vx_record.specs.Copies.{joined}
use Rattle.vx_record.specs.Installs.{component_of}
use Rattle.vx_record.specs.Inputs.{Input, answered, to_answer, steps_of, steps}

-- what becomes of an event, by those that came before it: the ports on which it is put out; with none it is discarded
abbrev pub Judge : Type 0
Judge = List Event → Event → List ℕ

-- what passes is put out on port 0
abbrev pub passing : (List Event → Test) → Judge
passing passes earlier e = if passes earlier e then 0 ∷ [] else []

-- how a transform answers: event by event, in groups, or as it likes
pub data Rule : Type 0 where
  judges : Judge → Rule
  reduces : Reducing → Rule
  is_free : Rule

-- a test says of each event what the condition that a text is says
abbrev pub Means : ByteString → Test → Type 0
Means text test = (e : Event) → Says text e.fields (test e)

-- each of some tests does, of the text in its place
abbrev pub AllMean : List ByteString → List Test → Type 0
AllMean [] [] = Unit {0}
AllMean (text ∷ texts) (test ∷ tests) = Means text test × AllMean texts tests
AllMean texts tests = ⊥

-- the first of some tests, where there is a condition; without one it never holds
abbrev pub test_of : Option ByteString → List Test → Test
test_of None tests = λ e. false
test_of (Some text) [] = λ e. false
test_of (Some text) (test ∷ tests) = test

-- the rule that a transform's settings are, with the tests of its conditions
abbrev pub rule_of : Settings → List Test → Option Rule
rule_of (Filter condition) tests = Some (judges (passing (filter_passes (test_of (Some condition) tests))))
rule_of (Route routes reroute) tests = Some (judges (λ earlier. route_ports tests reroute))
rule_of (Sample rate exclude) tests = Some (judges (passing (sample_passes rate (test_of exclude tests))))
rule_of (Dedupe fields most) tests = Some (judges (passing (dedupe_passes most fields)))
rule_of (Reduce group_by starts_when ends_when expire flush strategies) tests =
    Some (reduces (record {
      group_by = group_by;
      starts_when = test_of starts_when (drop (length (if_any ends_when)) tests);
      ends_when = test_of ends_when tests;
      expire_after_ms = expire;
      flush_period_ms = flush;
      strategies = strategies;
    }))
rule_of Host tests = Some is_free
rule_of other tests = None

-- the instance runs a transform that answers by a rule
pub record RunsBy (h : Record) (i : ℕ) (rule : Rule) : Type 0 where
  pub component : Component
  pub runs : component_of h i ≡ Some component
  pub transform : is_transform component ≡ true
  pub tests : List Test
  pub mean : AllMean (conditions_of component.settings) tests
  pub ruled : rule_of component.settings tests ≡ Some rule

-- some ports, as a number with their bits
abbrev pub port_bits : List ℕ → ℕ
port_bits [] = 0
port_bits (port ∷ ports) = 2 ^ port + port_bits ports

-- a parcel put out on some ports, once whatever their number, or not at all
abbrev pub put_on : List ℕ → Event → List ℕ → List Output
put_on [] e copies = []
put_on (port ∷ ports) e copies = record { ports = port_bits (port ∷ ports); copies = copies; event = e } ∷ []

-- its copies, where it is put out on none
abbrev pub left_over : List ℕ → List ℕ → List ℕ
left_over [] copies = copies
left_over (port ∷ ports) copies = []

-- what a step puts out by a judge
abbrev pub output_by : Judge → List Event → Step → List ℕ → List Output
output_by judge earlier (comes e now) copies = put_on (judge earlier e) e copies
output_by judge earlier (ticks now) copies = []
output_by judge earlier ends copies = []

-- and the copies that it discards
abbrev pub discarded_by : Judge → List Event → Step → List ℕ → List ℕ
discarded_by judge earlier (comes e now) copies = left_over (judge earlier e) copies
discarded_by judge earlier (ticks now) copies = []
discarded_by judge earlier ends copies = []

-- what some inputs put out by a judge, in order, behind the events before them
abbrev pub judged : Judge → List Event → List Input → List Output
judged judge earlier [] = []
judged judge earlier (x ∷ rest) =
    output_by judge earlier x.step x.copies ++ judged judge (earlier ++ events_of (x.step ∷ [])) rest

-- and the copies that they discard
abbrev pub refused : Judge → List Event → List Input → List ℕ
refused judge earlier [] = []
refused judge earlier (x ∷ rest) =
    discarded_by judge earlier x.step x.copies ++ refused judge (earlier ++ events_of (x.step ∷ [])) rest

-- the copies of the input with so many before it, of some with the latest first
abbrev pub copies_at : List Input → ℕ → List ℕ
copies_at [] place = []
copies_at (x ∷ before) place = if length before == place then x.copies else copies_at before place

-- the output that a group of events is put out as: their copies in order, and one event, on port 0
abbrev pub group_output : Reducing → List Input → List Arrival → Output
group_output s all group =
    record { ports = 1; copies = joined (map (λ (a : Arrival). copies_at all a.place) group); event = group_event s group }

-- the groups that some steps put out, in order, after those before them
abbrev pub groups_over : Reducing → List Step → List Step → List (List Arrival)
groups_over s before [] = []
groups_over s before (step ∷ rest) = put_out s before step ++ groups_over s (step ∷ before) rest

-- what some inputs put out in groups, after those before them
abbrev pub reduced : Reducing → List Input → List Input → List Output
reduced s before given = map (group_output s (reverse given ++ before)) (groups_over s (steps_of before) (steps_of given))

-- the events that the instance has answered, in order
abbrev pub answered_events : Record → ℕ → List Event
answered_events h i = events_of (reverse (steps_of (answered h i)))

-- whether an output has a copy, and a port, and none but a transform's plain one and 64 more
abbrev pub is_sound_output : Output → Bool
is_sound_output output = not (is_empty output.copies) && nat_lt 0 output.ports && nat_lt output.ports (2 ^ 65)

-- an Answer puts out what the rule says; a free one what it likes, each parcel with a copy and on ports that there can be
abbrev pub PutsOut : Rule → Record → ℕ → List Output → Type 0
PutsOut (judges judge) h i outputs = outputs ≡ judged judge (answered_events h i) (to_answer h i)
PutsOut (reduces s) h i outputs = outputs ≡ reduced s (answered h i) (to_answer h i)
PutsOut is_free h i outputs = list_all is_sound_output outputs ≡ true

-- and discards what it says
abbrev pub Discards : Rule → Record → ℕ → List ℕ → Type 0
Discards (judges judge) h i discarded = discarded ≡ refused judge (answered_events h i) (to_answer h i)
Discards (reduces s) h i discarded = discarded ≡ []
Discards is_free h i discarded = Unit {0}

-- whether a moment was reached, if there is one
abbrev pub is_reached : Option ℕ → ℕ → Bool
is_reached None now = false
is_reached (Some moment) now = nat_le moment now

-- a tick is due: of groups at their next check, of a free rule always, and else never
abbrev pub IsDue : Rule → List Step → ℕ → Type 0
IsDue (judges judge) before now = ⊥
IsDue (reduces s) before now = is_reached (due s before) now ≡ true
IsDue is_free before now = Unit {0}

-- the instance's transform is to act by itself
pub record IsTickDue (h : Record) (i now : ℕ) : Type 0 where
  pub rule : Rule
  pub follows : RunsBy h i rule
  pub reached : IsDue rule (steps h i) now
