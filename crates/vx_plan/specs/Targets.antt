-- Which components read which output.
use Rattle.std.specs.Prelude.{ℕ, zero, suc, Bool, false, ◌||◌, Some, None, List, [], ◌∷◌, map, length, if◌then◌else◌, filter, slice_index_or}
use Rattle.std.specs.List.{list_any}
use Rattle.vx_value.specs.Texts.{ByteString, same_text, text_le}
pub use Rattle.vx_graph.specs.Patterns.{star, ends, behind, is_like}
pub use Rattle.vx_graph.specs.Outputs.{output_text, is_met}
use Rattle.vx_plan.specs.declared.component.Component.{Component}
use Rattle.vx_plan.specs.declared.plan.Plan.{Plan}
use Rattle.vx_plan.specs.Components.{component_named, port_names, acknowledges}

-- whether a component reads a port of another by an input, as the graph says
abbrev pub reads_by : Component → ByteString → ByteString → ByteString → Bool
reads_by reader name port input = is_met reader.name name input (output_text name port)

-- whether a component reads a port
abbrev pub reads : Component → ByteString → ByteString → Bool
reads reader name port = list_any (reads_by reader name port) reader.inputs

-- a text put among sorted ones
abbrev pub enter : ByteString → List ByteString → List ByteString
enter name [] = name ∷ []
enter name (first ∷ rest) = if text_le name first then name ∷ first ∷ rest else first ∷ enter name rest

-- some texts sorted by bytes, each as often as before
abbrev pub in_order : List ByteString → List ByteString
in_order [] = []
in_order (name ∷ rest) = enter name (in_order rest)

-- the names of the readers of a port, among some components
abbrev pub names_reading : ByteString → ByteString → List Component → List ByteString
names_reading name port components = map (λ (c : Component). c.name) (filter (λ (c : Component). reads c name port) components)

-- the names of the readers of a port, in byte order
abbrev pub readers : Plan → ByteString → ByteString → List ByteString
readers plan name port = in_order (names_reading name port plan.components)

-- the targets of each port of a component
abbrev pub all_targets : Plan → ByteString → List (List ByteString)
all_targets plan name = elim (component_named plan name) [ None ↦ [] | Some c ↦ map (readers plan name) (port_names c) ]

-- the targets of a port, by its number
abbrev pub targets : Plan → ByteString → ℕ → List ByteString
targets plan name port = slice_index_or (all_targets plan name) port []

-- whether the component of a name is a sink that acknowledges
abbrev pub acknowledges_named : Plan → ByteString → Bool
acknowledges_named plan name = elim (component_named plan name) [ None ↦ false | Some c ↦ acknowledges c ]

-- whether a walk of at most so many steps along targets leads to a sink that acknowledges: what `acknowledged` says, step by step and for one component
abbrev pub leads : ℕ → Plan → ByteString → Bool
leads zero plan name = false
leads (suc steps) plan name = acknowledges_named plan name || list_any (list_any (leads steps plan)) (all_targets plan name)

-- whether a text is among some
abbrev pub is_among : List ByteString → ByteString → Bool
is_among names name = list_any (same_text name) names

-- whether a component acknowledges, or one of its targets is among some
abbrev pub leads_into : Plan → List ByteString → ByteString → Bool
leads_into plan reached name = acknowledges_named plan name || list_any (list_any (is_among reached)) (all_targets plan name)

-- the components from which one step leads to some, or that acknowledge
abbrev pub led : Plan → List ByteString → List ByteString
led plan reached = filter (leads_into plan reached) (map (λ (c : Component). c.name) plan.components)

-- the components from which a walk of at most so many steps leads to a sink that acknowledges. Each step looks once at each component and its targets
abbrev pub leading : ℕ → Plan → List ByteString
leading zero plan = []
leading (suc steps) plan = led plan (leading steps plan)

-- whether the batches of a source wait; no walk needs more components than there are
abbrev pub acknowledged : Plan → ByteString → Bool
acknowledged plan source = is_among (leading (length plan.components) plan) source
