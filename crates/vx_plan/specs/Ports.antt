-- The port that a component needs.
use Rattle.std.specs.Prelude.{◌-◌, ◌==◌, Bool, true, false, Option, Some, None, [], ◌∷◌, ◌++◌, length, codes, if◌then◌else◌, slice_get}
use Rattle.vx_value.specs.Texts.{ByteString}
use Rattle.vx_ends.specs.declared.port_spec.Form.{Form}
use Rattle.vx_ends.specs.declared.port_spec.Form.TheVariants as form
use Rattle.vx_ends.specs.declared.port_spec.PortSpec.{PortSpec}
use Rattle.vx_plan.specs.declared.component.Component.{Component}
use Rattle.vx_plan.specs.declared.console_target.ConsoleTarget.{ConsoleTarget}
use Rattle.vx_plan.specs.declared.console_target.ConsoleTarget.TheVariants.{Stdout, Stderr}
use Rattle.vx_plan.specs.declared.plan.Plan.{Plan}
use Rattle.vx_plan.specs.declared.settings.Settings.{Settings}
use Rattle.vx_plan.specs.declared.settings.Settings.TheVariants.{Stdin, FileIn, Console, FileOut}
use Rattle.vx_plan.specs.Components.{component_named}

-- whether a console writes to standard error
abbrev pub is_stderr : ConsoleTarget → Bool
is_stderr Stdout = false
is_stderr Stderr = true

-- whether a slash stands at the end of a text
abbrev pub ends_in_slash : ByteString → Bool
ends_in_slash text = elim (slice_get text (length text - 1)) [ None ↦ false | Some byte ↦ byte == 47 ]

-- how the path begins of what stands in a folder
abbrev pub within_folder : ByteString → ByteString
within_folder folder = if ends_in_slash folder then folder else folder ++ 47 ∷ []

-- the path of the checkpoint of a source: in a folder, under the name of the source
abbrev pub checkpoint_path : ByteString → ByteString → ByteString
checkpoint_path folder name = within_folder folder ++ name ++ codes ".checkpoint.json"

-- the form of the port, by whether a run ends with the files that are there, and where a checkpoint would stand; no form of a component
-- without a device
abbrev pub form_of : Bool → ByteString → Settings → Option Form
form_of once checkpoint (Stdin max_length codec) = Some form.Stdin
form_of once checkpoint (FileIn most path from codec) = Some (form.FileIn path once checkpoint)
form_of once checkpoint (Console target codec sink) = Some (form.Console (is_stderr target))
form_of once checkpoint (FileOut path compression codec sink) = Some (form.FileOut path)
form_of once checkpoint other = None

-- a component's port: its name and form, by whether a run ends with the files that are there, and the folder of the checkpoints
abbrev pub port_of : Bool → ByteString → Component → Option PortSpec
port_of once folder c =
    elim (form_of once (checkpoint_path folder c.name) c.settings) [ None ↦ None | Some f ↦ Some (record { name = c.name; form = f }) ]

-- the port of the component of that name
abbrev pub port_spec : Plan → ByteString → Bool → Option PortSpec
port_spec plan name once = elim (component_named plan name) [ None ↦ None | Some c ↦ port_of once plan.global.data_dir c ]
