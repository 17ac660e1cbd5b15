-- What a port answers to a fault of its device.
use Rattle.std.specs.Prelude.{Bool, true, false}
use Rattle.vx_ends.specs.declared.trouble.Trouble.{Trouble}
use Rattle.vx_ends.specs.declared.trouble.Trouble.TheVariants as trouble
use Rattle.vx_ends_os.specs.declared.fault.Fault.{Fault}
use Rattle.vx_ends_os.specs.declared.fault.Fault.TheVariants.{Failed, WantOfMemory}

-- the trouble of a fault
abbrev pub trouble_of : Fault → Trouble
trouble_of Failed = trouble.Failed
trouble_of WantOfMemory = trouble.WantOfMemory

-- whether a fault counts as one of the device
abbrev pub is_counted : Fault → Bool
is_counted Failed = true
is_counted WantOfMemory = false
