use Rattle.std.proofs.Common.{◌≡◌, drop}
use Rattle.std.specs.List.{list_any}
use Rattle.vx_value.specs.Texts.{same_text}
use Rattle.vx_keeping.specs.Assigning.{names_of}
use Rattle.vx_keeping.proofs.host_list.HostList.has.Given as goal

-- the names that are left say what all say
abbrev pub invariant-loop-host : goal.invariant-loop-host
invariant-loop-host g l = list_any (same_text l.name) (names_of (drop l.host-index l.host-items)) ≡ list_any (same_text l.name) (names_of l.host-items)
