use Rattle.std.proofs.Common.{◌≡◌, take, fold, None}
use Rattle.vx_ends_os.specs.Ends.{with_end}
use Rattle.vx_ends_os.proofs.file_in.greatest_end.Given as goal

abbrev pub invariant-loop-position : goal.invariant-loop-position
invariant-loop-position l = l.greatest ≡ fold with_end None (take l.position-index l.positions)
