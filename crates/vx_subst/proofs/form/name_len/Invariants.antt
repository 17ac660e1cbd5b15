use Rattle.std.proofs.Common.{◌≡◌, ◌+◌, drop}
use Rattle.std.specs.List.{prefix_len}
use Rattle.vx_subst.specs.Pieces.{is_name_byte}
use Rattle.vx_subst.proofs.form.name_len.Given as goal

abbrev pub invariant-loop-i : goal.invariant-loop-i
invariant-loop-i l = prefix_len is_name_byte l.text ≡ l.i + prefix_len is_name_byte (drop l.i l.text)
