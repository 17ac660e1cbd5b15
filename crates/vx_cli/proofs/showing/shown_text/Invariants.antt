use Rattle.std.proofs.Common.{◌≡◌, string_bytes, ◌-◌, ◌≤◌, ◌++◌, length, drop}
use Rattle.std.specs.Str.{chars}
use Rattle.std.specs.String.{string_len}
use Rattle.vx_cli.specs.Shown.{shown_within}
use Rattle.vx_cli.proofs.showing.shown_text.Given as goal

-- what stands in the line fits, and with what the rest is printed as it is what all is printed as
abbrev pub invariant-loop-c : goal.invariant-loop-c
invariant-loop-c l =
    (string_len l.line ≤ 256)
    × (string_bytes l.line ++ shown_within (256 - string_len l.line) (drop (length l.yielded) (chars l.text)) ≡ shown_within 256 (chars l.text))
