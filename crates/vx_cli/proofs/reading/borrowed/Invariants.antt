use Rattle.std.proofs.Common.{◌≡◌, take}
use Rattle.clap.specs.Walk.{texts}
use Rattle.vx_cli.proofs.reading.borrowed.Given as goal

abbrev pub invariant-loop-word : goal.invariant-loop-word
invariant-loop-word l = texts l.list.items ≡ take l.word-index l.words
