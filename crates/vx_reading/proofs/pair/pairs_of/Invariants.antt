use Rattle.std.proofs.Common.{◌≡◌, ◌++◌}
use Rattle.toml.specs.View.{members_view}
use Rattle.vx_reading.specs.Judging.{pairs_of}
use Rattle.vx_reading.specs.Views.{pairs_view}
use Rattle.vx_reading.proofs.pair.pairs_of.Given as goal

-- what is left to add makes the list whole
abbrev pub invariant-members : goal.invariant-members
invariant-members l = pairs_view l.pairs.items ++ pairs_of (members_view l.name-iterator) ≡ pairs_of (members_view l.table.entries)
