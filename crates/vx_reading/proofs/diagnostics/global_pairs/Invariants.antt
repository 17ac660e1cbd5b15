use Rattle.std.proofs.Common.{◌≡◌, ◌++◌, not, filter, drop}
use Rattle.vx_reading.specs.Diagnostics.{is_section}
use Rattle.vx_reading.specs.Judging.{Pair}
use Rattle.vx_reading.specs.Views.{pairs_view}
use Rattle.vx_reading.proofs.diagnostics.global_pairs.Given as goal

-- what is left to add makes the list whole
abbrev pub invariant-loop-pair : goal.invariant-loop-pair
invariant-loop-pair l =
    pairs_view l.kept.items ++ filter (λ (p : Pair). not (is_section p.name)) (pairs_view (drop l.pair-index l.pairs))
    ≡ filter (λ (p : Pair). not (is_section p.name)) (pairs_view l.pairs)
