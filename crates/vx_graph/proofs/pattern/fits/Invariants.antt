use Rattle.std.proofs.Common.{◌≡◌, ◌+◌, length}
use Rattle.vx_graph.specs.Patterns.{is_like}
use Rattle.vx_graph.specs.Turns.{left_text}
use Rattle.vx_graph.proofs.Likeness.{answer}
use Rattle.vx_graph.proofs.pattern.fits.Given as goal

abbrev pub invariant-places : goal.invariant-places
invariant-places l = is_like l.fn.pattern (left_text l.fn.text) ≡ answer l.starred l.form (left_text l.rest)

abbrev pub decreases-places : goal.decreases-places
decreases-places l = length l.form + length (left_text l.rest)
