use Rattle.std.proofs.Common.{ℕ, ap}
use Rattle.vx_json.specs.Probing.{HasProbed}
use Rattle.vx_json.specs.ProbeModes.{Before, stands}
use Rattle.vx_json.proofs.probe.Probe.new.Goals as goal

pub returns : goal.returns
unfolding HasProbed
returns c = ap (λ (n : ℕ). stands Before n) c.none.ensures
