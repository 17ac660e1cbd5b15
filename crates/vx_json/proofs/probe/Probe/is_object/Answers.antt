use Rattle.std.proofs.Common.{◌∙◌}
use Rattle.vx_json.proofs.Probed.{observed-by, observed-none}
use Rattle.vx_json.proofs.probe.Probe.is_object.Goals as goal

pub returns-in-Some : goal.returns-in-Some
returns-in-Some c = λ bytes h. c.ends_object.ensures ∙ observed-by bytes c.args.self.now c.in-Some.probe_mode c.in-Some.is h

pub returns-in-None : goal.returns-in-None
returns-in-None c = λ bytes h. observed-none bytes c.args.self.now c.in-None.is h
