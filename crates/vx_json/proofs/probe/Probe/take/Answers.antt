use Rattle.vx_json.proofs.Probed.{takes, takes-none}
use Rattle.vx_json.proofs.probe.Probe.take.Goals as goal

pub returns-in-Some : goal.returns-in-Some
returns-in-Some c = λ bytes h. takes bytes c.args.byte c.args.self.now (record { probe_mode = c.step-self.result; nesting = c.step-self.new.nesting }) c.in-Some.probe_mode c.in-Some.is c.step-self.ensures h

pub returns-in_default : goal.returns-in_default
returns-in_default c = λ bytes h. takes-none bytes c.args.byte c.args.self.now c.in_default.is h
