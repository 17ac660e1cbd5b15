use Rattle.vx_sourcecore.proofs.Prefixing.{ask_none, ask_some}
use Rattle.vx_sourcecore.proofs.prefix.Prefix.due.Goals as goal

pub returns-in-Some : goal.returns-in-Some
returns-in-Some c judged births asked is = ask_some c.args.self.now c.in-Some.due judged births asked c.in-Some.is is

pub returns-in-None : goal.returns-in-None
returns-in-None c judged births asked is = ask_none c.args.self.now judged births asked c.in-None.is is
