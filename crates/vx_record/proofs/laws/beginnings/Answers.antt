use Rattle.vx_record.proofs.After.{beginning_legal}
use Rattle.vx_record.proofs.laws.beginnings.Goals as goal

pub returns : goal.returns
returns c = beginning_legal
