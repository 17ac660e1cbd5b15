use Rattle.std.proofs.Common.{ap}
use Rattle.vx_sourcecore.specs.Turns.{reading_of}
use Rattle.vx_landing.proofs.Landed.{landed_idle, landed_failed}
use Rattle.vx_landing.proofs.land.note_turn.Goals as goal

pub note_idle-requires-clause-device : goal.note_idle-requires-clause-device
note_idle-requires-clause-device g c = c.requires.back.acted.ported (ap reading_of c.in-Idle.is)

pub note_failed-requires-clause-device : goal.note_failed-requires-clause-device
note_failed-requires-clause-device g c = c.requires.back.acted.ported (ap reading_of c.in-Failed.is)

pub returns-in-Idle-clause-landed : goal.returns-in-Idle-clause-landed
returns-in-Idle-clause-landed g c = let r = c.requires in landed_idle r.stands r.within (rw c.in-Idle.is at r.back) c.note_idle.ensures

pub returns-in-Failed-clause-landed : goal.returns-in-Failed-clause-landed
returns-in-Failed-clause-landed g c = let r = c.requires in landed_failed r.stands r.within (rw c.in-Failed.is at r.back) c.note_failed.ensures
