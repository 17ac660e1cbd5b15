use Rattle.std.proofs.lemmas.Result.{IfErr-weaker}
use Rattle.vx_landing.proofs.Landed.{attempt_behind, landed_attempted, landed_closed, landed_nothing, landed_out_of_memory, landed_starved, well_attempted}
use Rattle.vx_landing.proofs.Judging.{judged_behind, judged_well, lacks_memory, landed_judged, may_answer}
use Rattle.vx_landing.proofs.land.note_done.Goals as goal

pub returns-in-Nothing-clause-landed : goal.returns-in-Nothing-clause-landed
returns-in-Nothing-clause-landed g c = let r = c.requires in landed_nothing r.stands r.within (rw c.in-Nothing.is at r.back)

pub returns-in-Closed-clause-landed : goal.returns-in-Closed-clause-landed
returns-in-Closed-clause-landed g c = let r = c.requires in landed_closed r.stands r.within (rw c.in-Closed.is at r.back) c.note_closed.ensures

pub returns-in-OutOfMemory-clause-landed : goal.returns-in-OutOfMemory-clause-landed
returns-in-OutOfMemory-clause-landed g c = let r = c.requires in landed_out_of_memory r.stands r.within (rw c.in-OutOfMemory.is at r.back) c.mark_out_of_memory.ensures

pub returns-in-Starved-clause-landed : goal.returns-in-Starved-clause-landed
returns-in-Starved-clause-landed g c = let r = c.requires in landed_starved r.stands r.within (rw c.in-Starved.is at r.back) c.mark_starved.ensures

pub returns-in-Attempted-clause-landed : goal.returns-in-Attempted-clause-landed
returns-in-Attempted-clause-landed g c =
    let r = c.requires in landed_attempted r.stands r.within (rw c.in-Attempted.is at r.back) c.land_attempt.ensures

pub returns-in-Attempted-clause-well : goal.returns-in-Attempted-clause-well
returns-in-Attempted-clause-well g c =
    let r = c.requires in well_attempted r.stands r.within (rw c.in-Attempted.is at r.back) c.land_attempt.ensures

pub returns-in-Attempted-clause-noted : goal.returns-in-Attempted-clause-noted
returns-in-Attempted-clause-noted g c =
    let r = c.requires in rw c.in-Attempted.is (attempt_behind r.stands r.within (rw c.in-Attempted.is at r.back) c.land_attempt.ensures)

pub land_attempt-requires-clause-blackhole_ok : goal.land_attempt-requires-clause-blackhole_ok
land_attempt-requires-clause-blackhole_ok g c = let back = rw c.in-Attempted.is at c.requires.back in back.acted.blackhole_ok

pub land_judged-requires-clause-may : goal.land_judged-requires-clause-may
land_judged-requires-clause-may g c = let r = c.requires in may_answer r.stands (rw c.in-Judged.is at r.back)

pub returns-in-Judged-clause-landed : goal.returns-in-Judged-clause-landed
returns-in-Judged-clause-landed g c =
    let r = c.requires in
    let e = c.land_judged.ensures in
    landed_judged r.stands (rw c.in-Judged.is at r.back) r.within c.land_judged.result e.answered e.stands e.size e.capacities e.run e.owing e.unnoted

pub returns-in-Judged-clause-noted : goal.returns-in-Judged-clause-noted
returns-in-Judged-clause-noted g c =
    let r = c.requires in
    let e = c.land_judged.ensures in
    rw c.in-Judged.is (judged_behind r.stands (rw c.in-Judged.is at r.back) c.land_judged.new.engine c.land_judged.result e.answered e.unnoted)

pub returns-in-Judged-clause-well : goal.returns-in-Judged-clause-well
returns-in-Judged-clause-well g c =
    let r = c.requires in judged_well r.stands (rw c.in-Judged.is at r.back) c.land_judged.new.engine c.land_judged.result c.land_judged.ensures.answered

pub returns-in-Judged-clause-reason : goal.returns-in-Judged-clause-reason
returns-in-Judged-clause-reason g c =
    IfErr-weaker c.land_judged.result _ _ (λ short is. lacks_memory c.land_judged.new.engine.log short is) c.land_judged.ensures.short
