use Rattle.vx_landing.proofs.Landed.{born_behind, lacks, landed_cut, landed_unborn, landed_uncut, nothing_behind, well_cut, yields}
use Rattle.vx_landing.proofs.land.land_read.Goals as goal

pub returns-in-None-clause-landed : goal.returns-in-None-clause-landed
returns-in-None-clause-landed g c =
    let r = c.requires in landed_uncut r.stands r.within c.note_read.new.engine r.back c.note_read.ensures c.in-None.ensures.none c.mark_out_of_memory.ensures

pub returns-in-None-clause-noted : goal.returns-in-None-clause-noted
returns-in-None-clause-noted g c = let r = c.requires in nothing_behind r.stands r.within c.note_read.new.engine r.back c.note_read.ensures c.mark_out_of_memory.ensures.log

pub create_cut_batch-requires-clause-yields : goal.create_cut_batch-requires-clause-yields
create_cut_batch-requires-clause-yields g c =
    let r = c.requires in yields r.stands r.within c.note_read.new.engine r.back c.note_read.ensures c.in-Some.ensures.some.0 c.in-Some.ensures.some.1

pub returns-in-Ok-clause-landed : goal.returns-in-Ok-clause-landed
returns-in-Ok-clause-landed g c =
    let r = c.requires in
    let born = c.create_cut_batch.ensures in
    landed_cut r.stands r.within c.note_read.new.engine r.back c.note_read.ensures c.in-Some.ensures.some.0 c.in-Ok.ensures.created
    (record { states = c.in-Ok.ensures.well; capacities = born.capacities; run = born.run }) born.size

pub returns-in-Ok-clause-noted : goal.returns-in-Ok-clause-noted
returns-in-Ok-clause-noted g c =
    let r = c.requires in born_behind r.stands r.within c.note_read.new.engine r.back c.note_read.ensures c.in-Some.ensures.some.0 c.in-Ok.ensures.created

pub returns-in-Ok-clause-well : goal.returns-in-Ok-clause-well
returns-in-Ok-clause-well g c =
    let r = c.requires in
    well_cut r.stands r.within c.note_read.new.engine r.back c.note_read.ensures c.in-Some.ensures.some.0
    (record { states = c.in-Ok.ensures.well; capacities = c.create_cut_batch.ensures.capacities; run = c.create_cut_batch.ensures.run })

pub returns-in-Err-clause-landed : goal.returns-in-Err-clause-landed
returns-in-Err-clause-landed g c =
    let r = c.requires in
    let born = c.create_cut_batch.ensures in
    landed_unborn r.stands r.within c.note_read.new.engine r.back c.note_read.ensures c.in-Some.ensures.some.0 born.stands c.in-Err.ensures.unborn born.size born.capacities born.run c.in-Err.ensures.owing

pub returns-in-Err-clause-noted : goal.returns-in-Err-clause-noted
returns-in-Err-clause-noted g c = let r = c.requires in nothing_behind r.stands r.within c.note_read.new.engine r.back c.note_read.ensures c.in-Err.ensures.unborn

pub returns-in-Err-clause-reason : goal.returns-in-Err-clause-reason
returns-in-Err-clause-reason g c =
    let r = c.requires in
    let some = c.in-Some.ensures.some in
    lacks r.stands r.within c.note_read.new.engine r.back c.note_read.ensures some.0 c.in-Some.stream c.in-Err.short some.1 c.in-Err.ensures.unborn c.in-Err.ensures.short
