use Rattle.std.proofs.Common.{arith, refl, ap, Some}
use Rattle.vx_places.proofs.Written.{stage_of, stage_written, puts, stage_capacity_kept}
use Rattle.vx_places.proofs.rows.push_stage.Goals as goal

pub index_mut-requires-2 : goal.index_mut-requires-2
index_mut-requires-2 c =
    let ok = c.index_mut.result.now.stages.ok in omega (arith, ok, (stage_of c.args.rows.now.items c.args.t _ c.requires.within c.index_mut.ensures.value _ c.args.s c.requires.room).0)

pub push-requires : goal.push-requires
push-requires c = (stage_of c.args.rows.now.items c.args.t _ c.requires.within c.index_mut.ensures.value _ c.args.s c.requires.room).1 _ c.index_mut-2.ensures.value

pub returns-clause-puts : goal.returns-clause-puts
returns-clause-puts c =
    let l = (stage_of c.args.rows.now.items c.args.t _ c.requires.within c.index_mut.ensures.value _ c.args.s c.requires.room).0 in
    puts (stage_written _ _ _ c.requires.within c.index_mut.ensures.value c.args.s _ _ l c.index_mut-2.ensures.value) _ _ refl (ap Some c.push.ensures.items)

pub returns-clause-capacities : goal.returns-clause-capacities
returns-clause-capacities c = search stage_capacity_kept
