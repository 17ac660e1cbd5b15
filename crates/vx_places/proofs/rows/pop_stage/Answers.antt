use Rattle.std.proofs.Common.{arith, refl, ap, Some, length}
use Rattle.vx_places.proofs.Written.{stage_of, stage_written, takes, keeps, stage_capacity_kept}
use Rattle.vx_places.proofs.rows.pop_stage.Goals as goal

pub index_mut-requires-2 : goal.index_mut-requires-2
index_mut-requires-2 c =
    let ok = c.index_mut.result.now.stages.ok in omega (arith, ok, (stage_of c.args.rows.now.items c.args.i _ c.requires.within c.index_mut.ensures.value _ c.args.s c.requires.some).0)

pub unreachable-requires : goal.unreachable-requires
unreachable-requires c =
    let some = (stage_of c.args.rows.now.items c.args.i _ c.requires.within c.index_mut.ensures.value _ c.args.s c.requires.some).1 _ c.index_mut-2.ensures.value in
    let none = ap length (c.in-None.ensures.none.0 refl) in omega (arith, some, none)

pub returns-clause-takes : goal.returns-clause-takes
returns-clause-takes c =
    let l = (stage_of c.args.rows.now.items c.args.i _ c.requires.within c.index_mut.ensures.value _ c.args.s c.requires.some).0 in
    let change = stage_written _ _ _ c.requires.within c.index_mut.ensures.value c.args.s _ _ l c.index_mut-2.ensures.value in
    takes change _ _ (ap Some c.in-Some.ensures.some) refl (keeps change (λ j. refl))

pub returns-clause-capacities : goal.returns-clause-capacities
returns-clause-capacities c = search stage_capacity_kept
