use Rattle.std.proofs.Common.{Some, sym, subst}
use Rattle.vx_keeping.specs.Keeping.{RunsWith}
use Rattle.vx_keeping.proofs.Calls.{new_keeps, new_none, reduce_begun, set_is}
use Rattle.vx_keeping.proofs.keeper.Keeper.reducing.Goals as goal

pub returns-clause-keeps : goal.returns-clause-keeps
returns-clause-keeps c =
    let o = c.in_ok-store.ensures in
    let r = c.in_ok-reduce.reduce in
    let e = c.in_ok-reduce.ensures in
    λ h i runs given holds.
    new_keeps c.in_ok-store.store (Some r) o.maker o.taken o.shelf o.discarded o.dropped e.groups h i (reduce_begun r h i (subst (RunsWith h i) (sym (set_is r c.args.settings e.rules e.starts e.ends e.expire e.period)) runs) e.groups e.since given) given holds

pub returns-clause-none : goal.returns-clause-none
returns-clause-none c =
    let o = c.in_ok-store.ensures in
    new_none c.in_ok-store.store (Some c.in_ok-reduce.reduce) o.maker o.taken o.shelf o.discarded c.in_ok-reduce.ensures.groups
