use Rattle.std.proofs.Common.{None}
use Rattle.vx_keeping.proofs.Calls.{new_keeps, host_begun}
use Rattle.vx_keeping.proofs.keeper.Keeper.hosting.Goals as goal

pub returns-clause-keeps : goal.returns-clause-keeps
returns-clause-keeps c =
    let o = c.in_ok-store.ensures in
    λ h i runs given holds. new_keeps c.in_ok-store.store None o.maker o.taken o.shelf o.discarded o.dropped tt h i (host_begun h i runs) given holds
