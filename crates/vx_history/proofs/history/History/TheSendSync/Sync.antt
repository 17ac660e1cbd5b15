-- Nothing is reached through a `&`, so any thread may share it.
use denote.RattleType.{RattleType}
use denote.Param.Send.{IsSync, part_keyless}
use Rattle.vx_history.specs.contracts.history.History.{the_row}
use Rattle.vx_history.specs.contracts.history.History.TheInside.{the_row as inside}
use Rattle.vx_history.proofs.history.History.TheSendSync.Send.{inside_send}

pub sync : (E : RattleType) → IsSync (the_row E)
sync E = record { shared = λ d b o κ x. ((λ q. part_keyless (inside E) (inside_send E) q x.0 b o), tt) }
