-- A history owns nothing, so it may go to any thread.
use denote.RattleType.{RattleType}
use denote.Param.Send.{IsSend}
use Rattle.vx_history.specs.contracts.history.History.{the_row}
use Rattle.vx_history.specs.contracts.history.History.TheInside.{the_row as inside}

pub inside_send : (E : RattleType) → IsSend (inside E)
inside_send E = record { owned = λ d vs. ((λ vss. (tt, ((λ uss. (tt, tt)), tt))), tt); leaving = λ k f vs. tt }

pub send : (E : RattleType) → IsSend (the_row E)
send E = record { owned = λ d vs x. ((inside_send E).owned x.0 vs, tt); leaving = λ k f vs. tt }
