use Rattle.vx_tasks.proofs.Answering.{judge_is, each_judged, held_distinct, answers_now, answer_kept}
use Rattle.vx_tasks.proofs.Closing.{closed_stays}
use Rattle.vx_tasks.proofs.Doing.{starved_beyond}
use Rattle.vx_tasks.proofs.Dividing.{answer_divides, answer_known}
use Rattle.vx_tasks.proofs.Kept.{left_kept, done_kept}
use Rattle.vx_tasks.proofs.laws.task_laws.Goals as goal

pub returns : goal.returns
returns g c = record {
  left = left_kept g.P.Port.observed;
  done = done_kept g.P.Port.observed;
  starved = starved_beyond g.P.Port.observed;
  closed = closed_stays;
  judge = judge_is g.P.Port.observed;
  judged = each_judged g.P.Port.observed;
  distinct = held_distinct g.P.Port.observed;
  answers = answers_now g.P.Port.observed;
  kept = answer_kept g.P.Port.observed;
  divides = answer_divides;
  known = answer_known;
}
