use Rattle.vx_keeping.proofs.Going.{keeps_stays, made_keeps, none_taken}
use Rattle.vx_keeping.proofs.Answering.{to_answer_taken, to_answer_tick, to_answer_flush, due_is, tick_is_due, no_tick_before, only_hosts_discard, made_may_be_noted, kept_nothing, may_answer_made}
use Rattle.vx_keeping.proofs.Others.{keeps_goes_on, made_goes_on, outputs_known}
use Rattle.vx_keeping.proofs.Resting.{ticks_stay, nothing_given, nothing_made, holds_nothing, nothing_taken}
use Rattle.vx_keeping.proofs.laws.keeping_laws.Goals as goal

pub returns : goal.returns
returns c = record {
  keeps = keeps_stays;
  made = made_keeps;
  others = keeps_goes_on;
  others_made = made_goes_on;
  ticks = ticks_stay;
  none = none_taken;
  discards = only_hosts_discard;
  back = nothing_made;
  given = nothing_given;
  holds = holds_nothing;
  empty = nothing_taken;
  taken = to_answer_taken;
  tick = to_answer_tick;
  flush = to_answer_flush;
  due = due_is;
  tick_due = tick_is_due;
  not_before = no_tick_before;
  notes = made_may_be_noted;
  known = outputs_known;
  nothing = kept_nothing;
  may = may_answer_made;
}
