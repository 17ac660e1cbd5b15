use Rattle.vx_places.proofs.Recorded.{output_is, none_waits_is, awaits_is, sent_is, some_is, buffer_is, holds_is, bare_is_bare, clear_is_clear, clear_bare_is}
use Rattle.vx_places.proofs.Firsts.{first_room_is, first_filled_is}
use Rattle.vx_places.proofs.laws.looks_laws.Goals as goal

pub returns : goal.returns
returns c = record {
  output = output_is;
  waiting = none_waits_is;
  awaits = awaits_is;
  sent = sent_is;
  some = some_is;
  buffer = buffer_is;
  held = holds_is;
  bare = bare_is_bare;
  clear = clear_is_clear;
  clear_bare = clear_bare_is;
  room = first_room_is;
  first = first_filled_is;
}
