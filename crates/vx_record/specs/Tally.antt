-- The counts of an instance that did nothing.
use Rattle.vx_record.specs.declared.tally.Tally.{Tally}

abbrev pub nothing_counted : Tally
nothing_counted = record {
  read = 0;
  lines = 0;
  overlong = 0;
  undecodable = 0;
  events = 0;
  unread = 0;
  batches = 0;
  delivered = 0;
  errored = 0;
  rejected = 0;
  confirmed = 0;
  taken = 0;
  sent = 0;
  dropped = 0;
  newest = 0;
  attempts = 0;
  bytes = 0;
}
