use Rattle.std.proofs.Common.{refl}
use Rattle.std.specs.Str.{chars, is_utf8}
use Rattle.std.specs.Str.Lossy.{utf8_lossy, utf8_valid_len, utf8_error_len}
use Rattle.std.specs.Fmt.{digits}
use Rattle.vx_json.specs.Machine.{number_datum}
use Rattle.vx_json.specs.Objects.{object_of}
use Rattle.vx_json.specs.Written.{escaped}
use Rattle.vx_examples.proofs.facts.Goals as goal

pub returns-clause-source_counts : goal.returns-clause-source_counts
returns-clause-source_counts c = refl

pub returns-clause-sink_counts : goal.returns-clause-sink_counts
returns-clause-sink_counts c = refl

pub returns-clause-source_bytes : goal.returns-clause-source_bytes
returns-clause-source_bytes c = refl

pub returns-clause-sink_bytes : goal.returns-clause-sink_bytes
returns-clause-sink_bytes c = refl

pub returns-clause-positions : goal.returns-clause-positions
returns-clause-positions c = refl

pub returns-clause-newest_counts : goal.returns-clause-newest_counts
returns-clause-newest_counts c = refl

pub returns-clause-unread_counts : goal.returns-clause-unread_counts
returns-clause-unread_counts c = refl

pub returns-clause-failed_counts : goal.returns-clause-failed_counts
returns-clause-failed_counts c = refl

pub returns-clause-unconfirmed_counts : goal.returns-clause-unconfirmed_counts
returns-clause-unconfirmed_counts c = refl

pub returns-clause-refused_counts : goal.returns-clause-refused_counts
returns-clause-refused_counts c = refl

pub returns-clause-undecodable_counts : goal.returns-clause-undecodable_counts
unfolding utf8_lossy utf8_valid_len utf8_error_len is_utf8 chars lib.Utf8.encode object_of number_datum escaped digits
returns-clause-undecodable_counts c = refl

pub returns-clause-cut : goal.returns-clause-cut
returns-clause-cut c = refl

pub returns-clause-cut_open : goal.returns-clause-cut_open
returns-clause-cut_open c = refl

pub returns-clause-cut_short : goal.returns-clause-cut_short
returns-clause-cut_short c = refl

pub returns-clause-likeness : goal.returns-clause-likeness
returns-clause-likeness c = refl

pub returns-clause-readers : goal.returns-clause-readers
returns-clause-readers c = refl

pub returns-clause-no_readers : goal.returns-clause-no_readers
returns-clause-no_readers c = refl

pub returns-clause-waits : goal.returns-clause-waits
returns-clause-waits c = refl

pub returns-clause-no_wait : goal.returns-clause-no_wait
returns-clause-no_wait c = refl

pub returns-clause-retry_waits : goal.returns-clause-retry_waits
returns-clause-retry_waits c = refl

pub returns-clause-replaced : goal.returns-clause-replaced
unfolding utf8_lossy utf8_valid_len utf8_error_len is_utf8 chars lib.Utf8.encode
returns-clause-replaced c = refl

pub returns-clause-empty_read : goal.returns-clause-empty_read
returns-clause-empty_read c = refl

pub returns-clause-retry_at_the_end : goal.returns-clause-retry_at_the_end
returns-clause-retry_at_the_end c = refl

pub returns-clause-timeout_at_the_end : goal.returns-clause-timeout_at_the_end
returns-clause-timeout_at_the_end c = refl

pub returns-clause-filter_counts : goal.returns-clause-filter_counts
returns-clause-filter_counts c = refl

pub returns-clause-route_counts : goal.returns-clause-route_counts
returns-clause-route_counts c = refl

pub returns-clause-reduce_counts : goal.returns-clause-reduce_counts
returns-clause-reduce_counts c = refl

pub returns-clause-joined_counts : goal.returns-clause-joined_counts
returns-clause-joined_counts c = refl

pub returns-clause-two_batch_counts : goal.returns-clause-two_batch_counts
returns-clause-two_batch_counts c = refl

pub returns-clause-overflow_counts : goal.returns-clause-overflow_counts
returns-clause-overflow_counts c = refl

pub returns-clause-generator_counts : goal.returns-clause-generator_counts
returns-clause-generator_counts c = refl

pub returns-clause-layers_wait : goal.returns-clause-layers_wait
returns-clause-layers_wait c = refl

pub returns-clause-layers_do_not_wait : goal.returns-clause-layers_do_not_wait
returns-clause-layers_do_not_wait c = refl

pub returns-clause-rests_behind_a_read : goal.returns-clause-rests_behind_a_read
returns-clause-rests_behind_a_read c = refl

pub returns-clause-rests_behind_an_idle : goal.returns-clause-rests_behind_an_idle
returns-clause-rests_behind_an_idle c = refl

pub returns-clause-rests_behind_a_failed_start : goal.returns-clause-rests_behind_a_failed_start
returns-clause-rests_behind_a_failed_start c = refl

pub returns-clause-retry_moment : goal.returns-clause-retry_moment
returns-clause-retry_moment c = refl
