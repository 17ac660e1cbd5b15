-- What the runs with a reduce and with three transforms in a row ask for beside what is found of them.
use Rattle.std.proofs.Common.{[], ◌∷◌, refl, arith}
use Rattle.std.specs.Str.{chars, is_utf8}
use Rattle.std.specs.Str.Lossy.{utf8_lossy, utf8_valid_len}
use Rattle.vx_graph.specs.Order.{in_order, enter}
use Rattle.vx_record.specs.Parcels.{port_list}
use Rattle.vx_record.specs.Transforms.{is_free}
use Rattle.vx_examples.specs.Phrases.{so_far}
use Rattle.vx_examples.specs.Joined as joined
use Rattle.vx_examples.specs.Chained as chained
use Rattle.vx_examples.proofs.Plans.{stands}
use Rattle.vx_examples.proofs.Findings.{AllBeside}
use Rattle.vx_examples.proofs.Transforming.{reduce_rule, joins, second_rule, seconds, repeats_rule, repeats, host}

-- the reduce keeps what it took
beside_kept : AllBeside (so_far 20 joined.run)
unfolding utf8_lossy utf8_valid_len is_utf8 chars port_list lib.Utf8.encode in_order enter
beside_kept = (record { rule = reduce_rule; follows = joins _ refl; made = refl; refused = refl; same = λ c. omega arith }, (stands (2 ∷ 0 ∷ 1 ∷ []) joined.plan refl, tt))

-- it ticks once
beside_checked : AllBeside (so_far 23 joined.run)
unfolding utf8_lossy utf8_valid_len is_utf8 chars port_list lib.Utf8.encode
beside_checked = (record { rule = reduce_rule; follows = joins _ refl; reached = refl }, (λ e. record { sent = refl; due = record { rule = reduce_rule; follows = joins _ refl; reached = refl } }, beside_kept))

-- and is flushed
pub beside_joined : AllBeside (so_far 36 joined.run)
unfolding utf8_lossy utf8_valid_len is_utf8 chars port_list lib.Utf8.encode
beside_joined = (record { rule = reduce_rule; follows = joins _ refl; made = refl; refused = refl; same = λ c. omega arith }, (record { rule = reduce_rule; follows = joins _ refl; made = refl; refused = refl; same = λ c. omega arith }, beside_checked))

-- the sample answers
beside_sample : AllBeside (so_far 16 chained.run)
unfolding utf8_lossy utf8_valid_len is_utf8 chars port_list lib.Utf8.encode in_order enter
beside_sample = (record { rule = second_rule; follows = seconds _ refl; made = refl; refused = refl; same = λ c. omega arith }, (stands (2 ∷ 1 ∷ 4 ∷ 0 ∷ 3 ∷ []) chained.plan refl, tt))

-- then the dedupe
pub beside_two : AllBeside (so_far 31 chained.run)
unfolding utf8_lossy utf8_valid_len is_utf8 chars port_list lib.Utf8.encode
beside_two = (record { rule = repeats_rule; follows = repeats _ refl; made = refl; refused = refl; same = λ c. omega arith }, beside_sample)

-- and the host ticks
pub beside_tick : AllBeside (so_far 33 chained.run)
unfolding utf8_lossy utf8_valid_len is_utf8 chars port_list lib.Utf8.encode
beside_tick = (record { rule = is_free; follows = host _ refl; reached = tt }, beside_two)
