use Rattle.std.proofs.Common.{[], ◌∷◌, refl, sym, arith}
use Rattle.std.proofs.Math.Dec.{lit<}
use Rattle.std.specs.Str.{chars, is_utf8}
use Rattle.std.specs.Str.Lossy.{utf8_lossy, utf8_valid_len}
use Rattle.vx_graph.specs.Order.{in_order, enter}
use Rattle.vx_record.specs.declared.taken.Taken.TheVariants.{Bytes, AllEnded}
use Rattle.vx_record.specs.Parcels.{port_list}
use Rattle.vx_record.specs.Transforms.{is_free}
use Rattle.vx_examples.specs.Filtered as filtered
use Rattle.vx_examples.specs.Routed as routed
use Rattle.vx_examples.specs.Joined as joined
use Rattle.vx_examples.specs.Retried as retried
use Rattle.vx_examples.specs.Overflowing as overflowing
use Rattle.vx_examples.specs.Generated as generated_run
use Rattle.vx_examples.specs.Chained as chained
use Rattle.vx_examples.proofs.Plans.{stands}
use Rattle.vx_examples.proofs.ByFindings.{legal_by}
use Rattle.vx_examples.proofs.Closing.{closed_by}
use Rattle.vx_examples.proofs.Transforming.{route_rule, routes, host, one_next, generated}
use Rattle.vx_examples.proofs.FilteredLegal.{legal}
use Rattle.vx_examples.proofs.Chains.{beside_joined, beside_tick}
use Rattle.vx_examples.proofs.transforming_runs.Goals as goal

pub returns-clause-filtered_legal : goal.returns-clause-filtered_legal
returns-clause-filtered_legal c = legal

pub returns-clause-routed_legal : goal.returns-clause-routed_legal
unfolding utf8_lossy utf8_valid_len is_utf8 chars port_list lib.Utf8.encode in_order enter
returns-clause-routed_legal c = legal_by routed.run refl (record { rule = route_rule; follows = routes _ refl; made = refl; refused = refl; same = λ c. omega arith }, (stands (2 ∷ 0 ∷ 1 ∷ []) routed.plan refl, tt))

pub returns-clause-joined_legal : goal.returns-clause-joined_legal
unfolding utf8_lossy utf8_valid_len is_utf8 chars port_list lib.Utf8.encode in_order enter
returns-clause-joined_legal c = legal_by joined.run refl beside_joined

pub returns-clause-retried_legal : goal.returns-clause-retried_legal
unfolding utf8_lossy utf8_valid_len is_utf8 chars port_list lib.Utf8.encode in_order enter
returns-clause-retried_legal c = legal_by retried.run refl beside_joined

pub returns-clause-overflowing_legal : goal.returns-clause-overflowing_legal
unfolding utf8_lossy utf8_valid_len is_utf8 chars port_list lib.Utf8.encode in_order enter
returns-clause-overflowing_legal c = legal_by overflowing.run refl ((1, record { next = lit< tt; full = refl; drops = refl }), (stands (1 ∷ 0 ∷ []) overflowing.plan refl, tt))

pub returns-clause-generated_legal : goal.returns-clause-generated_legal
unfolding utf8_lossy utf8_valid_len is_utf8 chars port_list lib.Utf8.encode in_order enter
returns-clause-generated_legal c = legal_by generated_run.run refl (generated _ AllEnded refl (record { none = refl; of_stream = refl }), (generated _ (Bytes (113 ∷ 10 ∷ [])) refl (record { some = lit< tt; of_stream = refl; lines = sym (one_next 1) }), (generated _ (Bytes (113 ∷ 10 ∷ [])) refl (record { some = lit< tt; of_stream = refl; lines = sym (one_next 0) }), (stands (1 ∷ 0 ∷ []) generated_run.plan refl, tt))))

pub returns-clause-chained_legal : goal.returns-clause-chained_legal
unfolding utf8_lossy utf8_valid_len is_utf8 chars port_list lib.Utf8.encode in_order enter
returns-clause-chained_legal c = legal_by chained.run refl (record { rule = is_free; follows = host _ refl; made = refl; refused = tt; same = λ c. omega arith }, beside_tick)

pub returns-clause-filtered_closed : goal.returns-clause-filtered_closed
returns-clause-filtered_closed c = closed_by filtered.run refl refl refl

pub returns-clause-routed_closed : goal.returns-clause-routed_closed
returns-clause-routed_closed c = closed_by routed.run refl refl refl

pub returns-clause-joined_closed : goal.returns-clause-joined_closed
returns-clause-joined_closed c = closed_by joined.run refl refl refl

pub returns-clause-retried_closed : goal.returns-clause-retried_closed
returns-clause-retried_closed c = closed_by retried.run refl refl refl

pub returns-clause-overflowing_closed : goal.returns-clause-overflowing_closed
returns-clause-overflowing_closed c = closed_by overflowing.run refl refl refl

pub returns-clause-generated_closed : goal.returns-clause-generated_closed
returns-clause-generated_closed c = closed_by generated_run.run refl refl refl

pub returns-clause-chained_closed : goal.returns-clause-chained_closed
returns-clause-chained_closed c = closed_by chained.run refl refl refl
