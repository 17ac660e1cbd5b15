use Rattle.std.specs.Prelude.{◌==◌, slice_index_or}
use Rattle.std.proofs.Common.{refl, sym, arith, inl, inr, ◌∙◌, [], ◌∷◌}
use Rattle.vx_value.specs.Texts.{ByteString, same_text}
use Rattle.vx_value.specs.declared.event.Event.{Event}
use Rattle.vx_codec.specs.declared.codec.Codec.TheVariants as codec
use Rattle.vx_record.specs.Encoding.{encode_event}
use Rattle.vx_record.specs.Parcels.{port_list}
use Rattle.vx_record.proofs.Ticks.{no_rule, not_ready}
use Rattle.vx_examples.specs.Phrases.{so_far}
use Rattle.vx_examples.specs.Generated.{q_lines}
use Rattle.vx_examples.specs.Filtered as filtered
use Rattle.vx_examples.specs.Retried as retried
use Rattle.vx_examples.specs.Generated as generated
use Rattle.vx_examples.specs.RefusedTransforms.{answer_unleased, answer_of_a_sink, answer_that_loses, answer_that_doubles, answer_of_another_copy, answer_in_another_order, filter_that_keeps, lease_owing_an_answer, lease_owing_a_discard, second_answer, filtered_though_passed, take_behind_an_answer, split_of_another_port, split_of_another_event, tick_of_a_filter, lease_of_an_idle_transform, retired_with_a_kept_parcel, unread_though_a_way_is_read, split_of_an_unread_port, no_such_port, lease_before_the_tick, tick_at_another_moment, second_tick, flush_too_soon, joined_in_another_order, joined_with_another_event, young_group_put_out, split_of_a_part, notice_of_another_batch, other_lines, lines_past_the_count, refused_by_a_blackhole, push_past_the_first_stage, dropped_with_room_behind, take_past_the_first_stage, answer_after_an_abandon, tick_after_an_abandon, tick_unleased, flush_with_contents, ended_with_lines_left, lines_of_another_stream, bytes_into_a_blackhole, host_that_loses, repeat_put_out, second_put_out, host_without_a_copy, host_on_no_port, host_past_the_last_port, two_ticks, take_behind_a_tick, flush_that_keeps, ended_on_another_stream, hasty_retry, restless_lease}
use Rattle.vx_examples.proofs.Transforming.{one_next}
use Rattle.vx_examples.proofs.Refusals.{never, different}
use Rattle.vx_examples.proofs.Reasons.{filter_never_due, not_due_yet, checked_already, flushed, first_is_two, says_a, too_young, keeps_none, has_two_ports, repeats_once, seconds_alone, has_room, host_puts_out}
use Rattle.vx_examples.proofs.refused_transforms.Goals as goal

pub returns-clause-answer_unleased : goal.returns-clause-answer_unleased
returns-clause-answer_unleased c = never answer_unleased (λ l. let e = l.0.row.out in cc)

pub returns-clause-answer_in_another_order : goal.returns-clause-answer_in_another_order
returns-clause-answer_in_another_order c = never answer_in_another_order (λ l. let e = l.0.row.in_order in cc)

pub returns-clause-lease_owing_an_answer : goal.returns-clause-lease_owing_an_answer
returns-clause-lease_owing_an_answer c = never lease_owing_an_answer (λ l. let e = l.0.row.settled in cc)

pub returns-clause-lease_owing_a_discard : goal.returns-clause-lease_owing_a_discard
returns-clause-lease_owing_a_discard c = never lease_owing_a_discard (λ l. let e = l.0.row.settled in cc)

pub returns-clause-second_answer : goal.returns-clause-second_answer
returns-clause-second_answer c = never second_answer (λ l. let e = l.0.row.settled in cc)

pub returns-clause-take_behind_an_answer : goal.returns-clause-take_behind_an_answer
returns-clause-take_behind_an_answer c = never take_behind_an_answer (λ l. let e = l.0.row.only_takes in cc)

pub returns-clause-notice_of_another_batch : goal.returns-clause-notice_of_another_batch
returns-clause-notice_of_another_batch c = never notice_of_another_batch (λ l. let e = l.0.row.due in cc)

pub returns-clause-push_past_the_first_stage : goal.returns-clause-push_past_the_first_stage
returns-clause-push_past_the_first_stage c = never push_past_the_first_stage (λ l. let e = l.0.row.room in cc)

pub returns-clause-take_past_the_first_stage : goal.returns-clause-take_past_the_first_stage
returns-clause-take_past_the_first_stage c = never take_past_the_first_stage (λ l. let e = l.0.row.first in cc)

pub returns-clause-tick_unleased : goal.returns-clause-tick_unleased
returns-clause-tick_unleased c = never tick_unleased (λ l. let e = l.0.row.out in cc)

pub returns-clause-bytes_into_a_blackhole : goal.returns-clause-bytes_into_a_blackhole
returns-clause-bytes_into_a_blackhole c = never bytes_into_a_blackhole (λ l. let e = l.0.row.given in cc)

pub returns-clause-two_ticks : goal.returns-clause-two_ticks
returns-clause-two_ticks c = never two_ticks (λ l. let e = l.0.row.once in cc)

pub returns-clause-answer_of_a_sink : goal.returns-clause-answer_of_a_sink
returns-clause-answer_of_a_sink c = never answer_of_a_sink (λ l. no_rule (so_far 19 filtered.run) 2 l.0.row.rule refl l.0.row.follows)

pub returns-clause-answer_that_loses : goal.returns-clause-answer_that_loses
returns-clause-answer_that_loses c = never answer_that_loses (λ l. let e = l.0.row.same 2 in omega arith)

pub returns-clause-answer_that_doubles : goal.returns-clause-answer_that_doubles
returns-clause-answer_that_doubles c = never answer_that_doubles (λ l. let e = l.0.row.same 3 in omega arith)

pub returns-clause-answer_of_another_copy : goal.returns-clause-answer_of_another_copy
returns-clause-answer_of_another_copy c = never answer_of_another_copy (λ l. let e = l.0.row.same 1 in omega arith)

pub returns-clause-filter_that_keeps : goal.returns-clause-filter_that_keeps
returns-clause-filter_that_keeps c = never filter_that_keeps (λ l. keeps_none l.0.row)

pub returns-clause-filtered_though_passed : goal.returns-clause-filtered_though_passed
returns-clause-filtered_though_passed c = never filtered_though_passed (λ l. let e = l.0.row.cause in omega arith)

pub returns-clause-split_of_another_port : goal.returns-clause-split_of_another_port
returns-clause-split_of_another_port c = never split_of_another_port (λ l. let e = l.0.row.split.on_ports in omega arith)

pub returns-clause-split_of_another_event : goal.returns-clause-split_of_another_event
returns-clause-split_of_another_event c = never split_of_another_event (λ l. different (λ (event : Event). same_text (encode_event codec.Text event) (97 ∷ 10 ∷ [])) refl refl l.0.row.split.same_event)

pub returns-clause-tick_of_a_filter : goal.returns-clause-tick_of_a_filter
returns-clause-tick_of_a_filter c = never tick_of_a_filter (λ l. filter_never_due (so_far 12 filtered.run) 0 refl l.0.row.due)

pub returns-clause-lease_of_an_idle_transform : goal.returns-clause-lease_of_an_idle_transform
returns-clause-lease_of_an_idle_transform c = never lease_of_an_idle_transform (λ l. elim l.0.row.ready [ inl e ↦ cc e | inr tick ↦ filter_never_due (so_far 1 filtered.run) 0 refl tick.due ])

pub returns-clause-retired_with_a_kept_parcel : goal.returns-clause-retired_with_a_kept_parcel
returns-clause-retired_with_a_kept_parcel c = never retired_with_a_kept_parcel (λ l. elim l.0.row.over [ inl done ↦ cc done | inr gave_up ↦ let e = gave_up.0 in cc ])

pub returns-clause-unread_though_a_way_is_read : goal.returns-clause-unread_though_a_way_is_read
unfolding port_list
returns-clause-unread_though_a_way_is_read c = never unread_though_a_way_is_read (λ l. let e = l.0.row.cause.no_target in cc)

pub returns-clause-split_of_an_unread_port : goal.returns-clause-split_of_an_unread_port
unfolding port_list
returns-clause-split_of_an_unread_port c = never split_of_an_unread_port (λ l. let e = l.0.row.split.made in cc)

pub returns-clause-no_such_port : goal.returns-clause-no_such_port
returns-clause-no_such_port c = never no_such_port (λ l. has_two_ports l.0.row)

pub returns-clause-lease_before_the_tick : goal.returns-clause-lease_before_the_tick
returns-clause-lease_before_the_tick c = never lease_before_the_tick (λ l. elim l.0.row.ready [ inl e ↦ cc e | inr tick ↦ not_due_yet tick.due ])

pub returns-clause-tick_at_another_moment : goal.returns-clause-tick_at_another_moment
returns-clause-tick_at_another_moment c = never tick_at_another_moment (λ l. let e = l.0.row.of_lease in omega arith)

pub returns-clause-second_tick : goal.returns-clause-second_tick
returns-clause-second_tick c = never second_tick (λ l. checked_already l.0.row.due)

pub returns-clause-flush_too_soon : goal.returns-clause-flush_too_soon
returns-clause-flush_too_soon c = never flush_too_soon (λ l. let e = (l.0.row.flush refl).ending in cc)

pub returns-clause-joined_in_another_order : goal.returns-clause-joined_in_another_order
returns-clause-joined_in_another_order c = never joined_in_another_order (λ l. different first_is_two refl refl (sym (flushed l.0.row)))

pub returns-clause-joined_with_another_event : goal.returns-clause-joined_with_another_event
returns-clause-joined_with_another_event c = never joined_with_another_event (λ l. different says_a refl refl (sym (flushed l.0.row)))

pub returns-clause-young_group_put_out : goal.returns-clause-young_group_put_out
returns-clause-young_group_put_out c = never young_group_put_out (λ l. too_young l.0.row)

pub returns-clause-split_of_a_part : goal.returns-clause-split_of_a_part
returns-clause-split_of_a_part c = never split_of_a_part (λ l. let e = l.0.row.split.oldest in cc)

pub returns-clause-other_lines : goal.returns-clause-other_lines
returns-clause-other_lines c = never other_lines (λ l. different (λ (w : ByteString). slice_index_or w 0 0 == 114) refl refl ((l.0.row.generated q_lines refl).lines ∙ one_next 0))

pub returns-clause-lines_past_the_count : goal.returns-clause-lines_past_the_count
returns-clause-lines_past_the_count c = never lines_past_the_count (λ l. let e = (l.0.row.generated q_lines refl).some in omega arith)

pub returns-clause-refused_by_a_blackhole : goal.returns-clause-refused_by_a_blackhole
returns-clause-refused_by_a_blackhole c = never refused_by_a_blackhole (λ l. let e = l.0.row.blackhole_ok refl in cc)

pub returns-clause-dropped_with_room_behind : goal.returns-clause-dropped_with_room_behind
returns-clause-dropped_with_room_behind c = never dropped_with_room_behind (λ l. has_room l.0.row.cause.0 l.0.row.cause.1)

pub returns-clause-answer_after_an_abandon : goal.returns-clause-answer_after_an_abandon
returns-clause-answer_after_an_abandon c = never answer_after_an_abandon (λ l. let e = l.0.still refl in cc)

pub returns-clause-tick_after_an_abandon : goal.returns-clause-tick_after_an_abandon
returns-clause-tick_after_an_abandon c = never tick_after_an_abandon (λ l. let e = l.0.still refl in cc)

pub returns-clause-flush_with_contents : goal.returns-clause-flush_with_contents
returns-clause-flush_with_contents c = never flush_with_contents (λ l. let e = (l.0.row.flush refl).drained in cc)

pub returns-clause-ended_with_lines_left : goal.returns-clause-ended_with_lines_left
returns-clause-ended_with_lines_left c = never ended_with_lines_left (λ l. let e = (l.0.row.generated q_lines refl).none in omega arith)

pub returns-clause-lines_of_another_stream : goal.returns-clause-lines_of_another_stream
returns-clause-lines_of_another_stream c = never lines_of_another_stream (λ l. let e = (l.0.row.generated q_lines refl).of_stream in omega arith)

pub returns-clause-host_that_loses : goal.returns-clause-host_that_loses
returns-clause-host_that_loses c = never host_that_loses (λ l. let e = l.0.row.same 8 in omega arith)

pub returns-clause-repeat_put_out : goal.returns-clause-repeat_put_out
returns-clause-repeat_put_out c = never repeat_put_out (λ l. repeats_once l.0.row)

pub returns-clause-second_put_out : goal.returns-clause-second_put_out
returns-clause-second_put_out c = never second_put_out (λ l. seconds_alone l.0.row)

pub returns-clause-host_without_a_copy : goal.returns-clause-host_without_a_copy
returns-clause-host_without_a_copy c = never host_without_a_copy (λ l. let e = host_puts_out l.0.row in cc)

pub returns-clause-host_on_no_port : goal.returns-clause-host_on_no_port
returns-clause-host_on_no_port c = never host_on_no_port (λ l. let e = host_puts_out l.0.row in cc)

pub returns-clause-host_past_the_last_port : goal.returns-clause-host_past_the_last_port
returns-clause-host_past_the_last_port c = never host_past_the_last_port (λ l. let e = host_puts_out l.0.row in cc)

pub returns-clause-take_behind_a_tick : goal.returns-clause-take_behind_a_tick
returns-clause-take_behind_a_tick c = never take_behind_a_tick (λ l. let e = l.0.row.unticked refl in cc)

pub returns-clause-flush_that_keeps : goal.returns-clause-flush_that_keeps
returns-clause-flush_that_keeps c = never flush_that_keeps (λ l. let e = (l.0.row.flush refl).emptied in cc)

pub returns-clause-ended_on_another_stream : goal.returns-clause-ended_on_another_stream
returns-clause-ended_on_another_stream c = never ended_on_another_stream (λ l. let e = (l.0.row.generated q_lines refl).of_stream in omega arith)

pub returns-clause-hasty_retry : goal.returns-clause-hasty_retry
returns-clause-hasty_retry c = never hasty_retry (λ l. not_ready (so_far 38 retried.run) 2 1999 refl refl l.0.row.ready)

pub returns-clause-restless_lease : goal.returns-clause-restless_lease
returns-clause-restless_lease c = never restless_lease (λ l. not_ready (so_far 13 generated.run) 0 999 refl refl l.0.row.ready)
