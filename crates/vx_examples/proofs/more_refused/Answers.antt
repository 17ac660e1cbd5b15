use Rattle.std.proofs.Common.{refl, arith, inl, inr, ◌∷◌}
use Rattle.vx_record.specs.declared.taken.Taken.TheVariants.{AllEnded}
use Rattle.vx_record.specs.declared.entry.Entry.TheVariants.{Lease, Home, Read}
use Rattle.vx_record.proofs.Ticks.{not_ready}
use Rattle.vx_examples.specs.Phrases.{so_far}
use Rattle.vx_examples.specs.Waiting as waiting
use Rattle.vx_examples.specs.RefusedMore.{born_of_nothing, born_of_too_few, confirm_unleased, confirm_of_a_sink, retired_stranger, second_notice, push_to_a_later_stage, idle_of_a_sink, lost_unleased, split_after_an_abandon, attempt_of_nothing, closed_before_its_confirm, closed_with_a_parcel, closed_with_a_held_parcel, lease_before_its_notice, lease_without_its_birth, given_up_elsewhere, closed_unleased}
use Rattle.vx_examples.proofs.Refusals.{never}
use Rattle.vx_examples.proofs.more_refused.Goals as goal

pub returns-clause-born_of_too_few : goal.returns-clause-born_of_too_few
returns-clause-born_of_too_few c = never born_of_too_few (λ l. let e = l.0.row.one_each in cc)

pub returns-clause-confirm_unleased : goal.returns-clause-confirm_unleased
returns-clause-confirm_unleased c = never confirm_unleased (λ l. let e = l.0.row.out in cc)

pub returns-clause-confirm_of_a_sink : goal.returns-clause-confirm_of_a_sink
returns-clause-confirm_of_a_sink c = never confirm_of_a_sink (λ l. let e = l.0.row.source in cc)

pub returns-clause-retired_stranger : goal.returns-clause-retired_stranger
returns-clause-retired_stranger c = never retired_stranger (λ l. let e = l.0.row.known in cc)

pub returns-clause-second_notice : goal.returns-clause-second_notice
returns-clause-second_notice c = never second_notice (λ l. let e = l.0.row.due in cc)

pub returns-clause-push_to_a_later_stage : goal.returns-clause-push_to_a_later_stage
returns-clause-push_to_a_later_stage c = never push_to_a_later_stage (λ l. let e = l.0.row.room in cc)

pub returns-clause-attempt_of_nothing : goal.returns-clause-attempt_of_nothing
returns-clause-attempt_of_nothing c = never attempt_of_nothing (λ l. let e = l.0.row.batch_closed in cc)

pub returns-clause-lease_without_its_birth : goal.returns-clause-lease_without_its_birth
returns-clause-lease_without_its_birth c = never lease_without_its_birth (λ l. let e = l.0.row.settled in cc)

pub returns-clause-born_of_nothing : goal.returns-clause-born_of_nothing
returns-clause-born_of_nothing c = never born_of_nothing (λ l. let e = l.0.row.some in omega arith)

pub returns-clause-idle_of_a_sink : goal.returns-clause-idle_of_a_sink
returns-clause-idle_of_a_sink c = never idle_of_a_sink (λ l. let e = l.0.row.turn.source in cc)

pub returns-clause-lost_unleased : goal.returns-clause-lost_unleased
returns-clause-lost_unleased c = never lost_unleased (λ l. let e = l.0.row.turn.out in cc)

pub returns-clause-split_after_an_abandon : goal.returns-clause-split_after_an_abandon
returns-clause-split_after_an_abandon c = never split_after_an_abandon (λ l. let e = l.0.still refl in cc)

pub returns-clause-closed_before_its_confirm : goal.returns-clause-closed_before_its_confirm
returns-clause-closed_before_its_confirm c = never closed_before_its_confirm (λ l. elim l.0.row.over [ inl done ↦ let e = done.1 in cc | inr gave_up ↦ cc gave_up ])

pub returns-clause-closed_with_a_parcel : goal.returns-clause-closed_with_a_parcel
returns-clause-closed_with_a_parcel c = never closed_with_a_parcel (λ l. elim l.0.row.over [ inl done ↦ let e = done.1 in cc | inr gave_up ↦ cc gave_up ])

pub returns-clause-closed_with_a_held_parcel : goal.returns-clause-closed_with_a_held_parcel
returns-clause-closed_with_a_held_parcel c = never closed_with_a_held_parcel (λ l. elim l.0.row.over [ inl done ↦ let e = done.1 in cc | inr gave_up ↦ cc gave_up ])

pub returns-clause-lease_before_its_notice : goal.returns-clause-lease_before_its_notice
returns-clause-lease_before_its_notice c = never lease_before_its_notice (λ l. not_ready (Home 0 ∷ Read 0 0 AllEnded ∷ Lease 0 0 0 0 ∷ so_far 20 waiting.run) 0 0 refl refl l.0.row.ready)

pub returns-clause-given_up_elsewhere : goal.returns-clause-given_up_elsewhere
returns-clause-given_up_elsewhere c = never given_up_elsewhere (λ l. let e = l.0.row.here in omega arith)

pub returns-clause-closed_unleased : goal.returns-clause-closed_unleased
returns-clause-closed_unleased c = never closed_unleased (λ l. elim l.0.row.over [ inl done ↦ let e = done.0 in cc | inr gave_up ↦ cc gave_up ])
