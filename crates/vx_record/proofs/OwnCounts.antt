-- How often a port failed, refused or had nothing, and what is counted of a task's own entries, is its own.
use Rattle.std.proofs.Common.{ℕ, ◌+◌, List, [], length, map, sum, refl, ap, ◌∙◌, arith}
use Rattle.std.specs.Prelude.{count_by, ◌==◌, if◌then◌else◌}
use Rattle.std.specs.List.{list_any}
use Rattle.vx_ends.specs.declared.position.Position.{Position}
use Rattle.vx_record.specs.declared.entry.Entry.TheVariants.{Idle, SourceLost, Born, Take, Answer, Attempt, Confirm}
use Rattle.vx_record.specs.Confirms.{last_of_each}
use Rattle.vx_record.specs.PortCounts.{faults_in, refusals_in, idles_in, finishes_in, confirms_in, fault_count, refusal_count, idle_count, finish_count, confirm_count}
use Rattle.vx_record.specs.Tallies.{events_born, confirmed_ends, takes, sent_parcels, firsts_in, is_first, dropped_parcels, attempts_made, bytes_sent}
use Rattle.vx_record.specs.Tasks.{mine, IsOwn}
use Rattle.vx_record.proofs.Mine.{EachActs, IsIdle, passes, raises, owned, listed, counted}
use Rattle.vx_record.proofs.OwnConfirms.{confirmed_own}

-- HOW OFTEN A PORT FAILED
no_fault : IsIdle 0 faults_in
no_fault (Attempt j copies bytes reply) i is = rw is refl
no_fault (Confirm j positions made) i is = rw is refl
no_fault (SourceLost j after failed) i is = rw is refl
no_fault (Idle j failed) i is = rw is refl
no_fault e i is = refl

pub faults_own : IsOwn fault_count
faults_own = counted no_fault

no_refusal : IsIdle 0 refusals_in
no_refusal (Attempt j copies bytes reply) i is = rw is refl
no_refusal e i is = refl

pub refusals_own : IsOwn refusal_count
refusals_own = counted no_refusal

no_idle : IsIdle 0 idles_in
no_idle (Idle j failed) i is = rw is refl
no_idle e i is = refl

pub idles_own : IsOwn idle_count
idles_own = counted no_idle

no_finish : IsIdle 0 finishes_in
no_finish (Attempt j copies bytes reply) i is = rw is refl
no_finish e i is = refl

pub finishes_own : IsOwn finish_count
finishes_own = counted no_finish

no_confirm : IsIdle 0 confirms_in
no_confirm (Confirm j positions made) i is = rw is refl
no_confirm e i is = refl

pub confirms_own : IsOwn confirm_count
confirms_own = counted no_confirm

-- WHAT IS COUNTED
events_act : EachActs events_born
events_act (Born j b place copies events waits stream end) i = raises (length events) (λ h. refl)
events_act e i = passes (λ h. refl)

pub events_own : IsOwn events_born
events_own = owned events_act

takes_act : EachActs takes
takes_act (Take j stage copies) i = raises 1 (λ h. refl)
takes_act e i = passes (λ h. refl)

pub takes_own : IsOwn takes
takes_own = owned takes_act

sent_acts : EachActs sent_parcels
sent_acts (Answer j outputs discarded kept) i = raises (length outputs) (λ h. refl)
sent_acts e i = passes (λ h. refl)

pub sent_own : IsOwn sent_parcels
sent_own = owned sent_acts

no_first : IsIdle [] firsts_in
no_first (Take j stage copies) i is = rw is refl
no_first e i is = refl

dropped_acts : EachActs dropped_parcels
dropped_acts (Answer j outputs discarded kept) i = record {
  apart = λ off h. rw off (omega arith);
  alike = λ h same.
      ap (λ n. n + (if j == i then count_by (is_first h i) discarded else 0)) same
      ∙ ap (λ (firsts : List ℕ). dropped_parcels (mine h i) i + (if j == i then count_by (λ c. list_any (λ d. d == c) firsts) discarded else 0)) (listed no_first h i);
}
dropped_acts e i = passes (λ h. refl)

pub dropped_own : IsOwn dropped_parcels
dropped_own = owned dropped_acts

attempts_act : EachActs attempts_made
attempts_act (Attempt j copies bytes reply) i = raises 1 (λ h. refl)
attempts_act e i = passes (λ h. refl)

pub attempts_own : IsOwn attempts_made
attempts_own = owned attempts_act

bytes_act : EachActs bytes_sent
bytes_act (Attempt j copies bytes reply) i = raises (length bytes) (λ h. refl)
bytes_act e i = passes (λ h. refl)

pub bytes_own : IsOwn bytes_sent
bytes_own = owned bytes_act

pub ends_own : IsOwn confirmed_ends
ends_own h i = ap (λ (ps : List Position). sum (map (λ (p : Position). p.end) (last_of_each [] ps))) (confirmed_own h i)
