-- When a sink took its parcels, and how often and how it attempted them, is the task's own.
use Rattle.std.proofs.Common.{ℕ, ◌+◌, Some, refl, arith}
use Rattle.std.specs.Prelude.{◌&&◌, if◌then◌else◌}
use Rattle.vx_record.specs.declared.entry.Entry.TheVariants.{Take, Attempt}
use Rattle.vx_record.specs.Copies.{contains}
use Rattle.vx_record.specs.SinkBatches.{is_failed, taken_at, attempts_with, failures_with, failed_at}
use Rattle.vx_record.specs.Spending.{last_attempted, last_reply}
use Rattle.vx_record.specs.Tasks.{IsOwn}
use Rattle.vx_record.proofs.Mine.{EachActs, acts, passes, sets, owned}
use Rattle.vx_record.proofs.OwnTurns.{moment_own}

taken_acts : (c : ℕ) → EachActs (λ h i. taken_at h i c)
taken_acts c (Take j stage copies) i = record { apart = λ off h. rw off refl; alike = λ h same. rw (moment_own h i, same) refl }
taken_acts c e i = passes (λ h. refl)

pub taken_own : (c : ℕ) → IsOwn (λ h i. taken_at h i c)
taken_own c = owned (taken_acts c)

attempts_acts : (c : ℕ) → EachActs (λ h i. attempts_with h i c)
attempts_acts c (Attempt j copies bytes reply) i = acts (λ own n. n + (if own && contains copies c then 1 else 0)) (λ n. omega arith) (λ h. refl)
attempts_acts c e i = passes (λ h. refl)

pub attempts_own : (c : ℕ) → IsOwn (λ h i. attempts_with h i c)
attempts_own c = owned (attempts_acts c)

failures_acts : (c : ℕ) → EachActs (λ h i. failures_with h i c)
failures_acts c (Attempt j copies bytes reply) i =
    acts (λ own n. n + (if own && contains copies c && is_failed reply then 1 else 0)) (λ n. omega arith) (λ h. refl)
failures_acts c e i = passes (λ h. refl)

pub failures_own : (c : ℕ) → IsOwn (λ h i. failures_with h i c)
failures_own c = owned (failures_acts c)

failed_acts : (c : ℕ) → EachActs (λ h i. failed_at h i c)
failed_acts c (Attempt j copies bytes reply) i = record { apart = λ off h. rw off refl; alike = λ h same. rw (moment_own h i, same) refl }
failed_acts c e i = passes (λ h. refl)

pub failed_own : (c : ℕ) → IsOwn (λ h i. failed_at h i c)
failed_own c = owned (failed_acts c)

attempted_acts : EachActs last_attempted
attempted_acts (Attempt j copies bytes reply) i = sets copies (λ h. refl)
attempted_acts e i = passes (λ h. refl)

pub attempted_own : IsOwn last_attempted
attempted_own = owned attempted_acts

reply_acts : EachActs last_reply
reply_acts (Attempt j copies bytes reply) i = sets (Some reply) (λ h. refl)
reply_acts e i = passes (λ h. refl)

pub reply_own : IsOwn last_reply
reply_own = owned reply_acts
