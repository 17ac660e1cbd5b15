-- How often an instance's port failed, refused, had nothing, finished an attempt or took a confirm, by the record.
use Rattle.std.specs.Prelude.{ℕ, Bool, true, false, not, ◌&&◌, ◌==◌, if◌then◌else◌}
use Rattle.vx_ends.specs.declared.trouble.Reply.{Reply}
use Rattle.vx_ends.specs.declared.trouble.Reply.TheVariants as reply
use Rattle.vx_record.specs.declared.entry.Entry.{Entry}
use Rattle.vx_record.specs.declared.entry.Entry.TheVariants.{Idle, SourceLost, Attempt, Confirm}
use Rattle.vx_record.specs.Records.{Record}
use Rattle.vx_record.specs.Copies.{total}
use Rattle.vx_record.specs.SinkBatches.{is_failed}

-- whether a device refused what it was given
abbrev pub is_refused : Reply → Bool
is_refused reply.Ok = false
is_refused reply.Failed = false
is_refused reply.Refused = true

-- whether a device has what it was given
abbrev pub is_ok : Reply → Bool
is_ok reply.Ok = true
is_ok reply.Failed = false
is_ok reply.Refused = false

-- 1 where an entry tells a failure of the instance's port: of an attempt, a confirm or a start, or a loss
abbrev pub faults_in : ℕ → Entry → ℕ
faults_in i (Attempt j copies bytes reply) = if (j == i) && is_failed reply then 1 else 0
faults_in i (Confirm j positions made) = if (j == i) && not made then 1 else 0
faults_in i (SourceLost j at failed) = if j == i then 1 else 0
faults_in i (Idle j failed) = if (j == i) && failed then 1 else 0
faults_in i other = 0

-- 1 where an entry tells a refusal of the instance's port
abbrev pub refusals_in : ℕ → Entry → ℕ
refusals_in i (Attempt j copies bytes reply) = if (j == i) && is_refused reply then 1 else 0
refusals_in i other = 0

-- 1 where an entry tells that the instance's port had nothing
abbrev pub idles_in : ℕ → Entry → ℕ
idles_in i (Idle j failed) = if (j == i) && not failed then 1 else 0
idles_in i other = 0

-- 1 where an entry tells that the instance's port finished an attempt
abbrev pub finishes_in : ℕ → Entry → ℕ
finishes_in i (Attempt j copies bytes reply) = if (j == i) && is_ok reply then 1 else 0
finishes_in i other = 0

-- 1 where an entry tells a confirm that the instance's port took
abbrev pub confirms_in : ℕ → Entry → ℕ
confirms_in i (Confirm j positions made) = if (j == i) && made then 1 else 0
confirms_in i other = 0

-- how often so in a record
abbrev pub fault_count : Record → ℕ → ℕ
fault_count h i = total (faults_in i) h

abbrev pub refusal_count : Record → ℕ → ℕ
refusal_count h i = total (refusals_in i) h

abbrev pub idle_count : Record → ℕ → ℕ
idle_count h i = total (idles_in i) h

abbrev pub finish_count : Record → ℕ → ℕ
finish_count h i = total (finishes_in i) h

abbrev pub confirm_count : Record → ℕ → ℕ
confirm_count h i = total (confirms_in i) h
