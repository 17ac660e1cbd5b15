-- What a source took, which ends it was told and that it was lost is its task's own.
use Rattle.std.proofs.Common.{ℕ, ◌+◌, Option, Some, [], ◌++◌, length, refl, ap}
use Rattle.std.specs.Prelude.{◌&&◌, ◌||◌, ◌==◌, if◌then◌else◌, unwrap_or}
use Rattle.std.proofs.lemmas.List.{append-nil}
use Rattle.vx_record.specs.declared.taken.Taken.{Taken}
use Rattle.vx_record.specs.declared.taken.Taken.TheVariants.{Bytes, StreamEnded, AllEnded}
use Rattle.vx_record.specs.declared.entry.Entry.TheVariants.{Read, Idle, SourceLost}
use Rattle.vx_record.specs.Reads.{bytes_of, has_bytes, is_end, taken, bytes_taken, all_ended, is_lost, last_stream, ended_by, ended_streams, stream_of, open_bytes}
use Rattle.vx_record.specs.Sourcing.{failed_starts}
use Rattle.vx_record.specs.Ceasing.{lost_at}
use Rattle.vx_record.specs.Tasks.{IsOwn}
use Rattle.vx_record.proofs.Mine.{EachActs, IsIdle, acts, passes, sets, raises, owned, listed}

taken_acts : (stream : ℕ) → EachActs (λ h i. taken h i stream)
taken_acts stream (Read j s took) i =
    acts (λ own bytes. bytes ++ (if own && (s == stream) then bytes_of took else [])) append-nil (λ h. refl)
taken_acts stream e i = passes (λ h. refl)

pub taken_own : (stream : ℕ) → IsOwn (λ h i. taken h i stream)
taken_own stream = owned (taken_acts stream)

bytes_acts : EachActs bytes_taken
bytes_acts (Read j s took) i = raises (length (bytes_of took)) (λ h. refl)
bytes_acts e i = passes (λ h. refl)

pub bytes_own : IsOwn bytes_taken
bytes_own = owned bytes_acts

end_acts : EachActs all_ended
end_acts (Read j s took) i = acts (λ own ended. (own && is_end took) || ended) (λ ended. refl) (λ h. refl)
end_acts e i = passes (λ h. refl)

pub end_own : IsOwn all_ended
end_own = owned end_acts

lost_acts : EachActs is_lost
lost_acts (SourceLost j after failed) i = acts (λ own lost. own || lost) (λ lost. refl) (λ h. refl)
lost_acts e i = passes (λ h. refl)

pub lost_own : IsOwn is_lost
lost_own = owned lost_acts

loss_acts : EachActs lost_at
loss_acts (SourceLost j after failed) i = sets (Some after) (λ h. refl)
loss_acts e i = passes (λ h. refl)

pub loss_own : IsOwn lost_at
loss_own = owned loss_acts

last_acts : EachActs last_stream
last_acts (Read j s took) i = acts (λ own was. if own && has_bytes took then Some s else was) (λ was. refl) (λ h. refl)
last_acts e i = passes (λ h. refl)

pub last_own : IsOwn last_stream
last_own = owned last_acts

none_ended : IsIdle [] ended_by
none_ended (Read j s StreamEnded) i is = rw is refl
none_ended e i is = refl

pub ended_own : IsOwn ended_streams
ended_own = listed none_ended

pub stream_own : (s : ℕ) (took : Taken) → IsOwn (λ h i. stream_of h i s took)
stream_own s (Bytes bytes) h i = refl
stream_own s StreamEnded h i = refl
stream_own s AllEnded h i = ap (λ (o : Option ℕ). unwrap_or o 0) (last_own h i)

open_acts : (stream : ℕ) → EachActs (λ h i. open_bytes h i stream)
open_acts stream (Read j s took) i = record { apart = λ off h. rw off refl; alike = λ h same. rw (stream_own s took h i, same) refl }
open_acts stream e i = passes (λ h. refl)

pub open_own : (stream : ℕ) → IsOwn (λ h i. open_bytes h i stream)
open_own stream = owned (open_acts stream)

starts_acts : EachActs failed_starts
starts_acts (Read j s took) i = sets 0 (λ h. refl)
starts_acts (Idle j failed) i = acts (λ own n. if own then (if failed then n + 1 else 0) else n) (λ n. refl) (λ h. refl)
starts_acts e i = passes (λ h. refl)

pub starts_own : IsOwn failed_starts
starts_own = owned starts_acts
