-- How one more entry changes bytes, confirms and counts: by the kind of the entry.
use Rattle.std.proofs.Common.{◌≡◌, ◌∙◌, ℕ, Option, Some, None, ◌∷◌, refl, sym, ap, arith, length}
use Rattle.std.proofs.lemmas.List.{append-nil}
use Rattle.std.proofs.lemmas.List.{length-append}
use Rattle.vx_record.specs.declared.entry.Entry.{Entry}
use Rattle.vx_record.specs.declared.entry.Entry.TheVariants.{Lease, Home, Read, Idle, SourceLost, Born, Take, Tick, Answer, Attempt, Notice, Closed, Retired, Abandon}
use Rattle.vx_plan.specs.declared.class.Class.TheVariants.{Source, Transform, Sink}
use Rattle.vx_plan.specs.declared.component.Component.{Component}
use Rattle.vx_record.specs.Records.{Record}
use Rattle.vx_record.specs.Installs.{component_of}
use Rattle.vx_record.specs.declared.tally.Tally.{Tally}
use Rattle.vx_record.specs.Tally.{nothing_counted}
use Rattle.vx_record.specs.Tallies.{source_tally, transform_tally, sink_tally, tally}
use Rattle.vx_record.specs.Reads.{taken}
use Rattle.vx_record.specs.Places.{all_puts}
use Rattle.vx_record.specs.Confirms.{births, births_in, confirmed}
use Rattle.vx_record.specs.Reads.{bytes_taken}
use Rattle.vx_record.specs.Tallies.{lines_read, overlong_read, undecodable_read, events_born, notices, takes, sent_parcels, dropped_parcels, attempts_made, bytes_sent}
use Rattle.vx_status.specs.declared.batch_status.BatchStatus.{BatchStatus}
use Rattle.vx_record.specs.Growth.{Rises, bytes_in, lines_in, overlong_in, undecodable_in, events_in, batches_in, notices_in, takes_in, outputs_in, dropped_in, attempts_in, sent_in, TakenGrows, GivenGrows, ConfirmedGrows, EndedGrows, SourceRises, TransformRises, SinkRises, TallyStays}

pub taken_grows : TakenGrows
taken_grows (Read j stream' took) h i stream = refl
taken_grows e h i stream = sym (append-nil (taken h i stream))

pub given_grows : GivenGrows
given_grows e h i = refl

pub confirmed_grows : ConfirmedGrows
confirmed_grows e h i = refl

pub ended_grows : EndedGrows
ended_grows e h i = refl

bytes_rise : Rises bytes_taken bytes_in
bytes_rise (Read j stream took) h i = refl
bytes_rise e h i = omega arith

lines_rise : Rises lines_read lines_in
lines_rise (Read j stream took) h i = refl
lines_rise e h i = omega arith

overlong_rises : Rises overlong_read overlong_in
overlong_rises (Read j stream took) h i = refl
overlong_rises e h i = omega arith

undecodable_rises : Rises undecodable_read undecodable_in
undecodable_rises (Read j stream took) h i = refl
undecodable_rises e h i = omega arith

events_rise : Rises events_born events_in
events_rise (Born j b place copies events waits stream end) h i = refl
events_rise e h i = omega arith

takes_rise : Rises takes takes_in
takes_rise (Take j stage copies) h i = refl
takes_rise e h i = omega arith

outputs_rise : Rises sent_parcels outputs_in
outputs_rise (Answer j made discarded kept) h i = refl
outputs_rise e h i = omega arith

dropped_rise : Rises dropped_parcels dropped_in
dropped_rise (Answer j made discarded kept) h i = refl
dropped_rise e h i = omega arith

attempts_rise : Rises attempts_made attempts_in
attempts_rise (Attempt j copies bytes reply) h i = refl
attempts_rise e h i = omega arith

sent_rise : Rises bytes_sent sent_in
sent_rise (Attempt j copies bytes reply) h i = refl
sent_rise e h i = omega arith

batches_rise : Rises (λ h i. length (births h i)) batches_in
batches_rise e h i = length-append (births h i) (births_in i e)

notices_rise : (status : BatchStatus) → Rises (notices status) (notices_in status)
notices_rise status (Notice b s) h i = refl
notices_rise status e h i = omega arith

pub source_rises : SourceRises
source_rises = (bytes_rise, lines_rise, overlong_rises, undecodable_rises, events_rise, batches_rise, notices_rise)

pub transform_rises : TransformRises
transform_rises = (takes_rise, outputs_rise, dropped_rise)

pub sink_rises : SinkRises
sink_rises = (takes_rise, attempts_rise, sent_rise)

-- the counts that an instance would have as a source, a transform and a sink
abbrev by_class : Record → ℕ → Tally × Tally × Tally
by_class h i = (source_tally h i, transform_tally h i, sink_tally h i)

-- where all of them stay, its counts do
same_tally : (e : Entry) (h : Record) (i : ℕ) → component_of (e ∷ h) i ≡ component_of h i → by_class (e ∷ h) i ≡ by_class h i → tally (e ∷ h) i ≡ tally h i
same_tally e h i runs same = go runs same
  where
    counts : Option Component → Tally × Tally × Tally → Tally
    counts o all = elim o [ None ↦ nothing_counted | Some c ↦ elim c.class [ Source ↦ all.0 | Transform ↦ all.1 | Sink ↦ all.2 ] ]

    go : {o o' : Option Component} {all all' : Tally × Tally × Tally} → o ≡ o' → all ≡ all' → counts o all ≡ counts o' all'
    go {o' = o'} {all = all} p q = ap (λ o. counts o all) p ∙ ap (counts o') q

pub tally_stays : TallyStays
tally_stays (Lease j worker now polls) h i q = same_tally (Lease j worker now polls) h i refl (rw (append-nil (births h i), append-nil (all_puts h), append-nil (confirmed h i)) refl)
tally_stays (Home j) h i q = same_tally (Home j) h i refl (rw (append-nil (births h i), append-nil (all_puts h), append-nil (confirmed h i)) refl)
tally_stays (Idle j failed) h i q = same_tally (Idle j failed) h i refl (rw (append-nil (births h i), append-nil (all_puts h), append-nil (confirmed h i)) refl)
tally_stays (SourceLost j at failed) h i q = same_tally (SourceLost j at failed) h i refl (rw (append-nil (births h i), append-nil (all_puts h), append-nil (confirmed h i)) refl)
tally_stays (Tick j now) h i q = same_tally (Tick j now) h i refl (rw (append-nil (births h i), append-nil (all_puts h), append-nil (confirmed h i)) refl)
tally_stays (Closed j) h i q = same_tally (Closed j) h i refl (rw (append-nil (births h i), append-nil (all_puts h), append-nil (confirmed h i)) refl)
tally_stays (Retired j) h i q = same_tally (Retired j) h i refl (rw (append-nil (births h i), append-nil (all_puts h), append-nil (confirmed h i)) refl)
tally_stays (Abandon cause) h i q = same_tally (Abandon cause) h i refl (rw (append-nil (births h i), append-nil (all_puts h), append-nil (confirmed h i)) refl)
tally_stays other h i q = absurd (cc)
