-- The rows of a legal record say more.
use Rattle.std.proofs.Common.{◌≡◌, ℕ, ◌+◌, ◌<◌, ◌≤◌, Bool, true, false, List, [], ◌∷◌, Option, Some, None, refl, sym, ap, subst, ◌∙◌, arith, inl, inr}
use Rattle.std.specs.Prelude.{◌⊎◌, ◌==◌, ◌&&◌, ◌||◌, not, nat_le, is_some, IsSome, if◌then◌else◌}
use Rattle.std.specs.List.{list_any}
use Rattle.std.proofs.lemmas.Bool.{and_parts, or_parts, or_cases, not-true}
use Rattle.std.proofs.lemmas.Bool.Decides.{nat_tests}
use Rattle.vx_status.specs.declared.outcome.Outcome.TheVariants.{Delivered, Attempts, Refusal, Abandoned, NoConsumer, Filtered, NewestDropped}
use Rattle.vx_plan.specs.declared.class.Class.TheVariants.{Source, Transform, Sink}
use Rattle.vx_plan.specs.declared.component.Component.{Component}
use Rattle.vx_plan.specs.Components.{component_named, is_source}
use Rattle.vx_record.specs.Records.{Record}
use Rattle.vx_record.specs.declared.entry.Entry.{Entry}
use Rattle.vx_record.specs.declared.entry.Entry.TheVariants.{Install, Lease, Home, SourceLost, Answer, Attempt, Spent}
use Rattle.vx_record.specs.Copies.{count, contains, joined, spends, all_of, times_spent}
use Rattle.vx_record.specs.Lists.{held, outputs}
use Rattle.vx_record.specs.Turns.{is_out, at_lease, since_lease, lease_now, is_turn_of}
use Rattle.vx_record.specs.Installs.{Wiring, wiring, component_of, source_at, transform_at, is_marked}
use Rattle.vx_record.specs.Reads.{all_ended, is_lost}
use Rattle.vx_record.specs.Abandoning.{abandoned}
use Rattle.vx_record.specs.Parcels.{parcel_ports, port_list}
use Rattle.vx_record.specs.Routing.{drains, is_dry, is_sent, is_out_from_before}
use Rattle.vx_record.specs.Owing.{last_discarded, owes, is_done, is_worker_done, is_source_done, all_noticed}
use Rattle.vx_record.specs.Confirms.{is_confirm_due}
use Rattle.vx_record.specs.Ready.{is_heir, reading_moment, is_source_ready, is_transform_ready, is_sink_ready, IsReady}
use Rattle.vx_record.specs.SinkBatches.{attempts_with, failures_with, is_failed}
use Rattle.vx_record.specs.Spending.{last_attempted, oldest}
use Rattle.vx_record.specs.Sending.{IsOldest}
use Rattle.vx_record.specs.Moving.{IsConserved}
use Rattle.vx_record.specs.Sourcing.{MayTurn}
use Rattle.vx_record.specs.Legal.{IsLegal}
use Rattle.vx_record.specs.Ceasing.{lost_at, readers_on, TakesNoMore}
use Rattle.vx_record.specs.Promises.{TurnUnlost, ClosedTakesNoMore, LeasedRuns, UnaskedToStop, SpentAbandoned, TransformsFilter, UnconsumedUnread, SourceUnread, DecidedHeld}
use Rattle.vx_record.proofs.Counts.{count-append}
use Rattle.vx_record.proofs.OnePlace.{conserved}
use Rattle.vx_record.proofs.Answers.{answer_holds}
use Rattle.vx_record.proofs.Done.{source_tests}
use Rattle.vx_record.proofs.Answerers.{answerer}
use Rattle.vx_record.proofs.Attempted.{attempted_held, held_on}
use Rattle.vx_record.proofs.Ceasing.{has_cause, more_on, unmarked}
use Rattle.vx_record.proofs.FirstPort.{open_routes, first_readers, source_on_first}

pub or_left : (a b : Bool) → (a || b) ≡ false → a ≡ false
or_left a b e = (or_parts a b e).0

pub or_right : (a b : Bool) → (a || b) ≡ false → b ≡ false
or_right a b e = (or_parts a b e).1

pub and_left : (a b : Bool) → (a && b) ≡ true → a ≡ true
and_left a b e = (and_parts a b e).0

pub and_right : (a b : Bool) → (a && b) ≡ true → b ≡ true
and_right a b e = (and_parts a b e).1

-- LEASES
pub was_out : (b c : Bool) → (if b then false else c) ≡ true → c ≡ true
was_out b c e = grind arith

-- an instance that is out is wired as when it was leased
wired_lease : (h : Record) (i : ℕ) → IsLegal h → is_out h i ≡ true → wiring (at_lease h i) i ≡ wiring h i
wired_lease [] i legal out = cc
wired_lease (Install version plan once instances now ∷ h) i legal out = let no : is_out [] i ≡ true = subst (λ (k : Record). is_out k i ≡ true) legal.0.row.first out in cc
wired_lease (Lease j worker now polls ∷ h) i legal out = go (j == i) out (wired_lease h i legal.1)
  where
    go : (b : Bool) → (if b then true else is_out h i) ≡ true → (is_out h i ≡ true → wiring (at_lease h i) i ≡ wiring h i) → wiring (if b then h else at_lease h i) i ≡ wiring h i
    go true out rest = refl
    go false out rest = rest out
wired_lease (Home j ∷ h) i legal out = go (j == i) out (wired_lease h i legal.1)
  where
    go : (b : Bool) → (if b then false else is_out h i) ≡ true → (is_out h i ≡ true → wiring (at_lease h i) i ≡ wiring h i) → wiring (at_lease h i) i ≡ wiring h i
    go true out rest = cc
    go false out rest = rest out
wired_lease (e ∷ h) i legal out = wired_lease h i legal.1 out

-- so it was a source then if it is one
pub source_lease : (h : Record) (i : ℕ) → IsLegal h → is_out h i ≡ true → source_at h i ≡ true → source_at (at_lease h i) i ≡ true
source_lease h i legal out is =
    let same : component_of (at_lease h i) i ≡ component_of h i = ap (λ (o : Option Wiring). elim o [ None ↦ None | Some w ↦ component_named w.plan w.name ]) (wired_lease h i legal out) in
    let also : source_at (at_lease h i) i ≡ source_at h i = ap (λ (o : Option Component). elim o [ None ↦ false | Some c ↦ is_source c ]) same in
    also ∙ is

-- the record as it stood at a lease is legal
pub legal_lease : (h : Record) (i : ℕ) → IsLegal h → IsLegal (at_lease h i)
legal_lease [] i legal = tt
legal_lease (Lease j worker now polls ∷ h) i legal = go (j == i) (legal_lease h i legal.1)
  where
    go : (b : Bool) → IsLegal (at_lease h i) → IsLegal (if b then h else at_lease h i)
    go true rest = legal.1
    go false rest = rest
legal_lease (e ∷ h) i legal = legal_lease h i legal.1

-- LOSSES
-- what wasn't lost wasn't lost after any bytes
none_lost : (h : Record) (i : ℕ) → is_lost h i ≡ false → lost_at h i ≡ None
none_lost [] i off = refl
none_lost (SourceLost j at failed ∷ h) i off = go (j == i) off (none_lost h i)
  where
    go : (b : Bool) → (b || is_lost h i) ≡ false → (is_lost h i ≡ false → lost_at h i ≡ None) → (if b then Some at else lost_at h i) ≡ None
    go true off rest = cc
    go false off rest = rest off
none_lost (e ∷ h) i off = none_lost h i off

some_lost : (h : Record) (i : ℕ) → is_lost h i ≡ true → IsSome (lost_at h i)
some_lost [] i on = cc
some_lost (SourceLost j at failed ∷ h) i on = go (j == i) on (some_lost h i)
  where
    go : (b : Bool) → (b || is_lost h i) ≡ true → (is_lost h i ≡ true → IsSome (lost_at h i)) → IsSome (if b then Some at else lost_at h i)
    go true on rest = refl
    go false on rest = rest on
some_lost (e ∷ h) i on = some_lost h i on

-- what turns alone change stays since a lease behind which none stands
pub unturned : {X : Type 0} (f : Record → ℕ → X) → ((h : Record) (e : Entry) (i : ℕ) → is_turn_of i e ≡ false → f (e ∷ h) i ≡ f h i) →
    (h : Record) (i : ℕ) → list_any (is_turn_of i) (since_lease h i) ≡ false → f h i ≡ f (at_lease h i) i
unturned f same [] i none = refl
unturned f same (Lease j worker now polls ∷ h) i none = same h (Lease j worker now polls) i refl ∙ go (j == i) none (unturned f same h i)
  where
    go : (b : Bool) → list_any (is_turn_of i) (if b then [] else Lease j worker now polls ∷ since_lease h i) ≡ false →
        (list_any (is_turn_of i) (since_lease h i) ≡ false → f h i ≡ f (at_lease h i) i) → f h i ≡ f (if b then h else at_lease h i) i
    go true none rest = refl
    go false none rest = rest none
unturned f same (e ∷ h) i none =
    let parts = or_parts (is_turn_of i e) (list_any (is_turn_of i) (since_lease h i)) none in same h e i parts.0 ∙ unturned f same h i parts.1

-- so it isn't lost after more bytes
loss_same : (h : Record) (e : Entry) (i : ℕ) → is_turn_of i e ≡ false → lost_at (e ∷ h) i ≡ lost_at h i
loss_same h (SourceLost j at failed) i none = rw none refl
loss_same h e i none = refl

-- a source that could be read wasn't lost
pub undry_unlost : (s e l d : Bool) → s ≡ true → (s && (e || l || d)) ≡ false → l ≡ false
undry_unlost s e l d on off = grind arith

-- a source that could be read when it was leased wasn't dry then
pub undry_lease : (h : Record) (i : ℕ) → MayTurn h i → is_dry (at_lease h i) i ≡ false
undry_lease h i row =
    let k = at_lease h i in
    let sent_dry = and_left (is_sent k i && not (is_dry k i)) (nat_le (reading_moment k i) (lease_now h i)) (and_left (is_sent k i && not (is_dry k i) && nat_le (reading_moment k i) (lease_now h i)) (is_heir k i) row.readable) in
    not-true (is_dry k i) (and_right (is_sent k i) (not (is_dry k i)) sent_dry)

pub turn_unlost : TurnUnlost
turn_unlost h i legal row =
    let k = at_lease h i in
    unturned lost_at loss_same h i row.once
    ∙ none_lost k i (undry_unlost (source_at k i) (all_ended k i) (is_lost k i) (drains k i && not (is_out_from_before k i)) (source_lease h i legal row.out row.source) (undry_lease h i row))

-- CLOSURES
-- what takes no more at its lease takes no more
more_since : (h : Record) (i : ℕ) → TakesNoMore (at_lease h i) i → TakesNoMore h i
more_since [] i more = more
more_since (Lease j worker now polls ∷ h) i more = go (j == i) more (more_since h i)
  where
    go : (b : Bool) → TakesNoMore (if b then h else at_lease h i) i → (TakesNoMore (at_lease h i) i → TakesNoMore h i) → TakesNoMore (Lease j worker now polls ∷ h) i
    go true more rest = more_on h i (Lease j worker now polls) more
    go false more rest = more_on h i (Lease j worker now polls) (rest more)
more_since (e ∷ h) i more = more_on h i e (more_since h i more)

-- a dry source takes no more
dry_more : (h : Record) (i : ℕ) → IsLegal h → is_dry h i ≡ true → TakesNoMore h i
dry_more h i legal dry = by_cause (or_cases (all_ended h i || is_lost h i) (drains h i && not (is_out_from_before h i)) (and_right (source_at h i) _ dry))
  where
    drained : (is_marked h i ≡ true) ⊎ ((source_at h i && false) ≡ true) → TakesNoMore h i
    drained (inl marked) = let no : true ≡ false = sym marked ∙ unmarked h i legal in cc
    drained (inr stop) = let no : false ≡ true = and_right (source_at h i) false stop in cc

    by_cause : ((all_ended h i || is_lost h i) ≡ true) ⊎ ((drains h i && not (is_out_from_before h i)) ≡ true) → TakesNoMore h i
    by_cause (inl over) = by_end (or_cases (all_ended h i) (is_lost h i) over)
      where
        by_end : (all_ended h i ≡ true) ⊎ (is_lost h i ≡ true) → TakesNoMore h i
        by_end (inl ended) = inl ended
        by_end (inr lost) = inr (inl (some_lost h i lost))
    by_cause (inr drains_now) = drained (or_cases (is_marked h i) (source_at h i && false) (and_left (drains h i) (not (is_out_from_before h i)) drains_now))

pub closed_takes_no_more : ClosedTakesNoMore
closed_takes_no_more h i legal row source = go row.over
  where
    go : ((is_out h i ≡ true) × (is_done (at_lease h i) i ≡ true)) ⊎ (abandoned h ≡ true) → TakesNoMore h i
    go (inl was) = more_since h i (dry_more (at_lease h i) i (legal_lease h i legal) ((source_tests (at_lease h i) i (source_lease h i legal was.0 source) was.1).dry))
    go (inr gone) = inr (inr (has_cause h gone))

-- LEASES AND ENDS
pub leased_runs : LeasedRuns
leased_runs h i worker now polls row = by row.ready
  where
    go : (o : Option Component) → (elim o [ None ↦ false | Some c ↦ elim c.class [ Source ↦ is_source_ready h i now | Transform ↦ is_transform_ready h i | Sink ↦ is_sink_ready h i now ] ]) ≡ true → is_some o ≡ true
    go None ready = cc
    go (Some c) ready = refl

    by : IsReady h i now → is_some (component_of h i) ≡ true
    by (inl ready) = go (component_of h i) ready
    by (inr tick) = ap (λ (o : Option Component). is_some o) tick.due.follows.runs

pub unasked_to_stop : UnaskedToStop
unasked_to_stop h stopped now limit row = let no : None ≡ Some stopped = row.reason.0 in cc

-- SPENDS
pub spent_abandoned : SpentAbandoned
spent_abandoned h i c Abandoned legal gone = refl
spent_abandoned h i c Delivered legal gone = let no : false ≡ true = legal.0.still gone in cc
spent_abandoned h i c Attempts legal gone = let no : false ≡ true = legal.0.still gone in cc
spent_abandoned h i c Refusal legal gone = let no : false ≡ true = legal.0.still gone in cc
spent_abandoned h i c NoConsumer legal gone = let no : false ≡ true = legal.0.still gone in cc
spent_abandoned h i c Filtered legal gone = let no : false ≡ true = legal.0.still gone in cc
spent_abandoned h i c NewestDropped legal gone = let no : false ≡ true = legal.0.still gone in cc

-- what an answer discarded a transform discarded
pub discarded_by : (h : Record) (i c : ℕ) → IsLegal h → 0 < count c (last_discarded h i) → transform_at h i ≡ true
discarded_by [] i c legal some = absurd (omega (arith, some))
discarded_by (Install version plan once instances now ∷ h) i c legal some =
    let none = ap (λ (k : Record). count c (last_discarded k i)) legal.0.row.first in absurd (omega (arith, some, none))
discarded_by (Answer j made discarded kept ∷ h) i c legal some = go (j == i) refl some (discarded_by h i c legal.1)
  where
    go : (b : Bool) → (j == i) ≡ b → 0 < count c (if b then discarded else last_discarded h i) → (0 < count c (last_discarded h i) → transform_at h i ≡ true) → transform_at h i ≡ true
    go true here l rest = let same : j ≡ i = grind (arith, nat_tests) in subst (λ (k : ℕ). transform_at h k ≡ true) same (answerer h j made discarded kept legal)
    go false here l rest = rest l
discarded_by (e ∷ h) i c legal some = discarded_by h i c legal.1 some

pub transforms_filter : TransformsFilter
transforms_filter h i c legal row = discarded_by h i c legal row.cause

-- and is held until it is spent
pub discarded_held : (h : Record) (i c : ℕ) → IsLegal h → 0 < count c (last_discarded h i) → times_spent h c ≡ 0 → 0 < count c (joined (held h i))
discarded_held [] i c legal some none = absurd (omega (arith, some))
discarded_held (Answer j made discarded kept ∷ h) i c legal some none = go (j == i) refl some (discarded_held h i c legal.1)
  where
    go : (b : Bool) → (j == i) ≡ b → 0 < count c (if b then discarded else last_discarded h i) → (0 < count c (last_discarded h i) → times_spent h c ≡ 0 → 0 < count c (joined (held h i))) →
        0 < count c (joined (held (Answer j made discarded kept ∷ h) i))
    go true here l rest =
        let same : j ≡ i = grind (arith, nat_tests) in
        let holds = answer_holds h j made discarded kept legal c in
        subst (λ (k : ℕ). 0 < count c (joined (held (Answer j made discarded kept ∷ h) k))) same (omega (arith, holds, l))
    go false here l rest = held_on h (Answer j made discarded kept) i c (conserved (Answer j made discarded kept ∷ h) legal) here none (rest l)
discarded_held (e ∷ h) i c legal some none = held_on h e i c (conserved (e ∷ h) legal) refl none (discarded_held h i c legal.1 some)

is_oldest : (ps : List (List ℕ)) (c : ℕ) → 0 < count c (oldest ps) → IsOldest (oldest ps) ps
is_oldest [] c some = absurd (omega (arith, some))
is_oldest (p ∷ ps) c some = refl

pub unconsumed_unread : UnconsumedUnread
unconsumed_unread h i c row =
    sym (open_routes h i (oldest (outputs h i)) (port_list (parcel_ports h (oldest (outputs h i)))) (is_oldest (outputs h i) c row.cause.next)) ∙ row.cause.no_target

pub source_unread : SourceUnread
source_unread h i c legal source row =
    let first = source_on_first h i (oldest (outputs h i)) legal source (is_oldest (outputs h i) c row.cause.next) in
    sym (first_readers h i) ∙ ap (λ n. readers_on h i (port_list n)) first ∙ unconsumed_unread h i c row

-- what was attempted last was attempted
pub last_counts : (h : Record) (i c : ℕ) → 0 < count c (last_attempted h i) → 0 < attempts_with h i c
last_counts [] i c some = absurd (omega (arith, some))
last_counts (Attempt j copies bytes reply ∷ h) i c some = go (j == i) some (last_counts h i c)
  where
    go : (b : Bool) → 0 < count c (if b then copies else last_attempted h i) → (0 < count c (last_attempted h i) → 0 < attempts_with h i c) → 0 < attempts_with h i c + (if b && contains copies c then 1 else 0)
    go true has rest = let one : contains copies c ≡ true = grind (arith, nat_tests, has) in subst (λ (b : Bool). 0 < attempts_with h i c + (if true && b then 1 else 0)) (sym one) (omega arith)
    go false has rest = let before = rest has in omega (arith, before)
last_counts (e ∷ h) i c some = last_counts h i c some

-- what failed was attempted
pub failed_counts : (h : Record) (i c : ℕ) → failures_with h i c ≤ attempts_with h i c
failed_counts [] i c = omega arith
failed_counts (Attempt j copies bytes reply ∷ h) i c = go ((j == i) && contains copies c) (is_failed reply) (failed_counts h i c)
  where
    go : (b f : Bool) → failures_with h i c ≤ attempts_with h i c → failures_with h i c + (if b && f then 1 else 0) ≤ attempts_with h i c + (if b then 1 else 0)
    go true true ih = omega (arith, ih)
    go true false ih = omega (arith, ih)
    go false f ih = omega (arith, ih)
failed_counts (e ∷ h) i c = failed_counts h i c

pub decided_held : DecidedHeld
decided_held h i c Delivered legal is row = attempted_held h i c legal (last_counts h i c row.cause.had) row.live.2
decided_held h i c Refusal legal is row = attempted_held h i c legal (last_counts h i c row.cause.had) row.live.2
decided_held h i c Attempts legal is row =
    let many = row.cause in
    let more = failed_counts h i c in
    attempted_held h i c legal (omega (arith, many, more)) row.live.2
decided_held h i c NoConsumer legal is row = absurd is
decided_held h i c Abandoned legal is row = absurd is
decided_held h i c Filtered legal is row = discarded_held h i c legal row.cause row.live.2
decided_held h i c NewestDropped legal is row = absurd is
