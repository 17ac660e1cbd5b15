-- What is left of a run whose instances all ended.
use Rattle.std.proofs.Common.{◌≡◌, ◌∙◌, ℕ, zero, suc, ◌+◌, ◌<◌, inl, inr, Bool, true, false, List, [], ◌∷◌, ◌++◌, Some, IfSome, None, length, refl, sym, ap, arith}
use Rattle.std.specs.Prelude.{not, slice_get}
use Rattle.std.proofs.lemmas.Bool.{cases_Bool, cases_lt}
use Rattle.std.proofs.lemmas.Option.{IfSome_then, slice_get_past, slice_get_within}
use Rattle.vx_value.specs.Texts.{is_empty}
use Rattle.vx_ends.specs.Observation.{Observation}
use Rattle.vx_record.specs.Records.{Record}
use Rattle.vx_record.specs.Copies.{IsLive, count}
use Rattle.vx_record.specs.Installs.{started}
use Rattle.vx_record.specs.Legal.{IsClosed}
use Rattle.vx_record.specs.Lists.{held}
use Rattle.vx_record.specs.Places.{Place, owner}
use Rattle.vx_record.specs.Places.Place.{Outputs, Waiting, Contents, Held}
use Rattle.vx_record.specs.Shifts.{at}
use Rattle.vx_record.proofs.Senders.{retired_unleased}
use Rattle.vx_record.proofs.After.{notice_reports}
use Rattle.vx_record.proofs.Counts.{counting_after}
use Rattle.vx_record.proofs.HeldCopies.{nowhere}
use Rattle.vx_record.proofs.Lasting.{stays_bare}
use Rattle.vx_record.proofs.LegalNotices.{one_notice_at_last, notice_at_once}
use Rattle.vx_record.proofs.OnePlace.{one_place}
use Rattle.vx_record.proofs.Shifting.{stands_at}
use Rattle.vx_balance.proofs.Settling.{settled_closes}
use Rattle.vx_places.specs.Looks.{AreEnded, IsClear}
use Rattle.vx_places.specs.Views.{here_if, parcels_here}
use Rattle.vx_places.proofs.Recorded.{clear_bare_is}
use Rattle.vx_keeping.proofs.Resting.{holds_nothing}
use Rattle.vx_tasks.specs.declared.task.Task.{Task}
use Rattle.vx_tasks.specs.Unleased.{IsTaskOf}
use Rattle.vx_tasks.specs.Observing.{IsObserved, IsObservedButGiven}
use Rattle.vx_tasks.proofs.Saying.{observed_closed}
use Rattle.vx_instances.specs.declared.state.InstanceState.{InstanceState}
use Rattle.vx_instances.specs.Knowing.{IsTaskOfBut, HasUnleasedTask}
use Rattle.vx_instances.specs.Calls.{IsClosedBy}
use Rattle.vx_instances.specs.Staying.{OneState, IsLeft}
use Rattle.vx_moves.specs.declared.engine.EngineState.{EngineState}
use Rattle.vx_moves.specs.Stands.{Stands}
use Rattle.vx_moves.specs.Keepers.{keeper_at}
use Rattle.vx_ready.specs.Asking.{IsServed}
use Rattle.vx_ready.proofs.Counting.{started_are}
use Rattle.vx_ready.proofs.Knowing.{known}
use Rattle.vx_ready.proofs.Testing.{empty_tests}
use Rattle.vx_hub.specs.declared.parts.Numbered.{Numbered}
use Rattle.vx_hub.specs.Ending.{IsOver}
use Rattle.vx_hub.specs.Making.{AreBare}
use Rattle.vx_hub.specs.Remains.{AllSpent, AreNumbered, AreUnleased, IsPortOf, ArePortsOf, AreClosed, AreObserved, HasEnded, AreObservedButGiven}
use Rattle.vx_hub.specs.Standing.{IsFed, IsFedAt}
use Rattle.vx_hub.proofs.Endings.{unleased_is, live_is, retired_closed}
use Rattle.vx_hub.proofs.Kept.{bare_by, none_numbers}
use Rattle.vx_hub.proofs.Resting.{some_then, with_some, if_there}

-- PORTS IN THEIR ORDER
module _ {P : Type 0} where
  pub numbered_more : (first : ℕ) (ns : List (Numbered P)) (n : Numbered P) → AreNumbered first ns →
      n.instance ≡ first + length ns → AreNumbered first (ns ++ n ∷ [])
  numbered_more first [] n all is = (omega (arith, is), tt)
  numbered_more first (m ∷ ns) n all is = (all.0, numbered_more (first + 1) ns n all.1 (omega (arith, is)))

  numbered_at : (first : ℕ) (ns : List (Numbered P)) → AreNumbered first ns → (i : ℕ) →
      IfSome (slice_get ns i) (λ n. n.instance ≡ first + i)
  numbered_at first [] numbered i = tt
  numbered_at first (n ∷ ns) numbered zero = let is = numbered.0 in omega (arith, is)
  numbered_at first (n ∷ ns) numbered (suc i) = IfSome_then (slice_get ns i) (numbered_at (first + 1) ns numbered.1 i) (λ m is. omega (arith, is))

  -- the port of a task that left
  pub left_port : (observe : P → Observation) (before : List (InstanceState P)) {now after : List (InstanceState P)} {i : ℕ} {task : Task P} (n : Numbered P) →
      OneState (IsLeft task) i now after →
      slice_get now i ≡ slice_get before i → IsClosedBy (observe task.port) (observe n.port) → IsPortOf observe before i n
  left_port observe before {now} {after} {i} n left same shut = rw (← same) (some_then (slice_get now i) left.one (λ was one.
      with_some (slice_get after i) one (λ is there gone. rw gone.had shut)))

-- what is told is so but for what was given, too
but_observed : {P : Type 0} (observe : P → Observation) (starved : Bool) (h : Record) (i : ℕ) (task : Task P) →
    IsTaskOfBut observe starved h i task → IsObservedButGiven (observe task.port) h i
but_observed observe true h i task unleased = unleased.0
but_observed observe false h i task unleased = assumption unleased.observed

-- WHAT STANDS FOR A RECORD THAT IS OVER
module _ {P : Type 0} {observe : P → Observation} {engine : EngineState P} (stands : Stands observe engine)
    (served : IsServed engine) (over : IsOver engine.log) where
  within : (i : ℕ) → i < length engine.states → i < length (started engine.log)
  within i l = let size = stands.states.size in omega (arith, size, l)

  -- nothing stands anywhere
  clear_there : (i : ℕ) → i < length engine.places → IsClear engine.places i × (held engine.log i ≡ [])
  clear_there i there =
      let retired = over i (within i (rw (← stands.size) there)) in
      (clear_bare_is engine.log engine.places i stands.legal stands.places).1 (stays_bare engine.log i stands.legal retired)

  none_seen : (p : Place) → parcels_here engine.places p ≡ Some [] → at engine.log p ≡ []
  none_seen p none = sym (rw none at (stands.places.stand p))

  none_there : (p : Place) → owner p < length engine.places → at engine.log p ≡ []
  none_there (Outputs i) there = none_seen (Outputs i) ((clear_there i there).0 (Outputs i) refl refl)
  none_there (Waiting i t) there = none_seen (Waiting i t) ((clear_there i there).0 (Waiting i t) refl refl)
  none_there (Contents i s) there = none_seen (Contents i s) ((clear_there i there).0 (Contents i s) refl refl)
  none_there (Held i) there = sym (stands_at engine.log (Held i) stands.legal) ∙ (clear_there i there).1

  none_at : (p : Place) → at engine.log p ≡ []
  none_at p = elim (cases_lt (owner p) (length engine.places)) [
    | inl there ↦ none_there p there
    | inr past ↦ none_seen p (ap (here_if p) (slice_get_past engine.places (owner p) past))
  ]

  pub may_end : AreEnded engine.places
  may_end i there p owned = IfSome_then (parcels_here engine.places p) (stands.places.stand p) (λ parcels same. none_numbers parcels (same ∙ none_at p))

  -- nor is anything kept
  pub slots_end : AreBare engine.keepers.items
  slots_end = bare_by engine.keepers.items (λ i. IfSome_then (keeper_at engine.keepers.items i) (stands.keeps i) (λ k kept.
      (holds_nothing k engine.log i stands.legal kept.keeps.accounts).1 (none_at (Held i))))

  -- so each copy was split or spent
  spent_all : AllSpent engine.log
  spent_all c l =
      let none = nowhere engine.log (λ p. stands_at engine.log p stands.legal ∙ none_at p) c in
      let one = one_place [] engine.log stands.legal c l in
      omega (arith, none, one)

  none_lives : (c : ℕ) → IsLive engine.log c → ⊥
  none_lives c live = let one = spent_all c live.0 in let split = live.1 in let spent = live.2 in omega (arith, one, split, spent)

  -- no batch is open
  settled : engine.balance.open_rows ≡ []
  settled = let tests = empty_tests engine.balance.open_rows in elim (cases_Bool (is_empty engine.balance.open_rows)) [
    | inl none ↦ tests.0 none
    | inr some ↦ let lives = (live_is (is_empty engine.balance.open_rows) tests stands.balance).0 (ap not some) in absurd (none_lives lives.0 lives.1)
  ]

  started_below : (i : ℕ) → 0 < count i (started engine.log) → i < length (started engine.log)
  started_below i some = let n = length (started engine.log) in elim (cases_lt i n) [
    | inl l ↦ l
    | inr past ↦
        let none = ap (count i) (started_are engine.log engine.run.plan n stands.legal stands.run.installed refl) ∙ counting_after i 0 n (omega (arith, past)) in
        absurd (omega (arith, some, none))
  ]

  pub ended_all : HasEnded (length (started engine.log)) engine.log
  ended_all =
      let finished : IsClosed engine.log = record {
        spent = none_lives;
        noticed = (settled_closes engine.balance engine.log stands.balance settled).1;
        retired = λ i some. over i (started_below i some);
      } in record {
        legal = stands.legal;
        served = rw stands.run.installed served.served;
        finished = finished;
        places = λ later earlier is. one_place later earlier (rw is stands.legal);
        spent = spent_all;
        notices = record {
          once = one_notice_at_last engine.log stands.legal finished;
          due = λ later earlier b status is. (notice_at_once later earlier b status (rw is stands.legal)).0;
          folded = λ later earlier b status is. (notice_at_once later earlier b status (rw is stands.legal)).1;
          good = λ later earlier b status is. rw is at (notice_reports later earlier b status (rw is stands.legal));
        };
        ends = λ i l. (retired_closed engine.log i stands.legal (over i l), over i l);
      }

  -- PORTS OF UNLEASED TASKS
  pub unleased_all : AreUnleased engine.states
  unleased_all i = if_there (slice_get engine.states i) (λ state there.
      (unleased_is stands i there).1 (retired_unleased engine.log i stands.legal (over i (within i (slice_get_within engine.states i state there)))))

  module _ (fed : IsFed engine) where
    record Says (i : ℕ) (port : P) : Type 0 where
      closed : (observe port).started ≡ false
      observed : engine.run.out_of_memory ≡ false → IsObserved (observe port) engine.log i
      but : IsObservedButGiven (observe port) engine.log i

    says : (i : ℕ) (state : InstanceState P) (task : Task P) (port : P) → slice_get engine.states i ≡ Some state → state.task ≡ Some task →
        IsClosedBy (observe task.port) (observe port) → Says i port
    says i state task port there is shut =
        let k = known observe engine stands i state there in
        let unleased : HasUnleasedTask observe state.facts engine.log i task = rw is at k.unleased in record {
          closed = shut.shut;
          observed = λ sound.
              let at_state : IsFedAt state = rw there at (fed sound i) in
              let so : IsTaskOf observe engine.log i task = rw at_state.fed at unleased.task_is in
              observed_closed (observe task.port) (observe port) engine.log i shut.bytes shut.counts so.observed;
          but = observed_closed (record (observe task.port) { given = None }) (record (observe port) { given = None }) engine.log i
              (assumption shut.bytes) (assumption shut.counts) (but_observed observe state.facts.starved engine.log i task unleased.task_is);
        }

    all_say : (ns : List (Numbered P)) → ((i : ℕ) → IfSome (slice_get ns i) (λ n. Says n.instance n.port)) →
        AreClosed observe ns × (engine.run.out_of_memory ≡ false → AreObserved observe engine.log ns) × AreObservedButGiven observe engine.log ns
    all_say [] each = (tt, λ sound. tt, tt)
    all_say (n ∷ ns) each =
        let one : Says n.instance n.port = each zero in
        let rest = all_say ns (λ i. each (suc i)) in
        ((one.closed, rest.0), λ sound. (one.observed sound, rest.1 sound), (one.but, rest.2))

    pub ports_say : (ns : List (Numbered P)) → AreNumbered 0 ns → ArePortsOf observe engine.states ns →
        AreClosed observe ns × (engine.run.out_of_memory ≡ false → AreObserved observe engine.log ns) × AreObservedButGiven observe engine.log ns
    ports_say ns numbered ports = all_say ns (λ i. if_there (slice_get ns i) (λ n here.
        let number : n.instance ≡ 0 + i = rw here at (numbered_at 0 ns numbered i) in
        let same : n.instance ≡ i = omega (arith, number) in
        let has : IsPortOf observe engine.states i n = rw here at (ports i) in
        rw same (with_some (slice_get engine.states i) has (λ state there of. with_some state.task of (λ task is shut. says i state task n.port there is shut)))))
