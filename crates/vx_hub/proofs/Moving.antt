-- Parcels that an instance moved on, and what a full buffer does.
use Rattle.std.proofs.Common.{◌≡◌, ◌∙◌, ℕ, zero, suc, ◌+◌, ◌*◌, ◌<◌, ◌≤◌, ◌⊎◌, IfNone, Bool, true, false, List, [], ◌∷◌, Option, Some, None, length, inl, inr, refl, sym, ap, subst, arith}
use Rattle.std.specs.Prelude.{◌^◌, ◌-◌, min, map, IsSomeAnd, slice_get}
use Rattle.std.proofs.lemmas.Option.{slice_get_past}
use Rattle.vx_ends.specs.Observation.{Observation}
use Rattle.vx_ledger.specs.Ledger.{IsShort}
use Rattle.vx_ledger.specs.declared.short.Short.{Short}
use Rattle.vx_ledger.specs.declared.short.Short.TheVariants as short
use Rattle.vx_plan.specs.declared.component.Component.{Component}
use Rattle.vx_plan.specs.declared.stage.Stage.{Stage}
use Rattle.vx_plan.specs.Components.{stages}
use Rattle.vx_status.specs.declared.outcome.Outcome.{Outcome}
use Rattle.vx_status.specs.declared.outcome.Outcome.TheVariants.{NewestDropped, NoConsumer}
use Rattle.vx_record.specs.declared.entry.Entry.{Entry}
use Rattle.vx_record.specs.declared.entry.Entry.TheVariants.{Lease, Home, Spent, Notice, Abandon}
use Rattle.vx_record.specs.Records.{Record, capped}
use Rattle.vx_record.specs.Abandoning.{abandoned}
use Rattle.vx_record.specs.Ceasing.{readers_on}
use Rattle.vx_record.specs.Copies.{count, next_copy, children_of}
use Rattle.vx_record.specs.Ending.{SplitWants}
use Rattle.vx_record.specs.Lists.{outputs, all_waiting}
use Rattle.vx_record.specs.Parcels.{parcel_event, parcel_ports, port_list}
use Rattle.vx_record.specs.Places.{Place, owner}
use Rattle.vx_record.specs.Places.Place.{Outputs, Waiting}
use Rattle.vx_record.specs.Routing.{routes}
use Rattle.vx_record.specs.Sending.{IsOldest}
use Rattle.vx_record.specs.Shifts.{at}
use Rattle.vx_record.specs.Spending.{oldest}
use Rattle.vx_record.specs.Stages.{stages_of, drops_newest, last_drops}
use Rattle.vx_record.specs.Turns.{is_out}
use Rattle.vx_record.proofs.Adding.{carry, adds_none, adds_both, adds_wider}
use Rattle.vx_record.proofs.FirstPort.{open_routes}
use Rattle.vx_record.proofs.Further.{numbers_bounded}
use Rattle.vx_record.proofs.Shifting.{stands_at}
use Rattle.vx_record.proofs.Steps.{length-children_of}
use Rattle.vx_record.proofs.Wired.{component_in_place}
use Rattle.vx_places.specs.Calls.{NoneWaits}
use Rattle.vx_places.specs.Looks.{HasOutput, IsFirstRoom}
use Rattle.vx_places.specs.Capacities.{capacities_if}
use Rattle.vx_places.proofs.Firsts.{first_room_is}
use Rattle.vx_places.proofs.Recorded.{none_waits_is, output_is}
use Rattle.vx_moves.specs.declared.engine.EngineState.{EngineState}
use Rattle.vx_moves.specs.Leaving.{Leaves}
use Rattle.vx_moves.specs.Spends.{IsNotedAs, IsSpendOf, MaySpendFrom, HasSpent}
use Rattle.vx_moves.specs.Splitting.{IsSplitShort, oldest_readers}
use Rattle.vx_moves.specs.Stands.{Stands, Steps}
use Rattle.vx_hub.specs.Failures.{HasReason, fatal_of}
use Rattle.vx_hub.specs.Pushing.{IsMoveOf, HasMoved, pushes, HaveEntered, Grew, CanMove}
use Rattle.vx_hub.proofs.Resting.{adds_step, leaves_both}

-- WHAT A MOVE IS
one_keeps : (i j : ℕ) (h : Record) (e : Entry) → IsMoveOf i h e → (is_out (e ∷ h) j ≡ is_out h j) × (abandoned (e ∷ h) ≡ abandoned h)
one_keeps i j h (Lease k worker now polls) kind = absurd kind
one_keeps i j h (Home k) kind = absurd kind
one_keeps i j h (Abandon cause) kind = absurd kind
one_keeps i j h e kind = (refl, refl)

spend_moves : (i : ℕ) (o : Outcome) → (o ≡ NoConsumer) ⊎ (o ≡ NewestDropped) → (h : Record) (e : Entry) → IsSpendOf i o h e → IsMoveOf i h e
spend_moves i o which h (Spent j c outcome) kind = (kind.0, rw kind.1 which)
spend_moves i o which h (Notice b status) kind = tt
spend_moves i o which h e kind = absurd kind

-- what moves keep of a record, which grows
pub record Keeps (old new : Record) : Type 0 where
  pub out : (i : ℕ) → is_out new i ≡ is_out old i
  pub going : abandoned new ≡ abandoned old
  pub longer : length old ≤ length new

-- no step was made yet, or the record grew
abbrev pub HasBegun : {P : Type 0} → ℕ → EngineState P → EngineState P → Type 0
HasBegun n old new = ((n ≡ 0) × (new ≡ old)) ⊎ Grew old.log new.log

pub grew_by : {e : Entry} {h log : Record} → log ≡ e ∷ h → Grew h log
grew_by is = let longer = ap length is in omega (arith, longer)

pub noted_grew : {e : Entry} {h log : Record} → IsNotedAs e h log → Grew h log
noted_grew (inl is) = grew_by is
noted_grew (inr more) = let longer = ap length more.1.1 in omega (arith, longer)

pub spent_enters : {i c : ℕ} {o : Outcome} {h log : Record} → IsNotedAs (Spent i c o) h log → HaveEntered 0 h log
spent_enters (inl is) = let same = ap pushes is in omega (arith, same)
spent_enters (inr more) = let same = ap pushes more.1.1 in omega (arith, same)

module _ {P : Type 0} {observe : P → Observation} where
  pub moves_keep : {i : ℕ} {old new : EngineState P} → HasMoved observe i old new → Keeps old.log new.log
  moves_keep {i} {old} {new} moved = carry (IsMoveOf i) (Keeps old.log) (λ h e follows kind was. let longer = was.longer in record {
    out = λ j. (one_keeps i j h e kind).0 ∙ was.out j;
    going = (one_keeps i i h e kind).1 ∙ was.going;
    longer = omega (arith, longer);
  }) old.log new.log moved.only (record { out = λ j. refl; going = refl; longer = omega arith })

  pub moved_both : {i : ℕ} {old mid new : EngineState P} → HasMoved observe i old mid → HasMoved observe i mid new → HasMoved observe i old new
  moved_both {i} {old} {mid} {new} first second = assumption
      (adds_both (IsMoveOf i) old.log mid.log new.log first.only second.only, leaves_both first.leaves second.leaves, second.size ∙ first.size, second)

  pub moved_by : {i : ℕ} {e : Entry} {old new : EngineState P} → Steps observe e old new → Leaves old new →
      IsMoveOf i old.log e → HasMoved observe i old new
  moved_by {i} steps leaves kind = assumption (adds_step (IsMoveOf i) steps kind, leaves, steps)

  pub moved_spent : {p : Place} {o : Outcome} {old new : EngineState P} → HasSpent observe p o old new →
      (o ≡ NoConsumer) ⊎ (o ≡ NewestDropped) → HasMoved observe (owner p) old new
  moved_spent {p} {o} {old} {new} spent which = assumption
      (adds_wider (IsSpendOf (owner p) o) (IsMoveOf (owner p)) (spend_moves (owner p) o which) old.log new.log spent.only, spent)

  -- where no step is left to make, the record has grown if there was one
  pub grew_by_now : {i n : ℕ} {old mid new : EngineState P} → HasBegun n old mid → (CanMove mid i → ⊥) →
      HasMoved observe i mid new → CanMove old i → Grew old.log new.log
  grew_by_now (inl begun) none moved can = absurd (none (rw begun.1 can))
  grew_by_now (inr grew) none moved can = let longer = (moves_keep moved).longer in omega (arith, grew, longer)

pub has_grown : {P : Type 0} (n : ℕ) (old new : EngineState P) → HasBegun n old new → 0 < n → Grew old.log new.log
has_grown n old new begun some = grind arith

-- WHAT MAY BE SPENT
oldest_by : (F : List ℕ → ℕ) → F [] ≡ 0 → (ps : List (List ℕ)) → 0 < F (oldest ps) → IsOldest (oldest ps) ps
oldest_by F none [] some = absurd (omega (arith, some, none))
oldest_by F none (p ∷ ps) some = refl

-- numbers that are refused are some
refused : (next n w a b : ℕ) → n ≡ next → w ≡ min (a * b) (2 ^ 64 - 1) → 2 ^ 63 < next + a * b → next ≤ 2 ^ 63 →
    (0 < a) × (0 < b) × (2 ^ 63 < n + w)
refused next n w a b same observed more kept = (grind arith, grind arith, omega (arith, same, observed, more))

module _ {P : Type 0} {observe : P → Observation} {engine : EngineState P} (stands : Stands observe engine) where
  none_waiting : (i : ℕ) → i < length engine.states → NoneWaits engine.places i → all_waiting engine.log i ≡ []
  none_waiting i within none = (none_waits_is engine.log engine.places i (rw stands.size within) stands.legal stands.places).0 none

  -- what nobody reads
  pub may_spend_unread : (i : ℕ) {log : Record} → i < length engine.states → abandoned engine.log ≡ false →
      NoneWaits engine.places i → oldest_readers engine.log i ≡ [] →
      log ≡ engine.log → MaySpendFrom log (Outputs i) NoConsumer
  may_spend_unread i within going none readers same =
      let h = engine.log in
      let copies = oldest (outputs h i) in rw same (record {
        cause = λ c some.
            let next : 0 < count c copies = subst (λ (ps : List (List ℕ)). 0 < count c (oldest ps)) (sym (stands_at h (Outputs i) stands.legal)) some in
            let is = oldest_by (count c) refl (outputs h i) next in record {
              next = next;
              none_waits = none_waiting i within none;
              no_target = open_routes h i copies (port_list (parcel_ports h copies)) is
                  ∙ subst (λ (ps : List (List ℕ)). readers_on h i (port_list (parcel_ports h (oldest ps))) ≡ []) (sym (stands_at h (Outputs i) stands.legal)) readers;
            };
        left = λ c given. cc;
      })

  -- what a full buffer drops
  pub may_spend_newest : (i t : ℕ) (stage : Option ℕ) → abandoned engine.log ≡ false → IsFirstRoom engine.places t stage →
      IfNone stage (last_drops (stages_of engine.log t) ≡ true) → stage ≡ None → MaySpendFrom engine.log (Waiting i t) NewestDropped
  may_spend_newest i t (Some s) going full drops is = absurd cc
  may_spend_newest i t None going full drops is = record {
    cause = λ c some. (
      t,
      record {
        next = subst (λ (ps : List (List ℕ)). 0 < count c (oldest ps)) (sym (stands_at engine.log (Waiting i t) stands.legal)) some;
        full = first_room_is engine.log engine.places t None stands.legal stands.places (stands.capacities.stages t) full;
        drops = drops;
      },
    );
    left = λ c given. cc;
  }

  -- WHY A SPLIT ISN'T MADE
  split_wants : (i : ℕ) (copies : List ℕ) → i < length engine.states → is_out engine.log i ≡ false →
      NoneWaits engine.places i → IsOldest copies (outputs engine.log i) →
      0 < length (readers_on engine.log i (port_list (parcel_ports engine.log copies))) →
      SplitWants engine.log (capped (length (readers_on engine.log i (port_list (parcel_ports engine.log copies))) * length copies))
  split_wants i copies within unleased none is some =
      let h = engine.log in
      let ports = parcel_ports h copies in
      let made = routes h i (port_list ports) in
      let children = children_of (next_copy h) (length copies) made in
      let many : length children ≡ length (readers_on h i (port_list ports)) = length-children_of (next_copy h) (length copies) made
      ∙ ap length (open_routes h i copies (port_list ports) is) in record {
        instance = i;
        ports = ports;
        copies = copies;
        event = parcel_event h copies;
        children = children;
        split = record {
          unleased = unleased;
          none_waits = none_waiting i within none;
          oldest = is;
          on_ports = refl;
          same_event = refl;
          some = omega (arith, many, some);
          made = refl;
        };
        many = ap (λ n. capped (n * length copies)) (sym many);
      }

  pub split_reason : (i : ℕ) (cause : Short) {log : Record} → i < length engine.states → is_out engine.log i ≡ false →
      NoneWaits engine.places i →
      IsSplitShort engine.log i cause → log ≡ engine.log → HasReason log (fatal_of cause)
  split_reason i short.WantOfMemory within unleased none is same = tt
  split_reason i (short.Numbers n w) within unleased none is same =
      let h = engine.log in
      let copies = oldest (outputs h i) in
      let readers = readers_on h i (port_list (parcel_ports h copies)) in
      let lacks : IsShort (next_copy h) (length readers * length copies) (short.Numbers n w) =
      subst (λ (ps : List (List ℕ)). IsShort (next_copy h) (length (readers_on h i (port_list (parcel_ports h (oldest ps)))) * length (oldest ps))
      (short.Numbers n w)) (sym (stands_at h (Outputs i) stands.legal)) is in
      let some = refused (next_copy h) n w (length readers) (length copies) lacks.0 lacks.1 lacks.2 (numbers_bounded h stands.legal) in
      let wants = split_wants i copies within unleased none (oldest_by length refl (outputs h i) some.1) some.0 in
      rw same (lacks.0, some.2, inr (subst (λ k. SplitWants h k) (sym lacks.1) wants))

  -- WHAT IS PUT OUT
  -- where an instance has an output, that is the record's
  some_put : (i : ℕ) → HasOutput engine.places i → at engine.log (Outputs i) ≡ [] → ⊥
  some_put i has none =
      let some = (output_is engine.log engine.places i stands.legal stands.places).0 has in
      let gone = ap length (stands_at engine.log (Outputs i) stands.legal ∙ none) in
      omega (arith, some, gone)

  pub unread_moves : {i : ℕ} {mid new : EngineState P} (spent : Bool) → HasOutput engine.places i → mid.log ≡ engine.log →
      Stands observe mid → Leaves engine mid → length mid.states ≡ length engine.states →
      (spent ≡ true → HasSpent observe (Outputs i) NoConsumer mid new) → (spent ≡ false → at mid.log (Outputs i) ≡ []) →
      HasMoved observe i engine new × HaveEntered 0 engine.log new.log × Grew engine.log new.log
  unread_moves {i} {mid} true has still standing leaves size some none =
      let first : HasMoved observe i engine mid = assumption (adds_none (IsMoveOf i) engine.log mid.log still) in
      (moved_both first (moved_spent (some refl) (inl refl)), rw (← still) (spent_enters (some refl).noted), rw (← still) (noted_grew (some refl).noted))
  unread_moves {i} {mid} false has still standing leaves size some none = absurd (some_put i has (rw still at (none refl)))

  -- WHERE NOTHING CAN COME
  -- past the last instance there is no stage
  pub none_past : (t : ℕ) (stage : Option ℕ) → length engine.places ≤ t → IsFirstRoom engine.places t stage →
      IfNone stage (last_drops (stages_of engine.log t) ≡ true) → ⊥
  none_past t (Some s) past first may = rw (slice_get_past engine.places t past) at first.0
  none_past t None past first may = go (stages_of engine.log t) (ap capacities_if (sym (slice_get_past engine.places t past)) ∙ stands.capacities.stages t) may
    where
      go : (list : List Stage) → [] ≡ map (λ (stage : Stage). stage.max_events) list → last_drops list ≡ true → ⊥
      go [] none drops = cc
      go (stage ∷ rest) none drops = cc

  -- WHAT A FULL BUFFER DOES is what the plan says
  pub planned_drops : (i : ℕ) {o : Option Component} → slice_get engine.run.plan.components i ≡ o →
      last_drops (stages_of engine.log i) ≡ last_drops (elim o [ None ↦ [] | Some c ↦ stages c ])
  planned_drops i is =
      ap (λ (x : Option Component). last_drops (elim x [ None ↦ [] | Some c ↦ stages c ]))
      (component_in_place engine.log engine.run.plan i stands.legal stands.run.installed ∙ is)

pub last_at : (list : List Stage) (k : ℕ) → k + 1 ≡ length list →
    IsSomeAnd (slice_get list k) (λ stage. drops_newest stage.when_full ≡ last_drops list)
last_at [] k size = absurd (omega (arith, size))
last_at (x ∷ []) zero size = refl
last_at (x ∷ []) (suc k) size = absurd (omega (arith, size))
last_at (x ∷ y ∷ rest) zero size = absurd (omega (arith, size))
last_at (x ∷ y ∷ rest) (suc k) size = last_at (y ∷ rest) k (omega (arith, size))
