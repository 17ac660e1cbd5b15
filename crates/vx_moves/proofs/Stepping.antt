-- The step law: what the engine's state stands for behind one entry more.
use Rattle.std.proofs.Common.{◌≡◌, ◌∙◌, ℕ, ◌≤◌, Bool, true, false, List, [], ◌∷◌, Option, IsSome, length, refl, sym, subst, arith}
use Rattle.std.specs.Option.{option_map}
use Rattle.std.proofs.lemmas.Bool.Decides.{nat_tests}
use Rattle.vx_ends.specs.Observation.{Observation}
use Rattle.vx_ledger.specs.Ledger.{Ledger}
use Rattle.vx_ledger.specs.declared.parcel.Parcel.{Parcel}
use Rattle.vx_record.specs.declared.entry.Entry.{Entry}
use Rattle.vx_record.specs.declared.entry.Entry.TheVariants.{Answer, Home, Lease, Spent}
use Rattle.vx_record.specs.Records.{Record}
use Rattle.vx_record.specs.Moving.{IsStill}
use Rattle.vx_record.specs.Places.Place.{Held}
use Rattle.vx_record.specs.Shifts.{shift}
use Rattle.vx_record.specs.Turns.{worker_now}
use Rattle.vx_record.specs.Legal.{IsLegal, Follows, Allows}
use Rattle.vx_record.specs.Abandoning.{MayStillCome}
use Rattle.vx_balance.specs.Balances.{Balances}
use Rattle.vx_balance.specs.Promises.{IsAside}
use Rattle.vx_balance.proofs.Steps.{aside_kept, any_in_turn}
use Rattle.vx_counts.specs.Begun.{EachBegun, LeavesBegun}
use Rattle.vx_counts.proofs.Begun.{begun_stays}
use Rattle.vx_places.specs.declared.row.Row.{Row}
use Rattle.vx_places.specs.Holding.{Holds, Shifts, AreKnown}
use Rattle.vx_places.specs.Numbers.{numbers}
use Rattle.vx_places.specs.Views.{parcels_here, Same}
use Rattle.vx_places.specs.Capacities.{SameCapacities}
use Rattle.vx_places.proofs.Steps.{holds_step, same_holds, still_shifts}
use Rattle.vx_instances.specs.declared.state.InstanceState.{InstanceState}
use Rattle.vx_instances.specs.Knowing.{Knows}
use Rattle.vx_moves.specs.declared.engine.EngineState.{EngineState}
use Rattle.vx_moves.specs.declared.run.Run.{Run}
use Rattle.vx_tasks.specs.Joining.{joins_at}
use Rattle.vx_keeping.specs.Kept.{Kept}
use Rattle.vx_moves.specs.Capacities.{AreCapacities}
use Rattle.vx_moves.specs.Stands.{StandsBy, StandsFor, Stands, Steps, IsRun, KeptUnleased}
use Rattle.vx_moves.specs.Keepers.{AreWhose, AreKept, StandApart, AreKeepers, SparesKept}
use Rattle.vx_moves.proofs.Keepers.{kept_behind, none_still, seen_alone}

-- what an entry needs, where no notice is due
pub follows : (e : Entry) (account : Ledger) (h : Record) → Balances account h → Allows h e → MayStillCome h e → Follows h e
follows e account h balances row still = record { row = row; turn = any_in_turn account h e balances; still = still }

-- an entry that says nothing of the run as a whole, nor who is out, and installs nothing
pub record IsOfPart (e : Entry) : Type 0 where
  pub run : (run : Run) (h : Record) → IsRun run h → IsRun run (e ∷ h)
  pub kept : (rows : List Row) (h : Record) → KeptUnleased rows h → KeptUnleased rows (e ∷ h)
  pub capacities : (rows : List Row) (h : Record) → AreCapacities rows h → AreCapacities rows (e ∷ h)
  pub whose : (slots : List (Option Kept)) (h : Record) → AreWhose slots h → AreWhose slots (e ∷ h)
  pub apart : (rows : List Row) (h : Record) → StandApart rows h → StandApart rows (e ∷ h)
  pub begun : (h : Record) → EachBegun (joins_at h) (e ∷ h) → EachBegun (joins_at (e ∷ h)) (e ∷ h)

-- one that moves nothing besides, and is no birth, split, spend or notice
pub record IsPlain (e : Entry) : Type 0 where
  pub still : IsStill e
  pub aside : IsAside e
  pub part : IsOfPart e

-- what the engine's state stands for beside the states and the open batches
pub record Rests (rows : List Row) (slots : List (Option Kept)) (of : Run) (h : Record) : Type 0 where
  pub places : Holds rows h
  pub run : IsRun of h
  pub kept : KeptUnleased rows h
  pub capacities : AreCapacities rows h
  pub keepers : AreKeepers slots rows h
  pub begun : EachBegun (joins_at h) h

-- what can't be both
pub never_both : {b : Bool} {X : Type 0} → b ≡ false → b ≡ true → X
never_both is_false is_true = absurd cc

-- nothing is put where nothing moves
pub none_put : (h : Record) → AreKnown h []
none_put h event copy none = absurd none

same_capacities : {old new : List Row} {h : Record} → SameCapacities old new → AreCapacities old h → AreCapacities new h
same_capacities same capacities = record { stages = λ i. (same i).0 ∙ capacities.stages i; holdings = λ i. rw (same i).1 (capacities.holdings i) }

-- what is lent stays lent, and what isn't doesn't
seen_still : (F : List (List ℕ) → List (List ℕ)) (new old : Option (List Parcel)) → option_map numbers new ≡ option_map F (option_map numbers old) →
    IsSome old → IsSome new
seen_still F new old same is = grind (arith, same, is)

-- behind an entry that moves parcels, or none
pub moved : {e : Entry} {put : List Parcel} {old new : List Row} {slots : List (Option Kept)} {run : Run} {h : Record} → IsOfPart e → LeavesBegun (joins_at h) h e →
    IsLegal (e ∷ h) → Shifts e put old new → AreKnown (e ∷ h) put → SameCapacities old new → length new ≡ length old → Rests old slots run h → Rests new slots run (e ∷ h)
moved {e} {put} {old} {new} {slots} {run} {h} part leaves legal shifts known same rows rests = record {
  places = holds_step h e put old new legal shifts known rests.places;
  run = part.run run h rests.run;
  kept = part.kept new h (λ i unleased alone.
      seen_still (shift e (Held i)) (parcels_here new (Held i)) (parcels_here old (Held i)) (shifts.each (Held i)) (rests.kept i unleased alone));
  capacities = part.capacities new h (same_capacities same rests.capacities);
  keepers = record {
    many = rests.keepers.many ∙ sym rows;
    whose = part.whose slots h rests.keepers.whose;
    apart = part.apart new h (λ i joins.
        none_still (shift e (Held i)) (parcels_here new (Held i)) (parcels_here old (Held i)) (shifts.each (Held i)) (rests.keepers.apart i joins));
  };
  begun = part.begun h (begun_stays (joins_at h) e h legal leaves rests.begun);
}

-- behind one that moves none
pub still : (e : Entry) (rows : List Row) (h : Record) → IsStill e → IsLegal (e ∷ h) → Holds rows h → Holds rows (e ∷ h)
still e rows h is legal holds = holds_step h e [] rows rows legal (still_shifts e rows is) (none_put (e ∷ h)) holds

-- which takes no copy from a parcel
still_leaves : (some : ℕ → Bool) (e : Entry) (h : Record) → IsStill e → LeavesBegun some h e
still_leaves some (Answer i outputs discarded kept) h is = absurd is
still_leaves some (Spent i c outcome) h is = absurd is
still_leaves some e h is = tt

-- what is held stays kept behind one that brings back, or leases
pub unleased_kept : (rows : List Row) (h : Record) (i : ℕ) → KeptUnleased rows h → (joins_at h i ≡ false → IsSome (parcels_here rows (Held i))) → KeptUnleased rows (Home i ∷ h)
unleased_kept rows h i was kept j unleased alone = grind (arith, nat_tests, was j, kept)

pub lease_kept : (rows : List Row) (h : Record) (i worker now : ℕ) → KeptUnleased rows h → KeptUnleased rows (Lease i worker now 0 ∷ h)
lease_kept rows h i worker now was j unleased alone = was j (grind (arith, nat_tests)) alone

pub lease_later : (h : Record) (i worker now latest other : ℕ) → worker_now h other ≤ latest → latest ≤ now → worker_now (Lease i worker now 0 ∷ h) other ≤ now
lease_later h i worker now latest other is later = grind (arith, nat_tests)

-- what holds behind an entry, where that is legal
abbrev pub Behind : Record → Entry → (Record → Type 0) → Type 0
Behind h e F = IsLegal (e ∷ h) → F (e ∷ h)

module _ {P : Type 0} {observe : P → Observation} {old : EngineState P} {AreSo : List (Option Kept) → Record → Type 0} (stands : StandsBy AreSo observe old old.log) where
  -- where an entry follows, and each part has it, the engine's state stands for it too, with the keepers as they are then
  pub stands_behind : (AreThen : List (Option Kept) → Record → Type 0) {e : Entry} {new : EngineState P} → Allows old.log e → MayStillCome old.log e →
      Behind old.log e (Rests new.places new.keepers.items new.run) → Behind old.log e (AreThen new.keepers.items) →
      Behind old.log e (Knows observe new.states) → Behind old.log e (Balances new.balance) → length new.places ≡ length old.places →
      length new.states ≡ length old.states → StandsBy AreThen observe new (e ∷ old.log)
  stands_behind AreThen {e} {new} row left rests keeps knows balances rows size =
      let legal : IsLegal (e ∷ old.log) = (follows e old.balance old.log stands.balance row left, stands.legal) in
      assumption (legal, rests legal, keeps legal, knows legal, balances legal, rows ∙ stands.size ∙ sym size)

  pub step : {e : Entry} {new : EngineState P} → Allows old.log e → MayStillCome old.log e → new.log ≡ e ∷ old.log →
      Behind old.log e (Rests new.places new.keepers.items new.run) → Behind old.log e (AreKept new.keepers.items) →
      Behind old.log e (Knows observe new.states) → Behind old.log e (Balances new.balance) → length new.places ≡ length old.places →
      length new.states ≡ length old.states →
      Steps observe e old new
  step {e} {new} row left noted rests keeps knows balances rows size =
      let now : StandsFor observe new (e ∷ old.log) = stands_behind AreKept {new = new} row left rests keeps knows balances rows size in
      record { stands = subst (StandsFor observe new) (sym noted) now; follows = follows e old.balance old.log stands.balance row left; noted = noted; size = size }

module _ {P : Type 0} {observe : P → Observation} {old : EngineState P} (stands : Stands observe old) where
  -- the keepers are those of the record behind an entry that leaves what they keep
  pub keeps_behind : (e : Entry) → SparesKept old.log e → Behind old.log e (AreKept old.keepers.items)
  keeps_behind e spares legal = kept_behind old.keepers.items old.log e legal spares stands.keepers.whose stands.keeps

  -- so they do where it moves parcels
  pub moved_step : {e : Entry} {put : List Parcel} {places : List Row} {states : List (InstanceState P)} {balance : Ledger} {log : Record} → IsOfPart e → LeavesBegun (joins_at old.log) old.log e → SparesKept old.log e → Allows old.log e →
      MayStillCome old.log e → log ≡ e ∷ old.log → Shifts e put old.places places → Behind old.log e (λ h. AreKnown h put) →
      Behind old.log e (Knows observe states) → Behind old.log e (Balances balance) → length places ≡ length old.places → length states ≡ length old.states →
      SameCapacities old.places places → Steps observe e old (record old { places = places; states = states; balance = balance; log = log })
  moved_step {e} part leaves spares row left noted shifts known knows balances rows size same =
      step stands row left noted (λ legal. moved part leaves legal shifts (known legal) same rows (assumption stands)) (keeps_behind e spares) knows balances rows size

  -- and where it changes the states alone
  pub plain_step : {e : Entry} {states : List (InstanceState P)} {log : Record} → IsPlain e → SparesKept old.log e → Allows old.log e → MayStillCome old.log e → log ≡ e ∷ old.log →
      Behind old.log e (Knows observe states) → length states ≡ length old.states → Steps observe e old (record old { states = states; log = log })
  plain_step {e} plain spares row left noted knows size =
      moved_step plain.part (still_leaves (joins_at old.log) e old.log plain.still) spares row left noted (still_shifts e old.places plain.still) (λ _. none_put (e ∷ old.log)) knows
      (λ _. aside_kept old.balance old.log e plain.aside stands.balance) refl size (assumption)

  -- no entry: each place has what it had, and the states are known as before
  pub same_stands : {places : List Row} {states : List (InstanceState P)} {balance : Ledger} → Same old.places places → Knows observe states old.log → balance ≡ old.balance →
      length places ≡ length old.places → length states ≡ length old.states → SameCapacities old.places places →
      Stands observe (record old { places = places; states = states; balance = balance })
  same_stands {places} {states} {balance} same knows unmoved rows size capacities =
      let holds = same_holds old.log old.places places same stands.places in
      let balances : Balances balance old.log = rw unmoved stands.balance in
      let kept : KeptUnleased places old.log = λ i unleased alone. rw (same.here (Held i)) (stands.kept i unleased alone) in
      let apart : StandApart places old.log = λ i joins. same.here (Held i) ∙ stands.keepers.apart i joins in
      let keepers : AreKeepers old.keepers.items places old.log = record { many = stands.keepers.many ∙ sym rows; whose = stands.keepers.whose; apart = apart } in
      assumption (same_capacities capacities stands.capacities, rows ∙ stands.size ∙ sym size, stands)

-- an instance whose parcels are seen doesn't merge
pub alone_at : {P : Type 0} {observe : P → Observation} (engine : EngineState P) (i : ℕ) → Stands observe engine → IsSome (parcels_here engine.places (Held i)) → joins_at engine.log i ≡ false
alone_at engine i stands seen = seen_alone engine.places engine.log i stands.keepers.apart seen
