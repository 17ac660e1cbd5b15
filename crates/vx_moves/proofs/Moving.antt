-- What stands first at a place, and how it moves, is split or is born.
use Rattle.std.proofs.Common.{◌≡◌, ◌∙◌, ◌≢◌, ℕ, suc, ◌+◌, ◌*◌, ◌^◌, ◌-◌, ◌<◌, ◌≤◌, Bool, List, [], ◌∷◌, Option, Some, None, IsSome, IfSome, length, inl, inr, refl, sym, ap, arith, slice_get}
use Rattle.std.specs.Prelude.{nat_lt, if◌then◌else◌, slice_index_or, true, false, ◌==◌, IsSomeAnd}
use Rattle.std.proofs.lemmas.Bool.{cases_eq}
use Rattle.std.proofs.lemmas.Bool.Decides.{nat_tests}
use Rattle.std.proofs.lemmas.List.{length-map}
use Rattle.vx_value.specs.Texts.{is_empty}
use Rattle.vx_value.specs.declared.event.Event.{Event}
use Rattle.vx_ends.specs.Observation.{Observation}
use Rattle.vx_ends.specs.declared.position.Position.{Position}
use Rattle.vx_ledger.specs.Copies.{Copy, each_alone, joined, numbers_of, renumbered}
use Rattle.vx_ledger.specs.Ledger.{Ledger, IsShort}
use Rattle.vx_ledger.specs.Routing.{targets_of, children_for}
use Rattle.vx_ledger.specs.declared.parcel.Parcel.{Parcel}
use Rattle.vx_ledger.specs.declared.child.Child.{Child}
use Rattle.vx_transform.specs.declared.output.Output.{Output}
use Rattle.vx_ledger.specs.declared.short.Short.{Short}
use Rattle.vx_record.specs.declared.entry.Entry.{Entry}
use Rattle.vx_record.specs.declared.entry.Entry.TheVariants.{Born, Split}
use Rattle.vx_record.specs.Records.{Record}
use Rattle.vx_record.specs.Copies.{counting, next_copy, children_of}
use Rattle.vx_record.specs.Abandoning.{abandoned, MayStillCome}
use Rattle.vx_record.specs.Ceasing.{readers_on}
use Rattle.vx_record.specs.Installs.{sink_at}
use Rattle.vx_record.specs.Legal.{Allows, IsLegal}
use Rattle.vx_record.specs.Lists.{held, parcels_at, stands}
use Rattle.vx_record.specs.Moving.{singles}
use Rattle.vx_record.specs.Parcels.{event_of, first_copy, no_event, parcel_event, parcel_ports, port_list}
use Rattle.vx_record.specs.Places.{Place, owner}
use Rattle.vx_record.specs.Places.Place.{Outputs, Held}
use Rattle.vx_record.specs.Sending.{IsOldest, MaySplit}
use Rattle.vx_record.specs.Shifts.{at}
use Rattle.vx_record.specs.SinkBatches.{is_full_batch}
use Rattle.vx_record.specs.Sourcing.{must_wait, MayCreateBatch}
use Rattle.vx_record.specs.Spending.{oldest}
use Rattle.vx_record.specs.Turns.{is_out}
use Rattle.vx_record.proofs.FirstPort.{open_routes}
use Rattle.vx_record.proofs.Steps.{length-children_of}
use Rattle.vx_balance.specs.Balances.{HasHeld}
use Rattle.vx_balance.specs.Owned.{IsOfBatch, AreOfBatch, EachOfBatch}
use Rattle.vx_balance.specs.Promises.{CreatesBatch, IsAside, Routes, lists_of}
use Rattle.vx_balance.proofs.Holding.{oldest_held}
use Rattle.vx_balance.proofs.Owning.{length-counting, length-numbers}
use Rattle.vx_balance.proofs.Steps.{aside_kept}
use Rattle.vx_counts.specs.Begun.{LeavesBegun}
use Rattle.vx_places.specs.declared.row.Row.{Row}
use Rattle.vx_places.specs.Calls.{Divides, HasHeldRoom, IsKept, IsThere, Moves, NoneWaits, PutsOut, Takes, TakesOutput}
use Rattle.vx_places.specs.Holding.{Holds, IsKnown, AreKnown}
use Rattle.vx_places.specs.Looks.{HoldsMany}
use Rattle.vx_places.specs.Numbers.{AreOn, noted, numbers, parcels_in, parcels_out, EachFilled, IsCopyIn}
use Rattle.vx_places.specs.Capacities.{SameCapacities, SameStageCapacities, held_capacity}
use Rattle.vx_places.specs.Views.{outputs_here, parcels_here, Others}
use Rattle.vx_places.proofs.Making.{held_says}
use Rattle.vx_places.proofs.Ports.{back_same, ports_there}
use Rattle.vx_places.proofs.Recorded.{filled_there, many, none_waits_is}
use Rattle.vx_places.proofs.Steps.{oldest_there}
use Rattle.vx_places.proofs.Written.{each_place}
use Rattle.vx_instances.specs.declared.state.InstanceState.{InstanceState}
use Rattle.vx_instances.specs.Knowing.{Knows}
use Rattle.vx_instances.proofs.Aside.{aside_known}
use Rattle.vx_moves.specs.declared.engine.EngineState.{EngineState}
use Rattle.vx_moves.specs.Creating.{paired, HasCreatedBatch, MayCreateBatchNow}
use Rattle.vx_moves.specs.Capacities.{AreCapacities, IsHeldLimitOf}
use Rattle.vx_moves.specs.Splitting.{HasSplit, IsSplitShort, oldest_readers}
use Rattle.vx_tasks.specs.Joining.{joins_at}
use Rattle.vx_moves.specs.Keepers.{StandApart, AreKeepers, SparesKept}
use Rattle.vx_moves.specs.Stands.{Stands, Steps, KeptUnleased}
use Rattle.vx_moves.proofs.Outlets.{outlets_read}
use Rattle.vx_moves.proofs.Stepping.{Behind, IsOfPart, moved_step, never_both, none_put, same_stands}

-- what an instance holds is not lent where it is seen
pub seen_kept : (rows : List Row) (i : ℕ) → IsThere rows i → IsSome (parcels_here rows (Held i)) → IsKept rows i
seen_kept rows i there is = go (parcels_here rows (Held i)) refl is
  where
    go : (o : Option (List Parcel)) → parcels_here rows (Held i) ≡ o → IsSome o → IsKept rows i
    go None seen is = absurd cc
    go (Some parcels) seen is = (held_says rows i there).0 parcels seen

-- where what an instance holds is lent or comes back, and nothing else changes, the engine's state stands for what it stood for
pub held_stands : {P : Type 0} {observe : P → Observation} {old : EngineState P} {places : List Row} (i : ℕ) → Stands observe old → joins_at old.log i ≡ false →
    Holds places old.log → Others (Held i) old.places places →
    (is_out old.log i ≡ false → IsSome (parcels_here places (Held i))) → SameStageCapacities old.places places →
    ((j : ℕ) → j ≢ i → held_capacity places j ≡ held_capacity old.places j) →
    IfSome (held_capacity places i) (IsHeldLimitOf old.log i) → length places ≡ length old.places → Stands observe (record old { places = places })
held_stands {old = old} {places = places} i stood alone holds others here stages holdings held_limit rows =
    let seen = each_place (Held i) (λ p. is_out old.log (owner p) ≡ false → IsSome (parcels_here old.places p) → IsSome (parcels_here places p))
    (λ unleased _. here unleased) (λ p other _ is. rw (others p other) is) in
    let kept : KeptUnleased places old.log = λ j unleased merges. seen (Held j) unleased (stood.kept j unleased merges) in
    let unseen = each_place (Held i) (λ p. joins_at old.log (owner p) ≡ true → parcels_here old.places p ≡ None → parcels_here places p ≡ None)
    (λ joins none. never_both alone joins) (λ p other joins none. others p other ∙ none) in
    let apart : StandApart places old.log = λ j joins. unseen (Held j) joins (stood.keepers.apart j joins) in
    let keepers : AreKeepers old.keepers.items places old.log = record { many = stood.keepers.many ∙ sym rows; whose = stood.keepers.whose; apart = apart } in
    let capacities : AreCapacities places old.log = record {
      stages = λ j. stages j ∙ stood.capacities.stages j;
      holdings = λ j. elim (cases_eq j i) [ inl same ↦ rw same held_limit | inr other ↦ rw (holdings j other) (stood.capacities.holdings j) ];
    } in
    assumption (holds, rows ∙ stood.size, stood)

-- THE FIRST PARCEL AT A PLACE
-- the copies of a parcel that stood at a place are of their batches
of_batches : (h : Record) (event : Event) (copies : List Copy) → ((copy : Copy) → IsCopyIn copies copy → IsKnown h event copy) → AreOfBatch h copies
of_batches h event [] known = tt
of_batches h event (c ∷ cs) known = (assumption (known c (inl refl)), of_batches h event cs (λ copy among. known copy (inr among)))

said_first : (h : Record) (event : Event) (copies : List Copy) → copies ≢ [] → ((copy : Copy) → IsCopyIn copies copy → IsKnown h event copy) →
    event ≡ parcel_event h (numbers_of copies)
said_first h event [] some known = absurd (some refl)
said_first h event (c ∷ cs) some known = sym (known c (inl refl)).said

module _ {P : Type 0} {observe : P → Observation} {old : EngineState P} (stood : Stands observe old) (p : Place) {parcel : Parcel} {rest : List Parcel}
    (seen : parcels_here old.places p ≡ Some (parcel ∷ rest)) where
  -- it has the copies of the record's oldest there
  pub oldest_is : numbers_of parcel.finalizers ≡ oldest (at old.log p)
  oldest_is = ap oldest (rw seen at (stood.places.stand p))

  pub is_oldest : IsOldest (numbers_of parcel.finalizers) (parcels_at p (stands old.log))
  is_oldest = oldest_there old.log old.places p parcel rest stood.legal stood.places seen

  is_filled : parcel.finalizers ≢ []
  is_filled = (filled_there old.log old.places p (parcel ∷ rest) stood.legal stood.places seen).0

  first_known : (copy : Copy) → IsCopyIn parcel.finalizers copy → IsKnown old.log parcel.event copy
  first_known copy among = stood.places.known p parcel.event copy (rw seen (inl (refl, among)))

  first_of_batch : AreOfBatch old.log parcel.finalizers
  first_of_batch = of_batches old.log parcel.event parcel.finalizers first_known

  pub first_held : HasHeld old.balance parcel.finalizers
  first_held = record { known = old.log; balances = stood.balance; held = oldest_held old.log p parcel.finalizers stood.legal is_oldest first_of_batch }

-- it goes to another place
module _ {P : Type 0} {observe : P → Observation} {old : EngineState P} {entry : List ℕ → Entry} {from to : Place} {places : List Row} (stood : Stands observe old)
    (moves : Moves entry from to old.places places) where
  abbrev move : Entry
  move = entry (oldest (at old.log from))

  pub moves_step : {states : List (InstanceState P)} {log : Record} → IsOfPart move → LeavesBegun (joins_at old.log) old.log move → SparesKept old.log move → IsAside move →
      (IsOldest (oldest (at old.log from)) (parcels_at from (stands old.log)) → Allows old.log move) → MayStillCome old.log move → log ≡ move ∷ old.log →
      Behind old.log move (Knows observe states) → length places ≡ length old.places → length states ≡ length old.states → SameCapacities old.places places →
      Steps observe move old (record old { places = places; states = states; log = log })
  moves_step part leaves spares aside row left noted knows =
      let are = oldest_is stood from moves.taken.was in
      let first : IsOldest (oldest (at old.log from)) (parcels_at from (stands old.log)) = rw are at (is_oldest stood from moves.taken.was) in
      moved_step stood part leaves spares (row first) left noted (rw are at moves.shifts) (λ _. none_put (move ∷ old.log)) knows
      (λ _. aside_kept old.balance old.log move aside stood.balance)

-- WHAT IS HELD
-- where fewer are held than a batch may have, it isn't full
below_full : (h : Record) (i room : ℕ) → length (held h i) < room → IsHeldLimitOf h i room → sink_at h i ≡ true → is_full_batch h i ≡ false
below_full h i room below held_limit sink = grind (arith, nat_tests, below, held_limit, sink)

-- a sink that has room for one more parcel holds no full batch
pub unfull : (h : Record) (rows : List Row) (i : ℕ) → IsLegal h → Holds rows h → AreCapacities rows h → HasHeldRoom rows i → sink_at h i ≡ true →
    is_full_batch h i ≡ false
unfull h rows i legal holds capacities room = go (parcels_here rows (Held i)) (held_capacity rows i) refl (capacities.holdings i) room
  where
    go : (o : Option (List Parcel)) (r : Option ℕ) → parcels_here rows (Held i) ≡ o → IfSome r (IsHeldLimitOf h i) →
        IsSomeAnd o (λ parcels. IsSomeAnd r (λ room. length parcels < room)) →
        sink_at h i ≡ true → is_full_batch h i ≡ false
    go None r seen planned below = absurd below
    go (Some parcels) None seen planned below = absurd below
    go (Some parcels) (Some n) seen planned below = below_full h i n (omega (arith, below, many h rows legal holds (Held i) parcels seen)) planned

-- how many parcels are held tells whether the record has none there
pub none_held : (h : Record) (rows : List Row) (i n : ℕ) → Holds rows h → HoldsMany rows i n → (n == 0) ≡ is_empty (at h (Held i))
none_held h rows i n holds many = go (parcels_here rows (Held i)) (holds.stand (Held i)) many
  where
    go : (o : Option (List Parcel)) → IfSome o (λ parcels. numbers parcels ≡ at h (Held i)) → IsSomeAnd o (λ parcels. n ≡ length parcels) →
        (n == 0) ≡ is_empty (at h (Held i))
    go None is counted = absurd counted
    go (Some []) is counted = rw (← is) (grind (arith, nat_tests, counted))
    go (Some (parcel ∷ rest)) is counted = rw (← is) (grind (arith, nat_tests, counted))

-- CHILDREN
numbers_renumbered : (first : ℕ) (copies : List Copy) → numbers_of (renumbered first copies) ≡ counting first (length copies)
numbers_renumbered first [] = refl
numbers_renumbered first (c ∷ cs) = ap (λ (ns : List ℕ). first ∷ ns) (numbers_renumbered (first + 1) cs)

noted_children : (targets : List ℕ) (first : ℕ) (parcel : Parcel) → noted (children_for targets first parcel) ≡ children_of first (length parcel.finalizers) targets
noted_children [] first parcel = refl
noted_children (t ∷ ts) first parcel = rw (numbers_renumbered first parcel.finalizers, noted_children ts (first + length parcel.finalizers) parcel)

renumbered_some : (first : ℕ) (copies : List Copy) → copies ≢ [] → renumbered first copies ≢ []
renumbered_some first [] some = some
renumbered_some first (c ∷ cs) some = λ none. cc

each_filled : (targets : List ℕ) (first : ℕ) (parcel : Parcel) → parcel.finalizers ≢ [] → EachFilled (parcels_in (children_for targets first parcel))
each_filled [] first parcel some = tt
each_filled (t ∷ ts) first parcel some = (renumbered_some first parcel.finalizers some, each_filled ts (first + length parcel.finalizers) parcel some)

in_renumbered : (k : Record) (first : ℕ) (copies : List Copy) (copy : Copy) → AreOfBatch k (renumbered first copies) → IsCopyIn (renumbered first copies) copy →
    IsOfBatch k copy × (first ≤ copy.number)
in_renumbered k first [] copy are among = absurd among
in_renumbered k first (c ∷ cs) copy are (inl same) = rw (← same) (are.0, omega arith)
in_renumbered k first (c ∷ cs) copy are (inr more) = let later = in_renumbered k (first + 1) cs copy are.1 more in (later.0, omega (arith, later.1))

children_known : (k : Record) (next : ℕ) (parcel : Parcel) (targets : List ℕ) (first : ℕ) → next ≤ first → ((c : ℕ) → next ≤ c → event_of k c ≡ parcel.event) →
    EachOfBatch k (lists_of (children_for targets first parcel)) → AreKnown k (parcels_in (children_for targets first parcel))
children_known k next parcel [] first below said are event copy among = absurd among
children_known k next parcel (t ∷ ts) first below said are event copy (inl here) =
    let is = in_renumbered k first parcel.finalizers copy are.0 here.1 in assumption (is.0, said copy.number (omega (arith, below, is.1)) ∙ here.0)
children_known k next parcel (t ∷ ts) first below said are event copy (inr more) =
    children_known k next parcel ts (first + length parcel.finalizers) (omega (arith, below)) said are.1 event copy more

said_after : (c n : ℕ) (was event : Event) → n ≤ c → (if nat_lt c n then was else event) ≡ event
said_after c n was event above = grind (arith, nat_tests)

some_targets : (targets : List ℕ) → (targets ≡ [] → ⊥) → 0 < length targets
some_targets [] some = absurd (some refl)
some_targets (t ∷ ts) some = omega arith

-- the targets of some ports are their readers
pub targets_are : {P : Type 0} (observe : P → Observation) (states : List (InstanceState P)) (h : Record) (i : ℕ) (state : InstanceState P) → Knows observe states h →
    slice_get states i ≡ Some state → (ports : ℕ) → ports < 2 ^ 128 → targets_of ports state.outlet ≡ readers_on h i (port_list ports)
targets_are observe states h i state knows is ports fits = let known = rw is at (knows.each i) in ap (targets_of ports) known.fitted.outlet ∙ outlets_read h i ports fits

module _ {P : Type 0} {observe : P → Observation} {old : EngineState P} {i : ℕ} {output : Output} {mid : List Row} (stood : Stands observe old)
    (taken : Takes (Outputs i) output.parcel old.places mid) (first_out : TakesOutput i output old.places mid) where
  abbrev parcel : Parcel
  parcel = output.parcel

  -- it was put out on the ports that the record has, and goes to the instances that read these
  on_so : output.ports ≡ parcel_ports old.log (numbers_of parcel.finalizers)
  on_so = sym (ports_there old.log old.places i output (outputs_here mid i) stood.places first_out.oldest (is_filled stood (Outputs i) taken.was))

  pub read_so : readers_on old.log i (port_list output.ports) ≡ oldest_readers old.log i
  read_so = ap (λ ports. readers_on old.log i (port_list ports)) (on_so ∙ ap (parcel_ports old.log) (oldest_is stood (Outputs i) taken.was))

  pub split_short : (cause : Short) → IsShort old.balance.next (length (oldest_readers old.log i) * length parcel.finalizers) cause → IsSplitShort old.log i cause
  split_short cause short =
      let many : length parcel.finalizers ≡ length (oldest (at old.log (Outputs i))) =
      sym (length-numbers parcel.finalizers) ∙ ap length (oldest_is stood (Outputs i) taken.was) in
      rw (stood.balance.next, many) at short

  -- it is put back
  pub put_back_stands : {back : Output} {places : List Row} {balance : Ledger} → Takes (Outputs i) back.parcel places mid → TakesOutput i back places mid → back ≡ output → balance ≡ old.balance →
      length places ≡ length old.places → SameCapacities old.places places → Stands observe (record old { places = places; balance = balance })
  put_back_stands {places = places} back back_out same unmoved rows =
      same_stands stood (back_same i output old.places mid places taken first_out (rw same at back) (rw same at back_out)) stood.states unmoved rows refl

  -- it is split
  pub split_step : {children : List Child} {places : List Row} {balance : Ledger} {log : Record} → abandoned old.log ≡ false →
      is_out old.log i ≡ false → IsThere old.places i →
      NoneWaits old.places i → Routes (oldest_readers old.log i) parcel children old.balance balance → (oldest_readers old.log i ≡ [] → ⊥) → Divides i children mid places →
      length places ≡ length old.places → SameCapacities old.places places → log ≡ Split i output.ports (numbers_of parcel.finalizers) parcel.event (noted children) ∷ old.log →
      HasSplit observe i old (record old { places = places; balance = balance; log = log })
  split_step {children} {places} {balance} {log} going unleased there none routed some divides rows capacities noted_so =
      let h = old.log in
      let targets = oldest_readers h i in
      let ports = output.ports in
      let next = old.balance.next in
      let copies = numbers_of parcel.finalizers in
      let e = Split i ports copies parcel.event (noted children) in
      let first = is_oldest stood (Outputs i) taken.was in
      let filled = is_filled stood (Outputs i) taken.was in
      let size = length-numbers parcel.finalizers in
      let are : noted children ≡ children_of next (length parcel.finalizers) targets = ap noted routed.made ∙ noted_children targets next parcel in
      let many : length (noted children) ≡ length targets = ap length are ∙ length-children_of next (length parcel.finalizers) targets in
      let of_batch = first_of_batch stood (Outputs i) taken.was in
      let row : MaySplit h i ports copies parcel.event (noted children) = record {
        split = record {
          unleased = unleased;
          none_waits = (none_waits_is h old.places i there stood.legal stood.places).0 none;
          oldest = first;
          on_ports = on_so;
          same_event = said_first h parcel.event parcel.finalizers filled (first_known stood (Outputs i) taken.was);
          some = rw many (some_targets targets some);
          made = rw (← stood.balance.next, size, open_routes h i copies (port_list ports) first, read_so) are;
        };
        fits = rw (← stood.balance.next, many, size) routed.splits.fits;
      } in
      let steps : Steps observe e old (record old { places = places; balance = balance; log = log }) =
      moved_step stood (assumption) tt (λ j joins. tt) row (never_both going) noted_so
      (divides.split old.places parcel ports parcel.event taken (rw routed.made (each_filled targets next parcel filled)))
      (λ legal. rw routed.made (children_known _ (next_copy h) parcel targets next (omega (arith, stood.balance.next))
      (λ c above. said_after c (next_copy h) (event_of h c) parcel.event above)
      (rw routed.made at (routed.splits.of_batch h i ports parcel.event (noted children) many of_batch legal stood.balance))))
      (λ legal. aside_known observe e h old.states tt legal stood.states)
      (λ legal. routed.splits.carries h i ports parcel.event (noted children) many of_batch legal stood.balance) rows refl capacities in
      record { ports = ports; event = parcel.event; children = noted children; steps = rw (oldest_is stood (Outputs i) taken.was) at steps }

-- A BIRTH
pub length-paired : (events : List Event) (lists : List (List Copy)) → length events ≡ length lists → length (paired events lists) ≡ length events
length-paired [] lists same = refl
length-paired (e ∷ es) [] same = absurd (omega (arith, same))
length-paired (e ∷ es) (l ∷ ls) same = ap suc (length-paired es ls (omega (arith, same)))

numbers_paired : (events : List Event) (copies : List Copy) → length events ≡ length copies →
    numbers (parcels_out (paired events (each_alone copies))) ≡ singles (numbers_of copies)
numbers_paired [] [] same = refl
numbers_paired (e ∷ es) (c ∷ cs) same = ap (λ (ps : List (List ℕ)). (c.number ∷ []) ∷ ps) (numbers_paired es cs (omega (arith, same)))
numbers_paired events copies same = absurd (omega (arith, same))

-- each is put out on the first port
on_paired : (events : List Event) (lists : List (List Copy)) → AreOn 1 (paired events lists)
on_paired [] lists = tt
on_paired (e ∷ es) [] = tt
on_paired (e ∷ es) (l ∷ ls) = (refl, on_paired es ls)

-- each copy has the event that the record says of it
paired_known : (k : Record) (first : ℕ) (events : List Event) (copies : List Copy) → AreOfBatch k copies → numbers_of copies ≡ counting first (length copies) →
    ((d : ℕ) → event_of k (first + d) ≡ slice_index_or events d no_event) → AreKnown k (parcels_out (paired events (each_alone copies)))
paired_known k first [] copies are next said event copy among = absurd among
paired_known k first (e ∷ es) [] are next said event copy among = absurd among
paired_known k first (e ∷ es) (c ∷ cs) are next said event copy (inl here) =
    let number : first + 0 ≡ c.number = omega (arith, ap first_copy next) in
    elim here.1 [ inl same ↦ rw (← same) (assumption (are.0, (rw number at (said 0)) ∙ here.0)) | inr none ↦ absurd none ]
paired_known k first (e ∷ es) (c ∷ cs) are next said event copy (inr more) =
    let on : (d : ℕ) → first + suc d ≡ first + 1 + d = λ d. omega arith in
    paired_known k (first + 1) es cs are.1 (cc) (λ d. rw (on d) at (said (suc d))) event copy more

said_born : (h : Record) (i n d : ℕ) (copies : List ℕ) (events : List Event) (waits : Bool) (stream end : ℕ) →
    event_of (Born i n n copies events waits stream end ∷ h) (next_copy h + d) ≡ slice_index_or events d no_event
said_born h i n d copies events waits stream end =
    let back : next_copy h + d - next_copy h ≡ d = omega arith in rw back (grind (arith, nat_tests))

module _ {i n b : ℕ} {lists : List (List Copy)} {old new : Ledger} (creates : CreatesBatch i n b (joined lists) old new) (each : lists ≡ each_alone (joined lists)) where
  many_copies : length (joined lists) ≡ n
  many_copies = sym (length-numbers (joined lists)) ∙ ap length creates.numbers ∙ length-counting old.next n

  -- there are as many copies as were asked for
  pub many_born : n ≡ length lists
  many_born = sym (ap length each ∙ length-map (joined lists) (λ (c : Copy). c ∷ []) ∙ many_copies)

pub birth_step : {P : Type 0} {observe : P → Observation} {old : EngineState P} {i b : ℕ} {position : Position} {events : List Event}
    {lists : List (List Copy)} {places : List Row}
    {states : List (InstanceState P)} {balance : Ledger} {log : Record} → Stands observe old → MayCreateBatchNow old.log i position events →
    CreatesBatch i (length events) b (joined lists) old.balance balance →
    lists ≡ each_alone (joined lists) → PutsOut i (paired events lists) old.places places →
    let next = next_copy old.log in
    let copies = counting next (length events) in
    log ≡ Born i next next copies events (must_wait old.log i) position.stream position.end ∷ old.log →
    Behind old.log (Born i b next copies events (must_wait old.log i) position.stream position.end) (Knows observe states) → length places ≡ length old.places →
    length states ≡ length old.states → SameCapacities old.places places →
    HasCreatedBatch observe i position events old (record old { places = places; states = states; balance = balance; log = log })
birth_step {old = old} {i = i} {b = b} {position = position} {events = events} {lists = lists} stood may creates each puts noted knows rows size capacities =
    let h = old.log in
    let next = next_copy h in
    let copies = counting next (length events) in
    let waits = must_wait h i in
    let e = Born i next next copies events waits position.stream position.end in
    let number : b ≡ next = creates.number ∙ stood.balance.next in
    let are : numbers_of (joined lists) ≡ copies = rw stood.balance.next at creates.numbers in
    let many = many_copies creates each in
    let long = length-counting next (length events) in
    let row : MayCreateBatch h i next copies events waits position.stream position.end = record {
      yields = may.yields;
      some = rw long may.some;
      one_each = long;
      next = ap (counting next) (sym long);
      number = refl;
      waiting = refl;
      fits = rw (long, ← stood.balance.next) creates.fits;
    } in
    moved_step stood (assumption) tt (λ j joins. tt) row (never_both may.going) noted
    (puts.born next next copies events waits position.stream position.end (rw each (numbers_paired events (joined lists) (sym many) ∙ ap singles are)) (on_paired events lists))
    (λ legal. rw each (paired_known (e ∷ h) next events (joined lists)
    ((rw (number, are) at (creates.of_batch h next events waits position.stream position.end)) legal)
    (are ∙ ap (counting next) (sym many)) (λ d. said_born h i next d copies events waits position.stream position.end)))
    (rw number at knows) (λ legal. (rw (number, are) at (creates.carries h next events waits position.stream position.end)) legal stood.balance) rows size capacities
