-- What a transform answers: of the parcels that it judged those on some port are put out, and the others stay and are discarded.
use Rattle.std.proofs.Common.{◌≡◌, ◌∙◌, ℕ, ◌+◌, ◌≤◌, Bool, true, false, List, [], ◌∷◌, Option, None, Some, length, map, refl, sym, ap, subst, arith}
use Rattle.std.specs.Prelude.{◌==◌, if◌then◌else◌, count_by, IsSomeAnd}
use Rattle.std.proofs.lemmas.Bool.Decides.{nat_tests}
use Rattle.std.proofs.lemmas.List.{length-map}
use Rattle.vx_ends.specs.Observation.{Observation}
use Rattle.vx_ledger.specs.Copies.{numbers_of}
use Rattle.vx_ledger.specs.declared.parcel.Parcel.{Parcel}
use Rattle.vx_record.specs.declared.entry.Entry.{Entry}
use Rattle.vx_record.specs.declared.entry.Entry.TheVariants.{Answer}
use Rattle.vx_record.specs.Records.{Record}
use Rattle.vx_record.specs.declared.output.Output.{Output}
use Rattle.vx_record.specs.Lists.{parcels_at, shrunk, stands}
use Rattle.vx_record.specs.Parcels.{parcel_event}
use Rattle.vx_record.specs.Places.{Place, put_out}
use Rattle.vx_record.specs.Places.Place.{Held}
use Rattle.vx_record.specs.Shifts.{at}
use Rattle.vx_record.specs.Tallies.{is_first}
use Rattle.vx_record.proofs.Shifting.{stands_at}
use Rattle.vx_balance.proofs.Steps.{aside_kept}
use Rattle.vx_counts.specs.Begun.{AreBegun, LeavesBegun}
use Rattle.vx_counts.proofs.Dropping.{dropped_begun}
use Rattle.vx_places.specs.declared.row.Row.{Row}
use Rattle.vx_places.specs.Calls.{HasOutputRoomFor, PutsOut}
use Rattle.vx_places.specs.Holding.{AreKnown, Shifts}
use Rattle.vx_places.specs.Numbers.{numbers, parcels_out}
use Rattle.vx_places.specs.Capacities.{SameCapacities}
use Rattle.vx_places.specs.Views.{parcels_here, row_at}
use Rattle.vx_instances.specs.declared.state.InstanceState.{InstanceState}
use Rattle.vx_instances.specs.Knowing.{Knows}
use Rattle.vx_tasks.specs.Judging.{put_out_on, refused_on, passed, stopped, AreDivided}
use Rattle.vx_tasks.specs.Out.{IsHeld}
use Rattle.vx_tasks.proofs.Answering.{distinct_there}
use Rattle.vx_tasks.proofs.Dividing.{answer_divides, answer_known}
use Rattle.vx_tasks.proofs.Writing.{events_said}
use Rattle.vx_moves.specs.declared.engine.EngineState.{EngineState}
use Rattle.vx_moves.specs.Answering.{answer_by, put_out_of, refused_of, MayAnswerNow}
use Rattle.vx_moves.specs.Stands.{Stands, Steps}
use Rattle.vx_tasks.specs.Joining.{joins_at}
use Rattle.vx_moves.proofs.Keepers.{spares_other}
use Rattle.vx_moves.proofs.Stepping.{Behind, moved_step, never_both}

-- WHAT THE RECORD SAYS OF IT
-- by the copies of parcels and the events that it has for these it says what becomes of the parcels themselves
put_out_so : (h : Record) (ports : List ℕ) (parcels : List Parcel) → map (parcel_event h) (numbers parcels) ≡ map (λ (p : Parcel). p.event) parcels →
    put_out_of h ports (numbers parcels) ≡ put_out_on ports parcels
put_out_so h [] parcels said = refl
put_out_so h (n ∷ ns) [] said = refl
put_out_so h (n ∷ ns) (p ∷ ps) said =
    let event : parcel_event h (numbers_of p.finalizers) ≡ p.event = cc in
    rw (event, put_out_so h ns ps (cc)) refl

refused_so : (ports : List ℕ) (parcels : List Parcel) → refused_of ports (numbers parcels) ≡ refused_on ports parcels
refused_so [] parcels = refl
refused_so (n ∷ ns) [] = refl
refused_so (n ∷ ns) (p ∷ ps) = rw (refused_so ns ps) refl

module _ (h : Record) (i : ℕ) (ports : List ℕ) (parcels : List Parcel) (held : IsHeld h i parcels) where
  outs_are : put_out_of h ports (at h (Held i)) ≡ put_out_on ports parcels
  outs_are = rw (← held.held) (put_out_so h ports parcels (events_said h parcels held.known held.filled))

  gone_are : refused_of ports (at h (Held i)) ≡ refused_on ports parcels
  gone_are = rw (← held.held) (refused_so ports parcels)

  answer_is : answer_by h i ports ≡ Answer i (put_out_on ports parcels) (refused_on ports parcels) []
  answer_is = rw (outs_are, gone_are) refl

-- what stays of some parcels are first parts where all are
begun_stopped : (h : Record) (p : Place) (ports : List ℕ) (parcels : List Parcel) → AreBegun h p (numbers parcels) → AreBegun h p (numbers (stopped ports parcels))
begun_stopped h p [] parcels begun = tt
begun_stopped h p (n ∷ ns) [] begun = tt
begun_stopped h p (n ∷ ns) (parcel ∷ parcels) begun = go (n == 0) (begun_stopped h p ns parcels begun.1)
  where
    go : (b : Bool) → AreBegun h p (numbers (stopped ns parcels)) → AreBegun h p (numbers (if b then parcel ∷ stopped ns parcels else stopped ns parcels))
    go true rest = (begun.0, rest)
    go false rest = rest

-- as many outputs are put out as parcels pass
as_many_pass : (ports : List ℕ) (parcels : List Parcel) → length (put_out_on ports parcels) ≡ length (passed ports parcels)
as_many_pass [] parcels = refl
as_many_pass (n ∷ ns) [] = refl
as_many_pass (n ∷ ns) (p ∷ ps) = go (n == 0) (as_many_pass ns ps)
  where
    go : (b : Bool) → length (put_out_on ns ps) ≡ length (passed ns ps) →
        length (if b then put_out_on ns ps else record { ports = n; copies = numbers_of p.finalizers; event = p.event } ∷ put_out_on ns ps)
        ≡ length (if b then passed ns ps else record { ports = n; parcel = p } ∷ passed ns ps)
    go true same = same
    go false same = omega (arith, same)

-- no more than were judged
few_pass : (ports : List ℕ) (parcels : List Parcel) → length (passed ports parcels) ≤ length ports
few_pass [] parcels = omega arith
few_pass (n ∷ ns) [] = omega arith
few_pass (n ∷ ns) (p ∷ ps) = go (n == 0) (few_pass ns ps)
  where
    go : (b : Bool) → length (passed ns ps) ≤ length ns → length (if b then passed ns ps else record { ports = n; parcel = p } ∷ passed ns ps) ≤ length (n ∷ ns)
    go true few = omega (arith, few)
    go false few = omega (arith, few)

-- so there is room for them
pub room_for : (rows : List Row) (i : ℕ) (ports : List ℕ) (parcels : List Parcel) → HasOutputRoomFor rows i (length ports) →
    HasOutputRoomFor rows i (length (passed ports parcels))
room_for rows i ports parcels room = go (row_at rows i) room
  where
    go : (o : Option Row) → IsSomeAnd o (λ row. length row.outputs.items + length ports ≤ row.outputs.room) →
        IsSomeAnd o (λ row. length row.outputs.items + length (passed ports parcels) ≤ row.outputs.room)
    go None room = absurd room
    go (Some row) room = let few = few_pass ports parcels in omega (arith, few, room)

-- THE STEP
module _ {P : Type 0} {observe : P → Observation} {old : EngineState P} {i : ℕ} {ports : List ℕ} {parcels : List Parcel} (stood : Stands observe old)
    (may : MayAnswerNow old.log i ports) (held : IsHeld old.log i parcels) where
  -- each parcel was judged
  pub each_judged : length ports ≡ length parcels
  each_judged = may.each ∙ sym (ap length held.held) ∙ length-map parcels (λ (p : Parcel). numbers_of p.finalizers)

  divided : AreDivided ports parcels
  divided = answer_divides ports parcels each_judged held.filled (distinct_there old.log i parcels stood.legal held)

  -- what is counted of it
  pub many_sent : length (put_out_of old.log ports (at old.log (Held i))) ≡ length (passed ports parcels)
  many_sent = rw (outs_are old.log i ports parcels held) (as_many_pass ports parcels)

  -- what stays are first parts of what the instance took
  stay_begun : joins_at old.log i ≡ false → AreBegun old.log (Held i) (numbers (stopped ports parcels))
  stay_begun alone =
      begun_stopped old.log (Held i) ports parcels
      (subst (AreBegun old.log (Held i)) (stands_at old.log (Held i) stood.legal ∙ sym held.held) (stood.begun (Held i) alone))

  -- so each parcel that is discarded counts once
  pub many_dropped : joins_at old.log i ≡ false → count_by (is_first old.log i) (refused_of ports (at old.log (Held i))) ≡ length (stopped ports parcels)
  many_dropped alone =
      ap (count_by (is_first old.log i)) (gone_are old.log i ports parcels held ∙ divided.refused)
      ∙ dropped_begun old.log i (numbers (stopped ports parcels)) stood.legal (stay_begun alone)
      ∙ length-map (stopped ports parcels) (λ (p : Parcel). numbers_of p.finalizers)

  leaves_begun : LeavesBegun (joins_at old.log) old.log (answer_by old.log i ports)
  leaves_begun alone =
      subst (AreBegun old.log (Held i))
      (sym
      (ap (λ (outputs : List Output). shrunk (put_out outputs) (parcels_at (Held i) (stands old.log))) (outs_are old.log i ports parcels held)
      ∙ ap (shrunk (put_out (put_out_on ports parcels))) (stands_at old.log (Held i) stood.legal ∙ sym held.held) ∙ divided.left)) (stay_begun alone)

  -- where what is held is lent, and what passes is put out, the engine's state stands for the record with the answer
  pub answer_step : {places : List Row} {states : List (InstanceState P)} {log : Record} → joins_at old.log i ≡ false → parcels_here old.places (Held i) ≡ None →
      PutsOut i (passed ports parcels) old.places places → Behind old.log (answer_by old.log i ports) (Knows observe states) →
      log ≡ answer_by old.log i ports ∷ old.log → length places ≡ length old.places → length states ≡ length old.states → SameCapacities old.places places →
      Steps observe (answer_by old.log i ports) old (record old { places = places; states = states; log = log })
  answer_step {places} alone lent puts knows noted rows size capacities =
      let same = answer_is old.log i ports parcels held in
      let shifts : Shifts (answer_by old.log i ports) (parcels_out (passed ports parcels)) old.places places =
      rw same (puts.answered (put_out_on ports parcels) (refused_on ports parcels) [] divided.noted divided.filled_out lent) in
      moved_step stood (assumption) leaves_begun (spares_other old.log i alone) may.may (never_both may.going) noted shifts
      (λ _. subst (λ (e : Entry). AreKnown (e ∷ old.log) (parcels_out (passed ports parcels))) (sym same) (answer_known old.log i ports parcels held.known).0) knows
      (λ _. aside_kept old.balance old.log (answer_by old.log i ports) tt stood.balance) rows size capacities

  -- and what stays is what the record then has the instance hold
  pub answer_held : IsHeld (answer_by old.log i ports ∷ old.log) i (stopped ports parcels)
  answer_held =
      let self : (i == i) ≡ true = grind (arith, nat_tests) in
      record {
        held = rw (self, outs_are old.log i ports parcels held, ← held.held) (sym divided.left);
        known = subst (λ (e : Entry). AreKnown (e ∷ old.log) (stopped ports parcels)) (sym (answer_is old.log i ports parcels held))
            (answer_known old.log i ports parcels held.known).1;
        filled = divided.filled_left;
      }
