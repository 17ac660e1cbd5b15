-- What entries that spare a task leave of it.
use Rattle.std.proofs.Common.{◌≡◌, ℕ, ◌<◌, Bool, true, false, List, [], ◌∷◌, Option, Some, None, IfSome, refl, sym, ap, ◌∙◌, arith, subst}
use Rattle.std.specs.Prelude.{◌==◌, is_some, if◌then◌else◌}
use Rattle.std.proofs.lemmas.Bool.{eqb-true}
use Rattle.std.proofs.lemmas.Bool.Decides.{nat_tests}
use Rattle.vx_value.specs.declared.event.Event.{Event}
use Rattle.vx_ends.specs.Observation.{Observation, Fits}
use Rattle.vx_ends.specs.declared.position.Position.{Position}
use Rattle.vx_ledger.specs.Copies.{Copy}
use Rattle.vx_ledger.specs.declared.parcel.Parcel.{Parcel}
use Rattle.vx_plan.specs.declared.component.Component.{Component}
use Rattle.vx_plan.specs.Components.{component_named}
use Rattle.vx_record.specs.declared.output.Output.{Output}
use Rattle.vx_record.specs.declared.entry.Entry.{Entry}
use Rattle.vx_record.specs.declared.entry.Entry.TheVariants.{Install, Lease, Home, Answer}
use Rattle.vx_record.specs.Records.{Record}
use Rattle.vx_record.specs.Copies.{count, joined, next_copy}
use Rattle.vx_record.specs.Parcels.{event_of}
use Rattle.vx_record.specs.Places.Place.{Held}
use Rattle.vx_record.specs.Lists.{stands, parcels_at}
use Rattle.vx_record.specs.Shifts.{at}
use Rattle.vx_record.specs.Installs.{Wiring, wiring, component_of, device_at}
use Rattle.vx_plan.specs.Options.{has_device}
use Rattle.vx_record.specs.Reads.{taken, all_ended, ended_streams}
use Rattle.vx_record.specs.Encoding.{given}
use Rattle.vx_record.specs.Confirms.{confirmed}
use Rattle.vx_record.specs.PortCounts.{fault_count, refusal_count, idle_count, finish_count, confirm_count}
use Rattle.vx_record.specs.Legal.{IsLegal}
use Rattle.vx_record.specs.Tasks.{is_of, mine, out_to, IsOwn}
use Rattle.vx_record.specs.Makers.{Spares}
use Rattle.vx_record.specs.Additions.{OnlyAdds}
use Rattle.vx_record.proofs.Adding.{carry_legal}
use Rattle.vx_record.proofs.Events.{said_before}
use Rattle.vx_record.proofs.HeldCopies.{not_there}
use Rattle.vx_record.proofs.OnePlace.{conserved}
use Rattle.vx_record.proofs.Shifting.{stands_at}
use Rattle.vx_record.proofs.Promises.{leased_runs}
use Rattle.vx_record.proofs.OwnReads.{taken_own, end_own, ended_own}
use Rattle.vx_record.proofs.OwnPlaces.{held_apart}
use Rattle.vx_record.proofs.OwnConfirms.{confirmed_own, given_own}
use Rattle.vx_record.proofs.OwnCounts.{faults_own, refusals_own, idles_own, finishes_own, confirms_own}
use Rattle.vx_places.specs.Holding.{IsKnown}
use Rattle.vx_places.proofs.Steps.{among_counts, event_stays as unanswered, known_later}
use Rattle.vx_tasks.specs.Observing.{IsObserved, HasCounted, of_port, spec_by}
use Rattle.vx_tasks.specs.Out.{IsHeld}

-- what is a task's own stays with its entries
pub stays : {X : Type 0} (f : Record → ℕ → X) → IsOwn f → (old new : Record) (i : ℕ) → mine new i ≡ mine old i → f new i ≡ f old i
stays f own old new i same = own new i ∙ ap (λ (m : Record). f m i) same ∙ sym (own old i)

-- WHAT IT RUNS
-- what is out runs a component
pub runs : (h : Record) (i worker : ℕ) → IsLegal h → out_to h i ≡ Some worker → is_some (component_of h i) ≡ true
runs [] i worker legal out = cc
runs (Install version plan once instances now ∷ h) i worker legal out =
    let no : out_to [] i ≡ Some worker = subst (λ (k : Record). out_to k i ≡ Some worker) legal.0.row.first out in cc
runs (Lease j other now polls ∷ h) i worker legal out = go (j == i) refl out (runs h i worker legal.1)
  where
    go : (b : Bool) → (j == i) ≡ b → (if b then Some other else out_to h i) ≡ Some worker → (out_to h i ≡ Some worker → is_some (component_of h i) ≡ true) → is_some (component_of h i) ≡ true
    go true is o rest = subst (λ (k : ℕ). is_some (component_of h k) ≡ true) (eqb-true j i is) (leased_runs h j other now polls legal.0.row)
    go false is o rest = rest o
runs (Home j ∷ h) i worker legal out = go (j == i) out (runs h i worker legal.1)
  where
    go : (b : Bool) → (if b then None else out_to h i) ≡ Some worker → (out_to h i ≡ Some worker → is_some (component_of h i) ≡ true) → is_some (component_of h i) ≡ true
    go true o rest = cc
    go false o rest = rest o
runs (e ∷ h) i worker legal out = runs h i worker legal.1 out

-- WHAT ITS PORT TELLS
-- what is wired alike runs the same component
pub wired_runs : (new old : Record) (i : ℕ) → wiring new i ≡ wiring old i → component_of new i ≡ component_of old i
wired_runs new old i wired = ap (λ (o : Option Wiring). elim o as (λ _. Option Component) [ None ↦ None | Some w ↦ component_named w.plan w.name ]) wired

-- what runs the same component has a port or not
pub device_is : (new old : Record) (i : ℕ) → component_of new i ≡ component_of old i → device_at new i ≡ device_at old i
device_is new old i run = ap (λ (o : Option Component). elim o [ None ↦ false | Some c ↦ has_device c.settings ]) run

of_port_stays : {X : Type 0} (none : X) (f : Record → ℕ → X) → IsOwn f → (old new : Record) (i : ℕ) → mine new i ≡ mine old i →
    component_of new i ≡ component_of old i → of_port none f new i ≡ of_port none f old i
of_port_stays none f own old new i same run =
    ap (λ (b : Bool). if b then f new i else none) (device_is new old i run)
    ∙ ap (λ (x : _). if device_at old i then x else none) (stays f own old new i same)

pub observed_same : (observed : Observation) (old new : Record) (i : ℕ) → mine new i ≡ mine old i → wiring new i ≡ wiring old i → IsObserved observed old i → IsObserved observed new i
observed_same observed old new i same wired is = record {
  taken = λ stream. subst (λ (w : List ℕ). IfSome (observed.taken stream) (λ bytes. bytes ≡ w)) (sym (of_port_stays [] (λ h k. taken h k stream) (taken_own stream) old new i same run)) (is.taken stream);
  given = subst (λ (w : List ℕ). IfSome observed.given (λ bytes. bytes ≡ w)) (sym (stays given given_own old new i same)) is.given;
  spec = subst (λ (o : Option Wiring). Fits (spec_by o) observed.spec) (sym wired) is.spec;
  confirmed = subst (λ (ps : List Position). IfSome observed.confirmed (λ positions. positions ≡ ps)) (sym (stays confirmed confirmed_own old new i same)) is.confirmed;
  ended = is.ended ∙ sym (stays ended_streams ended_own old new i same);
  over = λ device over. is.over (sym (device_is new old i run) ∙ device) (sym (stays all_ended end_own old new i same) ∙ over);
  faults = subst (λ (n : ℕ). HasCounted observed.exact n observed.faults) (sym (stays fault_count faults_own old new i same)) is.faults;
  refusals = subst (λ (n : ℕ). HasCounted observed.exact n observed.refusals) (sym (stays refusal_count refusals_own old new i same)) is.refusals;
  idles = subst (λ (n : ℕ). HasCounted observed.exact n observed.idles) (sym (stays idle_count idles_own old new i same)) is.idles;
  finishes = subst (λ (n : ℕ). HasCounted observed.exact n observed.finishes) (sym (of_port_stays 0 finish_count finishes_own old new i same run)) is.finishes;
  confirms = subst (λ (n : ℕ). HasCounted observed.exact n observed.confirms) (sym (stays confirm_count confirms_own old new i same)) is.confirms;
}
  where
    run : component_of new i ≡ component_of old i
    run = wired_runs new old i wired

-- WHAT IT HOLDS
-- an entry of others gives a copy that is held no other event
apart_test : (j i : ℕ) → (j == i) ≡ false → (i == j) ≡ false
apart_test j i is = grind (arith, nat_tests, is)

event_stays : (h : Record) (e : Entry) (i c : ℕ) → IsLegal (e ∷ h) → is_of i e ≡ false → c < next_copy h → 0 < count c (joined (at h (Held i))) → event_of (e ∷ h) c ≡ event_of h c
event_stays h (Answer j made discarded kept) i c legal spares l there =
    let stand : 0 < count c (joined (parcels_at (Held i) (stands h))) = subst (λ (ps : List (List ℕ)). 0 < count c (joined ps)) (sym (stands_at h (Held i) legal.1)) there in
    let none = not_there h (Held i) (Held j) c (conserved h legal.1) (apart_test j i spares) stand in
    let released = (conserved (Answer j made discarded kept ∷ h) legal).0 c in
    said_before (λ (output : Output). output.event) made c (event_of h c) (omega (arith, none, released))
event_stays h e i c legal spares l there = unanswered h e c tt l

held_on : (parcels : List Parcel) (i : ℕ) (h : Record) (e : Entry) → IsLegal (e ∷ h) → is_of i e ≡ false → IsHeld h i parcels → IsHeld (e ∷ h) i parcels
held_on parcels i h e legal spares was = record {
  held = was.held ∙ sym (held_apart e i (at h (Held i)) spares);
  known = λ event copy among. on event copy (was.known event copy among) (subst (λ (ps : List (List ℕ)). 0 < count copy.number (joined ps)) was.held (among_counts parcels event copy among));
  filled = was.filled;
}
  where
    on : (event : Event) (copy : Copy) → IsKnown h event copy → 0 < count copy.number (joined (at h (Held i))) → IsKnown (e ∷ h) event copy
    on event copy known there = known_later h e event copy (event_stays h e i copy.number legal spares known.made there) known

pub held_stays : (parcels : List Parcel) (old new : Record) (i : ℕ) → OnlyAdds (Spares i) old new → IsLegal old → IsHeld old i parcels → IsHeld new i parcels
held_stays parcels old new i adds legal is = carry_legal (Spares i) (λ h. IsHeld h i parcels) (λ h e follows spares was. held_on parcels i h e follows spares was) old new adds legal is
