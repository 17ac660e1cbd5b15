-- What rests in the engine's state leaves the hub standing for its record.
use Rattle.std.proofs.Common.{◌≡◌, ◌∙◌, inl, inr, ℕ, zero, suc, ◌≤◌, Bool, true, false, List, [], ◌∷◌, ◌++◌, Option, Some, None, IfSome, length, refl, sym, arith, ap}
use Rattle.std.specs.Prelude.{◌||◌, IsSomeAnd, slice_get, vec_capacity, Result, Ok, Err, is_err, OnOk}
use Rattle.std.proofs.lemmas.Bool.{cases_Bool}
use Rattle.vx_ends.specs.Observation.{Observation}
use Rattle.vx_record.specs.declared.entry.Entry.{Entry}
use Rattle.vx_record.specs.Records.{Record}
use Rattle.vx_record.specs.Abandoning.{abandoned}
use Rattle.vx_record.specs.Additions.{OnlyAdds}
use Rattle.vx_record.specs.Ceasing.{cause_of}
use Rattle.vx_record.specs.Turns.{is_out}
use Rattle.vx_record.proofs.Adding.{adds_none, adds_one}
use Rattle.vx_instances.specs.declared.state.InstanceState.{InstanceState}
use Rattle.vx_instances.specs.Staying.{SameFlags}
use Rattle.vx_moves.specs.declared.engine.EngineState.{EngineState}
use Rattle.vx_moves.specs.Leaving.{Leaves}
use Rattle.vx_moves.specs.Stands.{Stands, Steps}
use Rattle.vx_moves.proofs.Leaving.{capacities_both, each_both}
use Rattle.vx_landing.specs.Landings.{HasComeBack}
use Rattle.vx_landing.proofs.LandedEngine.{still_going, well_flags, fed_flags}
use Rattle.vx_landing.proofs.Lending.{lent_capacity, capacity_lent}
use Rattle.vx_landing.proofs.States.{each_flags}
use Rattle.vx_hub.specs.declared.hub.Hub.{Hub}
use Rattle.vx_hub.specs.Ending.{Rests}
use Rattle.vx_moves.specs.declared.run.Run.{Run}
use Rattle.vx_hub.specs.Standing.{AreSources, AreMergers, IsHub, IsWell, IsFed}

-- OPTIONS AND LISTS
-- what is said of what an option has
pub some_then : {X : Type 0} (o : Option X) {F G : X → Type 0} → IsSomeAnd o F → ((x : X) → F x → G x) → IsSomeAnd o G
some_then None is step = absurd is
some_then (Some x) is step = step x is

pub with_some : {X Q : Type 0} (o : Option X) {F : X → Type 0} → IsSomeAnd o F → ((x : X) → o ≡ Some x → F x → Q) → Q
with_some None is then = absurd is
with_some (Some x) is then = then x refl is

pub if_there : {X : Type 0} (o : Option X) {F : X → Type 0} → ((x : X) → o ≡ Some x → F x) → IfSome o F
if_there None says = tt
if_there (Some x) says = says x refl

-- one more item
pub pushed : {X : Type 0} (F : ℕ → X → Type 0) (xs : List X) (x : X) → ((i : ℕ) → IfSome (slice_get xs i) (F i)) → F (length xs) x →
    (i : ℕ) → IfSome (slice_get (xs ++ x ∷ []) i) (F i)
pushed F [] x all own zero = own
pushed F [] x all own (suc i) = tt
pushed F (y ∷ xs) x all own zero = all zero
pushed F (y ∷ xs) x all own (suc i) = pushed (λ k. F (suc k)) xs x (λ j. all (suc j)) own i

-- RUNS
-- a run that is given up behind what doesn't give it up was so before
pub over_before : (old new : Record) → cause_of new ≡ cause_of old → abandoned new ≡ true → abandoned old ≡ true
over_before old new same over = elim (cases_Bool (abandoned old)) [
  | inl before ↦ before
  | inr going ↦ let still = still_going old new same going in cc
]

-- what doesn't say that it was short says that the run was given up
pub short_or_over : {X E : Type 0} (r : Result X E) (over : Bool) → OnOk r (over ≡ true) → (is_err r || over) ≡ true
short_or_over (Ok x) over is = is
short_or_over (Err e) over is = refl

-- THE ENGINE'S STATE
module _ {P : Type 0} where
  -- one more entry
  pub adds_step : {observe : P → Observation} {e : Entry} {old new : EngineState P} (Kind : Record → Entry → Type 0) →
      Steps observe e old new → Kind old.log e →
      OnlyAdds Kind old.log new.log
  adds_step {e = e} {old} {new} Kind steps kind =
      adds_one Kind old.log old.log new.log e (adds_none Kind old.log old.log refl) steps.follows kind steps.noted

  -- two calls, one after the other
  pub leaves_both : {a b c : EngineState P} → Leaves a b → Leaves b c → Leaves a c
  leaves_both {a} {b} {c} first second = record {
    states = each_both a.states b.states c.states first.states second.states;
    capacities = capacities_both a.places b.places c.places first.capacities second.capacities;
    run = second.run ∙ first.run;
  }

  flags_both : (a b c : Option (InstanceState P)) → IfSome b (λ is. IsSomeAnd a (λ was. SameFlags was is)) →
      IfSome c (λ is. IsSomeAnd b (λ was. SameFlags was is)) → IfSome c (λ is. IsSomeAnd a (λ was. SameFlags was is))
  flags_both a b None first second = tt
  flags_both a None (Some is) first second = absurd second
  flags_both None (Some mid) (Some is) first second = absurd first
  flags_both (Some was) (Some mid) (Some is) first second = record { owing = cc; behind = cc; starved = cc }

  pub rests_both : {a b c : EngineState P} → Rests a b → Rests b c → Rests a c
  rests_both {a} {b} {c} first second = record {
    flags = λ i. flags_both (slice_get a.states i) (slice_get b.states i) (slice_get c.states i) (first.flags i) (second.flags i);
    size = second.size ∙ first.size;
    capacities = capacities_both a.places b.places c.places first.capacities second.capacities;
    plan = second.plan ∙ first.plan;
    short = second.short ∙ first.short;
    latest = second.latest ∙ first.latest;
    out = λ i. second.out i ∙ first.out i;
  }

  -- a call that leaves who is out
  pub leaves_rest : {old new : EngineState P} → Leaves old new → length new.states ≡ length old.states →
      ((i : ℕ) → is_out new.log i ≡ is_out old.log i) → Rests old new
  leaves_rest {old} {new} leaves size out = record {
    flags = each_flags old.states new.states leaves.states;
    size = size;
    capacities = leaves.capacities;
    plan = cc;
    short = cc;
    latest = cc;
    out = out;
  }

  module _ {observe : P → Observation} {hub : Hub P} {engine : EngineState P} {fatal : Bool} (is : IsHub observe hub) where
    -- the hub stands for its record as before, though a call may have answered `Fatal`
    pub hub_rests : Stands observe engine → Rests hub.engine engine → (fatal ≡ false → hub.fatal ≡ false) →
        IsHub observe (record hub { engine = engine; fatal = fatal })
    hub_rests stands rests was =
        let size = rests.size in let rows = stands.size in let few = is.served.few in let port_slots = is.port_slots in record {
          stands = stands;
          served = record { served = rw rests.plan is.served.served; few = omega (arith, size, few) };
          lent = λ i l out. capacity_lent engine.places i (omega (arith, rows, l))
              ((rests.capacities i).1 ∙ lent_capacity hub.engine.places i (is.lent i (omega (arith, size, l)) (sym (rests.out i) ∙ out)));
          well = λ sound. record {
            states = λ i. well_flags (slice_get hub.engine.states i) (slice_get engine.states i) (rests.flags i) ((is.well (was sound)).states i);
            fed = rests.short ∙ (is.well (was sound)).fed;
          };
          fed = λ off i. fed_flags (slice_get hub.engine.states i) (slice_get engine.states i) (rests.flags i) (is.fed (sym rests.short ∙ off) i);
          away = λ i out. well_flags (slice_get hub.engine.states i) (slice_get engine.states i) (rests.flags i) (is.away i (sym (rests.out i) ∙ out));
          port_slots = omega (arith, size, port_slots);
          none = is.none;
          sources = rw (rests.plan, size) is.sources;
          mergers = rw (rests.plan, size) is.mergers;
        }

    -- so it does when a task came back
    pub hub_returned : {i : ℕ} → HasComeBack observe i hub.engine engine → (fatal ≡ false → IsWell engine) →
        IsHub observe (record hub { engine = engine; fatal = fatal })
    hub_returned unleased well =
        let size = unleased.size in let room = is.port_slots in
        let port_slots : length engine.states ≤ vec_capacity hub.ports = omega (arith, size, room) in
        let fed : IsFed engine = unleased.fed is.fed in
        let sources : AreSources engine.run.plan.components (length engine.states) hub.sources.items = rw (ap (λ (r : Run). r.plan) unleased.run, unleased.size) is.sources in
        let mergers : AreMergers engine.run.plan.components (length engine.states) hub.mergers.items = rw (ap (λ (r : Run). r.plan) unleased.run, unleased.size) is.mergers in
        assumption (port_slots, fed, well, sources, mergers, unleased, is)
