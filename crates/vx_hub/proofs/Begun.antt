-- A hub as it begins.
use Rattle.std.proofs.Common.{◌≡◌, ◌≢◌, ◌∙◌, ℕ, zero, suc, ◌+◌, ◌<◌, ◌≤◌, inl, inr, Bool, true, false, List, [], ◌∷◌, ◌++◌, Option, Some, None, IfSome, IsSome, length, refl, sym, ap, subst, arith, get_or}
use Rattle.std.specs.Global.{Vec}
use Rattle.std.specs.Prelude.{◌^◌, ◌&&◌, if◌then◌else◌, map, IsSomeAnd, slice_get, slice_set, vec_capacity}
use Rattle.std.proofs.lemmas.Bool.{and_from, cases_eq, cases_lt}
use Rattle.std.proofs.lemmas.List.{length_push}
use Rattle.std.proofs.lemmas.Option.{IfSome_then, slice_get_past, slice_get_read, slice_get-get_or}
use Rattle.vx_ends.specs.Observation.{Observation, Fits}
use Rattle.vx_plan.specs.declared.component.Component.{Component}
use Rattle.vx_plan.specs.declared.plan.Plan.{Plan}
use Rattle.vx_plan.specs.declared.stage.Stage.{Stage}
use Rattle.vx_plan.specs.Accepted.{IsPlan}
use Rattle.vx_plan.specs.Components.{is_transform, stages}
use Rattle.vx_plan.specs.Options.{has_device}
use Rattle.vx_ends.specs.declared.port_spec.PortSpec.{PortSpec}
use Rattle.vx_plan.specs.Ports.{port_of}
use Rattle.vx_record.specs.declared.entry.Entry.TheVariants.{Install}
use Rattle.vx_record.specs.Records.{Record}
use Rattle.vx_record.specs.Generating.{lines_at_once}
use Rattle.vx_record.specs.Installs.{component_of, component_or, device_at}
use Rattle.vx_record.specs.Judges.{is_judging}
use Rattle.vx_record.specs.Places.Place.{Held}
use Rattle.vx_record.specs.Reads.{all_ended}
use Rattle.vx_record.specs.Starting.{first_instances}
use Rattle.vx_record.specs.Wirings.{begun}
use Rattle.vx_record.proofs.FirstWiring.{found, wiring_of_first}
use Rattle.vx_record.proofs.Wired.{begun_legal, component_there, component_in_place}
use Rattle.vx_pick.specs.declared.picker.Picker.{Picker}
use Rattle.vx_sourcecore.specs.Turns.{NothingLeft}
use Rattle.vx_sourcecore.proofs.Keeping.{fresh_abreast}
use Rattle.vx_sourcecore.proofs.MakingKept.{generator_fresh}
use Rattle.vx_balance.proofs.Steps.{aside_kept}
use Rattle.vx_counts.proofs.Begun.{begun_first, begun_stays}
use Rattle.vx_places.specs.Views.{row_at, parcels_here}
use Rattle.vx_places.specs.declared.row.Row.{Row}
use Rattle.vx_places.specs.Holding.{Holds}
use Rattle.vx_places.specs.Capacities.{capacities_at, capacities_if, held_capacity}
use Rattle.vx_places.proofs.Steps.{holds_step, still_shifts}
use Rattle.vx_tasks.specs.declared.task.Role.{Role}
use Rattle.vx_tasks.specs.declared.task.Role.TheVariants.{Source, Generator, Sink, Blackhole, Transform, Merge, Unfit}
use Rattle.vx_tasks.specs.Unleased.{StandsAt, HasCome, IsTaskOf}
use Rattle.vx_tasks.specs.Observing.{IsObserved, HasCounted, spec_by, spec_of}
use Rattle.vx_instances.specs.declared.state.InstanceState.{InstanceState}
use Rattle.vx_instances.specs.Beginning.{AreNew, IsFresh, AreFresh}
use Rattle.vx_instances.specs.Knowing.{Knows}
use Rattle.vx_instances.proofs.Staying.{written, other_state}
use Rattle.vx_moves.specs.declared.engine.EngineState.{EngineState}
use Rattle.vx_tasks.specs.Joining.{joins_at}
use Rattle.vx_keeping.specs.Kept.{Kept}
use Rattle.vx_moves.specs.Keepers.{keeper_at, OthersJudge}
use Rattle.vx_landing.proofs.Lending.{capacity_lent}
use Rattle.vx_moves.specs.Capacities.{planned_capacities, held_limit_of, IsHeldLimitOf}
use Rattle.vx_moves.specs.Stands.{Stands}
use Rattle.vx_hub.specs.declared.hub.Hub.{Hub}
use Rattle.vx_hub.specs.declared.making.Allocated.{Allocated}
use Rattle.vx_hub.specs.declared.parts.Named.{Named}
use Rattle.vx_hub.specs.Beginning.{IsBegun, at_once, IsWorkerFor, IsRoleFor, IsRoleBut, AreFor, IsAllocatedFor, HaveCapacities, AreRoledFrom, AreTaskedFrom}
use Rattle.vx_hub.specs.Making.{AreSlots, IsUntouched, AreUntouched, IsPickerFor, ArePickers, is_served, all_served}
use Rattle.vx_hub.specs.Standing.{AreSources, AreMergers, IsHub, merges}
use Rattle.vx_hub.proofs.Kept.{slots_at, slots_size, whose_if, kept_if, hand_says, hand_seen, alone_room, joined_room}
use Rattle.vx_hub.proofs.Resting.{with_some, if_there, pushed}
use Rattle.vx_hub.proofs.Served.{serves, served_at}

-- LOOPS
-- one more, for the next component in a loop over them
pub for_next : {X : Type 0} (F : X → Component → Type 0) {components items : List Component}
    (xs : List X) {ys : List X} (x : X) {c : Component} {i : ℕ} → items ≡ components → ys ≡ xs ++ x ∷ [] →
    AreFor F components xs → length xs ≡ i → i < length items → c ≡ get_or items i c → F x c → AreFor F components ys
for_next F {components} {items} xs x {c} {i} same more all size l is f =
    rw more (pushed (λ j y. IsSomeAnd (slice_get components j) (F y)) xs x all (rw (size, ← same, slice_get_read items (length items) i c refl l is) f))

-- what is no transform has its role
pub worker_but : (role : Role) (c : Component) → IsWorkerFor c.settings role → IsRoleBut role c
worker_but (Source core) c is = is
worker_but (Generator maker) c is = is
worker_but (Sink codec) c is = is
worker_but Blackhole c is = is
worker_but (Transform picker) c is = absurd is
worker_but Merge c is = absurd is
worker_but Unfit c is = absurd is

-- two lists are the same below a number
abbrev pub SameBelow : {X : Type 0} → ℕ → List X → List X → Type 0
SameBelow n xs ys = (i : ℕ) → i < n → slice_get xs i ≡ slice_get ys i

before_last : {X : Type 0} (xs : List X) (x : X) (i : ℕ) → i < length xs → slice_get (xs ++ x ∷ []) i ≡ slice_get xs i
before_last [] x i l = absurd (omega (arith, l))
before_last (y ∷ xs) x zero l = refl
before_last (y ∷ xs) x (suc i) l = before_last xs x i (omega (arith, l))

at_last : {X : Type 0} (xs : List X) (x : X) → slice_get (xs ++ x ∷ []) (length xs) ≡ Some x
at_last [] x = refl
at_last (y ∷ xs) x = at_last xs x

-- a list that is the same as another below its end loses its last item
pub popped : {X : Type 0} {xs : List X} (zs ys : List X) {x : X} → xs ≡ zs ++ x ∷ [] → SameBelow (length xs) xs ys →
    SameBelow (length zs) zs ys × (slice_get ys (length zs) ≡ Some x) × (length xs ≡ length zs + 1)
popped {X} {xs} zs ys {x} parts same =
    let size : length xs ≡ length zs + 1 = ap length parts ∙ length_push zs x in
    let is = λ (i : ℕ) (l : i < length zs + 1). ap (λ (vs : List X). slice_get vs i) (sym parts) ∙ same i (omega (arith, size, l)) in
    (λ i l. sym (before_last zs x i l) ∙ is i (omega (arith, l)), sym (is (length zs) (omega arith)) ∙ at_last zs x, size)

-- one state more, before those that have a role and a port
pub tasked_more : {P : Type 0} (before : List (InstanceState P)) (roles : List Role) (ports : List (Named P))
    (states : List (InstanceState P)) (n : ℕ) {was : InstanceState P} {role : Role} {named : Named P} → n < length states →
    slice_get before n ≡ Some was → slice_get roles n ≡ Some role → slice_get ports n ≡ Some named → AreTaskedFrom (n + 1) before roles ports states →
    AreTaskedFrom n before roles ports (slice_set states n (record was { task = Some (record { port = named.port; role = role }) }))
tasked_more before roles ports states n {was} {role} {named} within there role_is named_is rest j l = elim (cases_eq j n) [
  | inl same ↦ rw (same, written states n (record was { task = Some (record { port = named.port; role = role }) }) within, there, role_is, named_is)
  | inr other ↦ rw (other_state states n j (record was { task = Some (record { port = named.port; role = role }) }) other) (rest j (omega (arith, l, other)))
]

-- a list with another item in one place
pub put_here : {X : Type 0} (xs : List X) (i : ℕ) (x : X) → i < length xs → slice_get (slice_set xs i x) i ≡ Some x
put_here [] i x l = absurd (omega (arith, l))
put_here (y ∷ xs) zero x l = refl
put_here (y ∷ xs) (suc i) x l = put_here xs i x (omega (arith, l))

pub put_aside : {X : Type 0} (xs : List X) (i : ℕ) (x : X) (j : ℕ) → j ≢ i → slice_get (slice_set xs i x) j ≡ slice_get xs j
put_aside [] i x j other = refl
put_aside (y ∷ xs) zero x zero other = absurd (other refl)
put_aside (y ∷ xs) zero x (suc j) other = refl
put_aside (y ∷ xs) (suc i) x zero other = refl
put_aside (y ∷ xs) (suc i) x (suc j) other = put_aside xs i x j (λ e. other (ap suc e))

pub put_size : {X : Type 0} (xs : List X) (i : ℕ) (x : X) → length (slice_set xs i x) ≡ length xs
put_size [] i x = refl
put_size (y ∷ xs) zero x = refl
put_size (y ∷ xs) (suc i) x = ap suc (put_size xs i x)

-- the roles from those on that are left have what they pick by
pub record AreRoledSo (before : List Role) (all left : List (Option Picker)) (roles : List Role) : Type 0 where
  pub size : length roles ≡ length before
  pub within : length left ≤ length before
  pub same : SameBelow (length left) left all
  pub kept : SameBelow (length left) roles before
  pub roled : AreRoledFrom (length left) before all roles

-- so has the last of those that are left, where it has that, or has none
module _ (before : List Role) (all : List (Option Picker)) {left : List (Option Picker)} (rest : List (Option Picker)) (o : Option Picker)
    (parts : left ≡ rest ++ o ∷ []) (roles : List Role) (so : AreRoledSo before all left roles) where
  last : SameBelow (length rest) rest all × (slice_get all (length rest) ≡ Some o) × (length left ≡ length rest + 1)
  last = popped rest all parts so.same

  there : slice_get before (length rest) ≡ Some (get_or before (length rest) Unfit)
  there = let fewer = last.2 in let within = so.within in slice_get-get_or before (length rest) Unfit (omega (arith, fewer, within))

  one_more : (new : List Role) → length new ≡ length roles → slice_get new (length rest) ≡ Some (elim o [ None ↦ get_or before (length rest) Unfit | Some p ↦ Transform p ]) →
      ((j : ℕ) → j ≢ length rest → slice_get new j ≡ slice_get roles j) → AreRoledSo before all rest new
  one_more new size here aside = let fewer = last.2 in let within = so.within in record {
    size = size ∙ so.size;
    within = omega (arith, fewer, within);
    same = last.0;
    kept = λ j l. aside j (λ e. omega (arith, e, l)) ∙ so.kept j (omega (arith, l, fewer));
    roled = λ j l. elim (cases_eq j (length rest)) [
      | inl same ↦ rw (same, here, there, last.1) refl
      | inr other ↦ rw (aside j other) (so.roled j (omega (arith, l, other, fewer)))
    ];
  }

  pub roled_none : o ≡ None → AreRoledSo before all rest roles
  roled_none is = let fewer = last.2 in one_more roles refl (rw is (so.kept (length rest) (omega (arith, fewer)) ∙ there)) (λ j other. refl)

  pub roled_some : (p : Picker) → o ≡ Some p → AreRoledSo before all rest (slice_set roles (length rest) (Transform p))
  roled_some p is = let fewer = last.2 in let within = so.within in let size = so.size in
      one_more (slice_set roles (length rest) (Transform p)) (put_size roles (length rest) (Transform p))
      (rw is (put_here roles (length rest) (Transform p) (omega (arith, fewer, within, size)))) (put_aside roles (length rest) (Transform p))

-- ROLES
pickers_at : (components : List Component) (pickers : List (Option Picker)) → ArePickers components pickers → (i : ℕ) →
    IfSome (slice_get pickers i) (λ picker. IfSome (slice_get components i) (λ c. IsPickerFor c picker))
pickers_at components [] all i = tt
pickers_at [] (picker ∷ pickers) all i = absurd all
pickers_at (d ∷ rest) (picker ∷ pickers) all zero = all.0
pickers_at (d ∷ rest) (picker ∷ pickers) all (suc i) = pickers_at rest pickers all.1 i

-- with what a transform picks by a role is whole
full_role : (role : Role) (picker : Option Picker) (c : Component) → IsRoleBut role c → IsPickerFor c picker →
    IsRoleFor (elim picker [ None ↦ role | Some p ↦ Transform p ]) c
full_role (Source core) None c but of = but
full_role (Generator maker) None c but of = but
full_role (Sink codec) None c but of = but
full_role Blackhole None c but of = but
full_role (Transform p) None c but of = absurd but
full_role Merge None c but of = but
full_role Unfit None c but (inl other) = let is = but.0 in cc
full_role Unfit None c but (inr merging) = let alone = but.1 in cc
full_role role (Some p) c but of = of.1

pub full_roles : (components : List Component) (roles : List Role) (pickers : List (Option Picker)) (roled : List Role) →
    AreFor IsRoleBut components roles → ArePickers components pickers → AreRoledFrom 0 roles pickers roled → AreFor IsRoleFor components roled
full_roles components roles pickers roled but of each i = IfSome_then (slice_get roled i) (each i (omega arith)) (λ is has.
    with_some (slice_get roles i) has (λ was was_there picked.
    with_some (slice_get pickers i) picked (λ picker there made.
    let bare : IsSomeAnd (slice_get components i) (IsRoleBut was) = rw was_there at (but i) in
    with_some (slice_get components i) bare (λ c c_there fits.
    let picks : IsPickerFor c picker = rw (there, c_there) at (pickers_at components pickers of i) in
    rw (c_there, made) (full_role was picker c fits picks)))))

-- as many have what they pick by as there are
pub pickers_size : (components : List Component) (pickers : List (Option Picker)) → ArePickers components pickers → length pickers ≡ length components
pickers_size [] [] all = refl
pickers_size [] (picker ∷ pickers) all = absurd all
pickers_size (d ∷ rest) [] all = absurd all
pickers_size (d ∷ rest) (picker ∷ pickers) all = ap suc (pickers_size rest pickers all.1)

-- STATES
untouched_at : {P : Type 0} (observe : P → Observation) (needs : Component → Option PortSpec) (components : List Component) (ports : List (Named P)) →
    AreUntouched observe needs components ports → (i : ℕ) →
    IfSome (slice_get ports i) (λ named. IfSome (slice_get components i) (λ c. IsUntouched (needs c) (observe named.port)))
untouched_at observe needs components [] all i = tt
untouched_at observe needs [] (n ∷ ports) all i = absurd all
untouched_at observe needs (d ∷ rest) (n ∷ ports) all zero = all.0
untouched_at observe needs (d ∷ rest) (n ∷ ports) all (suc i) = untouched_at observe needs rest ports all.1 i

fit_role : (role : Role) (c : Component) → IsRoleFor role c → role ≢ Unfit
fit_role (Source core) c is = λ e. cc
fit_role (Generator maker) c is = λ e. cc
fit_role (Sink codec) c is = λ e. cc
fit_role Blackhole c is = λ e. cc
fit_role (Transform picker) c is = λ e. cc
fit_role Merge c is = λ e. cc
fit_role Unfit c is = absurd is

-- what it keeps stands for nothing
bare_role : (role : Role) (c : Component) → IsRoleFor role c → StandsAt role []
bare_role (Source core) c is = tt
bare_role (Generator maker) c is = tt
bare_role (Sink codec) c is = tt
bare_role Blackhole c is = tt
bare_role (Transform picker) c is = is.1
bare_role Merge c is = tt
bare_role Unfit c is = absurd is

-- of an instance nothing is had at first, be there a port or not
either : {X : Type 0} (b : Bool) (x : X) → (if b then x else x) ≡ x
either true x = refl
either false x = refl

module _ {plan : Plan} (accepted : IsPlan plan) (i : ℕ) {c : Component}
    (there : slice_get plan.components i ≡ Some c) (once : Bool) (now : ℕ) where
  runs : component_of (begun plan once now) i ≡ Some c
  runs = component_there (begun plan once now) plan i c (begun_legal plan once now accepted) refl there

  abbrev h : Record
  h = begun plan once now

  -- the port is made for what its component needs
  spec_first : spec_of h i ≡ port_of once plan.global.data_dir c
  spec_first =
      ap spec_by (wiring_of_first plan once now i c there)
      ∙ ap (λ (o : Option Component). elim o as (λ _. Option PortSpec) [ None ↦ None | Some d ↦ port_of once plan.global.data_dir d ]) (found plan.components i c accepted.named there)

  observed_first : (observed : Observation) → IsUntouched (port_of once plan.global.data_dir c) observed → IsObserved observed h i
  observed_first observed u =
      let device : Bool = device_at h i in
      let over : device ≡ true → all_ended h i ≡ true → NothingLeft observed = λ on e. cc in
      let spec : Fits (spec_of h i) observed.spec = subst (λ (o : Option PortSpec). Fits o observed.spec) (sym spec_first) u.made_for in
      let taken : (stream : ℕ) → IfSome (observed.taken stream) (λ bytes. bytes ≡ (if device then [] else [])) =
      λ stream. IfSome_then (observed.taken stream) (u.taken stream) (λ bytes is. is ∙ sym (either device [])) in
      let finishes : HasCounted observed.exact (if device then 0 else 0) observed.finishes = rw (either {X = ℕ} device 0) u.finishes in
      assumption (over, spec, taken, finishes, u)

  -- whether it works with a port is what its settings say, and so is how many lines it makes at once
  device_first : device_at h i ≡ has_device c.settings
  device_first = ap (λ (o : Option Component). elim o as (λ _. Bool) [ None ↦ false | Some d ↦ has_device d.settings ]) runs

  at_once_first : lines_at_once h i ≡ at_once c.settings
  at_once_first = ap (λ (o : Option Component). elim o as (λ _. ℕ) [ None ↦ 0 | Some d ↦ at_once d.settings ]) runs

  come_first : (role : Role) → IsRoleFor role c → HasCome h i role
  come_first (Source core) is = (fresh_abreast h i c core.decoding core runs is.0.decoding_is is.0.fresh refl (λ stream. refl), device_first ∙ is.1)
  come_first (Generator maker) is = (
    generator_fresh h i c maker.core.decoding maker.lines.settings (at_once c.settings) maker.core maker runs is.made_of at_once_first is.cuts.decoding_is is.cuts.fresh is.begun
        refl (λ stream. refl) refl refl,
    device_first ∙ is.portless,
  )
  come_first (Sink codec) is = rw runs is
  come_first Blackhole is = rw runs is
  come_first (Transform picker) is = rw runs is.0
  come_first Merge is = ap (λ (o : Option Component). elim o as (λ _. Bool) [ None ↦ false | Some d ↦ merges d ]) runs ∙ is
  come_first Unfit is = absurd is

module _ {P : Type 0} {observe : P → Observation} {plan : Plan} (accepted : IsPlan plan) (once : Bool) where
  -- a state that has its role and its port
  fresh_state : (i : ℕ) (c : Component) (was : InstanceState P) (role : Role) (port : P) →
      slice_get plan.components i ≡ Some c → IsBegun plan was c → IsRoleFor role c → IsUntouched (port_of once plan.global.data_dir c) (observe port) →
      IsFresh observe plan once i (record was { task = Some (record { port = port; role = role }) }) c
  fresh_state i c was role port there begins is untouched =
      let unleased : (now : ℕ) → IsTaskOf observe (begun plan once now) i (record { port = port; role = role }) = λ now.
      record { observed = observed_first accepted i there once now (observe port) untouched; come = come_first accepted i there once now role is } in
      assumption (unleased, fit_role role c is, bare_role role c is, begins.counts i, begins)

  pub all_fresh : (states : List (InstanceState P)) (roles : List Role) (ports : List (Named P)) (tasked : List (InstanceState P)) →
      AreFor (IsBegun plan) plan.components states → AreFor IsRoleFor plan.components roles →
      AreUntouched observe (port_of once plan.global.data_dir) plan.components ports → length tasked ≡ length plan.components →
      AreTaskedFrom 0 states roles ports tasked → AreFresh observe plan once tasked
  all_fresh states roles ports tasked begins fit untouched size each = record {
    size = size;
    each = λ i. IfSome_then (slice_get tasked i) (each i (omega arith)) (λ state is.
        with_some (slice_get states i) is (λ was was_there has.
        with_some (slice_get roles i) has (λ role role_there holds.
        with_some (slice_get ports i) holds (λ named named_there made.
        let begun_by : IsSomeAnd (slice_get plan.components i) (IsBegun plan was) = rw was_there at (begins i) in
        with_some (slice_get plan.components i) begun_by (λ c there begin.
        let fits : IsRoleFor role c = rw (role_there, there) at (fit i) in
        let bare : IsUntouched (port_of once plan.global.data_dir c) (observe named.port) = rw (named_there, there) at (untouched_at observe (port_of once plan.global.data_dir) plan.components ports untouched i) in
        rw (there, made) (fresh_state i c was role named.port there begin fits bare))))));
  }

-- PLACES
module _ {plan : Plan} (accepted : IsPlan plan) (once : Bool) (now : ℕ) (rows : List Row) (holds : Holds rows [])
    (capacities : HaveCapacities plan.components rows) (size : length rows ≡ length plan.components) where
  in_place : (i : ℕ) → component_of (begun plan once now) i ≡ slice_get plan.components i
  in_place i = component_in_place (begun plan once now) plan i (begun_legal plan once now accepted) refl

  holds_first : Holds rows (begun plan once now)
  holds_first = holds_step [] (Install 0 plan once (first_instances 0 plan.components) now) [] rows rows (begun_legal plan once now accepted)
      (still_shifts (Install 0 plan once (first_instances 0 plan.components) now) rows tt)
      (λ event copy among. absurd among) holds

  planned_first : (i : ℕ) (o : Option Component) → slice_get plan.components i ≡ o →
      (planned_capacities (begun plan once now) i ≡ map (λ (stage : Stage). stage.max_events) (elim o [ None ↦ [] | Some c ↦ stages c ]))
      × (component_or 0 held_limit_of (begun plan once now) i ≡ (elim o [ None ↦ 0 | Some c ↦ held_limit_of c ]))
  planned_first i o is = (
    ap (λ (x : Option Component). map (λ (stage : Stage). stage.max_events) (elim x [ None ↦ [] | Some c ↦ stages c ])) (in_place i ∙ is),
    ap (λ (x : Option Component). elim x [ None ↦ 0 | Some c ↦ held_limit_of c ]) (in_place i ∙ is),
  )

  room_first : (i : ℕ) → (capacities_at rows i ≡ planned_capacities (begun plan once now) i) ×
      IfSome (held_capacity rows i) (IsHeldLimitOf (begun plan once now) i)
  room_first i = elim (cases_lt i (length rows)) [
    | inl l ↦ with_some (slice_get plan.components i) (capacities i l) (λ c there has.
        let planned = planned_first i (Some c) there in
        (has.stages ∙ sym planned.0, IfSome_then (held_capacity rows i) (hand_says (merges c) (held_limit_of c) (held_capacity rows i) has.held_limit) (λ n is. is ∙ sym planned.1)))
    | inr past ↦
        let gone = slice_get_past rows i past in
        (ap capacities_if gone ∙ sym (planned_first i None (slice_get_past plan.components i (omega (arith, past, size)))).0, rw gone tt)
  ]

  -- what an instance holds is seen exactly where it doesn't merge
  joins_first : (i : ℕ) → joins_at (begun plan once now) i ≡ (elim (slice_get plan.components i) [ None ↦ false | Some c ↦ merges c ])
  joins_first i = ap (λ (o : Option Component). elim o as (λ _. Bool) [ None ↦ false | Some c ↦ merges c ]) (in_place i)

  seen_first : (i : ℕ) → joins_at (begun plan once now) i ≡ false → IsSome (parcels_here rows (Held i))
  seen_first i alone = elim (cases_lt i (length rows)) [
    | inl l ↦ with_some (slice_get plan.components i) (capacities i l) (λ c there has.
        let not_merging : merges c ≡ false = sym (joins_first i ∙ ap (λ (o : Option Component). elim o as (λ _. Bool) [ None ↦ false | Some d ↦ merges d ]) there) ∙ alone in
        hand_seen i (held_limit_of c) (row_at rows i) (alone_room (merges c) (held_limit_of c) (held_capacity rows i) has.held_limit not_merging))
    | inr past ↦ rw (slice_get_past rows i past) refl
  ]

  apart_first : (i : ℕ) → joins_at (begun plan once now) i ≡ true → parcels_here rows (Held i) ≡ None
  apart_first i joins = elim (cases_lt i (length rows)) [
    | inl l ↦ with_some (slice_get plan.components i) (capacities i l) (λ c there has.
        let merging : merges c ≡ true = sym (joins_first i ∙ ap (λ (o : Option Component). elim o as (λ _. Bool) [ None ↦ false | Some d ↦ merges d ]) there) ∙ joins in
        capacity_lent rows i l (joined_room (merges c) (held_limit_of c) (held_capacity rows i) has.held_limit merging))
    | inr past ↦
        let none = ap (λ (o : Option Component). elim o as (λ _. Bool) [ None ↦ false | Some d ↦ merges d ]) (slice_get_past plan.components i (omega (arith, past, size))) in
        let no : false ≡ true = sym (joins_first i ∙ none) ∙ joins in cc
  ]

-- TRANSFORMS
judges_if : (o : Option Component) → IfSome o (λ c. is_served c ≡ true) → (elim o [ None ↦ false | Some c ↦ is_transform c ]) ≡ true →
    (elim o [ None ↦ false | Some c ↦ merges c ]) ≡ false → (elim o [ None ↦ false | Some c ↦ is_transform c && is_judging c.settings ]) ≡ true
judges_if None served is alone = cc
judges_if (Some c) served is alone = and_from (is_transform c) (is_judging c.settings) is (serves c served is alone)

-- each that doesn't merge judges event by event
judging_first : (plan : Plan) (once : Bool) (now : ℕ) → IsPlan plan → all_served plan.components ≡ true → OthersJudge (begun plan once now)
judging_first plan once now accepted served i = let h = begun plan once now in judges_if (component_of h i)
    (rw (component_in_place h plan i (begun_legal plan once now accepted) refl) (if_there (slice_get plan.components i) (λ c there. served_at plan.components i c served there)))

-- ALL OF IT
module _ {P : Type 0} {observe : P → Observation} {plan : Plan} {once : Bool} {now : ℕ} {room : Allocated P}
    {states : List (InstanceState P)} (accepted : IsPlan plan) (few : length plan.components < 2 ^ 32)
    (served : all_served plan.components ≡ true) (made : IsAllocatedFor plan room) (keepers : Vec (Option Kept)) (slots : AreSlots plan.components keepers.items) (fresh : AreFresh observe plan once states)
    (knows : Knows observe states (begun plan once now)) where
  abbrev engine_first : Record → EngineState P
  engine_first log = record {
    places = room.places;
    keepers = keepers;
    states = states;
    balance = room.balance;
    run = record { plan = plan; abandoned = None; latest = now; out_of_memory = false };
    log = log;
  }

  state_new : {F : InstanceState P → Type 0} → ((state : InstanceState P) → AreNew state.facts → F state) → (i : ℕ) → IfSome (slice_get states i) F
  state_new says i = IfSome_then (slice_get states i) (fresh.each i) (λ state is. with_some (slice_get plan.components i) is (λ c there new. says state new.facts))

  stands_first : Stands observe (engine_first (begun plan once now))
  stands_first = record {
    legal = begun_legal plan once now accepted;
    places = holds_first accepted once now room.places made.holds made.capacities made.places_size;
    states = knows;
    balance = aside_kept room.balance [] (Install 0 plan once (first_instances 0 plan.components) now) tt made.balance;
    run = record { installed = refl; cause = refl; later = λ worker. omega arith; judging = judging_first plan once now accepted served; returned = λ fed. tt };
    size = made.places_size ∙ sym fresh.size;
    kept = λ i unleased alone. seen_first accepted once now room.places made.holds made.capacities made.places_size i alone;
    capacities = let each = room_first accepted once now room.places made.holds made.capacities made.places_size in
        record { stages = λ i. (each i).0; holdings = λ i. (each i).1 };
    begun = begun_stays (joins_at (begun plan once now)) (Install 0 plan once (first_instances 0 plan.components) now) [] (begun_legal plan once now accepted) tt (begun_first (joins_at (begun plan once now)));
    keepers = record {
      many = slots_size plan.components keepers.items slots ∙ sym made.places_size;
      whose = λ i. whose_if (slice_get plan.components i) (keeper_at keepers.items i) (slots_at plan.components keepers.items slots i)
          ∙ sym (joins_first accepted once now room.places made.holds made.capacities made.places_size i);
      apart = apart_first accepted once now room.places made.holds made.capacities made.places_size;
    };
    keeps = λ i. kept_if (begun plan once now) i (slice_get plan.components i) (keeper_at keepers.items i)
        (in_place accepted once now room.places made.holds made.capacities made.places_size i) (slots_at plan.components keepers.items slots i) refl refl refl;
  }

  pub hub_first : (hub : Hub P) {log : Record} → log ≡ begun plan once now → hub.engine ≡ engine_first log →
      length states ≤ vec_capacity hub.ports → hub.ports.items ≡ [] → AreSources plan.components (length states) hub.sources.items →
      AreMergers plan.components (length states) hub.mergers.items → IsHub observe hub
  hub_first hub first is port_slots none sources mergers = record {
    stands = rw (is, first) stands_first;
    served = rw (is, first) (record { served = served; few = let same = fresh.size in omega (arith, same, few) });
    lent = rw (is, first) (λ i l out. cc);
    well = λ sound. rw (is, first)
        (record { states = state_new (λ state new. record { settled = new.owing; counted = new.behind; fed = new.starved }); fed = refl });
    fed = rw is (λ sound. state_new (λ state new. record { counted = new.behind; fed = new.starved }));
    away = rw (is, first) (λ i out. cc);
    port_slots = rw is port_slots;
    none = none;
    sources = rw is sources;
    mergers = rw is mergers;
  }
