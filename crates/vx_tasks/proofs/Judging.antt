-- What was judged is what the settings of a component say.
use Rattle.std.proofs.Common.{◌≡◌, ℕ, zero, suc, ◌+◌, List, [], ◌∷◌, ◌++◌, take, Option, Some, None, refl, sym, ap, ◌∙◌, subst, append_assoc, append-nil, arith}
use Rattle.std.specs.Prelude.{◌≢◌, ◌<◌, length, slice_get, map, IsSomeAnd}
use Rattle.vx_value.specs.declared.event.Event.{Event}
use Rattle.vx_ledger.specs.declared.parcel.Parcel.{Parcel}
use Rattle.vx_plan.specs.declared.component.Component.{Component}
use Rattle.vx_plan.specs.declared.settings.Settings.{Settings}
use Rattle.vx_record.specs.Records.{Record}
use Rattle.vx_record.specs.Installs.{component_of}
use Rattle.vx_record.specs.Parcels.{parcel_event}
use Rattle.vx_record.specs.Places.Place.{Held}
use Rattle.vx_record.specs.Shifts.{at}
use Rattle.vx_record.specs.Transforms.{Judge, port_bits, answered_events}
use Rattle.vx_plan.specs.Options.{conditions_of}
use Rattle.vx_pick.specs.Picks.{Picks, StandsFor, AreMeant, ArePicked}
use Rattle.vx_pick.specs.declared.picker.Picker.{Picker}
use Rattle.vx_places.specs.Numbers.{numbers}
use Rattle.vx_tasks.specs.Doing.{events_in, AllPicked}
use Rattle.vx_tasks.specs.Out.{IsHeld, AreJudged, events_held, picked_ports}
use Rattle.vx_tasks.proofs.Writing.{events_said}

one_more : (i : ℕ) → suc i ≡ i + 1
one_more i = omega arith

-- what is made of one more of some
made_next : {X Y : Type 0} (f : X → Y) (xs : List X) (i : ℕ) (x : X) → slice_get xs i ≡ Some x → map f (take (suc i) xs) ≡ map f (take i xs) ++ f x ∷ []
made_next f [] i x is = cc
made_next f (y ∷ ys) zero x is = let same : y ≡ x = cc in ap (λ z. f z ∷ []) same
made_next f (y ∷ ys) (suc i) x is = ap (λ zs. f y ∷ zs) (made_next f ys i x is)

-- the events of one parcel more
events_next : (ps : List Parcel) (i : ℕ) (p : Parcel) → slice_get ps i ≡ Some p → events_in (take (i + 1) ps) ≡ events_in (take i ps) ++ p.event ∷ []
events_next ps i p is = ap (λ k. events_in (take k ps)) (sym (one_more i)) ∙ made_next (λ (q : Parcel). q.event) ps i p is

-- and the ports of one event more
picked_next : (judge : Judge) (earlier es : List Event) (e : Event) →
    picked_ports judge earlier (es ++ e ∷ []) ≡ picked_ports judge earlier es ++ port_bits (judge (earlier ++ es) e) ∷ []
picked_next judge earlier [] e = ap (λ (before : List Event). port_bits (judge before e) ∷ []) (sym (append-nil earlier))
picked_next judge earlier (x ∷ xs) e =
    ap (λ (ns : List ℕ). port_bits (judge earlier x) ∷ ns)
    (picked_next judge (earlier ++ x ∷ []) xs e
    ∙ ap (λ (before : List Event). picked_ports judge (earlier ++ x ∷ []) xs ++ port_bits (judge before e) ∷ []) (append_assoc earlier (x ∷ []) xs))

-- one more parcel was judged
pub picked_step : (settings : Settings) (earlier : List Event) (ps : List Parcel) (i : ℕ) (p : Parcel) (now new : List ℕ) (ports : ℕ) → slice_get ps i ≡ Some p →
    AllPicked settings earlier (events_in (take i ps)) now → ArePicked settings (earlier ++ events_in (take i ps)) p.event ports → new ≡ now ++ ports ∷ [] →
    AllPicked settings earlier (events_in (take (i + 1) ps)) new
picked_step settings earlier ps i p now new ports is before said added = λ tests judge mean rule.
    added
    ∙ ap (λ (ns : List ℕ). ns ++ ports ∷ []) (before tests judge mean rule)
    ∙ ap (λ (n : ℕ). picked_ports judge earlier (events_in (take i ps)) ++ n ∷ []) (said tests judge mean rule)
    ∙ sym (picked_next judge earlier (events_in (take i ps)) p.event)
    ∙ ap (picked_ports judge earlier) (sym (events_next ps i p is))

-- and what is kept stands for its event too
pub stood_step : (picker : Picker) (earlier : List Event) (ps : List Parcel) (i : ℕ) (p : Parcel) → slice_get ps i ≡ Some p →
    StandsFor picker ((earlier ++ events_in (take i ps)) ++ p.event ∷ []) → StandsFor picker (earlier ++ events_in (take (i + 1) ps))
stood_step picker earlier ps i p is =
    subst (StandsFor picker)
    (append_assoc earlier (events_in (take i ps)) (p.event ∷ []) ∙ ap (λ (es : List Event). earlier ++ es) (sym (events_next ps i p is)))

-- the events of what an instance holds are those of its parcels
pub held_said : (h : Record) (i : ℕ) (parcels : List Parcel) → IsHeld h i parcels → events_in parcels ≡ events_held h i
held_said h i parcels held = sym (events_said h parcels held.known held.filled) ∙ ap (map (parcel_event h)) held.held

-- who picks by the settings of a component goes on picking by them
pub come_on : (h : Record) (i : ℕ) (old new : Picker) → ((settings : Settings) → Picks settings old → Picks settings new) →
    IsSomeAnd (component_of h i) (λ (c : Component). Picks c.settings old) → IsSomeAnd (component_of h i) (λ (c : Component). Picks c.settings new)
come_on h i old new on = go (component_of h i)
  where
    go : (o : Option Component) → IsSomeAnd o (λ (c : Component). Picks c.settings old) → IsSomeAnd o (λ (c : Component). Picks c.settings new)
    go None picks = absurd picks
    go (Some c) picks = on c.settings picks

-- what was picked of all that an instance holds was judged by whatever judge its component is
pub all_judged : (h : Record) (i : ℕ) (picker : Picker) (parcels : List Parcel) (ports : List ℕ) → IsSomeAnd (component_of h i) (λ (c : Component). Picks c.settings picker) →
    StandsFor picker (answered_events h i) → IsHeld h i parcels →
    ((settings : Settings) (earlier : List Event) → Picks settings picker → StandsFor picker earlier → AllPicked settings earlier (events_in parcels) ports) → AreJudged h i ports
all_judged h i picker parcels ports come stands held said = λ judge by.
    let picks = subst (λ (o : Option Component). IsSomeAnd o (λ (c : Component). Picks c.settings picker)) by.runs come in
    said by.component.settings (answered_events h i) picks stands by.tests judge by.mean by.ruled
    ∙ ap (picked_ports judge (answered_events h i)) (held_said h i parcels held)

-- where it holds anything, the conditions of its component mean something
pub held_meant : (h : Record) (i : ℕ) (picker : Picker) (parcels : List Parcel) → IsSomeAnd (component_of h i) (λ (c : Component). Picks c.settings picker) → IsHeld h i parcels →
    ((settings : Settings) → Picks settings picker → 0 < length parcels → AreMeant (conditions_of settings)) → at h (Held i) ≢ [] →
    IsSomeAnd (component_of h i) (λ (c : Component). AreMeant (conditions_of c.settings))
held_meant h i picker parcels come held meant some = go (component_of h i) come
  where
    many : (ps : List Parcel) → numbers ps ≢ [] → 0 < length ps
    many [] none = absurd (none refl)
    many (p ∷ ps) none = omega arith

    go : (o : Option Component) → IsSomeAnd o (λ (c : Component). Picks c.settings picker) → IsSomeAnd o (λ (c : Component). AreMeant (conditions_of c.settings))
    go None picks = absurd picks
    go (Some c) picks = meant c.settings picks (many parcels (λ none. some (sym held.held ∙ none)))
