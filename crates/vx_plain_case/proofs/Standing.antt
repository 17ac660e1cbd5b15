-- The events of the parcels that stand at a place, and that entries elsewhere leave them.
use Rattle.std.proofs.Common.{◌≡◌, ℕ, ◌<◌, true, false, List, [], ◌∷◌, map, refl, sym, ap, subst, ◌∙◌, arith}
use Rattle.std.specs.Prelude.{◌-◌, ◌==◌, if◌then◌else◌, nat_lt, slice_index_or}
use Rattle.std.proofs.lemmas.Bool.Decides.{nat_tests}
use Rattle.std.proofs.lemmas.Bool.{eq-eqb}
use Rattle.vx_value.specs.declared.event.Event.{Event}
use Rattle.vx_record.specs.declared.entry.Entry.{Entry}
use Rattle.vx_record.specs.declared.entry.Entry.TheVariants.{Born, Split, Answer}
use Rattle.vx_record.specs.declared.output.Output.{Output}
use Rattle.vx_record.specs.Records.{Record}
use Rattle.vx_record.specs.Copies.{count, joined, next_copy}
use Rattle.vx_record.specs.Places.{Place, same_place, all_puts, left}
use Rattle.vx_record.specs.Places.Place.{Held}
use Rattle.vx_record.specs.Lists.{parcels_at, stands}
use Rattle.vx_record.specs.Parcels.{event_of, parcel_event, no_event}
use Rattle.vx_record.specs.Shifts.{at}
use Rattle.vx_record.specs.Legal.{IsLegal}
use Rattle.vx_record.proofs.Counts.{count-append}
use Rattle.vx_record.proofs.OnePlace.{conserved}
use Rattle.vx_record.proofs.Changes.{NoneEmpty, none_empty}
use Rattle.vx_record.proofs.HeldCopies.{not_there}
use Rattle.vx_record.proofs.Events.{said_before}
use Rattle.vx_record.proofs.Spenders.{stands_live}
use Rattle.vx_record.proofs.Shifting.{stands_at}

-- the events of the parcels at a place, the oldest first
abbrev pub events_at : Record → Place → List Event
events_at h p = map (parcel_event h) (at h p)

-- a copy stands at a place
abbrev pub IsAt : Record → Place → ℕ → Type 0
IsAt h p c = 0 < count c (joined (at h p))

-- no parcel at a place is empty
pub full_at : (h : Record) (p : Place) → IsLegal h → NoneEmpty (at h p)
full_at h p legal = subst NoneEmpty (stands_at h p legal) (none_empty p (left h) (all_puts h))

-- what stands at a place is among the parcels that stand
pub stands_there : (h : Record) (p : Place) (c : ℕ) → IsLegal h → IsAt h p c → 0 < count c (joined (parcels_at p (stands h)))
stands_there h p c legal l = subst (λ (ps : List (List ℕ)). 0 < count c (joined ps)) (sym (stands_at h p legal)) l

-- what stands at a place stands at no other
pub not_at : (h : Record) (p q : Place) (c : ℕ) → IsLegal h → same_place p q ≡ false → IsAt h p c → count c (joined (at h q)) ≡ 0
not_at h p q c legal other l =
    ap (λ (ps : List (List ℕ)). count c (joined ps)) (sym (stands_at h q legal))
    ∙ not_there h p q c (conserved h legal) other (stands_there h p c legal l)

-- an entry puts out nothing that stands there
abbrev pub IsBeside : Entry → Place → Type 0
IsBeside (Answer i made discarded kept) p = same_place p (Held i) ≡ false
IsBeside e p = Unit {0}

-- where a test of numbers holds
when_lt : {A : Type 0} (m n : ℕ) (x y : A) → m < n → (if nat_lt m n then x else y) ≡ x
when_lt m n x y l = grind (arith, nat_tests)

-- what stands beside an entry keeps its event
pub event_stays : (h : Record) (e : Entry) (p : Place) (c : ℕ) → IsLegal (e ∷ h) → IsBeside e p → IsAt h p c → event_of (e ∷ h) c ≡ event_of h c
event_stays h (Born i b place copies events waits stream end) p c legal beside l =
    when_lt c (next_copy h) (event_of h c) (slice_index_or events (c - next_copy h) no_event)
    (stands_live h p c (conserved h legal.1) (stands_there h p c legal.1 l)).0
event_stays h (Split i ports copies event children) p c legal beside l =
    when_lt c (next_copy h) (event_of h c) event (stands_live h p c (conserved h legal.1) (stands_there h p c legal.1 l)).0
event_stays h (Answer i made discarded kept) p c legal beside l =
    said_before (λ (output : Output). output.event) made c (event_of h c)
    (let none = not_there h p (Held i) c (conserved h legal.1) beside (stands_there h p c legal.1 l) in
    let some = (conserved (Answer i made discarded kept ∷ h) legal).0 c in
    omega (arith, none, some))
event_stays h e p c legal beside l = refl

-- parcels keep their events where their copies do
pub parcels_keep : (h k : Record) (ps : List (List ℕ)) → NoneEmpty ps → ((c : ℕ) → 0 < count c (joined ps) → event_of k c ≡ event_of h c) →
    map (parcel_event k) ps ≡ map (parcel_event h) ps
parcels_keep h k [] full keeps = refl
parcels_keep h k ([] ∷ ps) full keeps = absurd full
parcels_keep h k ((c ∷ cs) ∷ ps) full keeps =
    ap (λ (e : Event). e ∷ map (parcel_event k) ps)
    (keeps c (let here : (c == c) ≡ true = eq-eqb c c refl in grind (arith, nat_tests, here)))
    ∙ ap (λ (es : List Event). event_of h c ∷ es)
    (parcels_keep h k ps full (λ d l. keeps d (let more = count-append d (c ∷ cs) (joined ps) in omega (arith, l, more))))

-- so the events at a place beside an entry stay
pub events_stay : (h : Record) (e : Entry) (p : Place) → IsLegal (e ∷ h) → IsBeside e p → map (parcel_event (e ∷ h)) (at h p) ≡ events_at h p
events_stay h e p legal beside =
    parcels_keep h (e ∷ h) (at h p) (full_at h p legal.1) (λ c l. event_stays h e p c legal beside l)
