-- What becomes of the keepers behind an entry.
use Rattle.std.specs.Prelude.{IsSomeAnd, ◌<◌}
use Rattle.std.proofs.Common.{◌≡◌, ◌∙◌, ℕ, Bool, true, false, is_some, List, ◌∷◌, Option, Some, None, IfSome, IsSome, length, refl, sym, ap}
use Rattle.std.specs.Option.{option_map}
use Rattle.vx_ledger.specs.declared.parcel.Parcel.{Parcel}
use Rattle.vx_record.specs.declared.entry.Entry.{Entry}
use Rattle.vx_record.specs.declared.entry.Entry.TheVariants.{Tick}
use Rattle.vx_record.specs.Records.{Record}
use Rattle.vx_record.specs.Legal.{IsLegal}
use Rattle.vx_record.specs.Places.{Place}
use Rattle.vx_record.specs.Places.Place.{Outputs, Waiting, Contents, Held}
use Rattle.vx_counts.specs.Begun.{is_held_of}
use Rattle.vx_places.specs.Calls.{HasHeldRoom}
use Rattle.vx_places.specs.Capacities.{held_capacity}
use Rattle.vx_places.specs.Numbers.{numbers}
use Rattle.vx_places.specs.Views.{parcels_here}
use Rattle.vx_places.specs.declared.row.Row.{Row}
use Rattle.vx_tasks.specs.Joining.{joins_at}
use Rattle.vx_keeping.specs.Kept.{Kept}
use Rattle.vx_keeping.specs.Laws.{LeavesKept, IsNoTick}
use Rattle.vx_keeping.proofs.Going.{keeps_stays}
use Rattle.vx_keeping.proofs.Resting.{ticks_stay}
use Rattle.vx_moves.specs.Keepers.{keeper_at, AreWhose, IsKept, AreKept, StandApart, SparesKeeper, SparesKept}

-- a keeper is that of the record behind an entry that leaves what it keeps
leaves_it : (h : Record) (i : ℕ) (e : Entry) → SparesKeeper h i e → LeavesKept h i e × IsNoTick i e
leaves_it h i (Tick j now) spares = (tt, spares)
leaves_it h i e spares = (spares, tt)

pub stays_kept : (o : Option Kept) (h : Record) (i : ℕ) (e : Entry) → IsLegal (e ∷ h) → SparesKeeper h i e → IfSome o (λ k. IsKept k h i) → IfSome o (λ k. IsKept k (e ∷ h) i)
stays_kept None h i e legal spares kept = tt
stays_kept (Some k) h i e legal spares kept =
    let both = leaves_it h i e spares in
    record { keeps = keeps_stays k h i e legal both.0 kept.keeps; cleared = kept.cleared; unticked = ticks_stay h i e both.1 kept.unticked }

-- and so is each
pub kept_behind : (slots : List (Option Kept)) (h : Record) (e : Entry) → IsLegal (e ∷ h) → SparesKept h e → AreWhose slots h → AreKept slots h → AreKept slots (e ∷ h)
kept_behind slots h e legal spares whose kept i = go (keeper_at slots i) refl
  where
    go : (o : Option Kept) → keeper_at slots i ≡ o → IfSome (keeper_at slots i) (λ k. IsKept k (e ∷ h) i)
    go None is = rw is tt
    go (Some k) is = stays_kept (keeper_at slots i) h i e legal (spares i (sym (whose i) ∙ ap is_some is)) (kept i)

-- what can't be seen can't be seen behind an entry either
pub none_still : (F : List (List ℕ) → List (List ℕ)) (new old : Option (List Parcel)) → option_map numbers new ≡ option_map F (option_map numbers old) →
    old ≡ None → new ≡ None
none_still F None old same is = refl
none_still F (Some parcels) old same is = let no = rw is at same in cc

-- an instance whose parcels are seen doesn't merge
pub seen_alone : (rows : List Row) (h : Record) (i : ℕ) → StandApart rows h → IsSome (parcels_here rows (Held i)) → joins_at h i ≡ false
seen_alone rows h i apart seen = go (joins_at h i) refl
  where
    go : (b : Bool) → joins_at h i ≡ b → joins_at h i ≡ false
    go false is = is
    go true is = let no = rw (apart i is) at seen in cc

-- nor is a place that is seen one of an instance that does
pub place_alone : (rows : List Row) (h : Record) (p : Place) {parcels : List Parcel} → StandApart rows h → parcels_here rows p ≡ Some parcels → is_held_of (joins_at h) p ≡ false
place_alone rows h (Outputs i) apart seen = refl
place_alone rows h (Waiting i t) apart seen = refl
place_alone rows h (Contents i s) apart seen = refl
place_alone rows h (Held i) apart seen = seen_alone rows h i apart (rw seen refl)

-- where it has room for one more parcel, they are seen
pub room_seen : (rows : List Row) (i : ℕ) → HasHeldRoom rows i → IsSome (parcels_here rows (Held i))
room_seen rows i room = go (parcels_here rows (Held i)) room
  where
    go : (o : Option (List Parcel)) → IsSomeAnd o (λ parcels. IsSomeAnd (held_capacity rows i) (λ room. length parcels < room)) → IsSome o
    go None is = absurd is
    go (Some parcels) is = refl

-- what is done by one that doesn't is done by no other that does
pub spares_other : (h : Record) (i : ℕ) → joins_at h i ≡ false → (j : ℕ) → joins_at h j ≡ true → i ≡ j → ⊥
spares_other h i alone j joins same = let no = rw same at alone in cc
