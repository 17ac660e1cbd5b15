-- What each call leaves a reduce to stand for, where it ended well.
use Rattle.std.proofs.Common.{Result, Ok, Err, OnOk}
use Rattle.std.proofs.Common.{◌≡◌, ℕ, List, [], ◌∷◌, ◌++◌, refl, sym, ◌∙◌, subst}
use Rattle.vx_value.specs.Texts.{ByteString}
use Rattle.vx_ledger.specs.declared.parcel.Parcel.{Parcel}
use Rattle.vx_transform.specs.Shelves.{Shelved}
use Rattle.vx_transform.specs.Moves.{Moves}
use Rattle.vx_condition.specs.Reducing.{Settings}
use Rattle.vx_reduce.specs.declared.reduce.Reduce.{Reduce}
use Rattle.vx_reduce.specs.declared.reduce_settings.ReduceSettings.{ReduceSettings}
use Rattle.vx_reduce.specs.Groups.{copies_held, put_all, outputs_of}
use Rattle.vx_reduce.specs.Keys.{key_datum}
use Rattle.vx_reduce.specs.Merges.{merged_event}
use Rattle.vx_reduce.specs.Reducers.{fields_before, HasAnswered, HasChecked}
use Rattle.vx_reduce.specs.Inputs.{arrived, ticked, at_end}
use Rattle.vx_reduce.specs.Standing.{AreMeant, IsAt, GoesOn, PutsOut, IsMeant}
use Rattle.vx_reduce.proofs.Moving.{answered_moves}
use Rattle.vx_reduce.proofs.GoingOn.{is_meant, goes_on, puts_out, goes_on_tick, puts_out_tick, goes_on_flush, puts_out_flush}

-- the paths of a reduce are those of its settings
pub same_paths : (s : Settings) (settings : ReduceSettings) (paths : List (List ByteString)) → paths ≡ settings.group_by → AreMeant s settings → AreMeant s (record settings { group_by = paths })
same_paths s settings paths e m = record { group_by = e ∙ m.group_by; starts = m.starts; ends = m.ends; expire = m.expire; period = m.period; strategies = m.strategies }

-- ---- an event, with a reduce that is as it was before it was looked at
pub came_on : {T E : Type 0} (r : Result T E) (old mid new : Reduce) (parcel : Parcel) (now : ℕ) (shelf after : Shelved) → mid ≡ old → OnOk r (HasAnswered mid new parcel now shelf after) → OnOk r (GoesOn old new (arrived parcel now))
came_on (Ok x) old mid new parcel now shelf after e h = λ s given i. goes_on s given old new parcel now shelf after (subst (λ (m : Reduce). HasAnswered m new parcel now shelf after) e h) i
came_on (Err x) old mid new parcel now shelf after e h = h

pub came_out_on : {T E : Type 0} (r : Result T E) (old mid new : Reduce) (parcel : Parcel) (now : ℕ) (shelf after : Shelved) → mid ≡ old → OnOk r (HasAnswered mid new parcel now shelf after) → OnOk r (PutsOut old (arrived parcel now) shelf after)
came_out_on (Ok x) old mid new parcel now shelf after e h = λ s given i. puts_out s given old new parcel now shelf after (subst (λ (m : Reduce). HasAnswered m new parcel now shelf after) e h) i
came_out_on (Err x) old mid new parcel now shelf after e h = h

pub came_meant : {T E : Type 0} (r : Result T E) (old mid new : Reduce) (parcel : Parcel) (now : ℕ) (shelf after : Shelved) → mid ≡ old → OnOk r (HasAnswered mid new parcel now shelf after) → OnOk r (IsMeant old)
came_meant (Ok x) old mid new parcel now shelf after e h =
    let a : HasAnswered old new parcel now shelf after = subst (λ (m : Reduce). HasAnswered m new parcel now shelf after) e h in
    is_meant old parcel.event a.starts a.ends a.said.by_starts a.said.by_ends
came_meant (Err x) old mid new parcel now shelf after e h = h

pub came_moves : {T E : Type 0} (r : Result T E) (old mid new : Reduce) (parcel : Parcel) (now : ℕ) (shelf after : Shelved) → mid ≡ old → OnOk r (HasAnswered mid new parcel now shelf after) →
    OnOk r (Moves 1 (copies_held old.groups ++ parcel.finalizers) (copies_held new.groups) shelf after)
came_moves (Ok x) old mid new parcel now shelf after e h =
    let a : HasAnswered old new parcel now shelf after = subst (λ (m : Reduce). HasAnswered m new parcel now shelf after) e h in
    subst (λ (m : Reduce). Moves 1 (copies_held old.groups ++ parcel.finalizers) (copies_held m.groups) shelf after) (sym a.state)
    (answered_moves _ a.starts a.ends (key_datum old.rules.group_by parcel.event)
    (merged_event old.rules.group_by old.rules.strategies (fields_before old a.starts parcel.event) parcel.event) parcel.finalizers now old.groups shelf after refl a.shelf)
came_moves (Err x) old mid new parcel now shelf after e h = h

-- ---- a tick
pub ticked_on : {T E : Type 0} (r : Result T E) (old new : Reduce) (now : ℕ) (shelf after : Shelved) → OnOk r (HasChecked old new now shelf after) → OnOk r (GoesOn old new (ticked now))
ticked_on (Ok x) old new now shelf after h = λ s given i. goes_on_tick s given old now i new shelf after h
ticked_on (Err x) old new now shelf after h = h

pub ticked_out_on : {T E : Type 0} (r : Result T E) (old new : Reduce) (now : ℕ) (shelf after : Shelved) → OnOk r (HasChecked old new now shelf after) → OnOk r (PutsOut old (ticked now) shelf after)
ticked_out_on (Ok x) old new now shelf after h = λ s given i. puts_out_tick s given old now i new shelf after h
ticked_out_on (Err x) old new now shelf after h = h

-- ---- the flush
pub ended_on : {T E : Type 0} (r : Result T E) (old new : Reduce) → OnOk r (new ≡ record old { groups = [] }) → OnOk r (GoesOn old new at_end)
ended_on (Ok x) old new h = λ s given i. goes_on_flush s given old new i h
ended_on (Err x) old new h = h

pub ended_out_on : {T E : Type 0} (r : Result T E) (old new : Reduce) (shelf after : Shelved) → OnOk r (after ≡ put_all shelf (outputs_of old.groups)) → OnOk r (PutsOut old at_end shelf after)
ended_out_on (Ok x) old new shelf after h = λ s given i. puts_out_flush s given old new i shelf after h
ended_out_on (Err x) old new shelf after h = h
