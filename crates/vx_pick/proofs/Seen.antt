-- What a deduper keeps once one more event came, what it says of that event, and what it makes of its parcel.
use Rattle.std.proofs.Common.{◌≡◌, ℕ, Bool, true, false, not, cond, List, [], ◌∷◌, ◌++◌, map, take, refl, sym, ◌∙◌, ap}
use Rattle.std.specs.Prelude.{reverse, ◌||◌, if◌then◌else◌}
use Rattle.std.specs.List.{list_any}
use Rattle.std.proofs.lemmas.List.{reverse-append, take-map}
use Rattle.vx_value.specs.Datum.{Datum}
use Rattle.vx_value.specs.declared.event.Event.{Event}
use Rattle.vx_condition.specs.Picking.{Key, same_key, distinct, dedupe_key, latest_keys, dedupe_passes}
use Rattle.vx_ledger.specs.declared.parcel.Parcel.{Parcel}
use Rattle.vx_transform.specs.Shelves.{Shelved}
use Rattle.vx_record.specs.Transforms.{passing}
use Rattle.vx_pick.specs.Answers.{answered_on}
use Rattle.vx_pick.specs.Keys.{key_datum}
use Rattle.vx_pick.specs.Dedupers.{Deduper, same_datum, without, remembering, HasSeen}
use Rattle.vx_pick.specs.Judged.{Deduped, Settled}
use Rattle.vx_pick.proofs.Latest.{without_first, one_more}
use Rattle.vx_pick.proofs.SameKeys.{same_as, once}

any_there : (k : Key) (ls : List Key) → list_any (same_datum (key_datum k)) (map key_datum ls) ≡ list_any (λ l. same_key k l) ls
any_there k [] = refl
any_there k (l ∷ ls) = λ i. same_as k l i || any_there k ls i

without_there : (k : Key) (ls : List Key) → without (key_datum k) (map key_datum ls) ≡ map key_datum (without_first same_key k ls)
without_there k [] = refl
without_there k (l ∷ ls) =
    ap (λ (b : Bool). cond b (map key_datum ls) (key_datum l ∷ without (key_datum k) (map key_datum ls))) (same_as k l)
    ∙ (elim (same_key k l) as (λ b.
    cond b (map key_datum ls) (key_datum l ∷ without (key_datum k) (map key_datum ls)) ≡ map key_datum (cond b ls (l ∷ without_first same_key k ls))) [
      | true ↦ refl
      | false ↦ ap (λ (rest : List Datum). key_datum l ∷ rest) (without_there k ls)
    ])

remembered : (most : ℕ) (k : Key) (ls : List Key) →
    remembering most (key_datum k) (map key_datum ls) ≡ map key_datum (cond (list_any (λ l. same_key k l) ls) (k ∷ without_first same_key k ls) (take most (k ∷ ls)))
remembered most k ls =
    ap (λ (b : Bool). cond b (key_datum k ∷ without (key_datum k) (map key_datum ls)) (take most (key_datum k ∷ map key_datum ls))) (any_there k ls)
    ∙ by (list_any (λ l. same_key k l) ls)
  where
    by : (b : Bool) → cond b (key_datum k ∷ without (key_datum k) (map key_datum ls)) (take most (key_datum k ∷ map key_datum ls))
        ≡ map key_datum (cond b (k ∷ without_first same_key k ls) (take most (k ∷ ls)))
    by true = ap (λ (rest : List Datum). key_datum k ∷ rest) (without_there k ls)
    by false = take-map key_datum most (k ∷ ls)

-- a key by what tells repeats apart inside a deduper is one by what does as contracts see it
pub key_seen : (inside old : Deduper) (read e : Event) (key : Datum) → key ≡ key_datum (dedupe_key inside.by read) → inside ≡ old → read ≡ e →
    key ≡ key_datum (dedupe_key old.by e)
key_seen inside old read e key is same one = is ∙ (λ i. key_datum (dedupe_key (same i).by (one i)))

-- once one more event came, by its key, the keys are those of the events with that one
pub seen_more : (old new : Deduper) (earlier : List Event) (e : Event) (key : Datum) → key ≡ key_datum (dedupe_key old.by e) →
    new.by ≡ old.by → new.most ≡ old.most → new.keys ≡ remembering old.most key old.keys → HasSeen old earlier → HasSeen new (earlier ++ e ∷ [])
seen_more old new earlier e key is by most keys seen =
    keys ∙ (λ i. remembering old.most (is i) (seen i))
    ∙ remembered old.most (dedupe_key old.by e) (latest_keys old.most (dedupe_key old.by) earlier)
    ∙ ap (λ (ks : List Key). map key_datum ks)
    (one_more same_key (dedupe_key old.by e) old.most (distinct (map (dedupe_key old.by) (reverse earlier))) (once (dedupe_key old.by e) (map (dedupe_key old.by) (reverse earlier))))
    ∙ ap (λ (es : List Event). map key_datum (take old.most (distinct (map (dedupe_key old.by) es)))) (sym (reverse-append earlier (e ∷ [])))
    ∙ sym (λ i. map key_datum (latest_keys (most i) (dedupe_key (by i)) (earlier ++ e ∷ [])))

-- an event passes where its key isn't kept
pub seen_passes : (d : Deduper) (earlier : List Event) (e : Event) (key : Datum) (repeats : Bool) → key ≡ key_datum (dedupe_key d.by e) →
    HasSeen d earlier → list_any (same_datum key) d.keys ≡ repeats → passing (dedupe_passes d.most d.by) earlier e ≡ (if not repeats then 0 ∷ [] else [])
seen_passes d earlier e key repeats is seen said =
    ap (λ (b : Bool). if not b then 0 ∷ [] else [])
    (sym (any_there (dedupe_key d.by e) (latest_keys d.most (dedupe_key d.by) earlier))
    ∙ sym (λ i. list_any (same_datum (is i)) (seen i)) ∙ said)

-- so what is made of a parcel by the key of its event is what a deduper makes of it
pub settled_answers : (parcel : Parcel) (before behind : Shelved) (old new : Deduper) (key : Datum) (repeats : Bool) →
    key ≡ key_datum (dedupe_key old.by parcel.event) → list_any (same_datum key) old.keys ≡ repeats →
    Settled parcel before behind old new key (if not repeats then 0 ∷ [] else []) → Deduped parcel before behind old new
settled_answers parcel before behind old new key repeats is said settled = record {
  answered = λ earlier seen.
      settled.answered ∙ ap (λ (ports : List ℕ). answered_on ports before parcel) (sym (seen_passes old earlier parcel.event key repeats is seen said));
  seen = λ earlier seen. seen_more old new earlier parcel.event key is settled.by settled.most settled.keys seen;
  by = settled.by;
  most = settled.most;
}
