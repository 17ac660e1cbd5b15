-- What a cache keeps of keys, as a list of them.
use Rattle.std.proofs.Common.{◌≡◌, ℕ, suc, ◌+◌, ◌-◌, ◌<◌, ◌≤◌, Bool, true, false, cond, List, [], ◌∷◌, take, length, Option, Some, None, refl, sym, ◌∙◌, ap, arith}
use Rattle.std.specs.Prelude.{◌||◌, is_some}
use Rattle.std.specs.List.{list_any}
use Rattle.std.specs.Option.{option_map_or}
use Rattle.std.specs.Map.{keys_of, lookup, lookup_entry, remove_entry}
use Rattle.std.proofs.lemmas.List.{take_all, take-map}
use Rattle.vx_value.specs.Datum.{Datum}
use Rattle.lru.specs.LruCache.{LruCache, promoted, put_entries}
use Rattle.lru.proofs.CallerLemmas.{Contains-lookup_entry}
use Rattle.vx_pick.specs.Alike.{one_value}
use Rattle.vx_pick.specs.Dedupers.{same_datum, without, remembering}

module _ (key : Datum) where
  -- a key is found where it is there
  pub found : {V : Type 0} (es : List (Datum × V)) → is_some (lookup (same_datum key) es) ≡ list_any (same_datum key) (keys_of es)
  found [] = refl
  found (e ∷ es) =
      elim (same_datum key e.0) as (λ b. is_some (cond b (Some e.1) (lookup (same_datum key) es)) ≡ (b || list_any (same_datum key) (keys_of es))) [
        | true ↦ refl
        | false ↦ found es
      ]

  found_entry : {V : Type 0} (es : List (Datum × V)) → is_some (lookup_entry (same_datum key) es) ≡ list_any (same_datum key) (keys_of es)
  found_entry [] = refl
  found_entry (e ∷ es) =
      elim (same_datum key e.0) as (λ b. is_some (cond b (Some e) (lookup_entry (same_datum key) es)) ≡ (b || list_any (same_datum key) (keys_of es))) [
        | true ↦ refl
        | false ↦ found_entry es
      ]

  removed : {V : Type 0} (es : List (Datum × V)) → keys_of (remove_entry (same_datum key) es) ≡ without key (keys_of es)
  removed [] = refl
  removed (e ∷ es) =
      elim (same_datum key e.0) as (λ b. keys_of (cond b es (e ∷ remove_entry (same_datum key) es)) ≡ cond b (keys_of es) (e.0 ∷ without key (keys_of es))) [
        | true ↦ refl
        | false ↦ ap (λ (rest : List Datum). e.0 ∷ rest) (removed es)
      ]

  -- one that is there goes first
  pub promoted_keys : {V : Type 0} (es : List (Datum × V)) → list_any (same_datum key) (keys_of es) ≡ true →
      keys_of (promoted (same_datum key) es) ≡ key ∷ without key (keys_of es)
  promoted_keys {V} es there = by (lookup_entry (same_datum key) es) refl
    where
      by : (o : Option (Datum × V)) → lookup_entry (same_datum key) es ≡ o →
          keys_of (option_map_or (λ (e : Datum × V). e ∷ remove_entry (same_datum key) es) o es) ≡ key ∷ without key (keys_of es)
      by None is =
          let no : false ≡ true = ap is_some (sym is) ∙ found_entry es ∙ there in cc
      by (Some e) is =
          let one : key ≡ e.0 = one_value key e.0 (Contains-lookup_entry (same_datum key) es e is).1 in
          (λ i. sym one i ∷ removed es i)

  -- and where it isn't, none does
  pub promoted_absent : {V : Type 0} (es : List (Datum × V)) → list_any (same_datum key) (keys_of es) ≡ false → promoted (same_datum key) es ≡ es
  promoted_absent {V} es absent = by (lookup_entry (same_datum key) es) refl
    where
      by : (o : Option (Datum × V)) → lookup_entry (same_datum key) es ≡ o → option_map_or (λ (e : Datum × V). e ∷ remove_entry (same_datum key) es) o es ≡ es
      by None is = refl
      by (Some e) is = let no : true ≡ false = ap is_some (sym is) ∙ found_entry es ∙ absent in cc

  -- and there are as many
  without_length : (ks : List Datum) → list_any (same_datum key) ks ≡ true → suc (length (without key ks)) ≡ length ks
  without_length [] there = cc
  without_length (k ∷ ks) there =
      (elim (same_datum key k) as (λ b. (b || list_any (same_datum key) ks) ≡ true → suc (length (cond b ks (k ∷ without key ks))) ≡ suc (length ks)) [
        | true ↦ λ t. refl
        | false ↦ λ t. ap suc (without_length ks t)
      ]) there

  keys_length : {V : Type 0} (es : List (Datum × V)) → length (keys_of es) ≡ length es
  keys_length [] = refl
  keys_length (e ∷ es) = ap suc (keys_length es)

  pub promoted_length : {V : Type 0} (es : List (Datum × V)) → list_any (same_datum key) (keys_of es) ≡ true →
      length (promoted (same_datum key) es) ≡ length es
  promoted_length es there =
      sym (keys_length (promoted (same_datum key) es)) ∙ ap length (promoted_keys es there) ∙ without_length (keys_of es) there ∙ keys_length es

  -- so it is remembered
  pub promoted_remembers : {V : Type 0} (most : ℕ) (es : List (Datum × V)) → list_any (same_datum key) (keys_of es) ≡ true →
      keys_of (promoted (same_datum key) es) ≡ remembering most key (keys_of es)
  promoted_remembers most es there =
      promoted_keys es there
      ∙ sym (ap (λ (b : Bool). cond b (key ∷ without key (keys_of es)) (take most (key ∷ keys_of es))) there)

  -- one that isn't there is put before the others, where there is room
  pub put_new : {V : Type 0} (c : LruCache Datum V) (v : V) → list_any (same_datum key) (keys_of c.entries) ≡ false → length c.entries < c.cap →
      put_entries same_datum c key v ≡ (key, v) ∷ c.entries
  put_new {V} c v absent room = by (lookup_entry (same_datum key) c.entries) refl
    where
      by : (o : Option (Datum × V)) → lookup_entry (same_datum key) c.entries ≡ o →
          option_map_or (λ (e : Datum × V). (e.0, v) ∷ remove_entry (same_datum key) c.entries) o ((key, v) ∷ take (c.cap - 1) c.entries) ≡ (key, v) ∷ c.entries
      by None is = ap (λ (rest : List (Datum × V)). (key, v) ∷ rest) (take_all (c.cap - 1) c.entries (omega (arith, room)))
      by (Some e) is = let no : true ≡ false = ap is_some (sym is) ∙ found_entry c.entries ∙ absent in cc

  -- and is remembered, once the others are no more than there may be
  pub put_remembers : {V : Type 0} (most : ℕ) (es : List (Datum × V)) (v : V) → list_any (same_datum key) (keys_of es) ≡ false →
      keys_of (take most ((key, v) ∷ es)) ≡ remembering most key (keys_of es)
  put_remembers most es v absent =
      taken most ((key, v) ∷ es)
      ∙ sym (ap (λ (b : Bool). cond b (key ∷ without key (keys_of es)) (take most (key ∷ keys_of es))) absent)
    where
      taken : {V : Type 0} (n : ℕ) (fs : List (Datum × V)) → keys_of (take n fs) ≡ take n (keys_of fs)
      taken n fs = sym (take-map (λ e. e.0) n fs)

-- the oldest goes where there is one more
pub trimmed : {X : Type 0} (most : ℕ) (es : List X) → most < length es → length es ≤ most + 1 → take (length es - 1) es ≡ take most es
trimmed most es more few = ap (λ (n : ℕ). take n es) (omega (arith, more, few))
