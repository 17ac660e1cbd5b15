-- What each component of a plan picks by or keeps, from the first to the last.
use Rattle.std.proofs.Common.{◌≡◌, ◌∙◌, ℕ, zero, suc, ◌+◌, true, List, [], ◌∷◌, ◌++◌, take, drop, map, reverse, Option, Some, None, refl, sym, ap, subst, arith}
use Rattle.std.specs.Prelude.{◌&&◌, slice_get, IfSome}
use Rattle.std.specs.List.{list_all}
use Rattle.std.proofs.lemmas.Bool.{and_parts}
use Rattle.std.proofs.lemmas.List.{reverse-append}
use Rattle.vx_value.specs.Texts.{ByteString}
use Rattle.vx_plan.specs.declared.component.Component.{Component}
use Rattle.vx_plan.specs.declared.settings.Settings.{Settings}
use Rattle.vx_plan.specs.declared.settings.Settings.TheVariants as settings
use Rattle.vx_plan.specs.Components.{is_transform}
use Rattle.vx_record.specs.Records.{Record}
use Rattle.vx_record.specs.Inputs.{inputs}
use Rattle.vx_record.specs.Places.Place.{Held}
use Rattle.vx_record.specs.Shifts.{at}
use Rattle.vx_reduce.specs.declared.reduce_settings.ReduceSettings.{ReduceSettings}
use Rattle.vx_tasks.specs.Joining.{is_joining}
use Rattle.vx_pick.specs.declared.picker.Picker.{Picker}
use Rattle.vx_reading.specs.Conditions.{conditions_by}
use Rattle.vx_reading.specs.Made.{is_made}
use Rattle.vx_keeping.specs.Kept.{Kept, copies_kept}
use Rattle.vx_keeping.specs.Keeping.{Keeps, RunsHost, RunsWith}
use Rattle.vx_hub.specs.Making.{IsPickerFor, ArePickers, IsSlotFor, AreSlots, AreBare}
use Rattle.vx_hub.specs.Standing.{merges}
use Rattle.vx_run.specs.Merging.{merging_of}

-- the conditions from a component on
lists_at : (cs : List Component) (i : ℕ) (c : Component) → slice_get cs i ≡ Some c → map conditions_by (drop i cs) ≡ conditions_by c ∷ map conditions_by (drop (suc i) cs)
lists_at [] i c at = cc
lists_at (d ∷ cs) zero c at = let same : d ≡ c = cc in ap (λ (x : Component). conditions_by x ∷ map conditions_by cs) same
lists_at (d ∷ cs) (suc i) c at = lists_at cs i c at

parted : {X : Type 0} (x y : X) (xs ys : List X) → x ∷ xs ≡ y ∷ ys → (x ≡ y) × (xs ≡ ys)
parted x y xs ys same = (cc, cc)

-- the last of the lists that are left is that of the next component
pub next_list : (cs : List Component) (i : ℕ) (c : Component) (left rest : List (List ByteString)) (list : List ByteString) → slice_get cs i ≡ Some c →
    reverse left ≡ map conditions_by (drop i cs) → left ≡ rest ++ list ∷ [] → (list ≡ conditions_by c) × (reverse rest ≡ map conditions_by (drop (i + 1) cs))
next_list cs i c left rest list at so parts =
    let next : suc i ≡ i + 1 = omega arith in
    let both = parted list (conditions_by c) (reverse rest) (map conditions_by (drop (suc i) cs)) (sym (reverse-append rest (list ∷ [])) ∙ (ap reverse (sym parts) ∙ (so ∙ lists_at cs i c at))) in
    (both.0, both.1 ∙ ap (λ (n : ℕ). map conditions_by (drop n cs)) next)

-- so there is one
pub one_left : (cs : List Component) (i : ℕ) (c : Component) (left : List (List ByteString)) → slice_get cs i ≡ Some c → reverse left ≡ map conditions_by (drop i cs) → left ≡ [] → ⊥
one_left cs i c left at so none = let empty : [] ≡ conditions_by c ∷ map conditions_by (drop (suc i) cs) = ap reverse (sym none) ∙ (so ∙ lists_at cs i c at) in cc

-- where two lists are told of in their order, and each of the first components has what it is to have, so has one more
module _ {X : Type 0} (IsFor : Component → X → Type 0) (AreFor : List Component → List X → Type 0)
    (none : AreFor [] [])
    (both : (c : Component) (cs : List Component) (x : X) (xs : List X) → IsFor c x → AreFor cs xs → AreFor (c ∷ cs) (x ∷ xs))
    (one : (c : Component) (cs : List Component) (x : X) (xs : List X) → AreFor (c ∷ cs) (x ∷ xs) → IsFor c x)
    (rest : (c : Component) (cs : List Component) (x : X) (xs : List X) → AreFor (c ∷ cs) (x ∷ xs) → AreFor cs xs)
    (short : (x : X) (xs : List X) → AreFor [] (x ∷ xs) → ⊥)
    (long : (c : Component) (cs : List Component) → AreFor (c ∷ cs) [] → ⊥) where
  all_to : (cs : List Component) (i : ℕ) (c : Component) (xs : List X) (x : X) → slice_get cs i ≡ Some c → AreFor (take i cs) xs → IsFor c x → AreFor (take (suc i) cs) (xs ++ x ∷ [])
  all_to [] i c xs x at all is = cc
  all_to (d ∷ cs) zero c [] x at all is = let same : d ≡ c = cc in both d [] x [] (subst (λ (e : Component). IsFor e x) (sym same) is) none
  all_to (d ∷ cs) zero c (y ∷ xs) x at all is = absurd (short y xs all)
  all_to (d ∷ cs) (suc i) c [] x at all is = absurd (long d (take i cs) all)
  all_to (d ∷ cs) (suc i) c (y ∷ xs) x at all is =
      both d (take (suc i) cs) y (xs ++ x ∷ []) (one d (take i cs) y xs all) (all_to cs i c xs x at (rest d (take i cs) y xs all) is)

  all_more : (cs : List Component) (i : ℕ) (c : Component) (xs more : List X) (x : X) → more ≡ xs ++ x ∷ [] → slice_get cs i ≡ Some c →
      AreFor (take i cs) xs → IsFor c x → AreFor (take (i + 1) cs) more
  all_more cs i c xs more x observed at all is =
      let next : suc i ≡ i + 1 = omega arith in
      subst (λ (n : ℕ). AreFor (take n cs) more) next (subst (λ (os : List X). AreFor (take (suc i) cs) os) (sym observed) (all_to cs i c xs x at all is))

-- so it is of what they pick by
pub picker_more : (cs : List Component) (i : ℕ) (c : Component) (ps more : List (Option Picker)) (p : Option Picker) → more ≡ ps ++ p ∷ [] → slice_get cs i ≡ Some c →
    ArePickers (take i cs) ps → IsPickerFor c p → ArePickers (take (i + 1) cs) more
picker_more = all_more IsPickerFor ArePickers tt (λ c cs x xs is all. (is, all)) (λ c cs x xs all. all.0) (λ c cs x xs all. all.1) (λ x xs all. all) (λ c cs all. all)

-- and of what they keep
pub slot_more : (cs : List Component) (i : ℕ) (c : Component) (ks more : List (Option Kept)) (k : Option Kept) → more ≡ ks ++ k ∷ [] → slice_get cs i ≡ Some c →
    AreSlots (take i cs) ks → IsSlotFor c k → AreSlots (take (i + 1) cs) more
slot_more = all_more IsSlotFor AreSlots tt (λ c cs x xs is all. (is, all)) (λ c cs x xs all. all.0) (λ c cs x xs all. all.1) (λ x xs all. all) (λ c cs all. all)

-- where no copy is kept, none is with one more that has none
bare_behind : (ks : List (Option Kept)) (k : Option Kept) → AreBare ks → IfSome k (λ (kept : Kept). copies_kept kept ≡ []) → AreBare (ks ++ k ∷ [])
bare_behind [] k all bare = (bare, tt)
bare_behind (first ∷ ks) k all bare = (all.0, bare_behind ks k all.1 bare)

pub bare_more : (ks more : List (Option Kept)) (k : Option Kept) → more ≡ ks ++ k ∷ [] → AreBare ks → IfSome k (λ (kept : Kept). copies_kept kept ≡ []) → AreBare more
bare_more ks more k observed all bare = subst AreBare (sym observed) (bare_behind ks k all bare)

-- what begins with none has none
pub bare_none : (ks : List (Option Kept)) → ks ≡ [] → AreBare ks
bare_none ks is = subst AreBare (sym is) tt

-- each of them is made of what was read
pub made_at : (cs : List Component) (i : ℕ) (c : Component) → slice_get cs i ≡ Some c → list_all is_made cs ≡ true → is_made c ≡ true
made_at [] i c at all = cc
made_at (d ∷ cs) zero c at all = let same : d ≡ c = cc in ap is_made (sym same) ∙ (and_parts (is_made d) (list_all is_made cs) all).0
made_at (d ∷ cs) (suc i) c at all = made_at cs i c at (and_parts (is_made d) (list_all is_made cs) all).1

-- what merges by some settings is a reduce by these
reduce_is : (s : Settings) (r : ReduceSettings) → Some r ≡ merging_of s → s ≡ settings.Reduce r.group_by r.starts_when r.ends_when r.expire_after_ms r.flush_period_ms r.strategies
reduce_is (settings.Reduce group_by starts_when ends_when expire flush strategies) r is =
    let by : ReduceSettings = record {
      group_by = group_by;
      starts_when = starts_when;
      ends_when = ends_when;
      expire_after_ms = expire;
      flush_period_ms = flush;
      strategies = strategies;
    } in
    let same : by ≡ r = cc in
    ap (λ (x : ReduceSettings). settings.Reduce x.group_by x.starts_when x.ends_when x.expire_after_ms x.flush_period_ms x.strategies) same
reduce_is other r is = cc

-- what merges by none is handed in
host_is : (s : Settings) → is_joining s ≡ true → None ≡ merging_of s → s ≡ settings.Host
host_is settings.Host joins none = refl
host_is (settings.Reduce group_by starts_when ends_when expire flush strategies) joins none = cc
host_is other joins none = cc

-- so what each of them keeps as it begins is that of its component
pub reduce_slot : (c : Component) (k : Kept) (r : ReduceSettings) → merges c ≡ true → Some r ≡ merging_of c.settings → k.fit ≡ true → k.discarded ≡ [] →
    ((h : Record) (i : ℕ) → RunsWith h i r → inputs h i ≡ [] → at h (Held i) ≡ [] → Keeps k h i) → IsSlotFor c (Some k)
reduce_slot c k r joins is fit cleared keeps =
    let both = and_parts (is_transform c) (is_joining c.settings) joins in
    record {
      merging = joins;
      fit = fit;
      cleared = cleared;
      keeps = λ h i runs given none. keeps h i (record { component = c; runs = runs; transform = both.0; set = reduce_is c.settings r is }) given none;
    }

pub host_slot : (c : Component) (k : Kept) → merges c ≡ true → None ≡ merging_of c.settings → k.fit ≡ true → k.discarded ≡ [] →
    ((h : Record) (i : ℕ) → RunsHost h i → inputs h i ≡ [] → at h (Held i) ≡ [] → Keeps k h i) → IsSlotFor c (Some k)
host_slot c k joins is fit cleared keeps =
    let both = and_parts (is_transform c) (is_joining c.settings) joins in
    record {
      merging = joins;
      fit = fit;
      cleared = cleared;
      keeps = λ h i runs given none. keeps h i (record { component = c; runs = runs; transform = both.0; set = host_is c.settings both.1 is }) given none;
    }
