-- What the numbers of a copy say of its life.
use Rattle.std.proofs.Common.{◌≡◌, ℕ, zero, suc, ◌-◌, ◌%◌, ◌<◌, ◌≤◌, List, [], ◌∷◌, arith, length, inl, inr}
use Rattle.std.specs.Prelude.{if◌then◌else◌, nat_lt, slice_index}
use Rattle.std.proofs.lemmas.Bool.Decides.{nat_tests}
use Rattle.std.proofs.lemmas.Bool.{cases_lt, cases_eq}
use Rattle.vx_value.specs.declared.event.Event.{Event}
use Rattle.vx_record.specs.Records.{Record}
use Rattle.vx_record.specs.declared.child.Child.{Child}
use Rattle.vx_record.specs.declared.entry.Entry.TheVariants.{Split}
use Rattle.vx_record.specs.Copies.{count, next_copy, times_split, times_spent, IsLive}
use Rattle.vx_record.specs.Batches.{parent}
use Rattle.vx_record.specs.Places.Kind.{AnOutput}
use Rattle.vx_record.specs.Moving.{Conserves, IsConserved}
use Rattle.vx_record.proofs.OnePlace.{tracked}
use Rattle.vx_record.proofs.Tracked.{Tracked, stand_cases}
use Rattle.vx_record.proofs.Steps.{moves}

pub if_lt : (m n x y : ℕ) → m < n → (if nat_lt m n then x else y) ≡ x
if_lt m n x y l = grind (arith, nat_tests)

pub if_ge : (m n x y : ℕ) → n ≤ m → (if nat_lt m n then x else y) ≡ y
if_ge m n x y l = grind (arith, nat_tests)

-- a copy that is not yet made is neither split nor spent
pub unmade_whole : (h : Record) (c : ℕ) → Tracked h c → next_copy h ≤ c → (times_split h c ≡ 0) × (times_spent h c ≡ 0)
unmade_whole h c t l = let u = t.unmade l in (omega arith, omega arith)

-- what a Split replaces is live
pub split_live : (h : Record) (c i ports : ℕ) (copies : List ℕ) (event : Event) (children : List Child) → Tracked h c →
    Conserves h (Split i ports copies event children) → 0 < count c copies → IsLive h c
split_live h c i ports copies event children t a l =
    let m = moves h (Split i ports copies event children) c a in
    elim (cases_lt c (next_copy h)) [
      | inl below ↦ elim (stand_cases AnOutput h c) [
        | inl none ↦ (below, omega arith, omega arith)
        | inr some ↦ absurd (omega arith)
      ]
      | inr above ↦ let u = t.unmade above in elim (stand_cases AnOutput h c) [
        | inl none ↦ absurd (omega arith)
        | inr some ↦ absurd (omega arith)
      ]
    ]

pub count-at : (xs : List ℕ) (j : ℕ) → j < length xs → 0 < count (slice_index xs j) xs
count-at [] j l = absurd (omega arith)
count-at (x ∷ xs) zero l = grind (arith, nat_tests)
count-at (x ∷ xs) (suc j) l = let e = count-at xs j (omega arith) in omega arith

pub place_of_counted : (xs : List ℕ) (c : ℕ) → 0 < count c xs → (j : ℕ) × (j < length xs) × (slice_index xs j ≡ c)
place_of_counted [] c l = absurd (omega arith)
place_of_counted (x ∷ xs) c l =
    elim (cases_eq x c) [
      | inl same ↦ (0, omega arith, same)
      | inr other ↦
          let in_rest : 0 < count c xs = grind (arith, nat_tests) in
          let r = place_of_counted xs c in_rest in
          (suc r.0, omega arith, r.2)
    ]

-- each child has a parent that is split
pub parent_split : (next : ℕ) (copies : List ℕ) (c : ℕ) → 0 < length copies → 0 < count (parent next copies c) copies
parent_split next copies c l = count-at copies ((c - next) % length copies) (omega arith)

-- and it is live until then
pub parent_live : (h : Record) (c i ports : ℕ) (copies : List ℕ) (event : Event) (children : List Child) → IsConserved (Split i ports copies event children ∷ h) →
    next_copy h ≤ c → c < next_copy (Split i ports copies event children ∷ h) → IsLive h (parent (next_copy h) copies c)
parent_live h c i ports copies event children kept l u =
    let some : 0 < length copies = grind arith in
    let p = parent (next_copy h) copies c in
    split_live h p i ports copies event children (tracked h p kept.1) kept.0 (parent_split (next_copy h) copies c some)
