-- Laws on routes.
use Rattle.std.proofs.Common.{◌≡◌, ℕ, zero, suc, ◌+◌, ◌-◌, ◌*◌, ◌^◌, ◌<◌, List, [], ◌∷◌, ◌++◌, length, take, get_or, Bool, true, false, subst, ◌∙◌, sym, append_assoc, append-nil, length-append, arith, ◌==◌, if◌then◌else◌}
use Rattle.std.specs.List.{All}
use Rattle.std.specs.Int.{bit_at}
use Rattle.std.proofs.lemmas.Grind.{common_steps}
use Rattle.std.proofs.lemmas.List.{take_all, take_more}
use Rattle.std.proofs.lemmas.List.Elements.{All-append, All-nil, All-head, All-tail}
use Rattle.vx_ledger.specs.declared.child.Child.{Child}
use Rattle.vx_ledger.specs.declared.parcel.Parcel.{Parcel}
use Rattle.vx_ledger.specs.Copies.{copies_of, renumbered}
use Rattle.vx_ledger.specs.Routing.{named, targets_from, child_of, children_for, copies_in}
use Rattle.vx_ledger.specs.declared.open_batch.OpenBatch.{OpenBatch}
use Rattle.vx_ledger.specs.Ledger.{live_count, grown_rows, AreLiveIn}
use Rattle.vx_ledger.proofs.CopyLaws.{copies_of-append, copies_of-renumbered}
use Rattle.vx_ledger.proofs.RowLaws.{live_count-grown_rows}
use Rattle.vx_ledger.proofs.SplitLaws.{last_target}

-- one more port at the end
pub targets_from_more : (ports port i : ℕ) (lists : List (List ℕ)) (d : List ℕ) → i < length lists →
    targets_from ports port (take (i + 1) lists)
    ≡ targets_from ports port (take i lists) ++ named ports (port + i) (get_or lists i d)
targets_from_more ports port i [] d l = grind arith
targets_from_more ports port zero (x ∷ xs) d l = grind (arith, common_steps)
targets_from_more ports port (suc i) (x ∷ xs) d l =
    let next : suc i + 1 ≡ suc (i + 1) = omega arith in
    let place : port + suc i ≡ port + 1 + i = omega arith in
    let below : i < length xs = omega arith in
    rw (next, place, targets_from_more ports (port + 1) i xs d below)
    (sym (append_assoc (named ports port x) (targets_from ports (port + 1) (take i xs)) (named ports (port + 1 + i) (get_or xs i d))))

-- one more port at the end that is named
pub targets_from_named : (ports i : ℕ) (lists : List (List ℕ)) (d : List ℕ) → i < length lists →
    (bit_at ports i == 1) ≡ true →
    targets_from ports 0 (take (i + 1) lists) ≡ targets_from ports 0 (take i lists) ++ get_or lists i d
targets_from_named ports i lists d l set =
    let first : 0 + i ≡ i = omega arith in
    let family : Bool → Type 0 = λ b. targets_from ports 0 (take (i + 1) lists) ≡ targets_from ports 0 (take i lists) ++ (if b then get_or lists i d else []) in
    let more = targets_from_more ports 0 i lists d l in
    subst family set (rw first at more)

-- one more port at the end that isn't named
pub targets_from_other : (ports i : ℕ) (lists : List (List ℕ)) (d : List ℕ) → i < length lists →
    (bit_at ports i == 1) ≡ false →
    targets_from ports 0 (take (i + 1) lists) ≡ targets_from ports 0 (take i lists)
targets_from_other ports i lists d l clear =
    let first : 0 + i ≡ i = omega arith in
    let family : Bool → Type 0 = λ b. targets_from ports 0 (take (i + 1) lists) ≡ targets_from ports 0 (take i lists) ++ (if b then get_or lists i d else []) in
    let more = targets_from_more ports 0 i lists d l in
    subst family clear (rw first at more) ∙ append-nil (targets_from ports 0 (take i lists))

-- the targets of a port are instances, named or not
pub named_below : (ports port : ℕ) (targets : List ℕ) → All (λ t. t < 2 ^ 32) targets →
    All (λ t. t < 2 ^ 32) (named ports port targets)
named_below ports port targets h =
    elim (bit_at ports port == 1) as (λ b. All (λ t. t < 2 ^ 32) (if b then targets else [])) [ true ↦ h | false ↦ All-nil (λ t. t < 2 ^ 32) ]

-- targets are instances, where those of each port are
pub targets_from_below : (ports port : ℕ) (lists : List (List ℕ)) →
    All (λ targets. All (λ t. t < 2 ^ 32) targets) lists → All (λ t. t < 2 ^ 32) (targets_from ports port lists)
targets_from_below ports port [] h = All-nil (λ t. t < 2 ^ 32)
targets_from_below ports port (x ∷ xs) h =
    All-append
    (λ t. t < 2 ^ 32)
    (named ports port x)
    (targets_from ports (port + 1) xs)
    (named_below ports port x (All-head (λ targets. All (λ t. t < 2 ^ 32) targets) x xs h))
    (targets_from_below ports (port + 1) xs (All-tail (λ targets. All (λ t. t < 2 ^ 32) targets) x xs h))

-- one more target at the end
pub children_for_more : (targets : List ℕ) (target first : ℕ) (parcel : Parcel) →
    children_for (targets ++ target ∷ []) first parcel
    ≡ children_for targets first parcel ++ child_of target (first + length targets * length parcel.finalizers) parcel ∷ []
children_for_more [] target first parcel = grind arith
children_for_more (t ∷ ts) target first parcel =
    grind (arith, children_for_more ts target (first + length parcel.finalizers) parcel)

-- a batch has a child for each target and copy
pub copies_of-copies_in : (batch place : ℕ) (targets : List ℕ) (first : ℕ) (parcel : Parcel) →
    copies_of batch place (copies_in (children_for targets first parcel))
    ≡ length targets * copies_of batch place parcel.finalizers
copies_of-copies_in batch place [] first parcel = grind arith
copies_of-copies_in batch place (t ∷ ts) first parcel =
    let rest = children_for ts (first + length parcel.finalizers) parcel in
    grind (
      arith,
      copies_of-copies_in batch place ts (first + length parcel.finalizers) parcel,
      copies_of-append batch place (renumbered first parcel.finalizers) (copies_in rest),
      copies_of-renumbered batch place first parcel.finalizers,
    )

-- a batch has a live copy for each target in the place of each that was routed
pub exchange_route : (targets : List ℕ) (first batch place : ℕ) (parcel : Parcel) (rs : List OpenBatch) →
    0 < length targets → AreLiveIn rs parcel.finalizers →
    live_count batch place (grown_rows (length targets - 1) parcel.finalizers rs) + copies_of batch place parcel.finalizers
    ≡ live_count batch place rs + copies_of batch place (copies_in (children_for targets first parcel))
exchange_route targets first batch place parcel rs h live =
    let grown = live_count-grown_rows batch place (length targets - 1) parcel.finalizers rs (live batch place) in
    let children = copies_of-copies_in batch place targets first parcel in
    let all = last_target (length targets) (copies_of batch place parcel.finalizers) h in
    omega (arith, grown, children, all)

-- the children for the targets of which the last was taken off
pub children_for_last : (targets others : List ℕ) (last first : ℕ) (parcel : Parcel) → targets ≡ others ++ last ∷ [] →
    children_for targets first parcel
    ≡ children_for others first parcel ++ child_of last (first + (length targets - 1) * length parcel.finalizers) parcel ∷ []
children_for_last targets others last first parcel e =
    let count : length targets - 1 ≡ length others = rw (e, length-append others (last ∷ [])) (omega arith) in
    rw (count, e) (children_for_more others last first parcel)

-- the last target of a list, behind the others
pub last_behind : (targets : List ℕ) (last : ℕ) → last + 1 ≡ length targets → targets ≡ take last targets ++ get_or targets last 0 ∷ []
last_behind targets last e =
    sym (take_all (last + 1) targets (omega arith)) ∙ take_more targets last 0 (omega arith)

-- one more target of a list
pub children_for_step : (targets : List ℕ) (i first : ℕ) (parcel : Parcel) → i < length targets →
    children_for (take (i + 1) targets) first parcel
    ≡ children_for (take i targets) first parcel ++ child_of (get_or targets i 0) (first + i * length parcel.finalizers) parcel ∷ []
children_for_step targets i first parcel l =
    let count : length (take i targets) ≡ i = grind (arith, common_steps) in
    let more = children_for_more (take i targets) (get_or targets i 0) first parcel in
    rw (take_more targets i 0 l) (rw count at more)

-- the copies of several children, one more at the end
pub copies_of-copies_in_push : (batch place : ℕ) (xs : List Child) (y : Child) →
    copies_of batch place (copies_in (xs ++ y ∷ []))
    ≡ copies_of batch place (copies_in xs) + copies_of batch place y.parcel.finalizers
copies_of-copies_in_push batch place [] y = grind (arith, copies_of-append batch place y.parcel.finalizers [])
copies_of-copies_in_push batch place (x ∷ xs) y =
    let one = copies_of-append batch place x.parcel.finalizers (copies_in xs) in
    let two = copies_of-append batch place x.parcel.finalizers (copies_in (xs ++ y ∷ [])) in
    omega (arith, copies_of-copies_in_push batch place xs y, one, two)
