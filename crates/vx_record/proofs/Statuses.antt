-- One running status of a batch is what the two tables fold, in whatever order its copies are spent.
use Rattle.std.proofs.Common.{◌≡◌, ℕ, Bool, ◌+◌, ◌<◌, ◌≤◌, max, List, [], ◌∷◌, ◌++◌, sym, refl, ap, ◌∙◌, arith, length, inl, inr, ◌⊎◌}
use Rattle.std.specs.Prelude.{if◌then◌else◌, ◌==◌, ◌↔◌}
use Rattle.std.proofs.lemmas.Bool.Decides.{nat_tests}
use Rattle.std.proofs.lemmas.Bool.{cases_lt, cases_eq}
use Rattle.vx_value.specs.declared.event.Event.{Event}
use Rattle.vx_record.specs.Records.{Record}
use Rattle.vx_status.specs.declared.outcome.Outcome.{Outcome}
use Rattle.vx_status.specs.declared.event_status.EventStatus.{EventStatus}
use Rattle.vx_status.specs.declared.batch_status.BatchStatus.{BatchStatus}
use Rattle.vx_record.specs.declared.entry.Entry.TheVariants.{Born, Split, Spent}
use Rattle.vx_status.specs.declared.event_status.EventStatus.TheVariants as event
use Rattle.vx_status.specs.declared.batch_status.BatchStatus.TheVariants as batch
use Rattle.vx_status.specs.Tables.{status_of, event_update, batch_update, event_rank, batch_rank, IsGood}
use Rattle.vx_record.specs.Copies.{count, next_copy}
use Rattle.vx_record.specs.Batches.{parent, batch_of, root_of, roots}
use Rattle.vx_record.specs.Statuses.{outcomes, event_fold, event_status, batch_fold, batch_status, running, AllGood}
use Rattle.vx_record.specs.Accounting.{IsAccounted}
use Rattle.vx_status.specs.declared.outcome.Outcome.TheVariants.{Delivered, Filtered, NewestDropped, NoConsumer}
use Rattle.vx_record.proofs.Counts.{counting_before, counting_within, counting_after}
use Rattle.vx_record.proofs.Live.{if_lt, if_ge, parent_live}
use Rattle.vx_record.proofs.Notices.{kept, batch_made}

-- both tables give the greater of two ranks
rank-event_update : (s t : EventStatus) → event_rank (event_update s t) ≡ max (event_rank s) (event_rank t)
rank-event_update event.Dropped event.Dropped = refl
rank-event_update event.Delivered event.Delivered = refl
rank-event_update event.Errored event.Errored = refl
rank-event_update event.Rejected event.Rejected = refl
rank-event_update s t = refl

rank-batch_update : (s : BatchStatus) (t : EventStatus) → batch_rank (batch_update s t) ≡ max (batch_rank s) (event_rank t)
rank-batch_update batch.Delivered event.Dropped = refl
rank-batch_update batch.Errored event.Errored = refl
rank-batch_update batch.Rejected event.Rejected = refl
rank-batch_update s t = refl

same_rank : (s t : BatchStatus) → batch_rank s ≡ batch_rank t → s ≡ t
same_rank batch.Delivered batch.Delivered e = refl
same_rank batch.Errored batch.Errored e = refl
same_rank batch.Rejected batch.Rejected e = refl
same_rank s t e = absurd (omega arith)

abbrev pub worst : List Outcome → ℕ
worst [] = 0
worst (o ∷ os) = max (event_rank (status_of o)) (worst os)

worst_push : (os : List Outcome) (o : Outcome) → worst (os ++ o ∷ []) ≡ max (worst os) (event_rank (status_of o))
worst_push [] o = omega arith
worst_push (p ∷ os) o = let e = worst_push os o in omega arith

rank-event_fold : (s : EventStatus) (os : List Outcome) → event_rank (event_fold s os) ≡ max (event_rank s) (worst os)
rank-event_fold s [] = omega arith
rank-event_fold s (o ∷ os) =
    let e = rank-event_fold (event_update s (status_of o)) os in
    let f = rank-event_update s (status_of o) in
    omega arith

-- the worst of the events below some roots
abbrev pub peak : (ℕ → EventStatus) → List ℕ → ℕ
peak f [] = 0
peak f (r ∷ rs) = max (event_rank (f r)) (peak f rs)

rank-batch_fold : (f : ℕ → EventStatus) (s : BatchStatus) (rs : List ℕ) → batch_rank (batch_fold f s rs) ≡ max (batch_rank s) (peak f rs)
rank-batch_fold f s [] = omega arith
rank-batch_fold f s (r ∷ rs) =
    let e = rank-batch_fold f (batch_update s (f r)) rs in
    let g = rank-batch_update s (f r) in
    omega arith

peak_none : (f : ℕ → EventStatus) (rs : List ℕ) → ((r : ℕ) → 0 < count r rs → event_rank (f r) ≡ 0) → peak f rs ≡ 0
peak_none f [] h = refl
peak_none f (r ∷ rs) h =
    let here : 0 < count r (r ∷ rs) = grind (arith, nat_tests) in
    let e = h r here in
    let f' = peak_none f rs (λ q l. h q (omega arith)) in
    omega arith

-- one event of the batch gets worse
peak_raised : (f g : ℕ → EventStatus) (root x : ℕ) (rs : List ℕ) → event_rank (g root) ≡ max (event_rank (f root)) x →
    ((r : ℕ) → (root ≡ r → ⊥) → g r ≡ f r) →
    ((count root rs ≡ 0) × (peak g rs ≡ peak f rs)) ⊎ ((0 < count root rs) × (peak g rs ≡ max (peak f rs) x))
peak_raised f g root x [] at others = inl (refl, refl)
peak_raised f g root x (r ∷ rs) at others =
    let rest = peak_raised f g root x rs at others in
    elim (cases_eq r root) [
      | inl same ↦
          let here : 0 < count root (r ∷ rs) = grind (arith, nat_tests) in
          let e : event_rank (g r) ≡ max (event_rank (f r)) x =
          ap (λ q. event_rank (g q)) same ∙ at ∙ ap (λ q. max (event_rank (f q)) x) (sym same) in
          inr (here, elim rest [ inl a ↦ omega arith | inr a ↦ omega arith ])
      | inr other ↦
          let e = ap event_rank (others r (λ w. other (sym w))) in
          let skip : count root (r ∷ rs) ≡ count root rs = grind (arith, nat_tests) in
          elim rest [ inl a ↦ inl (omega arith, omega arith) | inr a ↦ inr (omega arith, omega arith) ]
    ]

if_same : {A : Type 0} (m n : ℕ) (x y : A) → m ≡ n → (if m == n then x else y) ≡ x
if_same m n x y e = grind (arith, nat_tests)

if_other : {A : Type 0} (m n : ℕ) (x y : A) → (m ≡ n → ⊥) → (if m == n then x else y) ≡ y
if_other m n x y e = grind (arith, nat_tests)

-- nothing is known yet of a root or a batch to come
outcomes_future : (h : Record) (r : ℕ) → IsAccounted h → next_copy h ≤ r → outcomes h r ≡ []
outcomes_future [] r sound l = refl
outcomes_future (Spent i c o ∷ h) r sound l =
    let m = batch_made h c sound.1 sound.0.conserves.0 in
    if_other (root_of h c) r (outcomes h r ++ o ∷ []) (outcomes h r) (λ e. absurd (omega arith)) ∙ outcomes_future h r sound.1 (omega arith)
outcomes_future (e ∷ h) r sound l = outcomes_future h r sound.1 (omega arith)

pub running_future : (h : Record) (b : ℕ) → IsAccounted h → next_copy h ≤ b → running h b ≡ batch.Delivered
running_future [] b sound l = refl
running_future (Spent i c o ∷ h) b sound l =
    let m = batch_made h c sound.1 sound.0.conserves.0 in
    if_other (batch_of h c) b (batch_update (running h b) (status_of o)) (running h b) (λ e. absurd (omega arith)) ∙ running_future h b sound.1 (omega arith)
running_future (e ∷ h) b sound l = running_future h b sound.1 (omega arith)

roots_future : (h : Record) (b r : ℕ) → IsAccounted h → 0 < count r (roots h b) → r < next_copy h
roots_future [] b r sound l = absurd (omega arith)
roots_future (Born i b' place copies events waits stream end ∷ h) b r sound l =
    elim (cases_eq b' b) [
      | inl same ↦
          let x = ap (count r) (if_same b' b copies (roots h b) same) in
          let y = ap (count r) sound.0.conserves in
          elim (cases_lt r (next_copy h + length copies)) [
            | inl below ↦ below
            | inr above ↦ let z = counting_after r (next_copy h) (length copies) above in absurd (omega arith)
          ]
      | inr other ↦
          let x = ap (count r) (if_other b' b copies (roots h b) other) in
          let y = roots_future h b r sound.1 (omega arith) in
          omega arith
    ]
roots_future (e ∷ h) b r sound l = let x = roots_future h b r sound.1 l in omega arith

-- the root of a copy is among the roots of its batch, and of no other
root_in : (h : Record) (c : ℕ) → IsAccounted h → c < next_copy h → 0 < count (root_of h c) (roots h (batch_of h c))
root_in [] c sound l = absurd (omega arith)
root_in (Born i b place copies events waits stream end ∷ h) c sound l =
    elim (cases_lt c (next_copy h)) [
      | inl below ↦
          let m = batch_made h c sound.1 below in
          let born = sound.0.accounts.number in
          rw (
            if_lt c (next_copy h) (root_of h c) c below,
            if_lt c (next_copy h) (batch_of h c) b below,
            if_other b (batch_of h c) copies (roots h (batch_of h c)) (λ e. absurd (omega arith)),
          )
          (root_in h c sound.1 below)
      | inr above ↦
          let x = ap (count c) sound.0.conserves in
          let y = counting_within c (next_copy h) (length copies) above l in
          rw (if_ge c (next_copy h) (root_of h c) c above, if_ge c (next_copy h) (batch_of h c) b above, if_same b b copies (roots h b) refl)
          (omega arith)
    ]
root_in (Split i ports copies event children ∷ h) c sound l =
    let p = parent (next_copy h) copies c in
    elim (cases_lt c (next_copy h)) [
      | inl below ↦
          rw (if_lt c (next_copy h) (root_of h c) (root_of h p) below, if_lt c (next_copy h) (batch_of h c) (batch_of h p) below)
          (root_in h c sound.1 below)
      | inr above ↦
          rw (if_ge c (next_copy h) (root_of h c) (root_of h p) above, if_ge c (next_copy h) (batch_of h c) (batch_of h p) above)
          (root_in h p sound.1 (parent_live h c i ports copies event children (kept (Split i ports copies event children ∷ h) sound) above l).0)
    ]
root_in (e ∷ h) c sound l = root_in h c sound.1 (omega arith)

root_out : (h : Record) (c b : ℕ) → IsAccounted h → c < next_copy h → 0 < count (root_of h c) (roots h b) → b ≡ batch_of h c
root_out [] c b sound l r = absurd (omega arith)
root_out (Born i b' place copies events waits stream end ∷ h) c b sound l r =
    elim (cases_lt c (next_copy h)) [
      | inl below ↦
          let r₁ = rw (if_lt c (next_copy h) (root_of h c) c below) at r in
          elim (cases_eq b' b) [
            | inl same ↦
                let m = batch_made h c sound.1 below in
                let x = ap (count (root_of h c)) (if_same b' b copies (roots h b) same) in
                let y = ap (count (root_of h c)) sound.0.conserves in
                let z = counting_before (root_of h c) (next_copy h) (length copies) m.1 in
                absurd (omega arith)
            | inr other ↦
                let r₂ = rw (if_other b' b copies (roots h b) other) at r₁ in
                root_out h c b sound.1 below r₂ ∙ sym (if_lt c (next_copy h) (batch_of h c) b' below)
          ]
      | inr above ↦
          let r₁ = rw (if_ge c (next_copy h) (root_of h c) c above) at r in
          elim (cases_eq b' b) [
            | inl same ↦ sym same ∙ sym (if_ge c (next_copy h) (batch_of h c) b' above)
            | inr other ↦
                let r₂ = rw (if_other b' b copies (roots h b) other) at r₁ in
                let x = roots_future h b c sound.1 r₂ in
                absurd (omega arith)
          ]
    ]
root_out (Split i ports copies event children ∷ h) c b sound l r =
    let p = parent (next_copy h) copies c in
    elim (cases_lt c (next_copy h)) [
      | inl below ↦
          let r₁ = rw (if_lt c (next_copy h) (root_of h c) (root_of h p) below) at r in
          root_out h c b sound.1 below r₁ ∙ sym (if_lt c (next_copy h) (batch_of h c) (batch_of h p) below)
      | inr above ↦
          let r₁ = rw (if_ge c (next_copy h) (root_of h c) (root_of h p) above) at r in
          root_out h p b sound.1 (parent_live h c i ports copies event children (kept (Split i ports copies event children ∷ h) sound) above l).0 r₁
          ∙ sym (if_ge c (next_copy h) (batch_of h c) (batch_of h p) above)
    ]
root_out (e ∷ h) c b sound l r = root_out h c b sound.1 (omega arith) r

new_root : (h : Record) (r i b place : ℕ) (copies : List ℕ) (events : List Event) (waits : Bool) (stream end : ℕ) → IsAccounted (Born i b place copies events waits stream end ∷ h) → 0 < count r copies → next_copy h ≤ r
new_root h r i b place copies events waits stream end sound l =
    let x = ap (count r) sound.0.conserves in
    elim (cases_lt r (next_copy h)) [
      | inl below ↦ let y = counting_before r (next_copy h) (length copies) below in absurd (omega arith)
      | inr above ↦ above
    ]

status_rank : (h : Record) (b : ℕ) → IsAccounted h → batch_rank (running h b) ≡ max 1 (peak (event_status h) (roots h b))
status_rank [] b sound = refl
status_rank (Born i b' place copies events waits stream end ∷ h) b sound =
    elim (cases_eq b' b) [
      | inl same ↦
          let born = sound.0.accounts.number in
          let x = ap batch_rank (running_future h b sound.1 (omega arith)) in
          let y = peak_none (event_status h) copies (λ r l. ap (λ os. event_rank (event_fold event.Dropped os))
          (outcomes_future h r sound.1 (new_root h r i b' place copies events waits stream end sound l))) in
          rw (if_same b' b copies (roots h b) same) (omega arith)
      | inr other ↦ rw (if_other b' b copies (roots h b) other) (status_rank h b sound.1)
    ]
status_rank (Spent i c o ∷ h) b sound =
    let old = status_rank h b sound.1 in
    let made = sound.0.conserves.0 in
    let root = root_of h c in
    let before = outcomes h root in
    let e₁ = ap (λ os. event_rank (event_fold event.Dropped os)) (if_same root root (before ++ o ∷ []) before refl) in
    let e₂ = rank-event_fold event.Dropped (before ++ o ∷ []) in
    let e₃ = rank-event_fold event.Dropped before in
    let e₄ = worst_push before o in
    let raised = peak_raised (event_status h) (event_status (Spent i c o ∷ h)) root (event_rank (status_of o)) (roots h b) (omega arith)
    (λ r other. ap (event_fold event.Dropped) (if_other root r (outcomes h r ++ o ∷ []) (outcomes h r) other)) in
    let u = rank-batch_update (running h b) (status_of o) in
    elim (cases_eq (batch_of h c) b) [
      | inl same ↦
          let x = root_in h c sound.1 made in
          let y = ap (λ q. count root (roots h q)) same in
          let z = ap batch_rank (if_same (batch_of h c) b (batch_update (running h b) (status_of o)) (running h b) same) in
          elim raised [ inl a ↦ absurd (omega arith) | inr a ↦ omega arith ]
      | inr other ↦
          let z = ap batch_rank (if_other (batch_of h c) b (batch_update (running h b) (status_of o)) (running h b) other) in
          elim raised [ inl a ↦ omega arith | inr a ↦ absurd (other (sym (root_out h c b sound.1 made a.0))) ]
    ]
status_rank (e ∷ h) b sound = status_rank h b sound.1

pub running_so : (h : Record) (b : ℕ) → IsAccounted h → running h b ≡ batch_status h b
running_so h b sound = same_rank (running h b) (batch_status h b) (status_rank h b sound ∙ sym (rank-batch_fold (event_status h) batch.Delivered (roots h b)))

good_rank : (o : Outcome) → IsGood o → event_rank (status_of o) ≤ 1
good_rank Delivered g = omega arith
good_rank Filtered g = omega arith
good_rank NewestDropped g = omega arith
good_rank NoConsumer g = omega arith
good_rank o g = absurd g

rank_good : (o : Outcome) → event_rank (status_of o) ≤ 1 → IsGood o
rank_good Delivered l = tt
rank_good Filtered l = tt
rank_good NewestDropped l = tt
rank_good NoConsumer l = tt
rank_good o l = absurd (omega arith)

all_good : (h : Record) (b : ℕ) → batch_rank (running h b) ≤ 1 → AllGood h b
all_good [] b l = tt
all_good (Spent i c o ∷ h) b l =
    let u = rank-batch_update (running h b) (status_of o) in
    elim (cases_eq (batch_of h c) b) [
      | inl same ↦
          let z = ap batch_rank (if_same (batch_of h c) b (batch_update (running h b) (status_of o)) (running h b) same) in
          ((λ e. rank_good o (omega arith)), all_good h b (omega arith))
      | inr other ↦
          let z = ap batch_rank (if_other (batch_of h c) b (batch_update (running h b) (status_of o)) (running h b) other) in
          ((λ e. absurd (other e)), all_good h b (omega arith))
    ]
all_good (e ∷ h) b l = all_good h b l

good_all : (h : Record) (b : ℕ) → AllGood h b → batch_rank (running h b) ≡ 1
good_all [] b g = refl
good_all (Spent i c o ∷ h) b g =
    let u = rank-batch_update (running h b) (status_of o) in
    let old = good_all h b g.1 in
    elim (cases_eq (batch_of h c) b) [
      | inl same ↦
          let z = ap batch_rank (if_same (batch_of h c) b (batch_update (running h b) (status_of o)) (running h b) same) in
          let r = good_rank o (g.0 same) in
          omega arith
      | inr other ↦
          let z = ap batch_rank (if_other (batch_of h c) b (batch_update (running h b) (status_of o)) (running h b) other) in
          omega arith
    ]
good_all (e ∷ h) b g = good_all h b g

pub delivered_so : (h : Record) (b : ℕ) → IsAccounted h → (batch_status h b ≡ batch.Delivered) ↔ AllGood h b
delivered_so h b sound =
    let same = running_so h b sound in (
      (λ e. let r = ap batch_rank (same ∙ e) in all_good h b (omega arith)),
      (λ g. sym same ∙ same_rank (running h b) batch.Delivered (good_all h b g)),
    )
