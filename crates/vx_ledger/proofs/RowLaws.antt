-- Laws on the rows of the open batches.
use Rattle.std.proofs.Common.{◌≡◌, ℕ, zero, suc, ◌+◌, ◌*◌, ◌<◌, ◌≤◌, List, [], ◌∷◌, ◌++◌, length, take, get_or, set, Some, None, IsSome, ◌↔◌, true, false, refl, arith, ◌==◌, ◌&&◌, if◌then◌else◌}
use Rattle.std.specs.List.{remove}
use Rattle.std.proofs.Math.Nat.{mul-le-mul_left}
use Rattle.std.proofs.lemmas.Grind.{common_steps}
use Rattle.vx_status.specs.declared.outcome.Outcome.{Outcome}
use Rattle.vx_status.specs.Tables.{status_of, batch_update}
use Rattle.vx_ledger.specs.declared.open_batch.OpenBatch.{OpenBatch}
use Rattle.vx_ledger.specs.Copies.{Copy, copies_of}
use Rattle.vx_ledger.specs.Ledger.{live_count, rows_of, index_of, added_to, grown_rows, spent_rows, spent_row, notice_of, AreKept, AreLiveIn}
use Rattle.vx_ledger.proofs.CopyLaws.{copies_of-append, copies_of-bound}

-- a batch without a row has no live copy
pub live_count_none : (batch place : ℕ) (rs : List OpenBatch) → rows_of batch rs ≡ 0 → live_count batch place rs ≡ 0
live_count_none batch place [] h = refl
live_count_none batch place (r ∷ rs) h = grind (arith, live_count_none batch place rs)

-- a batch that isn't born has no live copy
pub live_count_below : (next batch place : ℕ) (rs : List OpenBatch) → AreKept next rs → next ≤ batch → live_count batch place rs ≡ 0
live_count_below next batch place [] k l = refl
live_count_below next batch place (r ∷ rs) k l = grind (arith, live_count_below next batch place rs k.5)

-- a batch has no more live copies than there are numbers
pub live_count_bound : (next batch place : ℕ) (rs : List OpenBatch) → AreKept next rs → live_count batch place rs ≤ next
live_count_bound next batch place [] k = grind arith
live_count_bound next batch place (r ∷ rs) k = grind (arith, live_count_bound next batch place rs k.5)

-- the row at the batch's place
pub live_count_at : (batch place : ℕ) (rs : List OpenBatch) (d : OpenBatch) → 0 < live_count batch place rs →
    (get_or rs (index_of batch place rs) d).count ≡ live_count batch place rs
live_count_at batch place [] d h = grind arith
live_count_at batch place (r ∷ rs) d h = grind (arith, live_count_at batch place rs d)

-- the row at the batch's place, counted up
pub added_to_set : (batch place more : ℕ) (rs : List OpenBatch) (d : OpenBatch) → 0 < live_count batch place rs →
    added_to batch place more rs
    ≡ set rs (index_of batch place rs) (record (get_or rs (index_of batch place rs) d) { count = (get_or rs (index_of batch place rs) d).count + more })
added_to_set batch place more [] d h = grind arith
added_to_set batch place more (r ∷ rs) d h = grind (arith, common_steps, added_to_set batch place more rs d)

-- with no copy the rows stay
pub grown_rows_none : (more : ℕ) (rs : List OpenBatch) → grown_rows more [] rs ≡ rs
grown_rows_none more [] = refl
grown_rows_none more (r ∷ rs) = grind (arith, grown_rows_none more rs)

-- a copy of a batch without a row changes nothing
pub grown_rows_other : (more : ℕ) (cs : List Copy) (c : Copy) (rs : List OpenBatch) → rows_of c.batch rs ≡ 0 →
    grown_rows more (cs ++ c ∷ []) rs ≡ grown_rows more cs rs
grown_rows_other more cs c [] h = refl
grown_rows_other more cs c (r ∷ rs) h =
    grind (arith, grown_rows_other more cs c rs, copies_of-append r.number r.place cs (c ∷ []))

-- what one more copy adds to a row's count
grown_count : (more : ℕ) (cs : List Copy) (c : Copy) (r : OpenBatch) →
    more * copies_of r.number r.place (cs ++ c ∷ [])
    ≡ more * copies_of r.number r.place cs + (if (c.batch == r.number) && (c.place == r.place) then more else 0)
grown_count more cs c r =
    rw (copies_of-append r.number r.place cs (c ∷ []))
    (elim ((c.batch == r.number) && (c.place == r.place)) as (λ b. more * (copies_of r.number r.place cs + ((if b then 1 else 0) + 0)) ≡ more * copies_of r.number r.place cs + (if b then more else 0)) [ true ↦ omega arith | false ↦ omega arith ])

-- one more copy counts its batch up
pub grown_rows_more : (next more : ℕ) (cs : List Copy) (c : Copy) (rs : List OpenBatch) → AreKept next rs →
    grown_rows more (cs ++ c ∷ []) rs ≡ added_to c.batch c.place more (grown_rows more cs rs)
grown_rows_more next more cs c [] k = refl
grown_rows_more next more cs c (r ∷ rs) k =
    grind (arith, grown_rows_more next more cs c rs k.5, grown_rows_other more cs c rs, grown_count more cs c r)

-- the live copies of a batch after its rows grew
pub live_count-grown_rows : (batch place more : ℕ) (cs : List Copy) (rs : List OpenBatch) →
    copies_of batch place cs ≤ live_count batch place rs →
    live_count batch place (grown_rows more cs rs) ≡ live_count batch place rs + more * copies_of batch place cs
live_count-grown_rows batch place more cs [] h = grind arith
live_count-grown_rows batch place more cs (r ∷ rs) h = grind (arith, live_count-grown_rows batch place more cs rs)

-- the rows stay kept as they grow
pub rows_of-grown_rows : (n more : ℕ) (cs : List Copy) (rs : List OpenBatch) → rows_of n (grown_rows more cs rs) ≡ rows_of n rs
rows_of-grown_rows n more cs [] = refl
rows_of-grown_rows n more cs (r ∷ rs) = grind (arith, rows_of-grown_rows n more cs rs)

-- the rows stay kept as they grow by copies for which there are numbers
pub AreKept-grown_rows : (next more after : ℕ) (cs : List Copy) (rs : List OpenBatch) → AreKept next rs →
    next + more * length cs ≤ after → AreKept after (grown_rows more cs rs)
AreKept-grown_rows next more after cs [] k l = tt
AreKept-grown_rows next more after cs (r ∷ rs) k l =
    let bound = mul-le-mul_left more (copies_of-bound r.number r.place cs) in
    let rest = AreKept-grown_rows next more after cs rs k.5 l in
    (omega arith, omega (arith, bound), k.2, omega arith, rw (rows_of-grown_rows r.number more cs rs) k.4, rest)

-- the front of a list has fewer copies of a batch where one more follows
pub copies_of_take : (batch place i : ℕ) (cs : List Copy) (c : Copy) → i < length cs → c ≡ get_or cs i c →
    c.batch ≡ batch → c.place ≡ place → copies_of batch place (take i cs) + 1 ≤ copies_of batch place cs
copies_of_take batch place i [] c l e b p = grind arith
copies_of_take batch place zero (x ∷ cs) c l e b p = grind (arith, common_steps)
copies_of_take batch place (suc i) (x ∷ cs) c l e b p = grind (arith, common_steps, copies_of_take batch place i cs c)

-- what the row of the copy at i says, once the rows grew by the copies before it
pub record GrowsAt (next more : ℕ) (cs : List Copy) (c : Copy) (rows : List OpenBatch) : Type 0 where
  pub live : 0 < live_count c.batch c.place rows
  pub fits : live_count c.batch c.place rows + more ≤ next + more * length cs

pub grows_at : (next more i : ℕ) (cs : List Copy) (c : Copy) (rs : List OpenBatch) → AreKept next rs → AreLiveIn rs cs →
    i < length cs → c ≡ get_or cs i c → GrowsAt next more cs c (grown_rows more (take i cs) rs)
grows_at next more i cs c rs k live l e =
    let here : copies_of c.batch c.place (take i cs) + 1 ≤ copies_of c.batch c.place cs = copies_of_take c.batch c.place i cs c l e refl refl in
    let all : copies_of c.batch c.place cs ≤ live_count c.batch c.place rs = live c.batch c.place in
    let count : live_count c.batch c.place (grown_rows more (take i cs) rs) ≡ live_count c.batch c.place rs + more * copies_of c.batch c.place (take i cs)
    = live_count-grown_rows c.batch c.place more (take i cs) rs (omega arith) in
    let enough : copies_of c.batch c.place (take i cs) + 1 ≤ length cs = omega (arith, copies_of-bound c.batch c.place cs) in
    let most = mul-le-mul_left more enough in
    let few = live_count_bound next c.batch c.place rs k in
    record { live = omega arith; fits = omega (arith, most, few) }

-- one more copy of a batch spent
pub exchange_spent : (next batch place : ℕ) (outcome : Outcome) (other other_place : ℕ) (rs : List OpenBatch) →
    AreKept next rs → 0 < live_count batch place rs →
    live_count other other_place (spent_rows batch place outcome rs)
    + (if (batch == other) && (place == other_place) then 1 else 0)
    ≡ live_count other other_place rs
exchange_spent next batch place outcome other other_place [] k h = grind arith
exchange_spent next batch place outcome other other_place (r ∷ rs) k h =
    grind (arith, exchange_spent next batch place outcome other other_place rs k.5, live_count_none r.number place rs k.4)

-- a batch's last copy takes its row with it
pub spent_rows_last : (batch place : ℕ) (outcome : Outcome) (rs : List OpenBatch) →
    live_count batch place rs ≡ 1 →
    spent_rows batch place outcome rs ≡ remove rs (index_of batch place rs)
spent_rows_last batch place outcome [] h = grind arith
spent_rows_last batch place outcome (r ∷ rs) h = grind (arith, common_steps, spent_rows_last batch place outcome rs, remove)

-- any other copy leaves the row with one less
pub spent_rows_more : (batch place : ℕ) (outcome : Outcome) (rs : List OpenBatch) (d : OpenBatch) →
    1 < live_count batch place rs →
    spent_rows batch place outcome rs ≡ set rs (index_of batch place rs) (spent_row outcome (get_or rs (index_of batch place rs) d))
spent_rows_more batch place outcome [] d h = grind arith
spent_rows_more batch place outcome (r ∷ rs) d h = grind (arith, common_steps, spent_rows_more batch place outcome rs d)

-- a batch's last copy gives its notice
pub notice_of_last : (batch place : ℕ) (outcome : Outcome) (rs : List OpenBatch) (d : OpenBatch) →
    live_count batch place rs ≡ 1 →
    notice_of batch place outcome rs
    ≡ Some (record { batch = batch; instance = (get_or rs (index_of batch place rs) d).instance; status = batch_update (get_or rs (index_of batch place rs) d).status (status_of outcome) })
notice_of_last batch place outcome [] d h = grind arith
notice_of_last batch place outcome (r ∷ rs) d h = grind (arith, common_steps, notice_of_last batch place outcome rs d)

-- any other copy gives no notice
pub notice_of_more : (batch place : ℕ) (outcome : Outcome) (rs : List OpenBatch) →
    1 < live_count batch place rs → notice_of batch place outcome rs ≡ None
notice_of_more batch place outcome [] h = grind arith
notice_of_more batch place outcome (r ∷ rs) h = grind (arith, notice_of_more batch place outcome rs)

-- what a row that was read at the batch's place says
pub record ReadAt (batch place : ℕ) (outcome : Outcome) (rs : List OpenBatch) (r : OpenBatch) : Type 0 where
  pub count : r.count ≡ live_count batch place rs
  pub last : r.count ≡ 1 → spent_rows batch place outcome rs ≡ remove rs (index_of batch place rs)
  pub more : 1 < r.count → spent_rows batch place outcome rs ≡ set rs (index_of batch place rs) (spent_row outcome r)
  pub notice_last : r.count ≡ 1 → notice_of batch place outcome rs ≡ Some (record { batch = batch; instance = r.instance; status = batch_update r.status (status_of outcome) })
  pub notice_more : 1 < r.count → notice_of batch place outcome rs ≡ None

pub read_at : (batch place : ℕ) (outcome : Outcome) (rs : List OpenBatch) (i : ℕ) (r : OpenBatch) → 0 < live_count batch place rs →
    i ≡ index_of batch place rs → r ≡ get_or rs i r → ReadAt batch place outcome rs r
read_at batch place outcome rs i r h ie e =
    let at : get_or rs (index_of batch place rs) r ≡ r = grind arith in
    let count : r.count ≡ live_count batch place rs = grind (arith, live_count_at batch place rs r h) in
    record {
      count = count;
      last = λ l. spent_rows_last batch place outcome rs (grind arith);
      more = λ l. rw at at (spent_rows_more batch place outcome rs r (grind arith));
      notice_last = λ l. rw at at (notice_of_last batch place outcome rs r (grind arith));
      notice_more = λ l. notice_of_more batch place outcome rs (grind arith);
    }

-- no row comes by a spend
pub rows_of-spent : (n batch place : ℕ) (outcome : Outcome) (rs : List OpenBatch) →
    rows_of n rs ≡ 0 → rows_of n (spent_rows batch place outcome rs) ≡ 0
rows_of-spent n batch place outcome [] h = h
rows_of-spent n batch place outcome (r ∷ rs) h = grind (arith, rows_of-spent n batch place outcome rs)

-- the rows that are left after a spend are kept
pub AreKept-spent : (next batch place : ℕ) (outcome : Outcome) (rs : List OpenBatch) →
    AreKept next rs → AreKept next (spent_rows batch place outcome rs)
AreKept-spent next batch place outcome [] k = tt
AreKept-spent next batch place outcome (r ∷ rs) k =
    grind (arith, AreKept-spent next batch place outcome rs k.5, rows_of-spent r.number batch place outcome rs k.4)

-- a notice comes exactly with the last live copy
pub notice_iff : (next batch place : ℕ) (outcome : Outcome) (rs : List OpenBatch) → AreKept next rs → 0 < live_count batch place rs →
    IsSome (notice_of batch place outcome rs) ↔ (live_count batch place (spent_rows batch place outcome rs) ≡ 0)
notice_iff next batch place outcome [] k h = grind arith
notice_iff next batch place outcome (r ∷ rs) k h = grind (arith, notice_iff next batch place outcome rs k.5, live_count_none r.number place rs k.4)

-- a new row at the end
pub live_count-push : (next batch place : ℕ) (rs : List OpenBatch) (row : OpenBatch) →
    AreKept next rs → row.number ≡ next → row.place ≡ next →
    live_count batch place (rs ++ row ∷ [])
    ≡ live_count batch place rs + (if (next == batch) && (next == place) then row.count else 0)
live_count-push next batch place [] row k n p = grind arith
live_count-push next batch place (r ∷ rs) row k n p = grind (arith, live_count-push next batch place rs row k.5, live_count_below next batch place rs k.5)

-- a new row has no other's number
pub rows_of-push : (n next : ℕ) (rs : List OpenBatch) (row : OpenBatch) →
    rows_of n rs ≡ 0 → n < next → row.number ≡ next → rows_of n (rs ++ row ∷ []) ≡ 0
rows_of-push n next [] row e l r = grind arith
rows_of-push n next (x ∷ rs) row e l r = grind (arith, rows_of-push n next rs row)

-- rows are kept with a new one
pub AreKept-push : (next after : ℕ) (rs : List OpenBatch) (row : OpenBatch) →
    AreKept next rs → row.number ≡ next → row.place ≡ next → 0 < row.count → next < after → row.count ≤ after →
    AreKept after (rs ++ row ∷ [])
AreKept-push next after [] row k n p c l b = grind arith
AreKept-push next after (r ∷ rs) row k n p c l b =
    grind (arith, AreKept-push next after rs row k.5, rows_of-push r.number next rs row k.4)

-- a copy that is live here has a row
pub live_one : (copy : Copy) (rs : List OpenBatch) → AreLiveIn rs (copy ∷ []) → 0 < live_count copy.batch copy.place rs
live_one copy rs h = grind (arith, h copy.batch copy.place)
