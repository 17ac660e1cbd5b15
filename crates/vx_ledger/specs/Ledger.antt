-- The open batches, as contracts see `Batches`.
use Rattle.std.specs.Prelude.{ℕ, ◌+◌, ◌-◌, ◌*◌, ◌^◌, ◌<◌, ◌≤◌, ◌≡◌, min, List, [], ◌∷◌, ◌==◌, ◌&&◌, if◌then◌else◌, Option, Some, None}
use Rattle.vx_status.specs.declared.outcome.Outcome.{Outcome}
use Rattle.vx_status.specs.Tables.{status_of, batch_update}
use Rattle.vx_ledger.specs.Copies.{Copy, copies_of}
use Rattle.vx_ledger.specs.declared.notice.Notice.{Notice}
use Rattle.vx_ledger.specs.declared.open_batch.OpenBatch.{OpenBatch}
use Rattle.vx_ledger.specs.declared.short.Short.{Short}
use Rattle.vx_ledger.specs.declared.short.Short.TheVariants.{Numbers, WantOfMemory}

-- the next number, and the open batches in order of birth
pub record Ledger : Type 0 where
  pub next : ℕ
  pub open_rows : List OpenBatch

-- how many copies are live of the batch at that place
abbrev pub live_count : ℕ → ℕ → List OpenBatch → ℕ
live_count batch place [] = 0
live_count batch place (r ∷ rs) =
    if (r.number == batch) && (r.place == place) then r.count else live_count batch place rs

-- each copy of the list is live in these rows
abbrev pub AreLiveIn : List OpenBatch → List Copy → Type 0
AreLiveIn rows copies = (batch place : ℕ) → copies_of batch place copies ≤ live_count batch place rows

-- each copy of the list is live here
abbrev pub AreLive : Ledger → List Copy → Type 0
AreLive ledger copies = AreLiveIn ledger.open_rows copies

-- the copies given are replaced by the copies taken, and no other count changes
abbrev pub Exchanges : Ledger → List Copy → Ledger → List Copy → Type 0
Exchanges old given new taken =
    (batch place : ℕ) → live_count batch place new.open_rows + copies_of batch place given
    ≡ live_count batch place old.open_rows + copies_of batch place taken

-- how many rows have the number
abbrev pub rows_of : ℕ → List OpenBatch → ℕ
rows_of batch [] = 0
rows_of batch (r ∷ rs) = (if r.number == batch then 1 else 0) + rows_of batch rs

-- each row has a number of its own, a live copy, its number as its place, and no copy from next on
abbrev pub AreKept : ℕ → List OpenBatch → Type 0
AreKept next [] = Unit {0}
AreKept next (r ∷ rs) =
    (r.number < next) × (r.count ≤ next) × (r.place ≡ r.number) × (0 < r.count) × (rows_of r.number rs ≡ 0)
    × AreKept next rs

-- what is true of every ledger
pub record IsKept (ledger : Ledger) : Type 0 where
  pub numbers : ledger.next ≤ 2 ^ 63
  pub rows : AreKept ledger.next ledger.open_rows

-- that many numbers from next on were refused: for want of numbers where they pass 2^63, else of memory
abbrev pub IsShort : ℕ → ℕ → Short → Type 0
IsShort next wanted (Numbers n w) = (n ≡ next) × (w ≡ min wanted (2 ^ 64 - 1)) × (2 ^ 63 < next + wanted)
IsShort next wanted WantOfMemory = next + wanted ≤ 2 ^ 63

-- the place in the list of the batch's row
abbrev pub index_of : ℕ → ℕ → List OpenBatch → ℕ
index_of batch place [] = 0
index_of batch place (r ∷ rs) =
    if (r.number == batch) && (r.place == place) then 0 else index_of batch place rs + 1

-- the rows with that many more live copies of the batch
abbrev pub added_to : ℕ → ℕ → ℕ → List OpenBatch → List OpenBatch
added_to batch place more [] = []
added_to batch place more (r ∷ rs) =
    if (r.number == batch) && (r.place == place)
    then record r { count = r.count + more } ∷ rs
    else r ∷ added_to batch place more rs

-- the rows with that many more live copies for each copy of the list
abbrev pub grown_rows : ℕ → List Copy → List OpenBatch → List OpenBatch
grown_rows more copies [] = []
grown_rows more copies (r ∷ rs) =
    record r { count = r.count + more * copies_of r.number r.place copies } ∷ grown_rows more copies rs

-- the row with one copy spent
abbrev pub spent_row : Outcome → OpenBatch → OpenBatch
spent_row outcome r = record r { count = r.count - 1; status = batch_update r.status (status_of outcome) }

-- the rows with one copy of the batch spent; with its last copy the batch is gone
abbrev pub spent_rows : ℕ → ℕ → Outcome → List OpenBatch → List OpenBatch
spent_rows batch place outcome [] = []
spent_rows batch place outcome (r ∷ rs) =
    if (r.number == batch) && (r.place == place)
    then (if r.count == 1 then rs else spent_row outcome r ∷ rs)
    else r ∷ spent_rows batch place outcome rs

-- the notice that is due when one copy of the batch is spent
abbrev pub notice_of : ℕ → ℕ → Outcome → List OpenBatch → Option Notice
notice_of batch place outcome [] = None
notice_of batch place outcome (r ∷ rs) =
    if (r.number == batch) && (r.place == place)
    then (if r.count == 1
    then Some (record { batch = batch; instance = r.instance; status = batch_update r.status (status_of outcome) })
    else None)
    else notice_of batch place outcome rs
