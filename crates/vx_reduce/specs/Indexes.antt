-- Groups under numbers that rise, and an index of their keys.
use Rattle.std.specs.Prelude.{◌≡◌, ℕ, ◌&&◌, Bool, true, not, nat_lt, Option, Some, None, List, [], ◌∷◌, ◌++◌, map, IsTrue, IsSome, if◌then◌else◌}
use Rattle.std.specs.Ordering.{is_eq}
use Rattle.std.specs.List.{list_any, list_all}
use Rattle.std.specs.Map.{lookup}
use Rattle.std.specs.BTreeMap.{is_at}
use Rattle.vx_value.specs.Datum.{Datum}
use Rattle.vx_value.specs.Orders.{datum_cmp}
use Rattle.vx_ledger.specs.Copies.{Copy}
use Rattle.vx_reduce.specs.declared.group.Group.{Group}
use Rattle.vx_reduce.specs.Groups.{copies_in}

-- the keys of groups, under the groups' numbers
abbrev pub keys_under : List (ℕ × Group) → List (ℕ × Datum)
keys_under es = map (λ (e : ℕ × Group). (e.0, e.1.key)) es

-- the number of a key
abbrev pub number_of : Datum → List (ℕ × Datum) → Option ℕ
number_of key [] = None
number_of key (e ∷ es) = if is_eq (datum_cmp key e.1) then Some e.0 else number_of key es

-- whether each number is above one
abbrev pub all_above : ℕ → List (ℕ × Datum) → Bool
all_above n [] = true
all_above n (e ∷ es) = nat_lt n e.0 && all_above n es

-- whether each number is below one
abbrev pub all_below : ℕ → List (ℕ × Datum) → Bool
all_below n [] = true
all_below n (e ∷ es) = nat_lt e.0 n && all_below n es

-- whether each number is below the next
abbrev pub numbers_rise : List (ℕ × Datum) → Bool
numbers_rise [] = true
numbers_rise (e ∷ es) = all_above e.0 es && numbers_rise es

-- whether a key is another one than each of these
abbrev pub is_apart : Datum → List (ℕ × Datum) → Bool
is_apart key [] = true
is_apart key (e ∷ es) = not (is_eq (datum_cmp key e.1)) && is_apart key es

-- whether no two keys are the same
abbrev pub keys_differ : List (ℕ × Datum) → Bool
keys_differ [] = true
keys_differ (e ∷ es) = is_apart e.1 es && keys_differ es

-- an index tells the number of each key; the numbers rise, and are below the next one
pub record IsIndexOf (index : List (Datum × ℕ)) (keys : List (ℕ × Datum)) (next : ℕ) : Type 0 where
  pub numbers : (key : Datum) → lookup (is_at (datum_cmp key)) index ≡ number_of key keys
  pub rise : IsTrue (numbers_rise keys)
  pub below : IsTrue (all_below next keys)
  pub differ : IsTrue (keys_differ keys)

-- the same of the groups' keys
abbrev pub IsIndexed : List (Datum × ℕ) → List (ℕ × Group) → ℕ → Type 0
IsIndexed index entries next = IsIndexOf index (keys_under entries) next

-- there is a group, and its parcel is gone
abbrev pub IsHollow : Option Group → Type 0
IsHollow None = ⊥
IsHollow (Some g) = g.parcel ≡ None

-- there is a group, and its parcel is there
abbrev pub IsFull : Option Group → Type 0
IsFull None = ⊥
IsFull (Some g) = IsSome g.parcel

-- the first group has that number
abbrev pub BeginsAt : ℕ → List (ℕ × Group) → Type 0
BeginsAt n [] = ⊥
BeginsAt n (e ∷ es) = e.0 ≡ n

-- the first group has no copies
abbrev pub BeginsBare : List (ℕ × Group) → Type 0
BeginsBare [] = ⊥
BeginsBare (e ∷ es) = copies_in e.1.parcel ≡ []

-- the last copy of the first group was taken
abbrev pub TakesCopy : Copy → List (ℕ × Group) → List (ℕ × Group) → Type 0
TakesCopy copy [] new = ⊥
TakesCopy copy (e ∷ es) new = (w : Group) × (new ≡ (e.0, w) ∷ es) × (w.key ≡ e.1.key) × (copies_in e.1.parcel ≡ copies_in w.parcel ++ copy ∷ [])
