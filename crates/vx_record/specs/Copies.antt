-- Copies are numbered in the order in which Borns and Splits make them.
use Rattle.std.specs.Prelude.{ℕ, ◌+◌, ◌*◌, List, [], ◌∷◌, ◌++◌, length, if◌then◌else◌, ◌==◌, ◌<◌, ◌≡◌, suc, zero, Bool, nat_lt}
use Rattle.vx_record.specs.declared.entry.Entry.{Entry}
use Rattle.vx_record.specs.Records.{Record}
use Rattle.vx_record.specs.declared.child.Child.{Child}
use Rattle.vx_record.specs.declared.entry.Entry.TheVariants.{Born, Split, Spent}

-- how often c stands in the list
abbrev pub count : ℕ → List ℕ → ℕ
count c [] = 0
count c (x ∷ xs) = (if x == c then 1 else 0) + count c xs

-- whether c stands in the list
abbrev pub contains : List ℕ → ℕ → Bool
contains xs c = nat_lt 0 (count c xs)

-- some lists in a row
abbrev pub joined : List (List ℕ) → List ℕ
joined [] = []
joined (xs ∷ xss) = xs ++ joined xss

-- n numbers from a number on
abbrev pub counting : ℕ → ℕ → List ℕ
counting from zero = []
counting from (suc n) = from ∷ counting (from + 1) n

-- the children of a Split of m copies: those for the t-th target are m numbers from next + t * m on
abbrev pub children_of : ℕ → ℕ → List ℕ → List Child
children_of next m [] = []
children_of next m (target ∷ targets) =
    record { target = target; copies = counting next m } ∷ children_of (next + m) m targets

-- how many copies an entry makes
abbrev pub makes : Entry → ℕ
makes (Born i b place copies events waits stream end) = length copies
makes (Split i ports copies event children) = length children * length copies
makes other = 0

-- the number of copies made so far, which is the number of the next
abbrev pub next_copy : Record → ℕ
next_copy [] = 0
next_copy (e ∷ h) = next_copy h + makes e

-- the copies that an entry split
abbrev pub splits : Entry → List ℕ
splits (Split i ports copies event children) = copies
splits other = []

-- the copies that an entry spent
abbrev pub spends : Entry → List ℕ
spends (Spent i c outcome) = c ∷ []
spends other = []

-- what the entries of a record give, the oldest first
abbrev pub all_of : {X : Type 0} → (Entry → List X) → Record → List X
all_of f [] = []
all_of f (e ∷ h) = all_of f h ++ f e

-- a number of each entry of a record, together
abbrev pub total : (Entry → ℕ) → Record → ℕ
total f [] = 0
total f (e ∷ h) = total f h + f e

-- how often a copy was split
abbrev pub times_split : Record → ℕ → ℕ
times_split h c = count c (all_of splits h)

-- how often a copy was spent
abbrev pub times_spent : Record → ℕ → ℕ
times_spent h c = count c (all_of spends h)

-- made, and neither split nor spent
abbrev pub IsLive : Record → ℕ → Type 0
IsLive h c = (c < next_copy h) × (times_split h c ≡ 0) × (times_spent h c ≡ 0)
