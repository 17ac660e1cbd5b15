-- Lists of copies, as contracts see finalizers.
use Rattle.std.specs.Prelude.{ℕ, zero, suc, ◌+◌, List, [], ◌∷◌, ◌++◌, length, ◌==◌, ◌&&◌, if◌then◌else◌}

-- a finalizer as contracts see it: its batch, its copy number, and the place of its batch
pub record Copy : Type 0 where
  pub batch : ℕ
  pub number : ℕ
  pub place : ℕ

-- how many copies of the batch at that place are in the list
abbrev pub copies_of : ℕ → ℕ → List Copy → ℕ
copies_of batch place [] = 0
copies_of batch place (c ∷ cs) =
    (if (c.batch == batch) && (c.place == place) then 1 else 0) + copies_of batch place cs

-- n copies of a batch at a place, numbered from first on
abbrev pub numbered : ℕ → ℕ → ℕ → ℕ → List Copy
numbered zero batch place first = []
numbered (suc n) batch place first =
    record { batch = batch; number = first; place = place } ∷ numbered n batch place (first + 1)

-- the same copies with fresh numbers, from first on
abbrev pub renumbered : ℕ → List Copy → List Copy
renumbered first [] = []
renumbered first (c ∷ cs) =
    record { batch = c.batch; number = first; place = c.place } ∷ renumbered (first + 1) cs

-- the children of the copies for k targets, one list a target, numbered target by target from first on
abbrev pub children_of : ℕ → ℕ → List Copy → List (List Copy)
children_of zero first parent = []
children_of (suc k) first parent = renumbered first parent ∷ children_of k (first + length parent) parent

-- the copies of several lists, one list behind the other
abbrev pub joined : List (List Copy) → List Copy
joined [] = []
joined (cs ∷ rest) = cs ++ joined rest

-- each copy in a list of its own
abbrev pub each_alone : List Copy → List (List Copy)
each_alone [] = []
each_alone (c ∷ cs) = (c ∷ []) ∷ each_alone cs

-- the numbers of some copies, as an entry has them
abbrev pub numbers_of : List Copy → List ℕ
numbers_of [] = []
numbers_of (c ∷ cs) = c.number ∷ numbers_of cs
