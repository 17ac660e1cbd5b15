-- Rounds of places: each is read by the next, and the last by the first.
use Rattle.std.specs.Prelude.{◌≡◌, ◌≢◌, ◌<◌, ◌≤◌, ℕ, Bool, true, false, List, [], ◌∷◌, ◌++◌, length, take, drop, slice_index_or, All, AllPairs}

-- whether, by a table of rows, the one at a place is read by the one at another
abbrev pub edge : List (List Bool) → ℕ → ℕ → Bool
edge rows i j = slice_index_or (slice_index_or rows i []) j false

-- each of some places is read by the next
abbrev pub Linked : List (List Bool) → List ℕ → Type 0
Linked rows [] = Unit {0}
Linked rows (i ∷ []) = Unit {0}
Linked rows (i ∷ j ∷ rest) = (edge rows i j ≡ true) × Linked rows (j ∷ rest)

-- each of some places, one at least, is read by the next, and the last by the first
unfoldable pub IsRound : List (List Bool) → List ℕ → Type 0
IsRound rows [] = ⊥
IsRound rows (i ∷ rest) = Linked rows ((i ∷ rest) ++ i ∷ [])

-- the first of some places is the least
abbrev pub IsLeastFirst : List ℕ → Type 0
IsLeastFirst [] = Unit {0}
IsLeastFirst (i ∷ rest) = All (λ j. i ≤ j) (i ∷ rest)

-- no two of some places are the same
abbrev pub AreApart : List ℕ → Type 0
AreApart places = AllPairs (λ i j. i ≢ j) places

-- nobody reads further without end from a place
pub data Settled (rows : List (List Bool)) : ℕ → Type 0 where
  settle : (i : ℕ) → ((j : ℕ) → edge rows i j ≡ true → Settled rows j) → Settled rows i

-- whether a place is marked
abbrev pub marked : List Bool → ℕ → Bool
marked marks i = slice_index_or marks i false

-- the one at a place is read by one that isn't marked
abbrev pub HasOpenReader : List (List Bool) → List Bool → ℕ → Type 0
HasOpenReader rows marks i = (j : ℕ) × (edge rows i j ≡ true) × (marked marks j ≡ false)

-- no row is longer than there are rows
abbrev pub IsSquare : List (List Bool) → Type 0
IsSquare rows = All (λ row. length row ≤ length rows) rows

-- each place that isn't marked has an open reader
abbrev pub AllOpen : List (List Bool) → List Bool → Type 0
AllOpen rows marks = (i : ℕ) → i < length rows → marked marks i ≡ false → HasOpenReader rows marks i

-- from each marked place reading ends
abbrev pub AllSettled : List (List Bool) → List Bool → Type 0
AllSettled rows marks = (i : ℕ) → marked marks i ≡ true → Settled rows i

-- some places begin anew at one of them
abbrev pub Turned : List ℕ → List ℕ → Type 0
Turned places turned = (m : ℕ) × (m < length places) × (turned ≡ drop m places ++ take m places)
