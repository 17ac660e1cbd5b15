-- Records in which each entry takes copies only from where they stand, and makes only the next ones.
use Rattle.std.specs.Prelude.{ℕ, ◌≡◌, ◌≤◌, ◌==◌, if◌then◌else◌, List, [], ◌∷◌, length}
use Rattle.vx_record.specs.declared.child.Child.{Child}
use Rattle.vx_record.specs.declared.output.Output.{Output}
use Rattle.vx_record.specs.declared.entry.Entry.{Entry}
use Rattle.vx_record.specs.declared.entry.Entry.TheVariants.{Born, Split, Push, Take, Answer, Spent}
use Rattle.vx_record.specs.Records.{Record}
use Rattle.vx_record.specs.Copies.{count, joined, counting, children_of, next_copy, IsLive}
use Rattle.vx_record.specs.Places.{put_out}
use Rattle.vx_record.specs.Lists.{and_rest, outputs, waiting, contents, held}
use Rattle.vx_record.specs.Sending.{IsOldest}

-- the oldest output is replaced by children with the next numbers, for some targets
pub record Divides (h : Record) (i : ℕ) (copies : List ℕ) (children : List Child) : Type 0 where
  pub oldest : IsOldest copies (outputs h i)
  pub made : (targets : List ℕ) × (children ≡ children_of (next_copy h) (length copies) targets)

-- a parcel for each copy
abbrev pub singles : List ℕ → List (List ℕ)
singles [] = []
singles (c ∷ cs) = (c ∷ []) ∷ singles cs

-- the children for a target
abbrev pub children_for : ℕ → List Child → List (List ℕ)
children_for t [] = []
children_for t (child ∷ rest) = if child.target == t then and_rest child.copies (children_for t rest) else children_for t rest

-- the parcels of some outputs
abbrev pub parcels_of : List Output → List (List ℕ)
parcels_of [] = []
parcels_of (output ∷ rest) = and_rest output.copies (parcels_of rest)

-- what is put out was held, and each copy no more often
abbrev pub Releases : Record → ℕ → List Output → Type 0
Releases h i outputs = (c : ℕ) → count c (put_out outputs) ≤ count c (joined (held h i))

-- what an entry needs that makes, moves or spends copies: new ones have the next numbers, a parcel that moves is the
-- oldest where it stands, what a transform puts out it held, and what is spent is live
abbrev pub Conserves : Record → Entry → Type 0
Conserves h (Born i b place copies events waits stream end) = copies ≡ counting (next_copy h) (length copies)
Conserves h (Split i ports copies event children) = Divides h i copies children
Conserves h (Push i t s copies) = IsOldest copies (waiting h i t)
Conserves h (Take i s copies) = IsOldest copies (contents h i s)
Conserves h (Answer i made discarded kept) = Releases h i made
Conserves h (Spent i c outcome) = IsLive h c
Conserves h other = Unit {0}

-- an entry that makes, moves and spends nothing
abbrev pub IsStill : Entry → Type 0
IsStill (Born i b place copies events waits stream end) = ⊥
IsStill (Split i ports copies event children) = ⊥
IsStill (Push i t s copies) = ⊥
IsStill (Take i s copies) = ⊥
IsStill (Answer i made discarded kept) = ⊥
IsStill (Spent i c outcome) = ⊥
IsStill other = Unit {0}

-- each entry conserves what stood before it
abbrev pub IsConserved : Record → Type 0
IsConserved [] = Unit {0}
IsConserved (e ∷ h) = Conserves h e × IsConserved h
