-- Where copies are put, and where from they leave: two tables over the kinds of entries.
use Rattle.std.specs.Prelude.{ℕ, Bool, false, ◌&&◌, List, [], ◌∷◌, ◌++◌, map, ◌==◌}
use Rattle.vx_record.specs.declared.entry.Entry.{Entry}
use Rattle.vx_record.specs.Records.{Record}
use Rattle.vx_record.specs.declared.child.Child.{Child}
use Rattle.vx_record.specs.declared.output.Output.{Output}
use Rattle.vx_record.specs.declared.entry.Entry.TheVariants.{Install, Lease, Home, Read, Idle, SourceLost, Born, Split, Push, Take, Tick, Answer, Attempt, Spent, Notice, Confirm, Closed, Retired, Abandon}
use Rattle.vx_record.specs.Copies.{all_of}

-- where copies can stand: put out, waiting for a target, in a stage, taken
pub data Place : Type 0 where
  Outputs : (instance : ℕ) → Place
  Waiting : (instance target : ℕ) → Place
  Contents : (instance stage : ℕ) → Place
  Held : (instance : ℕ) → Place

-- the instance that a place belongs to
abbrev pub owner : Place → ℕ
owner (Outputs i) = i
owner (Waiting i t) = i
owner (Contents i s) = i
owner (Held i) = i

-- whether two places are one
abbrev pub same_place : Place → Place → Bool
same_place (Outputs i) (Outputs j) = i == j
same_place (Waiting i t) (Waiting j u) = (i == j) && (t == u)
same_place (Contents i s) (Contents j r) = (i == j) && (s == r)
same_place (Held i) (Held j) = i == j
same_place p q = false

-- a parcel of copies at a place
pub record Put : Type 0 where
  pub place : Place
  pub copies : List ℕ

-- a parcel for each copy, all at one place
abbrev pub one_each : Place → List ℕ → List Put
one_each p [] = []
one_each p (c ∷ cs) = record { place = p; copies = c ∷ [] } ∷ one_each p cs

-- the copies of some outputs
abbrev pub put_out : List Output → List ℕ
put_out [] = []
put_out (output ∷ rest) = output.copies ++ put_out rest

-- what an entry puts, and where
abbrev pub puts : Entry → List Put
puts (Install version plan once instances now) = []
puts (Lease i worker now polls) = []
puts (Home i) = []
puts (Read i stream took) = []
puts (Idle i failed) = []
puts (SourceLost i at failed) = []
puts (Born i b place copies events waits stream end) = one_each (Outputs i) copies
puts (Split i ports copies event children) =
    map (λ (child : Child). record { place = Waiting i child.target; copies = child.copies }) children
puts (Push i t s copies) = record { place = Contents t s; copies = copies } ∷ []
puts (Take i s copies) = record { place = Held i; copies = copies } ∷ []
puts (Tick i now) = []
puts (Answer i outputs discarded kept) = map (λ (output : Output). record { place = Outputs i; copies = output.copies }) outputs
puts (Attempt i copies bytes reply) = []
puts (Spent i c outcome) = []
puts (Notice b status) = []
puts (Confirm i positions made) = []
puts (Closed i) = []
puts (Retired i) = []
puts (Abandon cause) = []

-- the four kinds of places
pub data Kind : Type 0 where
  AnOutput : Kind
  AChild : Kind
  AStage : Kind
  AHold : Kind

-- the kind of a place
abbrev pub kind : Place → Kind
kind (Outputs i) = AnOutput
kind (Waiting i t) = AChild
kind (Contents i s) = AStage
kind (Held i) = AHold

-- the copies that an entry takes away from the places of a kind
abbrev pub leaves : Kind → Entry → List ℕ
leaves k (Install version plan once instances now) = []
leaves k (Lease i worker now polls) = []
leaves k (Home i) = []
leaves k (Read i stream took) = []
leaves k (Idle i failed) = []
leaves k (SourceLost i at failed) = []
leaves k (Born i b place copies events waits stream end) = []
leaves AnOutput (Split i ports copies event children) = copies
leaves k (Split i ports copies event children) = []
leaves AChild (Push i t s copies) = copies
leaves k (Push i t s copies) = []
leaves AStage (Take i s copies) = copies
leaves k (Take i s copies) = []
leaves k (Tick i now) = []
leaves AHold (Answer i outputs discarded kept) = put_out outputs
leaves k (Answer i outputs discarded kept) = []
leaves k (Attempt i copies bytes reply) = []
leaves k (Spent i c outcome) = c ∷ []
leaves k (Notice b status) = []
leaves k (Confirm i positions made) = []
leaves k (Closed i) = []
leaves k (Retired i) = []
leaves k (Abandon cause) = []

-- all that was ever put, the oldest first
abbrev pub all_puts : Record → List Put
all_puts [] = []
all_puts (e ∷ h) = all_puts h ++ puts e

-- all that ever left the places of a kind
abbrev pub left : Record → Kind → List ℕ
left h k = all_of (leaves k) h
