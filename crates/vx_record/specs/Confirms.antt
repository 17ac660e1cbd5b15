-- Which positions of a source may be confirmed.
use Rattle.std.specs.Prelude.{ℕ, Bool, true, false, not, ◌&&◌, ◌||◌, List, [], ◌∷◌, if◌then◌else◌, ◌==◌, nat_lt, take_while, map}
use Rattle.vx_ends.specs.declared.position.Position.{Position}
use Rattle.vx_status.specs.declared.batch_status.BatchStatus.{BatchStatus}
use Rattle.vx_status.specs.declared.batch_status.BatchStatus.TheVariants.{Delivered}
use Rattle.vx_value.specs.Texts.{is_empty}
use Rattle.vx_record.specs.declared.entry.Entry.{Entry}
use Rattle.vx_record.specs.declared.entry.Entry.TheVariants.{Born, Notice, Confirm}
use Rattle.vx_record.specs.Records.{Record}
use Rattle.vx_record.specs.Copies.{all_of}
use Rattle.vx_record.specs.Installs.{device_at}

-- a batch as its source created it
pub record Birth : Type 0 where
  pub batch : ℕ
  pub waits : Bool
  pub stream : ℕ
  pub end : ℕ

-- the birth that an entry is for the instance
abbrev pub births_in : ℕ → Entry → List Birth
births_in i (Born j b place copies events waits stream end) =
    if j == i then record { batch = b; waits = waits; stream = stream; end = end } ∷ [] else []
births_in i other = []

-- an instance's births, the oldest first
abbrev pub births : Record → ℕ → List Birth
births h i = all_of (births_in i) h

-- whether a batch's status is Delivered
abbrev pub is_delivered : BatchStatus → Bool
is_delivered Delivered = true
is_delivered other = false

-- whether a batch has a notice
abbrev pub is_noticed : Record → ℕ → Bool
is_noticed [] b = false
is_noticed (Notice b' status ∷ h) b = (b' == b) || is_noticed h b
is_noticed (e ∷ h) b = is_noticed h b

-- whether a notice said that the batch was delivered
abbrev pub was_delivered : Record → ℕ → Bool
was_delivered [] b = false
was_delivered (Notice b' status ∷ h) b = ((b' == b) && is_delivered status) || was_delivered h b
was_delivered (e ∷ h) b = was_delivered h b

-- the longest run of births, from the first on, that do not wait or were delivered
abbrev pub confirm_prefix : Record → ℕ → List Birth
confirm_prefix h i = take_while (λ (birth : Birth). not birth.waits || was_delivered h birth.batch) (births h i)

-- positions with another one, which takes the place of the stream's older one; streams rise
abbrev pub moved_to : ℕ → ℕ → List Position → List Position
moved_to stream end [] = record { stream = stream; end = end } ∷ []
moved_to stream end (p ∷ rest) =
    if nat_lt stream p.stream then record { stream = stream; end = end } ∷ p ∷ rest
    else (if stream == p.stream then record { stream = stream; end = end } ∷ rest else p ∷ moved_to stream end rest)

-- each stream's last position, added to others
abbrev pub last_of_each : List Position → List Position → List Position
last_of_each positions [] = positions
last_of_each positions (p ∷ rest) = last_of_each (moved_to p.stream p.end positions) rest

-- where a birth ends
abbrev pub position_of : Birth → Position
position_of birth = record { stream = birth.stream; end = birth.end }

-- the positions that are due: each stream's last in that run
abbrev pub due : Record → ℕ → List Position
due h i = last_of_each [] (map position_of (confirm_prefix h i))

-- whether the instance's last Confirm failed
abbrev pub is_unconfirmed : Record → ℕ → Bool
is_unconfirmed [] i = false
is_unconfirmed (Confirm j positions made ∷ h) i = if j == i then not made else is_unconfirmed h i
is_unconfirmed (e ∷ h) i = is_unconfirmed h i

-- the positions of the instance's last Confirm, made or failed; none before the first
abbrev pub last_confirm : Record → ℕ → List Position
last_confirm [] i = []
last_confirm (Confirm j positions made ∷ h) i = if j == i then positions else last_confirm h i
last_confirm (e ∷ h) i = last_confirm h i

-- whether two lists of positions are equal
abbrev pub same_positions : List Position → List Position → Bool
same_positions [] [] = true
same_positions (p ∷ ps) (q ∷ qs) = (p.stream == q.stream) && (p.end == q.end) && same_positions ps qs
same_positions ps qs = false

-- whether there is something new to confirm to a port
abbrev pub is_confirm_due : Record → ℕ → Bool
is_confirm_due h i = device_at h i && not (is_empty (due h i)) && not (same_positions (due h i) (last_confirm h i))

-- the positions that an entry confirmed to the instance's port
abbrev pub confirmed_in : ℕ → Entry → List Position
confirmed_in i (Confirm j positions made) = if (j == i) && made then positions else []
confirmed_in i other = []

-- all positions that were confirmed to the instance's port, the oldest first
abbrev pub confirmed : Record → ℕ → List Position
confirmed h i = all_of (confirmed_in i) h
