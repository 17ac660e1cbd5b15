-- What a transform answers that judged all that it holds.
use Rattle.std.specs.Prelude.{◌≡◌, ℕ, ◌==◌, if◌then◌else◌, false, List, [], ◌∷◌, ◌++◌, length}
use Rattle.vx_record.specs.declared.entry.Entry.{Entry}
use Rattle.vx_record.specs.declared.entry.Entry.TheVariants.{Answer}
use Rattle.vx_record.specs.declared.output.Output.{Output}
use Rattle.vx_record.specs.Records.{Record}
use Rattle.vx_record.specs.Abandoning.{abandoned}
use Rattle.vx_record.specs.Answering.{MayAnswer}
use Rattle.vx_record.specs.Parcels.{parcel_event}
use Rattle.vx_record.specs.Places.Place.{Held}
use Rattle.vx_record.specs.Shifts.{at}

-- what is put out of some parcels, each on the ports in its place, where there is one
abbrev pub put_out_of : Record → List ℕ → List (List ℕ) → List Output
put_out_of h [] parcels = []
put_out_of h (ports ∷ more) [] = []
put_out_of h (ports ∷ more) (copies ∷ parcels) =
    let rest = put_out_of h more parcels in
    if ports == 0 then rest else record { ports = ports; copies = copies; event = parcel_event h copies } ∷ rest

-- the copies of the others, which are discarded
abbrev pub refused_of : List ℕ → List (List ℕ) → List ℕ
refused_of [] parcels = []
refused_of (ports ∷ more) [] = []
refused_of (ports ∷ more) (copies ∷ parcels) = let rest = refused_of more parcels in if ports == 0 then copies ++ rest else rest

-- the answer to all that an instance holds
abbrev pub answer_by : Record → ℕ → List ℕ → Entry
answer_by h i ports = Answer i (put_out_of h ports (at h (Held i))) (refused_of ports (at h (Held i))) []

-- it may be noted now: the run goes on, and each parcel was judged
pub record MayAnswerNow (h : Record) (i : ℕ) (ports : List ℕ) : Type 0 where
  pub going : abandoned h ≡ false
  pub each : length ports ≡ length (at h (Held i))
  pub may : MayAnswer h i (put_out_of h ports (at h (Held i))) (refused_of ports (at h (Held i))) []
