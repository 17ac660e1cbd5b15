-- A task that is out is kept by whatever spares it, and what it judged may be answered.
use Rattle.std.specs.Prelude.{◌≡◌, ℕ, true, false, List, [], ◌∷◌, ◌++◌, length}
use Rattle.vx_ends.specs.Observation.{Observation}
use Rattle.vx_ledger.specs.declared.parcel.Parcel.{Parcel}
use Rattle.vx_record.specs.declared.entry.Entry.TheVariants.{Answer}
use Rattle.vx_record.specs.Records.{Record}
use Rattle.vx_record.specs.Turns.{lease_now}
use Rattle.vx_record.specs.SinkBatches.{is_batch_closed}
use Rattle.vx_record.specs.Abandoning.{abandoned}
use Rattle.vx_record.specs.Answering.{MayAnswer}
use Rattle.vx_record.specs.Judges.{judge_at}
use Rattle.vx_record.specs.Legal.{IsLegal}
use Rattle.vx_record.specs.Makers.{Spares}
use Rattle.vx_record.specs.Additions.{OnlyAdds}
use Rattle.vx_record.specs.Encoding.{encoded}
use Rattle.vx_record.specs.Places.Place.{Held}
use Rattle.vx_record.specs.Shifts.{at}
use Rattle.vx_places.specs.Numbers.{parcels_out, EachFilled}
use Rattle.vx_places.specs.Holding.{AreKnown}
use Rattle.vx_tasks.specs.declared.landing.Done.TheVariants.{Judged, Starved}
use Rattle.vx_tasks.specs.declared.landing.Landing.{Landing}
use Rattle.vx_tasks.specs.declared.work.Work.{Work}
use Rattle.vx_tasks.specs.Unleased.{HasKept}
use Rattle.vx_tasks.specs.Observing.{IsObservedBeyond}
use Rattle.vx_tasks.specs.Judging.{put_out_on, refused_on, passed, stopped, AreDistinct, AreDivided}
use Rattle.vx_tasks.specs.Out.{IsUnread, StaysClosed, HasLeft, HasDone, confirm_entries}

-- while others go on, a task stays as it left
abbrev pub LeftKept : {P : Type 0} → (P → Observation) → Type 0
LeftKept observe = (old new : Record) (work : Work _) → IsLegal old → OnlyAdds (Spares work.instance) old new → HasLeft observe old work → HasLeft observe new work

-- and as it comes back
abbrev pub DoneKept : {P : Type 0} → (P → Observation) → Type 0
DoneKept observe = (old new : Record) (landing : Landing _) → IsLegal old → OnlyAdds (Spares landing.instance) old new → HasDone observe old landing → HasDone observe new landing

-- of an attempt that starved the port tells what the record has, and goes beyond it by bytes that no entry tells
abbrev pub StarvedBeyond : {P : Type 0} → (P → Observation) → Type 0
StarvedBeyond observe = (h : Record) (landing : Landing _) → HasDone observe h landing → landing.done ≡ Starved →
    IsObservedBeyond (observe landing.task.port) (confirm_entries landing.instance landing.confirmed ++ h) landing.instance (encoded h landing.instance (at h (Held landing.instance)))

-- a batch that is closed stays so where no birth is due, as behind a Lease or a Take
abbrev pub ClosedStays : Type 0
ClosedStays = (h : Record) (i : ℕ) → IsUnread h → is_batch_closed h i (lease_now h i) ≡ true → StaysClosed h i

-- an instance that judged what it holds is a transform that judges event by event
abbrev pub JudgeIs : {P : Type 0} → (P → Observation) → Type 0
JudgeIs observe =
    (h : Record) (landing : Landing _) (ports : List ℕ) → IsLegal h → HasDone observe h landing → landing.done ≡ Judged ports →
    judge_at h landing.instance ≡ true

-- unless the run was given up it judged each parcel
abbrev pub EachJudged : {P : Type 0} → (P → Observation) → Type 0
EachJudged observe =
    (h : Record) (landing : Landing _) (ports : List ℕ) → IsLegal h → abandoned h ≡ false → HasDone observe h landing →
    landing.done ≡ Judged ports → length ports ≡ length landing.held.items

-- no copy is twice in what an instance holds
abbrev pub HeldDistinct : {P : Type 0} → (P → Observation) → Type 0
HeldDistinct observe = (h : Record) (landing : Landing _) → IsLegal h → HasDone observe h landing → AreDistinct landing.held.items

-- what it judged it may answer: each parcel is put out on its ports, and those that have none are discarded
abbrev pub AnswersNow : {P : Type 0} → (P → Observation) → Type 0
AnswersNow observe =
    (h : Record) (landing : Landing _) (ports : List ℕ) → IsLegal h → abandoned h ≡ false → HasDone observe h landing →
    landing.done ≡ Judged ports →
    MayAnswer h landing.instance (put_out_on ports landing.held.items) (refused_on ports landing.held.items) []

-- and behind that answer what it keeps stands for all that it has answered
abbrev pub AnswerKept : {P : Type 0} → (P → Observation) → Type 0
AnswerKept observe =
    (h : Record) (landing : Landing _) (ports : List ℕ) → IsLegal h → abandoned h ≡ false → HasDone observe h landing →
    landing.done ≡ Judged ports →
    HasKept (Answer landing.instance (put_out_on ports landing.held.items) (refused_on ports landing.held.items) [] ∷ h) landing.instance landing.task.role

-- so parcels are divided into those that are put out and those that stay
abbrev pub AnswerDivides : Type 0
AnswerDivides =
    (ports : List ℕ) (parcels : List Parcel) → length ports ≡ length parcels → EachFilled parcels → AreDistinct parcels →
    AreDivided ports parcels

-- and behind that answer the copies of both are known: they keep their events
abbrev pub AnswerKnown : Type 0
AnswerKnown =
    (h : Record) (i : ℕ) (ports : List ℕ) (parcels : List Parcel) → AreKnown h parcels →
    AreKnown (Answer i (put_out_on ports parcels) (refused_on ports parcels) [] ∷ h) (parcels_out (passed ports parcels))
    × AreKnown (Answer i (put_out_on ports parcels) (refused_on ports parcels) [] ∷ h) (stopped ports parcels)

-- all of these
pub record TaskLaws {P : Type 0} (observe : P → Observation) : Type 0 where
  pub left : LeftKept observe
  pub done : DoneKept observe
  pub starved : StarvedBeyond observe
  pub closed : ClosedStays
  pub judge : JudgeIs observe
  pub judged : EachJudged observe
  pub distinct : HeldDistinct observe
  pub answers : AnswersNow observe
  pub kept : AnswerKept observe
  pub divides : AnswerDivides
  pub known : AnswerKnown
