-- What a transform discarded last, and what waits for its answer, is the task's own.
use Rattle.std.proofs.Common.{◌≡◌, Bool, true, false, List, [], ◌∷◌, ◌++◌, refl}
use Rattle.std.specs.Prelude.{not, ◌&&◌, ◌||◌, ◌==◌, if◌then◌else◌}
use Rattle.vx_condition.specs.Steps.{comes, ticks}
use Rattle.vx_record.specs.declared.entry.Entry.TheVariants.{Take, Tick, Answer}
use Rattle.vx_record.specs.Turns.{lease_now}
use Rattle.vx_record.specs.Parcels.{parcel_event}
use Rattle.vx_record.specs.Inputs.{Input, unanswered, is_tick, has_tick, ticks_wait}
use Rattle.vx_record.specs.Owing.{last_discarded, took_since}
use Rattle.vx_record.specs.Tasks.{IsOwn}
use Rattle.vx_record.proofs.Mine.{EachActs, acts, passes, sets, owned}

discarded_acts : EachActs last_discarded
discarded_acts (Answer j outputs discarded kept) i = sets discarded (λ h. refl)
discarded_acts e i = passes (λ h. refl)

pub discarded_own : IsOwn last_discarded
discarded_own = owned discarded_acts

took_acts : EachActs took_since
took_acts (Take j stage copies) i = acts (λ own took. own || took) (λ took. refl) (λ h. refl)
took_acts (Answer j outputs discarded kept) i = acts (λ own took. not own && took) (λ took. refl) (λ h. refl)
took_acts e i = passes (λ h. refl)

pub took_own : IsOwn took_since
took_own = owned took_acts

-- one more input may be a tick
tick_more : (b : Bool) (x : Input) (rest : List Input) → has_tick ((if b then x ∷ [] else []) ++ rest) ≡ ((b && is_tick x.step) || has_tick rest)
tick_more true x rest = refl
tick_more false x rest = refl

-- and no input is none
tick_gone : (b : Bool) (given : List Input) → has_tick (if b then [] else given) ≡ (if b then false else has_tick given)
tick_gone true given = refl
tick_gone false given = refl

ticks_acts : EachActs ticks_wait
ticks_acts (Take j stage copies) i =
    acts (λ own waits. (own && false) || waits) (λ waits. refl)
    (λ h. tick_more (j == i) (record { step = comes (parcel_event h copies) (lease_now h i); copies = copies }) (unanswered h i))
ticks_acts (Tick j now) i = acts (λ own waits. (own && true) || waits) (λ waits. refl) (λ h. tick_more (j == i) (record { step = ticks now; copies = [] }) (unanswered h i))
ticks_acts (Answer j outputs discarded kept) i = sets false (λ h. tick_gone (j == i) (unanswered h i))
ticks_acts e i = passes (λ h. refl)

pub ticks_own : IsOwn ticks_wait
ticks_own = owned ticks_acts
