-- The batches that a source created, what was confirmed to it and the bytes that a sink gave are the task's own.
use Rattle.std.proofs.Common.{[], refl}
use Rattle.std.specs.Prelude.{not}
use Rattle.vx_record.specs.declared.entry.Entry.TheVariants.{Born, Attempt, Confirm}
use Rattle.vx_record.specs.Confirms.{births_in, births, is_unconfirmed, last_confirm, confirmed_in, confirmed}
use Rattle.vx_record.specs.Encoding.{given_in, given}
use Rattle.vx_record.specs.Tasks.{IsOwn}
use Rattle.vx_record.proofs.Mine.{EachActs, IsIdle, passes, sets, owned, listed}

none_born : IsIdle [] births_in
none_born (Born j b place copies events waits stream end) i is = rw is refl
none_born e i is = refl

pub births_own : IsOwn births
births_own = listed none_born

none_confirmed : IsIdle [] confirmed_in
none_confirmed (Confirm j positions made) i is = rw is refl
none_confirmed e i is = refl

pub confirmed_own : IsOwn confirmed
confirmed_own = listed none_confirmed

none_given : IsIdle [] given_in
none_given (Attempt j copies bytes reply) i is = rw is refl
none_given e i is = refl

pub given_own : IsOwn given
given_own = listed none_given

unconfirmed_acts : EachActs is_unconfirmed
unconfirmed_acts (Confirm j positions made) i = sets (not made) (λ h. refl)
unconfirmed_acts e i = passes (λ h. refl)

pub unconfirmed_own : IsOwn is_unconfirmed
unconfirmed_own = owned unconfirmed_acts

last_acts : EachActs last_confirm
last_acts (Confirm j positions made) i = sets positions (λ h. refl)
last_acts e i = passes (λ h. refl)

pub last_own : IsOwn last_confirm
last_own = owned last_acts
