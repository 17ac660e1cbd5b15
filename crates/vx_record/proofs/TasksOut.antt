-- The law of tasks that are out.
use Rattle.std.proofs.Common.{◌≡◌, ◌≢◌, ◌∙◌, ℕ, Bool, true, false, ◌∷◌, [], Option, Some, None, refl, sym, ap, subst}
use Rattle.std.specs.Prelude.{is_some, ◌==◌, if◌then◌else◌}
use Rattle.std.proofs.lemmas.Bool.{eqb-true}
use Rattle.vx_record.specs.declared.entry.Entry.{Entry}
use Rattle.vx_record.specs.declared.entry.Entry.TheVariants.{Install, Lease, Home, Read, Idle, SourceLost, Born, Split, Push, Take, Tick, Answer, Attempt, Spent, Notice, Confirm, Closed, Retired, Abandon}
use Rattle.vx_record.specs.Records.{Record}
use Rattle.vx_record.specs.Turns.{is_out}
use Rattle.vx_record.specs.Places.Place.{Outputs, Waiting, Held}
use Rattle.vx_record.specs.Reads.{taken, ended_streams}
use Rattle.vx_record.specs.Encoding.{given}
use Rattle.vx_record.specs.Confirms.{confirmed}
use Rattle.vx_record.specs.Shifts.{at}
use Rattle.vx_record.specs.Legal.{Follows, IsLegal}
use Rattle.vx_record.specs.Tasks.{is_of, mine, out_to, IsOwn}
use Rattle.vx_record.specs.Makers.{maker, IsBy, IsByOther, IsByNone, IsFor, Spares, IsOfNone}
use Rattle.vx_record.specs.TaskLaws.{OutToWorker, LeasedWhenUnleased, OutMadeBy, OthersSpare, WorkersSpare, NoneSpares, TasksSpare, TasklessSpares, SparedStays, TasksOut}
use Rattle.vx_record.proofs.Mine.{others}
use Rattle.vx_record.proofs.OwnTurns.{worker_acts, worker_own, out_own}
use Rattle.vx_record.proofs.OwnReads.{taken_own, ended_own}
use Rattle.vx_record.proofs.OwnConfirms.{confirmed_own, given_own}
use Rattle.vx_record.proofs.Adding.{carry, adds_wider, adds_narrower, adds_legal}
use Rattle.vx_record.proofs.OwnPlaces.{outputs_own, waiting_own, held_own}

pub out_to_worker : OutToWorker
out_to_worker [] i = refl
out_to_worker (Lease j worker now polls ∷ h) i = go (j == i) (out_to_worker h i)
  where
    go : (b : Bool) → is_out h i ≡ is_some (out_to h i) → (if b then true else is_out h i) ≡ is_some (if b then Some worker else out_to h i)
    go true same = refl
    go false same = same
out_to_worker (Home j ∷ h) i = go (j == i) (out_to_worker h i)
  where
    go : (b : Bool) → is_out h i ≡ is_some (out_to h i) → (if b then false else is_out h i) ≡ is_some (if b then None else out_to h i)
    go true same = refl
    go false same = same
out_to_worker (e ∷ h) i = out_to_worker h i

none_of : (o : Option ℕ) → is_some o ≡ false → o ≡ None
none_of None is = refl
none_of (Some worker) is = cc

-- what is unleased is out to nobody
unleased_none : (h : Record) (i : ℕ) → is_out h i ≡ false → out_to h i ≡ None
unleased_none h i unleased = none_of (out_to h i) (sym (out_to_worker h i) ∙ unleased)

pub leased_when_unleased : LeasedWhenUnleased
leased_when_unleased h i worker now polls legal = unleased_none h i legal.0.row.unleased

-- so an entry that an instance makes only unleased isn't made while it is out
not_unleased : (h : Record) (j i worker : ℕ) → out_to h i ≡ Some worker → (j == i) ≡ true → is_out h j ≡ false → ⊥
not_unleased h j i worker out is unleased =
    let none : out_to h i ≡ None = subst (λ (k : ℕ). out_to h k ≡ None) (eqb-true j i is) (unleased_none h j unleased) in
    let no : None ≡ Some worker = sym none ∙ out in cc

-- and the others are the worker's
its : (h : Record) (j i worker : ℕ) → out_to h i ≡ Some worker → (j == i) ≡ true → out_to h j ≡ Some worker
its h j i worker out is = subst (λ (k : ℕ). out_to h k ≡ Some worker) (sym (eqb-true j i is)) out

made_by : (h : Record) (e : Entry) (i worker : ℕ) → Follows h e → out_to h i ≡ Some worker → is_of i e ≡ true → maker h e ≡ Some worker
made_by h (Install version plan once instances now) i worker follows out is = cc
made_by h (Lease j other now polls) i worker follows out is = absurd (not_unleased h j i worker out is follows.row.unleased)
made_by h (Home j) i worker follows out is = its h j i worker out is
made_by h (Read j stream took) i worker follows out is = its h j i worker out is
made_by h (Idle j failed) i worker follows out is = its h j i worker out is
made_by h (SourceLost j after failed) i worker follows out is = its h j i worker out is
made_by h (Born j b place copies events waits stream end) i worker follows out is = its h j i worker out is
made_by h (Split j ports copies event children) i worker follows out is = absurd (not_unleased h j i worker out is follows.row.split.unleased)
made_by h (Push j t s copies) i worker follows out is = absurd (not_unleased h j i worker out is follows.row.unleased)
made_by h (Take j s copies) i worker follows out is = its h j i worker out is
made_by h (Tick j now) i worker follows out is = its h j i worker out is
made_by h (Answer j outputs discarded kept) i worker follows out is = its h j i worker out is
made_by h (Attempt j copies bytes reply) i worker follows out is = its h j i worker out is
made_by h (Spent j c outcome) i worker follows out is = its h j i worker out is
made_by h (Notice b status) i worker follows out is = cc
made_by h (Confirm j positions made) i worker follows out is = its h j i worker out is
made_by h (Closed j) i worker follows out is = its h j i worker out is
made_by h (Retired j) i worker follows out is = absurd (not_unleased h j i worker out is follows.row.unleased)
made_by h (Abandon cause) i worker follows out is = cc

pub out_made_by : OutMadeBy
out_made_by h e i worker legal out is = made_by h e i worker legal.0 out is

pub others_spare : OthersSpare
others_spare old new i worker out adds =
    adds_narrower (IsByOther worker) (Spares i) (λ h. out_to h i ≡ Some worker) (λ h e follows other was. go h e follows other was (is_of i e) refl) old new adds out
  where
    go : (h : Record) (e : Entry) → Follows h e → IsByOther worker h e → out_to h i ≡ Some worker → (b : Bool) → is_of i e ≡ b → (is_of i e ≡ false) × (out_to (e ∷ h) i ≡ Some worker)
    go h e follows other was true is = absurd (other (made_by h e i worker follows was is))
    go h e follows other was false is = (is, (worker_acts e i).apart is h ∙ was)

pub workers_spare : WorkersSpare
workers_spare old new i worker other differ out adds =
    others_spare old new i worker out
    (adds_wider (IsBy other) (IsByOther worker) (λ h e by is. differ (let same : Some other ≡ Some worker = sym by ∙ is in let inner : other ≡ worker = cc in inner)) old new adds)

pub none_spares : NoneSpares
none_spares old new i worker out adds =
    others_spare old new i worker out
    (adds_wider IsByNone (IsByOther worker) (λ h e none is. let no : None ≡ Some worker = sym none ∙ is in cc) old new adds)

-- an entry of another task isn't of this one
apart : (i j : ℕ) (e : Entry) → j ≢ i → ((k : ℕ) → is_of k e ≡ true → k ≡ j) → (b : Bool) → is_of i e ≡ b → is_of i e ≡ false
apart i j e differ kind true is = absurd (differ (sym (kind i is)))
apart i j e differ kind false is = is

pub tasks_spare : TasksSpare
tasks_spare old new i j differ adds = adds_wider (IsFor j) (Spares i) (λ h e kind. apart i j e differ kind (is_of i e) refl) old new adds

pub taskless_spares : TasklessSpares
taskless_spares old new i adds = adds_wider IsOfNone (Spares i) (λ h e kind. kind i) old new adds

pub spared_stays : SparedStays
spared_stays old new i adds = carry (Spares i) (λ h. mine h i ≡ mine old i) (λ h e follows spares same. others h e i spares ∙ same) old new adds refl

-- what is a task's own stays with its entries
stays : {X : Type 0} (f : Record → ℕ → X) → IsOwn f → (old new : Record) (i : ℕ) → mine new i ≡ mine old i → f new i ≡ f old i
stays f own old new i same = own new i ∙ ap (λ (m : Record). f m i) same ∙ sym (own old i)

pub tasks_out : TasksOut
tasks_out old new i worker legal out adds = record {
  out = stays is_out out_own old new i same;
  worker = stays out_to worker_own old new i same;
  held = held_own new i now ∙ ap (λ (m : Record). at m (Held i)) same ∙ sym (held_own old i legal);
  outputs = outputs_own new i now ∙ ap (λ (m : Record). at m (Outputs i)) same ∙ sym (outputs_own old i legal);
  waiting = λ t. waiting_own t new i now ∙ ap (λ (m : Record). at m (Waiting i t)) same ∙ sym (waiting_own t old i legal);
  taken = λ stream. stays (λ h i. taken h i stream) (taken_own stream) old new i same;
  ended = stays ended_streams ended_own old new i same;
  given = stays given given_own old new i same;
  confirmed = stays confirmed confirmed_own old new i same;
}
  where
    same : mine new i ≡ mine old i
    same = spared_stays old new i (others_spare old new i worker out adds)

    now : IsLegal new
    now = adds_legal (IsByOther worker) old new adds legal
