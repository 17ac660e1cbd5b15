-- What the parts of an attempt count together.
use Rattle.std.proofs.Common.{◌≡◌, ◌∙◌, inl, inr, ◌≤◌, ℕ, Bool, true, false, Some, refl, sym, ap, subst, arith}
use Rattle.std.specs.Prelude.{◌≢◌, not, ◌||◌, Result, Ok, Err, is_ok}
use Rattle.vx_ends.specs.Observation.{Observation, Rose, Happened, Counts, CountsBy, nothing, raised, is_failed, is_refused}
use Rattle.vx_ends.specs.declared.trouble.Trouble.{Trouble}
use Rattle.vx_ends.specs.declared.trouble.Trouble.TheVariants.{Failed, Refused, WantOfMemory}
use Rattle.vx_ends.proofs.Counted.{rose_later}
use Rattle.vx_ends.specs.declared.trouble.Reply.{Reply}
use Rattle.vx_ends.specs.declared.trouble.Reply.TheVariants as reply
use Rattle.vx_sourcecore.specs.declared.source.Turned.{Turned}
use Rattle.vx_sourcecore.specs.declared.source.Turned.TheVariants as turned
use Rattle.vx_sourcecore.specs.Turns.{StartsAtMost, turn_counts}
use Rattle.vx_tasks.specs.declared.landing.Done.{Done}
use Rattle.vx_tasks.specs.declared.landing.Done.TheVariants as done
use Rattle.vx_tasks.specs.declared.task.Role.{Role}
use Rattle.vx_tasks.specs.declared.task.Role.TheVariants as role
use Rattle.vx_tasks.specs.Jobs.{NoneFell, ShowsAlone, ShowsDone, ShowsWork, StartsNone, StartsOnce}
use Rattle.vx_tasks.specs.declared.sending.Attempted.{Attempted}
use Rattle.vx_tasks.specs.Attempts.{RepliesBy, CountsReply, CountsSent, trouble_counts, sent_counts, reply_counts}

-- a count behind one that stayed
counts_after : (e f : Bool) (x y z : ℕ) (b : Bool) → f ≡ e → Counts e x y false → Counts f y z b → Counts e x z b
counts_after e f x y z b same one two = record {
  later = let first = one.later in let second = two.later in omega (arith, first, second);
  rose = λ is. rose_later x y z one.later two.later (two.rose is);
  exactly = λ on. two.exactly (same ∙ on) ∙ ap (λ (n : ℕ). raised n b) (one.exactly on);
}

counts_before : (e f : Bool) (x y z : ℕ) (b : Bool) → f ≡ e → Counts e x y b → Counts f y z false → Counts e x z b
counts_before e f x y z b same one two = record {
  later = let first = one.later in let second = two.later in omega (arith, first, second);
  rose = λ is. rose_on (one.rose is) two.later;
  exactly = λ on. two.exactly (same ∙ on) ∙ one.exactly on;
}
  where
    rose_on : Rose x y → y ≤ z → Rose x z
    rose_on (inl more) less = inl (omega (arith, more, less))
    rose_on (inr last) less = inr last

-- so does what is counted behind nothing, and before nothing
pub behind_nothing : (what : Happened) (old mid new : Observation) → CountsBy nothing old mid → CountsBy what mid new → CountsBy what old new
behind_nothing what old mid new one two = record {
  faults = counts_after old.exact mid.exact old.faults mid.faults new.faults what.failed one.exact one.faults two.faults;
  refusals = counts_after old.exact mid.exact old.refusals mid.refusals new.refusals what.refused one.exact one.refusals two.refusals;
  idles = counts_after old.exact mid.exact old.idles mid.idles new.idles what.idle one.exact one.idles two.idles;
  starts = counts_after old.exact mid.exact old.starts mid.starts new.starts what.started one.exact one.starts two.starts;
  finishes = counts_after old.exact mid.exact old.finishes mid.finishes new.finishes what.finished one.exact one.finishes two.finishes;
  confirms = counts_after old.exact mid.exact old.confirms mid.confirms new.confirms what.confirmed one.exact one.confirms two.confirms;
  exact = two.exact ∙ one.exact;
}

pub before_nothing : (what : Happened) (old mid new : Observation) → CountsBy what old mid → CountsBy nothing mid new → CountsBy what old new
before_nothing what old mid new one two = record {
  faults = counts_before old.exact mid.exact old.faults mid.faults new.faults what.failed one.exact one.faults two.faults;
  refusals = counts_before old.exact mid.exact old.refusals mid.refusals new.refusals what.refused one.exact one.refusals two.refusals;
  idles = counts_before old.exact mid.exact old.idles mid.idles new.idles what.idle one.exact one.idles two.idles;
  starts = counts_before old.exact mid.exact old.starts mid.starts new.starts what.started one.exact one.starts two.starts;
  finishes = counts_before old.exact mid.exact old.finishes mid.finishes new.finishes what.finished one.exact one.finishes two.finishes;
  confirms = counts_before old.exact mid.exact old.confirms mid.confirms new.confirms what.confirmed one.exact one.confirms two.confirms;
  exact = two.exact ∙ one.exact;
}

-- a give had trouble
pub give_counts : (t : Trouble) (old new : Observation) → CountsBy (record nothing { failed = is_failed {T = ℕ} (Err t); refused = is_refused {T = ℕ} (Err t) }) old new → CountsBy (trouble_counts (Some t)) old new
give_counts Failed old new counts = counts
give_counts Refused old new counts = counts
give_counts WantOfMemory old new counts = counts

pub gave_counts : (t : Trouble) (old new : Observation) → CountsBy (trouble_counts (Some t)) old new → CountsBy (sent_counts {T = Unit {0}} (Err t)) old new
gave_counts Failed old new counts = counts
gave_counts Refused old new counts = counts
gave_counts WantOfMemory old new counts = counts

off : (was : Bool) → not was ≡ true → was ≡ false
off true is = cc
off false is = refl

pub sent_behind : (old mid new : Observation) (answer : Result (Unit {0}) Trouble) → CountsBy (record nothing { started = not old.started }) old mid →
    CountsBy (sent_counts answer) mid new → new.started ≡ true → CountsSent answer old new
sent_behind old mid new answer one two ready = record {
  started = not old.started;
  first = off old.started;
  known = λ is. refl;
  ready = λ is. ready;
  counts = record {
    faults = counts_after old.exact mid.exact old.faults mid.faults new.faults (is_failed answer) one.exact one.faults two.faults;
    refusals = counts_after old.exact mid.exact old.refusals mid.refusals new.refusals (is_refused answer) one.exact one.refusals two.refusals;
    idles = counts_after old.exact mid.exact old.idles mid.idles new.idles false one.exact one.idles two.idles;
    starts = counts_before old.exact mid.exact old.starts mid.starts new.starts (not old.started) one.exact one.starts two.starts;
    finishes = counts_after old.exact mid.exact old.finishes mid.finishes new.finishes (is_ok answer) one.exact one.finishes two.finishes;
    confirms = counts_after old.exact mid.exact old.confirms mid.confirms new.confirms false one.exact one.confirms two.confirms;
    exact = two.exact ∙ one.exact;
  };
}

-- no start
pub sent_none : (old new : Observation) (t : Trouble) → ◌≢◌ {A = Result (Unit {0}) Trouble} (Err t) (Err Refused) →
    CountsBy (record nothing { failed = is_failed {T = Unit {0}} (Err t) }) old new → CountsSent (Err t) old new
sent_none old new Failed un counts = record { started = false; first = λ is. cc; known = λ is. cc; ready = λ is. cc; counts = counts }
sent_none old new WantOfMemory un counts = record { started = false; first = λ is. cc; known = λ is. cc; ready = λ is. cc; counts = counts }
sent_none old new Refused un counts = absurd (un refl)

-- what the reply to that says and counts, and what is counted where the port is closed behind it
module _ (old new : Observation) where
  pub ok_caused : CountsSent (Ok tt) old new → RepliesBy old new reply.Ok
  ok_caused is = (is.counts.finishes.rose refl, is.ready refl)

  pub ok_counted : (sent : ℕ) → CountsSent (Ok tt) old new → CountsReply old new (record { sent = sent; reply = reply.Ok })
  ok_counted sent is = record { started = is.started; first = is.first; known = λ other. is.known refl; counts = is.counts }

  pub refused_caused : CountsSent (Err Refused) old new → RepliesBy old new reply.Refused
  refused_caused is = (is.counts.refusals.rose refl, is.ready refl)

  pub refused_counted : (sent : ℕ) → CountsSent (Err Refused) old new → CountsReply old new (record { sent = sent; reply = reply.Refused })
  refused_counted sent is = record { started = is.started; first = is.first; known = λ other. is.known refl; counts = is.counts }

  module _ (mid : Observation) (is : CountsSent (Err Failed) old mid) (closed : CountsBy nothing mid new) where
    pub failed_counted : (sent : ℕ) → CountsReply old new (record { sent = sent; reply = reply.Failed })
    failed_counted sent =
        record { started = is.started; first = is.first; known = λ other. absurd (other refl); counts = before_nothing (reply_counts is.started reply.Failed) old mid new is.counts closed }

    pub failed_caused : new.started ≡ false → RepliesBy old new reply.Failed
    failed_caused off = ((failed_counted 0).counts.faults.rose refl, off)

pub short_counted : (old mid new : Observation) → CountsSent (Err WantOfMemory) old mid → CountsBy nothing mid new → StartsAtMost old new
short_counted old mid new is closed = record { started = is.started; first = is.first; counts = before_nothing (record nothing { started = is.started }) old mid new is.counts closed }

-- A PORT IS STARTED AT MOST ONCE
pub once_most : (old new : Observation) → StartsAtMost old new → StartsOnce old new
once_most old new most = record { started = most.started; first = most.first; starts = most.counts.starts; exact = most.counts.exact }

pub once_none : (old new : Observation) → StartsNone old new → StartsOnce old new
once_none old new none = record { started = false; first = λ is. cc; starts = none.starts; exact = none.exact }

pub none_same : (observed : Observation) → StartsNone observed observed
none_same observed = record { starts = record { later = omega arith; rose = λ is. cc; exactly = λ on. refl }; exact = refl }

pub once_replied : (old new : Observation) (attempted : Attempted) → CountsReply old new attempted → StartsOnce old new
once_replied old new attempted is = record {
  started = is.started;
  first = is.first;
  starts = subst (λ (b : Bool). Counts old.exact old.starts new.starts b) (by attempted.reply) is.counts.starts;
  exact = is.counts.exact;
}
  where
    by : (answer : Reply) → (reply_counts is.started answer).started ≡ is.started
    by reply.Ok = refl
    by reply.Failed = refl
    by reply.Refused = refl

pub once_turned : (old new : Observation) (t : Turned) → CountsBy (turn_counts old.started t) old new → StartsOnce old new
once_turned old new t is = record { started = (turn_counts old.started t).started; first = by old.started t; starts = is.starts; exact = is.exact }
  where
    by : (was : Bool) (t : Turned) → (turn_counts was t).started ≡ true → was ≡ false
    by was (turned.Lines stream n room cut) is = off was is
    by was (turned.StreamEnded stream cut) is = off was is
    by was (turned.AllEnded stream cut) is = off was is
    by was turned.Idle is = off was is
    by was (turned.Failed true) is = cc
    by was (turned.Failed false) is = off was is

-- behind no start
pub once_behind : (old mid new : Observation) → mid.started ≡ old.started → StartsNone old mid → StartsOnce mid new → StartsOnce old new
once_behind old mid new same none once = record {
  started = once.started;
  first = λ is. sym same ∙ once.first is;
  starts = counts_after old.exact mid.exact old.starts mid.starts new.starts once.started none.exact none.starts once.starts;
  exact = once.exact ∙ none.exact;
}

-- WHAT WAS DONE BEHIND A CONFIRM
pub shows_behind : (old mid new : Observation) (d : Done) → NoneFell old mid → NoneFell mid new → mid.started ≡ old.started → ShowsDone mid new d → ShowsDone old new d
shows_behind old mid new done.Nothing fell more same shown = shown ∙ same
shows_behind old mid new (done.Read (turned.Lines stream n room cut)) fell more same shown = shown
shows_behind old mid new (done.Read (turned.StreamEnded stream cut)) fell more same shown = shown
shows_behind old mid new (done.Read (turned.AllEnded stream cut)) fell more same shown = shown
shows_behind old mid new (done.Read turned.Idle) fell more same shown = (rose_later old.idles mid.idles new.idles fell.idles more.idles shown.0, shown.1)
shows_behind old mid new (done.Read (turned.Failed at_start)) fell more same shown =
    (rose_later old.faults mid.faults new.faults fell.faults more.faults shown.0, shown.1, λ is. sym same ∙ shown.2 is)
shows_behind old mid new (done.Attempted all sent reply.Ok) fell more same shown = (rose_later old.finishes mid.finishes new.finishes fell.finishes more.finishes shown.0, shown.1)
shows_behind old mid new (done.Attempted all sent reply.Failed) fell more same shown = (rose_later old.faults mid.faults new.faults fell.faults more.faults shown.0, shown.1)
shows_behind old mid new (done.Attempted all sent reply.Refused) fell more same shown = (rose_later old.refusals mid.refusals new.refusals fell.refusals more.refusals shown.0, shown.1)
shows_behind old mid new (done.Judged ports) fell more same shown = shown ∙ same
shows_behind old mid new done.Closed fell more same shown = shown
shows_behind old mid new done.OutOfMemory fell more same shown = tt
shows_behind old mid new done.Starved fell more same shown = shown

-- so it is of an instance without a port
alone_behind : (old mid new : Observation) (d : Done) → mid.started ≡ old.started → ShowsAlone mid new d → ShowsAlone old new d
alone_behind old mid new done.Closed same shown = shown
alone_behind old mid new other same shown = shown ∙ same

pub work_behind : (r : Role) (old mid new : Observation) (d : Done) → NoneFell old mid → NoneFell mid new → mid.started ≡ old.started → ShowsWork r mid new d → ShowsWork r old new d
work_behind (role.Source core) old mid new d fell more same shown = shows_behind old mid new d fell more same shown
work_behind (role.Generator generator) old mid new d fell more same shown = alone_behind old mid new d same shown
work_behind (role.Sink codec) old mid new d fell more same shown = shows_behind old mid new d fell more same shown
work_behind role.Blackhole old mid new d fell more same shown = alone_behind old mid new d same shown
work_behind (role.Transform picker) old mid new d fell more same shown = shows_behind old mid new d fell more same shown
work_behind role.Merge old mid new d fell more same shown = shows_behind old mid new d fell more same shown
work_behind role.Unfit old mid new d fell more same shown = shows_behind old mid new d fell more same shown

-- and where no memory was found before
pub work_out_of_memory : (r : Role) (old new : Observation) → new.started ≡ old.started → ShowsWork r old new done.OutOfMemory
work_out_of_memory (role.Source core) old new same = tt
work_out_of_memory (role.Generator generator) old new same = same
work_out_of_memory (role.Sink codec) old new same = tt
work_out_of_memory role.Blackhole old new same = same
work_out_of_memory (role.Transform picker) old new same = tt
work_out_of_memory role.Merge old new same = tt
work_out_of_memory role.Unfit old new same = tt
