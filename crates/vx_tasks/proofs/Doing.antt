-- A task that was done comes back as its record will have it.
use Rattle.std.proofs.Common.{◌≡◌, ℕ, false, List, ◌++◌, Option, Some, None, IfSome, refl, sym, ap, subst, ◌∙◌}
use Rattle.std.specs.Prelude.{◌&&◌, not, is_some}
use Rattle.std.proofs.lemmas.List.{append-nil}
use Rattle.vx_ends.specs.Observation.{Observation}
use Rattle.vx_record.specs.Records.{Record}
use Rattle.vx_record.specs.Legal.{IsLegal}
use Rattle.vx_record.specs.Installs.{source_at, device_at}
use Rattle.vx_record.specs.Reads.{all_ended, is_lost, ended_streams}
use Rattle.vx_record.specs.Encoding.{given, encoded}
use Rattle.vx_record.specs.Places.Place.{Held}
use Rattle.vx_record.specs.Shifts.{at}
use Rattle.vx_record.specs.Routing.{drains, is_out_from_before}
use Rattle.vx_record.specs.Tasks.{out_to}
use Rattle.vx_record.proofs.TasksOut.{out_to_worker}
use Rattle.vx_record.proofs.Turning.{turn_undry, unended}
use Rattle.vx_tasks.specs.declared.confirming.Confirmed.{Confirmed}
use Rattle.vx_tasks.specs.declared.landing.Done.{Done}
use Rattle.vx_tasks.specs.declared.landing.Done.TheVariants.{OutOfMemory, Starved}
use Rattle.vx_tasks.specs.declared.landing.Done.TheVariants as done
use Rattle.vx_tasks.specs.declared.landing.Landing.{Landing}
use Rattle.vx_tasks.specs.declared.task.Role.{Role}
use Rattle.vx_tasks.specs.declared.task.Role.TheVariants as role
use Rattle.vx_pick.specs.Picks.{StandsFor}
use Rattle.vx_pick.specs.declared.picker.Picker.{Picker}
use Rattle.vx_record.specs.Transforms.{answered_events}
use Rattle.vx_tasks.specs.Jobs.{DoesJob, IsPortedAs, KeepsRole}
use Rattle.vx_tasks.proofs.Alone.{come_ported}
use Rattle.vx_tasks.proofs.Judges.{no_source, no_generator, no_sink, no_blackhole}
use Rattle.vx_tasks.specs.Unleased.{HasCome, HasKept}
use Rattle.vx_record.specs.Owing.{owes_answer}
use Rattle.vx_tasks.specs.declared.work.Job.{Job}
use Rattle.vx_tasks.specs.declared.work.Job.TheVariants as job
use Rattle.vx_tasks.specs.declared.work.Work.{Work}
use Rattle.vx_tasks.specs.Observing.{IsObserved, GoesBeyond, IsObservedBeyond}
use Rattle.vx_tasks.specs.Laws.{StarvedBeyond}
use Rattle.vx_tasks.specs.Doing.{MayAct}
use Rattle.vx_tasks.specs.Out.{IsIdle, MayReadNow, IsGiven, AreDue, HasLeft, confirm_entries, IsConfirmedSo, ReportsDone, HasActed, IsKeptBy, is_unfit, leaves_unfit, leaves_taken, HasDone}

-- a source that isn't dry wasn't told the end of all
read_unended : (h : Record) (i worker : ℕ) → IsLegal h → out_to h i ≡ Some worker → IsIdle h i → MayReadNow h i → all_ended h i ≡ false
read_unended h i worker legal out idle may =
    unended (source_at h i) (all_ended h i) (is_lost h i) (drains h i && not (is_out_from_before h i)) may.source
    (turn_undry h i legal (record { source = may.source; out = out_to_worker h i ∙ ap is_some out; readable = may.readable; once = idle.no_turn }))

reads_unended : (h : Record) (i worker : ℕ) (wanted : Job) → IsLegal h → out_to h i ≡ Some worker → IsIdle h i → IsGiven h i wanted → wanted ≡ job.Read → all_ended h i ≡ false
reads_unended h i worker job.Read legal out idle given is = read_unended h i worker legal out idle given
reads_unended h i worker job.Confirm legal out idle given is = cc
reads_unended h i worker job.Collect legal out idle given is = cc
reads_unended h i worker job.Attempt legal out idle given is = cc
reads_unended h i worker job.Close legal out idle given is = cc
reads_unended h i worker job.Judge legal out idle given is = cc

-- a confirm ends no stream
ended_behind : (h : Record) (i : ℕ) (confirmed : Option Confirmed) → ended_streams (confirm_entries i confirmed ++ h) i ≡ ended_streams h i
ended_behind h i None = refl
ended_behind h i (Some c) = append-nil (ended_streams h i)

-- nor gives it anything
given_behind : (h : Record) (i : ℕ) (confirmed : Option Confirmed) → given (confirm_entries i confirmed ++ h) i ≡ given h i
given_behind h i None = refl
given_behind h i (Some c) = append-nil (given h i)

-- nor changes what it works with
ported_behind : (h : Record) (i : ℕ) (confirmed : Option Confirmed) (r : Role) → IsPortedAs (device_at h i) r → IsPortedAs (device_at (confirm_entries i confirmed ++ h) i) r
ported_behind h i None r is = is
ported_behind h i (Some c) r is = is

-- a task as it comes back
abbrev pub landed : {P : Type 0} → Work P → P → Role → Option Confirmed → Done → Landing P
landed work port role confirmed done =
    record { instance = work.instance; worker = work.worker; task = record { port = port; role = role }; held = work.held; confirmed = confirmed; done = done }

-- what an instance does stays of use, but where what it read wasn't cut
fit_of : (observed : Observation) (h : Record) (i : ℕ) (was now : Role) (d : Done) → is_unfit was ≡ false → KeepsRole was now d → HasActed observed h i now d → is_unfit now ≡ leaves_unfit d
fit_of observed h i was now (done.Read turned) fit keeps acted = acted.fit
fit_of observed h i role.Merge now d fit keeps acted = cc
fit_of observed h i role.Unfit now d fit keeps acted = cc
fit_of observed h i (role.Source core) (role.Source next) d fit keeps acted = refl
fit_of observed h i (role.Generator generator) (role.Generator next) d fit keeps acted = refl
fit_of observed h i (role.Sink codec) (role.Sink writes) d fit keeps acted = refl
fit_of observed h i role.Blackhole role.Blackhole d fit keeps acted = refl
fit_of observed h i (role.Transform picker) (role.Transform next) d fit keeps acted = refl
fit_of observed h i was now d fit keeps acted = absurd keeps

-- what an instance took it has answered, unless it was judged, or no memory was found
untaken_of : (h : Record) (i : ℕ) (wanted : Job) (does : Role) (d : Done) → IsLegal h → IsGiven h i wanted → HasCome h i does → is_unfit does ≡ false →
    ((wanted ≡ job.Judge → ⊥) → owes_answer h i ≡ false) → DoesJob wanted does d → leaves_taken d ≡ false → owes_answer h i ≡ false
untaken_of h i job.Judge (role.Source core) d legal given come fit was does left = absurd (no_source h i legal given.transform core come)
untaken_of h i job.Judge (role.Generator generator) d legal given come fit was does left = absurd (no_generator h i legal given.transform generator come)
untaken_of h i job.Judge role.Blackhole d legal given come fit was does left = absurd (no_blackhole h i legal given.transform come)
untaken_of h i job.Judge (role.Sink codec) d legal given come fit was does left = absurd (no_sink h i legal given.transform codec come)
untaken_of h i job.Judge (role.Transform picker) (done.Judged ports) legal given come fit was does left = cc
untaken_of h i job.Judge (role.Transform picker) done.OutOfMemory legal given come fit was does left = cc
untaken_of h i job.Judge (role.Transform picker) other legal given come fit was does left = absurd does
untaken_of h i job.Judge role.Merge d legal given come fit was does left = cc
untaken_of h i job.Judge role.Unfit d legal given come fit was does left = cc
untaken_of h i job.Read r d legal given come fit was does left = was (λ is. cc)
untaken_of h i job.Confirm r d legal given come fit was does left = was (λ is. cc)
untaken_of h i job.Collect r d legal given come fit was does left = was (λ is. cc)
untaken_of h i job.Attempt r d legal given come fit was does left = was (λ is. cc)
untaken_of h i job.Close r d legal given come fit was does left = was (λ is. cc)

-- who isn't changed keeps what it kept, and who keeps nothing does
kept_still : (h : Record) (i : ℕ) (was now : Role) (d : Done) → KeepsRole was now d →
    ((picker next : Picker) → KeepsRole (role.Transform picker) (role.Transform next) d → next ≡ picker) → HasKept h i was → HasKept h i now
kept_still h i was (role.Source core) d keeps same kept = tt
kept_still h i was (role.Generator generator) d keeps same kept = tt
kept_still h i was (role.Sink codec) d keeps same kept = tt
kept_still h i was role.Blackhole d keeps same kept = tt
kept_still h i was role.Merge d keeps same kept = tt
kept_still h i was role.Unfit d keeps same kept = tt
kept_still h i (role.Transform picker) (role.Transform next) d keeps same kept =
    subst (λ (p : Picker). StandsFor p (answered_events h i)) (sym (same picker next keeps)) kept
kept_still h i (role.Source core) (role.Transform next) d keeps same kept = absurd keeps
kept_still h i (role.Generator generator) (role.Transform next) d keeps same kept = absurd keeps
kept_still h i (role.Sink codec) (role.Transform next) d keeps same kept = absurd keeps
kept_still h i role.Blackhole (role.Transform next) d keeps same kept = absurd keeps
kept_still h i role.Merge (role.Transform next) d keeps same kept = absurd keeps
kept_still h i role.Unfit (role.Transform next) d keeps same kept = absurd keeps

-- what it keeps stands for what it has answered, unless it judged, or no memory was found
kept_of : (h : Record) (i : ℕ) (was now : Role) (d : Done) → KeepsRole was now d → HasKept h i was → IsKeptBy h i now d
kept_of h i was now (done.Judged ports) keeps kept = tt
kept_of h i was now done.OutOfMemory keeps kept = tt
kept_of h i was now done.Nothing keeps kept = kept_still h i was now done.Nothing keeps (λ picker next same. same.1) kept
kept_of h i was now (done.Read turned) keeps kept = kept_still h i was now (done.Read turned) keeps (λ picker next same. same.1) kept
kept_of h i was now (done.Attempted all sent answer) keeps kept = kept_still h i was now (done.Attempted all sent answer) keeps (λ picker next same. same.1) kept
kept_of h i was now done.Closed keeps kept = kept_still h i was now done.Closed keeps (λ picker next same. same.1) kept
kept_of h i was now done.Starved keeps kept = kept_still h i was now done.Starved keeps (λ picker next same. same.1) kept

module _ {P : Type 0} (observe : P → Observation) (h : Record) (work : Work P) (legal : IsLegal h) (left : HasLeft observe h work) where
  -- what was confirmed, and then done
  pub done_of : (mid port : P) (role : Role) (confirmed : Option Confirmed) (done : Done) →
      ((k : Record) (i : ℕ) → IsObserved (observe work.task.port) k i → IsObserved (observe mid) (confirm_entries i confirmed ++ k) i) →
      ((k : Record) (i : ℕ) (d : Done) → AreDue k i work.positions → IsConfirmedSo k i d confirmed) →
      ((k : Record) (i : ℕ) → IsPortedAs (device_at k i) work.task.role → IsObserved (observe mid) k i → ReportsDone (observe port) k i work.held.items done) →
      ((k : Record) (i : ℕ) → MayAct (observe mid) k i work.task.role work.held.items work.job → HasActed (observe port) k i role done) →
      DoesJob work.job work.task.role done →
      KeepsRole work.task.role role done →
      HasDone observe h (landed work port role confirmed done)
  done_of mid port role confirmed done confirms due reports acts does keeps =
      let observed = confirms h work.instance left.unleased.observed in
      let acted : HasActed (observe port) h work.instance role done = acts h work.instance (record {
        given = left.job;
        come = left.unleased.come;
        kept = left.kept;
        held = left.held;
        ended = observed.ended ∙ ended_behind h work.instance confirmed;
        wrote = subst (λ (w : List ℕ). IfSome (observe mid).given (λ bytes. bytes ≡ w)) (given_behind h work.instance confirmed) observed.given;
        unended = reads_unended h work.instance work.worker work.job legal left.out left.idle left.job;
      }) in
      record {
        out = left.out;
        idle = left.idle;
        held = left.held;
        confirmed = due h work.instance done left.asked;
        observed = reports (confirm_entries work.instance confirmed ++ h) work.instance
            (ported_behind h work.instance confirmed work.task.role (come_ported h work.instance work.task.role left.unleased.come)) observed;
        acted = acted;
        kept = kept_of h work.instance work.task.role role done keeps left.kept;
        settled = left.settled;
        untaken = untaken_of h work.instance work.job work.task.role done legal left.job left.unleased.come left.fit left.untaken does;
        fit = fit_of (observe port) h work.instance work.task.role role done left.fit keeps acted;
        alone = left.alone;
      }

  -- no memory was found to confirm
  pub short_of : (port : P) → ((k : Record) (i : ℕ) → IsObserved (observe work.task.port) k i → IsObserved (observe port) k i) →
      HasDone observe h (landed work port work.task.role None OutOfMemory)
  short_of port same = record {
    out = left.out;
    idle = left.idle;
    held = left.held;
    confirmed = tt;
    observed = same h work.instance left.unleased.observed;
    acted = left.unleased.come;
    kept = tt;
    settled = left.settled;
    untaken = λ is. cc;
    fit = left.fit;
    alone = left.alone;
  }

-- where the attempt starved the port goes beyond the record
pub starved_beyond : {P : Type 0} (observe : P → Observation) → StarvedBeyond observe
starved_beyond observe h landing back starved = go landing.done starved back.observed back.acted
  where
    port : Observation
    port = observe landing.task.port

    go : (d : Done) → d ≡ Starved → ReportsDone port (confirm_entries landing.instance landing.confirmed ++ h) landing.instance landing.held.items d → HasActed port h landing.instance landing.task.role d →
        IsObservedBeyond port (confirm_entries landing.instance landing.confirmed ++ h) landing.instance (encoded h landing.instance (at h (Held landing.instance)))
    go Starved is observed acted = record {
      rest = observed;
      beyond = subst (λ (w : List ℕ). GoesBeyond port.given w (encoded h landing.instance (at h (Held landing.instance)))) (sym (given_behind h landing.instance landing.confirmed)) acted.beyond;
    }
    go d is observed acted = cc
