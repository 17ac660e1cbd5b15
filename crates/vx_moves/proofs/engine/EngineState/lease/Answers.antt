use Rattle.std.proofs.Common.{◌≡◌, ◌<◌, ◌∷◌, ℕ, zero, suc, true, false, List, [], Option, Some, None, IfSome, IsSome, length, arith, refl, sym, ◌∙◌}
use Rattle.std.specs.Prelude.{slice_get}
use Rattle.vx_ends.specs.Observation.{Observation}
use Rattle.vx_record.specs.declared.entry.Entry.TheVariants.{Lease}
use Rattle.vx_record.specs.Records.{Record}
use Rattle.vx_record.specs.Turns.{is_out}
use Rattle.vx_balance.proofs.Steps.{aside_kept}
use Rattle.vx_counts.proofs.Begun.{begun_stays}
use Rattle.vx_tasks.specs.declared.task.Task.{Task}
use Rattle.vx_record.specs.Ceasing.{cause_of}
use Rattle.vx_tasks.specs.Unleased.{HasKept, IsTaskOf}
use Rattle.vx_tasks.proofs.Answered.{stands_on}
use Rattle.vx_instances.specs.declared.state.InstanceState.{InstanceState}
use Rattle.vx_instances.specs.Knowing.{HasUnleasedTask, IsKnown}
use Rattle.vx_instances.proofs.Progressing.{going_on}
use Rattle.vx_instances.proofs.Observing.{observed_mute, come_mute}
use Rattle.vx_moves.specs.Stands.{Steps}
use Rattle.vx_tasks.specs.Joining.{joins_at}
use Rattle.vx_moves.proofs.Stepping.{keeps_behind, lease_kept, lease_later, never_both, still, step}
use Rattle.vx_moves.proofs.engine.EngineState.lease.Goals as goal

there : {X : Type 0} (xs : List X) (i : ℕ) → i < length xs → IsSome (slice_get xs i)
there [] i within = absurd (omega arith)
there (x ∷ xs) zero within = refl
there (x ∷ xs) (suc i) within = there xs i (omega arith)

-- what was unleased is as the record has it, where the port never gave more; behind the lease too
lent_unleased : {P : Type 0} (observe : P → Observation) (o : Option (InstanceState P)) (h : Record) (i worker now : ℕ) (task : Task P) → IsSome o →
    IfSome o (λ state. HasUnleasedTask observe state.facts h i task) →
    IfSome o (λ state. state.facts.starved ≡ false) → IsTaskOf observe (Lease i worker now 0 ∷ h) i task
lent_unleased observe None h i worker now task some had fed = absurd cc
lent_unleased observe (Some state) h i worker now task some had fed =
    let unleased = rw fed at had.task_is in
    record { observed = observed_mute (observe task.port) h (Lease i worker now 0) i tt unleased.observed; come = come_mute task.role h (Lease i worker now 0) i tt unleased.come }

-- and what it keeps stands for what it answered
lent_kept : {P : Type 0} (observe : P → Observation) (o : Option (InstanceState P)) (h : Record) (i worker now : ℕ) (task : Task P) → IsSome o →
    IfSome o (λ state. HasUnleasedTask observe state.facts h i task) →
    IfSome o (λ state. state.facts.owing ≡ false) → cause_of h ≡ None → HasKept (Lease i worker now 0 ∷ h) i task.role
lent_kept observe None h i worker now task some had settled going = absurd cc
lent_kept observe (Some state) h i worker now task some had settled going =
    stands_on task.role h (Lease i worker now 0) i tt (had.kept settled going)

-- who isn't out is unleased
nobody : {P : Type 0} (observe : P → Observation) (o : Option (InstanceState P)) (h : Record) (i : ℕ) → IsSome o →
    IfSome o (λ state. IsKnown observe state h i) → IfSome o (λ state. state.task ≡ None) →
    is_out h i ≡ true
nobody observe None h i some known none = cc
nobody observe (Some state) h i some known none = rw none at known.away

pub returns : goal.returns
returns g c =
    let d = c.args.self.now in
    let s = c.requires.stands in
    let run = s.run in
    let gave = c.in-Some.ensures in
    let i = c.args.i in
    let worker = c.args.worker in
    let now = c.args.now in
    let new = record d { states = c.leave.new.self; run = record d.run { latest = now }; log = c.note.new.self } in
    let steps : Steps g.P.Port.observed (Lease i worker now 0) d new = step s c.requires.may (never_both c.requires.going) c.note.ensures (λ legal. record {
      places = still (Lease i worker now 0) d.places d.log tt legal s.places;
      run = record {
        installed = run.installed;
        cause = run.cause;
        later = λ other. lease_later d.log i worker now d.run.latest other (run.later other) c.requires.latest;
        judging = run.judging;
        returned = run.returned;
      };
      kept = lease_kept d.places d.log i worker now s.kept;
      capacities = assumption s.capacities;
      keepers = assumption s.keepers;
      begun = begun_stays (joins_at d.log) (Lease i worker now 0) d.log legal tt s.begun;
    }) (keeps_behind s (Lease i worker now 0) (λ j joins. tt)) (gave.knows d.log worker 0 s.states) (λ _. aside_kept d.balance d.log (Lease i worker now 0) tt s.balance) refl c.leave.ensures.size in
    record {
      lent = record {
        steps = steps;
        unleased = rw c.note.ensures (lent_unleased g.P.Port.observed (slice_get d.states i) d.log i worker now c.in-Some.task
            (there d.states i c.requires.within) (gave.unleased d.log s.states) c.requires.fit.fed);
        kept = rw c.note.ensures (lent_kept g.P.Port.observed (slice_get d.states i) d.log i worker now c.in-Some.task
            (there d.states i c.requires.within) (gave.unleased d.log s.states) c.requires.fit.settled (going_on d.log (λ over. sym c.requires.going ∙ over)));
        due = rw c.note.ensures (gave.due d.log worker 0 c.requires.fit.settled s.states (steps.follows, s.legal));
        states = gave.left;
        capacities = λ j. (refl, refl);
        run = refl;
      };
    }

pub unreachable-requires : goal.unreachable-requires
unreachable-requires g c =
    let d = c.args.self.now in
    let states = c.requires.stands.states in
    never_both c.requires.may.unleased
    (nobody g.P.Port.observed (slice_get d.states c.args.i) d.log c.args.i (there d.states c.args.i c.requires.within) (states.each c.args.i) c.in_default.ensures.nobody)
