use Rattle.std.proofs.Common.{refl}
use Rattle.vx_record.specs.declared.entry.Entry.TheVariants.{Abandon}
use Rattle.vx_balance.proofs.Steps.{aside_kept}
use Rattle.vx_counts.proofs.Begun.{begun_stays}
use Rattle.vx_instances.proofs.Aside.{aside_known}
use Rattle.vx_tasks.specs.Joining.{joins_at}
use Rattle.vx_moves.proofs.Stepping.{keeps_behind, never_both, still, step}
use Rattle.vx_moves.proofs.engine.EngineState.abandon.Goals as goal

pub returns-clause-steps : goal.returns-clause-steps
returns-clause-steps g c =
    let d = c.args.self.now in
    let s = c.requires.stands in
    let e = Abandon c.args.cause in
    step s c.requires.may (never_both c.requires.may.first) c.note.ensures (λ legal. record {
      places = still e d.places d.log tt legal s.places;
      run = record { installed = s.run.installed; cause = refl; later = s.run.later; judging = s.run.judging; returned = s.run.returned };
      kept = s.kept;
      capacities = assumption s.capacities;
      keepers = assumption s.keepers;
      begun = begun_stays (joins_at d.log) e d.log legal tt s.begun;
    }) (keeps_behind s e (λ j joins. tt)) (λ legal. aside_known g.P.Port.observed e d.log d.states tt legal s.states) (λ _. aside_kept d.balance d.log e tt s.balance) refl refl
