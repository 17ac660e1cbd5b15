use Rattle.std.proofs.Common.{refl}
use Rattle.vx_record.specs.declared.entry.Entry.TheVariants.{Home}
use Rattle.vx_balance.proofs.Steps.{aside_kept}
use Rattle.vx_counts.proofs.Begun.{begun_stays}
use Rattle.vx_tasks.specs.Joining.{joins_at}
use Rattle.vx_moves.proofs.Stepping.{keeps_behind, unleased_kept, still, step}
use Rattle.vx_moves.proofs.engine.EngineState.return_task.Goals as goal

pub returns-clause-steps : goal.returns-clause-steps
returns-clause-steps g c =
    let d = c.args.self.now in
    let s = c.requires.stands in
    let e = Home c.args.i in
    step s (record { out = c.requires.out }) c.requires.left c.note.ensures (λ legal. record {
      places = still e d.places d.log tt legal s.places;
      run = record {
        installed = s.run.installed;
        cause = s.run.cause;
        later = s.run.later;
        judging = s.run.judging;
        returned = λ fed. (c.requires.returned fed, s.run.returned fed);
      };
      kept = unleased_kept d.places d.log c.args.i s.kept c.requires.kept;
      capacities = assumption s.capacities;
      keepers = assumption s.keepers;
      begun = begun_stays (joins_at d.log) e d.log legal tt s.begun;
    }) (keeps_behind s e (λ j joins. tt)) (c.arrive.ensures.knows d.log c.requires.back s.states) (λ _. aside_kept d.balance d.log e tt s.balance) refl c.arrive.ensures.size
