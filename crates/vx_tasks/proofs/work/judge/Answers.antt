use Rattle.std.proofs.Common.{◌++◌, List, sym, subst}
use Rattle.vx_value.specs.declared.event.Event.{Event}
use Rattle.vx_pick.specs.Picks.{StandsFor}
use Rattle.vx_record.specs.Transforms.{answered_events}
use Rattle.vx_tasks.specs.declared.landing.Done.{Done}
use Rattle.vx_tasks.specs.declared.task.Role.TheVariants.{Transform}
use Rattle.vx_tasks.specs.Unleased.{HasCome}
use Rattle.vx_tasks.specs.Jobs.{KeepsRole}
use Rattle.vx_tasks.specs.Out.{ReportsDone, HasActed}
use Rattle.vx_tasks.proofs.Judging.{all_judged, held_meant, come_on, held_said}
use Rattle.vx_tasks.proofs.work.judge.Goals as goal
use Rattle.vx_tasks.proofs.work.judge.Goals.{in-Ok, in-Err}

pub returns-clause-observed : goal.returns-clause-observed
returns-clause-observed c observed h i is = elim c.match-judge_all.branch [
  | in-Ok w ↦ subst (λ (d : Done). ReportsDone observed h i c.args.held.now.items d) (sym w.done-is) is
  | in-Err w ↦ subst (λ (d : Done). ReportsDone observed h i c.args.held.now.items d) (sym w.done-is) is
]

pub returns-clause-keeps : goal.returns-clause-keeps
returns-clause-keeps c = elim c.match-judge_all.branch [
  | in-Ok w ↦ subst (λ (d : Done). KeepsRole (Transform c.args.picker) (Transform c.judge_all.new.picker) d) (sym w.done-is) (c.judge_all.ensures.picks, tt)
  | in-Err w ↦ subst (λ (d : Done). KeepsRole (Transform c.args.picker) (Transform c.judge_all.new.picker) d) (sym w.done-is) (c.judge_all.ensures.picks, tt)
]

pub returns-clause-acted : goal.returns-clause-acted
returns-clause-acted c observed h i may =
    let come : HasCome h i (Transform c.judge_all.new.picker) = come_on h i c.args.picker c.judge_all.new.picker c.judge_all.ensures.picks may.come in
    elim c.match-judge_all.branch [
      | in-Ok w ↦ subst (λ (d : Done). HasActed observed h i (Transform c.judge_all.new.picker) d) (sym w.done-is) (record {
        may = may.given;
        come = come;
        judged = all_judged h i c.args.picker c.args.held.now.items w.in-Ok.ports may.come may.kept may.held w.in-Ok.ensures.ports;
        kept = subst (λ (es : List Event). StandsFor c.judge_all.new.picker (answered_events h i ++ es)) (held_said h i c.args.held.now.items may.held)
            (w.in-Ok.ensures.stands (answered_events h i) may.kept);
        meant = held_meant h i c.args.picker c.args.held.now.items may.come may.held w.in-Ok.ensures.meant;
      })
      | in-Err w ↦ subst (λ (d : Done). HasActed observed h i (Transform c.judge_all.new.picker) d) (sym w.done-is) come
    ]
