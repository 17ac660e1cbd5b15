use Rattle.std.proofs.Common.{sym, subst, Option, None, inl, inr, refl}
use Rattle.std.specs.Prelude.{◌⊎◌}
use Rattle.vx_tasks.specs.Out.{HasDone}
use Rattle.vx_tasks.specs.Jobs.{DoesJob, LacksConfirm, ShowsWork}
use Rattle.vx_tasks.specs.declared.confirming.Confirmed.{Confirmed}
use Rattle.vx_tasks.specs.declared.landing.Done.TheVariants.{OutOfMemory}
use Rattle.vx_tasks.specs.declared.work.WorkResult.{WorkResult}
use Rattle.vx_tasks.proofs.Tallying.{work_behind, work_out_of_memory}
use Rattle.vx_tasks.proofs.Doing.{landed, done_of, short_of}
use Rattle.vx_tasks.proofs.work.Work.work.Goals as goal
use Rattle.vx_tasks.proofs.work.Work.work.Goals.{in-Ok, in-Err}

pub returns-clause-done : goal.returns-clause-done
returns-clause-done g c h legal left =
    let observed = g.P.Port.observed in
    let work = c.args.self in
    elim c.match-confirm.branch [
      | in-Ok w ↦
          subst (λ (both : Option Confirmed × WorkResult). HasDone observed h (landed work c.match-confirm.port both.1.role both.0 both.1.done)) (sym w.confirmed-is)
          (subst (λ (port : g.row.P.Denot). HasDone observed h (landed work port w.act.result.role w.in-Ok.confirmed w.act.result.done)) (sym w.port-is)
          (done_of observed h work legal left c.confirm.new.port w.act.new.port w.act.result.role w.in-Ok.confirmed w.act.result.done w.in-Ok.ensures.observed w.in-Ok.ensures.due w.act.ensures.observed w.act.ensures.acted w.act.ensures.does w.act.ensures.keeps))
      | in-Err w ↦
          subst (λ (both : Option Confirmed × WorkResult). HasDone observed h (landed work c.match-confirm.port both.1.role both.0 both.1.done)) (sym w.confirmed-is)
          (subst (λ (port : g.row.P.Denot). HasDone observed h (landed work port work.task.role None OutOfMemory)) (sym w.port-is)
          (short_of observed h work legal left c.confirm.new.port w.in-Err.ensures.short))
    ]

pub returns-clause-does : goal.returns-clause-does
returns-clause-does g c =
    let work = c.args.self in
    elim c.match-confirm.branch [
      | in-Ok w ↦ subst (λ (both : Option Confirmed × WorkResult). DoesJob work.job work.task.role both.1.done ⊎ LacksConfirm work.positions both.0 both.1.done) (sym w.confirmed-is) (inl w.act.ensures.does)
      | in-Err w ↦ subst (λ (both : Option Confirmed × WorkResult). DoesJob work.job work.task.role both.1.done ⊎ LacksConfirm work.positions both.0 both.1.done) (sym w.confirmed-is) (inr (w.in-Err.ensures.asked, refl, refl))
    ]

pub returns-clause-shows : goal.returns-clause-shows
returns-clause-shows g c =
    let observed = g.P.Port.observed in
    let role = c.args.self.task.role in
    let old = observed c.args.self.task.port in
    elim c.match-confirm.branch [
      | in-Ok w ↦
          subst (λ (both : Option Confirmed × WorkResult). ShowsWork role old (observed c.match-confirm.port) both.1.done) (sym w.confirmed-is)
          (subst (λ (port : g.row.P.Denot). ShowsWork role old (observed port) w.act.result.done) (sym w.port-is)
          (work_behind role old (observed c.confirm.new.port) (observed w.act.new.port) w.act.result.done c.confirm.ensures.counts w.act.ensures.counts c.confirm.ensures.started w.act.ensures.shows))
      | in-Err w ↦
          subst (λ (both : Option Confirmed × WorkResult). ShowsWork role old (observed c.match-confirm.port) both.1.done) (sym w.confirmed-is)
          (subst (λ (port : g.row.P.Denot). ShowsWork role old (observed port) OutOfMemory) (sym w.port-is) (work_out_of_memory role old (observed c.confirm.new.port) c.confirm.ensures.started))
    ]
