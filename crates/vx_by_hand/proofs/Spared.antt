-- A task that is out stays as it is while others go on.
use Rattle.std.proofs.Common.{◌≡◌, ◌≢◌, ◌∙◌, ℕ, ◌∷◌, Bool, true, false, length, Option, Some, None, IsSome, ◌<◌, refl, sym, ap, subst, arith}
use Rattle.std.specs.Prelude.{is_some, ◌==◌}
use Rattle.std.proofs.lemmas.Bool.{eqb-true}
use Rattle.std.proofs.lemmas.Bool.Decides.{nat_tests}
use Rattle.vx_ends.specs.Observation.{Observation}
use Rattle.vx_plan.specs.declared.component.Component.{Component}
use Rattle.vx_plan.specs.Components.{is_sink, batch_max_events}
use Rattle.vx_record.specs.declared.abandon_cause.AbandonCause.{AbandonCause}
use Rattle.vx_record.specs.declared.entry.Entry.{Entry}
use Rattle.vx_record.specs.declared.entry.Entry.TheVariants.{Split, Push, Spent, Notice, Closed, Abandon}
use Rattle.vx_record.specs.Additions.{OnlyAdds}
use Rattle.vx_record.specs.Installs.{component_of, sink_at}
use Rattle.vx_record.specs.Legal.{Follows}
use Rattle.vx_record.specs.Makers.{IsBy, IsFor, Spares}
use Rattle.vx_record.specs.Records.{Record}
use Rattle.vx_record.specs.Tasks.{out_to}
use Rattle.vx_record.specs.Turns.{is_out}
use Rattle.vx_record.proofs.Adding.{adds_none, adds_both, adds_narrower, adds_wider}
use Rattle.vx_record.proofs.OwnTurns.{worker_own}
use Rattle.vx_record.proofs.TasksOut.{out_to_worker, workers_spare, tasks_spare, spared_stays}
use Rattle.vx_record.proofs.Wired.{component_in_place}
use Rattle.vx_moves.specs.Capacities.{IsHeldLimitOf, held_limit_of}
use Rattle.vx_tasks.specs.declared.landing.Landing.{Landing}
use Rattle.vx_tasks.specs.declared.work.Work.{Work}
use Rattle.vx_tasks.proofs.Kept.{left_kept, done_kept}
use Rattle.vx_hub.specs.declared.hub.Hub.{Hub}
use Rattle.vx_hub.specs.Ending.{GivesUp}
use Rattle.vx_hub.specs.Pushing.{IsMoveOf}
use Rattle.vx_hub.specs.Standing.{IsHub, IsSameRun}
use Rattle.vx_hub.proofs.Running.{run_stays}
use Rattle.vx_run.proofs.Going.{on_wider}
use Rattle.vx_by_hand.specs.ByHand.{IsAway, IsBack, SparesEach, SparesOthers}

-- what spares a task leaves it to its worker
out_stays : (old new : Record) (i : ℕ) → OnlyAdds (Spares i) old new → out_to new i ≡ out_to old i
out_stays old new i adds = worker_own new i ∙ ap (λ (m : Record). out_to m i) (spared_stays old new i adds) ∙ sym (worker_own old i)

pub each_both : (old mid new : Record) → SparesEach old mid → SparesEach mid new → SparesEach old new
each_both old mid new first later i worker out =
    let spared = first i worker out in adds_both (Spares i) old mid new spared (later i worker (out_stays old mid i spared ∙ out))

-- what is of one task, and then what spares each, spares the others
pub others_each : (i : ℕ) (old mid new : Record) → OnlyAdds (IsFor i) old mid → SparesEach mid new → SparesOthers i old new
others_each i old mid new adds each j worker differ out =
    let spared = tasks_spare old mid j i (λ same. differ (sym same)) adds in adds_both (Spares j) old mid new spared (each j worker (out_stays old mid j spared ∙ out))

-- a move of an instance is of its task, or of none
move_for : (i : ℕ) (h : Record) (e : Entry) → IsMoveOf i h e → IsFor i h e
move_for i h (Split j ports copies event children) move k is = sym (eqb-true j k is) ∙ move
move_for i h (Push j t s copies) move k is = sym (eqb-true j k is) ∙ move
move_for i h (Spent j c outcome) move k is = sym (eqb-true j k is) ∙ move.0
move_for i h (Notice b status) move k is = cc
move_for i h e move k is = absurd move

-- so moves of an instance that is unleased spare each task that is out
pub moves_spare : (i : ℕ) (old new : Record) → OnlyAdds (IsMoveOf i) old new → (is_out old i ≡ true → new ≡ old) → SparesEach old new
moves_spare i old new moves still j worker out = go (i == j) refl
  where
    go : (b : Bool) → (i == j) ≡ b → OnlyAdds (Spares j) old new
    go true same =
        let here : out_to old i ≡ Some worker = subst (λ (k : ℕ). out_to old k ≡ Some worker) (sym (eqb-true i j same)) out in
        adds_none (Spares j) old new (still (out_to_worker old i ∙ ap (λ (o : Option ℕ). is_some o) here))
    go false other =
        let differ : i ≢ j = (λ same. let is : (i == i) ≡ false = subst (λ (k : ℕ). (i == k) ≡ false) (sym same) other in grind (arith, nat_tests)) in
        tasks_spare old new j i differ (adds_wider (IsMoveOf i) (IsFor i) (move_for i) old new moves)

-- who is out isn't who is unleased
differs : (h : Record) (k j : ℕ) → is_out h k ≡ false → is_out h j ≡ true → (k == j) ≡ false
differs h k j unleased out = go (k == j) refl
  where
    go : (b : Bool) → (k == j) ≡ b → (k == j) ≡ false
    go true same = let contrary : true ≡ false = sym out ∙ subst (λ (i : ℕ). is_out h i ≡ false) (eqb-true k j same) unleased in cc
    go false other = other

give_spares : (cause : AbandonCause) (j : ℕ) (h : Record) (e : Entry) → Follows h e → GivesUp cause h e → is_out h j ≡ true → Spares j h e × (is_out (e ∷ h) j ≡ true)
give_spares cause j h (Spent k c outcome) follows kind out = (differs h k j kind.0 out, out)
give_spares cause j h (Notice b status) follows kind out = (refl, out)
give_spares cause j h (Closed k) follows kind out = (differs h k j kind out, out)
give_spares cause j h (Abandon other) follows kind out = (refl, out)
give_spares cause j h e follows kind out = absurd kind

-- giving the run up spares each task that is out
pub given_spares : (cause : AbandonCause) (old new : Record) → OnlyAdds (GivesUp cause) old new → SparesEach old new
given_spares cause old new gives j worker out =
    adds_narrower (GivesUp cause) (Spares j) (λ h. is_out h j ≡ true) (give_spares cause j) old new gives (out_to_worker old j ∙ ap (λ (o : Option ℕ). is_some o) out)

module _ {P : Type 0} (observe : P → Observation) (old new : Hub P) (was : IsHub observe old) (is : IsHub observe new) where
  pub runs_on : (Kind : Record → Entry → Type 0) → OnlyAdds Kind old.engine.log new.engine.log → IsSameRun old.engine.log new.engine.log
  runs_on Kind adds =
      run_stays old.engine.log new.engine.log is.stands.legal (on_wider Kind old.engine.log new.engine.log adds) (subst (λ o. IsSome o) (sym was.stands.run.installed) refl)

  -- an instance runs the component that it ran
  component_stays : (i : ℕ) → IsSameRun old.engine.log new.engine.log → component_of new.engine.log i ≡ component_of old.engine.log i
  component_stays i same =
      let plan = old.engine.run.plan in
      component_in_place new.engine.log plan i is.stands.legal (same.plan ∙ was.stands.run.installed)
      ∙ sym (component_in_place old.engine.log plan i was.stands.legal was.stands.run.installed)

  capacity_stays : (i room : ℕ) → IsSameRun old.engine.log new.engine.log → IsHeldLimitOf old.engine.log i room → IsHeldLimitOf new.engine.log i room
  capacity_stays i room same held_limit = held_limit ∙ sym (ap (λ (o : Option Component). elim o [ None ↦ 0 | Some c ↦ held_limit_of c ]) (component_stays i same))

  -- what spares a task that is out keeps it as it left
  pub away_kept : (work : Work P) → OnlyAdds (Spares work.instance) old.engine.log new.engine.log → IsAway observe old.engine.log work → IsAway observe new.engine.log work
  away_kept work adds away =
      let same = runs_on (Spares work.instance) adds in
      record {
        left = left_kept observe old.engine.log new.engine.log work was.stands.legal adds away.left;
        room = capacity_stays work.instance work.held.room same away.room;
        within = subst (λ (n : ℕ). work.instance < n) (sym (ap length same.instances)) away.within;
      }

  -- so does what another worker makes
  pub away_beside : (worker : ℕ) (work : Work P) → worker ≢ work.worker → OnlyAdds (IsBy worker) old.engine.log new.engine.log → IsAway observe old.engine.log work → IsAway observe new.engine.log work
  away_beside worker work differ adds away =
      away_kept work (workers_spare old.engine.log new.engine.log work.instance work.worker worker differ away.left.out adds) away

  -- and as it comes back
  pub back_kept : (landing : Landing P) → OnlyAdds (Spares landing.instance) old.engine.log new.engine.log → IsBack observe old.engine.log landing → IsBack observe new.engine.log landing
  back_kept landing adds back =
      let same = runs_on (Spares landing.instance) adds in
      record {
        done = done_kept observe old.engine.log new.engine.log landing was.stands.legal adds back.done;
        room = capacity_stays landing.instance landing.held.room same back.room;
        within = subst (λ (n : ℕ). landing.instance < n) (sym (ap length same.instances)) back.within;
      }

  -- while another comes back, and parcels move
  pub back_beside : (i : ℕ) (landing : Landing P) → landing.instance ≢ i → SparesOthers i old.engine.log new.engine.log → IsBack observe old.engine.log landing → IsBack observe new.engine.log landing
  back_beside i landing differ spares back = back_kept landing (spares landing.instance landing.worker differ back.done.out) back

  -- while the task of another worker comes back
  pub back_alone : (first later : Landing P) → first.worker ≢ later.worker → OnlyAdds (IsFor first.instance) old.engine.log new.engine.log → IsBack observe old.engine.log first → IsBack observe old.engine.log later → IsBack observe new.engine.log later
  back_alone first later differ adds gone back = back_kept later (tasks_spare old.engine.log new.engine.log later.instance first.instance other adds) back
    where
      other : first.instance ≢ later.instance
      other same =
          let one : Some first.worker ≡ Some later.worker = sym gone.done.out ∙ subst (λ (k : ℕ). out_to old.engine.log k ≡ Some later.worker) (sym same) back.done.out in
          differ cc
