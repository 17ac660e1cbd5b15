-- What a job comes to once what there was to take was taken.
use Rattle.std.proofs.Common.{◌≡◌, ℕ, true, false, refl, sym, subst}
use Rattle.vx_tasks.specs.declared.work.Job.{Job}
use Rattle.vx_tasks.specs.declared.work.Job.TheVariants as job
use Rattle.vx_record.specs.Records.{Record}
use Rattle.vx_record.specs.SinkBatches.{is_batch_closed}
use Rattle.vx_ready.specs.Jobs.{IsJob}
use Rattle.vx_hub.specs.Leases.{ComesTo, IsUnclosed, HadWork, takes_first}

pub comes_taken : (asked todo : Job) → takes_first asked ≡ true → takes_first todo ≡ true → ComesTo asked todo
comes_taken job.Collect todo first is = is
comes_taken job.Attempt todo first is = is
comes_taken other todo first is = cc

pub comes_same : (asked : Job) → takes_first asked ≡ false → ComesTo asked asked
comes_same job.Collect first = cc
comes_same job.Attempt first = cc
comes_same job.Read first = refl
comes_same job.Confirm first = refl
comes_same job.Close first = refl
comes_same job.Judge first = refl

-- a job before which nothing is taken isn't that of a sink which goes on taking
pub never_collects : (todo : Job) → takes_first todo ≡ false → todo ≡ job.Collect → ⊥
never_collects todo first is = cc

-- the same moment and instance
pub unclosed_at : (h : Record) (now when i j : ℕ) (todo : Job) → now ≡ when → j ≡ i → IsUnclosed h i now todo → IsUnclosed h j when todo
unclosed_at h now when i j todo moment instance is = λ same.
    subst (λ (m : ℕ). is_batch_closed h j m ≡ false) moment (subst (λ (k : ℕ). is_batch_closed h k now ≡ false) (sym instance) (is same))

-- what was found was had, and came to what is done
pub had_work : (h : Record) {now when i j : ℕ} {first asked todo : Job} → IsJob h i now first → now ≡ when → j ≡ i → asked ≡ first → ComesTo asked todo → HadWork h when j todo
had_work h {now} {when} {i} {j} {first} {asked} {todo} works moment instance job comes = record {
  asked = first;
  works = subst (λ (k : ℕ). IsJob h k when first) (sym instance) (subst (λ (m : ℕ). IsJob h i m first) moment works);
  comes = subst (λ (a : Job). ComesTo a todo) job comes;
}
