-- Being out, and what comes with it, is the task's own.
use Rattle.std.proofs.Common.{true, false, Some, None, refl}
use Rattle.std.specs.Prelude.{◌||◌}
use Rattle.vx_record.specs.declared.entry.Entry.TheVariants.{Lease, Home, Closed, Retired}
use Rattle.vx_record.specs.Turns.{is_out, lease_now}
use Rattle.vx_record.specs.Installs.{is_closed, is_retired}
use Rattle.vx_record.specs.Tasks.{IsOwn, out_to}
use Rattle.vx_record.proofs.Mine.{EachActs, acts, passes, sets, owned}

pub worker_acts : EachActs out_to
worker_acts (Lease j worker now polls) i = sets (Some worker) (λ h. refl)
worker_acts (Home j) i = sets None (λ h. refl)
worker_acts e i = passes (λ h. refl)

pub worker_own : IsOwn out_to
worker_own = owned worker_acts

out_acts : EachActs is_out
out_acts (Lease j worker now polls) i = sets true (λ h. refl)
out_acts (Home j) i = sets false (λ h. refl)
out_acts e i = passes (λ h. refl)

pub out_own : IsOwn is_out
out_own = owned out_acts

moment_acts : EachActs lease_now
moment_acts (Lease j worker now polls) i = sets now (λ h. refl)
moment_acts e i = passes (λ h. refl)

pub moment_own : IsOwn lease_now
moment_own = owned moment_acts

closed_acts : EachActs is_closed
closed_acts (Closed j) i = acts (λ own closed. own || closed) (λ closed. refl) (λ h. refl)
closed_acts e i = passes (λ h. refl)

pub closed_own : IsOwn is_closed
closed_own = owned closed_acts

retired_acts : EachActs is_retired
retired_acts (Retired j) i = acts (λ own retired. own || retired) (λ retired. refl) (λ h. refl)
retired_acts e i = passes (λ h. refl)

pub retired_own : IsOwn is_retired
retired_own = owned retired_acts
