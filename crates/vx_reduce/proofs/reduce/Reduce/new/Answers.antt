use Rattle.std.proofs.Common.{◌∙◌, refl}
use Rattle.vx_reduce.proofs.GoingOn.{begun}
use Rattle.vx_reduce.proofs.Calls.{same_paths}
use Rattle.vx_reduce.proofs.reduce.Reduce.new.Goals as goal

pub returns-clause-stands : goal.returns-clause-stands
returns-clause-stands c s m =
    begun s _ (same_paths s c.args.settings c.from_vec-group_by.result (c.from_vec-group_by.ensures ∙ c.into_vec-paths.ensures) m) c.new.ensures refl
