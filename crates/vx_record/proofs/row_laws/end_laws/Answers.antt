use Rattle.vx_record.proofs.Promises.{unasked_to_stop}
use Rattle.vx_record.proofs.Bare.{retired_bare}
use Rattle.vx_record.proofs.row_laws.end_laws.Goals as goal

pub returns-clause-bare : goal.returns-clause-bare
returns-clause-bare c = retired_bare

pub returns-clause-unasked : goal.returns-clause-unasked
returns-clause-unasked c = unasked_to_stop
