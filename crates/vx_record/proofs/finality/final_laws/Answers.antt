use Rattle.vx_record.proofs.Drying.{dry_stays}
use Rattle.vx_record.proofs.Lasting.{done_stays, leased_unclosed, stays_bare}
use Rattle.vx_record.proofs.finality.final_laws.Goals as goal

pub returns-clause-dry : goal.returns-clause-dry
returns-clause-dry c = dry_stays

pub returns-clause-done : goal.returns-clause-done
returns-clause-done c = done_stays

pub returns-clause-unclosed : goal.returns-clause-unclosed
returns-clause-unclosed c = leased_unclosed

pub returns-clause-bare : goal.returns-clause-bare
returns-clause-bare c = stays_bare
