use Rattle.std.proofs.Common.{refl}
use Rattle.vx_tasks.proofs.Alone.{made_reads, next_readable}
use Rattle.vx_tasks.proofs.Saying.{made_observed}
use Rattle.vx_tasks.proofs.work.make.Goals as goal

pub returns-in-Ok-clause-observed : goal.returns-in-Ok-clause-observed
returns-in-Ok-clause-observed c observed h i parcels alone is = made_observed observed h i c.in-Ok.turned alone c.in-Ok.ensures.reads is

pub returns-in-Ok-clause-acted : goal.returns-in-Ok-clause-acted
returns-in-Ok-clause-acted c observed h i parcels may =
    let g = may.come.0 in
    record {
      may = may.given;
      come = c.role_of_made.ensures.made h i may.come.1 (c.in-Ok.ensures.made h i (may.unended refl) g);
      ported = λ none. absurd (made_reads c.in-Ok.turned c.in-Ok.ensures.reads none);
      readable = next_readable h i c.in-Ok.turned (c.in-Ok.ensures.next h i (may.unended refl) g);
      whole = c.in-Ok.ensures.whole;
      few = c.in-Ok.ensures.few;
      fit = c.role_of_made.ensures.fit;
    }
