use Rattle.std.proofs.Common.{arith, sym, length, ◌<◌}
use Rattle.vx_ends.proofs.ActsLemmas.{later_at}
use Rattle.vx_ends.proofs.acts.Acts.next.Goals as goal

pub returns-clause-later : goal.returns-clause-later
returns-clause-later c =
    let within : c.self.inside.used < length c.self.inside.list = omega arith in
    rw (← c.self.view_is) (sym (later_at c.self.inside.list c.self.inside.used within))
