use Rattle.vx_keeping.proofs.Popping.{last_taken}
use Rattle.vx_keeping.proofs.losing.next_parcel.Goals as goal

pub returns-in-Some-clause-some : goal.returns-in-Some-clause-some
returns-in-Some-clause-some c = last_taken c.args.ready.now.items c.in-Some.output c.pop.new.self.items c.args.shelf.now c.in-Some.ensures.items
