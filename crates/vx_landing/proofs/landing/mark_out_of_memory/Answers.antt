use Rattle.std.proofs.Common.{refl}
use Rattle.vx_landing.proofs.Answering.{marked}
use Rattle.vx_landing.proofs.landing.mark_out_of_memory.Goals as goal

pub returns : goal.returns
returns g c =
    let r = c.requires in
    let e = c.owed.ensures in
    record { stands = marked r.stands e.size (e.knows c.args.engine.now.log r.stands.states); log = refl; places = refl; run = refl; states = e.owing }
