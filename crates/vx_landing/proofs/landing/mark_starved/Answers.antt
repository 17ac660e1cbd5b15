use Rattle.std.proofs.Common.{refl}
use Rattle.vx_landing.proofs.Answering.{marked}
use Rattle.vx_landing.proofs.landing.mark_starved.Goals as goal

pub returns : goal.returns
returns g c =
    let r = c.requires in
    let e = c.mark_starved.ensures in
    record { stands = marked r.stands e.size (e.knows c.args.engine.now.log r.stands.states); log = refl; places = refl; run = refl; states = e.starved }
