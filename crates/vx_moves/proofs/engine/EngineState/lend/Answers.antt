use Rattle.vx_places.proofs.Steps.{lent_is}
use Rattle.vx_places.proofs.Recorded.{lent_filled}
use Rattle.vx_moves.proofs.Keepers.{seen_alone}
use Rattle.vx_moves.proofs.Stepping.{never_both}
use Rattle.vx_moves.proofs.Moving.{held_stands, seen_kept}
use Rattle.vx_moves.proofs.engine.EngineState.lend.Goals as goal

pub lend-requires-clause-kept : goal.lend-requires-clause-kept
lend-requires-clause-kept g c = seen_kept c.args.self.now.places c.args.i (rw c.requires.stands.size c.requires.within) c.requires.kept

pub returns-clause-stands : goal.returns-clause-stands
returns-clause-stands g c =
    let s = c.requires.stands in
    let lends = c.lend.ensures.lends in
    let capacities = c.lend.ensures.capacities in
    held_stands c.args.i s (seen_alone c.args.self.now.places c.args.self.now.log c.args.i s.keepers.apart c.requires.kept) (lent_is c.args.self.now.log c.args.i c.lend.result.items c.args.self.now.places c.lend.new.self lends s.places).0 lends.others
    (λ unleased. never_both unleased c.requires.out) capacities.stages capacities.others (rw capacities.now tt) c.lend.ensures.size

pub returns-clause-held : goal.returns-clause-held
returns-clause-held g c =
    let h = c.args.self.now.log in
    let s = c.requires.stands in
    let lends = c.lend.ensures.lends in
    let is = (lent_is h c.args.i c.lend.result.items c.args.self.now.places c.lend.new.self lends s.places).1 in
    record { held = is.0; known = is.1; filled = lent_filled h c.args.i c.lend.result.items c.args.self.now.places c.lend.new.self s.legal lends s.places }
