use Rattle.std.proofs.Common.{◌≡◌, ◌++◌, subst, sym, take, drop}
use Rattle.vx_graph.specs.Rounds.{IsLeastFirst}
use Rattle.vx_graph.proofs.Rounds.{least_turned}
use Rattle.vx_graph.proofs.round.least_first.Goals as goal

pub returns-clause-least : goal.returns-clause-least
returns-clause-least c =
    let places = c.args.places.now in
    let m = c.least_place.result in
    let e : c.extend_from_slice.new.self.items ≡ drop m places ++ take m places =
    cc (c.in_ok-extend_from_slice.ensures.items, c.in_ok-turned.ensures.items, c.split_at.ensures.back, c.split_at.ensures.front)
    in
    subst IsLeastFirst (sym e) (least_turned places m c.least_place.ensures.within c.least_place.ensures.least)
