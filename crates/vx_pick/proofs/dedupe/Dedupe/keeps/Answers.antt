use Rattle.std.proofs.Common.{◌∙◌, ap}
use Rattle.std.specs.List.{list_any}
use Rattle.vx_pick.specs.Dedupers.{Deduper, same_datum}
use Rattle.vx_pick.proofs.Cached.{found}
use Rattle.vx_pick.proofs.dedupe.Dedupe.keeps.Goals as goal

pub returns : goal.returns
returns c =
    c.contains.ensures ∙ found c.args.key.now c.self.inside.seen.entries
    ∙ ap (λ (d : Deduper). list_any (same_datum c.args.key.now) d.keys) c.self.view_is
