use Rattle.std.proofs.Common.{◌++◌, ap, ◌∙◌}
use Rattle.std.specs.List.{sum_by}
use Rattle.vx_reduce.specs.Groups.{copies_held}
use Rattle.vx_transform.specs.Shelves.{copies_dropped, copies_on}
use Rattle.vx_keeping.specs.Kept.{copies_made}
use Rattle.vx_keeping.specs.Making.{made_of}
use Rattle.vx_keeping.proofs.Making.{same_with}
use Rattle.vx_keeping.proofs.maker.Maker.answer.Goals as goal

pub returns-in-Reduce-clause-same : goal.returns-in-Reduce-clause-same
returns-in-Reduce-clause-same g c = λ w.
    ap (λ m. sum_by w (copies_made (made_of m) ++ (copies_dropped c.args.taken.now.items ++ (copies_on c.args.shelf.now ++ c.args.left.now.items)))) c.in-Reduce.is
    ∙ same_with (copies_held c.in-Reduce.reduce.groups) (copies_dropped c.args.taken.now.items) (copies_on c.args.shelf.now) (copies_held c.give_all.new.reduce.groups) (copies_dropped c.give_all.new.taken.items)
    (copies_on c.give_all.new.shelf) c.args.left.now.items c.give_all.ensures.same w
