use Rattle.std.proofs.Common.{sym, ap, ◌∙◌}
use Rattle.vx_transform.specs.Shelves.{copies_put_out}
use Rattle.vx_transform.proofs.Nothing.{none_before, none_behind}
use Rattle.vx_transform.proofs.shelf.end_outputs.Goals as goal

pub end_parcel-requires : goal.end_parcel-requires
end_parcel-requires c =
    none_before c.in-Some.output.parcel.finalizers (copies_put_out c.pop_front.new.self.items) (sym (ap copies_put_out c.in-Some.ensures.items) ∙ c.loop-output.invariant)

pub loop-output-preserved : goal.loop-output-preserved
loop-output-preserved c =
    none_behind c.in-Some.output.parcel.finalizers (copies_put_out c.pop_front.new.self.items) (sym (ap copies_put_out c.in-Some.ensures.items) ∙ c.loop-output.invariant)
