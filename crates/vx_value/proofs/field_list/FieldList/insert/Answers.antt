use Rattle.std.proofs.Common.{is_ok, refl}
use Rattle.vx_value.proofs.Writes.{inserted, inserted-rise}
use Rattle.vx_value.proofs.field_list.FieldList.insert.Goals as goal
use Rattle.vx_value.proofs.field_list.FieldList.insert.Goals.{in-Ok, in-Err}

pub invariant_of-self : goal.invariant_of-self
invariant_of-self c =
    inserted-rise c.self.inside.fields.items c.insert.new.self.items c.args.self.now c.args.field.name c.args.i c.args.field (is_ok c.insert.result) c.self.view_is c.requires refl c.insert.ensures.items c.self.invariant

pub returns-clause-ok : goal.returns-clause-ok
returns-clause-ok c =
    elim c.match-insert.branch [ in-Ok w ↦ rw w.result-is (inserted c.self.inside.fields.items c.insert.new.self.items c.args.self.now c.args.field.name c.args.i c.args.field c.self.view_is c.requires refl (rw w.in-Ok.is at c.insert.ensures.items)) | in-Err w ↦ rw w.result-is tt ]
