use Rattle.vx_record.specs.declared.entry.Entry.TheVariants.{Install}
use Rattle.vx_record.specs.Starting.{first_instances}
use Rattle.vx_hub.proofs.making.begin.Given as goal

abbrev pub ghost-note : goal.ghost-note
ghost-note g a = Install 0 a._shown.now.0.now a._shown.now.1 (first_instances 0 a._shown.now.0.now.components) a._shown.now.2
