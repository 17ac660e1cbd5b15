use Rattle.vx_subst.proofs.Drops.{cut_behind_name}
use Rattle.vx_subst.proofs.form.split_name.Goals as goal

pub split_at-requires : goal.split_at-requires
split_at-requires c = rw c.name_len.ensures (cut_behind_name c.args.text.now c.utf8.text)
