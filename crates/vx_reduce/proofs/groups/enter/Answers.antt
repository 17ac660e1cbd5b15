use Rattle.std.proofs.Common.{◌≡◌, None, cond, ◌∙◌, subst}
use Rattle.std.specs.Map.{lookup}
use Rattle.std.specs.BTreeMap.{is_at}
use Rattle.vx_value.specs.Datum.{Datum}
use Rattle.vx_value.specs.Orders.{datum_cmp}
use Rattle.vx_reduce.proofs.Indexed.{undone}
use Rattle.vx_reduce.proofs.groups.enter.Goals as goal

pub returns-in-Err-place_at-clause-err_index : goal.returns-in-Err-place_at-clause-err_index
returns-in-Err-place_at-clause-err_index c =
    undone c.args.index.now.entries c.insert.new.self.entries c.forget.new.index.entries c.args.key c.args.number c.requires.key c.in-Ok.ensures.updates.0
    (subst (λ (k : Datum). (q : Datum) → lookup (is_at (datum_cmp q)) c.forget.new.index.entries ≡ cond (is_at (datum_cmp k) q) None (lookup (is_at (datum_cmp q)) c.insert.new.self.entries)) (c.in-Err-place_at.ensures.key ∙ c.requires.alike) c.forget.ensures)
