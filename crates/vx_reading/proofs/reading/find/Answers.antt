use Rattle.std.proofs.Common.{List, ◌++◌, ap, ◌∙◌}
use Rattle.toml.specs.View.{view}
use Rattle.vx_reading.specs.Conditions.{is_one, refusals}
use Rattle.vx_reading.specs.Views.{parts_view}
use Rattle.vx_reading.specs.declared.diagnostic.Diagnostic.{Diagnostic}
use Rattle.vx_reading.proofs.Judged.{components_here}
use Rattle.vx_reading.proofs.reading.find.Goals as goal

pub returns : goal.returns
returns c = record {
  refused = c.in_ok-refused.field-0.refused;
  global = c.in_ok-global.ensures;
  components = components_here (view c.args.root.now) (parts_view c.args.all.now) c.in_ok-global.global c.in_ok-components.components c.requires c.in_ok-global.ensures c.in_ok-components.ensures;
  tried = c.in_ok-refused.ensures;
  told = c.in_ok-push_refusals.ensures ∙ ap (λ (all : List Diagnostic). all ++ refusals (is_one c.in_ok-refused.field-0.refused) c.in_ok-components.components) c.in_ok-diagnostics.ensures;
}
