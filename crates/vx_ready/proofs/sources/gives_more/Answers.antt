use Rattle.std.proofs.Common.{◌∙◌, ap, ◌&&◌}
use Rattle.std.specs.Prelude.{not}
use Rattle.vx_record.specs.Routing.{is_sent}
use Rattle.vx_ready.proofs.sources.gives_more.Goals as goal

pub returns : goal.returns
returns g c = c.both.ensures ∙ ap (λ b. b && not c.is_dry.result) c.is_sent.ensures ∙ ap (λ b. is_sent c.args.engine.now.log c.args.i && not b) c.is_dry.ensures
