use Rattle.std.proofs.Common.{◌∙◌, ap, ◌&&◌}
use Rattle.std.specs.Prelude.{not}
use Rattle.vx_record.specs.Routing.{is_dry, is_sent}
use Rattle.vx_ready.proofs.Naming.{few_ports, of_two, sends_is}
use Rattle.vx_ready.proofs.ending.sends.Goals as goal

pub is_target-requires : goal.is_target-requires
is_target-requires g c = record { few = few_ports g.P.Port.observed c.args.engine.now c.requires.stands c.requires.served c.args.j c.get.result.now c.get.ensures }

pub returns : goal.returns
returns g c =
    of_two c.args.engine.now.log c.args.j c.is_dry.result c.is_sent.result c.both-over.result c.is_target.result c.both.result c.is_dry.ensures c.is_sent.ensures c.both-over.ensures c.both.ensures
    ∙ ap (λ b. not (is_dry c.args.engine.now.log c.args.j && is_sent c.args.engine.now.log c.args.j) && b) c.is_target.ensures
    ∙ sends_is g.P.Port.observed c.args.engine.now c.requires.stands c.requires.served c.args.j c.get.result.now c.get.ensures c.args.i
