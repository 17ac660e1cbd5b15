use Rattle.std.proofs.Common.{◌∙◌, sym}
use Rattle.vx_run.proofs.Hosted.{least_chosen}
use Rattle.vx_run.proofs.hosting.+least_unknown.Goals as goal

pub returns-then-is_unknown-clause-some : goal.returns-then-is_unknown-clause-some
returns-then-is_unknown-clause-some g t c =
    least_chosen (λ that. that.now) (g.H.NamedHosts.names c.args.hosts.now) c.args.components.now c.first-item.result c.least_unknown-least.result c.lesser.result.now c.in-len1-up.len_at_least c.first-item.is
    (sym c.is_unknown.ensures ∙ c.if-is_unknown.true) c.least_unknown-least.ensures.some c.least_unknown-least.ensures.none c.lesser.ensures.lesser c.lesser.ensures.alone
