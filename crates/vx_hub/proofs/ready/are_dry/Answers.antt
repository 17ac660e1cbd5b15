use Rattle.vx_hub.proofs.Unready.{number_there, one_gives_more}
use Rattle.vx_hub.proofs.ready.are_dry.Goals as goal

pub returns-then-not-is_dry : goal.returns-then-not-is_dry
returns-then-not-is_dry g c = λ off. one_gives_more c.requires.stands c.args.sources.now c.requires.sources c.loop-k.k _
    (number_there c.args.sources.now c.loop-k.k c.loop-k-test.true) (let on = c.if-not-is_dry.true in let is = c.is_dry.ensures in cc)
