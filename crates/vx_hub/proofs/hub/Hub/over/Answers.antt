use borrow.Author.Count.{below_more}
use Rattle.std.proofs.Common.{◌≡◌, ◌∙◌, true, sym}
use Rattle.vx_record.specs.Installs.{is_retired}
use Rattle.vx_hub.proofs.Endings.{retired_is}
use Rattle.vx_hub.proofs.hub.Hub.over.Goals as goal

pub loop-i-preserved : goal.loop-i-preserved
loop-i-preserved g c = below_more (λ k. is_retired c.args.self.now.engine.log k ≡ true) c.loop-i.i c.loop-i.invariant
    (sym (retired_is c.requires.hub.stands c.loop-i.i c.get.ensures) ∙ c.if-not-get.false)
