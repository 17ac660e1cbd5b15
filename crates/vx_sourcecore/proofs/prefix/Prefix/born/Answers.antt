use Rattle.std.proofs.Common.{refl}
use Rattle.vx_sourcecore.proofs.Prefixing.{cut_born, prefix_born}
use Rattle.vx_sourcecore.proofs.prefix.Prefix.born.Goals as goal

pub returns-then-self-clause-born : goal.returns-then-self-clause-born
returns-then-self-clause-born c position judged births asked ready passes is =
    prefix_born c.args.self.now _ c.args.batch position c.args.ends judged births asked ready c.if-self.true refl is

pub returns-clause-born : goal.returns-clause-born
returns-clause-born c position judged births asked ready passes is =
    c.advance.ensures.advanced judged _ asked (cut_born c.args.self.now _ c.args.batch position c.args.ends judged births asked ready passes c.if-self.false refl c.push_back_reserved.ensures.items refl refl refl is)
