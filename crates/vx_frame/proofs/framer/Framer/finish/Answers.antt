use Rattle.vx_frame.specs.Framings.{unfinished}
use Rattle.vx_frame.proofs.Tears.{frames-end, discarded-end}
use Rattle.vx_frame.proofs.framer.Framer.finish.Goals as goal

pub returns-clause-frames : goal.returns-clause-frames
returns-clause-frames c taken h = frames-end c.args.self.now.limit (unfinished c.args.self.now c.args.stream) taken h

pub returns-clause-discarded : goal.returns-clause-discarded
returns-clause-discarded c taken h = discarded-end c.args.self.now.limit (unfinished c.args.self.now c.args.stream) taken h
