use Rattle.std.proofs.Common.{◌≡◌, ◌++◌, false, arith, ◌∙◌, ap}
use Rattle.std.proofs.lemmas.Grind.{common_steps}
use Rattle.vx_frame.specs.Framings.{unfinished, left_behind, untouched}
use Rattle.vx_frame.proofs.Tears.{frames-more, discarded-more, left-more}
use Rattle.vx_frame.proofs.framer.Framer.feed.Goals as goal

pub returns-in-Ok-clause-taken : goal.returns-in-Ok-clause-taken
returns-in-Ok-clause-taken c taken h =
    let left : unfinished (record { limit = c.self-2.inside.limit; overlong = c.in-Ok.overlong; streams = c.self-2.inside.streams.entries }) c.args.stream ≡ left_behind c.args.self.now.limit (unfinished c.args.self.now c.args.stream) c.args.bytes.now = grind (arith, common_steps) in
    let limit : c.args.self.now.limit ≡ c.self-2.inside.limit = grind (arith, common_steps) in
    let more = left-more c.args.self.now.limit (unfinished c.args.self.now c.args.stream) taken c.args.bytes.now h in
    left ∙ more ∙ ap (λ l. left_behind l untouched (taken ++ c.args.bytes.now)) limit

pub returns-in-Ok-clause-frames : goal.returns-in-Ok-clause-frames
returns-in-Ok-clause-frames c taken h =
    frames-more c.args.self.now.limit false (unfinished c.args.self.now c.args.stream) taken c.args.bytes.now h

pub returns-in-Ok-clause-discarded : goal.returns-in-Ok-clause-discarded
returns-in-Ok-clause-discarded c taken h =
    discarded-more c.args.self.now.limit false (unfinished c.args.self.now c.args.stream) taken c.args.bytes.now h
