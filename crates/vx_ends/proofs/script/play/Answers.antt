use Rattle.std.proofs.Common.{arith, sym, ◌∙◌, length, ◌<◌, ◌+◌, take, drop}
use Rattle.vx_ends.specs.declared.step.Step.TheVariants.{StreamEnded, Idle, Fail}
use Rattle.vx_ends.proofs.ScriptLemmas.{passes-end, live-bytes}
use Rattle.vx_ends.proofs.ScriptReporting.{reports-end, reports-idle, reports-fail, reports_behind, reports_all_at, reports_bytes_at}
use Rattle.vx_ends.proofs.script.play.Goals as goal

pub returns-in-Bytes-clause-observed : goal.returns-in-Bytes-clause-observed
returns-in-Bytes-clause-observed c =
    let steps = c.args.steps.now in
    let at = c.args.place.step in
    let within : at < length steps = omega arith in
    let step = rw c.in-Bytes.is at c.index-steps-place.is in
    reports_bytes_at steps at c.in-Bytes.stream c.args.place.offset c.copy_from-n.result c.in-Bytes.bytes c.copy_from-n.new.into within step
    (live-bytes steps at c.args.place.offset c.in-Bytes.stream c.in-Bytes.bytes within step c.requires.live)
    (rw c.as_slice.ensures at c.copy_from-n.ensures.copied)

pub returns-in-StreamEnded-clause-observed : goal.returns-in-StreamEnded-clause-observed
returns-in-StreamEnded-clause-observed c =
    let steps = c.args.steps.now in
    let at = c.args.place.step in
    let within : at < length steps = omega arith in
    let step = rw c.in-StreamEnded.is at c.index-steps-place.is in
    reports_behind steps at c.args.place.offset (StreamEnded c.in-StreamEnded.stream) _ _ within step
    (reports-end (take at steps) (drop (at + 1) steps) c.in-StreamEnded.stream c.args.into.now (sym (passes-end steps at c.args.place.offset c.in-StreamEnded.stream within step) ∙ c.requires.live))

pub returns-in-AllEnded-clause-observed : goal.returns-in-AllEnded-clause-observed
returns-in-AllEnded-clause-observed c =
    reports_all_at c.args.steps.now c.args.place.step c.args.place.offset c.args.into.now (omega arith) (rw c.in-AllEnded.is at c.index-steps-place.is)

pub returns-in-Idle-clause-observed : goal.returns-in-Idle-clause-observed
returns-in-Idle-clause-observed c =
    reports_behind c.args.steps.now c.args.place.step c.args.place.offset Idle _ _ (omega arith) (rw c.in-Idle.is at c.index-steps-place.is)
    (reports-idle (take c.args.place.step c.args.steps.now) (drop (c.args.place.step + 1) c.args.steps.now) c.args.into.now)

pub returns-in-Fail-clause-observed : goal.returns-in-Fail-clause-observed
returns-in-Fail-clause-observed c =
    reports_behind c.args.steps.now c.args.place.step c.args.place.offset Fail _ _ (omega arith) (rw c.in-Fail.is at c.index-steps-place.is)
    (reports-fail (take c.args.place.step c.args.steps.now) (drop (c.args.place.step + 1) c.args.steps.now) c.args.into.now)
