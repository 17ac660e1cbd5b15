use Rattle.std.proofs.Common.{◌∙◌, length, ◌≡◌, ap}
use Rattle.vx_ends.specs.Script.{Progress, progress_of, upcoming, answer_of}
use Rattle.vx_ends.proofs.ScriptReporting.{reports_from, upcoming_lives, answers_open}
use Rattle.vx_ends.proofs.script.Script.take.Goals as goal

pub returns-clause-observed : goal.returns-clause-observed
returns-clause-observed c =
    let inside = c.self.inside in
    let from : Progress = progress_of inside.steps inside.place.step inside.place.offset in
    let live : Progress = progress_of inside.steps c.live_place-place.result.step c.live_place-place.result.offset in
    let same = rw c.as_slice.ensures at c.live_place-place.ensures.past in
    let rest = rw c.as_slice.ensures at c.live_place-place.ensures.rest in
    let observed = rw c.as_slice-2.ensures at c.play-answer.ensures.observed in
    rw (← c.self.view_is) (reports_from from live _ _ _ same rest observed)

pub returns-clause-live : goal.returns-clause-live
returns-clause-live c =
    let self = c.args.self.now in
    let inside = c.self.inside in
    let live : Progress = progress_of inside.steps c.live_place-place.result.step c.live_place-place.result.offset in
    let rest = rw c.as_slice.ensures at c.live_place-place.ensures.rest in
    let next : live.rest ≡ upcoming self.past self.rest = rest ∙ ap (λ (p : Progress). upcoming p.past p.rest) c.self.view_is in
    let room = length c.args.into.now in
    let answer = (rw c.as_slice-2.ensures at c.play-answer.ensures.answer) ∙ ap (answer_of room) next in
    rw answer (answers_open room self.past (upcoming self.past self.rest) (upcoming_lives self.past self.rest))
