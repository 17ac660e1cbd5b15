use Rattle.std.proofs.Common.{◌≡◌, ◌∙◌, true, ap, arith, length, subst, sym, take, List, ◌≤◌, ℕ}
use Rattle.vx_ends.specs.Observation.{Grows}
use Rattle.vx_codec.specs.declared.codec.Codec.{Codec}
use Rattle.vx_record.specs.Encoding.{given, encoded}
use Rattle.vx_record.specs.Places.Place.{Held}
use Rattle.vx_record.specs.Shifts.{at}
use Rattle.vx_record.specs.Installs.{device_at}
use Rattle.vx_tasks.specs.Unleased.{HasCome}
use Rattle.vx_tasks.specs.declared.task.Role.TheVariants.{Sink}
use Rattle.vx_tasks.proofs.Alone.{come_ported}
use Rattle.vx_tasks.proofs.Saying.{grown}
use Rattle.vx_tasks.proofs.Writing.{written_all}
use Rattle.vx_tasks.proofs.work.send.Goals as goal

pub returns-in-Ok-answer-clause-acted : goal.returns-in-Ok-answer-clause-acted
returns-in-Ok-answer-clause-acted g c h i may =
    let sent : c.as_slice.result.now ≡ c.of-all.result.value = c.as_slice.ensures ∙ sym c.of-all.ensures in
    let come : HasCome h i (Sink c.codec-codec.result) = subst (λ (codec : Codec). HasCome h i (Sink codec)) (sym c.codec-codec.ensures) may.come in
    record {
      may = may.given;
      come = subst (λ (codec : Codec). HasCome h i (Sink codec)) (sym c.behind.ensures) come;
      whole = c.of-all.ensures ∙ c.in-Ok.ensures ∙ written_all h i c.codec-codec.result c.args.held.now.items come may.held;
      within = subst (λ (w : List ℕ). c.in-Ok-answer.attempted.sent ≤ length w) sent c.in-Ok-answer.ensures.within;
      ok = λ ok. c.in-Ok-answer.ensures.whole ok ∙ ap length sent;
      blackhole_ok = λ none. let has : device_at h i ≡ true = come_ported h i (Sink c.codec-codec.result) come in cc;
    }

pub returns-clause-acted : goal.returns-clause-acted
returns-clause-acted g c h i may =
    let old = (g.P.Port.observed c.args.port.now).given in
    let new = (g.P.Port.observed c.attempt-answer.new.port).given in
    let come : HasCome h i (Sink c.codec-codec.result) = subst (λ (codec : Codec). HasCome h i (Sink codec)) (sym c.codec-codec.ensures) may.come in
    let all : c.as_slice.result.now ≡ encoded h i (at h (Held i)) = c.as_slice.ensures ∙ c.in-Ok.ensures ∙ written_all h i c.codec-codec.result c.args.held.now.items come may.held in
    let nonzero = c.if-short-eq0.false in
    record {
      may = may.given;
      come = subst (λ (codec : Codec). HasCome h i (Sink codec)) (sym c.behind.ensures) come;
      beyond = record {
        sent = c.in-Err.short.sent;
        some = omega (arith, nonzero);
        within = subst (λ (w : List ℕ). c.in-Err.short.sent ≤ length w) all c.in-Err.ensures.part;
        are = grown old new (take c.in-Err.short.sent (encoded h i (at h (Held i)))) (given h i)
            (subst (λ (w : List ℕ). Grows old new (take c.in-Err.short.sent w)) all c.in-Err.ensures.short) may.wrote;
      };
      shut = c.in-Err.ensures.closed;
    }
