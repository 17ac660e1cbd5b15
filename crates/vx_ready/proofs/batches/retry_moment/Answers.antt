use Rattle.std.proofs.Common.{◌≡◌, ◌∙◌, ◌<◌, ℕ, ◌+◌, ◌*◌, false, sym, ap, arith, rules}
use Rattle.std.specs.Prelude.{◌==◌}
use Rattle.std.proofs.lemmas.Bool.Decides.{nat_tests}
use Rattle.vx_sinkcore.specs.Waits.{wait_after}
use Rattle.vx_record.specs.Records.{capped}
use Rattle.vx_sinkcore.specs.declared.schedule.Schedule.{Schedule}
use Rattle.vx_ready.specs.Jobs.{retry_moment}
use Rattle.vx_ready.proofs.batches.retry_moment.Goals as goal

-- behind the last failure
behind : (schedule : Schedule) (n k last wait moment : ℕ) → n ≡ k → 0 < k → wait ≡ wait_after schedule.initial_secs schedule.max_secs k * 1000 → moment ≡ capped (last + wait) →
    moment ≡ retry_moment schedule n last
behind schedule n k last wait moment same some waits is =
    let off : (n == 0) ≡ false = grind (arith, nat_tests, same, some) in
    rw off
    (is ∙ ap (λ m. capped (last + m)) waits ∙ ap (λ j. capped (last + wait_after schedule.initial_secs schedule.max_secs j * 1000)) (sym same))

pub returns-then-failures-eq0 : goal.returns-then-failures-eq0
returns-then-failures-eq0 c = λ n kept few.
    let none : n ≡ 0 = omega (arith, kept, c.if-failures-eq0.true) in
    sym (ap (λ k. retry_moment c.args.schedule k c.args.failed_at) none)

pub returns-in-Some : goal.returns-in-Some
returns-in-Some c = λ n kept few.
    let same : n ≡ c.args.failures = omega (arith, kept, few) in
    behind c.args.schedule n c.args.failures c.args.failed_at c.in-Some.wait c.saturating_add.result same (omega (arith, c.if-failures-eq0.false)) c.in-Some.ensures.milliseconds c.saturating_add.ensures

pub returns-in-None : goal.returns-in-None
returns-in-None c = λ n kept few.
    let more : c.args.schedule.attempts < c.args.failures = c.in-None.ensures.given_up.0 (search rules) in
    absurd (omega (arith, kept, few, more))
