use Rattle.std.proofs.Common.{ℕ, ◌+◌, ◌<◌, Option, IfSome, sym, subst, arith}
use Rattle.std.specs.Prelude.{slice_get}
use Rattle.std.proofs.lemmas.Option.{IfSome_then}
use Rattle.vx_hub.specs.Waiting.{SomeoneChecks, ComesBy}
use Rattle.vx_hub.proofs.Mergers.{merger_among}
use Rattle.vx_hub.proofs.Sooner.{check_of, check_more, by_first, by_second}
use Rattle.vx_hub.proofs.Unready.{number_there, found_more, found_all}
use Rattle.vx_hub.proofs.checks.soonest_check.Goals as goal

pub checks_at-requires-clause-within : goal.checks_at-requires-clause-within
checks_at-requires-clause-within g c = (merger_among c.requires.stands c.args.mergers.now c.requires.mergers c.loop-k.k _
    (number_there c.args.mergers.now c.loop-k.k c.loop-k-test.true)).0

pub loop-k-preserved : goal.loop-k-preserved
loop-k-preserved g c =
    let engine = c.args.engine.now in
    let mergers = c.args.mergers.now in
    let k = c.loop-k.k in
    let before = c.loop-k.soonest in
    let found = c.checks_at.result in
    let among = merger_among c.requires.stands mergers c.requires.mergers k _ (number_there mergers k c.loop-k-test.true) in
    let is = c.sooner-soonest.ensures in
    record {
      checks = subst (λ (o : Option ℕ). IfSome o (SomeoneChecks engine)) (sym is)
          (check_more engine before found c.loop-k.invariant.checks (check_of engine _ among.0 found c.checks_at.ensures.due c.checks_at.ensures.joins));
      only = subst (λ (o : Option ℕ). (j : ℕ) → j < k + 1 → IfSome (slice_get mergers j) (ComesBy engine o)) (sym is)
          (found_more (ComesBy engine _) mergers k c.loop-k-test.true
          (λ settled usable fit alone now ready. by_second before found now (c.checks_at.ensures.only settled usable among.1 fit alone now ready))
          (λ j l. IfSome_then (slice_get mergers j) (c.loop-k.invariant.only j l) (λ i by settled usable fit alone now ready. by_first before found now (by settled usable fit alone now ready))));
    }

pub returns-clause-only : goal.returns-clause-only
returns-clause-only g c = found_all (ComesBy c.args.engine.now c.loop-k.soonest) c.args.mergers.now c.loop-k.k (omega arith) c.loop-k.invariant.only
