-- What is kept of a sink tells whether an attempt of what it holds is the last that may be made.
use Rattle.std.proofs.Common.{◌≡◌, ◌∙◌, ℕ, ◌+◌, ◌<◌, Bool, true, false, ◌||◌, List, [], ◌∷◌, length, Option, Some, None, IsSomeAnd, ap, subst, arith}
use Rattle.std.specs.Prelude.{not, nat_le, if◌then◌else◌}
use Rattle.std.proofs.lemmas.Bool.{and_parts}
use Rattle.std.proofs.lemmas.Bool.Decides.{nat_tests}
use Rattle.vx_ends.specs.Observation.{Observation}
use Rattle.vx_ends.specs.declared.trouble.Reply.TheVariants.{Failed}
use Rattle.vx_value.specs.Texts.{is_empty}
use Rattle.vx_plan.specs.declared.component.Component.{Component}
use Rattle.vx_plan.specs.Components.{is_sink, batch_max_events, batch_timeout, retry_attempts}
use Rattle.vx_record.specs.Records.{Record, capped}
use Rattle.vx_record.specs.Copies.{count, joined}
use Rattle.vx_record.specs.Installs.{component_of, sink_at}
use Rattle.vx_record.specs.Legal.{IsLegal}
use Rattle.vx_record.specs.Lists.{held}
use Rattle.vx_record.specs.Places.Place.{Held}
use Rattle.vx_record.specs.Turns.{lease_now}
use Rattle.vx_record.specs.SinkBatches.{attempts_allowed, failures_with, oldest_held, is_full_batch, is_timed_out, is_last_batch, was_attempted}
use Rattle.vx_record.proofs.Shifting.{stands_at}
use Rattle.vx_tasks.specs.Out.{MayAttemptNow}
use Rattle.vx_instances.specs.declared.facts.Batching.{Batching}
use Rattle.vx_instances.specs.declared.state.InstanceState.{InstanceState}
use Rattle.vx_instances.specs.Knowing.{IsFittedTo, IsKnown, schedule_of}
use Rattle.vx_instances.proofs.Holding.{held_none_empty, oldest_among}
use Rattle.vx_landing.specs.Landings.{decides, is_last}

-- as many more
both_more : (m n : ℕ) → nat_le m n ≡ nat_le (m + 1) (n + 1)
both_more m n = grind (arith, nat_tests)

some_held : (ps : List (List ℕ)) → not (is_empty ps) ≡ true → 0 < length ps
some_held [] full = cc
some_held (p ∷ ps) full = omega arith

module _ {P : Type 0} (state : InstanceState P) (h : Record) (i : ℕ) where
  allowed : (n : ℕ) → IsSomeAnd (component_of h i) (IsFittedTo state) → sink_at h i ≡ true → is_last state.batching n ≡ nat_le (attempts_allowed h i) (n + 1)
  allowed n fitted sink = go (component_of h i) fitted sink
    where
      go : (o : Option Component) → IsSomeAnd o (IsFittedTo state) → (elim o [ None ↦ false | Some c ↦ is_sink c ]) ≡ true →
          is_last state.batching n ≡ nat_le ((elim o as (λ _. ℕ) [ None ↦ 0 | Some c ↦ retry_attempts c.settings ]) + 1) (n + 1)
      go None is on = absurd is
      go (Some c) is on =
          ap (λ (b : Option Batching). is_last b n)
          (is.batching ∙ ap (λ (b : Bool). if b then Some (record { max_events = batch_max_events c.settings; timeout = batch_timeout c.settings; retries = schedule_of c.settings }) else None) on)
          ∙ both_more (retry_attempts c.settings) n

  -- the failures that are kept are those of what it holds
  pub decided_last : (observe : P → Observation) (last : Bool) → IsLegal h → IsKnown observe state h i → MayAttemptNow h i →
      ((n : ℕ) → state.facts.failures ≡ capped n → last ≡ is_last state.batching n) → last ≡ decides h i Failed
  decided_last observe last legal known may is =
      let full = (and_parts (not (is_empty (held h i))) (is_full_batch h i || is_timed_out h i (lease_now h i) || is_last_batch h i || was_attempted h i) may.batch_closed).0 in
      let here : 0 < count (oldest_held h i) (joined (held h i)) = oldest_among (held h i) (held_none_empty h i) (some_held (held h i) full) in
      let kept = known.facts.tried may.sink (oldest_held h i) (subst (λ (ps : List (List ℕ)). 0 < count (oldest_held h i) (joined ps)) (stands_at h (Held i) legal) here) in
      is (failures_with h i (oldest_held h i)) kept.0 ∙ allowed (failures_with h i (oldest_held h i)) known.fitted.component may.sink
