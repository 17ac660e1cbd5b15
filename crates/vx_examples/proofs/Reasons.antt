-- What stands behind single refusals: how transforms answer, which targets are full, and where filters read in a round.
use Rattle.std.proofs.Common.{◌≡◌, ◌≢◌, ◌≤◌, ℕ, zero, suc, Bool, true, false, List, [], ◌∷◌, ◌++◌, refl, sym, subst, arith, codes, Some}
use Rattle.std.specs.Prelude.{◌==◌, if◌then◌else◌, slice_index_or}
use Rattle.std.specs.List.{list_any, list_all}
use Rattle.std.proofs.Math.Dec.{lit≤}
use Rattle.std.proofs.lemmas.Bool.Decides.{nat_tests}
use Rattle.std.proofs.lemmas.List.Elements.{All-nil, All-cons}
use Rattle.std.proofs.lemmas.List.Kept.{AllPairs-cons}
use Rattle.vx_value.specs.Texts.{same_text}
use Rattle.vx_value.specs.declared.event.Event.{Event}
use Rattle.vx_codec.specs.declared.codec.Codec.TheVariants as codec
use Rattle.vx_condition.specs.Steps.{Test}
use Rattle.vx_condition.specs.Picking.{or_unmatched, route_ports}
use Rattle.vx_graph.specs.Cycles.{IsCycle}
use Rattle.vx_graph.specs.Order.{in_order, enter}
use Rattle.vx_graph.specs.Rounds.{IsRound}
use Rattle.vx_plan.specs.Graphs.{nodes_of}
use Rattle.vx_record.specs.declared.output.Output.{Output}
use Rattle.vx_record.specs.Records.{Record}
use Rattle.vx_record.specs.Copies.{contains}
use Rattle.vx_record.specs.Encoding.{encode_event}
use Rattle.vx_record.specs.Installs.{component_of}
use Rattle.vx_record.specs.Places.{put_out}
use Rattle.vx_record.specs.Spending.{WasNewest}
use Rattle.vx_record.specs.Inputs.{answered, to_answer, steps}
use Rattle.vx_record.specs.Transforms.{Rule, judges, is_free, IsTickDue, IsDue, PutsOut, Discards, reduced, put_on, left_over, judged, answered_events, AllMean, is_sound_output}
use Rattle.vx_record.specs.Answering.{MayAnswer}
use Rattle.vx_record.proofs.Rules.{some_is, rule_is, mean_is}
use Rattle.vx_examples.specs.Parts.{event_with, output}
use Rattle.vx_examples.specs.Phrases.{so_far}
use Rattle.vx_examples.specs.RefusedPlans.{round_plan}
use Rattle.vx_examples.specs.Dropped as dropped
use Rattle.vx_examples.specs.Filtered as filtered
use Rattle.vx_examples.specs.Routed as routed
use Rattle.vx_examples.specs.Joined as joined
use Rattle.vx_examples.specs.Overflowing as overflowing
use Rattle.vx_examples.specs.Chained as chained
use Rattle.vx_examples.proofs.Transforming.{reduce_rule, second_rule, repeats_rule}
use Rattle.vx_examples.proofs.Refusals.{different}

-- a filter has no tick
pub filter_never_due : (h : Record) (now : ℕ) → component_of h 1 ≡ Some filtered.filter_k → IsTickDue h 1 now → ⊥
filter_never_due h now at due =
    subst (λ (rule : Rule). IsDue rule (steps h 1) now)
    (sym (some_is (judges _) due.rule (rule_is h 1 due.rule filtered.filter_k due.follows at))) due.reached

pub not_due_yet : IsTickDue (so_far 21 joined.run) 1 999 → ⊥
not_due_yet due =
    let e = subst (λ (rule : Rule). IsDue rule (steps (so_far 21 joined.run) 1) 999)
    (sym (some_is reduce_rule due.rule (rule_is (so_far 21 joined.run) 1 due.rule joined.reduce_all due.follows refl))) due.reached in
    cc e

pub checked_already : IsTickDue (so_far 23 joined.run) 1 1000 → ⊥
checked_already due =
    let e = subst (λ (rule : Rule). IsDue rule (steps (so_far 23 joined.run) 1) 1000)
    (sym (some_is reduce_rule due.rule (rule_is (so_far 23 joined.run) 1 due.rule joined.reduce_all due.follows refl))) due.reached in
    cc e

-- what a flush puts out
pub flushed : {outputs : List Output} {discarded kept : List ℕ} → MayAnswer (so_far 30 joined.run) 1 outputs discarded kept →
    outputs ≡ reduced (record { group_by = []; starts_when = λ e. false; ends_when = λ e. false; expire_after_ms = 30000; flush_period_ms = 1000; strategies = [] }) (answered (so_far 30 joined.run) 1) (to_answer (so_far 30 joined.run) 1)
flushed {outputs} row =
    subst (λ (rule : Rule). PutsOut rule (so_far 30 joined.run) 1 outputs)
    (sym (some_is reduce_rule row.rule (rule_is (so_far 30 joined.run) 1 row.rule joined.reduce_all row.follows refl))) row.made

abbrev pub first_is_two : List Output → Bool
first_is_two outputs = slice_index_or (put_out outputs) 0 0 == 2

abbrev pub says_a : List Output → Bool
says_a outputs = list_any (λ (output : Output). same_text (encode_event codec.Text output.event) (97 ∷ 10 ∷ [])) outputs

pub too_young : {discarded kept : List ℕ} → MayAnswer (so_far 23 joined.run) 1 (output (2 ∷ 3 ∷ 5 ∷ []) (event_with 97) ∷ []) discarded kept → ⊥
too_young row =
    let e = subst (λ (rule : Rule). PutsOut rule (so_far 23 joined.run) 1 (output (2 ∷ 3 ∷ 5 ∷ []) (event_with 97) ∷ []))
    (sym (some_is reduce_rule row.rule (rule_is (so_far 23 joined.run) 1 row.rule joined.reduce_all row.follows refl))) row.made in
    cc e

-- what a filter takes it puts out or discards, whatever its condition says
pub keeps_none : MayAnswer (so_far 12 filtered.run) 1 (output (3 ∷ []) (event_with 107) ∷ []) [] (2 ∷ []) → ⊥
keeps_none row =
    let is = sym (some_is (judges _) row.rule (rule_is (so_far 12 filtered.run) 1 row.rule filtered.filter_k row.follows refl)) in
    let made = subst (λ (rule : Rule). PutsOut rule (so_far 12 filtered.run) 1 (output (3 ∷ []) (event_with 107) ∷ [])) is row.made in
    let refused = subst (λ (rule : Rule). Discards rule (so_far 12 filtered.run) 1 []) is row.refused in
    go _ _ made refused
  where
    go : (b d : Bool) →
        output (3 ∷ []) (event_with 107) ∷ []
        ≡ put_on (if b then 0 ∷ [] else []) (event_with 97) (2 ∷ []) ++ (put_on (if d then 0 ∷ [] else []) (event_with 107) (3 ∷ []) ++ []) →
        [] ≡ left_over (if b then 0 ∷ [] else []) (2 ∷ []) ++ (left_over (if d then 0 ∷ [] else []) (3 ∷ []) ++ []) → ⊥
    go true true made refused = different (λ (outputs : List Output). contains (put_out outputs) 2) refl refl (sym made)
    go true false made refused = different (λ (outputs : List Output). contains (put_out outputs) 2) refl refl (sym made)
    go false d made refused = cc refused

-- a route with one way has two ports
pub has_two_ports : MayAnswer (so_far 12 routed.run) 1 (output (2 ∷ []) (event_with 107) ∷ record { ports = 4; copies = 3 ∷ []; event = event_with 122 } ∷ []) [] [] → ⊥
has_two_ports row =
    let is = sym (some_is (judges _) row.rule (rule_is (so_far 12 routed.run) 1 row.rule routed.route_k row.follows refl)) in
    let made = subst (λ (rule : Rule). PutsOut rule (so_far 12 routed.run) 1 (output (2 ∷ []) (event_with 107) ∷ record { ports = 4; copies = 3 ∷ []; event = event_with 122 } ∷ [])) is row.made in
    go row.follows.tests (mean_is (so_far 12 routed.run) 1 row.rule routed.route_k row.follows refl) made
  where
    outs : List Output
    outs = output (2 ∷ []) (event_with 107) ∷ record { ports = 4; copies = 3 ∷ []; event = event_with 122 } ∷ []

    ways : (b d : Bool) →
        outs ≡ put_on (or_unmatched true 1 ((if b then 0 ∷ [] else []) ++ [])) (event_with 107) (2 ∷ [])
        ++ (put_on (or_unmatched true 1 ((if d then 0 ∷ [] else []) ++ [])) (event_with 122) (3 ∷ []) ++ []) → ⊥
    ways true true made = different (list_any (λ (output : Output). output.ports == 4)) refl refl made
    ways true false made = different (list_any (λ (output : Output). output.ports == 4)) refl refl made
    ways false true made = different (list_any (λ (output : Output). output.ports == 4)) refl refl made
    ways false false made = different (list_any (λ (output : Output). output.ports == 4)) refl refl made

    go : (tests : List Test) → AllMean (codes ".message == \"k\"" ∷ []) tests →
        outs ≡ judged (λ earlier. route_ports tests true) (answered_events (so_far 12 routed.run) 1) (to_answer (so_far 12 routed.run) 1) → ⊥
    go [] mean made = absurd mean
    go (t ∷ []) mean made = ways (t (event_with 107)) (t (event_with 122)) made
    go (t ∷ u ∷ ts) mean made = absurd mean.1

-- a dedupe discards a repeat
pub repeats_once : {kept : List ℕ} → MayAnswer (so_far 25 chained.run) 2 (output (6 ∷ []) (event_with 97) ∷ output (7 ∷ []) (event_with 97) ∷ []) [] kept → ⊥
repeats_once row =
    let refused = subst (λ (rule : Rule). Discards rule (so_far 25 chained.run) 2 [])
    (sym (some_is repeats_rule row.rule (rule_is (so_far 25 chained.run) 2 row.rule chained.no_repeats row.follows refl))) row.refused in
    cc refused

-- a sample discards each second event
pub seconds_alone : {kept : List ℕ} → MayAnswer (so_far 15 chained.run) 1 (output (3 ∷ []) (event_with 97) ∷ output (4 ∷ []) (event_with 98) ∷ output (5 ∷ []) (event_with 97) ∷ []) [] kept → ⊥
seconds_alone row =
    let refused = subst (λ (rule : Rule). Discards rule (so_far 15 chained.run) 1 [])
    (sym (some_is second_rule row.rule (rule_is (so_far 15 chained.run) 1 row.rule chained.each_second row.follows refl))) row.refused in
    cc refused

-- the only target has room in its second stage
pub has_room : (t : ℕ) → WasNewest (so_far 8 overflowing.run) 0 4 t → ⊥
has_room zero w = let e = w.next in omega arith
has_room (suc zero) w = let e = w.full in cc
has_room (suc (suc t)) w = let e = w.next in grind (arith, nat_tests)

-- what a host puts out
pub host_puts_out : {outputs : List Output} {discarded kept : List ℕ} → MayAnswer (so_far 33 chained.run) 3 outputs discarded kept → list_all is_sound_output outputs ≡ true
host_puts_out {outputs} row =
    subst (λ (rule : Rule). PutsOut rule (so_far 33 chained.run) 3 outputs)
    (sym (some_is is_free row.rule (rule_is (so_far 33 chained.run) 3 row.rule chained.handed_in row.follows refl))) row.made

-- nor is the only target full
pub newest_has_room : (t : ℕ) → WasNewest (so_far 6 dropped.run) 0 2 t → ⊥
newest_has_room zero w = let e = w.next in omega arith
newest_has_room (suc zero) w = let e = w.next in omega arith
newest_has_room (suc (suc zero)) w = let e = w.full in cc
newest_has_room (suc (suc (suc t))) w = let e = w.next in grind (arith, nat_tests)

-- whether there are two events
abbrev pub are_two : List Event → Bool
are_two (a ∷ b ∷ es) = true
are_two es = false

-- in the order of names the filters stand first
pub is_round : IsCycle (in_order (nodes_of round_plan)) (codes "f" ∷ codes "g" ∷ [])
unfolding in_order enter IsRound
is_round = record {
  places = 0 ∷ 1 ∷ [];
  names = refl;
  apart = AllPairs-cons (λ i j. i ≢ j) 0 (1 ∷ []) (All-cons (λ j. 0 ≢ j) 1 [] (λ e. cc) (All-nil (λ j. 0 ≢ j)))
      (AllPairs-cons (λ i j. i ≢ j) 1 [] (All-nil (λ j. 1 ≢ j)) (λ i j d less within. absurd (omega (arith, within))));
  round = (refl, (refl, tt));
  least = All-cons (λ j. 0 ≤ j) 0 (1 ∷ []) (lit≤ tt) (All-cons (λ j. 0 ≤ j) 1 [] (lit≤ tt) (All-nil (λ j. 0 ≤ j)));
}
