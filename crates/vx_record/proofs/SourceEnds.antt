-- A source that is done stays done until it creates a batch or confirms.
use Rattle.std.proofs.Common.{◌≡◌, ℕ, ◌+◌, ◌<◌, Bool, true, false, cond, List, [], ◌∷◌, ◌++◌, Option, Some, None, refl, sym, ap, subst, ◌∙◌, arith, length, map}
use Rattle.std.specs.Prelude.{◌==◌, ◌&&◌, ◌||◌, not, nat_lt, take_while, if◌then◌else◌}
use Rattle.std.specs.List.{list_any, list_all}
use Rattle.std.proofs.lemmas.Bool.{and_parts, and_from, or_parts, or_from, or_right, not-true, eqb-true}
use Rattle.std.proofs.lemmas.List.{append-nil}
use Rattle.std.proofs.lemmas.List.Sums.{take_while-cons}
use Rattle.vx_value.specs.Texts.{is_empty}
use Rattle.vx_plan.specs.declared.class.Class.{Class}
use Rattle.vx_plan.specs.declared.class.Class.TheVariants.{Source, Transform, Sink}
use Rattle.vx_plan.specs.declared.component.Component.{Component}
use Rattle.vx_plan.specs.Components.{is_source, is_sink}
use Rattle.vx_plan.specs.Options.{has_device}
use Rattle.vx_status.specs.declared.batch_status.BatchStatus.{BatchStatus}
use Rattle.vx_record.specs.Records.{Record}
use Rattle.vx_record.specs.declared.entry.Entry.{Entry}
use Rattle.vx_record.specs.declared.entry.Entry.TheVariants.{Install, Read, Born, Answer, Attempt, Notice, Confirm}
use Rattle.vx_record.specs.Turns.{is_confirm_of}
use Rattle.vx_record.specs.Installs.{component_of, source_at, sink_at, device_at}
use Rattle.vx_record.specs.Confirms.{Birth, births, is_noticed, is_delivered, was_delivered, confirm_prefix, last_of_each, position_of, due, last_confirm, same_positions, is_confirm_due}
use Rattle.vx_record.specs.Routing.{is_dry, is_sent}
use Rattle.vx_ends.specs.declared.position.Position.{Position}
use Rattle.vx_record.specs.Reads.{events_of}
use Rattle.vx_record.specs.Parcels.{first_copy}
use Rattle.vx_record.specs.SinkBatches.{failures_with, attempts_allowed}
use Rattle.vx_record.specs.Owing.{is_decided, unspent_of, decided, fruitful, last_discarded, took_since, owes_birth, owes_spends_in, owes_discards, owes_answer, owes, all_noticed, is_source_done, is_worker_done, is_done}
use Rattle.vx_record.specs.Laws.{times_noticed}
use Rattle.vx_record.specs.Legal.{IsLegal}
use Rattle.vx_record.proofs.OnePlace.{conserved}
use Rattle.vx_record.proofs.Dues.{awaits}
use Rattle.vx_record.proofs.Notices.{noticed}
use Rattle.vx_record.proofs.LegalNotices.{accounted, noticed_times}
use Rattle.vx_record.proofs.Done.{source_tests}
use Rattle.vx_record.proofs.Vacant.{Sent, creates, sent_of, is_sent_of, sent_on}
use Rattle.vx_record.proofs.Answerers.{source_untransforming, unanswering}
use Rattle.vx_record.proofs.Turning.{turn_undry}
use Rattle.vx_record.proofs.Drying.{dry_on}
use Rattle.vx_record.proofs.Senders.{unput_source, installs, same_component_or, uninstalled, wired_same, source_same}

-- what a source has where it is done
pub record SourceDone (h : Record) (i : ℕ) : Type 0 where
  pub source : source_at h i ≡ true
  pub dry : is_dry h i ≡ true
  pub settled : owes h i ≡ false
  pub sent : Sent h i
  pub noticed : all_noticed h i ≡ true
  pub undue : is_confirm_due h i ≡ false

-- where the test says so
pub source_done : (h : Record) (i : ℕ) → source_at h i ≡ true → is_done h i ≡ true → SourceDone h i
source_done h i source done =
    let tests = source_tests h i source done in
    record { source = source; dry = tests.dry; settled = tests.settled; sent = sent_of h i tests.sent; noticed = tests.noticed; undue = tests.undue }

-- and then the test does
all_five : (d o s n u : Bool) → d ≡ true → o ≡ false → s ≡ true → n ≡ true → u ≡ false → (d && not o && s && n && not u) ≡ true
all_five d o s n u a b c e f = rw (a, b, c, e, f) refl

pub done_source : (h : Record) (i : ℕ) → SourceDone h i → is_done h i ≡ true
done_source h i is =
    ap (λ (b : Bool). if b then is_source_done h i else is_worker_done h i) is.source
    ∙ all_five (is_dry h i) (owes h i) (is_sent h i) (all_noticed h i) (is_confirm_due h i) is.dry is.settled (is_sent_of h i is.sent) is.noticed is.undue

-- WHAT IT OWES
-- its births stay until it creates a batch
births_same : (e : Entry) (h : Record) (i : ℕ) → creates i e ≡ false → births (e ∷ h) i ≡ births h i
births_same (Born j b place copies events waits stream end) h i off =
    ap (λ (t : Bool). births h i ++ (if t then record { batch = b; waits = waits; stream = stream; end = end } ∷ [] else [])) off ∙ append-nil (births h i)
births_same e h i off = append-nil (births h i)

-- a dry source reads nothing
fruitful_same : (e : Entry) (h : Record) (i : ℕ) → IsLegal (e ∷ h) → is_dry h i ≡ true → fruitful (e ∷ h) i ≡ fruitful h i
fruitful_same (Read j stream took) h i legal dry = go (j == i) refl
  where
    go : (b : Bool) → (j == i) ≡ b → fruitful (Read j stream took ∷ h) i ≡ fruitful h i
    go true is =
        let same : j ≡ i = eqb-true j i is in
        let no : true ≡ false = sym dry ∙ subst (λ (k : ℕ). is_dry h k ≡ false) same (turn_undry h j legal.1 legal.0.row.turn) in cc
    go false is = ap (λ (b : Bool). fruitful h i + (if b && not (is_empty (events_of h i stream took)) then 1 else 0)) is ∙ (omega arith)
fruitful_same e h i legal dry = refl

-- a component stands in one table
one_table : (o : Option Component) → (elim o [ None ↦ false | Some c ↦ is_source c ]) ≡ true → (elim o [ None ↦ false | Some c ↦ is_sink c ]) ≡ true → ⊥
one_table None is also = cc
one_table (Some c) is also = go c.class is also
  where
    go : (k : Class) → (elim k [ Source ↦ true | Transform ↦ false | Sink ↦ false ]) ≡ true → (elim k [ Source ↦ false | Transform ↦ false | Sink ↦ true ]) ≡ true → ⊥
    go Source is also = cc
    go Transform is also = cc
    go Sink is also = cc

-- a source makes no attempt, so none of it settled anything
source_undecided : (h : Record) (i : ℕ) → IsLegal h → source_at h i ≡ true → decided h i ≡ []
source_undecided [] i legal is = refl
source_undecided (Install version plan once instances now ∷ h) i legal is = ap (λ (k : Record). decided k i) legal.0.row.first
source_undecided (Attempt j copies bytes answer ∷ h) i legal is =
    go (j == i) (is_decided answer (failures_with h i (first_copy copies) + 1) (attempts_allowed h i)) refl (source_undecided h i legal.1 is)
  where
    go : (b settled : Bool) → (j == i) ≡ b → decided h i ≡ [] → (if b && settled then copies ∷ decided h i else decided h i) ≡ []
    go true settled here rest =
        let same : j ≡ i = eqb-true j i here in
        absurd (one_table (component_of h i) is (subst (λ (k : ℕ). sink_at h k ≡ true) same legal.0.row.sink))
    go false settled here rest = rest
source_undecided (e ∷ h) i legal is = source_undecided h i legal.1 is

-- so it owes no spend
source_spends : (h whole : Record) (i : ℕ) → IsLegal h → source_at h i ≡ true → owes_spends_in h whole i ≡ false
source_spends h whole i legal is = ap (list_any (unspent_of whole)) (source_undecided h i legal is)

-- nor has it discarded anything
source_discards : (h : Record) (i : ℕ) → IsLegal h → source_at h i ≡ true → last_discarded h i ≡ []
source_discards [] i legal is = refl
source_discards (Install version plan once instances now ∷ h) i legal is = ap (λ (k : Record). last_discarded k i) legal.0.row.first
source_discards (Answer j made discarded kept ∷ h) i legal is =
    ap (λ (b : Bool). if b then discarded else last_discarded h i) (unanswering h i j made discarded kept legal (source_untransforming h i is)) ∙ source_discards h i legal.1 is
source_discards (e ∷ h) i legal is = source_discards h i legal.1 is

-- so it owes nothing more
settled_on : (h : Record) (e : Entry) (i : ℕ) → IsLegal (e ∷ h) → creates i e ≡ false → source_at (e ∷ h) i ≡ true → is_dry h i ≡ true → owes h i ≡ false → owes (e ∷ h) i ≡ false
settled_on h e i legal off is dry settled =
    or_from (owes_birth (e ∷ h) i || owes_spends_in (e ∷ h) (e ∷ h) i || owes_discards (e ∷ h) i) (owes_answer (e ∷ h) i)
    (or_from (owes_birth (e ∷ h) i || owes_spends_in (e ∷ h) (e ∷ h) i) (owes_discards (e ∷ h) i)
    (or_from (owes_birth (e ∷ h) i) (owes_spends_in (e ∷ h) (e ∷ h) i)
    (ap (λ (bs : List Birth). nat_lt (length bs) (fruitful (e ∷ h) i)) (births_same e h i off)
    ∙ ap (λ (n : ℕ). nat_lt (length (births h i)) n) (fruitful_same e h i legal dry) ∙ birth_settled)
    (source_spends (e ∷ h) (e ∷ h) i legal is))
    (ap (λ (cs : List ℕ). unspent_of (e ∷ h) cs) (source_discards (e ∷ h) i legal is)))
    (ap (λ (b : Bool). b && took_since (e ∷ h) i) (source_untransforming (e ∷ h) i is))
  where
    birth_settled : owes_birth h i ≡ false
    birth_settled =
        (or_parts (owes_birth h i) (owes_spends_in h h i)
        ((or_parts (owes_birth h i || owes_spends_in h h i) (owes_discards h i)
        ((or_parts (owes_birth h i || owes_spends_in h h i || owes_discards h i) (owes_answer h i) settled).0)).0)).0

-- ITS NOTICES
-- what is noticed stays so
noticed_more : (e : Entry) (h : Record) (b : ℕ) → is_noticed h b ≡ true → is_noticed (e ∷ h) b ≡ true
noticed_more (Notice b' status) h b is = or_right (b' == b) (is_noticed h b) is
noticed_more e h b is = is

each_noticed : (e : Entry) (h : Record) (bs : List Birth) → list_all (λ (birth : Birth). is_noticed h birth.batch) bs ≡ true → list_all (λ (birth : Birth). is_noticed (e ∷ h) birth.batch) bs ≡ true
each_noticed e h [] all = refl
each_noticed e h (b ∷ bs) all =
    and_from (is_noticed (e ∷ h) b.batch) (list_all (λ (birth : Birth). is_noticed (e ∷ h) birth.batch) bs)
    (noticed_more e h b.batch ((and_parts (is_noticed h b.batch) (list_all (λ (birth : Birth). is_noticed h birth.batch) bs) all).0))
    (each_noticed e h bs ((and_parts (is_noticed h b.batch) (list_all (λ (birth : Birth). is_noticed h birth.batch) bs) all).1))

noticed_on : (h : Record) (e : Entry) (i : ℕ) → creates i e ≡ false → all_noticed h i ≡ true → all_noticed (e ∷ h) i ≡ true
noticed_on h e i off all =
    ap (λ (bs : List Birth). list_all (λ (birth : Birth). is_noticed (e ∷ h) birth.batch) bs) (births_same e h i off) ∙ each_noticed e h (births h i) all

-- ITS CONFIRMS
-- a batch is noticed once
unnoticed : (h : Record) (b : ℕ) (status : BatchStatus) → IsLegal (Notice b status ∷ h) → is_noticed h b ≡ false
unnoticed h b status legal = go (is_noticed h b) refl
  where
    go : (t : Bool) → is_noticed h b ≡ t → t ≡ false
    go true is =
        let some = noticed_times h b is in
        let none = (noticed h b (accounted h legal.1)).due (awaits h b legal.0.row.due) in
        absurd (omega (arith, some, none))
    go false is = refl

-- so a further notice tells nothing of batches that have theirs
observed_same : (h : Record) (b : ℕ) (status : BatchStatus) (bs : List Birth) → is_noticed h b ≡ false → list_all (λ (birth : Birth). is_noticed h birth.batch) bs ≡ true →
    take_while (λ (birth : Birth). not birth.waits || was_delivered (Notice b status ∷ h) birth.batch) bs ≡ take_while (λ (birth : Birth). not birth.waits || was_delivered h birth.batch) bs
observed_same h b status [] none all = refl
observed_same h b status (x ∷ bs) none all =
    take_while-cons (λ (birth : Birth). not birth.waits || was_delivered (Notice b status ∷ h) birth.batch) x bs
    ∙ ap (λ (t : Bool). cond (not x.waits || ((t && is_delivered status) || was_delivered h x.batch)) (x ∷ take_while (λ (birth : Birth). not birth.waits || was_delivered (Notice b status ∷ h) birth.batch) bs) []) (other (b == x.batch) refl)
    ∙ ap (λ (run : List Birth). cond (not x.waits || was_delivered h x.batch) (x ∷ run) [])
    (observed_same h b status bs none ((and_parts (is_noticed h x.batch) (list_all (λ (birth : Birth). is_noticed h birth.batch) bs) all).1))
    ∙ sym (take_while-cons (λ (birth : Birth). not birth.waits || was_delivered h birth.batch) x bs)
  where
    other : (t : Bool) → (b == x.batch) ≡ t → t ≡ false
    other true is =
        let same : b ≡ x.batch = eqb-true b x.batch is in
        let yes : is_noticed h x.batch ≡ true = (and_parts (is_noticed h x.batch) (list_all (λ (birth : Birth). is_noticed h birth.batch) bs) all).0 in
        let no : true ≡ false = sym yes ∙ subst (λ (k : ℕ). is_noticed h k ≡ false) same none in cc
    other false is = refl

-- and what may be confirmed stays
prefix_same : (h : Record) (e : Entry) (i : ℕ) → IsLegal (e ∷ h) → creates i e ≡ false → all_noticed h i ≡ true → confirm_prefix (e ∷ h) i ≡ confirm_prefix h i
prefix_same h (Notice b status) i legal off all =
    ap (λ (bs : List Birth). take_while (λ (birth : Birth). not birth.waits || was_delivered (Notice b status ∷ h) birth.batch) bs) (append-nil (births h i))
    ∙ observed_same h b status (births h i) (unnoticed h b status legal) all
prefix_same h e i legal off all = ap (λ (bs : List Birth). take_while (λ (birth : Birth). not birth.waits || was_delivered h birth.batch) bs) (births_same e h i off)

-- as what was confirmed does until it confirms
last_same : (e : Entry) (h : Record) (i : ℕ) → is_confirm_of i e ≡ false → last_confirm (e ∷ h) i ≡ last_confirm h i
last_same (Confirm j positions made) h i off = ap (λ (b : Bool). if b then positions else last_confirm h i) off
last_same e h i off = refl

-- so nothing more is due
undue_on : (h : Record) (e : Entry) (i : ℕ) → IsLegal (e ∷ h) → installs e ≡ false → creates i e ≡ false → is_confirm_of i e ≡ false → all_noticed h i ≡ true → is_confirm_due h i ≡ false → is_confirm_due (e ∷ h) i ≡ false
undue_on h e i legal kept off unconfirmed all undue =
    ap (λ (b : Bool). b && not (is_empty (due (e ∷ h) i)) && not (same_positions (due (e ∷ h) i) (last_confirm (e ∷ h) i))) (same_component_or false (λ (c : Component). has_device c.settings) (e ∷ h) h i (wired_same e h i kept))
    ∙ ap (λ (run : List Birth). device_at h i && not (is_empty (last_of_each [] (map position_of run))) && not (same_positions (last_of_each [] (map position_of run)) (last_confirm (e ∷ h) i))) (prefix_same h e i legal off all)
    ∙ ap (λ (ps : List Position). device_at h i && not (is_empty (due h i)) && not (same_positions (due h i) ps)) (last_same e h i unconfirmed)
    ∙ undue

-- ONE MORE ENTRY
pub source_on : (h : Record) (e : Entry) (i : ℕ) → IsLegal (e ∷ h) → creates i e ≡ false → is_confirm_of i e ≡ false → SourceDone h i → SourceDone (e ∷ h) i
source_on h e i legal off unconfirmed done =
    let kept = uninstalled e h i is_source legal done.source in
    let is = source_same e h i kept ∙ done.source in
    record {
      source = is;
      dry = dry_on h e i legal done.dry;
      settled = settled_on h e i legal off is done.dry done.settled;
      sent = sent_on h e i (conserved (e ∷ h) legal) (unput_source h e i legal done.source off) done.sent;
      noticed = noticed_on h e i off done.noticed;
      undue = undue_on h e i legal kept off unconfirmed done.noticed done.undue;
    }
