-- What is done when it is leased stays done, so what is closed has no more work.
use Rattle.std.proofs.Common.{◌≡◌, ℕ, Bool, true, false, List, [], ◌∷◌, ◌++◌, Option, Some, None, refl, sym, ap, subst, ◌∙◌, arith, inl, inr}
use Rattle.std.specs.Prelude.{◌==◌, ◌&&◌, ◌||◌, not, ◌⊎◌, nat_le, if◌then◌else◌}
use Rattle.std.proofs.lemmas.Bool.{or_from, eqb-true, eq-eqb}
use Rattle.vx_value.specs.Texts.{is_empty}
use Rattle.vx_plan.specs.declared.class.Class.{Class}
use Rattle.vx_plan.specs.declared.class.Class.TheVariants.{Source, Transform, Sink}
use Rattle.vx_plan.specs.declared.component.Component.{Component}
use Rattle.vx_plan.specs.declared.settings.Settings.{Settings}
use Rattle.vx_plan.specs.declared.settings.Settings.TheVariants.{Stdin, FileIn, Console, FileOut}
use Rattle.vx_plan.specs.declared.stage.Stage.{Stage}
use Rattle.vx_plan.specs.Options.{has_device}
use Rattle.vx_condition.specs.Steps.{Test}
use Rattle.vx_plan.specs.Components.{is_source, transform_stages, sink_stages, stages}
use Rattle.vx_record.specs.Records.{Record}
use Rattle.vx_record.specs.declared.entry.Entry.{Entry}
use Rattle.vx_record.specs.declared.entry.Entry.TheVariants.{Install, Lease, Home, Read, Born, Push, Confirm, Closed, Retired, Abandon}
use Rattle.vx_record.specs.Turns.{is_out, at_lease, is_confirm_of}
use Rattle.vx_record.specs.Installs.{component_of, source_at, device_at, is_closed, is_retired}
use Rattle.vx_record.specs.Lists.{is_bare, buffered, held}
use Rattle.vx_record.specs.Stages.{room_from}
use Rattle.vx_record.specs.Abandoning.{abandoned}
use Rattle.vx_record.specs.Routing.{is_dry, is_sent, is_ending}
use Rattle.vx_record.specs.Confirms.{is_confirm_due}
use Rattle.vx_record.specs.SinkBatches.{is_full_batch, is_timed_out, is_last_batch, was_attempted, is_batch_closed, retry_from}
use Rattle.vx_record.specs.Owing.{is_done}
use Rattle.vx_record.specs.Ready.{reading_moment, is_heir, can_read, is_close_due, is_source_ready, is_attempt_due, can_take, is_transform_ready, is_sink_ready, is_ready, IsTickReady, IsReady}
use Rattle.vx_record.specs.Sourcing.{Yield, yield}
use Rattle.vx_record.specs.Transforms.{Rule, rule_of}
use Rattle.vx_record.specs.Legal.{IsLegal}
use Rattle.vx_record.specs.Finality.{DoneStays, LeasedUnclosed, StaysBare}
use Rattle.vx_record.proofs.OnePlace.{conserved}
use Rattle.vx_record.proofs.Vacant.{Unfilled, creates, enters, unbuffered, is_empty_of, unentered, unfilled_on, bare_of, bare_unfilled}
use Rattle.vx_record.proofs.Promises.{source_lease}
use Rattle.vx_record.proofs.Turning.{turn_undry}
use Rattle.vx_record.proofs.Bare.{retired_bare, unstaged_unentered, source_unstaged}
use Rattle.vx_record.proofs.Senders.{reader, since_retired, retired_sent}
use Rattle.vx_record.proofs.SourceEnds.{source_done, done_source, source_on}
use Rattle.vx_record.proofs.WorkerEnds.{worker_done, done_worker, worker_on, source_dry, unawaited}

-- ONE MORE ENTRY
-- the newest entry is no Read of which a birth could fill the instance
abbrev pub Quiet : Record → ℕ → Type 0
Quiet (Read j stream took ∷ h) i = (source_at h i ≡ true) × ((j == i) ≡ false)
Quiet h i = Unit {0}

-- it is done for good: so it was when it was leased, and no birth can follow
pub record Final (h : Record) (i : ℕ) : Type 0 where
  pub done : is_done h i ≡ true
  pub leased : is_out h i ≡ true → is_done (at_lease h i) i ≡ true
  pub quiet : Quiet h i

-- what is done stays so, where a source neither creates a batch nor confirms, and else nobody creates a batch
done_on : (h : Record) (e : Entry) (i : ℕ) → IsLegal (e ∷ h) → (source_at h i ≡ true → (creates i e ≡ false) × (is_confirm_of i e ≡ false)) → (source_at h i ≡ false → (j : ℕ) → creates j e ≡ false) →
    is_done h i ≡ true → is_done (e ∷ h) i ≡ true
done_on h e i legal source worker done = go (source_at h i) refl
  where
    go : (b : Bool) → source_at h i ≡ b → is_done (e ∷ h) i ≡ true
    go true is = let off = source is in done_source (e ∷ h) i (source_on h e i legal off.0 off.1 (source_done h i is done))
    go false is = done_worker (e ∷ h) i legal (worker_on h e i legal (worker is) (worker_done h i legal.1 is done))

-- behind a Read that is quiet only others create a batch, and only where the instance is a source
born_quiet : (h : Record) (j i : ℕ) (y : Yield) → yield h j ≡ Some y → Quiet h i → (source_at h i ≡ true) × ((j == i) ≡ false)
born_quiet (Read k stream took ∷ h) j i y is quiet = (quiet.0, subst (λ (n : ℕ). (n == i) ≡ false) (reader h k stream took j y is) quiet.1)
born_quiet h j i y is quiet = cc

-- so a source that is final creates no batch
unborn : (h : Record) (e : Entry) (i : ℕ) → IsLegal (e ∷ h) → Quiet h i → creates i e ≡ false
unborn h (Born j b place copies events waits stream end) i legal quiet = (born_quiet h j i _ legal.0.row.yields quiet).1
unborn h e i legal quiet = refl

-- and nobody creates a batch beside a sink that is
none_born : (h : Record) (e : Entry) (i : ℕ) → IsLegal (e ∷ h) → Quiet h i → source_at h i ≡ false → (j : ℕ) → creates j e ≡ false
none_born h (Born k b place copies events waits stream end) i legal quiet off j =
    let no : true ≡ false = sym (born_quiet h k i _ legal.0.row.yields quiet).0 ∙ off in cc
none_born h e i legal quiet off j = refl

-- nothing was due to be confirmed when it was leased
unconfirmed : (h : Record) (e : Entry) (i : ℕ) → IsLegal (e ∷ h) → Final h i → source_at h i ≡ true → is_confirm_of i e ≡ false
unconfirmed h (Confirm j positions made) i legal final is = go (j == i) refl
  where
    go : (b : Bool) → (j == i) ≡ b → b ≡ false
    go true here =
        let same : j ≡ i = eqb-true j i here in
        let out : is_out h i ≡ true = subst (λ (k : ℕ). is_out h k ≡ true) same legal.0.row.out in
        let due : is_confirm_due (at_lease h i) i ≡ true = subst (λ (k : ℕ). is_confirm_due (at_lease h k) k ≡ true) same legal.0.row.was_due in
        let was = source_done (at_lease h i) i (source_lease h i legal.1 out is) (final.leased out) in
        let no : true ≡ false = sym due ∙ was.undue in cc
    go false here = refl
unconfirmed h e i legal final is = refl

-- it was done at its lease behind one more entry too
leased_on : (h : Record) (e : Entry) (i : ℕ) → Final h i → is_out (e ∷ h) i ≡ true → is_done (at_lease (e ∷ h) i) i ≡ true
leased_on h (Lease j worker now polls) i final out = go (j == i) out
  where
    go : (b : Bool) → (if b then true else is_out h i) ≡ true → is_done (if b then h else at_lease h i) i ≡ true
    go true o = final.done
    go false o = final.leased o
leased_on h (Home j) i final out = go (j == i) out
  where
    go : (b : Bool) → (if b then false else is_out h i) ≡ true → is_done (at_lease h i) i ≡ true
    go true o = cc
    go false o = final.leased o
leased_on h e i final out = final.leased out

-- nobody reads of whom a birth could fill it
quiet_on : (h : Record) (e : Entry) (i : ℕ) → IsLegal (e ∷ h) → is_done h i ≡ true → Quiet (e ∷ h) i
quiet_on h (Read j stream took) i legal done = (source (source_at h i) refl, other (j == i) refl)
  where
    undry : is_dry h j ≡ false
    undry = turn_undry h j legal.1 legal.0.row.turn

    source : (b : Bool) → source_at h i ≡ b → source_at h i ≡ true
    source true is = is
    source false is =
        let no : true ≡ false = sym (source_dry h j legal.1 (worker_done h i legal.1 is done).dry legal.0.row.turn.source) ∙ undry in cc

    other : (b : Bool) → (j == i) ≡ b → b ≡ false
    other true here =
        let same : j ≡ i = eqb-true j i here in
        let is : source_at h i ≡ true = subst (λ (k : ℕ). source_at h k ≡ true) same legal.0.row.turn.source in
        let no : true ≡ false = sym (source_done h i is done).dry ∙ subst (λ (k : ℕ). is_dry h k ≡ false) same undry in cc
    other false here = refl
quiet_on h e i legal done = tt

-- so it stays final
final_on : (h : Record) (e : Entry) (i : ℕ) → IsLegal (e ∷ h) → Final h i → Final (e ∷ h) i
final_on h e i legal final = record {
  done = done_on h e i legal (λ is. (unborn h e i legal final.quiet, unconfirmed h e i legal final is)) (none_born h e i legal final.quiet) final.done;
  leased = leased_on h e i final;
  quiet = quiet_on h e i legal final.done;
}

-- FROM A LEASE ON
-- a lease of what is done makes it final
begins : (h : Record) (j i worker now polls : ℕ) → IsLegal (Lease j worker now polls ∷ h) → (j == i) ≡ true → is_done h i ≡ true → Final (Lease j worker now polls ∷ h) i
begins h j i worker now polls legal here done = record {
  done = done_on h (Lease j worker now polls) i legal (λ is. (refl, refl)) (λ off k. refl) done;
  leased = λ out. ap (λ (b : Bool). is_done (if b then h else at_lease h i) i) here ∙ done;
  quiet = tt;
}

-- it is so while it is out
final_since : (h : Record) (i : ℕ) → IsLegal h → is_out h i ≡ true → is_done (at_lease h i) i ≡ true → Final h i
final_since [] i legal out done = cc
final_since (Lease j worker now polls ∷ h) i legal out done = go (j == i) refl out done (final_since h i legal.1)
  where
    go : (b : Bool) → (j == i) ≡ b → (if b then true else is_out h i) ≡ true → is_done (if b then h else at_lease h i) i ≡ true → (is_out h i ≡ true → is_done (at_lease h i) i ≡ true → Final h i) → Final (Lease j worker now polls ∷ h) i
    go true here o d rest = begins h j i worker now polls legal here d
    go false here o d rest = final_on h (Lease j worker now polls) i legal (rest o d)
final_since (Home j ∷ h) i legal out done = go (j == i) out (final_since h i legal.1)
  where
    go : (b : Bool) → (if b then false else is_out h i) ≡ true → (is_out h i ≡ true → is_done (at_lease h i) i ≡ true → Final h i) → Final (Home j ∷ h) i
    go true o rest = cc
    go false o rest = final_on h (Home j) i legal (rest o done)
final_since (e ∷ h) i legal out done = final_on h e i legal (final_since h i legal.1 out done)

-- and ever after
final_after : (later earlier : Record) (i worker now polls : ℕ) → IsLegal (later ++ Lease i worker now polls ∷ earlier) → is_done earlier i ≡ true → Final (later ++ Lease i worker now polls ∷ earlier) i
final_after [] earlier i worker now polls legal done = begins earlier i i worker now polls legal (eq-eqb i i refl) done
final_after (e ∷ later) earlier i worker now polls legal done =
    final_on (later ++ Lease i worker now polls ∷ earlier) e i legal (final_after later earlier i worker now polls legal.1 done)

pub done_stays : DoneStays
done_stays later earlier i worker now polls legal done = (final_after later earlier i worker now polls legal done).done

-- CLOSED
-- what is closed is final, unless the run was given up
closed_final : (h : Record) (i : ℕ) → IsLegal h → abandoned h ≡ false → is_closed h i ≡ true → Final h i
closed_final [] i legal kept is = cc
closed_final (Abandon cause ∷ h) i legal kept is = cc
closed_final (Closed j ∷ h) i legal kept is = final_on h (Closed j) i legal (go (j == i) refl is (closed_final h i legal.1 kept))
  where
    over : (j ≡ i) → ((is_out h j ≡ true) × (is_done (at_lease h j) j ≡ true)) ⊎ (abandoned h ≡ true) → Final h i
    over same (inl was) =
        final_since h i legal.1 (subst (λ (k : ℕ). is_out h k ≡ true) same was.0) (subst (λ (k : ℕ). is_done (at_lease h k) k ≡ true) same was.1)
    over same (inr gone) = let no : true ≡ false = sym gone ∙ kept in cc

    go : (b : Bool) → (j == i) ≡ b → (b || is_closed h i) ≡ true → (is_closed h i ≡ true → Final h i) → Final h i
    go true here e rest = let same : j ≡ i = eqb-true j i here in over same legal.0.row.over
    go false here e rest = rest e
closed_final (e ∷ h) i legal kept is = final_on h e i legal (closed_final h i legal.1 kept is)

-- the tests of what is ready
unreadable : (s d t k : Bool) → d ≡ true → (s && not d && t && k) ≡ false
unreadable s d t k e = grind arith

unclosing : (v c d : Bool) → c ≡ true → (v && not c && d) ≡ false
unclosing v c d e = grind arith

no_batch : (n o w : Bool) → n ≡ true → (not n && o && w) ≡ false
no_batch n o w e = grind arith

none_to_take : (c b : Bool) → b ≡ true → (not c && not b) ≡ false
none_to_take c b e = grind arith

unflowing : (s b e n : Bool) → b ≡ true → n ≡ true → (s && (not b || (e && b && not n))) ≡ false
unflowing s b e n x y = grind arith

ready_by : (o : Option Component) (s t k : Bool) → ((elim o [ None ↦ false | Some c ↦ is_source c ]) ≡ true → s ≡ false) → ((elim o [ None ↦ false | Some c ↦ is_source c ]) ≡ false → (t ≡ false) × (k ≡ false)) →
    (elim o [ None ↦ false | Some c ↦ elim c.class [ Source ↦ s | Transform ↦ t | Sink ↦ k ] ]) ≡ false
ready_by None s t k source worker = refl
ready_by (Some c) s t k source worker = go c.class source worker
  where
    go : (class : Class) → ((elim class [ Source ↦ true | Transform ↦ false | Sink ↦ false ]) ≡ true → s ≡ false) → ((elim class [ Source ↦ true | Transform ↦ false | Sink ↦ false ]) ≡ false → (t ≡ false) × (k ≡ false)) →
        (elim class [ Source ↦ s | Transform ↦ t | Sink ↦ k ]) ≡ false
    go Source source worker = source refl
    go Transform source worker = (worker refl).0
    go Sink source worker = (worker refl).1

-- what is done and closed has no work
pub unready : (h : Record) (i now : ℕ) → IsLegal h → is_done h i ≡ true → is_closed h i ≡ true → is_ready h i now ≡ false
unready h i now legal done is = ready_by (component_of h i) (is_source_ready h i now) (is_transform_ready h i) (is_sink_ready h i now) source (λ off. (transform off, sink off))
  where
    closing : is_close_due h i ≡ false
    closing = unclosing (device_at h i) (is_closed h i) (is_done h i) is

    source : source_at h i ≡ true → is_source_ready h i now ≡ false
    source on =
        let was = source_done h i on done in
        or_from (can_read h i now || is_confirm_due h i) (is_close_due h i)
        (or_from (can_read h i now) (is_confirm_due h i) (unreadable (is_sent h i) (is_dry h i) (nat_le (reading_moment h i) now) (is_heir h i) was.dry) was.undue)
        closing

    transform : source_at h i ≡ false → is_transform_ready h i ≡ false
    transform off =
        let was = worker_done h i legal off done in
        unflowing (is_sent h i) (is_empty (buffered h i)) (is_ending h i) (is_empty (held h i)) (unbuffered h i was.empty) (is_empty_of (held h i) was.empty.holdings)

    sink : source_at h i ≡ false → is_sink_ready h i now ≡ false
    sink off =
        let was = worker_done h i legal off done in
        or_from (is_attempt_due h i now || can_take h i now) (is_close_due h i)
        (or_from (is_attempt_due h i now) (can_take h i now)
        (no_batch (is_empty (held h i)) (is_full_batch h i || is_timed_out h i now || is_last_batch h i || was_attempted h i) (nat_le (retry_from h i) now) (is_empty_of (held h i) was.empty.holdings))
        (none_to_take (is_batch_closed h i now) (is_empty (buffered h i)) (unbuffered h i was.empty)))
        closing

-- what is closed has a port
closed_device : (h : Record) (i : ℕ) → IsLegal h → is_closed h i ≡ true → device_at h i ≡ true
closed_device [] i legal is = cc
closed_device (Install version plan once instances now ∷ h) i legal is = let no : is_closed [] i ≡ true = subst (λ (k : Record). is_closed k i ≡ true) legal.0.row.first is in cc
closed_device (Closed j ∷ h) i legal is = go (j == i) refl is (closed_device h i legal.1)
  where
    go : (b : Bool) → (j == i) ≡ b → (b || is_closed h i) ≡ true → (is_closed h i ≡ true → device_at h i ≡ true) → device_at h i ≡ true
    go true here e rest = let same : j ≡ i = eqb-true j i here in subst (λ (k : ℕ). device_at h k ≡ true) same legal.0.row.device
    go false here e rest = rest e
closed_device (e ∷ h) i legal is = closed_device h i legal.1 is

-- and nothing that has one acts by itself
ruleless : (settings : Settings) (tests : List Test) (rule : Rule) → has_device settings ≡ true → rule_of settings tests ≡ Some rule → ⊥
ruleless (Stdin max_length codec) tests rule device ruled = cc
ruleless (FileIn most path from codec) tests rule device ruled = cc
ruleless (Console target codec sink) tests rule device ruled = cc
ruleless (FileOut path compression codec sink) tests rule device ruled = cc
ruleless settings tests rule device ruled = cc

unticked : (h : Record) (i now : ℕ) → device_at h i ≡ true → IsTickReady h i now → ⊥
unticked h i now device tick =
    let follows = tick.due.follows in
    let works : has_device follows.component.settings ≡ true = sym (ap (λ (o : Option Component). elim o [ None ↦ false | Some c ↦ has_device c.settings ]) follows.runs) ∙ device in
    ruleless follows.component.settings follows.tests tick.due.rule works follows.ruled

-- so it isn't leased
pub leased_unclosed : LeasedUnclosed
leased_unclosed h i worker now polls legal = go (is_closed h i) refl
  where
    kept : (b : Bool) → abandoned h ≡ b → abandoned h ≡ false
    kept true gone = let no : false ≡ true = legal.0.still gone in cc
    kept false is = is

    by : Final h i → is_closed h i ≡ true → IsReady h i now → true ≡ false
    by final is (inl ready) = sym ready ∙ unready h i now legal.1 final.done is
    by final is (inr tick) = absurd (unticked h i now (closed_device h i legal.1 is) tick)

    go : (b : Bool) → is_closed h i ≡ b → b ≡ false
    go true is =
        by (closed_final h i legal.1 (kept (abandoned h) refl) is) is legal.0.row.ready
    go false is = refl

-- RETIRED
-- what is retired is final, unless the run was given up
pub retired_final : (h : Record) (i : ℕ) → IsLegal h → abandoned h ≡ false → is_retired h i ≡ true → Final h i
retired_final [] i legal kept is = cc
retired_final (Abandon cause ∷ h) i legal kept is = cc
retired_final (Retired j ∷ h) i legal kept is = go (j == i) refl is (retired_final h i legal.1 kept)
  where
    over : (j ≡ i) → ((is_done h j ≡ true) ⊎ ((abandoned h ≡ true) × (is_bare h j ≡ true))) → Final (Retired j ∷ h) i
    over same (inl done) = record {
      done = done_on h (Retired j) i legal (λ on. (refl, refl)) (λ off k. refl) (subst (λ (k : ℕ). is_done h k ≡ true) same done);
      leased = λ out. let no : true ≡ false = sym out ∙ subst (λ (k : ℕ). is_out h k ≡ false) same legal.0.row.unleased in cc;
      quiet = tt;
    }
    over same (inr gone) = let no : true ≡ false = sym gone.0 ∙ kept in cc

    go : (b : Bool) → (j == i) ≡ b → (b || is_retired h i) ≡ true → (is_retired h i ≡ true → Final h i) → Final (Retired j ∷ h) i
    go true here e rest = let same : j ≡ i = eqb-true j i here in over same legal.0.row.over
    go false here e rest = final_on h (Retired j) i legal (rest e)
retired_final (e ∷ h) i legal kept is = final_on h e i legal (retired_final h i legal.1 kept is)

-- nothing enters what is retired
retired_unentered : (h : Record) (e : Entry) (i : ℕ) → IsLegal (e ∷ h) → is_retired (e ∷ h) i ≡ true → enters i e ≡ false
retired_unentered h (Push j t s copies) i legal is = by (abandoned h) refl
  where
    by : (b : Bool) → abandoned h ≡ b → enters i (Push j t s copies) ≡ false
    by true gone = let no : false ≡ true = legal.0.still gone in cc
    by false kept = go (source_at h i) refl
      where
        done : is_done h i ≡ true
        done = (retired_final h i legal.1 kept is).done

        go : (b : Bool) → source_at h i ≡ b → enters i (Push j t s copies) ≡ false
        go true on = unstaged_unentered h (Push j t s copies) i legal (source_unstaged h i on)
        go false off = unentered h (Push j t s copies) i (conserved (Push j t s copies ∷ h) legal) (λ k. unawaited h k i legal.1 (worker_done h i legal.1 off done).unnamed)
retired_unentered h e i legal is = refl

-- so it has nothing
retired_unfilled : (h : Record) (i : ℕ) → IsLegal h → is_retired h i ≡ true → Unfilled h i
retired_unfilled = since_retired Unfilled (λ h i legal row. bare_unfilled h i (retired_bare h i legal row))
    (λ h e i legal is. unfilled_on h e i (conserved (e ∷ h) legal) (retired_unentered h e i legal is))

pub stays_bare : StaysBare
stays_bare h i legal is = bare_of h i (retired_sent h i legal is) (retired_unfilled h i legal is)
