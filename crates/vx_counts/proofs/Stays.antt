-- An entry that counts for others alone leaves an instance's tally.
use Rattle.std.proofs.Common.{◌≡◌, ℕ, Bool, true, false, ◌&&◌, Option, Some, None, List, [], ◌∷◌, length, sym, refl, ap, subst, ◌∙◌}
use Rattle.std.specs.Prelude.{if◌then◌else◌, count_by}
use Rattle.vx_status.specs.declared.outcome.Outcome.{Outcome}
use Rattle.vx_status.specs.declared.outcome.Outcome.TheVariants.{Delivered, Filtered, NewestDropped, NoConsumer, Attempts, Abandoned, Refusal}
use Rattle.vx_status.specs.declared.event_status.EventStatus.{EventStatus}
use Rattle.vx_status.specs.declared.event_status.EventStatus.TheVariants as event
use Rattle.vx_status.specs.declared.batch_status.BatchStatus.{BatchStatus}
use Rattle.vx_status.specs.declared.batch_status.BatchStatus.TheVariants as batch
use Rattle.vx_status.specs.Tables.{status_of}
use Rattle.vx_plan.specs.declared.class.Class.{Class}
use Rattle.vx_plan.specs.declared.class.Class.TheVariants.{Source, Transform, Sink}
use Rattle.vx_plan.specs.declared.plan.Plan.{Plan}
use Rattle.vx_plan.specs.declared.component.Component.{Component}
use Rattle.vx_record.specs.declared.instance.Instance.{Instance}
use Rattle.vx_record.specs.declared.tally.Tally.{Tally}
use Rattle.vx_record.specs.declared.entry.Entry.{Entry}
use Rattle.vx_record.specs.declared.entry.Entry.TheVariants.{Install, Read, Born, Take, Answer, Attempt, Spent, Notice, Confirm}
use Rattle.vx_record.specs.Records.{Record}
use Rattle.vx_record.specs.Legal.{IsLegal}
use Rattle.vx_record.specs.Reads.{bytes_of, new_lines, new_overlong, new_undecodable}
use Rattle.vx_record.specs.Confirms.{Birth, confirmed_in}
use Rattle.vx_record.specs.Installs.{component_of}
use Rattle.vx_record.specs.Tally.{nothing_counted}
use Rattle.vx_record.specs.Tallies.{is_batch_of, is_first, one_if, same_end, same_status, source_tally, transform_tally, sink_tally, tally}
use Rattle.vx_record.specs.Growth.{bytes_in, lines_in, overlong_in, undecodable_in, events_in, batches_in, notices_in, takes_in, outputs_in, dropped_in, attempts_in, sent_in, unread_in, newest_in, spent_in}
use Rattle.vx_record.proofs.OnePlace.{conserved}
use Rattle.vx_counts.specs.Classes.{class_at, IsGiver}
use Rattle.vx_counts.specs.Meets.{LeavesBe}
use Rattle.vx_counts.specs.Laws.{OthersStay}
use Rattle.vx_record.proofs.SpentParcels.{and_false}
use Rattle.vx_counts.proofs.Passing.{unread_by, unread_none, newest_by, newest_none, held_none, held_by}
use Rattle.vx_counts.proofs.Classes.{by_class, tally_is}
use Rattle.vx_counts.proofs.Fields.{raised, more_by, grows_aside}

-- WHAT AN ENTRY ADDS TO EACH NUMBER
none_so : (b m : Bool) → m ≡ false → ◌≡◌ {A = ℕ} (if b && m then 1 else 0) 0
none_so true m none = ap (λ (x : Bool). if x then 1 else 0) none
none_so false m none = refl

no_bytes : (e : Entry) (h : Record) (i : ℕ) → LeavesBe h i e → bytes_in h i e ≡ 0
no_bytes (Read j stream took) h i be = ap (λ b. if b then length (bytes_of took) else 0) be
no_bytes e h i be = refl

no_lines : (e : Entry) (h : Record) (i : ℕ) → LeavesBe h i e → lines_in h i e ≡ 0
no_lines (Read j stream took) h i be = ap (λ b. if b then length (new_lines h i stream took) else 0) be
no_lines e h i be = refl

no_overlong : (e : Entry) (h : Record) (i : ℕ) → LeavesBe h i e → overlong_in h i e ≡ 0
no_overlong (Read j stream took) h i be = ap (λ b. if b then new_overlong h i stream took else 0) be
no_overlong e h i be = refl

no_undecodable : (e : Entry) (h : Record) (i : ℕ) → LeavesBe h i e → undecodable_in h i e ≡ 0
no_undecodable (Read j stream took) h i be = ap (λ b. if b then new_undecodable h i stream took else 0) be
no_undecodable e h i be = refl

no_events : (e : Entry) (h : Record) (i : ℕ) → LeavesBe h i e → events_in h i e ≡ 0
no_events (Born j b place copies events waits stream end) h i be = ap (λ x. if x then length events else 0) be
no_events e h i be = refl

abbrev births_if : Birth → Bool → List Birth
births_if birth b = if b then birth ∷ [] else []

no_batches : (e : Entry) (h : Record) (i : ℕ) → LeavesBe h i e → batches_in h i e ≡ 0
no_batches (Born j b place copies events waits stream end) h i be = ap (λ x. length (births_if (record { batch = b; waits = waits; stream = stream; end = end }) x)) be
no_batches e h i be = refl

no_notices : (e : Entry) (h : Record) (i : ℕ) → LeavesBe h i e → (status : BatchStatus) → notices_in status h i e ≡ 0
no_notices (Notice b status) h i be = λ s. none_so (same_end status s) (is_batch_of h i b) be
no_notices e h i be = λ s. refl

no_positions : (e : Entry) (h : Record) (i : ℕ) → LeavesBe h i e → confirmed_in i e ≡ []
no_positions (Confirm j positions made) h i be = ap (λ b. if b then positions else []) be
no_positions e h i be = refl

no_takes : (e : Entry) (h : Record) (i : ℕ) → LeavesBe h i e → takes_in h i e ≡ 0
no_takes (Take j s copies) h i be = ap (λ b. if b then 1 else 0) be
no_takes e h i be = refl

no_outputs : (e : Entry) (h : Record) (i : ℕ) → LeavesBe h i e → outputs_in h i e ≡ 0
no_outputs (Answer j outputs discarded kept) h i be = ap (λ b. if b then length outputs else 0) be
no_outputs e h i be = refl

no_dropped : (e : Entry) (h : Record) (i : ℕ) → LeavesBe h i e → dropped_in h i e ≡ 0
no_dropped (Answer j outputs discarded kept) h i be = ap (λ b. if b then count_by (is_first h i) discarded else 0) be
no_dropped e h i be = refl

no_attempts : (e : Entry) (h : Record) (i : ℕ) → LeavesBe h i e → attempts_in h i e ≡ 0
no_attempts (Attempt j copies bytes reply) h i be = ap (λ b. if b then 1 else 0) be
no_attempts e h i be = refl

no_sent : (e : Entry) (h : Record) (i : ℕ) → LeavesBe h i e → sent_in h i e ≡ 0
no_sent (Attempt j copies bytes reply) h i be = ap (λ b. if b then length bytes else 0) be
no_sent e h i be = refl

no_unread : (e : Entry) (h : Record) (i : ℕ) → IsLegal (e ∷ h) → LeavesBe h i e → IsGiver (class_at h i) → unread_in h i e ≡ 0
no_unread (Spent j c NoConsumer) h i legal be giver = let x = be giver in unread_by h i x.giver j c x.copies (conserved h legal.1) legal.0.row.live.2 x.put ∙ ap one_if x.apart
no_unread (Spent j c outcome) h i legal be giver = unread_none h i j c outcome refl
no_unread e h i legal be giver = refl

no_newest : (e : Entry) (h : Record) (i : ℕ) → IsLegal (e ∷ h) → LeavesBe h i e → class_at h i ≡ Some Sink → newest_in h i e ≡ 0
no_newest (Spent j c NewestDropped) h i legal be sink =
    let x = be sink in newest_by h i x.giver x.target j c x.copies (conserved h legal.1) legal.0.row.live.2 x.put ∙ ap one_if x.apart
no_newest (Spent j c outcome) h i legal be sink = newest_none h i j c outcome refl
no_newest e h i legal be sink = refl

begins_none : (h : Record) (i j c : ℕ) (outcome : Outcome) (status : EventStatus) → IsLegal (Spent j c outcome ∷ h) → is_first h i c ≡ false →
    spent_in status h i (Spent j c outcome) ≡ 0
begins_none h i j c outcome status legal none =
    held_by status h i j c outcome (conserved h legal.1) legal.0.row.live.2
    ∙ ap (λ b. one_if (same_status (status_of outcome) status && b)) none
    ∙ ap one_if (and_false (same_status (status_of outcome) status))

-- a status that a sink's counts have
no_held : (e : Entry) (h : Record) (i : ℕ) → IsLegal (e ∷ h) → LeavesBe h i e → class_at h i ≡ Some Sink →
    (status : EventStatus) → same_status event.Dropped status ≡ false → spent_in status h i e ≡ 0
no_held (Spent j c Delivered) h i legal be sink status counted = begins_none h i j c Delivered status legal (be sink)
no_held (Spent j c Filtered) h i legal be sink status counted = held_none status h i j c Filtered counted
no_held (Spent j c NewestDropped) h i legal be sink status counted = held_none status h i j c NewestDropped counted
no_held (Spent j c NoConsumer) h i legal be sink status counted = held_none status h i j c NoConsumer counted
no_held (Spent j c Attempts) h i legal be sink status counted = begins_none h i j c Attempts status legal (be sink)
no_held (Spent j c Abandoned) h i legal be sink status counted = begins_none h i j c Abandoned status legal (be sink)
no_held (Spent j c Refusal) h i legal be sink status counted = begins_none h i j c Refusal status legal (be sink)
no_held e h i legal be sink status counted = refl

-- BY CLASS
class_same : (k : Class) (e : Entry) (h : Record) (i : ℕ) → IsLegal (e ∷ h) → class_at h i ≡ Some k → LeavesBe h i e → by_class (e ∷ h) i k ≡ by_class h i k
class_same k e h i legal class be = grows_aside k h i e legal (no_positions e h i be) ∙ nothing k class
  where
    nothing : (k : Class) → class_at h i ≡ Some k → raised (by_class h i k) (more_by h i e k) ≡ by_class h i k
    nothing Source class = λ t. raised (source_tally h i) (record nothing_counted {
      read = no_bytes e h i be t;
      lines = no_lines e h i be t;
      overlong = no_overlong e h i be t;
      undecodable = no_undecodable e h i be t;
      events = no_events e h i be t;
      unread = no_unread e h i legal be (subst IsGiver (sym class) tt) t;
      batches = no_batches e h i be t;
      delivered = no_notices e h i be batch.Delivered t;
      errored = no_notices e h i be batch.Errored t;
      rejected = no_notices e h i be batch.Rejected t;
    })
    nothing Transform class = λ t. raised (transform_tally h i) (record nothing_counted {
      unread = no_unread e h i legal be (subst IsGiver (sym class) tt) t;
      taken = no_takes e h i be t;
      sent = no_outputs e h i be t;
      dropped = no_dropped e h i be t;
    })
    nothing Sink class = λ t. raised (sink_tally h i) (record nothing_counted {
      delivered = no_held e h i legal be class event.Delivered refl t;
      errored = no_held e h i legal be class event.Errored refl t;
      rejected = no_held e h i legal be class event.Rejected refl t;
      taken = no_takes e h i be t;
      newest = no_newest e h i legal be class t;
      attempts = no_attempts e h i be t;
      bytes = no_sent e h i be t;
    })

-- what runs nothing counted nothing
none_is : (h : Record) (i : ℕ) → class_at h i ≡ None → tally h i ≡ nothing_counted
none_is h i = go (component_of h i)
  where
    go : (o : Option Component) → elim o as (λ _. Option Class) [ None ↦ None | Some c ↦ Some c.class ] ≡ None →
        elim o as (λ _. Tally) [ None ↦ nothing_counted | Some c ↦ by_class h i c.class ] ≡ nothing_counted
    go None is = refl
    go (Some c) is = absurd (cc)

stays : (e : Entry) (h : Record) (i : ℕ) → IsLegal (e ∷ h) → class_at (e ∷ h) i ≡ class_at h i → LeavesBe h i e → tally (e ∷ h) i ≡ tally h i
stays e h i legal same be = go (class_at h i) refl
  where
    go : (o : Option Class) → class_at h i ≡ o → tally (e ∷ h) i ≡ tally h i
    go None class = none_is (e ∷ h) i (same ∙ class) ∙ sym (none_is h i class)
    go (Some k) class = tally_is (e ∷ h) i k (same ∙ class) ∙ class_same k e h i legal class be ∙ sym (tally_is h i k class)

-- the first entry
begins : (version now : ℕ) (plan : Plan) (once : Bool) (instances : List Instance) (i : ℕ) → tally (Install version plan once instances now ∷ []) i ≡ nothing_counted
begins version now plan once instances i = go (component_of (Install version plan once instances now ∷ []) i)
  where
    nothing : (k : Class) → by_class (Install version plan once instances now ∷ []) i k ≡ nothing_counted
    nothing Source = refl
    nothing Transform = refl
    nothing Sink = refl

    go : (o : Option Component) → elim o as (λ _. Tally) [ None ↦ nothing_counted | Some c ↦ by_class (Install version plan once instances now ∷ []) i c.class ] ≡ nothing_counted
    go None = refl
    go (Some c) = nothing c.class

pub others_stay : OthersStay
others_stay (Install version plan once instances now) h i legal be =
    ap (λ (r : Record). tally (Install version plan once instances now ∷ r) i) legal.0.row.first
    ∙ begins version now plan once instances i
    ∙ sym (ap (λ (r : Record). tally r i) legal.0.row.first)
others_stay e h i legal be = stays e h i legal refl be
