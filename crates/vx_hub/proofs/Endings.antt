-- What giving a run up leaves, which instances may end, and what is told of them.
use borrow.Author.Count.{below_more}
use Rattle.std.proofs.Common.{◌≡◌, ◌∙◌, ◌↔◌, ℕ, ◌+◌, ◌<◌, ◌⊎◌, inl, inr, Bool, true, false, List, [], ◌∷◌, Option, Some, None, IfSome, IfNone, IsSome, length, refl, sym, ap, subst, arith}
use Rattle.std.specs.Prelude.{◌==◌, ◌&&◌, not, is_some, IsSomeAnd, slice_get}
use Rattle.std.proofs.lemmas.Bool.{and_from, and_parts, cases_eq, eqb-true, or_cases, or_left, or_right}
use Rattle.std.proofs.lemmas.Bool.Decides.{nat_tests}
use Rattle.vx_ends.specs.Observation.{Observation}
use Rattle.vx_status.specs.declared.outcome.Outcome.{Outcome}
use Rattle.vx_status.specs.declared.outcome.Outcome.TheVariants.{Abandoned}
use Rattle.vx_ledger.specs.Ledger.{Ledger, AreKept, live_count}
use Rattle.vx_ledger.specs.declared.open_batch.OpenBatch.{OpenBatch}
use Rattle.vx_record.specs.declared.abandon_cause.AbandonCause.{AbandonCause}
use Rattle.vx_record.specs.declared.abandon_cause.AbandonCause.TheVariants.{WantOfMemory}
use Rattle.vx_record.specs.declared.entry.Entry.{Entry}
use Rattle.vx_record.specs.declared.entry.Entry.TheVariants.{Install, Lease, Home, Spent, Notice, Closed, Retired, Abandon}
use Rattle.vx_record.specs.Records.{Record}
use Rattle.vx_record.specs.Abandoning.{abandoned}
use Rattle.vx_record.specs.Additions.{OnlyAdds}
use Rattle.vx_record.specs.Ceasing.{cause_of}
use Rattle.vx_record.specs.Copies.{IsLive, next_copy}
use Rattle.vx_record.specs.Ending.{MayClose, MayRetire}
use Rattle.vx_record.specs.Installs.{component_of, device_at, is_closed, is_retired}
use Rattle.vx_record.specs.Legal.{Follows, IsLegal}
use Rattle.vx_value.specs.Texts.{is_empty}
use Rattle.vx_record.specs.Lists.{held, is_bare}
use Rattle.vx_record.specs.Owing.{is_done}
use Rattle.vx_record.specs.Places.{Place, owner}
use Rattle.vx_record.specs.Places.Place.{Held}
use Rattle.vx_record.specs.Shifts.{at}
use Rattle.vx_record.specs.Turns.{is_out}
use Rattle.vx_record.proofs.Adding.{adds_both, adds_narrower, adds_wider, carry}
use Rattle.vx_record.proofs.Bare.{retired_bare}
use Rattle.vx_record.proofs.Ceasing.{unabandoned}
use Rattle.vx_counts.proofs.Once.{itself}
use Rattle.vx_balance.specs.Balances.{Balances}
use Rattle.vx_balance.specs.Live.{live_in, live_copies}
use Rattle.vx_balance.proofs.Settling.{settled_closes}
use Rattle.vx_balance.proofs.Sums.{sum_some}
use Rattle.vx_record.proofs.Shifting.{stands_at}
use Rattle.vx_places.specs.Looks.{IsBare, IsClear}
use Rattle.vx_places.specs.Capacities.{SameCapacities}
use Rattle.vx_places.proofs.Recorded.{bare_is_bare, clear_bare_is}
use Rattle.vx_tasks.specs.Joining.{joins_at}
use Rattle.vx_tasks.specs.declared.task.Task.{Task}
use Rattle.vx_instances.specs.declared.state.InstanceState.{InstanceState}
use Rattle.vx_instances.specs.Knowing.{HasUnleasedTask, IsKnown}
use Rattle.vx_instances.specs.Staying.{EachState, OneState, SameFlags, IsShut}
use Rattle.vx_moves.specs.declared.engine.EngineState.{EngineState}
use Rattle.vx_moves.specs.Leaving.{Leaves}
use Rattle.vx_moves.specs.Spends.{IsSpendOf, OnlySpends}
use Rattle.vx_moves.specs.Stands.{Stands, Steps}
use Rattle.vx_moves.proofs.Moving.{seen_kept}
use Rattle.vx_ready.specs.Asking.{IsSettled}
use Rattle.vx_ready.proofs.Knowing.{known, runs}
use Rattle.vx_ready.proofs.Testing.{empty_tests, same_tests}
use Rattle.vx_landing.proofs.Answering.{none_known, over_known}
use Rattle.vx_landing.proofs.LandedEngine.{over_stays}
use Rattle.vx_hub.specs.Ending.{GivesUpOf, GivesUp, IsGivenUp, Rests, IsClosing, ClosesDown, GivesUpAt, GivesUpBelow}
use Rattle.vx_hub.specs.Standing.{IsWell, IsWellAt}
use Rattle.vx_hub.specs.Reporting.{IsNameOf, IsClassOf, HasLive}
use Rattle.vx_hub.proofs.Resting.{some_then, adds_step, leaves_rest, rests_both}

-- KINDS
of_wider : (cause : AbandonCause) (i : ℕ) (h : Record) (e : Entry) → GivesUpOf i h e → GivesUp cause h e
of_wider cause i h (Spent j c outcome) kind = (kind.1, kind.2)
of_wider cause i h (Notice b status) kind = tt
of_wider cause i h (Closed j) kind = kind.1
of_wider cause i h e kind = absurd kind

spend_unleased : (i : ℕ) (h : Record) (e : Entry) → Follows h e → IsSpendOf i Abandoned h e → is_out h i ≡ false →
    GivesUpOf i h e × (is_out (e ∷ h) i ≡ false)
spend_unleased i h (Spent j c outcome) follows kind unleased = ((kind.0, rw kind.0 unleased, kind.1), unleased)
spend_unleased i h (Notice b status) follows kind unleased = (tt, unleased)
spend_unleased i h e follows kind unleased = absurd kind

spend_out : (i j : ℕ) (o : Outcome) (h : Record) (e : Entry) → IsSpendOf i o h e → is_out (e ∷ h) j ≡ is_out h j
spend_out i j o h (Lease k worker now polls) kind = absurd kind
spend_out i j o h (Home k) kind = absurd kind
spend_out i j o h e kind = refl

cause_on : (cause : AbandonCause) (h : Record) (e : Entry) → GivesUp cause h e → cause_of h ≡ Some cause → cause_of (e ∷ h) ≡ Some cause
cause_on cause h (Abandon other) kind is = ap Some kind
cause_on cause h e kind is = is

closed_on : (i n : ℕ) (h : Record) (e : Entry) → GivesUpOf n h e → (device_at h i ≡ true → is_closed h i ≡ true) → device_at (e ∷ h) i ≡ true → is_closed (e ∷ h) i ≡ true
closed_on i n h (Closed j) kind is device = or_right (j == i) (is_closed h i) (is device)
closed_on i n h (Spent j c outcome) kind is device = is device
closed_on i n h (Notice b status) kind is device = is device
closed_on i n h e kind is device = absurd kind

-- the port of what is retired is closed for good, if it has one
pub retired_closed : (h : Record) (i : ℕ) → IsLegal h → is_retired h i ≡ true → device_at h i ≡ true → is_closed h i ≡ true
retired_closed [] i legal is device = cc
retired_closed (Install version plan once instances now ∷ h) i legal is device = let no : is_retired [] i ≡ true = rw legal.0.row.first at is in cc
retired_closed (Closed j ∷ h) i legal is device = or_right (j == i) (is_closed h i) (retired_closed h i legal.1 is device)
retired_closed (Retired j ∷ h) i legal is device = elim (or_cases (j == i) (is_retired h i) is) [
  | inl here ↦ let same : j ≡ i = eqb-true j i here in rw (← same) (legal.0.row.port_closed (rw same device))
  | inr before ↦ retired_closed h i legal.1 before device
]
retired_closed (e ∷ h) i legal is device = retired_closed h i legal.1 is device

module _ {P : Type 0} where
  -- STATES
  flags_here : (o : Option (InstanceState P)) → IfSome o (λ is. IsSomeAnd o (λ was. SameFlags was is))
  flags_here None = tt
  flags_here (Some state) = assumption

  by_one : (o n : Option (InstanceState P)) → IsSomeAnd o (λ was. IsSomeAnd n (λ is. IsShut was is)) →
      IfSome n (λ is. IsSomeAnd o (λ was. SameFlags was is))
  by_one None n one = absurd one
  by_one (Some was) None one = absurd one
  by_one (Some was) (Some is) one = rw one.rest (assumption)

  shut_flags : (i : ℕ) (old new : List (InstanceState P)) → OneState IsShut i old new → EachState SameFlags old new
  shut_flags i old new one j = elim (cases_eq j i) [
    | inl same ↦ rw same (by_one (slice_get old i) (slice_get new i) one.one)
    | inr other ↦ rw (one.others j other) (flags_here (slice_get old j))
  ]

  module _ {observe : P → Observation} where
    -- CLOSING DOWN
    pub closes_down : {i : ℕ} {old new : EngineState P} {states : List (InstanceState P)} → is_out old.log i ≡ false → OneState IsShut i old.states states →
        length states ≡ length old.states → Steps observe (Closed i) (record old { states = states }) new →
        Leaves (record old { states = states }) new → ClosesDown observe i old new
    closes_down {i} {old} {new} {states} unleased one size steps leaves =
        let shut : Rests old (record old { states = states }) = assumption (shut_flags i old.states states one) in record {
          stands = steps.stands;
          rests = rests_both shut (leaves_rest leaves steps.size (λ j. ap (λ (h : Record). is_out h j) steps.noted));
          only = adds_step (GivesUpOf i) steps (refl, unleased);
          closed = λ device. ap (λ (h : Record). is_closed h i) steps.noted ∙ or_left (i == i) (is_closed old.log i) (itself i);
          still = λ p. ap (λ (h : Record). at h p) steps.noted;
        }

    -- GIVING UP
    pub spends_out : {i : ℕ} {o : Outcome} {old new : EngineState P} → OnlySpends observe i o old new → (j : ℕ) →
        is_out new.log j ≡ is_out old.log j
    spends_out {i} {o} {old} {new} spent j =
        carry (IsSpendOf i o) (λ h. is_out h j ≡ is_out old.log j) (λ h e follows kind same. spend_out i j o h e kind ∙ same) old.log new.log spent.only refl

    pub gives_up : {i : ℕ} {old mid new : EngineState P} → is_out old.log i ≡ false → OnlySpends observe i Abandoned old mid →
        ((p : Place) → owner p ≡ i → at mid.log p ≡ []) → ClosesDown observe i mid new → GivesUpAt observe i old new
    gives_up {i} {old} {mid} {new} unleased spent bare down = record {
      stands = down.stands;
      rests = rests_both (leaves_rest spent.leaves spent.size (spends_out spent)) down.rests;
      only = adds_both (GivesUpOf i) old.log mid.log new.log
          (adds_narrower (IsSpendOf i Abandoned) (GivesUpOf i) (λ h. is_out h i ≡ false) (spend_unleased i) old.log mid.log spent.only unleased) down.only;
      up = λ unleased. record { bare = λ p own. down.still p ∙ bare p own; closed = down.closed };
      empty = λ p none. down.still p ∙ spent.empty p none;
    }

    pub one_more : {n : ℕ} {old mid new : EngineState P} → GivesUpBelow observe n old mid → GivesUpAt observe n mid new →
        GivesUpBelow observe (n + 1) old new
    one_more {n} {old} {mid} {new} below one = record {
      stands = one.stands;
      rests = rests_both below.rests one.rests;
      only = λ cause. adds_both (GivesUp cause) old.log mid.log new.log (below.only cause)
          (adds_wider (GivesUpOf n) (GivesUp cause) (of_wider cause n) mid.log new.log one.only);
      up = below_more (λ k. is_out old.log k ≡ false → IsGivenUp new.log k) n
          (λ k l unleased. let was = below.up k l unleased in record {
            bare = λ p own. one.empty p (was.bare p own);
            closed = carry (GivesUpOf n) (λ h. device_at h k ≡ true → is_closed h k ≡ true) (λ h e follows kind is. closed_on k n h e kind is) mid.log new.log one.only was.closed;
          })
          (λ unleased. one.up (below.rests.out n ∙ unleased));
    }

    pub still_over : {n : ℕ} {old new : EngineState P} → GivesUpBelow observe n old new → abandoned old.log ≡ true → abandoned new.log ≡ true
    still_over {old = old} {new} below over = over_stays (GivesUp WantOfMemory) old.log new.log (below.only WantOfMemory) over

    -- ABANDONMENTS
    pub abandon_rests : {cause : AbandonCause} {old new : EngineState P} → Steps observe (Abandon cause) old new →
        new.run ≡ record old.run { abandoned = Some cause } →
        SameCapacities old.places new.places → new.states ≡ old.states → Rests old new
    abandon_rests {old = old} {new} steps run capacities states = record {
      flags = λ i. rw states (flags_here (slice_get old.states i));
      size = steps.size;
      capacities = capacities;
      plan = cc;
      short = cc;
      latest = cc;
      out = λ i. ap (λ (h : Record). is_out h i) steps.noted;
    }

    pub abandons : {cause : AbandonCause} {n : ℕ} {old mid new : EngineState P} → Steps observe (Abandon cause) old mid →
        GivesUpBelow observe n mid new →
        OnlyAdds (GivesUp cause) old.log new.log × (cause_of new.log ≡ Some cause)
    abandons {cause} {old = old} {mid} {new} steps below = (
      adds_both (GivesUp cause) old.log mid.log new.log (adds_step (GivesUp cause) steps refl) (below.only cause),
      carry (GivesUp cause) (λ h. cause_of h ≡ Some cause)
          (λ h e follows kind is. cause_on cause h e kind is) mid.log new.log (below.only cause) (ap (λ (h : Record). cause_of h) steps.noted),
    )

-- AN INSTANCE
module _ {P : Type 0} {observe : P → Observation} {engine : EngineState P} (stands : Stands observe engine) (i : ℕ) {state : InstanceState P}
    (there : slice_get engine.states i ≡ Some state) where
  k : IsKnown observe state engine.log i
  k = known observe engine stands i state there

  pub name_is : IsNameOf engine.log i state.name
  name_is = some_then (component_of engine.log i) k.fitted.component (λ c is. is.name)

  pub class_is : IsClassOf engine.log i state.class
  class_is = some_then (component_of engine.log i) k.fitted.component (λ c is. is.class)

  pub retired_is : state.facts.retired ≡ is_retired engine.log i
  retired_is = k.facts.retired

  -- what is unleased isn't out, and what isn't out is unleased
  pub unleased_is : IsSome state.task ↔ (is_out engine.log i ≡ false)
  unleased_is = go state.task k.unleased k.away
    where
      go : (o : Option (Task P)) → IfSome o (HasUnleasedTask observe state.facts engine.log i) →
          IfNone o (is_out engine.log i ≡ true) → IsSome o ↔ (is_out engine.log i ≡ false)
      go None unleased away = (λ some. cc, λ unleased. cc)
      go (Some task) unleased away = (λ some. unleased.unleased, λ unleased. refl)

  pub settled_there : IsSome state.task → IsWell engine → engine.run.abandoned ≡ None → IsSettled engine i
  settled_there some well going =
      let w : IsWellAt state = rw there at (well.states i) in record { unleased = rw there (assumption (some, w)); going = going }

  -- what is closing may end where it is done, or bare in a run that was given up
  pub may_end : IsClosing engine i → (is_done engine.log i ≡ true) ⊎
      ((abandoned engine.log ≡ true) × (is_bare engine.log i ≡ true)) → MayRetire engine.log i
  may_end closing over = record {
    known = ap is_some (runs observe engine stands i state there).there;
    unleased = unleased_is.0 (rw there at closing.unleased);
    unretired = closing.unretired;
    port_closed = closing.closed;
    over = over;
  }

  -- and what may end is closing
  pub closing_so : MayRetire engine.log i → IsClosing engine i
  closing_so may = record { unleased = rw there (unleased_is.1 may.unleased); closed = may.port_closed; unretired = may.unretired }

  -- its port may be closed where the run was given up, if it has one
  pub may_close : device_at engine.log i ≡ true → state.facts.closed ≡ false → abandoned engine.log ≡ true → MayClose engine.log i
  may_close device unshut over = record { device = device; unclosed = sym k.facts.closed ∙ unshut; over = inr over }

  -- where the run was given up what is closing may end bare, and only bare
  pub bare_may : IsClosing engine i → is_some engine.run.abandoned ≡ true → is_bare engine.log i ≡ true → MayRetire engine.log i
  bare_may closing over bare = may_end closing (inr (over_known observe engine stands over, bare))

  pub bare_not : is_bare engine.log i ≡ false → MayRetire engine.log i → ⊥
  bare_not some may = let bare = retired_bare engine.log i stands.legal may in cc

  -- what is closing is unleased
  pub closing_unleased : IsClosing engine i → is_out engine.log i ≡ false
  closing_unleased closing = unleased_is.0 (rw there at closing.unleased)

  -- nothing stands at it exactly where nothing is seen and, if it merges, nothing is kept
  pub bare_seen : i < length engine.states → is_out engine.log i ≡ false → joins_at engine.log i ≡ false → (b : Bool) → (b ≡ true) ↔ IsBare engine.places i → b ≡ is_bare engine.log i
  bare_seen within unleased alone b says =
      let law = bare_is_bare engine.log engine.places i stands.legal stands.places in
      let kept = seen_kept engine.places i (rw stands.size within) (stands.kept i unleased alone) in
      same_tests b (is_bare engine.log i) (λ on. law.0 (says.0 on), λ bare. says.1 (law.1 kept bare))

  pub bare_kept : (clear none : Bool) → (clear ≡ true) ↔ IsClear engine.places i → none ≡ is_empty (at engine.log (Held i)) → (clear && none) ≡ is_bare engine.log i
  bare_kept clear none says is =
      let law = clear_bare_is engine.log engine.places i stands.legal stands.places in
      let same = ap (λ (qs : List (List ℕ)). is_empty qs) (sym (stands_at engine.log (Held i) stands.legal)) in
      let tests = empty_tests (held engine.log i) in
      same_tests (clear && none) (is_bare engine.log i) (
        λ both. let parts = and_parts clear none both in law.0 (says.0 parts.0, tests.0 (sym same ∙ sym is ∙ parts.1)),
        λ bare. let parts = law.1 bare in and_from clear none (says.1 parts.0) (is ∙ same ∙ tests.1 parts.1),
      )

  -- a run that wasn't given up
  module _ (none : is_some engine.run.abandoned ≡ false) where
    going : abandoned engine.log ≡ false
    going = unabandoned engine.log (none_known observe engine stands none)

    pub unsettled_not : IsClosing engine i → (IsSettled engine i → ⊥) → IsWell engine ⊎ (abandoned engine.log ≡ true) → ⊥
    unsettled_not closing unsettled (inl well) = unsettled (settled_there (rw there at closing.unleased) well (stands.run.cause ∙ none_known observe engine stands none))
    unsettled_not closing unsettled (inr over) = let still = going in cc

    pub undone_not : is_done engine.log i ≡ false → MayRetire engine.log i → ⊥
    undone_not undone may = let still = going in elim may.over [ inl done ↦ cc | inr over ↦ cc ]

-- LIVE COPIES
-- the first of some rows has a live copy
first_live : (next : ℕ) (row : OpenBatch) (rows : List OpenBatch) → AreKept next (row ∷ rows) →
    0 < live_count row.number row.number (row ∷ rows)
first_live next row rows kept = let place = kept.2 in let some = kept.3 in grind (arith, nat_tests, place, some)

in_is : (h : Record) (b c : ℕ) → c < next_copy h → 0 < live_in h b c → IsLive h c
in_is h b c made some = grind (arith, nat_tests)

live_of : (account : Ledger) (h : Record) (rows : List OpenBatch) → account.open_rows ≡ rows → Balances account h →
    (rows ≡ [] → ⊥) → HasLive h
live_of account h [] is balances some = absurd (some refl)
live_of account h (row ∷ rows) is balances some =
    let b = row.number in
    let kept = subst (AreKept account.next) is balances.kept.rows in
    let many : 0 < live_copies h b = subst (λ n. 0 < n) (sym (ap (live_count b b) is) ∙ balances.live b) (first_live account.next row rows kept) in
    let found = sum_some (live_in h b) (next_copy h) many in
    (found.0, in_is h b found.0 found.1 found.2)

-- a copy is live exactly where a batch is open
pub live_is : {account : Ledger} {h : Record} (settled : Bool) → (settled ≡ true) ↔ (account.open_rows ≡ []) →
    Balances account h → (not settled ≡ true) ↔ HasLive h
live_is {account} {h} true says balances = (λ e. cc, λ live. absurd ((settled_closes account h balances (says.0 refl)).0 live.0 live.1))
live_is {account} {h} false says balances = (λ e. live_of account h account.open_rows refl balances (λ none. let contrary = says.1 none in cc), λ live. refl)
