-- What a run adds to its record is of moments that its clock gave.
use Rattle.std.proofs.Common.{◌≡◌, ◌∙◌, ◌⊎◌, inl, inr, ℕ, Bool, true, false, ◌∷◌, ◌++◌, Option, Some, None, refl, sym, subst, arith}
use Rattle.std.specs.Prelude.{max, ◌&&◌, nat_lt, if◌then◌else◌, Result, Ok, Err, IfSome, IfNone, OnErr}
use Rattle.vx_record.specs.declared.abandon_cause.AbandonCause.{AbandonCause}
use Rattle.vx_record.specs.declared.abandon_cause.AbandonCause.TheVariants.{Grace}
use Rattle.vx_record.specs.declared.entry.Entry.{Entry}
use Rattle.vx_record.specs.declared.entry.Entry.TheVariants as entry
use Rattle.vx_record.specs.Additions.{OnlyAdds}
use Rattle.vx_record.specs.Legal.{IsLegal}
use Rattle.vx_record.specs.Records.{Record}
use Rattle.vx_record.specs.Sourcing.{failed_starts}
use Rattle.vx_record.specs.Reads.{bytes_taken}
use Rattle.vx_record.specs.Records.{capped}
use Rattle.vx_record.proofs.Adding.{adds_none, adds_one, adds_both, adds_wider, carry}
use Rattle.vx_record.proofs.OnePlace.{legal_before}
use Rattle.vx_sourcecore.specs.declared.source.Turned.{Turned}
use Rattle.vx_sourcecore.specs.declared.source.Turned.TheVariants as turned
use Rattle.vx_tasks.specs.declared.confirming.Confirmed.{Confirmed}
use Rattle.vx_tasks.specs.declared.landing.Done.{Done}
use Rattle.vx_tasks.specs.declared.landing.Done.TheVariants as done
use Rattle.vx_tasks.specs.declared.landing.Landing.{Landing}
use Rattle.vx_tasks.specs.Out.{confirm_entries, turn_entry}
use Rattle.vx_moves.specs.Answering.{answer_by}
use Rattle.vx_landing.specs.Landings.{ComesBehind, IsNotedSo, done_entries, observed_on}
use Rattle.vx_hub.specs.Collecting.{IsTakeOf}
use Rattle.vx_hub.specs.Ending.{GivesUp}
use Rattle.vx_hub.specs.Failures.{abandon_cause}
use Rattle.vx_hub.specs.Leases.{HasLeased}
use Rattle.vx_hub.specs.Merges.{IsMergeAt, HasDoneOne}
use Rattle.vx_hub.specs.Pushing.{IsMoveOf}
use Rattle.vx_hub.specs.declared.fatal.Fatal.{Fatal}
use Rattle.vx_hub.specs.declared.fatal.Fatal.TheVariants as fatal
use Rattle.vx_run.specs.Moments.{IsTimely, AreTimely, IsTimeless}

-- one entry
one_on : (Kind : Record → Entry → Type 0) (h : Record) (e : Entry) → IsLegal (e ∷ h) → Kind h e → OnlyAdds Kind h (e ∷ h)
one_on Kind h e legal kind = adds_one Kind h h (e ∷ h) e (adds_none Kind h h refl) legal.0 kind refl

-- KINDS THAT TELL NO MOMENT
moves_timeless : (i : ℕ) (h : Record) (e : Entry) → IsMoveOf i h e → IsTimeless h e
moves_timeless i h (entry.Split j ports copies event children) kind = tt
moves_timeless i h (entry.Push j t s copies) kind = tt
moves_timeless i h (entry.Spent j c outcome) kind = tt
moves_timeless i h (entry.Notice b status) kind = tt
moves_timeless i h e kind = absurd kind

behind_timeless : (i : ℕ) (h : Record) (e : Entry) → ComesBehind i h e → IsTimeless h e
behind_timeless i h (entry.Born j b place copies events waits stream end) kind = tt
behind_timeless i h (entry.Spent j c outcome) kind = tt
behind_timeless i h (entry.Notice b status) kind = tt
behind_timeless i h (entry.Home j) kind = tt
behind_timeless i h (entry.Closed j) kind = tt
behind_timeless i h e kind = absurd kind

cause_timeless : (why : Fatal) (h : Record) → IsTimeless h (entry.Abandon (abandon_cause why))
cause_timeless (fatal.Numbers next wanted) h = tt
cause_timeless fatal.WantOfMemory h = tt

gives_timeless : (why : Fatal) (h : Record) (e : Entry) → GivesUp (abandon_cause why) h e → IsTimeless h e
gives_timeless why h (entry.Spent j c outcome) kind = tt
gives_timeless why h (entry.Notice b status) kind = tt
gives_timeless why h (entry.Closed j) kind = tt
gives_timeless why h (entry.Abandon cause) kind = subst (λ (c : AbandonCause). IsTimeless h (entry.Abandon c)) (sym kind) (cause_timeless why h)
gives_timeless why h e kind = absurd kind

turn_timeless : (h : Record) (i : ℕ) (took : Turned) → IsTimeless h (turn_entry h i took)
turn_timeless h i (turned.Failed at_start) = go (at_start && nat_lt (failed_starts h i) 4)
  where
    go : (b : Bool) → IsTimeless h (if b then entry.Idle i true else entry.SourceLost i (capped (bytes_taken h i)) at_start)
    go true = tt
    go false = tt
turn_timeless h i turned.Idle = tt
turn_timeless h i (turned.Lines stream n room cut) = tt
turn_timeless h i (turned.StreamEnded stream cut) = tt
turn_timeless h i (turned.AllEnded stream cut) = tt

-- WHAT EACH CALL ADDS
pub moved_on : (i : ℕ) (old new : Record) → OnlyAdds (IsMoveOf i) old new → OnlyAdds IsTimeless old new
moved_on i = adds_wider (IsMoveOf i) IsTimeless (moves_timeless i)

pub given_on : (why : Fatal) (cause : AbandonCause) (old new : Record) → cause ≡ abandon_cause why → OnlyAdds (GivesUp cause) old new → OnlyAdds IsTimeless old new
given_on why cause old new is adds =
    adds_wider (GivesUp (abandon_cause why)) IsTimeless (gives_timeless why) old new (subst (λ (c : AbandonCause). OnlyAdds (GivesUp c) old new) is adds)

confirm_on : (i : ℕ) (confirmed : Option Confirmed) (h : Record) → IsLegal (confirm_entries i confirmed ++ h) → OnlyAdds IsTimeless h (confirm_entries i confirmed ++ h)
confirm_on i None h legal = adds_none IsTimeless h h refl
confirm_on i (Some c) h legal = one_on IsTimeless h (entry.Confirm i c.positions c.made) legal tt

done_on : (unanswered : Bool) (i : ℕ) (was : Done) (h : Record) → IsLegal (done_entries unanswered h i was ++ h) → OnlyAdds IsTimeless h (done_entries unanswered h i was ++ h)
done_on unanswered i done.Nothing h legal = adds_none IsTimeless h h refl
done_on unanswered i (done.Read took) h legal = one_on IsTimeless h (turn_entry h i took) legal (turn_timeless h i took)
done_on unanswered i (done.Attempted all sent answer) h legal = one_on IsTimeless h _ legal tt
done_on true i (done.Judged ports) h legal = adds_none IsTimeless h h refl
done_on false i (done.Judged ports) h legal = one_on IsTimeless h (answer_by h i ports) legal tt
done_on unanswered i done.Closed h legal = one_on IsTimeless h (entry.Closed i) legal tt
done_on unanswered i done.OutOfMemory h legal = adds_none IsTimeless h h refl
done_on unanswered i done.Starved h legal = adds_none IsTimeless h h refl

pub landed_on : {P : Type 0} (unanswered : Bool) (landing : Landing P) (old new : Record) → IsLegal new → IsNotedSo unanswered landing old new → OnlyAdds IsTimeless old new
landed_on unanswered landing old new legal noted =
    let i = landing.instance in
    let before = confirm_entries i landing.confirmed ++ old in
    let observed = observed_on unanswered landing old in
    let observed_legal : IsLegal observed = legal_before noted.added observed (subst IsLegal noted.is legal) in
    adds_both IsTimeless old observed new
    (adds_both IsTimeless old before observed
    (confirm_on i landing.confirmed old (legal_before (done_entries unanswered before i landing.done) before observed_legal))
    (done_on unanswered i landing.done before observed_legal))
    (adds_wider (ComesBehind i) IsTimeless (behind_timeless i) observed new noted)

-- an instance ended, or nothing was done
pub retired_on : {Same : Type 0} (ended : Option ℕ) (old new : Record) → IsLegal new → IfSome ended (λ i. new ≡ entry.Retired i ∷ old) → IfNone ended Same → (Same → new ≡ old) → OnlyAdds IsTimeless old new
retired_on None old new legal noted same is = adds_none IsTimeless old new (is same)
retired_on (Some i) old new legal noted same is =
    let all : IsLegal (entry.Retired i ∷ old) = subst IsLegal noted legal in
    adds_one IsTimeless old old new (entry.Retired i) (adds_none IsTimeless old old refl) all.0 tt noted

-- MOMENTS THAT WERE GIVEN
max_is : (a b : ℕ) → (max a b ≡ a) ⊎ (max a b ≡ b)
max_is a b = grind arith

module _ (Gave : ℕ → Type 0) where
  pub latest_of : (a b : ℕ) → Gave a → Gave b → Gave (max a b)
  latest_of a b first second = elim (max_is a b) [
    | inl is ↦ subst Gave (sym is) first
    | inr is ↦ subst Gave (sym is) second
  ]

  -- the latest moment behind a lease and what followed it
  pub latest_kept : (a b mid new : ℕ) → mid ≡ max a b → new ≡ mid → Gave a → Gave b → Gave new
  latest_kept a b mid new is stays first second = subst Gave (sym (stays ∙ is)) (latest_of a b first second)

  timely : (h : Record) (e : Entry) → IsTimeless h e → IsTimely Gave h e
  timely h (entry.Install version plan once instances now) kind = absurd kind
  timely h (entry.Lease i worker now polls) kind = absurd kind
  timely h (entry.Tick i now) kind = absurd kind
  timely h (entry.Abandon (Grace moment now limit)) kind = absurd kind
  timely h e kind = kind

  pub timely_on : (old new : Record) → OnlyAdds IsTimeless old new → OnlyAdds (IsTimely Gave) old new
  timely_on = adds_wider IsTimeless (IsTimely Gave) timely

  takes : (i : ℕ) (h : Record) (e : Entry) → IsTakeOf i h e → IsTimely Gave h e
  takes i h (entry.Take j s copies) kind = tt
  takes i h e kind = absurd kind

  pub leased_on : (i now : ℕ) (old new : Record) → Gave now → IsLegal new → HasLeased i 0 now old new → OnlyAdds (IsTimely Gave) old new
  leased_on i now old new gave legal leased =
      let lease = entry.Lease i 0 now 0 in
      adds_both (IsTimely Gave) old (lease ∷ old) new
      (one_on (IsTimely Gave) old lease (legal_before leased.added (lease ∷ old) (subst IsLegal leased.is legal)) (gave, refl))
      (adds_wider (IsTakeOf i) (IsTimely Gave) (takes i) (lease ∷ old) new leased)

  merges : (i now : ℕ) → Gave now → (h : Record) (e : Entry) → IsMergeAt i now h e → IsTimely Gave h e
  merges i now gave h (entry.Take j s copies) kind = tt
  merges i now gave h (entry.Tick j moment) kind = subst Gave (sym kind.1) gave
  merges i now gave h (entry.Answer j outputs discarded kept) kind = tt
  merges i now gave h (entry.Spent j c outcome) kind = tt
  merges i now gave h (entry.Notice b status) kind = tt
  merges i now gave h (entry.Home j) kind = tt
  merges i now gave h e kind = absurd kind

  -- an instance that merges did what there was to do
  pub merged_on : (now : ℕ) (old new : Record) → Gave now → IsLegal new → HasDoneOne 0 now old new → OnlyAdds (IsTimely Gave) old new
  merged_on now old new gave legal did =
      let lease = entry.Lease did.who 0 now 0 in
      adds_both (IsTimely Gave) old (lease ∷ old) new
      (one_on (IsTimely Gave) old lease (legal_before did.noted.added (lease ∷ old) (subst IsLegal did.noted.is legal)) (gave, refl))
      (adds_wider (IsMergeAt did.who now) (IsTimely Gave) (merges did.who now gave) (lease ∷ old) new did.noted)

  pub timely_both : (old mid new : Record) → OnlyAdds (IsTimely Gave) old mid → OnlyAdds (IsTimely Gave) mid new → OnlyAdds (IsTimely Gave) old new
  timely_both = adds_both (IsTimely Gave)

  -- whatever it answers
  pub merge_on : {E : Type 0} (now : ℕ) (merged : Result Bool E) (old new : Record) → Gave now → IsLegal new → (merged ≡ Ok true → HasDoneOne 0 now old new) → OnErr merged (HasDoneOne 0 now old new) →
      (merged ≡ Ok false → new ≡ old) → OnlyAdds (IsTimely Gave) old new
  merge_on now (Ok true) old new gave legal did short same = merged_on now old new gave legal (did refl)
  merge_on now (Ok false) old new gave legal did short same = adds_none (IsTimely Gave) old new (same refl)
  merge_on now (Err e) old new gave legal did short same = merged_on now old new gave legal short

  -- the latest moment behind it
  pub merge_moment : {E : Type 0} (now latest new : ℕ) (merged : Result Bool E) → Gave now → Gave latest → (merged ≡ Ok false → new ≡ latest) →
      (merged ≡ Ok false) ⊎ (new ≡ max now latest) → Gave new
  merge_moment now latest new merged gave had same which = elim which [
    | inl none ↦ subst Gave (sym (same none)) had
    | inr is ↦ subst Gave (sym is) (latest_of now latest gave had)
  ]

  -- what one turn adds
  pub turned_on : (old drained moved new : Record) → OnlyAdds (IsTimely Gave) old drained → OnlyAdds IsTimeless drained moved → OnlyAdds (IsTimely Gave) moved new → OnlyAdds (IsTimely Gave) old new
  turned_on old drained moved new first next last = timely_both old drained new first (timely_both drained moved new (timely_on drained moved next) last)

  -- and one that hands nothing out
  pub retired_turn : (old drained moved leased new : Record) → OnlyAdds (IsTimely Gave) old drained → OnlyAdds IsTimeless drained moved → OnlyAdds (IsTimely Gave) moved leased →
      OnlyAdds IsTimeless leased new → OnlyAdds (IsTimely Gave) old new
  retired_turn old drained moved leased new first next more last =
      turned_on old drained moved new first next (timely_both moved leased new more (timely_on leased new last))

  -- and a whole record
  pub all_timely : (old new : Record) → AreTimely Gave old → OnlyAdds (IsTimely Gave) old new → AreTimely Gave new
  all_timely old new first adds = carry (IsTimely Gave) (AreTimely Gave) (λ h e follows kind keep. (kind, keep)) old new adds first
