-- What holds of the states beside their calls.
use Rattle.std.specs.Prelude.{◌≡◌, ◌↔◌, ◌&&◌, ℕ, true, false, List, ◌∷◌, Some, None, is_some, slice_get}
use Rattle.vx_ends.specs.Observation.{Observation}
use Rattle.vx_status.specs.declared.outcome.Outcome.TheVariants.{Abandoned}
use Rattle.vx_record.specs.declared.entry.Entry.{Entry}
use Rattle.vx_record.specs.declared.entry.Entry.TheVariants.{Split, Push, Tick, Spent, Abandon}
use Rattle.vx_record.specs.Records.{Record}
use Rattle.vx_record.specs.Legal.{IsLegal}
use Rattle.vx_record.specs.Ceasing.{cause_of}
use Rattle.vx_record.specs.Confirms.{is_confirm_due}
use Rattle.vx_record.specs.Owing.{all_noticed}
use Rattle.vx_record.specs.Copies.{count, joined}
use Rattle.vx_record.specs.Places.Place.{Held}
use Rattle.vx_record.specs.Shifts.{at}
use Rattle.vx_tasks.specs.declared.task.Task.{Task}
use Rattle.vx_instances.specs.declared.state.InstanceState.{InstanceState}
use Rattle.vx_instances.specs.Knowing.{Knows}
use Rattle.vx_instances.specs.Calls.{CountsAt, IsSettledAt, IsShutAt}
use Rattle.vx_instances.specs.Staying.{EachState, Stays}

-- a kind of entry of which no state keeps anything
abbrev pub IsAside : Entry → Type 0
IsAside (Split i ports copies event children) = Unit {0}
IsAside (Push i t s copies) = Unit {0}
IsAside (Tick i now) = Unit {0}
IsAside (Abandon cause) = Unit {0}
IsAside other = ⊥

-- such an entry leaves what is known
abbrev pub AsideKnown : {P : Type 0} → (P → Observation) → Type 0
AsideKnown observe = (e : Entry) (h : Record) (states : List (InstanceState _)) → IsAside e → IsLegal (e ∷ h) → Knows observe states h → Knows observe states (e ∷ h)

-- so does the spend of a copy that is given up, where the instance doesn't hold it
abbrev pub GivenUpKnown : {P : Type 0} → (P → Observation) → Type 0
GivenUpKnown observe =
    (h : Record) (i c : ℕ) (states : List (InstanceState _)) → count c (joined (at h (Held i))) ≡ 0 → IsLegal (Spent i c Abandoned ∷ h) →
    Knows observe states h → Knows observe states (Spent i c Abandoned ∷ h)

-- no batch of an instance is without a notice exactly where none is counted
abbrev pub NoticedAll : {P : Type 0} → (P → Observation) → Type 0
NoticedAll observe =
    (h : Record) (i : ℕ) (states : List (InstanceState _)) (state : InstanceState _) → slice_get states i ≡ Some state → Knows observe states h →
    (state.progress.unnoticed ≡ 0) ↔ (all_noticed h i ≡ true)

-- a confirm is due at an unleased instance exactly where it has a port, and something is to be confirmed
abbrev pub ConfirmDue : {P : Type 0} → (P → Observation) → Type 0
ConfirmDue observe =
    (h : Record) (i : ℕ) (states : List (InstanceState _)) (state : InstanceState _) (task : Task _) → slice_get states i ≡ Some state → state.task ≡ Some task → state.facts.owing ≡ false →
    cause_of h ≡ None → IsLegal h → Knows observe states h → (state.device && is_some state.progress.prefix.due) ≡ is_confirm_due h i

-- what is known of what an instance owes and counts, and that its port is shut
pub record AreCarried {P : Type 0} (observe : P → Observation) (old new : List (InstanceState P)) (i : ℕ) : Type 0 where
  pub settled : IsSettledAt old i → IsSettledAt new i
  pub counts : CountsAt old i → CountsAt new i
  pub shut : IsShutAt observe old i → IsShutAt observe new i

-- stays known behind a call that leaves that of each state
abbrev pub StaysKnown : {P : Type 0} → (P → Observation) → Type 0
StaysKnown observe = (old new : List (InstanceState _)) (i : ℕ) → EachState Stays old new → AreCarried observe old new i
