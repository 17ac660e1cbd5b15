-- How what an instance keeps that merges is given up, where the run is.
use Rattle.std.proofs.Common.{◌≡◌, ◌∙◌, ℕ, ◌<◌, Bool, true, false, List, [], ◌∷◌, Option, Some, None, IfSome, length, inl, inr, refl, sym}
use Rattle.std.specs.Prelude.{◌&&◌, IsSomeAnd}
use Rattle.std.specs.Global.{Vec}
use Rattle.std.proofs.lemmas.Bool.{cases_eq}
use Rattle.vx_ends.specs.Observation.{Observation}
use Rattle.vx_status.specs.declared.outcome.Outcome.TheVariants.{Abandoned}
use Rattle.vx_ledger.specs.Copies.{Copy}
use Rattle.vx_ledger.specs.Ledger.{Ledger}
use Rattle.vx_record.specs.declared.entry.Entry.{Entry}
use Rattle.vx_record.specs.declared.entry.Entry.TheVariants.{Spent, Notice}
use Rattle.vx_record.specs.Records.{Record}
use Rattle.vx_plan.specs.declared.class.Class.{Class}
use Rattle.vx_plan.specs.declared.class.Class.TheVariants.{Source, Transform, Sink}
use Rattle.vx_plan.specs.declared.component.Component.{Component}
use Rattle.vx_plan.specs.Components.{is_transform}
use Rattle.vx_record.specs.Abandoning.{abandoned}
use Rattle.vx_record.specs.Installs.{component_of}
use Rattle.vx_counts.specs.Classes.{class_at}
use Rattle.vx_record.specs.Copies.{count, joined}
use Rattle.vx_record.specs.Legal.{IsLegal}
use Rattle.vx_record.specs.Places.Place.{Held}
use Rattle.vx_record.specs.Shifts.{at}
use Rattle.vx_record.specs.Turns.{is_out}
use Rattle.vx_record.proofs.Adding.{adds_none}
use Rattle.vx_instances.specs.declared.state.InstanceState.{InstanceState}
use Rattle.vx_instances.specs.Staying.{EachState, Stays}
use Rattle.vx_tasks.specs.Joining.{is_joining, joins_at}
use Rattle.vx_keeping.specs.Kept.{Kept}
use Rattle.vx_keeping.specs.Keeping.{Accounts, IsMade}
use Rattle.vx_keeping.proofs.Going.{unfit_keeps}
use Rattle.vx_keeping.proofs.Resting.{ticks_stay}
use Rattle.vx_keeping.proofs.Calls.{none_there}
use Rattle.vx_moves.specs.declared.engine.EngineState.{EngineState}
use Rattle.vx_moves.specs.Keepers.{keeper_at, IsKept, AreKept, OneKeeper, Loses, IsEmptied}
use Rattle.vx_moves.specs.Spends.{IsSpendOf, IsSettled, OnlySpends}
use Rattle.vx_moves.specs.Stands.{Stands}
use Rattle.vx_moves.proofs.Keepers.{kept_behind, stays_kept}
use Rattle.vx_moves.proofs.Leaving.{each_stays}
use Rattle.vx_moves.proofs.Losing.{is_there, lost_step, IsThere, LosesCopy}
use Rattle.vx_moves.proofs.Merging.{one_is, one_keepers, some_if}
use Rattle.vx_moves.proofs.Stepping.{never_both}

accounted : (h : Record) (i : ℕ) (o : Option Kept) → IfSome o (λ k. IsKept k h i) → IfSome o (λ k. Accounts k h i)
accounted h i None is = tt
accounted h i (Some k) is = is.keeps.accounts

module _ {P : Type 0} {observe : P → Observation} {old : EngineState P} (slots : Vec (Option Kept)) (i : ℕ) (copy : Copy) (stands : Stands observe old)
    (joins : joins_at old.log i ≡ true) (over : abandoned old.log ≡ true) (unleased : is_out old.log i ≡ false)
    (one : OneKeeper (Loses copy) i old.keepers.items slots.items) where
  abbrev e : Entry
  e = Spent i copy.number Abandoned

  was_there : (o n : Option Kept) → IsSomeAnd o (λ was. IsSomeAnd n (λ is. Loses copy was is)) → IfSome o (λ k. Accounts k old.log i) →
      (0 < count copy.number (joined (at old.log (Held i)))) × IsMade old.log copy
  was_there None n is had = absurd is
  was_there (Some was) None is had = absurd is
  was_there (Some was) (Some now) is had = (is.gives.there old.log i had, is.gives.made old.log i had)

  found : (0 < count copy.number (joined (at old.log (Held i)))) × IsMade old.log copy
  found = was_there (keeper_at old.keepers.items i) (keeper_at slots.items i) one.one (accounted old.log i (keeper_at old.keepers.items i) (stands.keeps i))

  pub may_be_lost : IsThere old.log i Abandoned copy
  may_be_lost = is_there slots i copy Abandoned stands joins found.0 found.1 (over, unleased) (λ given. refl)

  kept_then : IsLegal (e ∷ old.log) → AreKept slots.items (e ∷ old.log)
  kept_then legal j = elim (cases_eq j i) [
    | inl here ↦ rw here
        (some_if (λ k. IsKept k (e ∷ old.log) i) (keeper_at slots.items i)
        (one_is (Loses copy) (λ k. IsKept k old.log i) (λ k. IsKept k (e ∷ old.log) i) (keeper_at old.keepers.items i) (keeper_at slots.items i) one.one (stands.keeps i)
        (λ was is loses had. record {
          keeps = loses.gives.leads old.log i Abandoned had.keeps.accounts legal;
          cleared = λ fit. never_both loses.gets.unfit fit;
          unticked = ticks_stay old.log i e tt had.unticked;
        })))
    | inr other ↦ rw (one.others j other) (stays_kept (keeper_at old.keepers.items j) old.log j e legal (λ here. absurd (other (sym here))) (stands.keeps j))
  ]

  -- where the spend of such a copy is settled, the engine's state stands
  pub given_up_step : {log : Record} {account : Ledger} {states : List (InstanceState P)} → IsSettled observe e old.log log account states →
      length states ≡ length old.states → EachState Stays old.states states →
      LosesCopy AreKept observe i Abandoned old (record old { keepers = slots; states = states; balance = account; log = log })
  given_up_step settled size stay =
      lost_step slots i copy Abandoned stands joins found.0 found.1 (over, unleased) (λ given. refl) one kept_then
      (λ b status legal whose keeps. kept_behind slots.items (e ∷ old.log) (Notice b status) legal (λ j joins. tt) whose keeps) settled size stay

-- WHERE NOTHING IS LEFT
module _ {P : Type 0} {observe : P → Observation} {old : EngineState P} (slots : Vec (Option Kept)) (i : ℕ) (stands : Stands observe old)
    (one : OneKeeper IsEmptied i old.keepers.items slots.items) where
  emptied_keeps : (was is : Kept) → IsEmptied was is → IsKept was old.log i → IsKept is old.log i
  emptied_keeps was is emptied had = record {
    keeps = unfit_keeps is old.log i emptied.gets.unfit (record {
      counted = λ c. had.keeps.accounts.counted c ∙ rw (emptied.had, emptied.has) refl;
      known = λ copy among. absurd (rw emptied.has at among);
    });
    cleared = λ fit. never_both emptied.gets.unfit fit;
    unticked = had.unticked;
  }

  pub emptied_stands : Stands observe (record old { keepers = slots })
  emptied_stands =
      let keepers = one_keepers i old.keepers.items slots.items old.places old.log one stands.keepers in
      let here : IfSome (keeper_at slots.items i) (λ k. IsKept k old.log i) =
      some_if (λ k. IsKept k old.log i) (keeper_at slots.items i)
      (one_is IsEmptied (λ k. IsKept k old.log i) (λ k. IsKept k old.log i) (keeper_at old.keepers.items i) (keeper_at slots.items i) one.one (stands.keeps i) emptied_keeps) in
      let keeps : AreKept slots.items old.log = λ j. elim (cases_eq j i) [
        | inl same ↦ rw same here
        | inr other ↦ rw (one.others j other) (stands.keeps j)
      ] in
      assumption (keepers, keeps, stands)

  pub emptied_none : at old.log (Held i) ≡ []
  emptied_none = go (keeper_at old.keepers.items i) (keeper_at slots.items i) one.one (stands.keeps i)
    where
      go : (o n : Option Kept) → IsSomeAnd o (λ was. IsSomeAnd n (λ is. IsEmptied was is)) → IfSome o (λ k. IsKept k old.log i) → at old.log (Held i) ≡ []
      go None n is had = absurd is
      go (Some was) None is had = absurd is
      go (Some was) (Some now) is had = none_there was old.log i stands.legal had.keeps.accounts is.had

  pub emptied_spends : OnlySpends observe i Abandoned old (record old { keepers = slots })
  emptied_spends = record {
    only = adds_none (IsSpendOf i Abandoned) old.log old.log refl;
    stands = emptied_stands;
    empty = λ q none. none;
    others = λ q other. refl;
    leaves = record { states = each_stays old.states; capacities = λ j. (refl, refl); run = refl };
    size = refl;
  }

-- an instance that merges isn't of the class of sinks
pub no_sink : (h : Record) (i : ℕ) → joins_at h i ≡ true → class_at h i ≡ Some Sink → ⊥
no_sink h i joins class = go (component_of h i) joins class
  where
    no_class : (k : Class) (joining : Bool) → ((elim k [ Source ↦ false | Transform ↦ true | Sink ↦ false ]) && joining) ≡ true → Some k ≡ Some Sink → ⊥
    no_class Source joining joins same = cc
    no_class Transform joining joins same = cc
    no_class Sink joining joins same = cc

    go : (o : Option Component) → (elim o [ None ↦ false | Some c ↦ is_transform c && is_joining c.settings ]) ≡ true →
        (elim o [ None ↦ None | Some c ↦ Some c.class ]) ≡ Some Sink → ⊥
    go None joins same = cc
    go (Some c) joins same = no_class c.class (is_joining c.settings) joins same

-- while the copies of what an instance keeps are given up one after the other
pub record GivesUpKept {P : Type 0} (observe : P → Observation) (i : ℕ) (old now : EngineState P) : Type 0 where
  pub spent : OnlySpends observe i Abandoned old now
  pub over : abandoned now.log ≡ true
  pub unleased : is_out now.log i ≡ false
  pub joins : joins_at now.log i ≡ true
