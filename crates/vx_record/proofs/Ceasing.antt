-- What takes no more takes no more later, and no instance drains by an Install.
use Rattle.std.proofs.Common.{◌≡◌, inl, inr, ℕ, ◌+◌, Bool, true, false, ◌&&◌, ◌||◌, List, [], ◌∷◌, Option, Some, None, IsSome, refl, ap, ◌∙◌}
use Rattle.std.specs.Prelude.{if◌then◌else◌, ◌==◌}
use Rattle.std.specs.List.{list_any}
use Rattle.std.proofs.lemmas.Bool.{or_right, or_from}
use Rattle.vx_plan.specs.declared.component.Component.{Component}
use Rattle.vx_record.specs.Records.{Record}
use Rattle.vx_record.specs.Abandoning.{abandoned}
use Rattle.vx_record.specs.Starting.{first_instances}
use Rattle.vx_record.specs.Installs.{is_marked, is_draining}
use Rattle.vx_record.specs.Reads.{is_end, all_ended}
use Rattle.vx_record.specs.declared.instance.Instance.{Instance}
use Rattle.vx_record.specs.declared.entry.Entry.{Entry}
use Rattle.vx_record.specs.declared.entry.Entry.TheVariants.{Install, Read, SourceLost, Abandon}
use Rattle.vx_record.specs.Ceasing.{lost_at, cause_of, TakesNoMore}
use Rattle.vx_record.specs.Legal.{IsLegal}

-- a run without a cause wasn't given up
pub unabandoned : (h : Record) → cause_of h ≡ None → abandoned h ≡ false
unabandoned [] none = refl
unabandoned (Abandon cause ∷ h) none = cc
unabandoned (e ∷ h) none = unabandoned h none

-- and one that was has a cause
pub has_cause : (h : Record) → abandoned h ≡ true → IsSome (cause_of h)
has_cause [] is = cc
has_cause (Abandon cause ∷ h) is = refl
has_cause (e ∷ h) is = has_cause h is

pub has_abandoned : (h : Record) → IsSome (cause_of h) → abandoned h ≡ true
has_abandoned [] some = cc
has_abandoned (Abandon cause ∷ h) some = refl
has_abandoned (e ∷ h) some = has_abandoned h some

-- what was told stays told
ended_on : (h : Record) (i : ℕ) (e : Entry) → all_ended h i ≡ true → all_ended (e ∷ h) i ≡ true
ended_on h i (Read j stream took) is = or_right ((j == i) && is_end took) (all_ended h i) is
ended_on h i e is = is

either_some : (t : Bool) (at : ℕ) (o : Option ℕ) → IsSome o → IsSome (if t then Some at else o)
either_some true at o is = refl
either_some false at o is = is

lost_on : (h : Record) (i : ℕ) (e : Entry) → IsSome (lost_at h i) → IsSome (lost_at (e ∷ h) i)
lost_on h i (SourceLost j at failed) is = either_some (j == i) at (lost_at h i) is
lost_on h i e is = is

cause_on : (h : Record) (e : Entry) → IsSome (cause_of h) → IsSome (cause_of (e ∷ h))
cause_on h (Abandon cause) is = refl
cause_on h e is = is

pub more_on : (h : Record) (i : ℕ) (e : Entry) → TakesNoMore h i → TakesNoMore (e ∷ h) i
more_on h i e (inl ended) = inl (ended_on h i e ended)
more_on h i e (inr (inl lost)) = inr (inl (lost_on h i e lost))
more_on h i e (inr (inr given)) = inr (inr (cause_on h e given))

-- the first Install lets no instance drain
unmarked_first : (from : ℕ) (components : List Component) (i : ℕ) → list_any (λ (instance : Instance). is_draining instance && (instance.number == i)) (first_instances from components) ≡ false
unmarked_first from [] i = refl
unmarked_first from (c ∷ rest) i = unmarked_first (from + 1) rest i

pub unmarked : (h : Record) (i : ℕ) → IsLegal h → is_marked h i ≡ false
unmarked [] i legal = refl
unmarked (Install version plan once instances now ∷ h) i legal =
    or_from (list_any (λ (instance : Instance). is_draining instance && (instance.number == i)) instances) (is_marked h i)
    (ap (λ (is : List Instance). list_any (λ (instance : Instance). is_draining instance && (instance.number == i)) is) legal.0.row.all_new ∙ unmarked_first 0 plan.components i)
    (unmarked h i legal.1)
unmarked (e ∷ h) i legal = unmarked h i legal.1
