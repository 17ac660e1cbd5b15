-- What a legal record says of its sources.
use Rattle.std.proofs.Common.{◌≡◌, ◌⊎◌, inl, inr, ◌∙◌, ℕ, ◌<◌, ◌≤◌, Bool, true, false, not, ◌||◌, ◌&&◌, List, [], ◌∷◌, length, Some, IsSome, refl, sym, ap, subst, arith}
use Rattle.std.specs.Prelude.{◌==◌, nat_lt, if◌then◌else◌}
use Rattle.std.proofs.lemmas.Bool.{and_parts, eqb-true}
use Rattle.std.proofs.lemmas.Bool.Decides.{nat_tests}
use Rattle.vx_plan.specs.Components.{is_source}
use Rattle.vx_record.specs.Abandoning.{abandoned}
use Rattle.vx_record.specs.Ceasing.{lost_at, TakesNoMore}
use Rattle.vx_record.specs.Confirms.{is_confirm_due, is_unconfirmed}
use Rattle.vx_record.specs.Copies.{count, counting}
use Rattle.vx_record.specs.Ending.{MayRetire}
use Rattle.vx_record.specs.Installs.{in_force, source_at, started, is_marked, is_retired}
use Rattle.vx_record.specs.Legal.{IsLegal}
use Rattle.vx_record.specs.Lists.{is_bare}
use Rattle.vx_record.specs.Owing.{owes, is_done, is_source_done, is_worker_done, all_noticed}
use Rattle.vx_record.specs.Reads.{all_ended, is_lost}
use Rattle.vx_record.specs.Records.{Record}
use Rattle.vx_record.specs.Routing.{is_dry, is_sent, is_out_from_before}
use Rattle.vx_record.specs.declared.entry.Entry.TheVariants.{Install, SourceLost, Confirm, Retired}
use Rattle.vx_record.proofs.Ceasing.{has_cause, more_on, unmarked}
use Rattle.vx_record.proofs.Counts.{counting_after}
use Rattle.vx_record.proofs.Senders.{started_component_or}
use Rattle.vx_plan.specs.declared.plan.Plan.{Plan}
use Rattle.vx_ready.proofs.Counting.{started_are}

-- a source is one of the instances
pub source_within : (h : Record) (plan : Plan) (i : ℕ) → IsLegal h → in_force h ≡ Some plan → source_at h i ≡ true → i < length (started h)
source_within h plan i legal force source = go (nat_lt i (length (started h))) refl
  where
    some : 0 < count i (counting 0 (length (started h)))
    some = subst (λ (ns : List ℕ). 0 < count i ns) (started_are h plan (length (started h)) legal force refl) (started_component_or h i is_source legal source)

    go : (b : Bool) → nat_lt i (length (started h)) ≡ b → i < length (started h)
    go true e = grind (arith, nat_tests)
    go false e =
        let past : length (started h) ≤ i = grind (arith, nat_tests) in
        let none : count i (counting 0 (length (started h))) ≡ 0 = counting_after i 0 (length (started h)) (omega (arith, past)) in
        absurd (omega (arith, some, none))

-- only a source is lost
pub lost_source : (h : Record) (i : ℕ) → IsLegal h → IsSome (lost_at h i) → source_at h i ≡ true
lost_source [] i legal is = cc
lost_source (Install version plan once instances now ∷ h) i legal is =
    let no : IsSome (lost_at [] i) = subst (λ (k : Record). IsSome (lost_at k i)) legal.0.row.first is in cc
lost_source (SourceLost j at failed ∷ h) i legal is = go (j == i) refl is (lost_source h i legal.1)
  where
    go : (b : Bool) → (j == i) ≡ b → IsSome (if b then Some at else lost_at h i) → (IsSome (lost_at h i) → source_at h i ≡ true) → source_at h i ≡ true
    go true here lost rest = subst (λ (k : ℕ). source_at h k ≡ true) (eqb-true j i here) legal.0.row.turn.source
    go false here lost rest = rest lost
lost_source (e ∷ h) i legal is = lost_source h i legal.1 is

-- and only to a source nothing is confirmed
pub unconfirmed_source : (h : Record) (i : ℕ) → IsLegal h → is_unconfirmed h i ≡ true → source_at h i ≡ true
unconfirmed_source [] i legal is = cc
unconfirmed_source (Install version plan once instances now ∷ h) i legal is =
    let no : is_unconfirmed [] i ≡ true = subst (λ (k : Record). is_unconfirmed k i ≡ true) legal.0.row.first is in cc
unconfirmed_source (Confirm j positions made ∷ h) i legal is = go (j == i) refl is (unconfirmed_source h i legal.1)
  where
    go : (b : Bool) → (j == i) ≡ b → (if b then not made else is_unconfirmed h i) ≡ true → (is_unconfirmed h i ≡ true → source_at h i ≡ true) → source_at h i ≡ true
    go true here failed rest = subst (λ (k : ℕ). source_at h k ≡ true) (eqb-true j i here) legal.0.row.source
    go false here failed rest = rest failed
unconfirmed_source (e ∷ h) i legal is = unconfirmed_source h i legal.1 is

-- WHAT TAKES NO MORE
some_lost : (h : Record) (i : ℕ) → is_lost h i ≡ true → IsSome (lost_at h i)
some_lost [] i on = cc
some_lost (SourceLost j at failed ∷ h) i on = go (j == i) on (some_lost h i)
  where
    go : (b : Bool) → (b || is_lost h i) ≡ true → (is_lost h i ≡ true → IsSome (lost_at h i)) → IsSome (if b then Some at else lost_at h i)
    go true on rest = refl
    go false on rest = rest on
some_lost (e ∷ h) i on = some_lost h i on

-- a source that isn't marked, and isn't asked to stop, is dry where it was told the end of all or lost
dry_more : (h : Record) (i : ℕ) → IsLegal h → is_dry h i ≡ true → TakesNoMore h i
dry_more h i legal dry = by (all_ended h i) (is_lost h i) (is_marked h i) (not (is_out_from_before h i)) (source_at h i) refl refl dry (unmarked h i legal)
  where
    by : (e l m o s : Bool) → all_ended h i ≡ e → is_lost h i ≡ l → (s && (e || l || ((m || (s && false)) && o))) ≡ true → m ≡ false → TakesNoMore h i
    by true l m o s ended lost dry off = inl ended
    by false true m o s ended lost dry off = inr (inl (some_lost h i lost))
    by false false true o s ended lost dry off = cc
    by false false false o true ended lost dry off = cc
    by false false false o false ended lost dry off = cc

source_dry : (h : Record) (i : ℕ) → source_at h i ≡ true → is_done h i ≡ true → is_dry h i ≡ true
source_dry h i source done =
    (and_parts (is_dry h i) (not (owes h i))
    (and_parts (is_dry h i && not (owes h i)) (is_sent h i)
    (and_parts (is_dry h i && not (owes h i) && is_sent h i) (all_noticed h i)
    (and_parts (is_dry h i && not (owes h i) && is_sent h i && all_noticed h i) (not (is_confirm_due h i)) all).0).0).0).0
  where
    all : is_source_done h i ≡ true
    all = ap (λ (b : Bool). if b then is_source_done h i else is_worker_done h i) (sym source) ∙ done

-- a source that may be retired takes no more
retiring_more : (h : Record) (i : ℕ) → IsLegal h → source_at h i ≡ true → MayRetire h i → TakesNoMore h i
retiring_more h i legal source row = go row.over
  where
    go : (is_done h i ≡ true) ⊎ ((abandoned h ≡ true) × (is_bare h i ≡ true)) → TakesNoMore h i
    go (inl done) = dry_more h i legal (source_dry h i source done)
    go (inr gone) = inr (inr (has_cause h gone.0))

-- so one that was
pub retired_more : (h : Record) (i : ℕ) → IsLegal h → source_at h i ≡ true → is_retired h i ≡ true → TakesNoMore h i
retired_more [] i legal source is = cc
retired_more (Install version plan once instances now ∷ h) i legal source is =
    let no : is_retired [] i ≡ true = subst (λ (k : Record). is_retired k i ≡ true) legal.0.row.first is in cc
retired_more (Retired j ∷ h) i legal source is = go (j == i) refl is (retired_more h i legal.1 source)
  where
    go : (b : Bool) → (j == i) ≡ b → (b || is_retired h i) ≡ true → (is_retired h i ≡ true → TakesNoMore h i) → TakesNoMore (Retired j ∷ h) i
    go true here retired rest =
        let same : j ≡ i = eqb-true j i here in
        let it : source_at h j ≡ true = subst (λ (k : ℕ). source_at h k ≡ true) (sym same) source in
        more_on h i (Retired j) (subst (λ (k : ℕ). TakesNoMore h k) same (retiring_more h j legal.1 it legal.0.row))
    go false here retired rest = more_on h i (Retired j) (rest retired)
retired_more (e ∷ h) i legal source is = more_on h i e (retired_more h i legal.1 source is)
