-- How far a run that ended read its input.
use Rattle.std.proofs.Common.{◌≡◌, ◌⊎◌, inl, inr, ℕ, ◌<◌, true, [], length, Option, Some, None, IsSome, sym, subst}
use Rattle.vx_plan.specs.declared.plan.Plan.{Plan}
use Rattle.vx_record.specs.Ceasing.{lost_at, cause_of, TakesNoMore}
use Rattle.vx_record.specs.Installs.{in_force, started, source_at}
use Rattle.vx_record.specs.Reads.{all_ended}
use Rattle.vx_record.specs.Records.{Record}
use Rattle.vx_hub.specs.Remains.{HasEnded}
use Rattle.vx_cli.specs.declared.fault.Fault.{Fault}
use Rattle.vx_cli.specs.declared.fault.Fault.TheVariants.{Usage, ConfigRead, ConfigRefused, UnknownHost, Numbers, SourceFailed, ConfirmFailed, PrintFailed, WantOfMemory}
use Rattle.vx_run.specs.Answers.{IsJudged, NoneLost, WentOn}
use Rattle.vx_run.specs.Running.{AllRead, AllReadOrLost, IsReadOut}
use Rattle.vx_run.proofs.Sources.{source_within, retired_more}

not_there : {X : Type 0} (o : Option X) → o ≡ None → IsSome o → ⊥
not_there None is some = cc
not_there (Some x) is some = cc

-- what takes no more was told the end of all or lost, unless the run was given up
only_ended : (h : Record) (i : ℕ) → WentOn h → TakesNoMore h i → (all_ended h i ≡ true) ⊎ IsSome (lost_at h i)
only_ended h i goes (inl ended) = inl ended
only_ended h i goes (inr (inl lost)) = inr lost
only_ended h i goes (inr (inr given)) = absurd (not_there (cause_of h) goes given)

not_lost : (h : Record) (i : ℕ) → NoneLost h → (all_ended h i ≡ true) ⊎ IsSome (lost_at h i) → all_ended h i ≡ true
not_lost h i none (inl ended) = ended
not_lost h i none (inr lost) = absurd (not_there (lost_at h i) (none i) lost)

module _ (h : Record) (plan : Plan) (ended : HasEnded (length (started h)) h) (force : in_force h ≡ Some plan) (goes : WentOn h) where
  read_or_lost : AllReadOrLost h
  read_or_lost i source =
      let within : i < length (started h) = source_within h plan i ended.legal force source in
      only_ended h i goes (retired_more h i ended.legal source (ended.ends i within).1)

  read_whole : NoneLost h → AllRead h
  read_whole none i source = not_lost h i none (read_or_lost i source)

-- a run that ended read its input, as far as it is judged
pub read_of : (h : Record) (plan : Plan) (fault : Option Fault) → HasEnded (length (started h)) h → in_force h ≡ Some plan → IsJudged h fault → IsReadOut h fault
read_of h plan None ended force judged = read_whole h plan ended force judged.0 judged.1.0
read_of h plan (Some WantOfMemory) ended force judged = λ goes. read_or_lost h plan ended force goes
read_of h plan (Some Usage) ended force judged = λ goes. read_or_lost h plan ended force goes
read_of h plan (Some (ConfigRead path)) ended force judged = λ goes. read_or_lost h plan ended force goes
read_of h plan (Some (ConfigRefused f)) ended force judged = λ goes. read_or_lost h plan ended force goes
read_of h plan (Some (UnknownHost name)) ended force judged = λ goes. read_or_lost h plan ended force goes
read_of h plan (Some (Numbers next wanted)) ended force judged = λ goes. read_or_lost h plan ended force goes
read_of h plan (Some PrintFailed) ended force judged = absurd judged
read_of h plan (Some (SourceFailed name at)) ended force judged = read_or_lost h plan ended force judged.0
read_of h plan (Some (ConfirmFailed name)) ended force judged = read_whole h plan ended force judged.0 judged.1.0

-- of an empty record there is no source
pub read_none : (h : Record) (fault : Option Fault) → h ≡ [] → IsReadOut h fault
read_none h fault none = subst (λ (k : Record). IsReadOut k fault) (sym none) (empty fault)
  where
    unsourced : (i : ℕ) → source_at [] i ≡ true → ⊥
    unsourced i source = cc

    empty : (f : Option Fault) → IsReadOut [] f
    empty None = λ i source. absurd (unsourced i source)
    empty (Some WantOfMemory) = λ goes i source. absurd (unsourced i source)
    empty (Some Usage) = λ goes i source. absurd (unsourced i source)
    empty (Some (ConfigRead path)) = λ goes i source. absurd (unsourced i source)
    empty (Some (ConfigRefused f)) = λ goes i source. absurd (unsourced i source)
    empty (Some (UnknownHost name)) = λ goes i source. absurd (unsourced i source)
    empty (Some (Numbers next wanted)) = λ goes i source. absurd (unsourced i source)
    empty (Some PrintFailed) = λ i source. absurd (unsourced i source)
    empty (Some (SourceFailed name at)) = λ i source. absurd (unsourced i source)
    empty (Some (ConfirmFailed name)) = λ i source. absurd (unsourced i source)

-- and so where want of memory takes the place of its fault
pub read_short : (h : Record) (plan : Plan) (fault counted : Option Fault) → (counted ≡ fault) ⊎ (counted ≡ Some WantOfMemory) → HasEnded (length (started h)) h → in_force h ≡ Some plan → IsReadOut h fault → IsReadOut h counted
read_short h plan fault counted (inl same) ended force read = subst (λ (f : Option Fault). IsReadOut h f) (sym same) read
read_short h plan fault counted (inr short) ended force read = subst (λ (f : Option Fault). IsReadOut h f) (sym short) (λ goes. read_or_lost h plan ended force goes)
