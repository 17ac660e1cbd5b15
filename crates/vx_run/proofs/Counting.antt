-- What is told of a run, whatever fault is told in the end.
use Rattle.std.proofs.Common.{◌≡◌, ◌⊎◌, inl, inr, ℕ, Bool, List, Option, Some, None, sym, subst, ◌∙◌}
use Rattle.std.specs.Prelude.{IsSomeAnd}
use Rattle.vx_value.specs.Texts.{ByteString}
use Rattle.vx_value.specs.declared.variable.Variable.{Variable}
use Rattle.vx_ends.specs.declared.world.Config.{Config}
use Rattle.vx_plan.specs.declared.plan.Plan.{Plan}
use Rattle.vx_record.specs.Records.{Record}
use Rattle.vx_record.specs.Installs.{in_force}
use Rattle.vx_hub.specs.declared.parts.Numbered.{Numbered}
use Rattle.vx_run.specs.Answers.{ButForMemory, CannotBegin, IsAnswer, IsJudged, IsPlanAt, IsReady, IsUnready}
use Rattle.vx_run.specs.Hosting.{LacksHost}
use Rattle.vx_run.specs.Running.{Began, HasInstalled, IsInForce, HasAll, HasEach, NoneMissing}
use Rattle.vx_cli.specs.Commands.{IsRun, has_once}
use Rattle.vx_cli.specs.declared.fault.Fault.{Fault}
use Rattle.vx_cli.specs.declared.fault.Fault.TheVariants.{Usage, ConfigRead, ConfigRefused, UnknownHost, Numbers, SourceFailed, ConfirmFailed, PrintFailed, WantOfMemory}

-- what holds of a fault holds where want of memory takes its place
pub judged_short : (h : Record) (fault counted : Option Fault) → (counted ≡ fault) ⊎ (counted ≡ Some WantOfMemory) → IsJudged h fault → IsJudged h counted
judged_short h fault counted (inl same) judged = subst (λ (f : Option Fault). IsJudged h f) (sym same) judged
judged_short h fault counted (inr short) judged = subst (λ (f : Option Fault). IsJudged h f) (sym short) tt

pub but_short : (Before After : Type 0) (fault counted : Option Fault) → (counted ≡ fault) ⊎ (counted ≡ Some WantOfMemory) → (Before → After) → ButForMemory Before fault → ButForMemory After counted
but_short Before After fault counted (inl same) then before = λ other. then (before (λ is. other (same ∙ is)))
but_short Before After fault counted (inr short) then before = λ other. absurd (other short)

-- a run that began has the plan in force that the words ask for
pub installed_for : (words : List ByteString) (environment : List Variable) (texts : Option (List Config)) (plan : Plan) (h : Record) (fault : Option Fault) →
    IsReady words environment texts plan → IsJudged h fault → IsInForce (has_once words) plan h fault → HasInstalled words environment texts h fault
installed_for words environment texts plan h None ready judged is = inl (record { plan = plan; ready = ready; began = is })
installed_for words environment texts plan h (Some WantOfMemory) ready judged (inl unbegun) = inl unbegun
installed_for words environment texts plan h (Some WantOfMemory) ready judged (inr is) = inr (record { plan = plan; ready = ready; began = is })
installed_for words environment texts plan h (Some Usage) ready judged is = tt
installed_for words environment texts plan h (Some (ConfigRead path)) ready judged is = tt
installed_for words environment texts plan h (Some (ConfigRefused f)) ready judged is = tt
installed_for words environment texts plan h (Some (UnknownHost name)) ready judged is = tt
installed_for words environment texts plan h (Some (Numbers next wanted)) ready judged is = record { plan = plan; ready = ready; began = is }
installed_for words environment texts plan h (Some PrintFailed) ready judged is = absurd judged
installed_for words environment texts plan h (Some (SourceFailed name at)) ready judged is = record { plan = plan; ready = ready; began = is }
installed_for words environment texts plan h (Some (ConfirmFailed name)) ready judged is = record { plan = plan; ready = ready; began = is }

-- what is judged of a run that began is its answer
pub answered : (words : List ByteString) (environment : List Variable) (names : List ByteString) (texts : Option (List Config)) (before now : ℕ) (h : Record) (fault : Option Fault) →
    IsJudged h fault → IsAnswer words environment names texts before now h fault
answered words environment names texts before now h None judged = judged
answered words environment names texts before now h (Some WantOfMemory) judged = tt
answered words environment names texts before now h (Some Usage) judged = absurd judged
answered words environment names texts before now h (Some (ConfigRead path)) judged = absurd judged
answered words environment names texts before now h (Some (ConfigRefused f)) judged = absurd judged
answered words environment names texts before now h (Some (UnknownHost name)) judged = absurd judged
answered words environment names texts before now h (Some (Numbers next wanted)) judged = judged
answered words environment names texts before now h (Some PrintFailed) judged = absurd judged
answered words environment names texts before now h (Some (SourceFailed name at)) judged = judged
answered words environment names texts before now h (Some (ConfirmFailed name)) judged = judged

-- what it says where no run of a file begins is said of one that doesn't
pub still_unready : (environment : List Variable) (names : List ByteString) (texts : Option (List Config)) (file : ByteString) (before now : ℕ) (fault : Fault) →
    IsUnready environment texts file before now fault → CannotBegin environment names texts file before now fault
still_unready environment names texts file before now Usage unready = absurd unready
still_unready environment names texts file before now (ConfigRead path) unready = unready
still_unready environment names texts file before now (ConfigRefused f) unready = unready
still_unready environment names texts file before now (UnknownHost name) unready = absurd unready
still_unready environment names texts file before now (Numbers next wanted) unready = absurd unready
still_unready environment names texts file before now (SourceFailed name at) unready = absurd unready
still_unready environment names texts file before now (ConfirmFailed name) unready = absurd unready
still_unready environment names texts file before now PrintFailed unready = absurd unready
still_unready environment names texts file before now WantOfMemory unready = tt

-- and where a transform isn't handed in
pub lacking_unready : (environment : List Variable) (names : List ByteString) (texts : Option (List Config)) (file : ByteString) (before now : ℕ) (plan : Plan) (fault : Fault) →
    IsPlanAt environment texts file plan → LacksHost names plan.components fault → CannotBegin environment names texts file before now fault
lacking_unready environment names texts file before now plan Usage stands lacks = absurd lacks
lacking_unready environment names texts file before now plan (ConfigRead path) stands lacks = absurd lacks
lacking_unready environment names texts file before now plan (ConfigRefused f) stands lacks = absurd lacks
lacking_unready environment names texts file before now plan (UnknownHost name) stands lacks = record { plan = plan; stands = stands; unknown = lacks }
lacking_unready environment names texts file before now plan (Numbers next wanted) stands lacks = absurd lacks
lacking_unready environment names texts file before now plan (SourceFailed name at) stands lacks = absurd lacks
lacking_unready environment names texts file before now plan (ConfirmFailed name) stands lacks = absurd lacks
lacking_unready environment names texts file before now plan PrintFailed stands lacks = absurd lacks
lacking_unready environment names texts file before now plan WantOfMemory stands lacks = tt

-- the answer of a run that doesn't begin
pub answered_unready : (words : List ByteString) (environment : List Variable) (names : List ByteString) (texts : Option (List Config)) (file : ByteString) (before now : ℕ) (h : Record) (fault : Fault) →
    IsRun words file → CannotBegin environment names texts file before now fault → IsAnswer words environment names texts before now h (Some fault)
answered_unready words environment names texts file before now h Usage asked unready = absurd unready
answered_unready words environment names texts file before now h (ConfigRead path) asked unready = (inl (subst (IsRun words) (sym unready.0) asked), unready.1)
answered_unready words environment names texts file before now h (ConfigRefused f) asked unready = record { file = file; asked = inl asked; refused = unready }
answered_unready words environment names texts file before now h (UnknownHost name) asked unready = record { file = file; asked = asked; unknown = unready }
answered_unready words environment names texts file before now h (Numbers next wanted) asked unready = absurd unready
answered_unready words environment names texts file before now h (SourceFailed name at) asked unready = absurd unready
answered_unready words environment names texts file before now h (ConfirmFailed name) asked unready = absurd unready
answered_unready words environment names texts file before now h PrintFailed asked unready = absurd unready
answered_unready words environment names texts file before now h WantOfMemory asked unready = tt

-- where there is a port for each component of a plan, none is missing
pub each_of : {P : Type 0} (plan : Plan) (h : Record) (ports : List (Numbered P)) (fault : Option Fault) → HasAll ports plan → HasEach plan h ports fault
each_of plan h ports None all = all
each_of plan h ports (Some WantOfMemory) all = inr all
each_of plan h ports (Some Usage) all = all
each_of plan h ports (Some (ConfigRead path)) all = all
each_of plan h ports (Some (ConfigRefused f)) all = all
each_of plan h ports (Some (UnknownHost name)) all = all
each_of plan h ports (Some (Numbers next wanted)) all = all
each_of plan h ports (Some PrintFailed) all = all
each_of plan h ports (Some (SourceFailed name at)) all = all
each_of plan h ports (Some (ConfirmFailed name)) all = all

-- nor for the plan in force
there : {P : Type 0} (plan : Plan) (h : Record) (ports : List (Numbered P)) → in_force h ≡ Some plan → HasAll ports plan → IsSomeAnd (in_force h) (HasAll ports)
there plan h ports is all = subst (λ (found : Option Plan). IsSomeAnd found (HasAll ports)) (sym is) all

pub none_missing_for : {P : Type 0} (words : List ByteString) (environment : List Variable) (texts : Option (List Config)) (once : Bool) (plan : Plan) (h : Record) (ports : List (Numbered P)) (fault : Option Fault) →
    IsReady words environment texts plan → IsJudged h fault → IsInForce once plan h fault → HasEach plan h ports fault → NoneMissing words environment texts h ports fault
none_missing_for words environment texts once plan h ports None ready judged is each = inl (there plan h ports is.installed each)
none_missing_for words environment texts once plan h ports (Some WantOfMemory) ready judged is (inl unbegun) = inl unbegun
none_missing_for words environment texts once plan h ports (Some WantOfMemory) ready judged is (inr all) = inr (record { plan = plan; ready = ready; each = all })
none_missing_for words environment texts once plan h ports (Some Usage) ready judged is each = absurd judged
none_missing_for words environment texts once plan h ports (Some (ConfigRead path)) ready judged is each = absurd judged
none_missing_for words environment texts once plan h ports (Some (ConfigRefused f)) ready judged is each = absurd judged
none_missing_for words environment texts once plan h ports (Some (UnknownHost name)) ready judged is each = absurd judged
none_missing_for words environment texts once plan h ports (Some (Numbers next wanted)) ready judged is each = there plan h ports is.installed each
none_missing_for words environment texts once plan h ports (Some PrintFailed) ready judged is each = absurd judged
none_missing_for words environment texts once plan h ports (Some (SourceFailed name at)) ready judged is each = there plan h ports is.installed each
none_missing_for words environment texts once plan h ports (Some (ConfirmFailed name)) ready judged is each = there plan h ports is.installed each

-- what is judged of a run is no failed print
pub judged_unprinted : (h : Record) (fault : Option Fault) → IsJudged h fault → (fault ≡ Some PrintFailed → ⊥)
judged_unprinted h fault judged is = subst (λ (f : Option Fault). IsJudged h f) is judged

-- a run that began with a plan did so whatever fault is told
pub force_of : (once : Bool) (plan : Plan) (h : Record) (fault : Option Fault) → Began once plan h → IsInForce once plan h fault
force_of once plan h None is = is
force_of once plan h (Some WantOfMemory) is = inr is
force_of once plan h (Some Usage) is = is
force_of once plan h (Some (ConfigRead path)) is = is
force_of once plan h (Some (ConfigRefused f)) is = is
force_of once plan h (Some (UnknownHost name)) is = is
force_of once plan h (Some (Numbers next wanted)) is = is
force_of once plan h (Some PrintFailed) is = is
force_of once plan h (Some (SourceFailed name at)) is = is
force_of once plan h (Some (ConfirmFailed name)) is = is
