-- What the record says of a run, when it is judged.
use Rattle.std.proofs.Common.{◌≡◌, ◌∙◌, inl, inr, ℕ, ◌+◌, ◌<◌, Bool, true, false, [], ◌∷◌, length, Option, Some, None, IsSome, refl, sym, ap, subst, arith}
use Rattle.std.proofs.lemmas.Bool.{cases_eq}
use Rattle.vx_plan.specs.declared.plan.Plan.{Plan}
use Rattle.vx_record.specs.Ceasing.{lost_at, cause_of}
use Rattle.vx_record.specs.Confirms.{is_unconfirmed}
use Rattle.vx_record.specs.Ending.{HasReason}
use Rattle.vx_record.specs.Installs.{in_force, started}
use Rattle.vx_record.specs.Legal.{IsLegal}
use Rattle.vx_record.specs.Records.{Record}
use Rattle.vx_record.specs.declared.abandon_cause.AbandonCause.{AbandonCause}
use Rattle.vx_record.specs.declared.abandon_cause.AbandonCause.TheVariants as cause
use Rattle.vx_record.specs.declared.entry.Entry.TheVariants.{Abandon}
use Rattle.vx_cli.specs.declared.fault.Fault.{Fault}
use Rattle.vx_cli.specs.declared.fault.Fault.TheVariants.{Usage, ConfigRead, ConfigRefused, UnknownHost, Numbers, SourceFailed, ConfirmFailed, PrintFailed, WantOfMemory}
use Rattle.vx_run.specs.Answers.{IsJudged, NoneLost, AllConfirmed, WentOn}
use Rattle.vx_run.specs.Judging.{IsNamed, IsUnconfirmedAt, IsUnasked, IsFaultOf}
use Rattle.vx_run.proofs.Sources.{source_within, lost_source, unconfirmed_source}

module _ (h : Record) (plan : Plan) (legal : IsLegal h) (force : in_force h ≡ Some plan) where
  -- where no instance was lost, nothing was
  pub none_lost : ((i : ℕ) → i < length (started h) → lost_at h i ≡ None) → NoneLost h
  none_lost none i = go (lost_at h i) refl
    where
      go : (o : Option ℕ) → lost_at h i ≡ o → lost_at h i ≡ None
      go None e = e
      go (Some at) e = none i (source_within h plan i legal force (lost_source h i legal (subst (λ (o : Option ℕ). IsSome o) (sym e) refl)))

  -- and the same of confirms
  pub all_confirmed : ((i : ℕ) → i < length (started h) → is_unconfirmed h i ≡ false) → AllConfirmed h
  all_confirmed none i = go (is_unconfirmed h i) refl
    where
      go : (b : Bool) → is_unconfirmed h i ≡ b → is_unconfirmed h i ≡ false
      go true e = none i (source_within h plan i legal force (unconfirmed_source h i legal e))
      go false e = e

pub judged_lost : (h : Record) (i at : ℕ) (fault : Fault) → WentOn h → lost_at h i ≡ Some at → ((j : ℕ) → j < i → lost_at h j ≡ None) → IsNamed h i at fault → IsJudged h (Some fault)
judged_lost h i at Usage goes lost least named = absurd named
judged_lost h i at (ConfigRead path) goes lost least named = absurd named
judged_lost h i at (ConfigRefused f) goes lost least named = absurd named
judged_lost h i at (UnknownHost name) goes lost least named = absurd named
judged_lost h i at (Numbers next wanted) goes lost least named = absurd named
judged_lost h i at PrintFailed goes lost least named = absurd named
judged_lost h i at (SourceFailed name n) goes lost least named = (goes, (i, record { lost = lost ∙ ap Some (sym named.0); least = least; named = named.1 }))
judged_lost h i at (ConfirmFailed name) goes lost least named = absurd named
judged_lost h i at WantOfMemory goes lost least named = tt

pub judged_unconfirmed : (h : Record) (i : ℕ) (fault : Fault) → WentOn h → NoneLost h → is_unconfirmed h i ≡ true → ((j : ℕ) → j < i → is_unconfirmed h j ≡ false) → IsUnconfirmedAt h i fault →
    IsJudged h (Some fault)
judged_unconfirmed h i Usage goes kept failed least named = absurd named
judged_unconfirmed h i (ConfigRead path) goes kept failed least named = absurd named
judged_unconfirmed h i (ConfigRefused f) goes kept failed least named = absurd named
judged_unconfirmed h i (UnknownHost name) goes kept failed least named = absurd named
judged_unconfirmed h i (Numbers next wanted) goes kept failed least named = absurd named
judged_unconfirmed h i PrintFailed goes kept failed least named = absurd named
judged_unconfirmed h i (SourceFailed name n) goes kept failed least named = absurd named
judged_unconfirmed h i (ConfirmFailed name) goes kept failed least named = (goes, (kept, (i, record { failed = failed; least = least; named = named })))
judged_unconfirmed h i WantOfMemory goes kept failed least named = tt

-- nobody asked for a reason that there is
reason_unasked : (h : Record) (cause : AbandonCause) → HasReason h cause → IsUnasked cause
reason_unasked h (cause.Grace stopped now limit) r = let no : None ≡ Some stopped = r.0 in cc
reason_unasked h (cause.Numbers next wanted) r = tt
reason_unasked h cause.WantOfMemory r = tt

-- a run that was given up has a reason, and nobody asked it to stop
pub legal_unasked : (h : Record) (cause : AbandonCause) → IsLegal h → cause_of h ≡ Some cause → IsUnasked cause
legal_unasked [] cause legal is = cc
legal_unasked (Abandon found ∷ h) cause legal is = let same : found ≡ cause = cc in subst (λ (c : AbandonCause). IsUnasked c) same (reason_unasked h found legal.0.row.reason)
legal_unasked (e ∷ h) cause legal is = legal_unasked h cause legal.1 is

-- the fault of a run that was given up says why
pub judged_given_up : (h : Record) (cause : AbandonCause) (fault : Fault) → cause_of h ≡ Some cause → IsUnasked cause → IsFaultOf cause fault → IsJudged h (Some fault)
judged_given_up h (cause.Grace stopped now limit) fault is unasked of = absurd unasked
judged_given_up h (cause.Numbers next wanted) fault is unasked of = subst (λ (f : Fault). IsJudged h (Some f)) (sym of) is
judged_given_up h cause.WantOfMemory fault is unasked of = subst (λ (f : Fault). IsJudged h (Some f)) (sym of) tt

-- what holds of each number below one, and of that
pub one_further : {X : Type 0} (f : ℕ → X) (x : X) (n : ℕ) → ((k : ℕ) → k < n → f k ≡ x) → f n ≡ x → (k : ℕ) → k < n + 1 → f k ≡ x
one_further f x n below here k l = elim (cases_eq k n) [
  | inl same ↦ ap f same ∙ here
  | inr other ↦ below k (omega (arith, l, other))
]
