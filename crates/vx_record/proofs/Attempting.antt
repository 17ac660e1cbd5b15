-- What is attempted: some copies, of a batch that is due, by a codec.
use Rattle.std.proofs.Common.{◌≡◌, ℕ, ◌+◌, ◌<◌, Bool, true, false, ◌||◌, List, [], ◌∷◌, length, Option, Some, None, refl, sym, subst, arith, eq-eqb, inl, inr}
use Rattle.std.specs.Prelude.{◌⊎◌, not, is_some, if◌then◌else◌}
use Rattle.std.proofs.lemmas.Bool.{ltb-true, or_cases}
use Rattle.vx_value.specs.Texts.{is_empty}
use Rattle.vx_plan.specs.declared.class.Class.{Class}
use Rattle.vx_plan.specs.declared.class.Class.TheVariants.{Source, Transform, Sink}
use Rattle.vx_plan.specs.declared.component.Component.{Component}
use Rattle.vx_plan.specs.declared.settings.Settings.{Settings}
use Rattle.vx_plan.specs.declared.settings.Settings.TheVariants.{Stdin, FileIn, Console, FileOut}
use Rattle.vx_plan.specs.declared.stage.Stage.{Stage}
use Rattle.vx_plan.specs.Components.{stages, is_sink, transform_stages, sink_stages}
use Rattle.vx_plan.specs.Options.{encoding, has_device}
use Rattle.vx_record.specs.Copies.{count, joined}
use Rattle.vx_record.specs.Places.{all_puts, left}
use Rattle.vx_record.specs.Places.Place.{Held}
use Rattle.vx_record.specs.Lists.{held}
use Rattle.vx_record.specs.Parcels.{first_copy}
use Rattle.vx_record.specs.Stages.{stages_of}
use Rattle.vx_record.specs.Installs.{component_of}
use Rattle.vx_record.specs.Turns.{lease_now}
use Rattle.vx_record.specs.SinkBatches.{attempts_with, failures_with, oldest_held, is_full_batch, is_timed_out, is_last_batch, was_attempted}
use Rattle.vx_record.specs.Promises.{AttemptNames, AttemptDue, AttemptEncodes}
use Rattle.vx_record.proofs.Changes.{NoneEmpty, none_empty}
use Rattle.vx_record.proofs.Promises.{and_left, and_right}
use Rattle.vx_record.proofs.Bare.{none_held}
use Rattle.vx_record.proofs.Untried.{held_failed}

-- the copies of some parcels
some_joined : (ps : List (List ℕ)) → not (is_empty ps) ≡ true → NoneEmpty ps → 0 < length (joined ps)
some_joined [] some full = cc
some_joined ([] ∷ ps) some full = absurd full
some_joined ((c ∷ cs) ∷ ps) some full = omega arith

pub attempt_names : AttemptNames
attempt_names h i copies bytes answer row =
    let some = and_left (not (is_empty (held h i))) (is_full_batch h i || is_timed_out h i (lease_now h i) || is_last_batch h i || was_attempted h i) row.batch_closed in
    subst (λ (cs : List ℕ). 0 < length cs) (sym row.all) (some_joined (held h i) some (none_empty (Held i) (left h) (all_puts h)))

-- the first of them is one of them
first_counts : (cs : List ℕ) → 0 < length cs → 0 < count (first_copy cs) cs
first_counts [] some = absurd (omega (arith, some))
first_counts (c ∷ cs) some = subst (λ (b : Bool). 0 < (if b then 1 else 0) + count c cs) (sym (eq-eqb c c refl)) (omega arith)

pub attempt_due : AttemptDue
attempt_due h i copies bytes answer legal row =
    go (or_cases (is_full_batch h i || is_timed_out h i (lease_now h i) || is_last_batch h i) (was_attempted h i)
    (and_right (not (is_empty (held h i))) (is_full_batch h i || is_timed_out h i (lease_now h i) || is_last_batch h i || was_attempted h i) row.batch_closed))
  where
    some : 0 < length (joined (held h i))
    some = subst (λ (cs : List ℕ). 0 < length cs) row.all (attempt_names h i copies bytes answer row)

    go : ((is_full_batch h i || is_timed_out h i (lease_now h i) || is_last_batch h i) ≡ true) ⊎ (was_attempted h i ≡ true) →
        ((is_full_batch h i || is_timed_out h i (lease_now h i) || is_last_batch h i) ≡ true) ⊎ (0 < failures_with h i (oldest_held h i))
    go (inl closed) = inl closed
    go (inr tried) =
        let each = (held_failed h i copies bytes answer (oldest_held h i) legal row (first_counts (joined (held h i)) some)).0 in
        let more = ltb-true 0 (attempts_with h i (oldest_held h i)) tried in
        inr (omega (arith, each, more))

-- a sink with a port that can hold something has a codec
has_codec : (class : Class) (settings : Settings) → (elim class [ Source ↦ false | Transform ↦ false | Sink ↦ true ]) ≡ true → has_device settings ≡ true →
    (◌≡◌ {A = List Stage} (elim class [ Source ↦ [] | Transform ↦ transform_stages | Sink ↦ sink_stages settings ]) [] → ⊥) → is_some (encoding settings) ≡ true
has_codec Source settings is device some = cc
has_codec Transform settings is device some = cc
has_codec Sink (Stdin max_length codec) is device some = absurd (some refl)
has_codec Sink (FileIn most path from codec) is device some = absurd (some refl)
has_codec Sink (Console target codec sink) is device some = refl
has_codec Sink (FileOut path compression codec sink) is device some = refl
has_codec Sink settings is device some = cc

off_on : false ≡ true → ⊥
off_on e = cc

pub attempt_encodes : AttemptEncodes
attempt_encodes h i copies bytes answer legal row device = go (component_of h i) row.sink device unstaged
  where
    some : not (is_empty (held h i)) ≡ true
    some = and_left (not (is_empty (held h i))) (is_full_batch h i || is_timed_out h i (lease_now h i) || is_last_batch h i || was_attempted h i) row.batch_closed

    unstaged : stages_of h i ≡ [] → ⊥
    unstaged none = off_on (subst (λ (ps : List (List ℕ)). not (is_empty ps) ≡ true) (none_held h i legal none) some)

    go : (o : Option Component) → (elim o [ None ↦ false | Some c ↦ is_sink c ]) ≡ true → (elim o [ None ↦ false | Some c ↦ has_device c.settings ]) ≡ true → (◌≡◌ {A = List Stage} (elim o [ None ↦ [] | Some c ↦ stages c ]) [] → ⊥) → (elim o [ None ↦ false | Some c ↦ is_some (encoding c.settings) ]) ≡ true
    go None is works staged = cc
    go (Some c) is works staged = has_codec c.class c.settings is works staged
