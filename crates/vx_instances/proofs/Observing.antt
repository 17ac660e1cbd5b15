-- What a port tells, and how far its task has come, stays behind entries that are of another task, or of none, or tell nothing.
use Rattle.std.proofs.Common.{◌≡◌, ◌∙◌, ℕ, ◌+◌, false, [], ◌∷◌, refl, sym, ap, subst, arith}
use Rattle.std.specs.Prelude.{if◌then◌else◌}
use Rattle.std.proofs.lemmas.List.{append-nil}
use Rattle.vx_ends.specs.Observation.{Observation}
use Rattle.vx_plan.specs.declared.component.Component.{Component}
use Rattle.vx_record.specs.declared.entry.Entry.{Entry}
use Rattle.vx_record.specs.declared.entry.Entry.TheVariants.{Install, Read, Idle, SourceLost, Attempt, Confirm}
use Rattle.vx_record.specs.Records.{Record}
use Rattle.vx_record.specs.Legal.{IsLegal}
use Rattle.vx_record.specs.Tasks.{is_of, IsOwn}
use Rattle.vx_record.specs.Installs.{wiring, component_of, device_at, component_or}
use Rattle.vx_record.specs.Ready.{reading_moment}
use Rattle.vx_record.specs.PortCounts.{finish_count}
use Rattle.vx_record.proofs.Mine.{others}
use Rattle.vx_record.proofs.Senders.{same_component_or}
use Rattle.vx_sourcecore.proofs.Keeping.{abreast_kept, abreast_under}
use Rattle.vx_sourcecore.proofs.MakingKept.{generating_kept, generating_under}
use Rattle.vx_tasks.specs.declared.task.Role.{Role}
use Rattle.vx_tasks.specs.declared.task.Role.TheVariants.{Source, Generator, Sink, Blackhole, Transform, Merge, Unfit}
use Rattle.vx_tasks.specs.Observing.{IsObserved, HasCounted}
use Rattle.vx_tasks.specs.Unleased.{HasCome}
use Rattle.vx_tasks.proofs.Staying.{device_is, observed_same}

-- an entry that installs nothing
abbrev pub InstallsNothing : Entry → Type 0
InstallsNothing (Install version plan once instances now) = ⊥
InstallsNothing other = Unit {0}

-- an entry that installs nothing, and tells nothing of any port
abbrev pub IsMute : Entry → Type 0
IsMute (Install version plan once instances now) = ⊥
IsMute (Read i stream took) = ⊥
IsMute (Idle i failed) = ⊥
IsMute (SourceLost i at failed) = ⊥
IsMute (Attempt i copies bytes reply) = ⊥
IsMute (Confirm i positions made) = ⊥
IsMute other = Unit {0}

-- what is a task's own stays behind an entry of others
pub stays : {X : Type 0} (f : Record → ℕ → X) → IsOwn f → (h : Record) (e : Entry) (i : ℕ) → is_of i e ≡ false → f (e ∷ h) i ≡ f h i
stays f own h e i is = own (e ∷ h) i ∙ ap (λ (m : Record). f m i) (others h e i is) ∙ sym (own h i)

-- so does what an instance is wired to, behind one that installs nothing
pub wiring_on : (h : Record) (e : Entry) (i : ℕ) → InstallsNothing e → wiring (e ∷ h) i ≡ wiring h i
wiring_on h (Install version plan once instances now) i none = absurd none
wiring_on h e i none = refl

pub component_on : (h : Record) (e : Entry) (i : ℕ) → InstallsNothing e → component_of (e ∷ h) i ≡ component_of h i
component_on h (Install version plan once instances now) i none = absurd none
component_on h e i none = refl

pub component_or_on : {X : Type 0} (other : X) (f : Component → X) (h : Record) (e : Entry) (i : ℕ) → InstallsNothing e → component_or other f (e ∷ h) i ≡ component_or other f h i
component_or_on other f h e i none = same_component_or other f (e ∷ h) h i (wiring_on h e i none)

-- OTHERS
-- what a port tells
pub observed_far : (t : Observation) (h : Record) (e : Entry) (i : ℕ) → InstallsNothing e → is_of i e ≡ false → IsObserved t h i → IsObserved t (e ∷ h) i
observed_far t h e i none is = observed_same t h (e ∷ h) i (others h e i is) (wiring_on h e i none)

-- the moment from which on a source may be read
pub rests_far : (h : Record) (e : Entry) (i : ℕ) → is_of i e ≡ false → reading_moment (e ∷ h) i ≡ reading_moment h i
rests_far h (Read j stream took) i is = rw is refl
rests_far h (Idle j failed) i is = rw is refl
rests_far h e i is = refl

-- and how far its task has come
pub come_far : (role : Role) (h : Record) (e : Entry) (i : ℕ) → IsLegal (e ∷ h) → InstallsNothing e → is_of i e ≡ false → HasCome h i role → HasCome (e ∷ h) i role
come_far (Source core) h e i legal none is come =
    (abreast_kept h (e ∷ h) i core (record { added = e ∷ []; is = refl; each = (record { follows = legal.0; kind = is }, tt) }) come.0, device_is (e ∷ h) h i (component_on h e i none) ∙ come.1)
come_far (Generator generator) h e i legal none is come =
    (generating_kept h (e ∷ h) i generator (record { added = e ∷ []; is = refl; each = (record { follows = legal.0; kind = is }, tt) }) come.0, device_is (e ∷ h) h i (component_on h e i none) ∙ come.1)
come_far Blackhole h (Install version plan once instances now) i legal none is come = absurd none
come_far Blackhole h e i legal none is come = come
come_far (Sink codec) h (Install version plan once instances now) i legal none is come = absurd none
come_far (Sink codec) h e i legal none is come = come
come_far (Transform picker) h (Install version plan once instances now) i legal none is come = absurd none
come_far (Transform picker) h e i legal none is come = come
come_far Merge h (Install version plan once instances now) i legal none is come = absurd none
come_far Merge h e i legal none is come = come
come_far Unfit h e i legal none is come = tt

-- MUTE ENTRIES
more_none : (n : ℕ) → n + 0 ≡ n
more_none n = omega arith

-- what a port tells
pub observed_mute : (t : Observation) (h : Record) (e : Entry) (i : ℕ) → IsMute e → IsObserved t h i → IsObserved t (e ∷ h) i
observed_mute t h (Install version plan once instances now) i mute observed = absurd mute
observed_mute t h (Read j stream took) i mute observed = absurd mute
observed_mute t h (Idle j failed) i mute observed = absurd mute
observed_mute t h (SourceLost j at failed) i mute observed = absurd mute
observed_mute t h (Attempt j copies bytes reply) i mute observed = absurd mute
observed_mute t h (Confirm j positions made) i mute observed = absurd mute
observed_mute t h e i mute observed = record {
  taken = observed.taken;
  given = search (append-nil, more_none);
  spec = observed.spec;
  confirmed = search (append-nil, more_none);
  ended = search (append-nil, more_none);
  over = observed.over;
  faults = search (append-nil, more_none);
  refusals = search (append-nil, more_none);
  idles = search (append-nil, more_none);
  finishes = subst (λ (n : ℕ). HasCounted t.exact n t.finishes) (ap (λ (n : ℕ). if device_at h i then n else 0) (sym (more_none (finish_count h i)))) observed.finishes;
  confirms = search (append-nil, more_none);
}

-- and how far its task has come
pub come_mute : (role : Role) (h : Record) (e : Entry) (i : ℕ) → IsMute e → HasCome h i role → HasCome (e ∷ h) i role
come_mute (Source core) h (Install version plan once instances now) i mute come = absurd mute
come_mute (Source core) h e i mute come = (abreast_under h e i core (search) come.0, come.1)
come_mute (Generator generator) h (Install version plan once instances now) i mute come = absurd mute
come_mute (Generator generator) h e i mute come = (generating_under h e i generator (search) come.0, come.1)
come_mute Blackhole h (Install version plan once instances now) i mute come = absurd mute
come_mute Blackhole h e i mute come = come
come_mute (Sink codec) h (Install version plan once instances now) i mute come = absurd mute
come_mute (Sink codec) h e i mute come = come
come_mute (Transform picker) h (Install version plan once instances now) i mute come = absurd mute
come_mute (Transform picker) h e i mute come = come
come_mute Merge h (Install version plan once instances now) i mute come = absurd mute
come_mute Merge h e i mute come = come
come_mute Unfit h e i mute come = tt
