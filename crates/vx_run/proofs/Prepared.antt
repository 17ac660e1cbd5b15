-- A port is put behind those that there are.
use Rattle.std.proofs.Common.{◌≡◌, ◌∙◌, ℕ, Bool, zero, suc, ◌+◌, ◌<◌, List, [], ◌∷◌, ◌++◌, length, get_or, Option, Some, refl, sym, ap, subst, arith}
use Rattle.std.specs.Prelude.{slice_get}
use Rattle.vx_plan.specs.declared.component.Component.{Component}
use Rattle.vx_ends.specs.declared.port_spec.PortSpec.{PortSpec}
use Rattle.vx_ends.specs.Observation.{Observation, IsFresh}
use Rattle.vx_hub.specs.declared.parts.Named.{Named}
use Rattle.vx_hub.specs.Making.{IsUntouched, AreUntouched}
use Rattle.vx_tasks.specs.Observing.{HasCounted}

untouched_more : {P : Type 0} (observe : P → Observation) (needs : Component → Option PortSpec) (components : List Component) (ports : List (Named P)) (component : Component) (named : Named P) → slice_get components (length ports) ≡ Some component →
    AreUntouched observe needs components ports → IsUntouched (needs component) (observe named.port) → AreUntouched observe needs components (ports ++ named ∷ [])
untouched_more observe needs [] [] component named is all one = cc
untouched_more observe needs (c ∷ cs) [] component named is all one = let same : c ≡ component = cc in (subst (λ (d : Component). IsUntouched (needs d) (observe named.port)) (sym same) one, tt)
untouched_more observe needs [] (p ∷ ports) component named is all one = absurd all
untouched_more observe needs (c ∷ cs) (p ∷ ports) component named is all one = (all.0, untouched_more observe needs cs ports component named is all.1 one)

-- a list of which that is so may be told otherwise
pub untouched_added : {P : Type 0} (observe : P → Observation) (needs : Component → Option PortSpec) (components : List Component) (ports more : List (Named P)) (component : Component) (named : Named P) → more ≡ ports ++ named ∷ [] →
    slice_get components (length ports) ≡ Some component → AreUntouched observe needs components ports → IsUntouched (needs component) (observe named.port) → AreUntouched observe needs components more
untouched_added {P} observe needs components ports more component named is at all one =
    subst (λ (ps : List (Named P)). AreUntouched observe needs components ps) (sym is) (untouched_more observe needs components ports component named at all one)

-- what stands at a place
slice_got : {X : Type 0} (xs : List X) (i : ℕ) (x : X) → i < length xs → x ≡ get_or xs i x → slice_get xs i ≡ Some x
slice_got [] i x l is = absurd (omega arith)
slice_got (y ∷ ys) zero x l is = ap Some (sym is)
slice_got (y ∷ ys) (suc i) x l is = slice_got ys i x (omega arith) is

pub component_got : (components items : List Component) (i n : ℕ) (component : Component) → items ≡ components → n ≡ i → i < length items → component ≡ get_or items i component → slice_get components n ≡ Some component
component_got components items i n component same count l is =
    subst (λ (k : ℕ). slice_get components k ≡ Some component) (sym count) (subst (λ (cs : List Component). slice_get cs i ≡ Some component) same (slice_got items i component l is))

longer : {X : Type 0} (xs : List X) (x : X) → length (xs ++ x ∷ []) ≡ length xs + 1
longer [] x = refl
longer (y ∷ ys) x = omega (arith, longer ys x)

pub one_more : {X : Type 0} (xs more : List X) (x : X) → more ≡ xs ++ x ∷ [] → length more ≡ length xs + 1
one_more xs more x is = ap length is ∙ longer xs x

none_counted : (exact : Bool) (n : ℕ) → n ≡ 0 → HasCounted exact 0 n
none_counted exact n is = record { least = omega (arith, is); exactly = λ on. is }

-- a port that is fresh for that is untouched
fresh_untouched : (spec : PortSpec) (observed : Observation) → IsFresh spec observed → IsUntouched (Some spec) observed
fresh_untouched spec observed fresh = record {
  made_for = fresh.made_for;
  taken = fresh.taken;
  given = fresh.given;
  confirmed = fresh.confirmed;
  ended = fresh.ended;
  closed = fresh.closed;
  starts = none_counted observed.exact observed.starts fresh.starts;
  faults = none_counted observed.exact observed.faults fresh.faults;
  refusals = none_counted observed.exact observed.refusals fresh.refusals;
  idles = none_counted observed.exact observed.idles fresh.idles;
  finishes = none_counted observed.exact observed.finishes fresh.finishes;
  confirms = none_counted observed.exact observed.confirms fresh.confirms;
}

-- so is one that is fresh for what is needed
pub port_untouched : (needs found : Option PortSpec) (spec : PortSpec) (observed : Observation) → found ≡ needs → found ≡ Some spec → IsFresh spec observed → IsUntouched needs observed
port_untouched needs found spec observed is there fresh =
    subst (λ (needed : Option PortSpec). IsUntouched needed observed) (sym there ∙ is) (fresh_untouched spec observed fresh)
