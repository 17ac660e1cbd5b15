-- No two instances have one name, so each is the heir of none.
use Rattle.std.proofs.Common.{◌≡◌, ℕ, zero, suc, ◌<◌, Bool, true, false, List, [], ◌∷◌, Option, Some, None, refl, sym, ap, ◌∙◌, arith}
use Rattle.std.specs.Prelude.{◌&&◌, not, nat_lt, slice_get}
use Rattle.std.specs.List.{list_any}
use Rattle.std.proofs.lemmas.Bool.Decides.{nat_tests}
use Rattle.std.proofs.lemmas.Bool.{or_from as neither, not-true as is_not}
use Rattle.vx_value.specs.Texts.{ByteString, same_text}
use Rattle.vx_value.proofs.Order.{same_text-true, same_text-refl}
use Rattle.vx_plan.specs.declared.component.Component.{Component}
use Rattle.vx_plan.specs.declared.plan.Plan.{Plan}
use Rattle.vx_plan.specs.Accepted.{names_differ}
use Rattle.vx_record.specs.Records.{Record}
use Rattle.vx_record.specs.Installs.{Wiring, in_force, name_of, started, device_at, is_closed}
use Rattle.vx_record.specs.Legal.{IsLegal}
use Rattle.vx_record.specs.Ready.{blocks, is_heir}
use Rattle.vx_record.proofs.Wired.{wired_so, in_force_accepted}
use Rattle.vx_record.proofs.Promises.{and_left, and_right, or_left, or_right}

-- where a test passes nowhere, it passes for none of some
none_passes : {X : Type 0} (test : X → Bool) (xs : List X) → ((x : X) → test x ≡ false) → list_any test xs ≡ false
none_passes test [] none = refl
none_passes test (x ∷ xs) none = neither (test x) (list_any test xs) (none x) (none_passes test xs none)

-- an instance has the name of the component in its place
named_as : (h : Record) (plan : Plan) (i : ℕ) (c : Component) → IsLegal h → in_force h ≡ Some plan → slice_get plan.components i ≡ Some c → name_of h i ≡ c.name
named_as h plan i c legal force at = ap (λ (o : Option Wiring). elim o [ None ↦ [] | Some w ↦ w.name ]) (wired_so h plan i c legal force at)

-- where no component has a name, that in any place hasn't
no_other : (components : List Component) (k : ℕ) (d : Component) (w : ByteString) → list_any (λ (x : Component). same_text x.name w) components ≡ false → slice_get components k ≡ Some d → same_text d.name w ≡ false
no_other [] k d w none at = cc
no_other (x ∷ rest) zero d w none at =
    let same : x ≡ d = cc in
    ap (λ (y : Component). same_text y.name w) (sym same) ∙ or_left (same_text x.name w) (list_any (λ (y : Component). same_text y.name w) rest) none
no_other (x ∷ rest) (suc k) d w none at = no_other rest k d w (or_right (same_text x.name w) (list_any (λ (y : Component). same_text y.name w) rest) none) at

-- texts that differ differ either way
other_way : (v w : ByteString) → same_text w v ≡ false → same_text v w ≡ false
other_way v w other = go (same_text v w) refl
  where
    go : (b : Bool) → same_text v w ≡ b → b ≡ false
    go false e = refl
    go true e =
        let same : v ≡ w = same_text-true v w e in
        let is : same_text w v ≡ true = ap (same_text w) same ∙ same_text-refl w in
        let no : true ≡ false = sym is ∙ other in
        cc

-- two components have two names
apart : (components : List Component) (j k : ℕ) (c d : Component) → names_differ components ≡ true → j < k → slice_get components j ≡ Some c → slice_get components k ≡ Some d → same_text c.name d.name ≡ false
apart [] j k c d differ l first second = cc
apart (x ∷ rest) j zero c d differ l first second = absurd (omega (arith, l))
apart (x ∷ rest) zero (suc k) c d differ l first second =
    let same : x ≡ c = cc in
    let none = is_not (list_any (λ (y : Component). same_text y.name x.name) rest) (and_left (not (list_any (λ (y : Component). same_text y.name x.name) rest)) (names_differ rest) differ) in
    other_way c.name d.name (ap (λ (y : Component). same_text d.name y.name) (sym same) ∙ no_other rest k d x.name none second)
apart (x ∷ rest) (suc j) (suc k) c d differ l first second =
    apart rest j k c d (and_right (not (list_any (λ (y : Component). same_text y.name x.name) rest)) (names_differ rest) differ) (omega (arith, l)) first second

-- a component stands in each place before one
there_before : (components : List Component) (j k : ℕ) (d : Component) → j < k → slice_get components k ≡ Some d → (c : Component) × (slice_get components j ≡ Some c)
there_before [] j k d l at = cc
there_before (x ∷ rest) j zero d l at = absurd (omega (arith, l))
there_before (x ∷ rest) zero (suc k) d l at = (x, refl)
there_before (x ∷ rest) (suc j) (suc k) d l at = there_before rest j k d (omega (arith, l)) at

-- no older instance has the name of one
unshared : (h : Record) (plan : Plan) (i j : ℕ) (d : Component) → IsLegal h → in_force h ≡ Some plan → slice_get plan.components i ≡ Some d → j < i → same_text (name_of h j) (name_of h i) ≡ false
unshared h plan i j d legal force at l =
    let (c, first) = there_before plan.components j i d l at in
    ap (λ (w : ByteString). same_text w (name_of h i)) (named_as h plan j c legal force first) ∙ ap (same_text c.name) (named_as h plan i d legal force at)
    ∙ apart plan.components j i c d (in_force_accepted h plan legal force).named l first at

-- so each instance that is there is an heir
pub heir : (h : Record) (plan : Plan) (i : ℕ) (d : Component) → IsLegal h → in_force h ≡ Some plan → slice_get plan.components i ≡ Some d → is_heir h i ≡ true
heir h plan i d legal force at =
    ap not (none_passes (blocks h i) (started h)
    (λ j. tested (nat_lt j i) (same_text (name_of h j) (name_of h i)) (device_at h j) (not (is_closed h j)) (λ less. unshared h plan i j d legal force at (grind (arith, nat_tests, less)))))
  where
    tested : (a b c d : Bool) → (a ≡ true → b ≡ false) → (a && b && c && d) ≡ false
    tested true true c d e = let no : true ≡ false = e refl in cc
    tested true false c d e = refl
    tested false b c d e = refl
