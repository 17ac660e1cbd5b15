-- An instance runs the component in its place.
use Rattle.std.proofs.Common.{◌≡◌, ℕ, zero, suc, ◌+◌, Bool, false, List, [], ◌∷◌, Option, Some, None, refl, ap, subst, ◌∙◌, arith}
use Rattle.std.specs.Prelude.{◌==◌, slice_get}
use Rattle.std.proofs.lemmas.Bool.Decides.{nat_tests}
use Rattle.vx_value.specs.Texts.{ByteString}
use Rattle.vx_plan.specs.declared.plan.Plan.{Plan}
use Rattle.vx_plan.specs.declared.component.Component.{Component}
use Rattle.vx_plan.specs.Components.{component_named}
use Rattle.vx_plan.specs.Accepted.{IsPlan}
use Rattle.vx_record.specs.Records.{Record}
use Rattle.vx_record.specs.declared.entry.Entry.TheVariants.{Install}
use Rattle.vx_record.specs.declared.instance.Instance.{Instance}
use Rattle.vx_record.specs.Starting.{first_instances}
use Rattle.vx_record.specs.Installs.{Wiring, wiring, name_at, component_of, in_force, once_in}
use Rattle.vx_record.specs.Wirings.{begun}
use Rattle.vx_record.specs.Legal.{IsLegal}
use Rattle.vx_record.specs.Promises.{InForceAccepted, ComponentInPlace}
use Rattle.vx_record.proofs.FirstWiring.{name_of_first, found}

-- the plan in force was one to be installed
pub in_force_accepted : InForceAccepted
in_force_accepted [] plan legal force = cc
in_force_accepted (Install version made once instances now ∷ h) plan legal force =
    let same : made ≡ plan = cc in
    subst (λ (p : Plan). IsPlan p) same legal.0.row.accepted
in_force_accepted (e ∷ h) plan legal force = in_force_accepted h plan legal.1 force

-- an instance has the name of the component in its place
pub name_first : (components instances : List _) (k : ℕ) (c : Component) → slice_get components k ≡ Some c → instances ≡ first_instances 0 components → name_at instances k ≡ Some c.name
name_first components instances k c at are =
    let zero_on : k ≡ 0 + k = omega arith in
    ap (λ (is : List Instance). name_at is k) are ∙ ap (name_at (first_instances 0 components)) zero_on ∙ name_of_first 0 components k c at

-- an instance that an Install names is wired by it
named_wiring : (made : Plan) (once : Bool) (instances : List Instance) (name : ByteString) (o : Option ByteString) (w : Option Wiring) → o ≡ Some name →
    ◌≡◌ {A = Option Wiring} (elim o [ None ↦ w | Some n ↦ Some (record { plan = made; once = once; instances = instances; name = n }) ]) (Some (record { plan = made; once = once; instances = instances; name = name }))
named_wiring made once instances name o w is = ap (λ (x : Option ByteString). elim x [ None ↦ w | Some n ↦ Some (record { plan = made; once = once; instances = instances; name = n }) ]) is

same_wiring : (made plan : Plan) (once : Bool) (instances : List Instance) (name : ByteString) → instances ≡ first_instances 0 made.components → made ≡ plan →
    ◌≡◌ {A = Option Wiring} (Some (record { plan = made; once = once; instances = instances; name = name })) (Some (record { plan = plan; once = once; instances = first_instances 0 plan.components; name = name }))
same_wiring made plan once instances name are same =
    ap (λ (is : List Instance). Some (record { plan = made; once = once; instances = is; name = name })) are
    ∙ ap (λ (p : Plan). Some (record { plan = p; once = once; instances = first_instances 0 p.components; name = name })) same

-- and is wired as the plan that is in force has it
pub wired_so : (h : Record) (plan : Plan) (i : ℕ) (c : Component) → IsLegal h → in_force h ≡ Some plan → slice_get plan.components i ≡ Some c →
    wiring h i ≡ Some (record { plan = plan; once = once_in h; instances = first_instances 0 plan.components; name = c.name })
wired_so [] plan i c legal force at = cc
wired_so (Install version made once instances now ∷ h) plan i c legal force at =
    let same : made ≡ plan = cc in
    let here : slice_get made.components i ≡ Some c = ap (λ (p : Plan). slice_get p.components i) same ∙ at in
    named_wiring made once instances c.name (name_at instances i) (wiring h i) (name_first made.components instances i c here legal.0.row.all_new)
    ∙ same_wiring made plan once instances c.name legal.0.row.all_new same
wired_so (e ∷ h) plan i c legal force at = wired_so h plan i c legal.1 force at

-- so it runs the component of that name
pub component_is : (h : Record) (plan : Plan) (i : ℕ) (c : Component) → IsLegal h → in_force h ≡ Some plan → slice_get plan.components i ≡ Some c → component_of h i ≡ component_named plan c.name
component_is h plan i c legal force at =
    ap (λ (o : Option Wiring). elim o [ None ↦ None | Some w ↦ component_named w.plan w.name ]) (wired_so h plan i c legal force at)

-- a record that begins with a plan that may be installed is legal
pub begun_legal : (plan : Plan) (once : Bool) (now : ℕ) → IsPlan plan → IsLegal (begun plan once now)
begun_legal plan once now accepted = (record { row = record { first = refl; zeroth = refl; accepted = accepted; all_new = refl }; turn = refl; still = λ gone. cc }, tt)

-- that is the component in its place, since names differ
pub component_there : (h : Record) (plan : Plan) (i : ℕ) (c : Component) → IsLegal h → in_force h ≡ Some plan → slice_get plan.components i ≡ Some c → component_of h i ≡ Some c
component_there h plan i c legal force at =
    component_is h plan i c legal force at ∙ found plan.components i c (in_force_accepted h plan legal force).named at

-- nothing is wired past the components
name_past : (from : ℕ) (components : List Component) (k : ℕ) → slice_get components k ≡ None → name_at (first_instances from components) (from + k) ≡ None
name_past from [] k past = refl
name_past from (c ∷ rest) zero past = cc
name_past from (c ∷ rest) (suc k) past =
    let other : (from == from + suc k) ≡ false = grind (arith, nat_tests) in
    let further : from + suc k ≡ from + 1 + k = omega arith in
    rw (other, further) (name_past (from + 1) rest k past)

pub unwired_past : (h : Record) (plan : Plan) (i : ℕ) → IsLegal h → in_force h ≡ Some plan → slice_get plan.components i ≡ None → wiring h i ≡ None
unwired_past [] plan i legal force past = refl
unwired_past (Install version made once instances now ∷ h) plan i legal force past =
    let same : made ≡ plan = cc in
    let row = legal.0.row in
    let zero_on : i ≡ 0 + i = omega arith in
    let none : name_at instances i ≡ None = ap (λ is. name_at is i) row.all_new ∙ ap (name_at (first_instances 0 made.components)) zero_on ∙ name_past 0 made.components i (ap (λ (p : Plan). slice_get p.components i) same ∙ past) in
    let kept : wiring (Install version made once instances now ∷ h) i ≡ wiring h i =
    ap (λ (o : Option ByteString). elim o [ None ↦ wiring h i | Some name ↦ Some (record { plan = made; once = once; instances = instances; name = name }) ]) none in
    kept ∙ ap (λ (k : Record). wiring k i) row.first
unwired_past (e ∷ h) plan i legal force past = unwired_past h plan i legal.1 force past

-- and there is no other
pub component_in_place : ComponentInPlace
component_in_place h plan i legal force = go (slice_get plan.components i) refl
  where
    go : (o : Option Component) → slice_get plan.components i ≡ o → component_of h i ≡ o
    go None past = ap (λ (o : Option Wiring). elim o [ None ↦ None | Some w ↦ component_named w.plan w.name ]) (unwired_past h plan i legal force past)
    go (Some c) at = component_there h plan i c legal force at
