-- Whether a walk leads from a component to a sink that acknowledges, told step by step or component by component, is one thing.
use Rattle.std.specs.Prelude.{ℕ, zero, suc, ◌≡◌, length, map, filter, find, Some, None, Option, Bool, true, false, ◌||◌, ◌&&◌, List, [], ◌∷◌, refl, if◌then◌else◌}
use Rattle.std.specs.List.{list_any}
use Rattle.std.proofs.Common.{◌∙◌, ap, sym}
use Rattle.vx_value.specs.Texts.{ByteString, same_text}
use Rattle.vx_value.proofs.Order.{same_text-true, same_text-refl}
use Rattle.vx_plan.specs.declared.component.Component.{Component}
use Rattle.vx_plan.specs.declared.plan.Plan.{Plan}
use Rattle.vx_plan.specs.Components.{component_named, port_names, acknowledges}
use Rattle.vx_plan.specs.Targets.{all_targets, acknowledges_named, leads, is_among, leads_into, led, leading, acknowledged, readers}

same_text-sym : (a b : ByteString) → same_text a b ≡ same_text b a
same_text-sym a b = go (same_text a b) (same_text b a) refl refl
  where
    go : (x y : Bool) → same_text a b ≡ x → same_text b a ≡ y → x ≡ y
    go true true e f = refl
    go false false e f = refl
    go true false e f = let same = same_text-true a b e in let self = ap (λ c. same_text b c) same ∙ same_text-refl b in sym self ∙ f
    go false true e f = let same = same_text-true b a f in let self = ap (λ c. same_text a c) same ∙ same_text-refl a in sym e ∙ self

-- the names that pass a test
filtered : (p : ByteString → Bool) (names : List ByteString) (name : ByteString) → is_among (filter p names) name ≡ (p name && is_among names name)
filtered p [] name = go (p name)
  where
    go : (b : Bool) → false ≡ (b && false)
    go true = refl
    go false = refl
filtered p (n ∷ names) name = go (p n) (same_text name n) refl refl (filtered p names name)
  where
    go : (passes same : Bool) → p n ≡ passes → same_text name n ≡ same → is_among (filter p names) name ≡ (p name && is_among names name) →
        is_among (if passes then n ∷ filter p names else filter p names) name ≡ (p name && (same || is_among names name))
    go true true e f ih =
        let at : p name ≡ true = ap p (same_text-true name n f) ∙ e in
        ap (λ b. b || is_among (filter p names) name) f ∙ sym (ap (λ b. b && true) at)
    go true false e f ih = ap (λ b. b || is_among (filter p names) name) f ∙ ih
    go false true e f ih =
        let at : p name ≡ false = ap p (same_text-true name n f) ∙ e in
        ih ∙ ap (λ b. b && is_among names name) at ∙ sym (ap (λ b. b && true) at)
    go false false e f ih = ih

-- a name that no component has leads nowhere
unknown : (components : List Component) (name : ByteString) → is_among (map (λ (c : Component). c.name) components) name ≡ false →
    find (λ (c : Component). same_text c.name name) components ≡ None
unknown [] name e = refl
unknown (c ∷ rest) name e = go (λ f. unknown rest name f) (same_text name c.name) (same_text c.name name) (same_text-sym name c.name) e
  where
    go : (is_among (map (λ (c : Component). c.name) rest) name ≡ false → find (λ (c : Component). same_text c.name name) rest ≡ None) → (b d : Bool) → b ≡ d → (b || is_among (map (λ (c : Component). c.name) rest) name) ≡ false →
        (if d then Some c else find (λ (c : Component). same_text c.name name) rest) ≡ None
    go ih false false f e = ih e
    go ih true d f e = cc
    go ih false true f e = cc

leads_nowhere : (plan : Plan) (reached : List ByteString) (name : ByteString) → component_named plan name ≡ None → leads_into plan reached name ≡ false
leads_nowhere plan reached name none =
    ap (λ (o : Option Component). (elim o [ None ↦ false | Some c ↦ acknowledges c ]) || list_any (list_any (is_among reached)) (elim o [ None ↦ [] | Some c ↦ map (readers plan name) (port_names c) ])) none

-- what leads into some components is among those from which one step does
pub led_by : (plan : Plan) (reached : List ByteString) (name : ByteString) → is_among (led plan reached) name ≡ leads_into plan reached name
led_by plan reached name =
    filtered (leads_into plan reached) names name
    ∙ go (λ e. unknown plan.components name e) (leads_into plan reached name) (is_among names name) refl refl
  where
    names : List ByteString
    names = map (λ (c : Component). c.name) plan.components

    go : (is_among names name ≡ false → component_named plan name ≡ None) → (leads there : Bool) → leads_into plan reached name ≡ leads →
        is_among names name ≡ there → (leads && there) ≡ leads
    go none true true e f = refl
    go none true false e f = sym (leads_nowhere plan reached name (none f)) ∙ e
    go none false there e f = refl

-- step by step, or for all components at once
pub leads_is : (steps : ℕ) (plan : Plan) (name : ByteString) → leads steps plan name ≡ is_among (leading steps plan) name
leads_is zero plan name = refl
leads_is (suc steps) plan name =
    ap (λ (f : ByteString → Bool). acknowledges_named plan name || list_any (list_any f) (all_targets plan name))
    (λ t x. leads_is steps plan x t)
    ∙ sym (led_by plan (leading steps plan) name)

pub acknowledged_is : (plan : Plan) (name : ByteString) → leads (length plan.components) plan name ≡ acknowledged plan name
acknowledged_is plan name = leads_is (length plan.components) plan name
