-- The lists that a plan keeps are the targets of its ports.
use Rattle.std.specs.Prelude.{ℕ, suc, ◌+◌, ◌≡◌, Bool, true, false, not, cond, Option, Some, None, option_map, unwrap_or, find, List, [], ◌∷◌, map, slice_get, slice_index_or, refl}
use Rattle.std.specs.List.{position_or_len}
use Rattle.std.proofs.Common.{◌∙◌, ap, arith}
use Rattle.std.proofs.lemmas.Option.{unwrap_or-slice_get}
use Rattle.vx_value.specs.Texts.{ByteString, same_text}
use Rattle.vx_value.proofs.Order.{same_text-true}
use Rattle.vx_plan.specs.declared.component.Component.{Component}
use Rattle.vx_plan.specs.declared.plan.Plan.{Plan}
use Rattle.vx_plan.specs.Components.{component_named, port_names}
use Rattle.vx_plan.specs.Kept.{readers_of, all_readers}
use Rattle.vx_plan.specs.Targets.{readers, all_targets, targets}
use Rattle.vx_plan.proofs.Tests.{passing}

-- whether a component has a name
abbrev pub has_name : ByteString → Component → Bool
has_name name c = same_text c.name name

-- what was made of the first item that passes a test stands at its place
at_place : {X Y : Type 0} (f : X → Y) (p : X → Bool) (xs : List X) → slice_get (map f xs) (position_or_len p xs) ≡ option_map f (find p xs)
at_place f p [] = refl
at_place f p (x ∷ xs) = go (p x) (at_place f p xs)
  where
    go : (b : Bool) → slice_get (map f xs) (position_or_len p xs) ≡ option_map f (find p xs) →
        slice_get (f x ∷ map f xs) (cond (not b) (1 + position_or_len p xs) 0) ≡ option_map f (cond b (Some x) (find p xs))
    go true later = refl
    go false later = let next : 1 + position_or_len p xs ≡ suc (position_or_len p xs) = omega arith in ap (slice_get (f x ∷ map f xs)) next ∙ later

-- the lists of the component of a name are its targets
lists_of : (plan : Plan) (name : ByteString) →
    unwrap_or (slice_get (all_readers plan.components) (position_or_len (has_name name) plan.components)) [] ≡ all_targets plan name
lists_of plan name =
    ap (λ o. unwrap_or o []) (at_place (readers_of plan.components) (has_name name) plan.components) ∙ go (component_named plan name) refl
  where
    go : (o : Option Component) → component_named plan name ≡ o →
        unwrap_or (option_map (readers_of plan.components) o) [] ≡ elim o [ None ↦ [] | Some c ↦ map (readers plan name) (port_names c) ]
    go None at = refl
    go (Some c) at =
        let named : c.name ≡ name = same_text-true c.name name (passing (has_name name) plan.components c at) in
        ap (λ n. map (readers plan n) (port_names c)) named

-- the list that is kept for a port, or none
pub kept_targets : (viewed plan : Plan) (lists : List (List (List ByteString))) (components : List Component) (name : ByteString) (place port : ℕ) → viewed ≡ plan →
    lists ≡ all_readers viewed.components → components ≡ viewed.components → place ≡ position_or_len (has_name name) components →
    unwrap_or (slice_get (unwrap_or (slice_get lists place) []) port) [] ≡ targets plan name port
kept_targets viewed plan lists components name place port same kept all at =
    unwrap_or-slice_get (unwrap_or (slice_get lists place) []) port []
    ∙ ap (λ ls. slice_index_or (unwrap_or (slice_get ls place) []) port []) kept
    ∙ ap (λ i. slice_index_or (unwrap_or (slice_get (all_readers viewed.components) i) []) port []) (at ∙ ap (position_or_len (has_name name)) all)
    ∙ ap (λ ls. slice_index_or ls port []) (lists_of viewed name)
    ∙ ap (λ (p : Plan). targets p name port) same
