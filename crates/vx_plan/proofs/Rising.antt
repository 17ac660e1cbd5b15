-- The components from which a walk leads to a sink that acknowledges grow with the steps, and are all found by as many steps as there are components.
use Rattle.std.specs.Prelude.{ℕ, zero, suc, ◌≡◌, ◌<◌, ◌≤◌, ◌⊎◌, Bool, true, false, List, [], ◌∷◌, length, map, filter, refl, if◌then◌else◌}
use Rattle.std.specs.List.{list_any}
use Rattle.std.proofs.Common.{◌∙◌, ap, sym, arith, inl, inr}
use Rattle.std.proofs.lemmas.List.{length-map}
use Rattle.vx_value.specs.Texts.{ByteString}
use Rattle.vx_plan.specs.declared.component.Component.{Component}
use Rattle.vx_plan.specs.declared.plan.Plan.{Plan}
use Rattle.vx_plan.specs.Targets.{all_targets, acknowledges_named, is_among, leads_into, led, leading}
use Rattle.vx_plan.specs.Chains.{AcknowledgedOn}
use Rattle.vx_plan.proofs.Tests.{or_some, or_here, or_there, any_more}
use Rattle.vx_plan.proofs.Walks.{led_by}

-- where one test passes more than another, more items pass it, or the same
filter_more : {X : Type 0} (p q : X → Bool) (xs : List X) → ((x : X) → p x ≡ true → q x ≡ true) →
    (length (filter p xs) < length (filter q xs)) ⊎ (filter p xs ≡ filter q xs)
filter_more p q [] more = inr refl
filter_more p q (x ∷ xs) more = go (p x) (q x) (more x) (filter_more p q xs more)
  where
    go : (a b : Bool) → (a ≡ true → b ≡ true) → (length (filter p xs) < length (filter q xs)) ⊎ (filter p xs ≡ filter q xs) →
        (length (if a then x ∷ filter p xs else filter p xs) < length (if b then x ∷ filter q xs else filter q xs))
        ⊎ ((if a then x ∷ filter p xs else filter p xs) ≡ (if b then x ∷ filter q xs else filter q xs))
    go true true imp (inl less) = inl (omega (arith, less))
    go true true imp (inr same) = inr (ap (λ ys. x ∷ ys) same)
    go true false imp rest = let clash = imp refl in cc
    go false true imp (inl less) = inl (omega (arith, less))
    go false true imp (inr same) = let long : length (filter p xs) ≡ length (filter q xs) = ap (λ ys. length ys) same in inl (omega (arith, long))
    go false false imp rest = rest

filter_few : {X : Type 0} (p : X → Bool) (xs : List X) → length (filter p xs) ≤ length xs
filter_few p [] = omega arith
filter_few p (x ∷ xs) = go (p x) (filter_few p xs)
  where
    go : (b : Bool) → length (filter p xs) ≤ length xs → length (if b then x ∷ filter p xs else filter p xs) ≤ length (x ∷ xs)
    go true few = omega (arith, few)
    go false few = omega (arith, few)

-- what leads into some components leads into more
into_more : (plan : Plan) (a b : List ByteString) → ((name : ByteString) → is_among a name ≡ true → is_among b name ≡ true) →
    (name : ByteString) → leads_into plan a name ≡ true → leads_into plan b name ≡ true
into_more plan a b more name e = go (or_some (acknowledges_named plan name) (list_any (list_any (is_among a)) (all_targets plan name)) e)
  where
    go : (acknowledges_named plan name ≡ true) ⊎ (list_any (list_any (is_among a)) (all_targets plan name) ≡ true) → leads_into plan b name ≡ true
    go (inl here) = or_here (acknowledges_named plan name) (list_any (list_any (is_among b)) (all_targets plan name)) here
    go (inr there) =
        or_there (acknowledges_named plan name) (list_any (list_any (is_among b)) (all_targets plan name))
        (any_more (list_any (is_among a)) (list_any (is_among b)) (all_targets plan name) (λ names. any_more (is_among a) (is_among b) names more) there)

-- a further step leads from more components
rising : (n : ℕ) (plan : Plan) (name : ByteString) → is_among (leading n plan) name ≡ true → is_among (leading (suc n) plan) name ≡ true
rising zero plan name e = cc
rising (suc n) plan name e =
    led_by plan (leading (suc n) plan) name
    ∙ into_more plan (leading n plan) (leading (suc n) plan) (rising n plan) name (sym (led_by plan (leading n plan) name) ∙ e)

-- so a further step finds more of them, or the same
compared : (n : ℕ) (plan : Plan) → (length (leading n plan) < length (leading (suc n) plan)) ⊎ (leading n plan ≡ leading (suc n) plan)
compared zero plan = go (leading 1 plan)
  where
    go : (names : List ByteString) → (length {A = ByteString} [] < length names) ⊎ ([] ≡ names)
    go [] = inr refl
    go (name ∷ names) = inl (omega arith)
compared (suc n) plan =
    filter_more (leads_into plan (leading n plan)) (leads_into plan (leading (suc n) plan)) (map (λ (c : Component). c.name) plan.components)
    (into_more plan (leading n plan) (leading (suc n) plan) (rising n plan))

-- by so many steps so many are found, or all
so_many : (n : ℕ) (plan : Plan) → (n ≤ length (leading n plan)) ⊎ (leading n plan ≡ leading (suc n) plan)
so_many zero plan = inl (omega arith)
so_many (suc n) plan = go (so_many n plan) (compared n plan)
  where
    go : (n ≤ length (leading n plan)) ⊎ (leading n plan ≡ leading (suc n) plan) →
        (length (leading n plan) < length (leading (suc n) plan)) ⊎ (leading n plan ≡ leading (suc n) plan) →
        (suc n ≤ length (leading (suc n) plan)) ⊎ (leading (suc n) plan ≡ leading (suc (suc n)) plan)
    go (inr same) other = inr (ap (led plan) same)
    go (inl few) (inr same) = inr (ap (led plan) same)
    go (inl few) (inl less) = inl (omega (arith, few, less))

-- as many steps as there are components find all
all_found : (plan : Plan) → leading (length plan.components) plan ≡ leading (suc (length plan.components)) plan
all_found plan = go (so_many n plan) (compared n plan)
  where
    n : ℕ
    n = length plan.components

    few : length (leading (suc n) plan) ≤ n
    few =
        let all = filter_few (leads_into plan (leading n plan)) (map (λ (c : Component). c.name) plan.components) in
        let long = length-map plan.components (λ (c : Component). c.name) in
        omega (arith, all, long)

    go : (n ≤ length (leading n plan)) ⊎ (leading n plan ≡ leading (suc n) plan) →
        (length (leading n plan) < length (leading (suc n) plan)) ⊎ (leading n plan ≡ leading (suc n) plan) → leading n plan ≡ leading (suc n) plan
    go (inr same) other = same
    go (inl many) (inr same) = same
    go (inl many) (inl less) = absurd (omega (arith, many, less, few))

pub acknowledged_on : AcknowledgedOn
acknowledged_on plan source =
    ap (λ (names : List ByteString). is_among names source) (all_found plan) ∙ led_by plan (leading (length plan.components) plan) source
