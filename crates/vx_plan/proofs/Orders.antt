-- Sorting changes the order alone.
use Rattle.std.specs.Prelude.{◌≡◌, map, Bool, true, false, ◌||◌, List, [], ◌∷◌, refl, if◌then◌else◌}
use Rattle.std.specs.List.{list_any}
use Rattle.std.proofs.Common.{◌∙◌, ap}
use Rattle.vx_value.specs.Texts.{ByteString, text_le}
use Rattle.vx_plan.specs.declared.plan.Plan.{Plan}
use Rattle.vx_plan.specs.Targets.{enter, in_order, readers, names_reading}

or-swap : (a b c : Bool) → (a || (b || c)) ≡ (b || (a || c))
or-swap true true c = refl
or-swap true false c = refl
or-swap false true c = refl
or-swap false false c = refl

-- the same where the first of the others is known to come later or not
enter-first : (f : ByteString → Bool) (name first : ByteString) (rest : List ByteString) (before : Bool) →
    list_any f (enter name rest) ≡ (f name || list_any f rest) →
    list_any f (if before then name ∷ first ∷ rest else first ∷ enter name rest) ≡ (f name || (f first || list_any f rest))
enter-first f name first rest true e = refl
enter-first f name first rest false e = ap (λ b. f first || b) e ∙ or-swap (f first) (f name) (list_any f rest)

-- a test of some text among sorted ones and one more
list_any-enter : (f : ByteString → Bool) (name : ByteString) (names : List ByteString) → list_any f (enter name names) ≡ (f name || list_any f names)
list_any-enter f name [] = refl
list_any-enter f name (first ∷ rest) = enter-first f name first rest (text_le name first) (list_any-enter f name rest)

-- a test of some sorted text
pub list_any-in_order : (f : ByteString → Bool) (names : List ByteString) → list_any f (in_order names) ≡ list_any f names
list_any-in_order f [] = refl
list_any-in_order f (name ∷ rest) = list_any-enter f name (in_order rest) ∙ ap (λ b. f name || b) (list_any-in_order f rest)

-- the targets of some ports
pub any_mapped : (f : ByteString → Bool) (plan : Plan) (name : ByteString) (ports : List ByteString) →
    list_any (list_any f) (map (readers plan name) ports) ≡ list_any (λ port. list_any f (names_reading name port plan.components)) ports
any_mapped f plan name [] = refl
any_mapped f plan name (port ∷ rest) =
    ap (λ b. b || list_any (list_any f) (map (readers plan name) rest)) (list_any-in_order f (names_reading name port plan.components))
    ∙ ap (λ b. list_any f (names_reading name port plan.components) || b) (any_mapped f plan name rest)
