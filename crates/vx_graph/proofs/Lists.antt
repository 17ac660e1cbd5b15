-- A list that is made item by item from another.
use Rattle.std.proofs.Common.{◌≡◌, ℕ, ◌+◌, ◌<◌, List, [], ◌∷◌, ◌++◌, length, map, take, get_or, sym, ap, ◌∙◌}
use Rattle.std.proofs.lemmas.List.{map_more}

-- one item more
pub map_step : {X Y : Type 0} (f : X → Y) (xs : List X) (i : ℕ) (x : X) (done new : List Y) (y : Y) → i < length xs
    → x ≡ get_or xs i x → done ≡ map f (take i xs) → new ≡ done ++ y ∷ [] → y ≡ f x → new ≡ map f (take (i + 1) xs)
map_step f xs i x done new y lt is made pushed same =
    pushed ∙ ap (λ d. d ++ y ∷ []) made ∙ ap (λ v. map f (take i xs) ++ v ∷ []) (same ∙ ap f is) ∙ sym (map_more f xs i x lt)
