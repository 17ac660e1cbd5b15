-- Four lists in a row, where elements go from one to the end of the list before it.
use Rattle.std.proofs.Common.{◌≡◌, List, [], ◌∷◌, ◌++◌, sym, ap, ◌∙◌}
use Rattle.std.proofs.lemmas.List.{append_assoc}
use Rattle.vx_value.specs.declared.event.Event.{Event}

-- the lists stay
pub stay : (p a c c' w w' o o' : List Event) → p ≡ a ++ (c ++ (w ++ o)) → c' ≡ c → w' ≡ w → o' ≡ o → p ≡ a ++ (c' ++ (w' ++ o'))
stay p a c c' w w' o o' was cs ws os = cc

-- the last grows
pub grow : (p a c c' w w' o o' more : List Event) → p ≡ a ++ (c ++ (w ++ o)) → c' ≡ c → w' ≡ w → o' ≡ o ++ more → p ++ more ≡ a ++ (c' ++ (w' ++ o'))
grow p a c c' w w' o o' more was cs ws os =
    ap (λ xs. xs ++ more) was ∙ append_assoc a (c ++ (w ++ o)) more
    ∙ ap (λ xs. a ++ xs) (append_assoc c (w ++ o) more ∙ ap (λ xs. c ++ xs) (append_assoc w o more))
    ∙ ap (λ xs. a ++ (xs ++ (w ++ (o ++ more)))) (sym cs)
    ∙ ap (λ xs. a ++ (c' ++ (xs ++ (o ++ more)))) (sym ws)
    ∙ ap (λ xs. a ++ (c' ++ (w' ++ xs))) (sym os)

-- the first of a list put at the end of the one before
pass : (w o : List Event) (e : Event) → w ++ e ∷ o ≡ (w ++ e ∷ []) ++ o
pass w o e = sym (append_assoc w (e ∷ []) o)

-- the first of the fourth list goes to the third
pub divide : (p a c c' w w' o o' : List Event) (e : Event) → p ≡ a ++ (c ++ (w ++ o)) → c' ≡ c → w' ≡ w ++ e ∷ [] → o ≡ e ∷ o' → p ≡ a ++ (c' ++ (w' ++ o'))
divide p a c c' w w' o o' e was cs ws os =
    was ∙ ap (λ xs. a ++ (c ++ (w ++ xs))) os ∙ ap (λ xs. a ++ (c ++ xs)) (pass w o' e)
    ∙ ap (λ xs. a ++ (xs ++ ((w ++ e ∷ []) ++ o'))) (sym cs) ∙ ap (λ xs. a ++ (c' ++ (xs ++ o'))) (sym ws)

-- the first of the third goes to the second
pub enter : (p a c c' w w' o o' : List Event) (e : Event) → p ≡ a ++ (c ++ (w ++ o)) → c' ≡ c ++ e ∷ [] → w ≡ e ∷ w' → o' ≡ o → p ≡ a ++ (c' ++ (w' ++ o'))
enter p a c c' w w' o o' e was cs ws os =
    was ∙ ap (λ xs. a ++ (c ++ (xs ++ o))) ws ∙ ap (λ xs. a ++ xs) (pass c (w' ++ o) e)
    ∙ ap (λ xs. a ++ (xs ++ (w' ++ o))) (sym cs) ∙ ap (λ xs. a ++ (c' ++ (w' ++ xs))) (sym os)

-- and the first of the second to the first
pub leave : (p a c c' w w' o o' : List Event) (e : Event) → p ≡ a ++ (c ++ (w ++ o)) → c ≡ e ∷ c' → w' ≡ w → o' ≡ o → p ≡ (a ++ e ∷ []) ++ (c' ++ (w' ++ o'))
leave p a c c' w w' o o' e was cs ws os =
    was ∙ ap (λ xs. a ++ (xs ++ (w ++ o))) cs ∙ pass a (c' ++ (w ++ o)) e
    ∙ ap (λ xs. (a ++ e ∷ []) ++ (c' ++ (xs ++ o))) (sym ws) ∙ ap (λ xs. (a ++ e ∷ []) ++ (c' ++ (w' ++ xs))) (sym os)
