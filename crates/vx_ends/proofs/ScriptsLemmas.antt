-- The script at a place in a list.
use Rattle.std.proofs.Common.{◌≡◌, ℕ, suc, ◌<◌, List, ◌∷◌, length, drop, get_or, refl, sym, ap, ◌∙◌, true, Some}
use Rattle.std.proofs.lemmas.Option.{slice_get_read}
use Rattle.std.proofs.Math.Seq.{drop-cons}
use Rattle.std.specs.List.{slice_get}
use Rattle.std.specs.Str.{bytes_eq}
use Rattle.vx_ends.specs.declared.scripted.Scripted.{Scripted}
use Rattle.vx_ends.specs.Scripts.{script_for}

pub script_found : (scripts : List Scripted) (i : ℕ) (name : List ℕ) (s : Scripted) → i < length scripts → s ≡ get_or scripts i s →
    script_for (drop i scripts) name ≡ script_for scripts name → bytes_eq s.name name ≡ true → script_for scripts name ≡ slice_get scripts i
script_found scripts i name s l is next eq =
    let here : drop i scripts ≡ s ∷ drop (suc i) scripts = drop-cons scripts i s l ∙ ap (λ x. x ∷ drop (suc i) scripts) (sym is) in
    let first : script_for (s ∷ drop (suc i) scripts) name ≡ Some s = rw eq refl in
    sym next ∙ ap (λ xs. script_for xs name) here ∙ first ∙ sym (slice_get_read scripts (length scripts) i s refl l is)
