-- Laws of entries under numbers.
use Rattle.std.specs.Prelude.{IsSome, IfSome}
use Rattle.std.specs.Ordering.{nat_cmp}
use Rattle.std.specs.BTreeMap.{is_at}
use Rattle.std.proofs.Common.{◌≡◌, ℕ, Bool, true, false, cond, Option, Some, None, Result, Ok, Err, List, [], ◌∷◌, ◌++◌, refl, sym, ◌∙◌, ap, subst, OnErr}
use Rattle.std.proofs.lemmas.Map.Steps.{set_value_same}
use Rattle.std.specs.Map.{lookup, remove_entry, set_value}
use Rattle.vx_value.specs.Datum.{Datum}
use Rattle.vx_reduce.specs.declared.group.Group.{Group}
use Rattle.vx_reduce.specs.Endings.{IsTakenOut}

-- what holds anyway holds after an error
pub err_anyway : {T E P : Type 0} (r : Result T E) → P → OnErr r P
err_anyway (Ok x) p = tt
err_anyway (Err e) p = p

module _ {K X : Type 0} (test : K → Bool) where
  -- a value that is written again as it was
  pub set_same : (es : List (K × X)) (v w : X) → lookup test es ≡ Some v → w ≡ v → set_value test es w ≡ es
  set_same es v w h e = rw e (set_value_same test es v h)

  -- a written value that is taken out
  pub remove-set : (es : List (K × X)) (w : X) → remove_entry test (set_value test es w) ≡ remove_entry test es
  remove-set [] w = refl
  remove-set (e ∷ es) w = by_test (test e.0) refl (remove-set es w)
    where
      by_test : (b : Bool) → test e.0 ≡ b → remove_entry test (set_value test es w) ≡ remove_entry test es → remove_entry test (set_value test (e ∷ es) w) ≡ remove_entry test (e ∷ es)
      by_test true h later = rw (h, h) refl
      by_test false h later = rw (h, h) (ap (λ l. e ∷ l) later)

  taken_out : (es mid new : List (K × X)) (w : X) → mid ≡ set_value test es w → new ≡ remove_entry test mid → new ≡ remove_entry test es
  taken_out es mid new w h k = k ∙ ap (λ l. remove_entry test l) h ∙ remove-set es w

  -- and one that is looked up
  lookup-set : (es : List (K × X)) (v w : X) → lookup test es ≡ Some v → lookup test (set_value test es w) ≡ Some w
  lookup-set [] v w h = cc
  lookup-set (e ∷ es) v w h = by_test (test e.0) refl (lookup-set es v w) h
    where
      by_test : (b : Bool) → test e.0 ≡ b → (lookup test es ≡ Some v → lookup test (set_value test es w) ≡ Some w) → cond b (Some e.1) (lookup test es) ≡ Some v →
          lookup test (set_value test (e ∷ es) w) ≡ Some w
      by_test true is later h = rw (is, is) refl
      by_test false is later h = rw (is, is) (later h)

  -- an entry at the end
  pub lookup-front : (es : List (K × X)) (x : K × X) → IsSome (lookup test es) → lookup test (es ++ x ∷ []) ≡ lookup test es
  lookup-front [] x h = cc
  lookup-front (e ∷ es) x h = by_test (test e.0) (lookup-front es x) h
    where
      by_test : (b : Bool) → (IsSome (lookup test es) → lookup test (es ++ x ∷ []) ≡ lookup test es) → IsSome (cond b (Some e.1) (lookup test es)) → cond b (Some e.1) (lookup test (es ++ x ∷ [])) ≡ cond b (Some e.1) (lookup test es)
      by_test true later h = refl
      by_test false later h = later h

  pub lookup-last : (es : List (K × X)) (x : K × X) → lookup test es ≡ None → test x.0 ≡ true → lookup test (es ++ x ∷ []) ≡ Some x.1
  lookup-last [] x h t = rw t refl
  lookup-last (e ∷ es) x h t = by_test (test e.0) (λ none. lookup-last es x none t) h
    where
      by_test : (b : Bool) → (lookup test es ≡ None → lookup test (es ++ x ∷ []) ≡ Some x.1) → cond b (Some e.1) (lookup test es) ≡ None → cond b (Some e.1) (lookup test (es ++ x ∷ [])) ≡ Some x.1
      by_test true later h = cc
      by_test false later h = later h

  pub remove-front : (es : List (K × X)) (x : K × X) → IsSome (lookup test es) → remove_entry test (es ++ x ∷ []) ≡ remove_entry test es ++ x ∷ []
  remove-front [] x h = cc
  remove-front (e ∷ es) x h = by_test (test e.0) (remove-front es x) h
    where
      by_test : (b : Bool) → (IsSome (lookup test es) → remove_entry test (es ++ x ∷ []) ≡ remove_entry test es ++ x ∷ []) → IsSome (cond b (Some e.1) (lookup test es)) → cond b (es ++ x ∷ []) (e ∷ remove_entry test (es ++ x ∷ [])) ≡ cond b es (e ∷ remove_entry test es) ++ x ∷ []
      by_test true later h = refl
      by_test false later h = ap (λ l. e ∷ l) (later h)

  pub remove-last : (es : List (K × X)) (x : K × X) → lookup test es ≡ None → test x.0 ≡ true → remove_entry test (es ++ x ∷ []) ≡ es
  remove-last [] x h t = rw t refl
  remove-last (e ∷ es) x h t = by_test (test e.0) (λ none. remove-last es x none t) h
    where
      by_test : (b : Bool) → (lookup test es ≡ None → remove_entry test (es ++ x ∷ []) ≡ es) → cond b (Some e.1) (lookup test es) ≡ None → cond b (es ++ x ∷ []) (e ∷ remove_entry test (es ++ x ∷ [])) ≡ e ∷ es
      by_test true later h = cc
      by_test false later h = ap (λ l. e ∷ l) (later h)

-- a group that is written with its key and taken out
pub written_taken : (number : ℕ) (key : Datum) (es mid new : List (ℕ × Group)) (g w : Group) → lookup (is_at (nat_cmp number)) es ≡ Some g →
    mid ≡ set_value (is_at (nat_cmp number)) es w → w.key ≡ g.key → IsTakenOut number key mid new → IsTakenOut number key es new
written_taken number key es mid new g w there written same taken = record {
  entries = taken_out (is_at (nat_cmp number)) es mid new w written taken.entries;
  named = subst (λ (o : Option Group). IfSome o (λ h. key ≡ h.key)) (sym there) (named ∙ same);
}
  where
    named : key ≡ w.key
    named =
        subst (λ (o : Option Group). IfSome o (λ h. key ≡ h.key))
        (ap (λ (l : List (ℕ × Group)). lookup (is_at (nat_cmp number)) l) written ∙ lookup-set (is_at (nat_cmp number)) es g w there) taken.named
