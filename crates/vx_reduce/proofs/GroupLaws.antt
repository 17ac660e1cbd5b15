-- Groups found through their index.
use Rattle.std.proofs.Common.{◌≡◌, ℕ, Option, Some, None, Result, Ok, Err, OnOk, OnErr, List, [], ◌∷◌, ◌++◌, ◌+◌, refl, sym, ◌∙◌, subst}
use Rattle.std.specs.Prelude.{IsSome, IfSome}
use Rattle.std.specs.Ordering.{nat_cmp}
use Rattle.std.specs.Map.{lookup, remove_entry, set_value, values_of}
use Rattle.std.specs.BTreeMap.{is_at, insert_entry}
use Rattle.std.proofs.Common.{cond, ap}
use Rattle.vx_value.specs.Datum.{Datum}
use Rattle.vx_value.specs.Orders.{datum_cmp}
use Rattle.vx_reduce.specs.declared.group.Group.{Group}
use Rattle.vx_reduce.specs.Groups.{group_of, changed, without}
use Rattle.vx_reduce.specs.Indexes.{keys_under, number_of, IsIndexOf, IsIndexed}
use Rattle.vx_reduce.proofs.Indexed.{found_under, removed_under, changed_under, none_under, number_of_group, keys-set, keys-remove, index-remove, index-add, index-restart, none_numbered, found_key, keys-add, values-add, insert_last, none_at_next}

some_of : (o : Option Group) → IsSome o → (g : Group) × (o ≡ Some g)
some_of None h = cc
some_of (Some g) h = (g, refl)

module _ (index : List (Datum × ℕ)) (es : List (ℕ × Group)) (next : ℕ) (gs : List Group) (k : Datum) (i : IsIndexed index es next) (view : values_of es ≡ gs) where
  pub numbered : (n : ℕ) → Some n ≡ lookup (is_at (datum_cmp k)) index → number_of k (keys_under es) ≡ Some n
  numbered n h = sym (i.numbers k) ∙ sym h

  pub found_at : (n : ℕ) → Some n ≡ lookup (is_at (datum_cmp k)) index → lookup (is_at (nat_cmp n)) es ≡ group_of k gs
  found_at n h = subst (λ l. lookup (is_at (nat_cmp n)) es ≡ group_of k l) view (found_under k n es i.rise (numbered n h))

  pub is_there : (n : ℕ) → Some n ≡ lookup (is_at (datum_cmp k)) index → IsSome (group_of k gs) → IsSome (lookup (is_at (nat_cmp n)) es)
  is_there n h s = subst IsSome (sym (found_at n h)) s

  pub none_found : None ≡ lookup (is_at (datum_cmp k)) index → group_of k gs ≡ None
  none_found h = subst (λ l. group_of k l ≡ None) view (none_under k es (sym (i.numbers k) ∙ sym h))

  pub never_none : None ≡ lookup (is_at (datum_cmp k)) index → IsSome (group_of k gs) → ⊥
  never_none h s = number_of_group k es (sym (i.numbers k) ∙ sym h) (subst (λ l. IsSome (group_of k l)) (sym view) s)

  -- a group taken out
  pub removed_at : (n : ℕ) (new : List (ℕ × Group)) → Some n ≡ lookup (is_at (datum_cmp k)) index → new ≡ remove_entry (is_at (nat_cmp n)) es → values_of new ≡ without k gs
  removed_at n new h e = ap values_of e ∙ subst (λ l. values_of (remove_entry (is_at (nat_cmp n)) es) ≡ without k l) view (removed_under k n es i.rise (numbered n h))

  pub indexed_without : (n : ℕ) (left : List (Datum × ℕ)) (new : List (ℕ × Group)) → Some n ≡ lookup (is_at (datum_cmp k)) index → new ≡ remove_entry (is_at (nat_cmp n)) es → ((q : Datum) → lookup (is_at (datum_cmp q)) left ≡ cond (is_at (datum_cmp k) q) None (lookup (is_at (datum_cmp q)) index)) → IsIndexed left new next
  indexed_without n left new h e u =
      subst (λ l. IsIndexOf left l next) (sym (ap keys_under e ∙ keys-remove (is_at (nat_cmp n)) es))
      (index-remove index left (keys_under es) next k n i (numbered n h) u)

  -- a group changed
  pub changed_at : (f : Group → Group) (n : ℕ) (new : List (ℕ × Group)) → Some n ≡ lookup (is_at (datum_cmp k)) index → IsSome (group_of k gs) → ((g : Group) → lookup (is_at (nat_cmp n)) es ≡ Some g → new ≡ set_value (is_at (nat_cmp n)) es (f g)) → values_of new ≡ changed k f gs
  changed_at f n new h s e =
      let there = some_of (lookup (is_at (nat_cmp n)) es) (is_there n h s) in
      ap values_of (e there.0 there.1) ∙ subst (λ l. values_of (set_value (is_at (nat_cmp n)) es (f there.0)) ≡ changed k f l) view (changed_under k n f there.0 es i.rise (numbered n h) there.1)

  pub indexed_changed : (f : Group → Group) (n : ℕ) (new : List (ℕ × Group)) → ((g : Group) → (f g).key ≡ g.key) → Some n ≡ lookup (is_at (datum_cmp k)) index → IsSome (group_of k gs) → ((g : Group) → lookup (is_at (nat_cmp n)) es ≡ Some g → new ≡ set_value (is_at (nat_cmp n)) es (f g)) → IsIndexed index new next
  indexed_changed f n new same h s e =
      let there = some_of (lookup (is_at (nat_cmp n)) es) (is_there n h s) in
      subst (λ l. IsIndexOf index l next) (sym (ap keys_under (e there.0 there.1) ∙ keys-set (is_at (nat_cmp n)) es there.0 (f there.0) there.1 (same there.0))) i

  -- the same, whether or not memory was found
  pub indexed_either : {T E : Type 0} (r : Result T E) (f : Group → Group) (n : ℕ) (new : List (ℕ × Group)) → ((g : Group) → (f g).key ≡ g.key) → Some n ≡ lookup (is_at (datum_cmp k)) index → IsSome (group_of k gs) → OnOk r ((g : Group) → lookup (is_at (nat_cmp n)) es ≡ Some g → new ≡ set_value (is_at (nat_cmp n)) es (f g)) → OnErr r (new ≡ es) → IsIndexed index new next
  indexed_either (Ok x) f n new same h s ok err = indexed_changed f n new same h s ok
  indexed_either (Err e) f n new same h s ok err = subst (λ l. IsIndexed index l next) (sym err) i

  -- the key that goes with a group
  pub key_at : (n : ℕ) (key : Datum) → Some n ≡ lookup (is_at (datum_cmp k)) index → IsSome (group_of k gs) → IfSome (lookup (is_at (nat_cmp n)) es) (λ g. key ≡ g.key) → key ≡ k
  key_at n key h s e = found_key k key gs s (subst (λ o. IfSome o (λ g. key ≡ g.key)) (found_at n h) e)

  pub indexed_left : (n : ℕ) (key : Datum) (left : List (Datum × ℕ)) (new : List (ℕ × Group)) → Some n ≡ lookup (is_at (datum_cmp k)) index → IsSome (group_of k gs) → new ≡ remove_entry (is_at (nat_cmp n)) es → IfSome (lookup (is_at (nat_cmp n)) es) (λ g. key ≡ g.key) → ((q : Datum) → lookup (is_at (datum_cmp q)) left ≡ cond (is_at (datum_cmp key) q) None (lookup (is_at (datum_cmp q)) index)) → IsIndexed left new next
  indexed_left n key left new h s e own u =
      indexed_without n left new h e (subst (λ x. (q : Datum) → lookup (is_at (datum_cmp q)) left ≡ cond (is_at (datum_cmp x) q) None (lookup (is_at (datum_cmp q)) index)) (key_at n key h s own) u)

  -- a group begun
  pub free_number : lookup (is_at (nat_cmp next)) es ≡ None
  free_number = none_at_next next es i.below

  pub free_key : group_of k gs ≡ None → lookup (is_at (datum_cmp k)) index ≡ None
  free_key h = i.numbers k ∙ none_numbered k es (subst (λ l. group_of k l ≡ None) (sym view) h)

  pub added_at : (g : Group) (new : List (ℕ × Group)) → new ≡ insert_entry nat_cmp es next g → values_of new ≡ gs ++ g ∷ []
  added_at g new e = ap values_of (e ∙ insert_last next g es i.below) ∙ values-add next g es ∙ ap (λ l. l ++ g ∷ []) view

  pub indexed_added : (g : Group) (more : List (Datum × ℕ)) (new : List (ℕ × Group)) → g.key ≡ k → group_of k gs ≡ None → new ≡ insert_entry nat_cmp es next g → ((q : Datum) → lookup (is_at (datum_cmp q)) more ≡ cond (is_at (datum_cmp k) q) (Some next) (lookup (is_at (datum_cmp q)) index)) → IsIndexed more new (next + 1)
  indexed_added g more new same none e u =
      subst (λ l. IsIndexOf more l (next + 1)) (sym (ap keys_under (e ∙ insert_last next g es i.below) ∙ keys-add next g es ∙ ap (λ d. keys_under es ++ (next, d) ∷ []) same))
      (index-add index more (keys_under es) next k i (sym (i.numbers k) ∙ free_key none) u)

  -- a group begun anew
  pub renewed_at : (n : ℕ) (g : Group) (new : List (ℕ × Group)) → Some n ≡ lookup (is_at (datum_cmp k)) index → new ≡ remove_entry (is_at (nat_cmp n)) es ++ (next, g) ∷ [] → values_of new ≡ without k gs ++ g ∷ []
  renewed_at n g new h e = ap values_of e ∙ values-add next g (remove_entry (is_at (nat_cmp n)) es) ∙ ap (λ l. l ++ g ∷ []) (removed_at n (remove_entry (is_at (nat_cmp n)) es) h refl)

  pub indexed_renewed : (n : ℕ) (key : Datum) (g : Group) (more : List (Datum × ℕ)) (new : List (ℕ × Group)) → g.key ≡ k → Some n ≡ lookup (is_at (datum_cmp k)) index → IsSome (group_of k gs) → new ≡ remove_entry (is_at (nat_cmp n)) es ++ (next, g) ∷ [] → IfSome (lookup (is_at (nat_cmp n)) es) (λ g. key ≡ g.key) → ((q : Datum) → lookup (is_at (datum_cmp q)) more ≡ cond (is_at (datum_cmp key) q) (Some next) (lookup (is_at (datum_cmp q)) index)) → IsIndexed more new (next + 1)
  indexed_renewed n key g more new same h s e own u =
      subst (λ l. IsIndexOf more l (next + 1)) (sym (ap keys_under e ∙ keys-add next g (remove_entry (is_at (nat_cmp n)) es) ∙ ap (λ d. keys_under (remove_entry (is_at (nat_cmp n)) es) ++ (next, d) ∷ []) same ∙ ap (λ l. l ++ (next, k) ∷ []) (keys-remove (is_at (nat_cmp n)) es)))
      (index-restart index more (keys_under es) next k n i (numbered n h) (subst (λ x. (q : Datum) → lookup (is_at (datum_cmp q)) more ≡ cond (is_at (datum_cmp x) q) (Some next) (lookup (is_at (datum_cmp q)) index)) (key_at n key h s own) u))

  pub known_at : (n : ℕ) (key : Datum) → Some n ≡ lookup (is_at (datum_cmp k)) index → IsSome (group_of k gs) → IfSome (lookup (is_at (nat_cmp n)) es) (λ g. key ≡ g.key) → IsSome (lookup (is_at (datum_cmp key)) index)
  known_at n key h s own = subst (λ x. IsSome (lookup (is_at (datum_cmp x)) index)) (sym (key_at n key h s own)) (subst IsSome h refl)
