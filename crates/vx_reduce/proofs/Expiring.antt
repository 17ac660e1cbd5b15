-- Groups that are put out, some first ones of those that pass a test.
use Rattle.std.proofs.Math.Seq.{drop-cons}
use Rattle.std.proofs.Common.{zero, suc, ◌+◌, ◌≤◌, length, drop, get_or, add-one}
use Rattle.std.proofs.Common.{◌≡◌, ℕ, ◌<◌, Bool, true, false, not, cond, nat_lt, ◌==◌, Option, Some, None, List, [], ◌∷◌, ◌++◌, map, All, IsTrue, arith, refl, sym, ◌∙◌, ap, ap₂, subst, ltb-true, eqb-true, append_assoc}
use Rattle.std.specs.Prelude.{◌&&◌, filter, IsSome, IfSome}
use Rattle.std.specs.List.Sorted.{IsPermutation}
use Rattle.std.specs.Ordering.{is_eq, nat_cmp}
use Rattle.std.specs.Cmp.{unsigned_ties}
use Rattle.std.specs.Map.{lookup, remove_entry, keys_of, values_of}
use Rattle.std.specs.BTreeMap.{is_at}
use Rattle.std.proofs.lemmas.List.{append-nil}
use Rattle.std.proofs.lemmas.List.Elements.{All-nil}
use Rattle.std.proofs.lemmas.List.Sorted.{IsPermutation-refl, IsPermutation-sym, IsPermutation-trans, IsPermutation-append_left, IsPermutation-append_right}
use Rattle.vx_value.specs.Datum.{Datum}
use Rattle.vx_value.specs.Orders.{datum_cmp}
use Rattle.vx_ledger.specs.Copies.{Copy}
use Rattle.vx_ledger.specs.declared.parcel.Parcel.{Parcel}
use Rattle.vx_transform.specs.declared.output.Output.{Output}
use Rattle.vx_transform.specs.Shelves.{Shelved, copies_put_out}
use Rattle.vx_transform.specs.Moves.{NamesPorts, Moves}
use Rattle.vx_reduce.specs.declared.group.Group.{Group}
use Rattle.vx_reduce.specs.Groups.{copies_in, copies_held, output_in, outputs_of, put_all}
use Rattle.vx_reduce.specs.Indexes.{keys_under, number_of, all_above, numbers_rise, is_apart, keys_differ, IsIndexOf, IsIndexed}
use Rattle.vx_reduce.specs.Expiries.{HasPutOut}
use Rattle.vx_reduce.proofs.Indexed.{at_same, at_other, own_datum, turned_datum, same_datum, both_left, both_right, keys-remove, index-remove, apart-none}
use Rattle.vx_reduce.proofs.Moving.{alike, put_all_moves, output_named, copies_output, swapped}

-- ---- the first of the groups that pass
pub record NextOut (p : Group → Bool) (es : List (ℕ × Group)) (n : ℕ) (rest : List ℕ) : Type 0 where
  pub group : Group
  pub found : lookup (is_at (nat_cmp n)) es ≡ Some group
  pub left : keys_of (filter (λ (e : ℕ × Group). p e.1) (remove_entry (is_at (nat_cmp n)) es)) ≡ rest
  pub front : filter p (values_of es) ≡ group ∷ filter p (values_of (remove_entry (is_at (nat_cmp n)) es))
  pub others : filter (λ g. not (p g)) (values_of (remove_entry (is_at (nat_cmp n)) es)) ≡ filter (λ g. not (p g)) (values_of es)

-- a number among those of groups that pass is above what all are above
passed_above : (p : Group → Bool) (low n : ℕ) (rest : List ℕ) (es : List (ℕ × Group)) → all_above low (keys_under es) ≡ true → keys_of (filter (λ (e : ℕ × Group). p e.1) es) ≡ n ∷ rest → low < n
passed_above p low n rest [] a h = cc
passed_above p low n rest (e ∷ es) a h =
    by_test (p e.1) (ltb-true low e.0 (both_left (nat_lt low e.0) (all_above low (keys_under es)) a)) (λ later. passed_above p low n rest es (both_right (nat_lt low e.0) (all_above low (keys_under es)) a) later) h
  where
    by_test : (b : Bool) → low < e.0 → (keys_of (filter (λ (e : ℕ × Group). p e.1) es) ≡ n ∷ rest → low < n) → keys_of (cond b (e ∷ filter (λ (e : ℕ × Group). p e.1) es) (filter (λ (e : ℕ × Group). p e.1) es)) ≡ n ∷ rest → low < n
    by_test true l f g = let m : e.0 ≡ n = cc in subst (λ i. low < i) m l
    by_test false l f g = f g

pub next_out : (p : Group → Bool) (es : List (ℕ × Group)) (n : ℕ) (rest : List ℕ) → numbers_rise (keys_under es) ≡ true → keys_of (filter (λ (e : ℕ × Group). p e.1) es) ≡ n ∷ rest → NextOut p es n rest
next_out p [] n rest r h = cc
next_out p (e ∷ es) n rest r h = by_test (p e.1) refl (next_out p es n rest (both_right (all_above e.0 (keys_under es)) (numbers_rise (keys_under es)) r)) (λ later. passed_above p e.0 n rest es (both_left (all_above e.0 (keys_under es)) (numbers_rise (keys_under es)) r) later) h
  where
    later_out : p e.1 ≡ false → is_at (nat_cmp n) e.0 ≡ false → NextOut p es n rest → NextOut p (e ∷ es) n rest
    later_out t u o = record {
      group = o.group;
      found = rw u o.found;
      left = rw (u, t) o.left;
      front = rw (u, t) o.front;
      others = rw (u, t) (ap (λ gs. e.1 ∷ gs) o.others);
    }

    first_out : p e.1 ≡ true → is_at (nat_cmp n) e.0 ≡ true → keys_of (filter (λ (e : ℕ × Group). p e.1) es) ≡ rest → NextOut p (e ∷ es) n rest
    first_out t u l = record {
      group = e.1;
      found = rw u refl;
      left = rw u l;
      front = rw (u, t) refl;
      others = rw (u, t) refl;
    }

    by_test : (b : Bool) → p e.1 ≡ b → (keys_of (filter (λ (e : ℕ × Group). p e.1) es) ≡ n ∷ rest → NextOut p es n rest) → (keys_of (filter (λ (e : ℕ × Group). p e.1) es) ≡ n ∷ rest → e.0 < n) → keys_of (cond b (e ∷ filter (λ (e : ℕ × Group). p e.1) es) (filter (λ (e : ℕ × Group). p e.1) es)) ≡ n ∷ rest → NextOut p (e ∷ es) n rest
    by_test true t f a g =
        let m : e.0 ≡ n = cc in
        let l : keys_of (filter (λ (e : ℕ × Group). p e.1) es) ≡ rest = cc in
        first_out t (subst (λ i. is_at (nat_cmp i) e.0 ≡ true) m (at_same e.0)) l
    by_test false t f a g = let low : e.0 < n = a g in later_out t (at_other n e.0 (λ m. absurd (omega (arith, low, m)))) (f g)

-- ---- the key under a number
true_number : (n m : ℕ) → is_at (nat_cmp n) m ≡ true → n ≡ m
true_number n m h = eqb-true n m (unsigned_ties n m ∙ h)

pub own_number : (es : List (ℕ × Group)) (n : ℕ) (g : Group) → keys_differ (keys_under es) ≡ true → lookup (is_at (nat_cmp n)) es ≡ Some g → number_of g.key (keys_under es) ≡ Some n
own_number [] n g d h = cc
own_number (e ∷ es) n g d h = by_test (is_at (nat_cmp n) e.0) refl (λ later. own_number es n g (both_right (is_apart e.1.key (keys_under es)) (keys_differ (keys_under es)) d) later) h
  where
    behind : (b : Bool) → is_eq (datum_cmp g.key e.1.key) ≡ b → number_of g.key (keys_under es) ≡ Some n → cond b (Some e.0) (number_of g.key (keys_under es)) ≡ Some n
    behind true t f =
        let none : number_of g.key (keys_under es) ≡ None = apart-none e.1.key g.key (keys_under es) (sym (same_datum g.key e.1.key t)) (both_left (is_apart e.1.key (keys_under es)) (keys_differ (keys_under es)) d) in
        cc
    behind false t f = f

    by_test : (b : Bool) → is_at (nat_cmp n) e.0 ≡ b → (lookup (is_at (nat_cmp n)) es ≡ Some g → number_of g.key (keys_under es) ≡ Some n) → cond b (Some e.1) (lookup (is_at (nat_cmp n)) es) ≡ Some g → number_of g.key (keys_under (e ∷ es)) ≡ Some n
    by_test true t f l =
        let same : e.1 ≡ g = cc in
        let number : n ≡ e.0 = true_number n e.0 t in
        let own : is_eq (datum_cmp g.key e.1.key) ≡ true = subst (λ (x : Group). is_eq (datum_cmp g.key x.key) ≡ true) (sym same) (own_datum g.key) in
        rw own (ap Some (sym number))
    by_test false t f l = behind (is_eq (datum_cmp g.key e.1.key)) refl (f l)

-- an index of what is left once a group is taken out by its number
pub indexed_out : (index left : List (Datum × ℕ)) (es new : List (ℕ × Group)) (next n : ℕ) (g : Group) (key : Datum) → IsIndexed index es next → lookup (is_at (nat_cmp n)) es ≡ Some g → key ≡ g.key → new ≡ remove_entry (is_at (nat_cmp n)) es → ((q : Datum) → lookup (is_at (datum_cmp q)) left ≡ cond (is_at (datum_cmp key) q) None (lookup (is_at (datum_cmp q)) index)) → IsIndexed left new next
indexed_out index left es new next n g key i h k e u =
    subst (λ l. IsIndexOf left l next) (sym (ap keys_under e ∙ keys-remove (is_at (nat_cmp n)) es))
    (index-remove index left (keys_under es) next g.key n i (own_number es n g i.differ h) (subst (λ x. (q : Datum) → lookup (is_at (datum_cmp q)) left ≡ cond (is_at (datum_cmp x) q) None (lookup (is_at (datum_cmp q)) index)) k u))

-- ---- what was put out so far
pub outputs-append : (gs hs : List Group) → outputs_of (gs ++ hs) ≡ outputs_of gs ++ outputs_of hs
outputs-append [] hs = refl
outputs-append (g ∷ gs) hs = ap (λ l. output_in g.parcel ++ l) (outputs-append gs hs) ∙ sym (append_assoc (output_in g.parcel) (outputs_of gs) (outputs_of hs))

pub put_none : (s : Shelved) → s ≡ put_all s []
put_none s = let with_outputs : List Output → Shelved = λ os. record { outputs = os; dropped = s.dropped } in ap with_outputs (sym (append-nil s.outputs))

put_twice : (s : Shelved) (xs ys : List Output) → put_all (put_all s xs) ys ≡ put_all s (xs ++ ys)
put_twice s xs ys = let with_outputs : List Output → Shelved = λ os. record { outputs = os; dropped = s.dropped } in ap with_outputs (append_assoc s.outputs xs ys)

pub out_at_first : (p : Group → Bool) (gs : List Group) (s : Shelved) → HasPutOut p gs gs s s
out_at_first p gs s = record { gone = []; front = refl; rest = refl; shelf = put_none s }

-- one more is put out
pub out_more : (p : Group → Bool) (old : List Group) (es new : List (ℕ × Group)) (before mid after : Shelved) (n : ℕ) (rest : List ℕ) → HasPutOut p old (values_of es) before mid → (o : NextOut p es n rest) → new ≡ remove_entry (is_at (nat_cmp n)) es → after ≡ put_all mid (output_in o.group.parcel) → HasPutOut p old (values_of new) before after
out_more p old es new before mid after n rest h o e s = record {
  gone = h.gone ++ o.group ∷ [];
  front = h.front ∙ ap (λ gs. h.gone ++ gs) (o.front ∙ ap (λ l. o.group ∷ filter p (values_of l)) (sym e)) ∙ sym (append_assoc h.gone (o.group ∷ []) (filter p (values_of new)));
  rest = ap (λ l. filter (λ g. not (p g)) (values_of l)) e ∙ o.others ∙ h.rest;
  shelf = s ∙ ap (λ m. put_all m (output_in o.group.parcel)) h.shelf ∙ put_twice before (outputs_of h.gone) (output_in o.group.parcel)
      ∙ ap (λ os. put_all before os) (ap (λ l. outputs_of h.gone ++ l) (sym (append-nil (output_in o.group.parcel))) ∙ sym (outputs-append h.gone (o.group ∷ [])));
}

-- nothing more is put out
pub out_same : (p : Group → Bool) (old : List Group) (mid new : List (ℕ × Group)) (before shelf after : Shelved) → HasPutOut p old (values_of mid) before shelf → new ≡ mid → after ≡ shelf → HasPutOut p old (values_of new) before after
out_same p old mid new before shelf after h e s = rw (e, s) h

-- ---- copies
copies-filter : (p : Group → Bool) (gs : List Group) → IsPermutation (copies_held gs) (copies_held (filter p gs) ++ copies_held (filter (λ g. not (p g)) gs))
copies-filter p [] = IsPermutation-refl []
copies-filter p (g ∷ gs) = by_test (p g) (copies-filter p gs)
  where
    by_test : (b : Bool) → IsPermutation (copies_held gs) (copies_held (filter p gs) ++ copies_held (filter (λ g. not (p g)) gs)) → IsPermutation (copies_in g.parcel ++ copies_held gs) (copies_held (cond b (g ∷ filter p gs) (filter p gs)) ++ copies_held (cond (not b) (g ∷ filter (λ g. not (p g)) gs) (filter (λ g. not (p g)) gs)))
    by_test true h =
        IsPermutation-trans (copies_in g.parcel ++ copies_held gs) (copies_in g.parcel ++ (copies_held (filter p gs) ++ copies_held (filter (λ g. not (p g)) gs))) ((copies_in g.parcel ++ copies_held (filter p gs)) ++ copies_held (filter (λ g. not (p g)) gs))
        (IsPermutation-append_right (copies_in g.parcel) (copies_held gs) (copies_held (filter p gs) ++ copies_held (filter (λ g. not (p g)) gs)) h)
        (alike _ _ (sym (append_assoc (copies_in g.parcel) (copies_held (filter p gs)) (copies_held (filter (λ g. not (p g)) gs)))))
    by_test false h =
        IsPermutation-trans (copies_in g.parcel ++ copies_held gs) (copies_in g.parcel ++ (copies_held (filter p gs) ++ copies_held (filter (λ g. not (p g)) gs))) (copies_held (filter p gs) ++ (copies_in g.parcel ++ copies_held (filter (λ g. not (p g)) gs)))
        (IsPermutation-append_right (copies_in g.parcel) (copies_held gs) (copies_held (filter p gs) ++ copies_held (filter (λ g. not (p g)) gs)) h)
        (swapped (copies_in g.parcel) (copies_held (filter p gs)) (copies_held (filter (λ g. not (p g)) gs)))

copies_held-append : (gs hs : List Group) → copies_held (gs ++ hs) ≡ copies_held gs ++ copies_held hs
copies_held-append [] hs = refl
copies_held-append (g ∷ gs) hs = ap (λ l. copies_in g.parcel ++ l) (copies_held-append gs hs) ∙ sym (append_assoc (copies_in g.parcel) (copies_held gs) (copies_held hs))

outputs_named : (gs : List Group) → All (NamesPorts 1) (outputs_of gs)
outputs_named [] = All-nil (NamesPorts 1)
outputs_named (g ∷ gs) = output_named g.parcel (outputs_of gs) (outputs_named gs)

outputs_copies : (gs : List Group) → copies_put_out (outputs_of gs) ≡ copies_held gs
outputs_copies [] = refl
outputs_copies (g ∷ gs) = copies_output g.parcel (outputs_of gs) ∙ ap (λ l. copies_in g.parcel ++ l) (outputs_copies gs)

-- no copy is lost or doubled, however much was put out
pub out_moves : (p : Group → Bool) (old new : List Group) (before after : Shelved) → HasPutOut p old new before after → Moves 1 (copies_held old) (copies_held new) before after
out_moves p old new before after h =
    let others = copies_held (filter (λ g. not (p g)) new) in
    let passing = copies_held (filter p new) in
    let gone = copies_held h.gone in
    let split : copies_held (filter p old) ++ copies_held (filter (λ g. not (p g)) old) ≡ gone ++ (passing ++ others) =
    ap₂ (λ xs ys. xs ++ ys) (ap copies_held h.front ∙ copies_held-append h.gone (filter p new)) (ap copies_held (sym h.rest)) ∙ append_assoc gone passing others in
    let back : IsPermutation (passing ++ others) (copies_held new) = turned (copies-filter p new) in
    subst (λ (s : Shelved). Moves 1 (copies_held old) (copies_held new) before s) (sym h.shelf)
    (put_all_moves before (outputs_of h.gone) (copies_held old) (copies_held new) (outputs_named h.gone)
    (subst (λ l. IsPermutation (copies_held old) (l ++ copies_held new)) (sym (outputs_copies h.gone))
    (IsPermutation-trans (copies_held old) (gone ++ (passing ++ others)) (gone ++ copies_held new)
    (IsPermutation-trans (copies_held old) (copies_held (filter p old) ++ copies_held (filter (λ g. not (p g)) old)) (gone ++ (passing ++ others)) (copies-filter p old) (alike _ _ split))
    (IsPermutation-append_right gone (passing ++ others) (copies_held new) back))))
  where
    turned : {xs ys : List Copy} → IsPermutation xs ys → IsPermutation ys xs
    turned {xs} {ys} h = IsPermutation-sym xs ys h

-- ---- all of them
pub none_passing : (p : Group → Bool) (gs : List Group) → filter p gs ≡ [] → filter (λ g. not (p g)) gs ≡ gs
none_passing p [] h = refl
none_passing p (g ∷ gs) h = by_test (p g) (none_passing p gs) h
  where
    by_test : (b : Bool) → (filter p gs ≡ [] → filter (λ g. not (p g)) gs ≡ gs) → cond b (g ∷ filter p gs) (filter p gs) ≡ [] → cond (not b) (g ∷ filter (λ g. not (p g)) gs) (filter (λ g. not (p g)) gs) ≡ g ∷ gs
    by_test true f e = cc
    by_test false f e = ap (λ l. g ∷ l) (f e)

pub all_out : (p : Group → Bool) (old new : List Group) (before after : Shelved) → HasPutOut p old new before after → filter p new ≡ [] → new ≡ filter (λ g. not (p g)) old
all_out p old new before after h e = sym (none_passing p new e) ∙ h.rest

pub all_shelved : (p : Group → Bool) (old new : List Group) (before after : Shelved) → HasPutOut p old new before after → filter p new ≡ [] → after ≡ put_all before (outputs_of (filter p old))
all_shelved p old new before after h e = h.shelf ∙ ap (λ gs. put_all before (outputs_of gs)) (sym (h.front ∙ ap (λ l. h.gone ++ l) e ∙ append-nil h.gone))

-- ---- one number after the other
gone_by : (index left : List (Datum × ℕ)) (es new : List (ℕ × Group)) (n : ℕ) (key : Datum) (o : Option Group) → lookup (is_at (nat_cmp n)) es ≡ o → IsSome o → IfSome o (λ g. key ≡ g.key) → new ≡ remove_entry (is_at (nat_cmp n)) es → ((q : Datum) → lookup (is_at (datum_cmp q)) left ≡ cond (is_at (datum_cmp key) q) None (lookup (is_at (datum_cmp q)) index)) → (next : ℕ) → IsIndexed index es next → IsIndexed left new next
gone_by index left es new n key None l s k e u next i = cc
gone_by index left es new n key (Some g) l s k e u next i = indexed_out index left es new next n g key i l k e u

pub indexed_gone : (index left : List (Datum × ℕ)) (es new : List (ℕ × Group)) (n : ℕ) (key : Datum) → IsSome (lookup (is_at (nat_cmp n)) es) → IfSome (lookup (is_at (nat_cmp n)) es) (λ g. key ≡ g.key) → new ≡ remove_entry (is_at (nat_cmp n)) es → ((q : Datum) → lookup (is_at (datum_cmp q)) left ≡ cond (is_at (datum_cmp key) q) None (lookup (is_at (datum_cmp q)) index)) → (next : ℕ) → IsIndexed index es next → IsIndexed left new next
indexed_gone index left es new n key s k e u next i = gone_by index left es new n key (lookup (is_at (nat_cmp n)) es) refl s k e u next i

pub no_more : (p : Group → Bool) (es : List (ℕ × Group)) → keys_of (filter (λ (e : ℕ × Group). p e.1) es) ≡ [] → filter p (values_of es) ≡ []
no_more p [] h = refl
no_more p (e ∷ es) h = by_test (p e.1) (no_more p es) h
  where
    by_test : (b : Bool) → (keys_of (filter (λ (e : ℕ × Group). p e.1) es) ≡ [] → filter p (values_of es) ≡ []) → keys_of (cond b (e ∷ filter (λ (e : ℕ × Group). p e.1) es) (filter (λ (e : ℕ × Group). p e.1) es)) ≡ [] → cond b (e.1 ∷ filter p (values_of es)) (filter p (values_of es)) ≡ []
    by_test true f g = cc
    by_test false f g = f g

pub record OneMore (p : Group → Bool) (old : List Group) (new : List (ℕ × Group)) (before after : Shelved) (rest : List ℕ) : Type 0 where
  pub left : keys_of (filter (λ (e : ℕ × Group). p e.1) new) ≡ rest
  pub gone : HasPutOut p old (values_of new) before after

pub one_more : (p : Group → Bool) (old : List Group) (index : List (Datum × ℕ)) (es new : List (ℕ × Group)) (next : ℕ) (before mid after : Shelved) (n : ℕ) (rest : List ℕ) → IsIndexed index es next → HasPutOut p old (values_of es) before mid → keys_of (filter (λ (e : ℕ × Group). p e.1) es) ≡ n ∷ rest → ((g : Group) → lookup (is_at (nat_cmp n)) es ≡ Some g → new ≡ remove_entry (is_at (nat_cmp n)) es) → ((g : Group) → lookup (is_at (nat_cmp n)) es ≡ Some g → after ≡ put_all mid (output_in g.parcel)) → OneMore p old new before after rest
one_more p old index es new next before mid after n rest i h k e s =
    let o = next_out p es n rest i.rise k in
    record {
      left = ap (λ l. keys_of (filter (λ (x : ℕ × Group). p x.1) l)) (e o.group o.found) ∙ o.left;
      gone = out_more p old es new before mid after n rest h o (e o.group o.found) (s o.group o.found);
    }

-- ---- numbers from a place on
pub drop_at : (s : List ℕ) (i : ℕ) → i < length s → drop i s ≡ get_or s i 0 ∷ drop (i + 1) s
drop_at s i h = rw (add-one, drop-cons s i 0) refl

pub drop_end : (s : List ℕ) (i : ℕ) → length s ≤ i → drop i s ≡ []
drop_end [] zero h = refl
drop_end [] (suc i) h = refl
drop_end (x ∷ s) zero h = absurd (omega arith)
drop_end (x ∷ s) (suc i) h = drop_end s i (omega arith)
