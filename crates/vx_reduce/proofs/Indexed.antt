-- Groups under numbers, found by their keys.
use Rattle.std.proofs.Common.{◌≡◌, ◌≢◌, ℕ, ◌+◌, ◌<◌, Bool, true, false, not, cond, nat_lt, ◌==◌, Option, Some, None, List, [], ◌∷◌, ◌++◌, map, IsTrue, arith, refl, sym, ◌∙◌, ap, subst, eq-eqb, ltb-true, lt-ltb}
use Rattle.std.specs.Prelude.{◌&&◌, IsSome, IfSome}
use Rattle.std.proofs.lemmas.Bool.Decides.{nat_tests}
use Rattle.std.specs.declared.cmp.Ordering.{Ordering}
use Rattle.std.specs.declared.cmp.Ordering.TheVariants.{Less, Equal, Greater}
use Rattle.std.specs.Ordering.{is_eq, nat_cmp, eq_by_cmp}
use Rattle.std.specs.Cmp.{unsigned_ties, eq_by_cmp_equiv}
use Rattle.std.specs.Map.{lookup, remove_entry, set_value, values_of}
use Rattle.std.specs.BTreeMap.{is_at, insert_entry, get, BTreeMap}
use Rattle.vx_value.specs.Datum.{Datum}
use Rattle.vx_value.specs.Orders.{datum_cmp}
use Rattle.vx_value.proofs.Orders.{datum_cmp-IsTotalOrder, datum_cmp-IsAntisymmetric, datum_cmp-itself}
use Rattle.vx_reduce.specs.declared.group.Group.{Group}
use Rattle.vx_reduce.specs.Groups.{has_key, group_of, changed, without}
use Rattle.vx_reduce.specs.Indexes.{keys_under, number_of, all_above, all_below, numbers_rise, is_apart, keys_differ, IsIndexOf}

-- ---- tests of numbers and of keys
pub at_same : (n : ℕ) → is_at (nat_cmp n) n ≡ true
at_same n = sym (unsigned_ties n n) ∙ eq-eqb n n refl

pub at_other : (n m : ℕ) → (n ≡ m → ⊥) → is_at (nat_cmp n) m ≡ false
at_other n m h = sym (unsigned_ties n m) ∙ grind (arith, nat_tests)

equal_true : (o : Ordering) → is_eq o ≡ true → o ≡ Equal
equal_true Less h = cc
equal_true Equal h = refl
equal_true Greater h = cc

pub same_datum : (a b : Datum) → is_eq (datum_cmp a b) ≡ true → a ≡ b
same_datum a b h = datum_cmp-IsAntisymmetric a b (equal_true (datum_cmp a b) h)

pub own_datum : (a : Datum) → is_eq (datum_cmp a a) ≡ true
own_datum a = ap is_eq (datum_cmp-itself a)

pub turned_datum : (a b : Datum) → is_eq (datum_cmp a b) ≡ is_eq (datum_cmp b a)
turned_datum a b = (eq_by_cmp_equiv datum_cmp-IsTotalOrder).symm a b

-- ---- conjunctions
pub both_left : (a b : Bool) → (a && b) ≡ true → a ≡ true
both_left true b h = refl
both_left false b h = h

pub both_right : (a b : Bool) → (a && b) ≡ true → b ≡ true
both_right true b h = h
both_right false b h = cc

pub both_true : (a b : Bool) → a ≡ true → b ≡ true → (a && b) ≡ true
both_true a b h k = rw h k

not_true : (b : Bool) → not b ≡ true → b ≡ false
not_true true h = cc
not_true false h = refl

-- ---- the number of a key
pub number_above : (low : ℕ) (ks : List (ℕ × Datum)) (k : Datum) (n : ℕ) → all_above low ks ≡ true → number_of k ks ≡ Some n → low < n
number_above low [] k n a h = cc
number_above low (e ∷ es) k n a h =
    by_key (is_eq (datum_cmp k e.1)) (ltb-true low e.0 (both_left (nat_lt low e.0) (all_above low es) a)) (λ later. number_above low es k n (both_right (nat_lt low e.0) (all_above low es) a) later) h
  where
    by_key : (b : Bool) → low < e.0 → (number_of k es ≡ Some n → low < n) → cond b (Some e.0) (number_of k es) ≡ Some n → low < n
    by_key true l f g = let m : e.0 ≡ n = cc in subst (λ i. low < i) m l
    by_key false l f g = f g

pub number_below : (high : ℕ) (ks : List (ℕ × Datum)) (k : Datum) (n : ℕ) → all_below high ks ≡ true → number_of k ks ≡ Some n → n < high
number_below high [] k n a h = cc
number_below high (e ∷ es) k n a h =
    by_key (is_eq (datum_cmp k e.1)) (ltb-true e.0 high (both_left (nat_lt e.0 high) (all_below high es) a)) (λ later. number_below high es k n (both_right (nat_lt e.0 high) (all_below high es) a) later) h
  where
    by_key : (b : Bool) → e.0 < high → (number_of k es ≡ Some n → n < high) → cond b (Some e.0) (number_of k es) ≡ Some n → n < high
    by_key true l f g = let m : e.0 ≡ n = cc in subst (λ i. i < high) m l
    by_key false l f g = f g

-- where a key is the first's, or stands further behind
by_first : (P : Type 0) (k : Datum) (e : ℕ × Datum) (es : List (ℕ × Datum)) (n : ℕ) → all_above e.0 es ≡ true → number_of k (e ∷ es) ≡ Some n → (is_eq (datum_cmp k e.1) ≡ true → is_at (nat_cmp n) e.0 ≡ true → P) → (is_eq (datum_cmp k e.1) ≡ false → is_at (nat_cmp n) e.0 ≡ false → number_of k es ≡ Some n → P) → P
by_first P k e es n a h here there = by_key (is_eq (datum_cmp k e.1)) refl h
  where
    by_key : (b : Bool) → is_eq (datum_cmp k e.1) ≡ b → cond b (Some e.0) (number_of k es) ≡ Some n → P
    by_key true t g = let m : e.0 ≡ n = cc in here t (subst (λ i. is_at (nat_cmp i) e.0 ≡ true) m (at_same e.0))
    by_key false t g = let l = number_above e.0 es k n a g in there t (at_other n e.0 (λ m. absurd (omega (arith, l, m)))) g

module _ (k : Datum) (n : ℕ) where
  -- the group under the number of a key is that of the key
  pub found_under : (es : List (ℕ × Group)) → numbers_rise (keys_under es) ≡ true → number_of k (keys_under es) ≡ Some n → lookup (is_at (nat_cmp n)) es ≡ group_of k (values_of es)
  found_under [] r h = refl
  found_under (e ∷ es) r h =
      let later = found_under es (both_right (all_above e.0 (keys_under es)) (numbers_rise (keys_under es)) r) in
      by_first (lookup (is_at (nat_cmp n)) (e ∷ es) ≡ group_of k (values_of (e ∷ es))) k (e.0, e.1.key) (keys_under es) n (both_left (all_above e.0 (keys_under es)) (numbers_rise (keys_under es)) r) h
      (λ t u. rw (t, u) refl) (λ t u g. rw (t, u) (later g))

  pub removed_under : (es : List (ℕ × Group)) → numbers_rise (keys_under es) ≡ true → number_of k (keys_under es) ≡ Some n → values_of (remove_entry (is_at (nat_cmp n)) es) ≡ without k (values_of es)
  removed_under [] r h = refl
  removed_under (e ∷ es) r h =
      let later = removed_under es (both_right (all_above e.0 (keys_under es)) (numbers_rise (keys_under es)) r) in
      by_first (values_of (remove_entry (is_at (nat_cmp n)) (e ∷ es)) ≡ without k (values_of (e ∷ es))) k (e.0, e.1.key) (keys_under es) n (both_left (all_above e.0 (keys_under es)) (numbers_rise (keys_under es)) r) h
      (λ t u. rw (t, u) refl) (λ t u g. rw (t, u) (ap (λ l. e.1 ∷ l) (later g)))

  pub changed_under : (f : Group → Group) (g : Group) (es : List (ℕ × Group)) → numbers_rise (keys_under es) ≡ true → number_of k (keys_under es) ≡ Some n → lookup (is_at (nat_cmp n)) es ≡ Some g → values_of (set_value (is_at (nat_cmp n)) es (f g)) ≡ changed k f (values_of es)
  changed_under f g [] r h l = refl
  changed_under f g (e ∷ es) r h l =
      let later = changed_under f g es (both_right (all_above e.0 (keys_under es)) (numbers_rise (keys_under es)) r) in
      by_first (values_of (set_value (is_at (nat_cmp n)) (e ∷ es) (f g)) ≡ changed k f (values_of (e ∷ es))) k (e.0, e.1.key) (keys_under es) n (both_left (all_above e.0 (keys_under es)) (numbers_rise (keys_under es)) r) h
      (λ t u. let same : e.1 ≡ g = found e.1 (lookup (is_at (nat_cmp n)) es) g (rw u at l) in rw (t, u) (ap (λ x. f x ∷ values_of es) (sym same)))
      (λ t u i. rw (t, u) (ap (λ l. e.1 ∷ l) (later i (rw u at l))))
    where
      found : (x : Group) (o : Option Group) (y : Group) → Some x ≡ Some y → x ≡ y
      found x o y m = cc

-- a key with no number has no group
pub none_under : (k : Datum) (es : List (ℕ × Group)) → number_of k (keys_under es) ≡ None → group_of k (values_of es) ≡ None
none_under k [] h = refl
none_under k (e ∷ es) h = by_key (is_eq (datum_cmp k e.1.key)) refl (none_under k es) h
  where
    by_key : (b : Bool) → is_eq (datum_cmp k e.1.key) ≡ b → (number_of k (keys_under es) ≡ None → group_of k (values_of es) ≡ None) → cond b (Some e.0) (number_of k (keys_under es)) ≡ None → group_of k (values_of (e ∷ es)) ≡ None
    by_key true t f g = cc
    by_key false t f g = rw t (f g)

-- and one with a group has a number
pub number_of_group : (k : Datum) (es : List (ℕ × Group)) → number_of k (keys_under es) ≡ None → IsSome (group_of k (values_of es)) → ⊥
number_of_group k es h s = no_group (group_of k (values_of es)) (none_under k es h) s
  where
    no_group : (o : Option Group) → o ≡ None → IsSome o → ⊥
    no_group None e s = cc
    no_group (Some g) e s = cc

-- ---- what keeps the keys
pub keys-set : (test : ℕ → Bool) (es : List (ℕ × Group)) (g w : Group) → lookup test es ≡ Some g → w.key ≡ g.key → keys_under (set_value test es w) ≡ keys_under es
keys-set test [] g w h k = refl
keys-set test (e ∷ es) g w h k = by_test (test e.0) refl (λ later. keys-set test es g w later k) h
  where
    by_test : (b : Bool) → test e.0 ≡ b → (lookup test es ≡ Some g → keys_under (set_value test es w) ≡ keys_under es) → cond b (Some e.1) (lookup test es) ≡ Some g → keys_under (set_value test (e ∷ es) w) ≡ keys_under (e ∷ es)
    by_test true t f l =
        let same : e.1 ≡ g = cc in
        let as_pair : Datum → List (ℕ × Datum) = λ d. (e.0, d) ∷ keys_under es in
        rw t (ap as_pair (k ∙ ap (λ x. x.key) (sym same)))
    by_test false t f l = rw t (ap (λ ks. (e.0, e.1.key) ∷ ks) (f l))

pub keys-remove : (test : ℕ → Bool) (es : List (ℕ × Group)) → keys_under (remove_entry test es) ≡ remove_entry test (keys_under es)
keys-remove test [] = refl
keys-remove test (e ∷ es) = by_test (test e.0) refl (keys-remove test es)
  where
    by_test : (b : Bool) → test e.0 ≡ b → keys_under (remove_entry test es) ≡ remove_entry test (keys_under es) → keys_under (remove_entry test (e ∷ es)) ≡ remove_entry test (keys_under (e ∷ es))
    by_test true t f = rw t refl
    by_test false t f = rw t (ap (λ ks. (e.0, e.1.key) ∷ ks) f)

-- ---- an entry taken out
-- what holds of each entry and those behind it, and stays where some of these go, holds of each that is left
each-remove : (test : ℕ → Bool) (holds : ℕ × Datum → List (ℕ × Datum) → Bool) (all : List (ℕ × Datum) → Bool) → all [] ≡ true →
    ((e : ℕ × Datum) (es : List (ℕ × Datum)) → all (e ∷ es) ≡ (holds e es && all es)) →
    ((e : ℕ × Datum) (es : List (ℕ × Datum)) → holds e es ≡ true → holds e (remove_entry test es) ≡ true) →
    (ks : List (ℕ × Datum)) → all ks ≡ true → all (remove_entry test ks) ≡ true
each-remove test holds all none step stays [] h = none
each-remove test holds all none step stays (e ∷ es) h = by_test (test e.0) refl (each-remove test holds all none step stays es (both_right (holds e es) (all es) both))
  where
    both : (holds e es && all es) ≡ true
    both = sym (step e es) ∙ h

    by_test : (b : Bool) → test e.0 ≡ b → all (remove_entry test es) ≡ true → all (remove_entry test (e ∷ es)) ≡ true
    by_test true t f = rw t (both_right (holds e es) (all es) both)
    by_test false t f =
        rw t (step e (remove_entry test es) ∙ both_true (holds e (remove_entry test es)) (all (remove_entry test es)) (stays e es (both_left (holds e es) (all es) both)) f)

above-remove : (test : ℕ → Bool) (n : ℕ) (ks : List (ℕ × Datum)) → all_above n ks ≡ true → all_above n (remove_entry test ks) ≡ true
above-remove test n = each-remove test (λ e es. nat_lt n e.0) (all_above n) refl (λ e es. refl) (λ e es h. h)

below-remove : (test : ℕ → Bool) (n : ℕ) (ks : List (ℕ × Datum)) → all_below n ks ≡ true → all_below n (remove_entry test ks) ≡ true
below-remove test n = each-remove test (λ e es. nat_lt e.0 n) (all_below n) refl (λ e es. refl) (λ e es h. h)

apart-remove : (test : ℕ → Bool) (k : Datum) (ks : List (ℕ × Datum)) → is_apart k ks ≡ true → is_apart k (remove_entry test ks) ≡ true
apart-remove test k = each-remove test (λ e es. not (is_eq (datum_cmp k e.1))) (is_apart k) refl (λ e es. refl) (λ e es h. h)

rise-remove : (test : ℕ → Bool) (ks : List (ℕ × Datum)) → numbers_rise ks ≡ true → numbers_rise (remove_entry test ks) ≡ true
rise-remove test = each-remove test (λ e es. all_above e.0 es) numbers_rise refl (λ e es. refl) (λ e. above-remove test e.0)

differ-remove : (test : ℕ → Bool) (ks : List (ℕ × Datum)) → keys_differ ks ≡ true → keys_differ (remove_entry test ks) ≡ true
differ-remove test = each-remove test (λ e es. is_apart e.1 es) keys_differ refl (λ e es. refl) (λ e. apart-remove test e.1)

-- a key apart has no number
pub apart-none : (k q : Datum) (ks : List (ℕ × Datum)) → k ≡ q → is_apart k ks ≡ true → number_of q ks ≡ None
apart-none k q [] e h = refl
apart-none k q (f ∷ fs) e h =
    let other : is_eq (datum_cmp q f.1) ≡ false = rw e at (not_true (is_eq (datum_cmp k f.1)) (both_left (not (is_eq (datum_cmp k f.1))) (is_apart k fs) h)) in
    rw other (apart-none k q fs e (both_right (not (is_eq (datum_cmp k f.1))) (is_apart k fs) h))

-- and one with no number is apart
none-apart : (k : Datum) (ks : List (ℕ × Datum)) → number_of k ks ≡ None → is_apart k ks ≡ true
none-apart k [] h = refl
none-apart k (e ∷ es) h = by_key (is_eq (datum_cmp k e.1)) refl (none-apart k es) h
  where
    by_key : (b : Bool) → is_eq (datum_cmp k e.1) ≡ b → (number_of k es ≡ None → is_apart k es ≡ true) → cond b (Some e.0) (number_of k es) ≡ None → is_apart k (e ∷ es) ≡ true
    by_key true t f g = cc
    by_key false t f g = rw t (f g)

-- the number of each key once one is taken out
pub number-remove : (k : Datum) (n : ℕ) (ks : List (ℕ × Datum)) → numbers_rise ks ≡ true → keys_differ ks ≡ true → number_of k ks ≡ Some n → (q : Datum) → number_of q (remove_entry (is_at (nat_cmp n)) ks) ≡ cond (is_eq (datum_cmp k q)) None (number_of q ks)
number-remove k n [] r d h q = cc
number-remove k n (e ∷ es) r d h q =
    let later = λ (g : number_of k es ≡ Some n). number-remove k n es (both_right (all_above e.0 es) (numbers_rise es) r) (both_right (is_apart e.1 es) (keys_differ es) d) g q in
    by_first (number_of q (remove_entry (is_at (nat_cmp n)) (e ∷ es)) ≡ cond (is_eq (datum_cmp k q)) None (number_of q (e ∷ es))) k e es n (both_left (all_above e.0 es) (numbers_rise es) r) h
    (λ t u. rw u (first_out (is_eq (datum_cmp k q)) refl (same_datum k e.1 t)))
    (λ t u g. rw u (later_out (is_eq (datum_cmp k q)) refl (is_eq (datum_cmp q e.1)) refl t (later g)))
  where
    first_out : (b : Bool) → is_eq (datum_cmp k q) ≡ b → k ≡ e.1 → number_of q es ≡ cond b None (number_of q (e ∷ es))
    first_out true t m = apart-none e.1 q es (sym m ∙ same_datum k q t) (both_left (is_apart e.1 es) (keys_differ es) d)
    first_out false t m = let other : is_eq (datum_cmp q e.1) ≡ false = turned_datum q e.1 ∙ (rw m at t) in rw other refl

    later_out : (b : Bool) → is_eq (datum_cmp k q) ≡ b → (c : Bool) → is_eq (datum_cmp q e.1) ≡ c → is_eq (datum_cmp k e.1) ≡ false → number_of q (remove_entry (is_at (nat_cmp n)) es) ≡ cond (is_eq (datum_cmp k q)) None (number_of q es) → number_of q (e ∷ remove_entry (is_at (nat_cmp n)) es) ≡ cond b None (number_of q (e ∷ es))
    later_out true t true u v f = absurd_same (same_datum k q t) u v
      where
        absurd_same : k ≡ q → is_eq (datum_cmp q e.1) ≡ true → is_eq (datum_cmp k e.1) ≡ false → number_of q (e ∷ remove_entry (is_at (nat_cmp n)) es) ≡ None
        absurd_same m x y = let z : is_eq (datum_cmp k e.1) ≡ true = rw m x in cc
    later_out true t false u v f = rw u (f ∙ ap (λ b. cond b None (number_of q es)) t)
    later_out false t true u v f = rw u refl
    later_out false t false u v f = rw u (f ∙ ap (λ b. cond b None (number_of q es)) t)

-- ---- an entry added at the end
above-add : (low n : ℕ) (k : Datum) (ks : List (ℕ × Datum)) → all_above low ks ≡ true → nat_lt low n ≡ true → all_above low (ks ++ (n, k) ∷ []) ≡ true
above-add low n k [] h l = both_true (nat_lt low n) true l refl
above-add low n k (e ∷ es) h l = both_true (nat_lt low e.0) (all_above low (es ++ (n, k) ∷ [])) (both_left (nat_lt low e.0) (all_above low es) h) (above-add low n k es (both_right (nat_lt low e.0) (all_above low es) h) l)

below-add : (n : ℕ) (k : Datum) (ks : List (ℕ × Datum)) → all_below n ks ≡ true → all_below (n + 1) (ks ++ (n, k) ∷ []) ≡ true
below-add n k [] h = both_true (nat_lt n (n + 1)) true (lt-ltb n (n + 1) (omega arith)) refl
below-add n k (e ∷ es) h =
    let l : e.0 < n = ltb-true e.0 n (both_left (nat_lt e.0 n) (all_below n es) h) in
    both_true (nat_lt e.0 (n + 1)) (all_below (n + 1) (es ++ (n, k) ∷ [])) (lt-ltb e.0 (n + 1) (omega arith)) (below-add n k es (both_right (nat_lt e.0 n) (all_below n es) h))

rise-add : (n : ℕ) (k : Datum) (ks : List (ℕ × Datum)) → numbers_rise ks ≡ true → all_below n ks ≡ true → numbers_rise (ks ++ (n, k) ∷ []) ≡ true
rise-add n k [] r b = refl
rise-add n k (e ∷ es) r b =
    both_true (all_above e.0 (es ++ (n, k) ∷ [])) (numbers_rise (es ++ (n, k) ∷ []))
    (above-add e.0 n k es (both_left (all_above e.0 es) (numbers_rise es) r) (both_left (nat_lt e.0 n) (all_below n es) b))
    (rise-add n k es (both_right (all_above e.0 es) (numbers_rise es) r) (both_right (nat_lt e.0 n) (all_below n es) b))

apart-add : (q : Datum) (n : ℕ) (k : Datum) (ks : List (ℕ × Datum)) → is_apart q ks ≡ true → is_eq (datum_cmp q k) ≡ false → is_apart q (ks ++ (n, k) ∷ []) ≡ true
apart-add q n k [] h o = rw o refl
apart-add q n k (e ∷ es) h o = both_true (not (is_eq (datum_cmp q e.1))) (is_apart q (es ++ (n, k) ∷ [])) (both_left (not (is_eq (datum_cmp q e.1))) (is_apart q es) h) (apart-add q n k es (both_right (not (is_eq (datum_cmp q e.1))) (is_apart q es) h) o)

differ-add : (n : ℕ) (k : Datum) (ks : List (ℕ × Datum)) → keys_differ ks ≡ true → is_apart k ks ≡ true → keys_differ (ks ++ (n, k) ∷ []) ≡ true
differ-add n k [] d a = refl
differ-add n k (e ∷ es) d a =
    both_true (is_apart e.1 (es ++ (n, k) ∷ [])) (keys_differ (es ++ (n, k) ∷ []))
    (apart-add e.1 n k es (both_left (is_apart e.1 es) (keys_differ es) d) (turned_datum e.1 k ∙ not_true (is_eq (datum_cmp k e.1)) (both_left (not (is_eq (datum_cmp k e.1))) (is_apart k es) a)))
    (differ-add n k es (both_right (is_apart e.1 es) (keys_differ es) d) (both_right (not (is_eq (datum_cmp k e.1))) (is_apart k es) a))

-- the number of each key once one is added
number-add : (q : Datum) (n : ℕ) (k : Datum) (ks : List (ℕ × Datum)) → number_of k ks ≡ None → number_of q (ks ++ (n, k) ∷ []) ≡ cond (is_eq (datum_cmp k q)) (Some n) (number_of q ks)
number-add q n k [] h = ap (λ b. cond b (Some n) None) (turned_datum q k)
number-add q n k (e ∷ es) h = by_key (is_eq (datum_cmp k e.1)) refl (number-add q n k es) h
  where
    behind : (c b : Bool) → is_eq (datum_cmp q e.1) ≡ c → is_eq (datum_cmp k q) ≡ b → is_eq (datum_cmp k e.1) ≡ false → number_of q (es ++ (n, k) ∷ []) ≡ cond b (Some n) (number_of q es) → cond c (Some e.0) (number_of q (es ++ (n, k) ∷ [])) ≡ cond b (Some n) (cond c (Some e.0) (number_of q es))
    behind true true c b t f = let m : k ≡ q = same_datum k q b in let z : is_eq (datum_cmp k e.1) ≡ true = rw m c in cc
    behind true false c b t f = refl
    behind false b c g t f = f

    by_key : (b : Bool) → is_eq (datum_cmp k e.1) ≡ b → (number_of k es ≡ None → number_of q (es ++ (n, k) ∷ []) ≡ cond (is_eq (datum_cmp k q)) (Some n) (number_of q es)) → cond b (Some e.0) (number_of k es) ≡ None → number_of q ((e ∷ es) ++ (n, k) ∷ []) ≡ cond (is_eq (datum_cmp k q)) (Some n) (number_of q (e ∷ es))
    by_key true t f g = cc
    by_key false t f g = behind (is_eq (datum_cmp q e.1)) (is_eq (datum_cmp k q)) refl refl t (f g)

-- a number above all others is at the end
pub insert_last : (n : ℕ) (g : Group) (es : List (ℕ × Group)) → all_below n (keys_under es) ≡ true → insert_entry nat_cmp es n g ≡ es ++ (n, g) ∷ []
insert_last n g [] h = refl
insert_last n g (e ∷ es) h =
    let l : e.0 < n = ltb-true e.0 n (both_left (nat_lt e.0 n) (all_below n (keys_under es)) h) in
    behind (insert_last n g es (both_right (nat_lt e.0 n) (all_below n (keys_under es)) h)) (nat_cmp n e.0) (greater n e.0 l)
  where
    greater : (a b : ℕ) → b < a → nat_cmp a b ≡ Greater
    greater a b l = grind (arith, nat_tests)

    behind : insert_entry nat_cmp es n g ≡ es ++ (n, g) ∷ [] → (o : Ordering) → nat_cmp n e.0 ≡ Greater → insert_entry nat_cmp (e ∷ es) n g ≡ (e ∷ es) ++ (n, g) ∷ []
    behind later o h = rw h (ap (λ l. e ∷ l) later)

-- and no group has it
pub none_at_next : (n : ℕ) (es : List (ℕ × Group)) → all_below n (keys_under es) ≡ true → lookup (is_at (nat_cmp n)) es ≡ None
none_at_next n [] h = refl
none_at_next n (e ∷ es) h =
    let l : e.0 < n = ltb-true e.0 n (both_left (nat_lt e.0 n) (all_below n (keys_under es)) h) in
    let other : is_at (nat_cmp n) e.0 ≡ false = at_other n e.0 (λ m. absurd (omega (arith, l, m))) in
    rw other (none_at_next n es (both_right (nat_lt e.0 n) (all_below n (keys_under es)) h))

pub keys-add : (n : ℕ) (g : Group) (es : List (ℕ × Group)) → keys_under (es ++ (n, g) ∷ []) ≡ keys_under es ++ (n, g.key) ∷ []
keys-add n g [] = refl
keys-add n g (e ∷ es) = ap (λ ks. (e.0, e.1.key) ∷ ks) (keys-add n g es)

pub values-add : (n : ℕ) (g : Group) (es : List (ℕ × Group)) → values_of (es ++ (n, g) ∷ []) ≡ values_of es ++ g ∷ []
values-add n g [] = refl
values-add n g (e ∷ es) = ap (λ gs. e.1 ∷ gs) (values-add n g es)

-- ---- the index
-- of what is left once a key is taken out
pub index-remove : (old new : List (Datum × ℕ)) (ks : List (ℕ × Datum)) (next : ℕ) (k : Datum) (n : ℕ) → IsIndexOf old ks next → number_of k ks ≡ Some n → ((q : Datum) → lookup (is_at (datum_cmp q)) new ≡ cond (is_at (datum_cmp k) q) None (lookup (is_at (datum_cmp q)) old)) → IsIndexOf new (remove_entry (is_at (nat_cmp n)) ks) next
index-remove old new ks next k n i h u = record {
  numbers = λ q. u q ∙ ap (λ o. cond (is_at (datum_cmp k) q) None o) (i.numbers q) ∙ sym (number-remove k n ks i.rise i.differ h q);
  rise = rise-remove (is_at (nat_cmp n)) ks i.rise;
  below = below-remove (is_at (nat_cmp n)) next ks i.below;
  differ = differ-remove (is_at (nat_cmp n)) ks i.differ;
}

-- of what is there once a key is added
pub index-add : (old new : List (Datum × ℕ)) (ks : List (ℕ × Datum)) (next : ℕ) (k : Datum) → IsIndexOf old ks next → number_of k ks ≡ None → ((q : Datum) → lookup (is_at (datum_cmp q)) new ≡ cond (is_at (datum_cmp k) q) (Some next) (lookup (is_at (datum_cmp q)) old)) → IsIndexOf new (ks ++ (next, k) ∷ []) (next + 1)
index-add old new ks next k i h u = record {
  numbers = λ q. u q ∙ ap (λ o. cond (is_at (datum_cmp k) q) (Some next) o) (i.numbers q) ∙ sym (number-add q next k ks h);
  rise = rise-add next k ks i.rise i.below;
  below = below-add next k ks i.below;
  differ = differ-add next k ks i.differ (none-apart k ks h);
}

-- of what is there once a key is taken out and added again
pub index-restart : (old new : List (Datum × ℕ)) (ks : List (ℕ × Datum)) (next : ℕ) (k : Datum) (n : ℕ) → IsIndexOf old ks next → number_of k ks ≡ Some n → ((q : Datum) → lookup (is_at (datum_cmp q)) new ≡ cond (is_at (datum_cmp k) q) (Some next) (lookup (is_at (datum_cmp q)) old)) → IsIndexOf new (remove_entry (is_at (nat_cmp n)) ks ++ (next, k) ∷ []) (next + 1)
index-restart old new ks next k n i h u =
    let left = number-remove k n ks i.rise i.differ h in
    let none : number_of k (remove_entry (is_at (nat_cmp n)) ks) ≡ None = left k ∙ ap (λ b. cond b None (number_of k ks)) (own_datum k) in
    record {
      numbers = λ q.
          u q ∙ ap (λ o. cond (is_at (datum_cmp k) q) (Some next) o) (i.numbers q) ∙ again (is_eq (datum_cmp k q)) (number_of q ks)
          ∙ sym (number-add q next k (remove_entry (is_at (nat_cmp n)) ks) none ∙ ap (λ o. cond (is_eq (datum_cmp k q)) (Some next) o) (left q));
      rise = rise-add next k (remove_entry (is_at (nat_cmp n)) ks) (rise-remove (is_at (nat_cmp n)) ks i.rise) (below-remove (is_at (nat_cmp n)) next ks i.below);
      below = below-add next k (remove_entry (is_at (nat_cmp n)) ks) (below-remove (is_at (nat_cmp n)) next ks i.below);
      differ = differ-add next k (remove_entry (is_at (nat_cmp n)) ks) (differ-remove (is_at (nat_cmp n)) ks i.differ) (none-apart k (remove_entry (is_at (nat_cmp n)) ks) none);
    }
  where
    again : (b : Bool) (o : Option ℕ) → cond b (Some next) o ≡ cond b (Some next) (cond b None o)
    again true o = refl
    again false o = refl

-- a key with no group has no number
pub none_numbered : (k : Datum) (es : List (ℕ × Group)) → group_of k (values_of es) ≡ None → number_of k (keys_under es) ≡ None
none_numbered k [] h = refl
none_numbered k (e ∷ es) h = by_key (is_eq (datum_cmp k e.1.key)) (none_numbered k es) h
  where
    by_key : (b : Bool) → (group_of k (values_of es) ≡ None → number_of k (keys_under es) ≡ None) → cond b (Some e.1) (group_of k (values_of es)) ≡ None → cond b (Some e.0) (number_of k (keys_under es)) ≡ None
    by_key true f g = cc
    by_key false f g = f g

-- an index with an entry taken out again
pub undone : (old mid new : List (Datum × ℕ)) (k : Datum) (n : ℕ) → lookup (is_at (datum_cmp k)) old ≡ None → ((q : Datum) → lookup (is_at (datum_cmp q)) mid ≡ cond (is_at (datum_cmp k) q) (Some n) (lookup (is_at (datum_cmp q)) old)) → ((q : Datum) → lookup (is_at (datum_cmp q)) new ≡ cond (is_at (datum_cmp k) q) None (lookup (is_at (datum_cmp q)) mid)) → (q : Datum) → lookup (is_at (datum_cmp q)) new ≡ lookup (is_at (datum_cmp q)) old
undone old mid new k n h u v q = v q ∙ by_key (is_eq (datum_cmp k q)) refl
  where
    by_key : (b : Bool) → is_eq (datum_cmp k q) ≡ b → cond b None (lookup (is_at (datum_cmp q)) mid) ≡ lookup (is_at (datum_cmp q)) old
    by_key true t = sym (subst (λ x. lookup (is_at (datum_cmp x)) old ≡ None) (same_datum k q t) h)
    by_key false t = u q ∙ ap (λ b. cond b (Some n) (lookup (is_at (datum_cmp q)) old)) t

-- the key of the group of a key
pub found_key : (k key : Datum) (gs : List Group) → IsSome (group_of k gs) → IfSome (group_of k gs) (λ g. key ≡ g.key) → key ≡ k
found_key k key [] s h = cc
found_key k key (g ∷ gs) s h = by_key (is_eq (datum_cmp k g.key)) refl (found_key k key gs) s h
  where
    by_key : (b : Bool) → is_eq (datum_cmp k g.key) ≡ b → (IsSome (group_of k gs) → IfSome (group_of k gs) (λ g. key ≡ g.key) → key ≡ k) → IsSome (cond b (Some g) (group_of k gs)) → IfSome (cond b (Some g) (group_of k gs)) (λ g. key ≡ g.key) → key ≡ k
    by_key true t f s h = h ∙ sym (same_datum k g.key t)
    by_key false t f s h = f s h
