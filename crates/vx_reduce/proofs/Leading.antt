-- The groups of the events that are held, each at the place of its first one.
use Rattle.std.proofs.Common.{◌≡◌, ℕ, suc, ◌<◌, Bool, true, false, not, cond, ◌==◌, Option, Some, None, List, [], ◌∷◌, ◌++◌, length, map, arith, refl, sym, ◌∙◌, ap, ap₂, subst, eq-eqb, eqb-true, append-nil}
use Rattle.std.specs.Prelude.{◌&&◌, ◌||◌, filter, nat_le, ◌-◌}
use Rattle.std.specs.List.{list_any, flat_map, find}
use Rattle.std.proofs.lemmas.Bool.Decides.{nat_tests}
use Rattle.std.proofs.lemmas.List.{map-append}
use Rattle.std.proofs.lemmas.List.Concat.{flat_map-append}
use Rattle.vx_value.specs.Datum.{Datum}
use Rattle.vx_value.specs.Texts.{is_empty}
use Rattle.vx_value.specs.declared.event.Event.{Event}
use Rattle.vx_transform.specs.declared.output.Output.{Output}
use Rattle.vx_condition.specs.Steps.{Step}
use Rattle.vx_condition.specs.Picking.{Key, same_key}
use Rattle.vx_condition.specs.Reducing.{Settings, Arrival, arrivals, group_key, held_of, led_by, groups, is_old, some_held}
use Rattle.vx_reduce.specs.declared.group.Group.{Group}
use Rattle.vx_reduce.specs.Keys.{key_datum}
use Rattle.vx_reduce.specs.Groups.{has_key, group_of, changed, without, outputs_of}
use Rattle.vx_reduce.specs.Expiries.{is_old as is_stale}
use Rattle.vx_reduce.proofs.Indexed.{same_datum, both_true}
use Rattle.vx_reduce.specs.Inputs.{Input, group_with, output_with, last_moment}
use Rattle.vx_reduce.proofs.KeyLaws.{key_same, key_equal, key_own}
use Rattle.vx_reduce.proofs.HeldLaws.{AreBelow, AreAbove, AreRising, IsAmong, any_among, first_led, first_own, arrivals_rise, held_below}

-- ---- numbers
pub number_own : (n : ℕ) → (n == n) ≡ true
number_own n = eq-eqb n n refl

pub number_apart : (n m : ℕ) → m < n → (n == m) ≡ false
number_apart n m l = grind (arith, nat_tests)

pub number_under : (n m : ℕ) → n < m → (n == m) ≡ false
number_under n m l = grind (arith, nat_tests)

-- ---- groups, whatever is held under each key
-- whether an event is the first of some
abbrev pub leads : List Arrival → Arrival → Bool
leads [] a = false
leads (first ∷ rest) a = first.place == a.place

-- what is held, at the first of its events among some
abbrev pub led : Settings → (Key → List Arrival) → List Arrival → List (List Arrival)
led s held us = flat_map (λ a. led_by a (held (group_key s a.event))) us

-- at an event there is nothing, or the group of its key, of which it is the first
pub data Look (s : Settings) (held : Key → List Arrival) (a : Arrival) : Type 0 where
  nobody : led_by a (held (group_key s a.event)) ≡ [] → leads (held (group_key s a.event)) a ≡ false → Look s held a
  leader : (first : Arrival) (rest : List Arrival) → held (group_key s a.event) ≡ first ∷ rest → led_by a (held (group_key s a.event)) ≡ (first ∷ rest) ∷ [] → leads (held (group_key s a.event)) a ≡ true → Look s held a

pub look : (s : Settings) (held : Key → List Arrival) (a : Arrival) → Look s held a
look s held a = by_held (held (group_key s a.event)) refl
  where
    by_place : (first : Arrival) (rest : List Arrival) → held (group_key s a.event) ≡ first ∷ rest → (b : Bool) → (first.place == a.place) ≡ b → Look s held a
    by_place first rest h true t =
        leader first rest h (ap (λ l. led_by a l) h ∙ ap (λ b. cond b ((first ∷ rest) ∷ []) []) t) (ap (λ l. leads l a) h ∙ t)
    by_place first rest h false t =
        nobody (ap (λ l. led_by a l) h ∙ ap (λ b. cond b ((first ∷ rest) ∷ []) []) t) (ap (λ l. leads l a) h ∙ t)

    by_held : (l : List Arrival) → held (group_key s a.event) ≡ l → Look s held a
    by_held [] h = nobody (ap (λ l. led_by a l) h) (ap (λ l. leads l a) h)
    by_held (first ∷ rest) h = by_place first rest h (first.place == a.place) refl

-- whether a group has the key of an event
pub group_keyed : (s : Settings) (given : List Input) (e : Event) (first : Arrival) (rest : List Arrival) (k : Key) → group_key s first.event ≡ k →
    has_key (key_datum s.group_by e) (group_with s given (first ∷ rest)) ≡ same_key (group_key s e) k
group_keyed s given e first rest k h = sym (key_same s.group_by e first.event) ∙ ap (λ x. same_key (group_key s e) x) h

and_false : (b : Bool) → (b && false) ≡ false
and_false true = refl
and_false false = refl

-- nobody leads nothing
pub no_leader : (q : Arrival → Bool) (us : List Arrival) → list_any (λ a. q a && leads [] a) us ≡ false
no_leader q [] = refl
no_leader q (a ∷ us) = ap₂ (λ b c. b || c) (and_false (q a)) (no_leader q us)

-- and nobody who comes behind the first leads
none_above : (q : Arrival → Bool) (first : Arrival) (rest us : List Arrival) → AreAbove first.place us → list_any (λ a. q a && leads (first ∷ rest) a) us ≡ false
none_above q first rest [] h = refl
none_above q first rest (a ∷ us) h =
    ap₂ (λ b c. b || c) (ap (λ t. q a && t) (number_under first.place a.place h.0) ∙ and_false (q a)) (none_above q first rest us h.1)

-- no two groups have one key
abbrev pub AreApart : List Group → Type 0
AreApart [] = Unit {0}
AreApart (g ∷ gs) = (group_of g.key gs ≡ None) × AreApart gs

-- the group that holds some events, if there are any
abbrev pub found_in : Settings → List Input → List Arrival → Option Group
found_in s given [] = None
found_in s given (a ∷ rest) = Some (group_with s given (a ∷ rest))

module _ (s : Settings) (given : List Input) (held : Key → List Arrival) (own : (k : Key) (a : Arrival) (rest : List Arrival) → held k ≡ a ∷ rest → group_key s a.event ≡ k) where
  -- whether an event has the key of another, and is the first of those held under it
  abbrev heads : Event → Arrival → Bool
  heads e a = same_key (group_key s e) (group_key s a.event) && leads (held (group_key s e)) a

  -- the group of an event's key
  abbrev Finds : Event → List Arrival → Type 0
  Finds e us = group_of (key_datum s.group_by e) (map (group_with s given) (led s held us)) ≡ cond (list_any (heads e) us) (Some (group_with s given (held (group_key s e)))) None

  heads_by : (e : Event) (a : Arrival) (b c : Bool) → same_key (group_key s e) (group_key s a.event) ≡ b → leads (held (group_key s a.event)) a ≡ c → heads e a ≡ (b && c)
  heads_by e a true c t l =
      let same : held (group_key s e) ≡ held (group_key s a.event) = ap held (key_equal s.group_by e (group_key s a.event) t) in
      ap (λ b. b && leads (held (group_key s e)) a) t ∙ ap (λ m. leads m a) same ∙ l
  heads_by e a false c t l = ap (λ b. b && leads (held (group_key s e)) a) t

  finds_past : (e : Event) (a : Arrival) (us : List Arrival) → led_by a (held (group_key s a.event)) ≡ [] → heads e a ≡ false → Finds e us → Finds e (a ∷ us)
  finds_past e a us n h f =
      ap (λ l. group_of (key_datum s.group_by e) (map (group_with s given) (l ++ led s held us))) n ∙ f
      ∙ ap (λ b. cond (b || list_any (heads e) us) (Some (group_with s given (held (group_key s e)))) None) (sym h)

  finds_other : (e : Event) (a : Arrival) (us l : List Arrival) → led_by a (held (group_key s a.event)) ≡ l ∷ [] → has_key (key_datum s.group_by e) (group_with s given l) ≡ false → heads e a ≡ false → Finds e us → Finds e (a ∷ us)
  finds_other e a us l n k h f =
      ap (λ m. group_of (key_datum s.group_by e) (map (group_with s given) (m ++ led s held us))) n
      ∙ ap (λ b. cond b (Some (group_with s given l)) (group_of (key_datum s.group_by e) (map (group_with s given) (led s held us)))) k ∙ f
      ∙ ap (λ b. cond (b || list_any (heads e) us) (Some (group_with s given (held (group_key s e)))) None) (sym h)

  finds_here : (e : Event) (a : Arrival) (us l : List Arrival) → led_by a (held (group_key s a.event)) ≡ l ∷ [] → has_key (key_datum s.group_by e) (group_with s given l) ≡ true → heads e a ≡ true → l ≡ held (group_key s e) → Finds e (a ∷ us)
  finds_here e a us l n k h m =
      ap (λ m. group_of (key_datum s.group_by e) (map (group_with s given) (m ++ led s held us))) n
      ∙ ap (λ b. cond b (Some (group_with s given l)) (group_of (key_datum s.group_by e) (map (group_with s given) (led s held us)))) k
      ∙ ap (λ x. Some (group_with s given x)) m
      ∙ ap (λ b. cond (b || list_any (heads e) us) (Some (group_with s given (held (group_key s e)))) None) (sym h)

  pub find_held : (e : Event) (us : List Arrival) → Finds e us
  find_held e [] = refl
  find_held e (a ∷ us) = by_look (look s held a) (same_key (group_key s e) (group_key s a.event)) refl (find_held e us)
    where
      by_look : Look s held a → (b : Bool) → same_key (group_key s e) (group_key s a.event) ≡ b → Finds e us → Finds e (a ∷ us)
      by_look (nobody n l) true t f = finds_past e a us n (heads_by e a true false t l) f
      by_look (nobody n l) false t f = finds_past e a us n (heads_by e a false false t l) f
      by_look (leader first rest h n l) true t f =
          finds_here e a us (first ∷ rest) n (group_keyed s given e first rest (group_key s a.event) (own (group_key s a.event) first rest h) ∙ t) (heads_by e a true true t l)
          (sym h ∙ ap held (sym (key_equal s.group_by e (group_key s a.event) t)))
      by_look (leader first rest h n l) false t f =
          finds_other e a us (first ∷ rest) n (group_keyed s given e first rest (group_key s a.event) (own (group_key s a.event) first rest h) ∙ t) (heads_by e a false true t l) f

  pub led_apart : (us : List Arrival) → AreRising us → AreApart (map (group_with s given) (led s held us))
  led_apart [] r = tt
  led_apart (a ∷ us) r = by_look (look s held a) (led_apart us r.1)
    where
      alone : (first : Arrival) (rest : List Arrival) → held (group_key s a.event) ≡ first ∷ rest → leads (held (group_key s a.event)) a ≡ true → group_of (key_datum s.group_by first.event) (map (group_with s given) (led s held us)) ≡ None
      alone first rest h l =
          let same : held (group_key s first.event) ≡ first ∷ rest = ap held (own (group_key s a.event) first rest h) ∙ h in
          let here : first.place ≡ a.place = eqb-true first.place a.place (ap (λ m. leads m a) (sym h) ∙ l) in
          let above : AreAbove first.place us = subst (λ n. AreAbove n us) (sym here) r.0 in
          find_held first.event us
          ∙ ap (λ m. cond (list_any (λ b. same_key (group_key s first.event) (group_key s b.event) && leads m b) us) (Some (group_with s given (held (group_key s first.event)))) None) same
          ∙ ap (λ b. cond b (Some (group_with s given (held (group_key s first.event)))) None) (none_above (λ b. same_key (group_key s first.event) (group_key s b.event)) first rest us above)

      by_look : Look s held a → AreApart (map (group_with s given) (led s held us)) → AreApart (map (group_with s given) (led s held (a ∷ us)))
      by_look (nobody n l) f = subst (λ m. AreApart (map (group_with s given) (m ++ led s held us))) (sym n) f
      by_look (leader first rest h n l) f = subst (λ m. AreApart (map (group_with s given) (m ++ led s held us))) (sym n) (alone first rest h l, f)

  -- the groups without that of an event's key
  pub led_without : (e : Event) (left : Key → List Arrival) (n : ℕ) (us : List Arrival) → AreBelow n us →
      ((a : Arrival) → a.place < n → same_key (group_key s e) (group_key s a.event) ≡ true → led_by a (left (group_key s a.event)) ≡ []) →
      ((k : Key) → same_key (group_key s e) k ≡ false → left k ≡ held k) →
      map (group_with s given) (led s left us) ≡ filter (λ g. not (has_key (key_datum s.group_by e) g)) (map (group_with s given) (led s held us))
  led_without e left n [] b on off = refl
  led_without e left n (a ∷ us) b on off = by_look (look s held a) (same_key (group_key s e) (group_key s a.event)) refl (led_without e left n us b.1 on off)
    where
      put_in : (l m : List (List Arrival)) → led_by a (left (group_key s a.event)) ≡ l → led_by a (held (group_key s a.event)) ≡ m →
          map (group_with s given) (l ++ led s left us) ≡ filter (λ g. not (has_key (key_datum s.group_by e) g)) (map (group_with s given) (m ++ led s held us)) →
          map (group_with s given) (led s left (a ∷ us)) ≡ filter (λ g. not (has_key (key_datum s.group_by e) g)) (map (group_with s given) (led s held (a ∷ us)))
      put_in l m h k f =
          ap (λ x. map (group_with s given) (x ++ led s left us)) h ∙ f
          ∙ ap (λ x. filter (λ g. not (has_key (key_datum s.group_by e) g)) (map (group_with s given) (x ++ led s held us))) (sym k)

      tested : (l : List Arrival) (b : Bool) → has_key (key_datum s.group_by e) (group_with s given l) ≡ b →
          cond (not b) (group_with s given l ∷ filter (λ g. not (has_key (key_datum s.group_by e) g)) (map (group_with s given) (led s held us))) (filter (λ g. not (has_key (key_datum s.group_by e) g)) (map (group_with s given) (led s held us)))
          ≡ filter (λ g. not (has_key (key_datum s.group_by e) g)) (group_with s given l ∷ map (group_with s given) (led s held us))
      tested l b k =
          ap (λ c. cond (not c) (group_with s given l ∷ filter (λ g. not (has_key (key_datum s.group_by e) g)) (map (group_with s given) (led s held us))) (filter (λ g. not (has_key (key_datum s.group_by e) g)) (map (group_with s given) (led s held us)))) (sym k)

      by_look : Look s held a → (b : Bool) → same_key (group_key s e) (group_key s a.event) ≡ b →
          map (group_with s given) (led s left us) ≡ filter (λ g. not (has_key (key_datum s.group_by e) g)) (map (group_with s given) (led s held us)) →
          map (group_with s given) (led s left (a ∷ us)) ≡ filter (λ g. not (has_key (key_datum s.group_by e) g)) (map (group_with s given) (led s held (a ∷ us)))
      by_look (nobody m l) true t f = put_in [] [] (on a b.0 t) m f
      by_look (nobody m l) false t f = put_in [] [] (ap (λ x. led_by a x) (off (group_key s a.event) t) ∙ m) m f
      by_look (leader first rest h m l) true t f =
          put_in [] ((first ∷ rest) ∷ []) (on a b.0 t) m
          (f ∙ tested (first ∷ rest) true (group_keyed s given e first rest (group_key s a.event) (own (group_key s a.event) first rest h) ∙ t))
      by_look (leader first rest h m l) false t f =
          put_in ((first ∷ rest) ∷ []) ((first ∷ rest) ∷ []) (ap (λ x. led_by a x) (off (group_key s a.event) t) ∙ m) m
          (ap (λ x. group_with s given (first ∷ rest) ∷ x) f ∙ tested (first ∷ rest) false (group_keyed s given e first rest (group_key s a.event) (own (group_key s a.event) first rest h) ∙ t))

  -- the groups, of which that of an event's key has one event more
  pub led_with : (e : Event) (more : Key → List Arrival) (first : Arrival) (rest rest' : List Arrival) (f : Group → Group) (us : List Arrival) →
      held (group_key s e) ≡ first ∷ rest → more (group_key s e) ≡ first ∷ rest' → group_with s given (first ∷ rest') ≡ f (group_with s given (first ∷ rest)) →
      ((k : Key) → same_key (group_key s e) k ≡ false → more k ≡ held k) →
      map (group_with s given) (led s more us) ≡ map (λ g. cond (has_key (key_datum s.group_by e) g) (f g) g) (map (group_with s given) (led s held us))
  led_with e more first rest rest' f [] h m w off = refl
  led_with e more first rest rest' f (a ∷ us) h m w off = by_key (same_key (group_key s e) (group_key s a.event)) refl (led_with e more first rest rest' f us h m w off)
    where
      put_in : (l m : List (List Arrival)) → led_by a (more (group_key s a.event)) ≡ l → led_by a (held (group_key s a.event)) ≡ m →
          map (group_with s given) (l ++ led s more us) ≡ map (λ g. cond (has_key (key_datum s.group_by e) g) (f g) g) (map (group_with s given) (m ++ led s held us)) →
          map (group_with s given) (led s more (a ∷ us)) ≡ map (λ g. cond (has_key (key_datum s.group_by e) g) (f g) g) (map (group_with s given) (led s held (a ∷ us)))
      put_in l m h k q =
          ap (λ x. map (group_with s given) (x ++ led s more us)) h ∙ q
          ∙ ap (λ x. map (λ g. cond (has_key (key_datum s.group_by e) g) (f g) g) (map (group_with s given) (x ++ led s held us))) (sym k)

      tested : (l : List Arrival) (b : Bool) → has_key (key_datum s.group_by e) (group_with s given l) ≡ b →
          cond b (f (group_with s given l)) (group_with s given l) ∷ map (λ g. cond (has_key (key_datum s.group_by e) g) (f g) g) (map (group_with s given) (led s held us))
          ≡ map (λ g. cond (has_key (key_datum s.group_by e) g) (f g) g) (group_with s given l ∷ map (group_with s given) (led s held us))
      tested l b k =
          ap (λ c. cond c (f (group_with s given l)) (group_with s given l) ∷ map (λ g. cond (has_key (key_datum s.group_by e) g) (f g) g) (map (group_with s given) (led s held us))) (sym k)

      by_look : Look s held a → same_key (group_key s e) (group_key s a.event) ≡ false →
          map (group_with s given) (led s more us) ≡ map (λ g. cond (has_key (key_datum s.group_by e) g) (f g) g) (map (group_with s given) (led s held us)) →
          map (group_with s given) (led s more (a ∷ us)) ≡ map (λ g. cond (has_key (key_datum s.group_by e) g) (f g) g) (map (group_with s given) (led s held (a ∷ us)))
      by_look (nobody n l) t q = put_in [] [] (ap (λ x. led_by a x) (off (group_key s a.event) t) ∙ n) n q
      by_look (leader other others o n l) t q =
          put_in ((other ∷ others) ∷ []) ((other ∷ others) ∷ []) (ap (λ x. led_by a x) (off (group_key s a.event) t) ∙ n) n
          (ap (λ x. group_with s given (other ∷ others) ∷ x) q ∙ tested (other ∷ others) false (group_keyed s given e other others (group_key s a.event) (own (group_key s a.event) other others o) ∙ t))

      by_place : (b : Bool) → (first.place == a.place) ≡ b → same_key (group_key s e) (group_key s a.event) ≡ true → held (group_key s a.event) ≡ first ∷ rest → more (group_key s a.event) ≡ first ∷ rest' →
          map (group_with s given) (led s more us) ≡ map (λ g. cond (has_key (key_datum s.group_by e) g) (f g) g) (map (group_with s given) (led s held us)) →
          map (group_with s given) (led s more (a ∷ us)) ≡ map (λ g. cond (has_key (key_datum s.group_by e) g) (f g) g) (map (group_with s given) (led s held (a ∷ us)))
      by_place true p t o n q =
          put_in ((first ∷ rest') ∷ []) ((first ∷ rest) ∷ []) (ap (λ x. led_by a x) n ∙ ap (λ b. cond b ((first ∷ rest') ∷ []) []) p) (ap (λ x. led_by a x) o ∙ ap (λ b. cond b ((first ∷ rest) ∷ []) []) p)
          (ap₂ (λ g gs. g ∷ gs) w q ∙ tested (first ∷ rest) true (group_keyed s given e first rest (group_key s a.event) (own (group_key s a.event) first rest o) ∙ t))
      by_place false p t o n q =
          put_in [] [] (ap (λ x. led_by a x) n ∙ ap (λ b. cond b ((first ∷ rest') ∷ []) []) p) (ap (λ x. led_by a x) o ∙ ap (λ b. cond b ((first ∷ rest) ∷ []) []) p) q

      by_key : (b : Bool) → same_key (group_key s e) (group_key s a.event) ≡ b →
          map (group_with s given) (led s more us) ≡ map (λ g. cond (has_key (key_datum s.group_by e) g) (f g) g) (map (group_with s given) (led s held us)) →
          map (group_with s given) (led s more (a ∷ us)) ≡ map (λ g. cond (has_key (key_datum s.group_by e) g) (f g) g) (map (group_with s given) (led s held (a ∷ us)))
      by_key true t q =
          let one : group_key s a.event ≡ group_key s e = sym (key_equal s.group_by e (group_key s a.event) t) in
          by_place (first.place == a.place) refl t (ap held one ∙ h) (ap more one ∙ m) q
      by_key false t q = by_look (look s held a) t q

-- the groups without those whose last events are old
old_by_last : (s : Settings) (now : ℕ) (first : Arrival) (rest : List Arrival) → nat_le s.expire_after_ms (now - last_moment (first ∷ rest)) ≡ is_old s now (first ∷ rest)
old_by_last s now first [] = refl
old_by_last s now first (next ∷ rest) = old_by_last s now next rest

module _ (s : Settings) (given : List Input) (held : Key → List Arrival) (now : ℕ) where
  -- what is held of a key once what is old is put out
  abbrev young : Key → List Arrival
  young k = cond (is_old s now (held k)) [] (held k)

  old_at : (a first : Arrival) (rest : List Arrival) → held (group_key s a.event) ≡ first ∷ rest → is_stale s.expire_after_ms now (group_with s given (first ∷ rest)) ≡ is_old s now (held (group_key s a.event))
  old_at a first rest h = old_by_last s now first rest ∙ ap (λ l. is_old s now l) (sym h)

  pub led_young : (us : List Arrival) → map (group_with s given) (led s young us) ≡ filter (λ g. not (is_stale s.expire_after_ms now g)) (map (group_with s given) (led s held us))
  led_young [] = refl
  led_young (a ∷ us) = by_look (look s held a) (is_old s now (held (group_key s a.event))) refl (led_young us)
    where
      put_in : (l m : List (List Arrival)) → led_by a (young (group_key s a.event)) ≡ l → led_by a (held (group_key s a.event)) ≡ m →
          map (group_with s given) (l ++ led s young us) ≡ filter (λ g. not (is_stale s.expire_after_ms now g)) (map (group_with s given) (m ++ led s held us)) →
          map (group_with s given) (led s young (a ∷ us)) ≡ filter (λ g. not (is_stale s.expire_after_ms now g)) (map (group_with s given) (led s held (a ∷ us)))
      put_in l m h k f =
          ap (λ x. map (group_with s given) (x ++ led s young us)) h ∙ f
          ∙ ap (λ x. filter (λ g. not (is_stale s.expire_after_ms now g)) (map (group_with s given) (x ++ led s held us))) (sym k)

      tested : (l : List Arrival) (b : Bool) → is_stale s.expire_after_ms now (group_with s given l) ≡ b →
          cond (not b) (group_with s given l ∷ filter (λ g. not (is_stale s.expire_after_ms now g)) (map (group_with s given) (led s held us))) (filter (λ g. not (is_stale s.expire_after_ms now g)) (map (group_with s given) (led s held us)))
          ≡ filter (λ g. not (is_stale s.expire_after_ms now g)) (group_with s given l ∷ map (group_with s given) (led s held us))
      tested l b k =
          ap (λ c. cond (not c) (group_with s given l ∷ filter (λ g. not (is_stale s.expire_after_ms now g)) (map (group_with s given) (led s held us))) (filter (λ g. not (is_stale s.expire_after_ms now g)) (map (group_with s given) (led s held us)))) (sym k)

      kept : (b : Bool) → is_old s now (held (group_key s a.event)) ≡ b → led_by a (young (group_key s a.event)) ≡ led_by a (cond b [] (held (group_key s a.event)))
      kept b t = ap (λ c. led_by a (cond c [] (held (group_key s a.event)))) t

      by_look : Look s held a → (b : Bool) → is_old s now (held (group_key s a.event)) ≡ b →
          map (group_with s given) (led s young us) ≡ filter (λ g. not (is_stale s.expire_after_ms now g)) (map (group_with s given) (led s held us)) →
          map (group_with s given) (led s young (a ∷ us)) ≡ filter (λ g. not (is_stale s.expire_after_ms now g)) (map (group_with s given) (led s held (a ∷ us)))
      by_look (nobody m l) true t f = put_in [] [] (kept true t) m f
      by_look (nobody m l) false t f = put_in [] [] (kept false t ∙ m) m f
      by_look (leader first rest h m l) true t f = put_in [] ((first ∷ rest) ∷ []) (kept true t) m (f ∙ tested (first ∷ rest) true (old_at a first rest h ∙ t))
      by_look (leader first rest h m l) false t f =
          put_in ((first ∷ rest) ∷ []) ((first ∷ rest) ∷ []) (kept false t ∙ m) m (ap (λ x. group_with s given (first ∷ rest) ∷ x) f ∙ tested (first ∷ rest) false (old_at a first rest h ∙ t))

  -- and those, as they are put out
  pub led_old : (us : List Arrival) → outputs_of (filter (is_stale s.expire_after_ms now) (map (group_with s given) (led s held us))) ≡ map (output_with s given) (filter (is_old s now) (led s held us))
  led_old [] = refl
  led_old (a ∷ us) = by_look (look s held a) (is_old s now (held (group_key s a.event))) refl (led_old us)
    where
      put_in : (m : List (List Arrival)) → led_by a (held (group_key s a.event)) ≡ m →
          outputs_of (filter (is_stale s.expire_after_ms now) (map (group_with s given) (m ++ led s held us))) ≡ map (output_with s given) (filter (is_old s now) (m ++ led s held us)) →
          outputs_of (filter (is_stale s.expire_after_ms now) (map (group_with s given) (led s held (a ∷ us)))) ≡ map (output_with s given) (filter (is_old s now) (led s held (a ∷ us)))
      put_in m k f =
          subst (λ x. outputs_of (filter (is_stale s.expire_after_ms now) (map (group_with s given) (x ++ led s held us))) ≡ map (output_with s given) (filter (is_old s now) (x ++ led s held us))) (sym k) f

      by_test : (first : Arrival) (rest : List Arrival) (b : Bool) → is_stale s.expire_after_ms now (group_with s given (first ∷ rest)) ≡ b → is_old s now (first ∷ rest) ≡ b →
          outputs_of (filter (is_stale s.expire_after_ms now) (map (group_with s given) (led s held us))) ≡ map (output_with s given) (filter (is_old s now) (led s held us)) →
          outputs_of (filter (is_stale s.expire_after_ms now) (map (group_with s given) ((first ∷ rest) ∷ led s held us))) ≡ map (output_with s given) (filter (is_old s now) ((first ∷ rest) ∷ led s held us))
      by_test first rest b t u f =
          ap (λ c. outputs_of (cond c (group_with s given (first ∷ rest) ∷ filter (is_stale s.expire_after_ms now) (map (group_with s given) (led s held us))) (filter (is_stale s.expire_after_ms now) (map (group_with s given) (led s held us))))) t
          ∙ either b f
          ∙ ap (λ c. map (output_with s given) (cond c ((first ∷ rest) ∷ filter (is_old s now) (led s held us)) (filter (is_old s now) (led s held us)))) (sym u)
        where
          either : (c : Bool) → outputs_of (filter (is_stale s.expire_after_ms now) (map (group_with s given) (led s held us))) ≡ map (output_with s given) (filter (is_old s now) (led s held us)) →
              outputs_of (cond c (group_with s given (first ∷ rest) ∷ filter (is_stale s.expire_after_ms now) (map (group_with s given) (led s held us))) (filter (is_stale s.expire_after_ms now) (map (group_with s given) (led s held us))))
              ≡ map (output_with s given) (cond c ((first ∷ rest) ∷ filter (is_old s now) (led s held us)) (filter (is_old s now) (led s held us)))
          either true g = ap (λ x. output_with s given (first ∷ rest) ∷ x) g
          either false g = g

      by_look : Look s held a → (b : Bool) → is_old s now (held (group_key s a.event)) ≡ b →
          outputs_of (filter (is_stale s.expire_after_ms now) (map (group_with s given) (led s held us))) ≡ map (output_with s given) (filter (is_old s now) (led s held us)) →
          outputs_of (filter (is_stale s.expire_after_ms now) (map (group_with s given) (led s held (a ∷ us)))) ≡ map (output_with s given) (filter (is_old s now) (led s held (a ∷ us)))
      by_look (nobody m l) b t f = put_in [] m f
      by_look (leader first rest h m l) b t f =
          put_in ((first ∷ rest) ∷ []) m (by_test first rest b (old_at a first rest h ∙ t) (ap (λ x. is_old s now x) (sym h) ∙ t) f)
