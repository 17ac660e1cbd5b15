-- An event that comes.
use Rattle.std.proofs.Common.{◌≡◌, ℕ, suc, ◌<◌, Bool, true, false, not, cond, ◌==◌, Option, Some, None, List, [], ◌∷◌, ◌++◌, length, map, refl, sym, ◌∙◌, ap, ap₂, subst, append-nil}
use Rattle.std.specs.Prelude.{◌&&◌, filter, is_some}
use Rattle.std.specs.List.{list_any, flat_map}
use Rattle.std.proofs.lemmas.List.{map-append}
use Rattle.std.proofs.lemmas.List.Concat.{flat_map-append}
use Rattle.vx_value.specs.Datum.{Datum, NamedDatum}
use Rattle.vx_value.specs.declared.event.Event.{Event}
use Rattle.vx_ledger.specs.Copies.{Copy}
use Rattle.vx_transform.specs.declared.output.Output.{Output}
use Rattle.vx_condition.specs.Steps.{Step, comes, ticks, ends}
use Rattle.vx_condition.specs.Picking.{Key, same_key}
use Rattle.vx_condition.specs.Merging.{merged, merged_with, merged_onto}
use Rattle.vx_condition.specs.Reducing.{Settings, Arrival, arrivals, group_key, group_event, before_it, held_of, led_by, groups, unless_empty, put_out}
use Rattle.vx_reduce.specs.declared.group.Group.{Group}
use Rattle.vx_reduce.specs.Keys.{key_datum}
use Rattle.vx_reduce.specs.Groups.{passed, joined_group, new_group, has_key, group_of, changed, without, output_found, copies_found}
use Rattle.vx_reduce.specs.Merges.{fields_found, merged_event}
use Rattle.vx_reduce.specs.Answers.{groups_after, outputs_after}
use Rattle.vx_reduce.proofs.Indexed.{both_true}
use Rattle.vx_reduce.specs.Inputs.{Input, steps_of, copies_at, group_copies, group_parcel, group_with, output_with, outputs_at, first_key, last_moment}
use Rattle.vx_reduce.proofs.KeyLaws.{key_equal, key_own}
use Rattle.vx_reduce.proofs.HeldLaws.{arrival_at, AreBelow, any_among, first_led, first_own, arrivals_below, arrivals_rise, held_below}
use Rattle.vx_reduce.proofs.Leading.{leads, led, found_in, no_leader, find_held, led_apart, led_without, led_with, number_own, number_apart, number_under, AreApart}
use Rattle.vx_reduce.proofs.GroupLists.{none_keyed, without_apart, changed_apart, length-steps, group_kept, output_kept, groups_kept, led_below, copies_kept, copies_more, last_more, merged_more}

-- ---- before it comes
-- the group of a key is that of the events that are held of it
pub found : (s : Settings) (given : List Input) (before : List Step) (e : Event) → group_of (key_datum s.group_by e) (map (group_with s given) (groups s before)) ≡ found_in s given (held_of s before (group_key s e))
found s given before e = by_held (held_of s before (group_key s e)) refl
  where
    by_held : (l : List Arrival) → held_of s before (group_key s e) ≡ l → group_of (key_datum s.group_by e) (map (group_with s given) (groups s before)) ≡ found_in s given l
    by_held [] h =
        find_held s given (held_of s before) (first_own s before) e (arrivals before)
        ∙ ap (λ l. cond (list_any (λ a. same_key (group_key s e) (group_key s a.event) && leads l a) (arrivals before)) (Some (group_with s given (held_of s before (group_key s e)))) None) h
        ∙ ap (λ b. cond b (Some (group_with s given (held_of s before (group_key s e)))) None) (no_leader (λ a. same_key (group_key s e) (group_key s a.event)) (arrivals before))
    by_held (a ∷ rest) h =
        let first = first_led s before (group_key s e) a rest h in
        let own : same_key (group_key s e) (group_key s a.event) ≡ true = ap (λ k. same_key (group_key s e) k) first.key ∙ key_own s.group_by e in
        let here : leads (held_of s before (group_key s e)) a ≡ true = ap (λ l. leads l a) h ∙ number_own a.place in
        find_held s given (held_of s before) (first_own s before) e (arrivals before)
        ∙ ap (λ b. cond b (Some (group_with s given (held_of s before (group_key s e)))) None)
        (any_among (λ b. same_key (group_key s e) (group_key s b.event) && leads (held_of s before (group_key s e)) b) a (arrivals before) first.among
        (both_true (same_key (group_key s e) (group_key s a.event)) (leads (held_of s before (group_key s e)) a) own here))
        ∙ ap (λ l. Some (group_with s given l)) h

pub groups_apart : (s : Settings) (given : List Input) (before : List Step) → AreApart (map (group_with s given) (groups s before))
groups_apart s given before = led_apart s given (held_of s before) (first_own s before) (arrivals before) (arrivals_rise before)

-- they are the same groups whatever comes next
pub groups_stay : (s : Settings) (x : Input) (given : List Input) → map (group_with s (x ∷ given)) (groups s (steps_of given)) ≡ map (group_with s given) (groups s (steps_of given))
groups_stay s x given =
    groups_kept s x given (groups s (steps_of given))
    (led_below s (held_of s (steps_of given)) (length given) (arrivals (steps_of given))
    (λ k. subst (λ n. AreBelow n (held_of s (steps_of given) k)) (length-steps given) (held_below s (steps_of given) k)))

module _ (s : Settings) (given : List Input) (e : Event) (now : ℕ) (copies : List Copy) where
  abbrev input : Input
  input = record { step = comes e now; copies = copies }

  abbrev it : Arrival
  it = arrival_at e now (steps_of given)

  abbrev known : List Group
  known = map (group_with s given) (groups s (steps_of given))

  abbrev next : List Group
  next = map (group_with s (input ∷ given)) (groups s (comes e now ∷ steps_of given))

  -- what is held of a key then
  abbrev held_then : Key → List Arrival
  held_then k = held_of s (comes e now ∷ steps_of given) k

  own_copies : copies_at (input ∷ given) (length (steps_of given)) ≡ copies
  own_copies = ap (λ n. cond (length given == n) copies (copies_at given n)) (length-steps given) ∙ ap (λ b. cond b copies (copies_at given (length given))) (number_own (length given))

  held_below_it : (l : List Arrival) → held_of s (steps_of given) (group_key s e) ≡ l → AreBelow (length given) l
  held_below_it l h = subst (λ m. AreBelow (length given) m) h (subst (λ n. AreBelow n (held_of s (steps_of given) (group_key s e))) (length-steps given) (held_below s (steps_of given) (group_key s e)))

  -- what is held of a key, by whether it is the event's, and whether that ends or starts a group
  then_own : (k : Key) (en st : Bool) → same_key (group_key s e) k ≡ true → s.ends_when e ≡ en → s.starts_when e ≡ st → held_then k ≡ cond en [] (cond st [] (held_of s (steps_of given) k) ++ it ∷ [])
  then_own k en st t u v =
      ap (λ b. cond b (cond (s.ends_when e) [] (before_it s e (held_of s (steps_of given) k) ++ it ∷ [])) (held_of s (steps_of given) k)) t
      ∙ ap₂ (λ c d. cond c [] (cond d [] (held_of s (steps_of given) k) ++ it ∷ [])) u v

  then_other : (k : Key) → same_key (group_key s e) k ≡ false → held_then k ≡ held_of s (steps_of given) k
  then_other k t = ap (λ b. cond b (cond (s.ends_when e) [] (before_it s e (held_of s (steps_of given) k) ++ it ∷ [])) (held_of s (steps_of given) k)) t

  -- the groups of the events before it, and that of which it is the first
  next_by_it : next ≡ map (group_with s (input ∷ given)) (led s held_then (arrivals (steps_of given))) ++ map (group_with s (input ∷ given)) (led_by it (held_then (group_key s e)))
  next_by_it =
      ap (λ gs. map (group_with s (input ∷ given)) gs)
      (flat_map-append (λ (a : Arrival). led_by a (held_then (group_key s a.event))) (arrivals (steps_of given)) (it ∷ []) ∙ ap (λ l. led s held_then (arrivals (steps_of given)) ++ l) (append-nil (led_by it (held_then (group_key s e)))))
      ∙ map-append (group_with s (input ∷ given)) (led s held_then (arrivals (steps_of given))) (led_by it (held_then (group_key s e)))

  -- the others, where the event's key has none of the earlier ones any more
  others_left : ((a : Arrival) → a.place < length (steps_of given) → same_key (group_key s e) (group_key s a.event) ≡ true → led_by a (held_then (group_key s a.event)) ≡ []) →
      map (group_with s (input ∷ given)) (led s held_then (arrivals (steps_of given))) ≡ filter (λ g. not (has_key (key_datum s.group_by e) g)) known
  others_left on =
      led_without s (input ∷ given) (held_of s (steps_of given)) (first_own s (steps_of given)) e held_then (length (steps_of given)) (arrivals (steps_of given)) (arrivals_below (steps_of given)) on then_other
      ∙ ap (λ gs. filter (λ g. not (has_key (key_datum s.group_by e) g)) gs) (groups_stay s input given)

  -- it ends the group
  next_ended : ((k : Key) → same_key (group_key s e) k ≡ true → held_then k ≡ []) → next ≡ filter (λ g. not (has_key (key_datum s.group_by e) g)) known
  next_ended none =
      next_by_it
      ∙ ap₂ (λ xs ys. xs ++ ys) (others_left (λ a b t. ap (λ l. led_by a l) (none (group_key s a.event) t)))
      (ap (λ l. map (group_with s (input ∷ given)) (led_by it l)) (none (group_key s e) (key_own s.group_by e)))
      ∙ append-nil (filter (λ g. not (has_key (key_datum s.group_by e) g)) known)

  -- the group of it alone
  alone : group_with s (input ∷ given) (it ∷ []) ≡ new_group (key_datum s.group_by e) (merged s.group_by s.strategies (e ∷ [])) copies now
  alone =
      let with_copies : List Copy → Group = λ cs. new_group (key_datum s.group_by e) (merged s.group_by s.strategies (e ∷ [])) cs now in
      ap with_copies (append-nil (copies_at (input ∷ given) (length (steps_of given))) ∙ own_copies)

  alone_output : output_with s (input ∷ given) (it ∷ []) ≡ passed (record { event = merged s.group_by s.strategies (e ∷ []); finalizers = copies })
  alone_output =
      let with_copies : List Copy → Output = λ cs. passed (record { event = merged s.group_by s.strategies (e ∷ []); finalizers = cs }) in
      ap with_copies (append-nil (copies_at (input ∷ given) (length (steps_of given))) ∙ own_copies)

  -- it begins a group
  next_fresh : ((k : Key) → same_key (group_key s e) k ≡ true → held_then k ≡ it ∷ []) → next ≡ filter (λ g. not (has_key (key_datum s.group_by e) g)) known ++ new_group (key_datum s.group_by e) (merged s.group_by s.strategies (e ∷ [])) copies now ∷ []
  next_fresh one =
      next_by_it
      ∙ ap₂ (λ xs ys. xs ++ ys) (others_left (λ a b t. ap (λ l. led_by a l) (one (group_key s a.event) t) ∙ ap (λ c. cond c ((it ∷ []) ∷ []) []) (number_apart (length (steps_of given)) a.place b)))
      (ap (λ l. map (group_with s (input ∷ given)) (led_by it l)) (one (group_key s e) (key_own s.group_by e))
      ∙ ap (λ c. map (group_with s (input ∷ given)) (cond c ((it ∷ []) ∷ []) [])) (number_own (length (steps_of given)))
      ∙ ap (λ g. g ∷ []) alone)

  -- the group of events with it behind them
  longer : (first : Arrival) (rest : List Arrival) →
      group_with s (input ∷ given) (first ∷ (rest ++ it ∷ [])) ≡ joined_group (group_event s (first ∷ (rest ++ it ∷ []))) copies now (group_with s (input ∷ given) (first ∷ rest))
  longer first rest =
      let with_parts : ℕ → List Copy → Group = λ n cs. record { key = key_datum s.group_by first.event; moment = n; parcel = Some (record { event = group_event s (first ∷ (rest ++ it ∷ [])); finalizers = cs }) } in
      ap₂ with_parts (last_more (first ∷ rest) it) (copies_more (input ∷ given) (first ∷ rest) it ∙ ap (λ cs. group_copies (input ∷ given) (first ∷ rest) ++ cs) own_copies)

  longer_event : (l : List Arrival) → merged_event s.group_by s.strategies (merged_onto s.group_by s.strategies [] (map (λ (a : Arrival). a.event) l)) e ≡ group_event s (l ++ it ∷ [])
  longer_event l =
      let with_fields : List NamedDatum → Event = λ fs. record { fields = fs } in
      ap with_fields (sym (merged_more s.group_by s.strategies [] l it))

  first_apart : (first : Arrival) (rest : List Arrival) → held_of s (steps_of given) (group_key s e) ≡ first ∷ rest → (first.place == length (steps_of given)) ≡ false
  first_apart first rest h =
      let below : AreBelow (length (steps_of given)) (first ∷ rest) = subst (λ m. AreBelow (length (steps_of given)) m) h (held_below s (steps_of given) (group_key s e)) in
      number_under first.place (length (steps_of given)) below.0

  -- it joins the group
  next_longer : (first : Arrival) (rest : List Arrival) → held_of s (steps_of given) (group_key s e) ≡ first ∷ rest → held_then (group_key s e) ≡ first ∷ (rest ++ it ∷ []) →
      next ≡ map (λ g. cond (has_key (key_datum s.group_by e) g) (joined_group (group_event s (first ∷ (rest ++ it ∷ []))) copies now g) g) known
  next_longer first rest h m =
      next_by_it
      ∙ ap₂ (λ xs ys. xs ++ ys)
      (led_with s (input ∷ given) (held_of s (steps_of given)) (first_own s (steps_of given)) e held_then first rest (rest ++ it ∷ []) (joined_group (group_event s (first ∷ (rest ++ it ∷ []))) copies now) (arrivals (steps_of given)) h m (longer first rest) then_other
      ∙ ap (λ gs. map (λ g. cond (has_key (key_datum s.group_by e) g) (joined_group (group_event s (first ∷ (rest ++ it ∷ []))) copies now g) g) gs) (groups_stay s input given))
      (ap (λ l. map (group_with s (input ∷ given)) (led_by it l)) m
      ∙ ap (λ c. map (group_with s (input ∷ given)) (cond c ((first ∷ (rest ++ it ∷ [])) ∷ []) [])) (first_apart first rest h))
      ∙ append-nil (map (λ g. cond (has_key (key_datum s.group_by e) g) (joined_group (group_event s (first ∷ (rest ++ it ∷ []))) copies now g) g) known)

  -- ---- what becomes of the groups that are held
  abbrev key : Datum
  key = key_datum s.group_by e

  abbrev event_with : List NamedDatum → Event
  event_with fields = merged_event s.group_by s.strategies fields e

  -- the groups then, by the group of the key
  abbrev Becomes : Bool → Bool → Type 0
  Becomes st en = groups_after (is_some (group_of key known)) st en key (event_with (cond st [] (fields_found (group_of key known)))) copies now known ≡ next

  abbrev group_then : List Arrival → Bool → Bool → List Group
  group_then l st en = groups_after (is_some (found_in s given l)) st en key (event_with (cond st [] (fields_found (found_in s given l)))) copies now known

  by_group : (l : List Arrival) → held_of s (steps_of given) (group_key s e) ≡ l → (st en : Bool) → group_then l st en ≡ next → Becomes st en
  by_group l h st en f =
      ap (λ o. groups_after (is_some o) st en key (event_with (cond st [] (fields_found o))) copies now known) (found s given (steps_of given) e ∙ ap (λ m. found_in s given m) h) ∙ f

  ended_then : (st : Bool) → s.ends_when e ≡ true → s.starts_when e ≡ st → next ≡ filter (λ g. not (has_key key g)) known
  ended_then st u v = next_ended (λ k t. then_own k true st t u v)

  fresh_then : s.ends_when e ≡ false → s.starts_when e ≡ true → next ≡ filter (λ g. not (has_key key g)) known ++ new_group key (merged s.group_by s.strategies (e ∷ [])) copies now ∷ []
  fresh_then u v = next_fresh (λ k t. then_own k false true t u v)

  first_then : held_of s (steps_of given) (group_key s e) ≡ [] → s.ends_when e ≡ false → s.starts_when e ≡ false → next ≡ filter (λ g. not (has_key key g)) known ++ new_group key (merged s.group_by s.strategies (e ∷ [])) copies now ∷ []
  first_then h u v =
      next_fresh (λ k t. then_own k false false t u v ∙ ap (λ l. l ++ it ∷ []) (ap (λ q. held_of s (steps_of given) q) (sym (key_equal s.group_by e k t)) ∙ h))

  longer_then : (first : Arrival) (rest : List Arrival) → held_of s (steps_of given) (group_key s e) ≡ first ∷ rest → s.ends_when e ≡ false → s.starts_when e ≡ false →
      next ≡ map (λ g. cond (has_key key g) (joined_group (group_event s (first ∷ (rest ++ it ∷ []))) copies now g) g) known
  longer_then first rest h u v =
      next_longer first rest h (then_own (group_key s e) false false (key_own s.group_by e) u v ∙ ap (λ l. l ++ it ∷ []) h)

  no_group : held_of s (steps_of given) (group_key s e) ≡ [] → filter (λ g. not (has_key key g)) known ≡ known
  no_group h = none_keyed key known (found s given (steps_of given) e ∙ ap (λ m. found_in s given m) h)

  without_group : without key known ≡ filter (λ g. not (has_key key g)) known
  without_group = without_apart key known (groups_apart s given (steps_of given))

  abbrev alone_group : Group
  alone_group = new_group key (merged s.group_by s.strategies (e ∷ [])) copies now

  came_by : (l : List Arrival) → held_of s (steps_of given) (group_key s e) ≡ l → (st en : Bool) → s.starts_when e ≡ st → s.ends_when e ≡ en → group_then l st en ≡ next
  came_by [] h true true v u = sym (ended_then true u v ∙ no_group h)
  came_by [] h false true v u = sym (ended_then false u v ∙ no_group h)
  came_by [] h true false v u = sym (fresh_then u v ∙ ap (λ gs. gs ++ alone_group ∷ []) (no_group h))
  came_by [] h false false v u = sym (first_then h u v ∙ ap (λ gs. gs ++ alone_group ∷ []) (no_group h))
  came_by (a ∷ rest) h true true v u = without_group ∙ sym (ended_then true u v)
  came_by (a ∷ rest) h false true v u = without_group ∙ sym (ended_then false u v)
  came_by (a ∷ rest) h true false v u = ap (λ gs. gs ++ alone_group ∷ []) without_group ∙ sym (fresh_then u v)
  came_by (a ∷ rest) h false false v u =
      ap (λ w. changed key (joined_group w copies now) known) (longer_event (a ∷ rest))
      ∙ changed_apart key (joined_group (group_event s (a ∷ (rest ++ it ∷ []))) copies now) known (groups_apart s given (steps_of given))
      ∙ sym (longer_then a rest h u v)

  -- the groups that reduce makes of those that it holds are those of the events that are held then
  pub came : (st en : Bool) → s.starts_when e ≡ st → s.ends_when e ≡ en →
      groups_after (is_some (group_of (key_datum s.group_by e) (map (group_with s given) (groups s (steps_of given))))) st en (key_datum s.group_by e)
      (merged_event s.group_by s.strategies (cond st [] (fields_found (group_of (key_datum s.group_by e) (map (group_with s given) (groups s (steps_of given)))))) e) copies now (map (group_with s given) (groups s (steps_of given)))
      ≡ map (group_with s (record { step = comes e now; copies = copies } ∷ given)) (groups s (comes e now ∷ steps_of given))
  came st en v u =
      by_group (held_of s (steps_of given) (group_key s e)) refl st en (came_by (held_of s (steps_of given) (group_key s e)) refl st en v u)

  -- ---- what is put out
  abbrev put_then : List Arrival → Bool → Bool → List (List Arrival)
  put_then l st en = cond st (unless_empty l) [] ++ cond en ((cond st [] l ++ it ∷ []) ∷ []) []

  outputs_by : (l : List Arrival) → held_of s (steps_of given) (group_key s e) ≡ l → (st en : Bool) → s.starts_when e ≡ st → s.ends_when e ≡ en → outputs_at s given input ≡ map (output_with s (input ∷ given)) (put_then l st en)
  outputs_by l h st en v u =
      ap₂ (λ c d. map (output_with s (input ∷ given)) (cond c (unless_empty (held_of s (steps_of given) (group_key s e))) [] ++ cond d ((cond c [] (held_of s (steps_of given) (group_key s e)) ++ it ∷ []) ∷ []) [])) v u
      ∙ ap (λ m. map (output_with s (input ∷ given)) (put_then m st en)) h

  abbrev parcel_output : Event → List Copy → Output
  parcel_output event cs = passed (record { event = event; finalizers = cs })

  longer_output : (first : Arrival) (rest : List Arrival) → held_of s (steps_of given) (group_key s e) ≡ first ∷ rest →
      output_with s (input ∷ given) (first ∷ (rest ++ it ∷ [])) ≡ parcel_output (group_event s (first ∷ (rest ++ it ∷ []))) (group_copies given (first ∷ rest) ++ copies)
  longer_output first rest h =
      ap (λ cs. parcel_output (group_event s (first ∷ (rest ++ it ∷ []))) cs)
      (copies_more (input ∷ given) (first ∷ rest) it ∙ ap₂ (λ cs ds. cs ++ ds) (copies_kept input given (first ∷ rest) (held_below_it (first ∷ rest) h)) own_copies)

  abbrev outputs_then : Option Group → Bool → Bool → List Output
  outputs_then o st en = outputs_after (is_some o) st en key (event_with (cond st [] (fields_found o))) copies known

  put_by : (l : List Arrival) → held_of s (steps_of given) (group_key s e) ≡ l → (st en : Bool) → outputs_then (found_in s given l) st en ≡ map (output_with s (input ∷ given)) (put_then l st en)
  put_by [] h true true = ap (λ o. o ∷ []) (sym alone_output)
  put_by [] h false true = ap (λ o. o ∷ []) (sym alone_output)
  put_by [] h true false = refl
  put_by [] h false false = refl
  put_by (a ∷ rest) h true true =
      ap (λ o. output_found o ++ parcel_output (merged s.group_by s.strategies (e ∷ [])) copies ∷ []) (found s given (steps_of given) e ∙ ap (λ m. found_in s given m) h)
      ∙ ap₂ (λ o p. o ∷ p ∷ []) (sym (output_kept s input given (a ∷ rest) (held_below_it (a ∷ rest) h))) (sym alone_output)
  put_by (a ∷ rest) h true false =
      ap (λ o. output_found o) (found s given (steps_of given) e ∙ ap (λ m. found_in s given m) h)
      ∙ ap (λ o. o ∷ []) (sym (output_kept s input given (a ∷ rest) (held_below_it (a ∷ rest) h)))
  put_by (a ∷ rest) h false true =
      ap (λ o. parcel_output (event_with (merged_onto s.group_by s.strategies [] (map (λ (b : Arrival). b.event) (a ∷ rest)))) (copies_found o ++ copies) ∷ []) (found s given (steps_of given) e ∙ ap (λ m. found_in s given m) h)
      ∙ ap (λ w. parcel_output w (group_copies given (a ∷ rest) ++ copies) ∷ []) (longer_event (a ∷ rest))
      ∙ ap (λ o. o ∷ []) (sym (longer_output a rest h))
  put_by (a ∷ rest) h false false = refl

  -- reduce puts out what that event makes it put out
  pub came_out : (st en : Bool) → s.starts_when e ≡ st → s.ends_when e ≡ en →
      outputs_after (is_some (group_of (key_datum s.group_by e) (map (group_with s given) (groups s (steps_of given))))) st en (key_datum s.group_by e)
      (merged_event s.group_by s.strategies (cond st [] (fields_found (group_of (key_datum s.group_by e) (map (group_with s given) (groups s (steps_of given)))))) e) copies (map (group_with s given) (groups s (steps_of given)))
      ≡ outputs_at s given (record { step = comes e now; copies = copies })
  came_out st en v u =
      ap (λ o. outputs_then o st en) (found s given (steps_of given) e)
      ∙ put_by (held_of s (steps_of given) (group_key s e)) refl st en
      ∙ sym (outputs_by (held_of s (steps_of given) (group_key s e)) refl st en v u)
