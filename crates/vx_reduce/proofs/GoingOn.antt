-- What a reduce stands for, call by call.
use Rattle.std.proofs.Common.{◌≡◌, ℕ, ◌+◌, ◌-◌, Bool, true, false, not, cond, Option, Some, None, List, [], ◌∷◌, ◌++◌, length, map, ◌⊎◌, inl, inr, refl, sym, ◌∙◌, ap, ap₂, subst}
use Rattle.std.specs.Prelude.{◌&&◌, ◌||◌, filter, is_some, nat_le}
use Rattle.std.specs.List.{list_any, flat_map}
use Rattle.vx_value.specs.Datum.{Datum, NamedDatum}
use Rattle.vx_value.specs.Texts.{ByteString, is_empty}
use Rattle.vx_value.specs.declared.event.Event.{Event}
use Rattle.vx_ledger.specs.Copies.{Copy}
use Rattle.vx_ledger.specs.declared.parcel.Parcel.{Parcel}
use Rattle.vx_transform.specs.declared.output.Output.{Output}
use Rattle.vx_transform.specs.Shelves.{Shelved}
use Rattle.vx_condition.specs.Trees.{Disjunction}
use Rattle.vx_condition.specs.Meaning.{disjunction_holds}
use Rattle.vx_condition.specs.Conditions.{Says}
use Rattle.vx_condition.specs.Steps.{Test, Step, comes, ticks, ends}
use Rattle.vx_condition.specs.Picking.{Key, held}
use Rattle.vx_condition.specs.Reducing.{Settings, Arrival, arrivals, group_key, is_old, is_due, held_of, period_start, holds_some, due, led_by, groups}
use Rattle.vx_condition.specs.declared.strategy.Strategy.{Strategy}
use Rattle.vx_condition.proofs.Complete.{one_tree}
use Rattle.vx_reduce.specs.declared.group.Group.{Group}
use Rattle.vx_reduce.specs.declared.reduce.Reduce.{Reduce}
use Rattle.vx_reduce.specs.Keys.{key_datum}
use Rattle.vx_reduce.specs.Groups.{put_all, outputs_of, group_of}
use Rattle.vx_reduce.specs.Merges.{fields_found, merged_event}
use Rattle.vx_reduce.specs.Answers.{groups_after, outputs_after}
use Rattle.vx_reduce.specs.Expiries.{is_old as is_stale}
use Rattle.vx_reduce.specs.Reducers.{due_of, since_after, SaysOf, fields_before, groups_then, shelf_then, HasAnswered, is_due_at, HasChecked}
use Rattle.vx_reduce.proofs.Expiring.{put_none}
use Rattle.vx_reduce.specs.Inputs.{Input, arrived, ticked, at_end, steps_of, group_with, output_with, outputs_at}
use Rattle.vx_reduce.specs.Standing.{IsTestOf, AreMeant, settings_of, IsAt, GoesOn, PutsOut, IsMeant}
use Rattle.vx_reduce.proofs.HeldLaws.{IsAmong, first_led, first_own}
use Rattle.vx_reduce.proofs.Leading.{led, number_own, led_young, led_old}
use Rattle.vx_reduce.proofs.GroupLists.{outputs_all, outputs_kept, nothing_led}
use Rattle.vx_reduce.proofs.Coming.{groups_stay, came, came_out}

-- ---- conditions
-- a condition says one thing of an event
one_said : (condition : Option ByteString) (e : Event) (a b : Bool) → SaysOf condition e a → SaysOf condition e b → a ≡ b
one_said None e a b h k = h ∙ sym k
one_said (Some text) e a b h k =
    let trees = one_tree h.tree k.tree text h.condition.spelled k.condition.spelled in
    h.meant ∙ (ap (λ (tree : Disjunction). disjunction_holds tree e.fields) trees ∙ sym k.meant)

-- and what says something of one has a test
has_test : (condition : Option ByteString) (e : Event) (holds : Bool) → SaysOf condition e holds → (test : Test) × IsTestOf condition test
has_test None e holds h = (λ f. false, λ f. refl)
has_test (Some text) e holds h = (λ f. disjunction_holds h.tree f.fields, λ f. record { tree = h.tree; condition = h.condition; meant = refl })

pub is_meant : (r : Reduce) (e : Event) (st en : Bool) → SaysOf r.starts_when e st → SaysOf r.ends_when e en → IsMeant r
is_meant r e st en h k =
    let first = has_test r.starts_when e st h in
    let last = has_test r.ends_when e en k in
    let s : Settings = record {
      group_by = r.rules.group_by;
      starts_when = first.0;
      ends_when = last.0;
      expire_after_ms = r.expire_after_ms;
      flush_period_ms = r.flush_period_ms;
      strategies = r.rules.strategies;
    } in
    (s, record { group_by = refl; starts = first.1; ends = last.1; expire = refl; period = refl; strategies = refl })

-- ---- whether events are held
-- where no key of these events has any, none is at its first one
none_led : (held : Key → List Arrival) (s : Settings) (us : List Arrival) → list_any (λ a. not (is_empty (held (group_key s a.event)))) us ≡ false → led s held us ≡ []
none_led held s [] h = refl
none_led held s (a ∷ us) h = by_held (held (group_key s a.event)) refl (λ n. none_led held s us n) h
  where
    by_held : (l : List Arrival) → held (group_key s a.event) ≡ l → (list_any (λ a. not (is_empty (held (group_key s a.event)))) us ≡ false → led s held us ≡ []) →
        (not (is_empty (held (group_key s a.event))) || list_any (λ a. not (is_empty (held (group_key s a.event)))) us) ≡ false → led s held (a ∷ us) ≡ []
    by_held [] t f n =
        ap (λ l. led_by a l ++ led s held us) t ∙ f (ap (λ l. not (is_empty l) || list_any (λ a. not (is_empty (held (group_key s a.event)))) us) (sym t) ∙ n)
    by_held (first ∷ rest) t f n =
        let no : true ≡ false = ap (λ l. not (is_empty l) || list_any (λ a. not (is_empty (held (group_key s a.event)))) us) (sym t) ∙ n in
        absurd (cc)

-- where some event is the first of those of its key, there is a group
some_led : (held : Key → List Arrival) (s : Settings) (first : Arrival) (rest : List Arrival) (us : List Arrival) → IsAmong first us → held (group_key s first.event) ≡ first ∷ rest → is_empty (led s held us) ≡ false
some_led held s first rest [] i h = absurd i
some_led held s first rest (a ∷ us) i h = by_place i (λ l. some_led held s first rest us l h)
  where
    behind : (gs hs : List (List Arrival)) → is_empty hs ≡ false → is_empty (gs ++ hs) ≡ false
    behind [] hs h = h
    behind (g ∷ gs) hs h = refl

    here : is_empty (led_by first (held (group_key s first.event)) ++ led s held us) ≡ false
    here =
        ap (λ l. is_empty (led_by first l ++ led s held us)) h
        ∙ ap (λ c. is_empty (cond c ((first ∷ rest) ∷ []) [] ++ led s held us)) (number_own first.place)

    by_place : (first ≡ a) ⊎ IsAmong first us → (IsAmong first us → is_empty (led s held us) ≡ false) → is_empty (led s held (a ∷ us)) ≡ false
    by_place (inl e) f = subst (λ (x : Arrival). is_empty (led_by x (held (group_key s x.event)) ++ led s held us) ≡ false) e here
    by_place (inr l) f = behind (led_by a (held (group_key s a.event))) (led s held us) (f l)

-- some event of which a test holds
some_of : (p : Arrival → Bool) (us : List Arrival) → list_any p us ≡ true → (a : Arrival) × (p a ≡ true)
some_of p [] h = absurd (cc)
some_of p (a ∷ us) h = by_test (p a) refl (λ l. some_of p us l) h
  where
    by_test : (b : Bool) → p a ≡ b → (list_any p us ≡ true → (a : Arrival) × (p a ≡ true)) → (p a || list_any p us) ≡ true → (a : Arrival) × (p a ≡ true)
    by_test true t f n = (a, t)
    by_test false t f n = f (ap (λ b. b || list_any p us) (sym t) ∙ n)

-- events are held where there are groups
groups_held : (s : Settings) (before : List Step) → is_empty (groups s before) ≡ not (holds_some s before)
groups_held s before = by_any (holds_some s before) refl
  where
    by_held : (a : Arrival) (l : List Arrival) → held_of s before (group_key s a.event) ≡ l → not (is_empty (held_of s before (group_key s a.event))) ≡ true → is_empty (groups s before) ≡ false
    by_held a [] h n = let no : false ≡ true = ap (λ l. not (is_empty l)) (sym h) ∙ n in absurd (cc)
    by_held a (first ∷ rest) h n =
        let i = first_led s before (group_key s a.event) first rest h in
        some_led (held_of s before) s first rest (arrivals before) i.among (ap (λ k. held_of s before k) i.key ∙ h)

    by_any : (b : Bool) → holds_some s before ≡ b → is_empty (groups s before) ≡ not (holds_some s before)
    by_any true h =
        let some = some_of (λ a. not (is_empty (held_of s before (group_key s a.event)))) (arrivals before) h in
        by_held some.0 (held_of s before (group_key s some.0.event)) refl some.1 ∙ ap not (sym h)
    by_any false h = ap is_empty (none_led (held_of s before) s (arrivals before) h) ∙ ap not (sym h)

empty_map : {X Y : Type 0} (f : X → Y) (xs : List X) → is_empty (map f xs) ≡ is_empty xs
empty_map f [] = refl
empty_map f (x ∷ xs) = refl

empty_at : (s : Settings) (given : List Input) (r : Reduce) → IsAt s given r → is_empty r.groups ≡ not (holds_some s (steps_of given))
empty_at s given r i = ap is_empty i.held ∙ empty_map (group_with s given) (groups s (steps_of given)) ∙ groups_held s (steps_of given)

-- ---- checks
cond_not : {X : Type 0} (b : Bool) (x y : X) → cond (not b) x y ≡ cond b y x
cond_not true x y = refl
cond_not false x y = refl

-- the next check is due when it is
pub due_at : (s : Settings) (given : List Input) (r : Reduce) → IsAt s given r → due_of r ≡ due s (steps_of given)
due_at s given r i =
    ap (λ b. cond b None (Some (held (r.since + r.flush_period_ms)))) (empty_at s given r i)
    ∙ cond_not (holds_some s (steps_of given)) None (Some (held (r.since + r.flush_period_ms)))
    ∙ ap₂ (λ n m. cond (holds_some s (steps_of given)) (Some (held (n + m))) None) i.since i.meant.period

is_due_by : (b : Bool) (moment now : ℕ) → is_due_at (cond b (Some moment) None) now ≡ (b && nat_le moment now)
is_due_by true moment now = refl
is_due_by false moment now = refl

due_now : (s : Settings) (given : List Input) (r : Reduce) (now : ℕ) → IsAt s given r → is_due_at (due_of r) now ≡ is_due s (holds_some s (steps_of given)) (period_start s (steps_of given)) now
due_now s given r now i =
    ap (λ o. is_due_at o now) (due_at s given r i) ∙ is_due_by (holds_some s (steps_of given)) (held (period_start s (steps_of given) + s.flush_period_ms)) now

-- ---- the first call
pub begun : (s : Settings) (r : Reduce) → AreMeant s (settings_of r) → r.groups ≡ [] → r.since ≡ 0 → IsAt s [] r
begun s r m g n = record { meant = m; held = g; since = n }

-- ---- an event
-- what a reduce does with an event, by how it is set and what it holds
groups_of : (r : Reduce) (st en : Bool) (parcel : Parcel) (now : ℕ) → groups_then r st en parcel now
    ≡ groups_after (is_some (group_of (key_datum r.rules.group_by parcel.event) r.groups)) st en (key_datum r.rules.group_by parcel.event)
    (merged_event r.rules.group_by r.rules.strategies (cond st [] (fields_found (group_of (key_datum r.rules.group_by parcel.event) r.groups))) parcel.event) parcel.finalizers now r.groups
groups_of r true en parcel now = refl
groups_of r false en parcel now = refl

shelf_of : (r : Reduce) (st en : Bool) (parcel : Parcel) (shelf : Shelved) → shelf_then r st en parcel shelf
    ≡ put_all shelf (outputs_after (is_some (group_of (key_datum r.rules.group_by parcel.event) r.groups)) st en (key_datum r.rules.group_by parcel.event)
    (merged_event r.rules.group_by r.rules.strategies (cond st [] (fields_found (group_of (key_datum r.rules.group_by parcel.event) r.groups))) parcel.event) parcel.finalizers r.groups)
shelf_of r true en parcel shelf = refl
shelf_of r false en parcel shelf = refl

module _ (s : Settings) (given : List Input) (old new : Reduce) (parcel : Parcel) (now : ℕ) (shelf after : Shelved) (h : HasAnswered old new parcel now shelf after) (i : IsAt s given old) where
  starts_so : s.starts_when parcel.event ≡ h.starts
  starts_so = one_said old.starts_when parcel.event (s.starts_when parcel.event) h.starts (i.meant.starts parcel.event) h.said.by_starts

  ends_so : s.ends_when parcel.event ≡ h.ends
  ends_so = one_said old.ends_when parcel.event (s.ends_when parcel.event) h.ends (i.meant.ends parcel.event) h.said.by_ends

  abbrev groups_by : List (List ByteString) → List Strategy → List Group → List Group
  groups_by group_by strategies gs =
      groups_after (is_some (group_of (key_datum group_by parcel.event) gs)) h.starts h.ends (key_datum group_by parcel.event)
      (merged_event group_by strategies (cond h.starts [] (fields_found (group_of (key_datum group_by parcel.event) gs))) parcel.event) parcel.finalizers now gs

  abbrev outputs_by : List (List ByteString) → List Strategy → List Group → List Output
  outputs_by group_by strategies gs =
      outputs_after (is_some (group_of (key_datum group_by parcel.event) gs)) h.starts h.ends (key_datum group_by parcel.event)
      (merged_event group_by strategies (cond h.starts [] (fields_found (group_of (key_datum group_by parcel.event) gs))) parcel.event) parcel.finalizers gs

  held_so : new.groups ≡ map (group_with s (arrived parcel now ∷ given)) (groups s (comes parcel.event now ∷ steps_of given))
  held_so =
      ap (λ r. r.groups) h.state ∙ groups_of old h.starts h.ends parcel now
      ∙ ap (λ g. groups_by g old.rules.strategies old.groups) i.meant.group_by
      ∙ ap₂ (λ t gs. groups_by s.group_by t gs) i.meant.strategies i.held
      ∙ came s given parcel.event now parcel.finalizers h.starts h.ends starts_so ends_so

  since_so : new.since ≡ period_start s (comes parcel.event now ∷ steps_of given)
  since_so =
      ap (λ r. r.since) h.state
      ∙ ap₂ (λ b n. cond b now n) (empty_at s given old i) i.since
      ∙ cond_not (holds_some s (steps_of given)) now (period_start s (steps_of given))

  pub goes_on : IsAt s (arrived parcel now ∷ given) new
  goes_on = record {
    meant = subst (λ settings. AreMeant s settings) (sym (ap settings_of h.state)) i.meant;
    held = held_so;
    since = since_so;
  }

  pub puts_out : after ≡ put_all shelf (outputs_at s given (arrived parcel now))
  puts_out =
      h.shelf ∙ shelf_of old h.starts h.ends parcel shelf
      ∙ ap (λ os. put_all shelf os)
      (ap (λ g. outputs_by g old.rules.strategies old.groups) i.meant.group_by
      ∙ ap₂ (λ t gs. outputs_by s.group_by t gs) i.meant.strategies i.held
      ∙ came_out s given parcel.event now parcel.finalizers h.starts h.ends starts_so ends_so)

-- ---- a tick
module _ (s : Settings) (given : List Input) (old : Reduce) (now : ℕ) (i : IsAt s given old) where
  -- whether it is a check
  abbrev checks : Bool
  checks = is_due s (holds_some s (steps_of given)) (period_start s (steps_of given)) now

  -- the groups once it came
  groups_ticked : (b : Bool) → checks ≡ b → groups s (ticks now ∷ steps_of given) ≡ led s (λ k. cond (b && is_old s now (held_of s (steps_of given) k)) [] (held_of s (steps_of given) k)) (arrivals (steps_of given))
  groups_ticked b t = ap (λ c. led s (λ k. cond (c && is_old s now (held_of s (steps_of given) k)) [] (held_of s (steps_of given) k)) (arrivals (steps_of given))) t

  with_more : map (group_with s (ticked now ∷ given)) (groups s (steps_of given)) ≡ old.groups
  with_more = groups_stay s (ticked now) given ∙ sym i.held

  held_ticked : (b : Bool) → checks ≡ b → map (group_with s (ticked now ∷ given)) (groups s (ticks now ∷ steps_of given)) ≡ cond b (filter (λ g. not (is_stale old.expire_after_ms now g)) old.groups) old.groups
  held_ticked true t =
      ap (λ gs. map (group_with s (ticked now ∷ given)) gs) (groups_ticked true t)
      ∙ led_young s (ticked now ∷ given) (held_of s (steps_of given)) now (arrivals (steps_of given))
      ∙ ap₂ (λ n gs. filter (λ g. not (is_stale n now g)) gs) (sym i.meant.expire) with_more
  held_ticked false t = ap (λ gs. map (group_with s (ticked now ∷ given)) gs) (groups_ticked false t) ∙ with_more

  put_ticked : (b : Bool) → checks ≡ b → outputs_at s given (ticked now) ≡ cond b (outputs_of (filter (is_stale old.expire_after_ms now) old.groups)) []
  put_ticked true t =
      ap (λ c. map (output_with s (ticked now ∷ given)) (cond c (filter (is_old s now) (groups s (steps_of given))) [])) t
      ∙ sym (led_old s (ticked now ∷ given) (held_of s (steps_of given)) now (arrivals (steps_of given)))
      ∙ ap₂ (λ n gs. outputs_of (filter (is_stale n now) gs)) (sym i.meant.expire) with_more
  put_ticked false t = ap (λ c. map (output_with s (ticked now ∷ given)) (cond c (filter (is_old s now) (groups s (steps_of given))) [])) t

  abbrev checked : Bool → Reduce
  checked b = cond b (record old { groups = filter (λ g. not (is_stale old.expire_after_ms now g)) old.groups; since = now }) old

  groups_checked : (b : Bool) → (checked b).groups ≡ cond b (filter (λ g. not (is_stale old.expire_after_ms now g)) old.groups) old.groups
  groups_checked true = refl
  groups_checked false = refl

  since_checked : (b : Bool) → (checked b).since ≡ cond b now old.since
  since_checked true = refl
  since_checked false = refl

  set_checked : (b : Bool) → settings_of (checked b) ≡ settings_of old
  set_checked true = refl
  set_checked false = refl

  module _ (new : Reduce) (shelf after : Shelved) (h : HasChecked old new now shelf after) where
    new_is : new ≡ checked checks
    new_is = h.state ∙ ap checked (due_now s given old now i)

    pub goes_on_tick : IsAt s (ticked now ∷ given) new
    goes_on_tick = record {
      meant = subst (λ settings. AreMeant s settings) (sym (ap settings_of new_is ∙ set_checked checks)) i.meant;
      held = ap (λ r. r.groups) new_is ∙ groups_checked checks ∙ sym (held_ticked checks refl);
      since = ap (λ r. r.since) new_is ∙ since_checked checks ∙ ap (λ n. cond checks now n) i.since;
    }

    shelf_by : (b : Bool) → cond b (put_all shelf (outputs_of (filter (is_stale old.expire_after_ms now) old.groups))) shelf ≡ put_all shelf (cond b (outputs_of (filter (is_stale old.expire_after_ms now) old.groups)) [])
    shelf_by true = refl
    shelf_by false = put_none shelf

    pub puts_out_tick : after ≡ put_all shelf (outputs_at s given (ticked now))
    puts_out_tick =
        h.shelf ∙ ap (λ b. cond b (put_all shelf (outputs_of (filter (is_stale old.expire_after_ms now) old.groups))) shelf) (due_now s given old now i)
        ∙ shelf_by checks ∙ ap (λ os. put_all shelf os) (sym (put_ticked checks refl))

-- ---- the flush
module _ (s : Settings) (given : List Input) (old new : Reduce) (i : IsAt s given old) where
  pub goes_on_flush : new ≡ record old { groups = [] } → IsAt s (at_end ∷ given) new
  goes_on_flush h = record {
    meant = subst (λ settings. AreMeant s settings) (sym (ap settings_of h)) i.meant;
    held = ap (λ r. r.groups) h ∙ ap (λ gs. map (group_with s (at_end ∷ given)) gs) (sym (nothing_led (arrivals (steps_of given))));
    since = ap (λ r. r.since) h ∙ i.since;
  }

  pub puts_out_flush : (shelf after : Shelved) → after ≡ put_all shelf (outputs_of old.groups) → after ≡ put_all shelf (outputs_at s given at_end)
  puts_out_flush shelf after h =
      h ∙ ap (λ gs. put_all shelf (outputs_of gs)) (i.held ∙ sym (groups_stay s at_end given))
      ∙ ap (λ os. put_all shelf os) (outputs_all s (at_end ∷ given) (groups s (steps_of given)))
