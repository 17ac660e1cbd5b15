-- Lists of groups of different keys, and what stays as more is given.
use Rattle.std.proofs.Common.{◌≡◌, ℕ, suc, ◌<◌, Bool, true, false, not, cond, ◌==◌, Option, Some, None, List, [], ◌∷◌, ◌++◌, length, map, refl, sym, ◌∙◌, ap, ap₂, subst, append_assoc, append-nil}
use Rattle.std.specs.Prelude.{filter}
use Rattle.std.specs.List.{flat_map}
use Rattle.vx_value.specs.Datum.{Datum, NamedDatum}
use Rattle.vx_value.specs.Texts.{ByteString}
use Rattle.vx_ledger.specs.Copies.{Copy, joined}
use Rattle.vx_transform.specs.declared.output.Output.{Output}
use Rattle.vx_condition.specs.Steps.{Step}
use Rattle.vx_condition.specs.Picking.{Key}
use Rattle.vx_condition.specs.Merging.{merged_with, merged_onto}
use Rattle.vx_condition.specs.declared.strategy.Strategy.{Strategy}
use Rattle.vx_condition.specs.Reducing.{Settings, Arrival, group_key, group_event, led_by}
use Rattle.vx_reduce.specs.declared.group.Group.{Group}
use Rattle.vx_reduce.specs.Groups.{has_key, group_of, changed, without, outputs_of}
use Rattle.vx_reduce.proofs.Indexed.{same_datum}
use Rattle.vx_reduce.specs.Inputs.{Input, steps_of, copies_at, group_copies, group_with, output_with, first_key, last_moment}
use Rattle.vx_reduce.proofs.HeldLaws.{AreBelow}
use Rattle.vx_reduce.proofs.Leading.{AreApart, Look, nobody, leader, look, led, number_own, number_apart}

-- ---- groups of different keys
-- where none has a key, all are kept
pub none_keyed : (k : Datum) (gs : List Group) → group_of k gs ≡ None → filter (λ g. not (has_key k g)) gs ≡ gs
none_keyed k [] h = refl
none_keyed k (g ∷ gs) h = by_key (has_key k g) refl (λ n. none_keyed k gs n) h
  where
    by_key : (b : Bool) → has_key k g ≡ b → (group_of k gs ≡ None → filter (λ g. not (has_key k g)) gs ≡ gs) → cond b (Some g) (group_of k gs) ≡ None → filter (λ g. not (has_key k g)) (g ∷ gs) ≡ g ∷ gs
    by_key true t f n = absurd (cc)
    by_key false t f n = ap (λ c. cond (not c) (g ∷ filter (λ g. not (has_key k g)) gs) (filter (λ g. not (has_key k g)) gs)) t ∙ ap (λ l. g ∷ l) (f n)

-- and none changes
none_changed : (k : Datum) (f : Group → Group) (gs : List Group) → group_of k gs ≡ None → map (λ g. cond (has_key k g) (f g) g) gs ≡ gs
none_changed k f [] h = refl
none_changed k f (g ∷ gs) h = by_key (has_key k g) refl (λ n. none_changed k f gs n) h
  where
    by_key : (b : Bool) → has_key k g ≡ b → (group_of k gs ≡ None → map (λ g. cond (has_key k g) (f g) g) gs ≡ gs) → cond b (Some g) (group_of k gs) ≡ None → map (λ g. cond (has_key k g) (f g) g) (g ∷ gs) ≡ g ∷ gs
    by_key true t r n = absurd (cc)
    by_key false t r n = ap₂ (λ x l. x ∷ l) (ap (λ c. cond c (f g) g) t) (r n)

pub without_apart : (k : Datum) (gs : List Group) → AreApart gs → without k gs ≡ filter (λ g. not (has_key k g)) gs
without_apart k [] h = refl
without_apart k (g ∷ gs) h = by_key (has_key k g) refl (without_apart k gs h.1)
  where
    by_key : (b : Bool) → has_key k g ≡ b → without k gs ≡ filter (λ g. not (has_key k g)) gs → without k (g ∷ gs) ≡ filter (λ g. not (has_key k g)) (g ∷ gs)
    by_key true t f =
        ap (λ c. cond c gs (g ∷ without k gs)) t ∙ sym (none_keyed k gs (subst (λ d. group_of d gs ≡ None) (sym (same_datum k g.key t)) h.0))
        ∙ ap (λ c. cond (not c) (g ∷ filter (λ g. not (has_key k g)) gs) (filter (λ g. not (has_key k g)) gs)) (sym t)
    by_key false t f =
        ap (λ c. cond c gs (g ∷ without k gs)) t ∙ ap (λ l. g ∷ l) f
        ∙ ap (λ c. cond (not c) (g ∷ filter (λ g. not (has_key k g)) gs) (filter (λ g. not (has_key k g)) gs)) (sym t)

pub changed_apart : (k : Datum) (f : Group → Group) (gs : List Group) → AreApart gs → changed k f gs ≡ map (λ g. cond (has_key k g) (f g) g) gs
changed_apart k f [] h = refl
changed_apart k f (g ∷ gs) h = by_key (has_key k g) refl (changed_apart k f gs h.1)
  where
    by_key : (b : Bool) → has_key k g ≡ b → changed k f gs ≡ map (λ g. cond (has_key k g) (f g) g) gs → changed k f (g ∷ gs) ≡ map (λ g. cond (has_key k g) (f g) g) (g ∷ gs)
    by_key true t r =
        ap (λ c. cond c (f g ∷ gs) (g ∷ changed k f gs)) t
        ∙ ap₂ (λ x l. x ∷ l) (ap (λ c. cond c (f g) g) (sym t)) (sym (none_changed k f gs (subst (λ d. group_of d gs ≡ None) (sym (same_datum k g.key t)) h.0)))
    by_key false t r =
        ap (λ c. cond c (f g ∷ gs) (g ∷ changed k f gs)) t ∙ ap₂ (λ x l. x ∷ l) (ap (λ c. cond c (f g) g) (sym t)) r

-- ---- what stays as more is given
pub length-steps : (given : List Input) → length (steps_of given) ≡ length given
length-steps [] = refl
length-steps (x ∷ given) = ap suc (length-steps given)

pub copies_kept : (x : Input) (given : List Input) (group : List Arrival) → AreBelow (length given) group → group_copies (x ∷ given) group ≡ group_copies given group
copies_kept x given [] b = refl
copies_kept x given (a ∷ group) b =
    ap₂ (λ cs ds. cs ++ ds) (ap (λ c. cond c x.copies (copies_at given a.place)) (number_apart (length given) a.place b.0)) (copies_kept x given group b.1)

pub group_kept : (s : Settings) (x : Input) (given : List Input) (group : List Arrival) → AreBelow (length given) group → group_with s (x ∷ given) group ≡ group_with s given group
group_kept s x given group b =
    let with_copies : List Copy → Group = λ cs. record { key = first_key s group; moment = last_moment group; parcel = Some (record { event = group_event s group; finalizers = cs }) } in
    ap with_copies (copies_kept x given group b)

pub output_kept : (s : Settings) (x : Input) (given : List Input) (group : List Arrival) → AreBelow (length given) group → output_with s (x ∷ given) group ≡ output_with s given group
output_kept s x given group b =
    let with_copies : List Copy → Output = λ cs. record { ports = 1; parcel = record { event = group_event s group; finalizers = cs } } in
    ap with_copies (copies_kept x given group b)

-- each of some groups came below a place
abbrev pub GroupsBelow : ℕ → List (List Arrival) → Type 0
GroupsBelow n [] = Unit {0}
GroupsBelow n (g ∷ gs) = AreBelow n g × GroupsBelow n gs

pub groups_kept : (s : Settings) (x : Input) (given : List Input) (gs : List (List Arrival)) → GroupsBelow (length given) gs → map (group_with s (x ∷ given)) gs ≡ map (group_with s given) gs
groups_kept s x given [] b = refl
groups_kept s x given (g ∷ gs) b = ap₂ (λ h hs. h ∷ hs) (group_kept s x given g b.0) (groups_kept s x given gs b.1)

pub outputs_kept : (s : Settings) (x : Input) (given : List Input) (gs : List (List Arrival)) → GroupsBelow (length given) gs → map (output_with s (x ∷ given)) gs ≡ map (output_with s given) gs
outputs_kept s x given [] b = refl
outputs_kept s x given (g ∷ gs) b = ap₂ (λ h hs. h ∷ hs) (output_kept s x given g b.0) (outputs_kept s x given gs b.1)

pub led_below : (s : Settings) (held : Key → List Arrival) (n : ℕ) (us : List Arrival) → ((k : Key) → AreBelow n (held k)) → GroupsBelow n (led s held us)
led_below s held n [] b = tt
led_below s held n (a ∷ us) b = by_look (look s held a) (led_below s held n us b)
  where
    by_look : Look s held a → GroupsBelow n (led s held us) → GroupsBelow n (led s held (a ∷ us))
    by_look (nobody m l) f = subst (λ x. GroupsBelow n (x ++ led s held us)) (sym m) f
    by_look (leader first rest h m l) f = subst (λ x. GroupsBelow n (x ++ led s held us)) (sym m) (subst (λ x. AreBelow n x) h (b (group_key s a.event)), f)

-- ---- one event more
pub copies_more : (given : List Input) (group : List Arrival) (x : Arrival) → group_copies given (group ++ x ∷ []) ≡ group_copies given group ++ copies_at given x.place
copies_more given [] x = append-nil (copies_at given x.place)
copies_more given (a ∷ group) x =
    ap (λ cs. copies_at given a.place ++ cs) (copies_more given group x) ∙ sym (append_assoc (copies_at given a.place) (group_copies given group) (copies_at given x.place))

pub last_more : (group : List Arrival) (x : Arrival) → last_moment (group ++ x ∷ []) ≡ x.moment
last_more [] x = refl
last_more (a ∷ []) x = refl
last_more (a ∷ b ∷ group) x = last_more (b ∷ group) x

pub merged_more : (group_by : List (List ByteString)) (strategies : List Strategy) (fields : List NamedDatum) (group : List Arrival) (x : Arrival) →
    merged_onto group_by strategies fields (map (λ (a : Arrival). a.event) (group ++ x ∷ [])) ≡ merged_with group_by strategies (merged_onto group_by strategies fields (map (λ (a : Arrival). a.event) group)) x.event.fields
merged_more group_by strategies fields [] x = refl
merged_more group_by strategies fields (a ∷ group) x = merged_more group_by strategies (merged_with group_by strategies fields a.event.fields) group x

-- ---- all groups put out
pub outputs_all : (s : Settings) (given : List Input) (gs : List (List Arrival)) → outputs_of (map (group_with s given) gs) ≡ map (output_with s given) gs
outputs_all s given [] = refl
outputs_all s given (g ∷ gs) = ap (λ os. output_with s given g ∷ os) (outputs_all s given gs)

pub nothing_led : (us : List Arrival) → flat_map (λ (a : Arrival). led_by a []) us ≡ []
nothing_led [] = refl
nothing_led (a ∷ us) = nothing_led us
