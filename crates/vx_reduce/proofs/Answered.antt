-- What the calls of reduce ensure, from what they found out.
use Rattle.std.proofs.Common.{Result, Ok, Err, OnOk}
use Rattle.std.proofs.Common.{◌≡◌, ℕ, Bool, true, false, not, cond, Option, Some, None, List, [], ◌∷◌, ◌++◌, length, arith, refl, sym, ◌∙◌, ap, ap₂, subst, ◌↔◌}
use Rattle.std.specs.Prelude.{IsSome, IsNone, IfSome, IfNone, is_some, filter, ◌-◌, nat_le}
use Rattle.std.specs.List.Sorted.{IsPermutation}
use Rattle.std.proofs.lemmas.List.Sorted.{length_permutation}
use Rattle.std.proofs.lemmas.Bool.Decides.{nat_tests}
use Rattle.vx_value.specs.Datum.{Datum, NamedDatum}
use Rattle.vx_value.specs.Texts.{is_empty}
use Rattle.vx_value.specs.declared.event.Event.{Event}
use Rattle.vx_ledger.specs.Copies.{Copy}
use Rattle.vx_ledger.specs.declared.parcel.Parcel.{Parcel}
use Rattle.vx_transform.specs.Shelves.{Shelved}
use Rattle.vx_transform.specs.Moves.{Moves}
use Rattle.vx_reduce.specs.declared.group.Group.{Group}
use Rattle.vx_reduce.specs.declared.reduce.Reduce.{Reduce}
use Rattle.vx_reduce.specs.Keys.{key_datum}
use Rattle.vx_reduce.specs.Groups.{copies_held, put_all, outputs_of, group_of}
use Rattle.vx_reduce.specs.Merges.{fields_found, merged_event}
use Rattle.vx_reduce.specs.Answers.{groups_after, outputs_after}
use Rattle.vx_reduce.specs.Expiries.{is_old, HasPutOut}
use Rattle.vx_reduce.specs.Reducers.{due_of, is_due_at, since_after, SaysOf, fields_before, IsPlanned, HasAnswered, HasChecked}
use Rattle.vx_reduce.proofs.Moving.{answered_moves}
use Rattle.vx_reduce.proofs.Expiring.{all_out, all_shelved}

-- the fields with which an event is merged
same_fields : (r : Reduce) (starts : Bool) (e : Event) → cond starts [] (fields_found (group_of (key_datum r.rules.group_by e) r.groups)) ≡ fields_before r starts e
same_fields r true e = refl
same_fields r false e = refl

-- what is so of a plan is so of what the conditions, the key and the groups say
planned : {X : Type 0} (F : Bool → Datum → Event → X) (r : Reduce) (e : Event) (found starts ends : Bool) (key : Datum) (event : Event) → IsPlanned r e found starts ends key event → F found key event ≡ F (is_some (group_of (key_datum r.rules.group_by e) r.groups)) (key_datum r.rules.group_by e) (merged_event r.rules.group_by r.rules.strategies (fields_before r starts e) e)
planned {X} F r e found starts ends key event p =
    let G : Datum → X = λ k. F (is_some (group_of k r.groups)) k (merged_event r.rules.group_by r.rules.strategies (cond starts [] (fields_found (group_of k r.groups))) e) in
    let H : List NamedDatum → X = λ fs. F (is_some (group_of (key_datum r.rules.group_by e) r.groups)) (key_datum r.rules.group_by e) (merged_event r.rules.group_by r.rules.strategies fs e) in
    ap₂ (λ f v. F f key v) p.by_found p.by_event ∙ ap G p.by_key ∙ ap H (same_fields r starts e)

pub has_answered : (old new : Reduce) (parcel : Parcel) (now : ℕ) (before after : Shelved) (found starts ends : Bool) (key : Datum) (event : Event) → IsPlanned old parcel.event found starts ends key event → new ≡ record old { groups = groups_after found starts ends key event parcel.finalizers now old.groups; since = since_after old now } → after ≡ put_all before (outputs_after found starts ends key event parcel.finalizers old.groups) → HasAnswered old new parcel now before after
has_answered old new parcel now before after found starts ends key event p n s =
    let with_groups : List Group → Reduce = λ gs. record old { groups = gs; since = since_after old now } in
    record {
      starts = starts;
      ends = ends;
      said = record { by_starts = p.by_starts; by_ends = p.by_ends };
      state = n ∙ ap with_groups (planned (λ f k v. groups_after f starts ends k v parcel.finalizers now old.groups) old parcel.event found starts ends key event p);
      shelf = s ∙ planned (λ f k v. put_all before (outputs_after f starts ends k v parcel.finalizers old.groups)) old parcel.event found starts ends key event p;
    }

-- ---- checks
pub nothing_due : (old : Reduce) (now : ℕ) (shelf : Shelved) → is_due_at (due_of old) now ≡ false → HasChecked old old now shelf shelf
nothing_due old now shelf h = record { state = rw h refl; shelf = rw h refl }

pub has_checked : (old new : Reduce) (now : ℕ) (before after : Shelved) (gs : List Group) → is_due_at (due_of old) now ≡ true → new ≡ record old { groups = gs; since = now } → HasPutOut (is_old old.expire_after_ms now) old.groups gs before after → filter (is_old old.expire_after_ms now) gs ≡ [] → HasChecked old new now before after
has_checked old new now before after gs h n o e =
    let with_groups : List Group → Reduce = λ l. record old { groups = l; since = now } in
    record {
      state = rw h (n ∙ ap with_groups (all_out (is_old old.expire_after_ms now) old.groups gs before after o e));
      shelf = rw h (all_shelved (is_old old.expire_after_ms now) old.groups gs before after o e);
    }

-- ---- the flush
always_old : (g : Group) → is_old 0 0 g ≡ true
always_old g = grind (arith, nat_tests)

all_passing : (p : Group → Bool) (gs : List Group) → ((g : Group) → p g ≡ true) → filter p gs ≡ gs
all_passing p [] h = refl
all_passing p (g ∷ gs) h = rw (h g) (ap (λ l. g ∷ l) (all_passing p gs h))

pub none_left : (gs : List Group) → filter (is_old 0 0) gs ≡ [] → gs ≡ []
none_left gs h = sym (all_passing (is_old 0 0) gs always_old) ∙ h

pub all_flushed : (old new : List Group) (before after : Shelved) → HasPutOut (is_old 0 0) old new before after → filter (is_old 0 0) new ≡ [] → after ≡ put_all before (outputs_of old)
all_flushed old new before after o e = all_shelved (is_old 0 0) old new before after o e ∙ ap (λ gs. put_all before (outputs_of gs)) (all_passing (is_old 0 0) old always_old)

-- ---- what is given up
pub given_up : {X : Type 0} (o : Option X) (xs ys : List X) → IfSome o (λ x. IsPermutation xs (x ∷ ys)) → IfNone o (xs ≡ []) → IsNone o ↔ (xs ≡ [])
given_up None xs ys s n = (λ _. n, λ _. refl)
given_up (Some x) xs ys s n = (λ h. cc, λ e. absurd (let l : length (x ∷ ys) ≡ length xs = length_permutation xs (x ∷ ys) s in let z : length xs ≡ 0 = ap length e in omega arith))

-- two facts of what came of a call, as one
pub both_ok : {T E A B C : Type 0} (r : Result T E) → (A → B → C) → OnOk r A → OnOk r B → OnOk r C
both_ok (Ok x) f a b = f a b
both_ok (Err e) f a b = a

-- the fields with which an event is merged, unless it begins a group
pub fields_unless : (starts : Bool) (o : Option Group) → fields_found (cond starts None o) ≡ cond starts [] (fields_found o)
fields_unless true o = refl
fields_unless false o = refl
