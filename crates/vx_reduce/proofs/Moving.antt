-- What reduce does moves copies as every transform may.
use Rattle.std.proofs.Common.{◌≡◌, ℕ, Bool, true, false, cond, Option, Some, None, List, [], ◌∷◌, ◌++◌, map, All, arith, refl, sym, ◌∙◌, ap, subst, append_assoc}
use Rattle.std.specs.Prelude.{IsSome, is_some}
use Rattle.std.specs.List.Sorted.{IsPermutation}
use Rattle.std.specs.Ordering.{is_eq}
use Rattle.std.proofs.Math.Seq.{drop-append_seam, drop-length}
use Rattle.std.proofs.lemmas.List.{append-nil}
use Rattle.std.proofs.lemmas.List.Elements.{All-nil, All-cons}
use Rattle.std.proofs.lemmas.List.Sorted.{IsPermutation-refl, IsPermutation-sym, IsPermutation-trans, IsPermutation-append_left, IsPermutation-append_right, IsPermutation-append_comm}
use Rattle.vx_value.specs.Datum.{Datum}
use Rattle.vx_value.specs.Orders.{datum_cmp}
use Rattle.vx_value.specs.declared.event.Event.{Event}
use Rattle.vx_ledger.specs.Copies.{Copy, joined}
use Rattle.vx_ledger.specs.declared.parcel.Parcel.{Parcel}
use Rattle.vx_transform.specs.declared.output.Output.{Output}
use Rattle.vx_transform.specs.Shelves.{Shelved, copies_put_out, copies_on}
use Rattle.vx_transform.specs.Moves.{added, NamesPorts, Moves}
use Rattle.vx_reduce.specs.declared.group.Group.{Group}
use Rattle.vx_reduce.specs.Groups.{copies_in, copies_held, passed, output_in, put_all, new_group, joined_group, has_key, group_of, changed, without, output_found, copies_found}
use Rattle.vx_reduce.specs.Answers.{groups_after, outputs_after}

pub alike : {X : Type 0} (xs ys : List X) → xs ≡ ys → IsPermutation xs ys
alike xs ys e = subst (λ zs. IsPermutation xs zs) e (IsPermutation-refl xs)

-- outputs put behind those of a shelf
pub put_all_moves : (old : Shelved) (outs : List Output) (given kept : List Copy) → All (NamesPorts 1) outs → IsPermutation given (copies_put_out outs ++ kept) → Moves 1 given kept old (put_all old outs)
put_all_moves old outs given kept named moved = record {
  outputs = rw drop-append_seam refl;
  dropped = rw drop-length (sym (append-nil old.dropped));
  copies = IsPermutation-trans given (copies_put_out outs ++ kept) (copies_on (added old (put_all old outs)) ++ kept) moved (alike _ _ (rw (drop-append_seam, drop-length) (rw append-nil refl)));
  named = rw drop-append_seam named;
}

pub passed_named : (parcel : Parcel) → NamesPorts 1 (passed parcel)
passed_named parcel = record { some = omega arith; below = omega arith }

pub output_named : (o : Option Parcel) (outs : List Output) → All (NamesPorts 1) outs → All (NamesPorts 1) (output_in o ++ outs)
output_named None outs h = h
output_named (Some p) outs h = All-cons (NamesPorts 1) (passed p) outs (passed_named p) h

found_named : (o : Option Group) (outs : List Output) → All (NamesPorts 1) outs → All (NamesPorts 1) (output_found o ++ outs)
found_named None outs h = h
found_named (Some g) outs h = output_named g.parcel outs h

-- the copies of outputs
pub copies_output : (o : Option Parcel) (outs : List Output) → copies_put_out (output_in o ++ outs) ≡ copies_in o ++ copies_put_out outs
copies_output None outs = refl
copies_output (Some p) outs = refl

copies_output_found : (o : Option Group) (outs : List Output) → copies_put_out (output_found o ++ outs) ≡ copies_found o ++ copies_put_out outs
copies_output_found None outs = refl
copies_output_found (Some g) outs = copies_output g.parcel outs

pub copies-append : (gs hs : List Group) → copies_held (gs ++ hs) ≡ copies_held gs ++ copies_held hs
copies-append [] hs = refl
copies-append (g ∷ gs) hs = ap (λ l. copies_in g.parcel ++ l) (copies-append gs hs) ∙ sym (append_assoc (copies_in g.parcel) (copies_held gs) (copies_held hs))

-- two lists in front of a third, the other way round
pub swapped : {X : Type 0} (a b c : List X) → IsPermutation (a ++ (b ++ c)) (b ++ (a ++ c))
swapped a b c =
    IsPermutation-trans (a ++ (b ++ c)) ((b ++ a) ++ c) (b ++ (a ++ c))
    (IsPermutation-trans (a ++ (b ++ c)) ((a ++ b) ++ c) ((b ++ a) ++ c) (alike _ _ (sym (append_assoc a b c))) (IsPermutation-append_left c (a ++ b) (b ++ a) (IsPermutation-append_comm a b)))
    (alike _ _ (append_assoc b a c))

-- a group's copies, and those of the others
pub split_off : (k : Datum) (gs : List Group) → IsPermutation (copies_held gs) (copies_found (group_of k gs) ++ copies_held (without k gs))
split_off k [] = IsPermutation-refl []
split_off k (g ∷ gs) = by_key (is_eq (datum_cmp k g.key)) (split_off k gs)
  where
    by_key : (b : Bool) → IsPermutation (copies_held gs) (copies_found (group_of k gs) ++ copies_held (without k gs)) → IsPermutation (copies_in g.parcel ++ copies_held gs) (copies_found (cond b (Some g) (group_of k gs)) ++ copies_held (cond b gs (g ∷ without k gs)))
    by_key true h = IsPermutation-refl (copies_in g.parcel ++ copies_held gs)
    by_key false h =
        IsPermutation-trans (copies_in g.parcel ++ copies_held gs) (copies_in g.parcel ++ (copies_found (group_of k gs) ++ copies_held (without k gs))) (copies_found (group_of k gs) ++ (copies_in g.parcel ++ copies_held (without k gs)))
        (IsPermutation-append_right (copies_in g.parcel) (copies_held gs) (copies_found (group_of k gs) ++ copies_held (without k gs)) h)
        (swapped (copies_in g.parcel) (copies_found (group_of k gs)) (copies_held (without k gs)))

-- more copies taken to a group
pub joined_in : (k : Datum) (event : Event) (copies : List Copy) (now : ℕ) (gs : List Group) → IsSome (group_of k gs) → IsPermutation (copies_held gs ++ copies) (copies_held (changed k (joined_group event copies now) gs))
joined_in k event copies now [] s = cc
joined_in k event copies now (g ∷ gs) s = by_key (is_eq (datum_cmp k g.key)) (joined_in k event copies now gs) s
  where
    by_key : (b : Bool) → (IsSome (group_of k gs) → IsPermutation (copies_held gs ++ copies) (copies_held (changed k (joined_group event copies now) gs))) → IsSome (cond b (Some g) (group_of k gs)) → IsPermutation ((copies_in g.parcel ++ copies_held gs) ++ copies) (copies_held (cond b (joined_group event copies now g ∷ gs) (g ∷ changed k (joined_group event copies now) gs)))
    by_key true f s =
        IsPermutation-trans ((copies_in g.parcel ++ copies_held gs) ++ copies) (copies_in g.parcel ++ (copies ++ copies_held gs)) ((copies_in g.parcel ++ copies) ++ copies_held gs)
        (IsPermutation-trans ((copies_in g.parcel ++ copies_held gs) ++ copies) (copies_in g.parcel ++ (copies_held gs ++ copies)) (copies_in g.parcel ++ (copies ++ copies_held gs))
        (alike _ _ (append_assoc (copies_in g.parcel) (copies_held gs) copies)) (IsPermutation-append_right (copies_in g.parcel) (copies_held gs ++ copies) (copies ++ copies_held gs) (IsPermutation-append_comm (copies_held gs) copies)))
        (alike _ _ (sym (append_assoc (copies_in g.parcel) copies (copies_held gs))))
    by_key false f s =
        IsPermutation-trans ((copies_in g.parcel ++ copies_held gs) ++ copies) (copies_in g.parcel ++ (copies_held gs ++ copies)) (copies_in g.parcel ++ copies_held (changed k (joined_group event copies now) gs))
        (alike _ _ (append_assoc (copies_in g.parcel) (copies_held gs) copies)) (IsPermutation-append_right (copies_in g.parcel) (copies_held gs ++ copies) (copies_held (changed k (joined_group event copies now) gs)) (f s))

-- a group's copies with more behind them, and those of the others
with_more : (held found left copies : List Copy) → IsPermutation held (found ++ left) → IsPermutation (held ++ copies) ((found ++ copies) ++ left)
with_more held found left copies h =
    IsPermutation-trans (held ++ copies) (found ++ (left ++ copies)) ((found ++ copies) ++ left) (behind held found left copies h)
    (IsPermutation-trans (found ++ (left ++ copies)) (found ++ (copies ++ left)) ((found ++ copies) ++ left) (IsPermutation-append_right found (left ++ copies) (copies ++ left) (IsPermutation-append_comm left copies)) (alike _ _ (sym (append_assoc found copies left))))
  where
    behind : (held found left copies : List Copy) → IsPermutation held (found ++ left) → IsPermutation (held ++ copies) (found ++ (left ++ copies))
    behind held found left copies h =
        IsPermutation-trans (held ++ copies) ((found ++ left) ++ copies) (found ++ (left ++ copies)) (IsPermutation-append_left copies held (found ++ left) h) (alike _ _ (append_assoc found left copies))

-- no copy is lost or doubled, whatever an event does
pub answered_copies : (found starts ends : Bool) (key : Datum) (event : Event) (copies : List Copy) (now : ℕ) (gs : List Group) → found ≡ is_some (group_of key gs) → IsPermutation (copies_held gs ++ copies) (copies_put_out (outputs_after found starts ends key event copies gs) ++ copies_held (groups_after found starts ends key event copies now gs))
answered_copies false starts true key event copies now gs h = subst (λ l. IsPermutation (copies_held gs ++ copies) (l ++ copies_held gs)) (sym (append-nil copies)) (IsPermutation-append_comm (copies_held gs) copies)
answered_copies false starts false key event copies now gs h = alike _ _ (sym (copies-append gs (new_group key event copies now ∷ []) ∙ ap (λ l. copies_held gs ++ l) (append-nil copies)))
answered_copies true true true key event copies now gs h =
    subst (λ l. IsPermutation (copies_held gs ++ copies) (l ++ copies_held (without key gs))) (sym (copies_output_found (group_of key gs) (passed (record { event = event; finalizers = copies }) ∷ []) ∙ ap (λ l. copies_found (group_of key gs) ++ l) (append-nil copies)))
    (with_more (copies_held gs) (copies_found (group_of key gs)) (copies_held (without key gs)) copies (split_off key gs))
answered_copies true true false key event copies now gs h =
    subst (λ l. IsPermutation (copies_held gs ++ copies) (l ++ copies_held (without key gs ++ new_group key event copies now ∷ []))) (sym (alone (group_of key gs)))
    (subst (λ l. IsPermutation (copies_held gs ++ copies) (copies_found (group_of key gs) ++ l)) (sym (copies-append (without key gs) (new_group key event copies now ∷ []) ∙ ap (λ l. copies_held (without key gs) ++ l) (append-nil copies)))
    (IsPermutation-trans (copies_held gs ++ copies) ((copies_found (group_of key gs) ++ copies_held (without key gs)) ++ copies) (copies_found (group_of key gs) ++ (copies_held (without key gs) ++ copies))
    (IsPermutation-append_left copies (copies_held gs) (copies_found (group_of key gs) ++ copies_held (without key gs)) (split_off key gs)) (alike _ _ (append_assoc (copies_found (group_of key gs)) (copies_held (without key gs)) copies))))
  where
    alone_in : (o : Option Parcel) → copies_put_out (output_in o) ≡ copies_in o
    alone_in None = refl
    alone_in (Some p) = append-nil p.finalizers

    alone : (o : Option Group) → copies_put_out (output_found o) ≡ copies_found o
    alone None = refl
    alone (Some g) = alone_in g.parcel
answered_copies true false true key event copies now gs h =
    subst (λ l. IsPermutation (copies_held gs ++ copies) (l ++ copies_held (without key gs))) (sym (append-nil (copies_found (group_of key gs) ++ copies)))
    (with_more (copies_held gs) (copies_found (group_of key gs)) (copies_held (without key gs)) copies (split_off key gs))
answered_copies true false false key event copies now gs h = joined_in key event copies now gs (sym h)

pub answered_named : (found starts ends : Bool) (key : Datum) (event : Event) (copies : List Copy) (gs : List Group) → All (NamesPorts 1) (outputs_after found starts ends key event copies gs)
answered_named false starts true key event copies gs = All-cons (NamesPorts 1) _ [] (passed_named _) (All-nil (NamesPorts 1))
answered_named false starts false key event copies gs = All-nil (NamesPorts 1)
answered_named true true true key event copies gs = found_named (group_of key gs) (passed (record { event = event; finalizers = copies }) ∷ []) (All-cons (NamesPorts 1) _ [] (passed_named _) (All-nil (NamesPorts 1)))
answered_named true true false key event copies gs = subst (All (NamesPorts 1)) (append-nil (output_found (group_of key gs))) (found_named (group_of key gs) [] (All-nil (NamesPorts 1)))
answered_named true false true key event copies gs = All-cons (NamesPorts 1) _ [] (passed_named _) (All-nil (NamesPorts 1))
answered_named true false false key event copies gs = All-nil (NamesPorts 1)

-- what an event does moves copies as every transform may
pub answered_moves : (found starts ends : Bool) (key : Datum) (event : Event) (copies : List Copy) (now : ℕ) (gs : List Group) (before after : Shelved) → found ≡ is_some (group_of key gs) → after ≡ put_all before (outputs_after found starts ends key event copies gs) → Moves 1 (copies_held gs ++ copies) (copies_held (groups_after found starts ends key event copies now gs)) before after
answered_moves found starts ends key event copies now gs before after h e =
    subst (λ (s : Shelved). Moves 1 (copies_held gs ++ copies) (copies_held (groups_after found starts ends key event copies now gs)) before s) (sym e)
    (put_all_moves before (outputs_after found starts ends key event copies gs) (copies_held gs ++ copies) (copies_held (groups_after found starts ends key event copies now gs)) (answered_named found starts ends key event copies gs) (answered_copies found starts ends key event copies now gs h))
