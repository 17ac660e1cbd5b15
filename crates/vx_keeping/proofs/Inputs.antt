-- What a reduce makes of inputs one behind the other.
use Rattle.std.proofs.Common.{◌≡◌, ℕ, ◌+◌, Bool, true, false, cond, List, [], ◌∷◌, ◌++◌, map, reverse, refl, sym, ap, ◌∙◌, subst, arith, inl, inr, append_assoc, append-nil}
use Rattle.std.specs.Prelude.{◌⊎◌, not, filter, Some, None}
use Rattle.std.specs.List.{sum_by}
use Rattle.std.proofs.lemmas.List.{reverse-append, map-append}
use Rattle.std.proofs.lemmas.List.Sums.{sum_by-append}
use Rattle.vx_ledger.specs.Copies.{Copy, joined}
use Rattle.vx_ledger.specs.declared.parcel.Parcel.{Parcel}
use Rattle.vx_transform.specs.declared.output.Output.{Output}
use Rattle.vx_transform.specs.Shelves.{Shelved, copies_dropped, copies_on}
use Rattle.vx_transform.specs.Moves.{Moves}
use Rattle.vx_condition.specs.Reducing.{Settings}
use Rattle.vx_value.specs.Texts.{is_empty}
use Rattle.vx_condition.specs.Picking.{held}
use Rattle.vx_reduce.specs.declared.reduce.Reduce.{Reduce}
use Rattle.vx_reduce.specs.declared.group.Group.{Group}
use Rattle.vx_reduce.specs.Groups.{copies_held, put_all, outputs_of}
use Rattle.vx_reduce.specs.Reducers.{HasAnswered, HasChecked, is_due_at, due_of}
use Rattle.vx_reduce.specs.Expiries.{is_old}
use Rattle.vx_reduce.specs.Inputs.{Input, arrived, ticked, at_end, outputs_at, outputs_over}
use Rattle.vx_reduce.specs.Standing.{AreMeant, settings_of, IsAt, GoesOn, PutsOut, IsMeant}
use Rattle.vx_keeping.specs.Given.{arrived_all, copies_in, SameCopies, StaysBare, IsGiven}
use Rattle.vx_keeping.proofs.Weights.{joined-append, dropped-append, moves_same}

-- LISTS
pub reverse_behind : {X : Type 0} (x : X) (xs ys : List X) → reverse (x ∷ xs) ++ ys ≡ reverse xs ++ x ∷ ys
reverse_behind x xs ys = ap (λ l. l ++ ys) (reverse-append (x ∷ []) xs) ∙ append_assoc (reverse xs) (x ∷ []) ys

pub reverse_both : {X : Type 0} (xs ys zs : List X) → reverse (xs ++ ys) ++ zs ≡ reverse ys ++ (reverse xs ++ zs)
reverse_both xs ys zs = ap (λ l. l ++ zs) (reverse-append xs ys) ∙ append_assoc (reverse ys) (reverse xs) zs

-- what some inputs and then others put out
pub over_append : (s : Settings) (before xs ys : List Input) → outputs_over s before (xs ++ ys) ≡ outputs_over s before xs ++ outputs_over s (reverse xs ++ before) ys
over_append s before [] ys = refl
over_append s before (x ∷ xs) ys =
    ap (λ os. outputs_at s before x ++ os) (over_append s (x ∷ before) xs ys)
    ∙ sym (append_assoc (outputs_at s before x) (outputs_over s (x ∷ before) xs) (outputs_over s (reverse xs ++ x ∷ before) ys))
    ∙ ap (λ l. (outputs_at s before x ++ outputs_over s (x ∷ before) xs) ++ outputs_over s l ys) (sym (reverse_behind x xs before))

pub put_twice : (shelf : Shelved) (xs ys : List Output) → put_all (put_all shelf xs) ys ≡ put_all shelf (xs ++ ys)
put_twice shelf xs ys = let f : List Output → Shelved = λ os. record { outputs = os; dropped = shelf.dropped } in ap f (append_assoc shelf.outputs xs ys)

pub meant_still : (old new : Reduce) → settings_of new ≡ settings_of old → IsMeant old → IsMeant new
meant_still old new set m = (m.0, subst (λ settings. AreMeant m.0 settings) (sym set) m.1)

-- NOTHING
pub given_none : (r : Reduce) (shelf : Shelved) → IsGiven [] r r shelf shelf
given_none r shelf = record {
  stands = λ s earlier is. is;
  shelf = λ s earlier is. let f : List Output → Shelved = λ os. record { outputs = os; dropped = shelf.dropped } in ap f (sym (append-nil shelf.outputs));
  dropped = refl;
  set = refl;
  meant = inr (λ none. (none, refl));
  same = λ w. refl;
}

-- SOME, AND THEN OTHERS
module _ (xs ys : List Input) (old mid new : Reduce) (before then after : Shelved) (first : IsGiven xs old mid before then) (second : IsGiven ys mid new then after) where
  meant_both : IsMeant new ⊎ StaysBare old new before after
  meant_both = go first.meant second.meant
    where
      go : IsMeant mid ⊎ StaysBare old mid before then → IsMeant new ⊎ StaysBare mid new then after → IsMeant new ⊎ StaysBare old new before after
      go (inl m) other = inl (meant_still mid new second.set m)
      go (inr f) (inl m) = inl m
      go (inr f) (inr g) = inr (λ none. let a = f none in let b = g a.0 in (b.0, b.1 ∙ a.1))

  same_both : SameCopies (copies_held old.groups ++ (copies_in (xs ++ ys) ++ copies_on before)) (copies_held new.groups ++ copies_on after)
  same_both w =
      let a = first.same w in
      let b = second.same w in
      let e0 = sum_by-append w (copies_held old.groups) (copies_in (xs ++ ys) ++ copies_on before) in
      let e1 = sum_by-append w (copies_in (xs ++ ys)) (copies_on before) in
      let e2 = ap (λ l. sum_by w (joined l)) (map-append (λ (x : Input). x.copies) xs ys) ∙ joined-append (map (λ (x : Input). x.copies) xs) (map (λ (x : Input). x.copies) ys) w in
      let f0 = sum_by-append w (copies_held old.groups) (copies_in xs ++ copies_on before) in
      let f1 = sum_by-append w (copies_in xs) (copies_on before) in
      let g0 = sum_by-append w (copies_held mid.groups) (copies_on then) in
      let h0 = sum_by-append w (copies_held mid.groups) (copies_in ys ++ copies_on then) in
      let h1 = sum_by-append w (copies_in ys) (copies_on then) in
      omega (arith, a, b, e0, e1, e2, f0, f1, g0, h0, h1)

  pub given_both : IsGiven (xs ++ ys) old new before after
  given_both = record {
    stands = λ s earlier is. subst (λ l. IsAt s l new) (sym (reverse_both xs ys earlier)) (second.stands s (reverse xs ++ earlier) (first.stands s earlier is));
    shelf = λ s earlier is.
        second.shelf s (reverse xs ++ earlier) (first.stands s earlier is)
        ∙ ap (λ (sh : Shelved). put_all sh (outputs_over s (reverse xs ++ earlier) ys)) (first.shelf s earlier is)
        ∙ put_twice before (outputs_over s earlier xs) (outputs_over s (reverse xs ++ earlier) ys)
        ∙ ap (put_all before) (sym (over_append s earlier xs ys));
    dropped = second.dropped ∙ first.dropped;
    set = second.set ∙ first.set;
    meant = meant_both;
    same = same_both;
  }

-- ONE
module _ (x : Input) (old new : Reduce) (before after : Shelved) (on : GoesOn old new x) (out : PutsOut old x before after) (dropped : after.dropped ≡ before.dropped) (set : settings_of new ≡ settings_of old)
    (meant : IsMeant new ⊎ StaysBare old new before after) (moves : Moves 1 (copies_held old.groups ++ x.copies) (copies_held new.groups) before after) where
  pub given_one : IsGiven (x ∷ []) old new before after
  given_one = record {
    stands = λ s earlier is. on s earlier is;
    shelf = λ s earlier is. out s earlier is ∙ ap (put_all before) (sym (append-nil (outputs_at s earlier x)));
    dropped = dropped;
    set = set;
    meant = meant;
    same = λ w.
        let a = moves_same 1 (copies_held old.groups ++ x.copies) (copies_held new.groups) before after moves w in
        let b = sum_by-append w (copies_held old.groups ++ x.copies) (copies_on before) in
        let c = sum_by-append w (copies_held old.groups) x.copies in
        let d = sum_by-append w (copies_held old.groups) ((x.copies ++ []) ++ copies_on before) in
        let e = sum_by-append w (x.copies ++ []) (copies_on before) in
        let f = ap (sum_by w) (append-nil x.copies) in
        omega (arith, a, b, c, d, e, f);
  }

-- a parcel
pub given_parcel : (parcel : Parcel) (now : ℕ) (old new : Reduce) (before after : Shelved) → GoesOn old new (arrived parcel now) → PutsOut old (arrived parcel now) before after → IsMeant old →
    HasAnswered old new parcel now before after → Moves 1 (copies_held old.groups ++ parcel.finalizers) (copies_held new.groups) before after → IsGiven (arrived parcel now ∷ []) old new before after
given_parcel parcel now old new before after on out meant answered moves =
    let set : settings_of new ≡ settings_of old = ap settings_of answered.state in
    given_one (arrived parcel now) old new before after on out (ap (λ (sh : Shelved). sh.dropped) answered.shelf) set (inl (meant_still old new set meant)) moves

-- a tick
set_if : (b : Bool) (r old : Reduce) → settings_of r ≡ settings_of old → settings_of (cond b r old) ≡ settings_of old
set_if true r old same = same
set_if false r old same = refl

dropped_if : (b : Bool) (shelf before : Shelved) → shelf.dropped ≡ before.dropped → (cond b shelf before).dropped ≡ before.dropped
dropped_if true shelf before same = same
dropped_if false shelf before same = refl

put_none : (shelf : Shelved) → put_all shelf [] ≡ shelf
put_none shelf = let f : List Output → Shelved = λ os. record { outputs = os; dropped = shelf.dropped } in ap f (append-nil shelf.outputs)

module _ (now : ℕ) (old new : Reduce) (before after : Shelved) (checked : HasChecked old new now before after) where
  checked_reduce : Reduce
  checked_reduce = record old { groups = filter (λ (g : Group). not (is_old old.expire_after_ms now g)) old.groups; since = now }

  checked_shelf : Shelved
  checked_shelf = put_all before (outputs_of (filter (is_old old.expire_after_ms now) old.groups))

  tick_bare : StaysBare old new before after
  unfolding checked_reduce checked_shelf
  tick_bare none =
      let undue : is_due_at (due_of old) now ≡ false = ap (λ (gs : List Group). is_due_at (cond (is_empty gs) None (Some (held (old.since + old.flush_period_ms)))) now) none in
      let same : new ≡ old = checked.state ∙ ap (λ (b : Bool). cond b checked_reduce old) undue in
      (ap (λ (r : Reduce). r.groups) same ∙ none, checked.shelf ∙ ap (λ (b : Bool). cond b checked_shelf before) undue)

  pub given_tick : GoesOn old new (ticked now) → PutsOut old (ticked now) before after → Moves 1 (copies_held old.groups) (copies_held new.groups) before after → IsGiven (ticked now ∷ []) old new before after
  unfolding checked_reduce checked_shelf
  given_tick on out moves = given_one (ticked now) old new before after on out
      (ap (λ (sh : Shelved). sh.dropped) checked.shelf ∙ dropped_if (is_due_at (due_of old) now) checked_shelf before refl)
      (ap settings_of checked.state ∙ set_if (is_due_at (due_of old) now) checked_reduce old refl)
      (inr tick_bare)
      (subst (λ l. Moves 1 l (copies_held new.groups) before after) (sym (append-nil (copies_held old.groups))) moves)

-- the flush
pub given_flush : (old new : Reduce) (before after : Shelved) → GoesOn old new at_end → PutsOut old at_end before after → after ≡ put_all before (outputs_of old.groups) → new ≡ record old { groups = [] } →
    Moves 1 (copies_held old.groups) (copies_held new.groups) before after → IsGiven (at_end ∷ []) old new before after
given_flush old new before after on out put state moves = given_one at_end old new before after on out
    (ap (λ (sh : Shelved). sh.dropped) put)
    (ap settings_of state)
    (inr (λ none. (ap (λ (r : Reduce). r.groups) state, put ∙ ap (λ (gs : List Group). put_all before (outputs_of gs)) none ∙ put_none before)))
    (subst (λ l. Moves 1 l (copies_held new.groups) before after) (sym (append-nil (copies_held old.groups))) moves)

-- THE PARCELS THAT WERE TAKEN
-- their copies are those of the inputs that they are
pub arrived_weigh : (now : ℕ) (ps : List Parcel) (w : Copy → ℕ) → sum_by w (copies_in (arrived_all now ps)) ≡ sum_by w (copies_dropped ps)
arrived_weigh now [] w = refl
arrived_weigh now (p ∷ ps) w =
    let a = sum_by-append w p.finalizers (copies_in (arrived_all now ps)) in
    let b = sum_by-append w p.finalizers (copies_dropped ps) in
    let ih = arrived_weigh now ps w in
    omega (arith, a, b, ih)

-- some of them were given, the oldest first, and the others wait
pub record GivesSome (now : ℕ) (all left : List Parcel) (old new : Reduce) (before after : Shelved) : Type 0 where
  pub done : List Parcel
  pub parted : all ≡ done ++ left
  pub given : IsGiven (arrived_all now done) old new before after

pub gives_none : (now : ℕ) (all : List Parcel) (r : Reduce) (shelf : Shelved) → GivesSome now all all r r shelf shelf
gives_none now all r shelf = record { done = []; parted = refl; given = given_none r shelf }

pub gives_more : (now : ℕ) (all was left : List Parcel) (parcel : Parcel) (old mid new : Reduce) (before then after : Shelved) → was ≡ parcel ∷ left → GivesSome now all was old mid before then →
    IsGiven (arrived parcel now ∷ []) mid new then after → GivesSome now all left old new before after
gives_more now all was left parcel old mid new before then after first g more = record {
  done = g.done ++ parcel ∷ [];
  parted = g.parted ∙ ap (λ l. g.done ++ l) first ∙ sym (append_assoc g.done (parcel ∷ []) left);
  given = subst (λ xs. IsGiven xs old new before after) (sym (map-append (λ (p : Parcel). arrived p now) g.done (parcel ∷ [])))
      (given_both (arrived_all now g.done) (arrived parcel now ∷ []) old mid new before then after g.given more);
}

-- no copy is lost or doubled meanwhile
pub gives_same : (now : ℕ) (all left : List Parcel) (old new : Reduce) (before after : Shelved) → GivesSome now all left old new before after →
    SameCopies (copies_held old.groups ++ (copies_dropped all ++ copies_on before)) (copies_held new.groups ++ (copies_dropped left ++ copies_on after))
gives_same now all left old new before after g w =
    let a = sum_by-append w (copies_held old.groups) (copies_dropped all ++ copies_on before) in
    let b = sum_by-append w (copies_dropped all) (copies_on before) in
    let c = ap (λ ps. sum_by w (copies_dropped ps)) g.parted ∙ dropped-append g.done left w in
    let d = sum_by-append w (copies_held new.groups) (copies_dropped left ++ copies_on after) in
    let e = sum_by-append w (copies_dropped left) (copies_on after) in
    let f = g.given.same w in
    let k = sum_by-append w (copies_held old.groups) (copies_in (arrived_all now g.done) ++ copies_on before) in
    let l = sum_by-append w (copies_in (arrived_all now g.done)) (copies_on before) in
    let m = sum_by-append w (copies_held new.groups) (copies_on after) in
    let n = arrived_weigh now g.done w in
    omega (arith, a, b, c, d, e, f, k, l, m, n)

-- also where one comes back
pub gives_some_same : (now : ℕ) (all was left : List Parcel) (old mid new : Reduce) (before then after : Shelved) → left ≡ was → new ≡ mid → after ≡ then → GivesSome now all was old mid before then →
    SameCopies (copies_held old.groups ++ (copies_dropped all ++ copies_on before)) (copies_held new.groups ++ (copies_dropped left ++ copies_on after))
gives_some_same now all was left old mid new before then after back same shelf g w =
    gives_same now all was old mid before then g w
    ∙ ap (λ (r : Reduce). sum_by w (copies_held r.groups ++ (copies_dropped was ++ copies_on then))) (sym same)
    ∙ ap (λ (ps : List Parcel). sum_by w (copies_held new.groups ++ (copies_dropped ps ++ copies_on then))) (sym back)
    ∙ ap (λ (sh : Shelved). sum_by w (copies_held new.groups ++ (copies_dropped left ++ copies_on sh))) (sym shelf)

-- all of them were
pub gives_all : (now : ℕ) (all : List Parcel) (old new : Reduce) (before after : Shelved) → GivesSome now all [] old new before after → IsGiven (arrived_all now all) old new before after
gives_all now all old new before after g = subst (λ ps. IsGiven (arrived_all now ps) old new before after) (sym (g.parted ∙ append-nil g.done)) g.given
