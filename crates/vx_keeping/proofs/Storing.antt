-- What a store makes of what its reduce puts out.
use Rattle.std.proofs.Common.{◌≡◌, ℕ, ◌+◌, Option, Some, None, List, [], ◌∷◌, ◌++◌, length, drop, refl, sym, ap, ◌∙◌, subst, arith, inl, inr, append_assoc, append-nil}
use Rattle.std.specs.Prelude.{◌⊎◌, IfNone, All}
use Rattle.std.specs.Global.{Vec}
use Rattle.std.specs.List.{sum_by}
use Rattle.std.proofs.lemmas.List.Sums.{sum_by-append, sum_by-cons}
use Rattle.vx_value.specs.Filled.{Filled}
use Rattle.vx_ledger.specs.Copies.{Copy}
use Rattle.vx_ledger.specs.declared.parcel.Parcel.{Parcel}
use Rattle.vx_transform.specs.Shelves.{Shelved, copies_put_out, copies_dropped, copies_on}
use Rattle.vx_transform.specs.Moves.{NamesPorts}
use Rattle.vx_transform.specs.declared.output.Output.{Output}
use Rattle.vx_reduce.specs.declared.reduce.Reduce.{Reduce}
use Rattle.vx_reduce.specs.Groups.{copies_held, put_all}
use Rattle.vx_reduce.specs.Inputs.{Input, outputs_over}
use Rattle.vx_reduce.specs.Standing.{IsMeant}
use Rattle.vx_keeping.specs.declared.store.Store.{Store}
use Rattle.vx_keeping.specs.Kept.{nothing, copies_made}
use Rattle.vx_keeping.specs.Making.{made_of, Gives}
use Rattle.vx_keeping.specs.declared.maker.Maker.{Maker}
use Rattle.vx_keeping.specs.Given.{copies_in, SameCopies, StaysBare, IsGiven, IsSound, IsHosted, Makes}
use Rattle.vx_keeping.specs.Stored.{with_shelf, shelf_of, copies_stored, GathersFrom}
use Rattle.vx_keeping.proofs.Weights.{put_out-append, no_copies}

-- WHAT WAS TAKEN OFF A SHELF STANDS BEFORE THE REST
shelf_is : (a b : Shelved) → a.outputs ≡ b.outputs → a.dropped ≡ b.dropped → a ≡ b
shelf_is a b outputs dropped =
    let f : List Output → Shelved = λ os. record { outputs = os; dropped = a.dropped } in
    let g : List Parcel → Shelved = λ ps. record { outputs = b.outputs; dropped = ps } in
    ap f outputs ∙ ap g dropped

on_weigh : (ready : List Output) (shelf : Shelved) (w : Copy → ℕ) → sum_by w (copies_on (with_shelf ready shelf)) ≡ sum_by w (copies_put_out ready) + sum_by w (copies_on shelf)
on_weigh ready shelf w =
    let a = sum_by-append w (copies_put_out (ready ++ shelf.outputs)) (copies_dropped shelf.dropped) in
    let b = put_out-append ready shelf.outputs w in
    let c = sum_by-append w (copies_put_out shelf.outputs) (copies_dropped shelf.dropped) in
    omega (arith, a, b, c)

module _ (xs : List Input) (old new : Reduce) (before mid after : Shelved) (ready more : List Output) (step : IsGiven xs old new before mid) (all : more ++ after.outputs ≡ ready ++ mid.outputs) (dropped : after.dropped ≡ mid.dropped) where
  same_shelf : with_shelf more after ≡ with_shelf ready mid
  same_shelf = shelf_is (with_shelf more after) (with_shelf ready mid) all dropped

  pub given_behind : IsGiven xs old new (with_shelf ready before) (with_shelf more after)
  given_behind = record {
    stands = step.stands;
    shelf = λ s earlier is.
        same_shelf ∙ ap (with_shelf ready) (step.shelf s earlier is)
        ∙ shelf_is (with_shelf ready (put_all before (outputs_over s earlier xs))) (put_all (with_shelf ready before) (outputs_over s earlier xs)) (sym (append_assoc ready before.outputs (outputs_over s earlier xs))) refl;
    dropped = dropped ∙ step.dropped;
    set = step.set;
    meant = meant step.meant;
    same = λ w.
        let a = step.same w in
        let b = sum_by-append w (copies_held old.groups) (copies_in xs ++ copies_on before) in
        let c = sum_by-append w (copies_in xs) (copies_on before) in
        let d = sum_by-append w (copies_held new.groups) (copies_on mid) in
        let e = sum_by-append w (copies_held old.groups) (copies_in xs ++ copies_on (with_shelf ready before)) in
        let f = sum_by-append w (copies_in xs) (copies_on (with_shelf ready before)) in
        let g = sum_by-append w (copies_held new.groups) (copies_on (with_shelf more after)) in
        let h = ap (λ (sh : Shelved). sum_by w (copies_on sh)) same_shelf in
        let j = on_weigh ready before w in
        let k = on_weigh ready mid w in
        omega (arith, a, b, c, d, e, f, g, h, j, k);
  }
    where
      meant : IsMeant new ⊎ StaysBare old new before mid → IsMeant new ⊎ StaysBare old new (with_shelf ready before) (with_shelf more after)
      meant (inl m) = inl m
      meant (inr f) = inr (λ none. let b = f none in (b.0, same_shelf ∙ ap (with_shelf ready) b.1))

-- NO COPY IS LOST OR DOUBLED
pub stored_weigh : (s : Store) (w : Copy → ℕ) →
    sum_by w (copies_stored s) ≡ sum_by w (copies_made (made_of s.maker)) + (sum_by w (copies_dropped s.taken.items) + (sum_by w (copies_put_out s.ready.items) + (sum_by w (copies_on s.shelf) + sum_by w s.discarded.items)))
stored_weigh s w =
    let a = sum_by-append w (copies_made (made_of s.maker)) (copies_dropped s.taken.items ++ (copies_on (shelf_of s) ++ s.discarded.items)) in
    let b = sum_by-append w (copies_dropped s.taken.items) (copies_on (shelf_of s) ++ s.discarded.items) in
    let c = sum_by-append w (copies_on (shelf_of s)) s.discarded.items in
    let d = on_weigh s.ready.items s.shelf w in
    omega (arith, a, b, c, d)

-- its maker acted by itself, or was given what was taken
pub stored_acted : (old : Store) (m : Maker) (shelf : Shelved) → SameCopies (copies_made (made_of old.maker) ++ copies_on old.shelf) (copies_made (made_of m) ++ copies_on shelf) →
    SameCopies (copies_stored old) (copies_stored (record old { maker = m; shelf = shelf }))
stored_acted old m shelf same w =
    let a = same w in
    let b = sum_by-append w (copies_made (made_of old.maker)) (copies_on old.shelf) in
    let c = sum_by-append w (copies_made (made_of m)) (copies_on shelf) in
    let d = stored_weigh old w in
    let e = stored_weigh (record old { maker = m; shelf = shelf }) w in
    omega (arith, a, b, c, d, e)

pub stored_answered : (old : Store) (m : Maker) (line : Filled Parcel) (shelf : Shelved) (left : Vec Copy) →
    SameCopies (copies_made (made_of old.maker) ++ (copies_dropped old.taken.items ++ (copies_on old.shelf ++ old.discarded.items))) (copies_made (made_of m) ++ (copies_dropped line.items ++ (copies_on shelf ++ left.items))) →
    SameCopies (copies_stored old) (copies_stored (record old { maker = m; taken = line; shelf = shelf; discarded = left }))
stored_answered old m line shelf left same w =
    let a = same w in
    let b = sum_by-append w (copies_made (made_of old.maker)) (copies_dropped old.taken.items ++ (copies_on old.shelf ++ old.discarded.items)) in
    let c = sum_by-append w (copies_dropped old.taken.items) (copies_on old.shelf ++ old.discarded.items) in
    let d = sum_by-append w (copies_on old.shelf) old.discarded.items in
    let e = sum_by-append w (copies_made (made_of m)) (copies_dropped line.items ++ (copies_on shelf ++ left.items)) in
    let f = sum_by-append w (copies_dropped line.items) (copies_on shelf ++ left.items) in
    let g = sum_by-append w (copies_on shelf) left.items in
    let h = stored_weigh old w in
    let k = stored_weigh (record old { maker = m; taken = line; shelf = shelf; discarded = left }) w in
    omega (arith, a, b, c, d, e, f, g, h, k)

-- WHAT IT MADE IS TAKEN OFF
no_names : All (NamesPorts 65) []
no_names k d l = absurd (omega (arith, l))

module _ (old mid new : Store) (bare : old.shelf ≡ nothing) where
  hosted_by : (parcels : List Parcel) → made_of old.maker ≡ None → made_of new.maker ≡ None → (All (NamesPorts 65) old.shelf.outputs → All (NamesPorts 65) mid.shelf.outputs) → GathersFrom None mid new → mid.ready ≡ old.ready →
      SameCopies (copies_stored old) (copies_stored new) → old.taken.items ≡ parcels → IsHosted parcels (shelf_of old) (shelf_of new) old.discarded.items new.discarded.items
  hosted_by parcels held holds named off ready same taken = record {
    sound = λ sound.
        let first : All IsSound old.ready.items = subst (All IsSound) (ap (λ (sh : Shelved). old.ready.items ++ sh.outputs) bare ∙ append-nil old.ready.items) sound in
        let there : All (NamesPorts 65) old.shelf.outputs = subst (λ (sh : Shelved). All (NamesPorts 65) sh.outputs) (sym bare) no_names in
        let next : All IsSound new.ready.items = off.0 (named there) (subst (λ (v : Vec Output). All IsSound v.items) (sym ready) first) in
        subst (All IsSound) (sym (ap (λ (sh : Shelved). new.ready.items ++ sh.outputs) off.1 ∙ append-nil new.ready.items)) next;
    dropped = ap (λ (sh : Shelved). sh.dropped) off.1;
    same = λ w.
        let a = same w in
        let b = sum_by-append w (copies_made (made_of old.maker)) (copies_dropped old.taken.items ++ (copies_on (shelf_of old) ++ old.discarded.items)) in
        let c = sum_by-append w (copies_made (made_of new.maker)) (copies_dropped new.taken.items ++ (copies_on (shelf_of new) ++ new.discarded.items)) in
        let d = ap (λ (m : Option Reduce). sum_by w (copies_made m)) held in
        let e = ap (λ (m : Option Reduce). sum_by w (copies_made m)) holds in
        let f = ap (λ ps. sum_by w (copies_dropped ps ++ (copies_on (shelf_of old) ++ old.discarded.items))) taken in
        let g = ap (λ ps. sum_by w (copies_dropped ps ++ (copies_on (shelf_of new) ++ new.discarded.items))) off.2 in
        omega (arith, a, b, c, d, e, f, g);
  }

  makes_by : (xs : List Input) (parcels : List Parcel) (m n : Option Reduce) (was gone : List Copy) → made_of old.maker ≡ m → made_of new.maker ≡ n → Gives xs m n old.shelf mid.shelf was gone → GathersFrom n mid new → mid.ready ≡ old.ready →
      (gone ≡ was → mid.discarded.items ≡ old.discarded.items) → SameCopies (copies_stored old) (copies_stored new) → old.taken.items ≡ parcels → Makes xs parcels m n (shelf_of old) (shelf_of new) old.discarded.items new.discarded.items
  makes_by xs parcels (Some r) (Some s) was gone held holds gives off ready kept same taken =
      let all : new.ready.items ++ new.shelf.outputs ≡ old.ready.items ++ mid.shelf.outputs = ap (λ (sh : Shelved). sh.outputs) off.0 ∙ ap (λ (v : Vec Output). v.items ++ mid.shelf.outputs) ready in (
        given_behind xs r s old.shelf mid.shelf new.shelf old.ready.items new.ready.items gives.0 all (ap (λ (sh : Shelved). sh.dropped) off.0),
        off.2 ∙ kept gives.1,
      )
  makes_by xs parcels None None was gone held holds gives off ready kept same taken = hosted_by parcels held holds gives off ready same taken
  makes_by xs parcels (Some r) None was gone held holds gives off ready kept same taken = absurd gives
  makes_by xs parcels None (Some s) was gone held holds gives off ready kept same taken = absurd gives

  bare_by : (xs : List Input) (m n : Option Reduce) (was gone : List Copy) → Gives xs m n old.shelf mid.shelf was gone → GathersFrom n mid new → new.shelf ≡ nothing
  bare_by xs (Some r) (Some s) was gone gives off = off.3 (gives.0.dropped ∙ ap (λ (sh : Shelved). sh.dropped) bare)
  bare_by xs None None was gone gives off = off.1
  bare_by xs (Some r) None was gone gives off = absurd gives
  bare_by xs None (Some s) was gone gives off = absurd gives

  -- a host that was given nothing discards nothing
  kept_by : (n : Option Reduce) → made_of old.maker ≡ n → made_of new.maker ≡ n → GathersFrom n mid new → mid.ready ≡ old.ready → mid.discarded ≡ old.discarded → SameCopies (copies_stored old) (copies_stored new) → old.taken.items ≡ [] →
      new.discarded.items ≡ old.discarded.items
  kept_by (Some r) held holds off ready kept same taken = off.2 ∙ ap (λ (v : Vec Copy). v.items) kept
  kept_by None held holds off ready kept same taken =
      let more : List Copy = drop (length mid.discarded.items) new.discarded.items in
      let outputs : List Output = drop (length mid.ready.items) new.ready.items in
      let none : more ≡ [] = no_copies more (λ w.
      let a = same w in
      let b = stored_weigh old w in
      let c = stored_weigh new w in
      let d = ap (λ (m : Option Reduce). sum_by w (copies_made m)) held in
      let e = ap (λ (m : Option Reduce). sum_by w (copies_made m)) holds in
      let f = ap (λ ps. sum_by w (copies_dropped ps)) taken in
      let g = ap (λ (sh : Shelved). sum_by w (copies_on sh)) bare in
      let h = ap (λ os. sum_by w (copies_put_out os)) off.3 ∙ put_out-append mid.ready.items outputs w in
      let k = ap (sum_by w) off.4 ∙ sum_by-append w mid.discarded.items more in
      let l = ap (λ (v : Vec Output). sum_by w (copies_put_out v.items)) ready in
      let m = ap (λ (v : Vec Copy). sum_by w v.items) kept in
      omega (arith, a, b, c, d, e, f, g, h, k, l, m)) in
      off.4 ∙ ap (λ cs. mid.discarded.items ++ cs) none ∙ append-nil mid.discarded.items ∙ ap (λ (v : Vec Copy). v.items) kept

pub none_by : (mid new : Store) (n : Option Reduce) → GathersFrom n mid new → mid.taken.items ≡ [] → new.taken.items ≡ []
none_by mid new (Some r) off none = off.1 ∙ none
none_by mid new None off none = off.2

-- as the calls have it
module _ (old mid new : Store) (maker : new.maker ≡ mid.maker) where
  pub makes_all : (xs : List Input) (parcels : List Parcel) (was gone : List Copy) → Gives xs (made_of old.maker) (made_of mid.maker) old.shelf mid.shelf was gone → GathersFrom (made_of mid.maker) mid new → mid.ready ≡ old.ready →
      (gone ≡ was → mid.discarded.items ≡ old.discarded.items) → SameCopies (copies_stored old) (copies_stored new) → old.taken.items ≡ parcels → old.shelf ≡ nothing →
      Makes xs parcels (made_of old.maker) (made_of new.maker) (shelf_of old) (shelf_of new) old.discarded.items new.discarded.items
  makes_all xs parcels was gone gives off ready kept same taken bare =
      subst (λ (n : Option Reduce). Makes xs parcels (made_of old.maker) n (shelf_of old) (shelf_of new) old.discarded.items new.discarded.items) (sym (ap made_of maker))
      (makes_by old mid new bare xs parcels (made_of old.maker) (made_of mid.maker) was gone refl (ap made_of maker) gives off ready kept same taken)

  pub kept_all : (xs : List Input) (was gone : List Copy) → Gives xs (made_of old.maker) (made_of mid.maker) old.shelf mid.shelf was gone → GathersFrom (made_of mid.maker) mid new → mid.ready ≡ old.ready → mid.discarded ≡ old.discarded →
      SameCopies (copies_stored old) (copies_stored new) → old.shelf ≡ nothing → old.taken.items ≡ [] → new.discarded.items ≡ old.discarded.items
  kept_all xs was gone gives off ready kept same bare taken = go (made_of old.maker) (made_of mid.maker) refl (ap made_of maker) gives off
    where
      go : (m n : Option Reduce) → made_of old.maker ≡ m → made_of new.maker ≡ n → Gives xs m n old.shelf mid.shelf was gone → GathersFrom n mid new → new.discarded.items ≡ old.discarded.items
      go (Some r) (Some s) held holds gives off = off.2 ∙ ap (λ (v : Vec Copy). v.items) kept
      go None None held holds gives off = kept_by old mid new bare None held holds off ready kept same taken
      go (Some r) None held holds gives off = absurd gives
      go None (Some s) held holds gives off = absurd gives

  pub bare_all : (xs : List Input) (was gone : List Copy) → Gives xs (made_of old.maker) (made_of mid.maker) old.shelf mid.shelf was gone → GathersFrom (made_of mid.maker) mid new → old.shelf ≡ nothing → new.shelf ≡ nothing
  bare_all xs was gone gives off bare = bare_by old mid new bare xs (made_of old.maker) (made_of mid.maker) was gone gives off

-- A COPY IS TAKEN OUT
-- where no parcel waits that has one, the next one comes off the outputs
pub next_stored : (old : Store) (line : Filled Parcel) (ready : Vec Output) (shelf : Shelved) (parcel : Parcel) → copies_dropped old.taken.items ≡ [] →
    SameCopies (copies_put_out old.ready.items ++ copies_on old.shelf) (parcel.finalizers ++ (copies_put_out ready.items ++ copies_on shelf)) → line.items ≡ parcel ∷ [] →
    SameCopies (copies_stored old) (copies_stored (record old { taken = line; ready = ready; shelf = shelf }))
next_stored old line ready shelf parcel none same items w =
    let a = same w in
    let b = sum_by-append w (copies_put_out old.ready.items) (copies_on old.shelf) in
    let c = sum_by-append w parcel.finalizers (copies_put_out ready.items ++ copies_on shelf) in
    let d = sum_by-append w (copies_put_out ready.items) (copies_on shelf) in
    let e = ap (sum_by w) none in
    let f = ap (λ ps. sum_by w (copies_dropped ps)) items in
    let g = sum_by-append w parcel.finalizers [] in
    let h = stored_weigh old w in
    let k = stored_weigh (record old { taken = line; ready = ready; shelf = shelf }) w in
    omega (arith, a, b, c, d, e, f, g, h, k)

-- one of a parcel that waits
pub taken_stored : (old : Store) (line : Filled Parcel) (copy : Copy) → SameCopies (copies_dropped old.taken.items) (copy ∷ copies_dropped line.items) →
    SameCopies (copies_stored old) (copy ∷ copies_stored (record old { taken = line }))
taken_stored old line copy same w =
    let a = same w in
    let b = sum_by-cons w copy (copies_dropped line.items) in
    let c = sum_by-cons w copy (copies_stored (record old { taken = line })) in
    let d = stored_weigh old w in
    let e = stored_weigh (record old { taken = line }) w in
    omega (arith, a, b, c, d, e)

pub none_weaker : {X P Q : Type 0} (o : Option X) → (P → Q) → IfNone o P → IfNone o Q
none_weaker None f p = f p
none_weaker (Some x) f p = tt

-- where there is none either, it is the maker's, or discarded
pub only_kept : (s : Store) → copies_dropped s.taken.items ≡ [] → s.ready.items ≡ [] → s.shelf ≡ nothing → copies_stored s ≡ copies_made (made_of s.maker) ++ s.discarded.items
only_kept s taken ready shelf =
    ap (λ (cs : List Copy). copies_made (made_of s.maker) ++ (cs ++ ((copies_put_out (s.ready.items ++ s.shelf.outputs) ++ copies_dropped s.shelf.dropped) ++ s.discarded.items))) taken
    ∙ ap (λ (os : List Output). copies_made (made_of s.maker) ++ ((copies_put_out (os ++ s.shelf.outputs) ++ copies_dropped s.shelf.dropped) ++ s.discarded.items)) ready
    ∙ ap (λ (sh : Shelved). copies_made (made_of s.maker) ++ ((copies_put_out sh.outputs ++ copies_dropped sh.dropped) ++ s.discarded.items)) shelf

pub last_stored : (all : List Copy) (old new : Store) (copy : Copy) → SameCopies all (copies_stored old) → copies_stored old ≡ copies_made (made_of old.maker) ++ old.discarded.items →
    copies_stored new ≡ copies_made (made_of new.maker) ++ new.discarded.items →
    SameCopies (copies_made (made_of old.maker) ++ old.discarded.items) (copy ∷ (copies_made (made_of new.maker) ++ new.discarded.items)) → SameCopies all (copy ∷ copies_stored new)
last_stored all old new copy same was is moved w = same w ∙ ap (sum_by w) was ∙ moved w ∙ ap (λ cs. sum_by w (copy ∷ cs)) (sym is)

pub none_stored : (all : List Copy) (old : Store) → SameCopies all (copies_stored old) → copies_stored old ≡ copies_made (made_of old.maker) ++ old.discarded.items →
    copies_made (made_of old.maker) ++ old.discarded.items ≡ [] → all ≡ []
none_stored all old same was none = no_copies all (λ w. let a = same w in let b = ap (sum_by w) (was ∙ none) in omega (arith, a, b))

-- NO COPY AT ALL
pub record HasNone (s : Store) : Type 0 where
  pub maker : copies_made (made_of s.maker) ≡ []
  pub taken : copies_dropped s.taken.items ≡ []
  pub ready : copies_put_out s.ready.items ≡ []
  pub shelf : copies_on s.shelf ≡ []
  pub discarded : s.discarded.items ≡ []

pub has_none : (s : Store) → copies_stored s ≡ [] → HasNone s
has_none s none = record {
  maker = no_copies (copies_made (made_of s.maker)) (λ w. let e = weighs w in omega (arith, e));
  taken = no_copies (copies_dropped s.taken.items) (λ w. let e = weighs w in omega (arith, e));
  ready = no_copies (copies_put_out s.ready.items) (λ w. let e = weighs w in omega (arith, e));
  shelf = no_copies (copies_on s.shelf) (λ w. let e = weighs w in omega (arith, e));
  discarded = no_copies s.discarded.items (λ w. let e = weighs w in omega (arith, e));
}
  where
    weighs : (w : Copy → ℕ) → sum_by w (copies_made (made_of s.maker)) + (sum_by w (copies_dropped s.taken.items) + (sum_by w (copies_put_out s.ready.items) + (sum_by w (copies_on s.shelf) + sum_by w s.discarded.items))) ≡ 0
    weighs w = let a = stored_weigh s w in let b = ap (sum_by w) none in omega (arith, a, b)

pub no_copy : (held left : List Copy) (copy : Copy) → SameCopies held (copy ∷ left) → held ≡ [] → ⊥
no_copy held left copy moved none =
    let w : Copy → ℕ = λ x. 1 in
    let a = moved w in let b = ap (sum_by w) none in let c = sum_by-cons w copy left in omega (arith, a, b, c)
