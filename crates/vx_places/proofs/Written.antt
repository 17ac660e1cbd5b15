-- What stands at each place, and which capacities there are, when one row is written.
use Rattle.std.proofs.Common.{◌≡◌, ℕ, zero, suc, ◌<◌, Bool, true, false, List, [], ◌∷◌, ◌++◌, length, get_or, refl, sym, ap, ◌∙◌, arith, Option, Some, None, IfNone, subst}
use Rattle.std.specs.Prelude.{slice_set, ◌==◌, IsNone, IsSomeAnd, ◌↔◌, ◌≤◌, not}
use Rattle.std.specs.List.{slice_get}
use Rattle.std.specs.Vec.{with_item}
use Rattle.std.specs.Global.{Vec}
use Rattle.std.proofs.lemmas.Bool.Decides.{nat_tests}
use Rattle.std.proofs.lemmas.Option.{slice_get-get_or}
use Rattle.std.proofs.lemmas.List.{length-set, get_or-set_same, set-get_or}
use Rattle.std.proofs.lemmas.Option.{slice_get_read}
use Rattle.std.proofs.Math.Seq.{map-set_same}
use native.Mathlib.Nat.{ℕ_set}
use native.Mathlib.Bridge.{le_prop}
use Rattle.vx_value.specs.Filled.{Filled}
use Rattle.vx_ledger.specs.Copies.{Copy}
use Rattle.vx_ledger.specs.declared.parcel.Parcel.{Parcel}
use Rattle.vx_ledger.specs.declared.child.Child.{Child}
use Rattle.vx_transform.specs.declared.output.Output.{Output}
use Rattle.vx_record.specs.Places.{Place, owner, same_place}
use Rattle.vx_record.specs.Places.Place.{Outputs, Waiting, Contents, Held}
use Rattle.vx_record.specs.Lists.{is_child_of}
use Rattle.vx_record.proofs.Changes.{same_place_is}
use Rattle.vx_places.specs.declared.row.Row.{Row}
use Rattle.vx_places.specs.Numbers.{parcels_out, for_target}
use Rattle.vx_places.specs.Views.{row_at, stage_at, stage_items, held_items, here, here_if, parcels_here, outputs_if, outputs_here, Others, Same, SameOutputs, KeepsPorts}
use Rattle.vx_places.specs.Capacities.{stage_capacities, line_capacity, capacities_if, held_capacity_if, SameCapacities, LendsCapacity}
use Rattle.vx_places.specs.Calls.{Takes, TakesOutput, Puts, Waits, Lends, Loses, LosesCopy, IsRow}

-- SMALL FACTS
pub one_some : {X : Type 0} (x y : X) → Some x ≡ Some y → x ≡ y
one_some x y same = cc

pub if_none : {X Q : Type 0} (r : Option X) → Q → IfNone r Q
if_none None q = q
if_none (Some x) q = tt

pub if_none_of : {X Q : Type 0} (r : Option X) → (IsNone r → Q) → IfNone r Q
if_none_of None f = f refl
if_none_of (Some x) f = tt

pub if_none_then : {X P Q : Type 0} (r : Option X) → (P → Q) → IfNone r P → IfNone r Q
if_none_then None f p = f p
if_none_then (Some x) f p = tt

-- two values are one where they differ in their proofs alone
pub same_but_ok : {X Y : Type 0} {P : X → Type 0} (F : (x : X) → P x → Y) → ((x : X) → IsProp (P x)) → {a b : X} (p : P a) (q : P b) → a ≡ b → F a p ≡ F b q
same_but_ok {P = P} F one {a = a} p q same = subst (λ x. (r : P x) → F a p ≡ F x r) same (λ r. ap (F a) (one a p r)) q

-- what is so of one place, and of every other, is so of each
pub each_place : (q : Place) (P : Place → Type 0) → P q → ((p : Place) → same_place q p ≡ false → P p) → (p : Place) → P p
each_place q P at_it elsewhere p = go (same_place q p) refl
  where
    go : (b : Bool) → same_place q p ≡ b → P p
    go true e = subst P (same_place_is q p e) at_it
    go false e = elsewhere p e

-- and what is so of the outputs of one instance, and of outputs that stay, is so of those of each
pub each_outputs : (R : List Output → List Output → Type 0) → ((os : List Output) → R os os) → (i : ℕ) (old new : List Row) → R (outputs_here old i) (outputs_here new i) →
    ((j : ℕ) → same_place (Outputs i) (Outputs j) ≡ false → outputs_here new j ≡ outputs_here old j) → (j : ℕ) → R (outputs_here old j) (outputs_here new j)
each_outputs R still i old new at_it elsewhere j = go (i == j) refl
  where
    go : (b : Bool) → (i == j) ≡ b → R (outputs_here old j) (outputs_here new j)
    go true is = let same : i ≡ j = grind (arith, nat_tests) in subst (λ k. R (outputs_here old k) (outputs_here new k)) same at_it
    go false is = subst (λ os. R (outputs_here old j) os) (sym (elsewhere j is)) (still (outputs_here old j))

-- what a test for a full or an empty list says where it is turned round
pub not_full : (r : Bool) (n m : ℕ) → ((r ≡ true) ↔ (n ≡ m)) → n ≤ m → (not r ≡ true) ↔ (n < m)
not_full r n m full within = grind (arith, full, within)

pub not_empty : {X : Type 0} (r : Bool) (items : List X) → ((r ≡ true) ↔ (items ≡ [])) → (not r ≡ true) ↔ (0 < length items)
not_empty r [] empty = grind (arith, empty)
not_empty r (x ∷ xs) empty = grind (arith, empty)

pub no_outputs : (os : List Output) → parcels_out os ≡ [] → os ≡ []
no_outputs [] none = refl
no_outputs (output ∷ os) none = cc

-- outputs are none where their parcels are
pub none_out : (r : Bool) (os : List Output) → ((r ≡ true) ↔ (os ≡ [])) → (r ≡ true) ↔ (parcels_out os ≡ [])
none_out r os empty = (λ is. ap parcels_out (empty.0 is), λ none. empty.1 (no_outputs os none))

-- AN ITEM THAT IS READ OR WRITTEN
-- `row_at` and `stage_at` compute as std's `slice_get` does, so what is said of that serves both
pub read : {X : Type 0} (xs : List X) (i : ℕ) (x : X) → i < length xs → x ≡ get_or xs i x → slice_get xs i ≡ Some x
read xs i x l at = slice_get_read xs (length xs) i x refl l at

pub written : {X : Type 0} (xs : List X) (i : ℕ) (x : X) → i < length xs → slice_get (slice_set xs i x) i ≡ Some x
written xs i x l = slice_get_read (slice_set xs i x) (length xs) i x (sym (length-set xs i x)) l (sym (get_or-set_same xs i x x l))

-- what holds of the item that was read, or is written
pub has : {X : Type 0} (F : X → Type 0) (xs : List X) (i : ℕ) (x : X) → i < length xs → x ≡ get_or xs i x → IsSomeAnd (slice_get xs i) F → F x
has F xs i x l at is = rw (read xs i x l at) at is

pub gets : {X : Type 0} (F : X → Type 0) (xs : List X) (i : ℕ) (x : X) → i < length xs → F x → IsSomeAnd (slice_get (slice_set xs i x) i) F
gets F xs i x l is = rw (written xs i x l) is

-- an item of which something is said is there
pub is_there : {X : Type 0} (F : X → Type 0) (xs : List X) (i : ℕ) → IsSomeAnd (slice_get xs i) F → i < length xs
is_there F [] i is = absurd is
is_there F (x ∷ xs) zero is = omega arith
is_there F (x ∷ xs) (suc i) is = let l = is_there F xs i is in omega (arith, l)

-- so a stage of a row of which something is said is before an end that isn't before the end of its stages
pub stage_before : (F : Filled Parcel → Type 0) (rows : List Row) (i s end : ℕ) (x : Row) → i < length rows →
    IsSomeAnd (slice_get rows i) (λ row. IsSomeAnd (slice_get row.stages.items s) F) → length (get_or rows i x).stages.items ≤ end → s < end
stage_before F rows i s end x within is past =
    let there = is_there F (get_or rows i x).stages.items s (rw (slice_get-get_or rows i x within) at is) in omega (arith, there, past)

-- what is made of the item at a place is what it was, where it is so of the item that is written
pub kept_but {ℓ} : {X : Type 0} {Y : Type ℓ} (F : Option X → Y) (xs : List X) (i : ℕ) (x new : X) → x ≡ get_or xs i x → (j : ℕ) → (j ≡ i → F (Some new) ≡ F (Some x)) →
    F (slice_get (slice_set xs i new) j) ≡ F (slice_get xs j)
kept_but F [] i x new at j same = refl
kept_but F (y ∷ xs) zero x new at zero same = same refl ∙ ap (λ z. F (Some z)) at
kept_but F (y ∷ xs) zero x new at (suc j) same = refl
kept_but F (y ∷ xs) (suc i) x new at zero same = refl
kept_but F (y ∷ xs) (suc i) x new at (suc j) same = kept_but F xs i x new at j (λ e. same (ap suc e))

-- and so what is said of the item at a place
pub said_still : {X : Type 0} (F : X → Type 0) (xs : List X) (i : ℕ) (x new : X) → x ≡ get_or xs i x → (j : ℕ) → IsSomeAnd (slice_get xs j) F → F new ≡ F x →
    IsSomeAnd (slice_get (slice_set xs i new) j) F
said_still F xs i x new at j is same = subst (λ (T : Type 0). T) (sym (kept_but (λ o. IsSomeAnd o F) xs i x new at j (λ _. same))) is

-- ONE PLACE
-- a place had this and has that now, and every other has what it had, on the same ports
pub record Changes (q : Place) (a b : Option (List Parcel)) (old new : List Row) : Type 0 where
  pub was : parcels_here old q ≡ a
  pub now : parcels_here new q ≡ b
  pub others : Others q old new
  pub outputs : (i : ℕ) → same_place q (Outputs i) ≡ false → outputs_here new i ≡ outputs_here old i

-- what a call says of it: a parcel was taken, parcels were put, a copy was lost, all were lent
module _ {q : Place} {a b : Option (List Parcel)} {old new : List Row} (c : Changes q a b old new) where
  pub back : Changes q b a new old
  back = record { was = c.now; now = c.was; others = λ p other. sym (c.others p other); outputs = λ j other. sym (c.outputs j other) }

  pub unchanged : a ≡ b → SameOutputs old new → Same old new
  unchanged same outputs =
      record { here = each_place q (λ p. parcels_here new p ≡ parcels_here old p) (c.now ∙ sym same ∙ sym c.was) c.others; outputs = outputs }

  -- where it is not a place of outputs, those stay
  pub keeps : ((j : ℕ) → same_place q (Outputs j) ≡ false) → KeepsPorts old new
  keeps apart j ports copy on = rw (c.outputs j (apart j)) at on

  pub takes : (parcel : Parcel) (rest : List Parcel) → a ≡ Some (parcel ∷ rest) → b ≡ Some rest → KeepsPorts old new → Takes q parcel old new
  takes parcel rest was now on = record { rest = rest; was = c.was ∙ was; now = c.now ∙ now; others = c.others; on = on }

  pub puts : (before more : List Parcel) → a ≡ Some before → b ≡ Some (before ++ more) → Puts q more old new
  puts before more was now = record { before = before; was = c.was ∙ was; now = c.now ∙ now; others = c.others; outputs = c.outputs }

  pub loses : (copy : Copy) (last : Bool) (before after : List Parcel) → a ≡ Some before → b ≡ Some after → LosesCopy copy last before after → KeepsPorts old new →
      Loses q copy last old new
  loses copy last before after was now less on =
      record { before = before; after = after; was = c.was ∙ was; now = c.now ∙ now; loses = less; others = c.others; on = on }

pub lends : {i : ℕ} {a b : Option (List Parcel)} {old new : List Row} → Changes (Held i) a b old new →
    (parcels : List Parcel) → a ≡ Some parcels → b ≡ None → Lends i parcels old new
lends c parcels was now = record { was = c.was ∙ was; now = c.now ∙ now; others = c.others; outputs = λ j. c.outputs j refl }

pub same_capacities_then : (old mid new : List Row) → SameCapacities old mid → SameCapacities mid new → SameCapacities old new
same_capacities_then old mid new first then i = ((then i).0 ∙ (first i).0, (then i).1 ∙ (first i).1)

-- A ROW THAT IS WRITTEN
module _ (rows : List Row) (i : ℕ) (row : Row) (l : i < length rows) (at : row ≡ get_or rows i row) where
  -- the places of the row have what it has; those of which the same is said in both rows have what they had
  pub read_at : (p : Place) → owner p ≡ i → parcels_here rows p ≡ here p row
  read_at p own = ap (λ k. here_if p (row_at rows k)) own ∙ ap (here_if p) (read rows i row l at)

  pub places_but : (new : Row) (p : Place) → (owner p ≡ i → here p new ≡ here p row) → parcels_here (slice_set rows i new) p ≡ parcels_here rows p
  places_but new p same = kept_but (here_if p) rows i row new at (owner p) same

  pub written_at : (new : Row) (p : Place) → owner p ≡ i → parcels_here (slice_set rows i new) p ≡ here p new
  written_at new p own = ap (λ k. here_if p (row_at (slice_set rows i new) k)) own ∙ ap (here_if p) (written rows i new l)

  pub outputs_but : (new : Row) (j : ℕ) → (j ≡ i → new.outputs.items ≡ row.outputs.items) → outputs_here (slice_set rows i new) j ≡ outputs_here rows j
  outputs_but new j same = kept_but outputs_if rows i row new at j same

  changes : (new : Row) (q : Place) → owner q ≡ i → ((p : Place) → owner p ≡ i → same_place q p ≡ false → here p new ≡ here p row) →
      (same_place q (Outputs i) ≡ false → new.outputs.items ≡ row.outputs.items) → Changes q (here q row) (here q new) rows (slice_set rows i new)
  changes new q own but still = record {
    was = read_at q own;
    now = written_at new q own;
    others = λ p other. places_but new p (λ mine. but p mine other);
    outputs = λ j other. outputs_but new j (λ mine. still (rw mine at other));
  }

  pub outputs_written : (o : Filled Output) →
      Changes (Outputs i) (Some (parcels_out row.outputs.items)) (Some (parcels_out o.items)) rows (slice_set rows i (record row { outputs = o }))
  outputs_written o = changes (record row { outputs = o }) (Outputs i) refl but (λ other. absurd (grind (arith, nat_tests, other)))
    where
      but : (p : Place) → owner p ≡ i → same_place (Outputs i) p ≡ false → here p (record row { outputs = o }) ≡ here p row
      but (Outputs j) own other = absurd (grind (arith, nat_tests, own, other))
      but p own other = refl

  -- the outputs that were there, and those that are
  pub outputs_were : outputs_here rows i ≡ row.outputs.items
  outputs_were = ap outputs_if (read rows i row l at)

  pub outputs_are : (new : Row) → outputs_here (slice_set rows i new) i ≡ new.outputs.items
  outputs_are new = ap outputs_if (written rows i new l)

  pub outputs_related : (R : List Output → List Output → Type 0) → ((os : List Output) → R os os) → (o : Filled Output) → R row.outputs.items o.items → (j : ℕ) →
      R (outputs_here rows j) (outputs_here (slice_set rows i (record row { outputs = o })) j)
  outputs_related R still o are = each_outputs R still i rows (slice_set rows i (record row { outputs = o }))
      (rw (outputs_were, outputs_are (record row { outputs = o })) are) (outputs_written o).outputs

  -- the oldest is taken, or put back
  pub output_taken : (output : Output) (o : Filled Output) → row.outputs.items ≡ output ∷ o.items → TakesOutput i output rows (slice_set rows i (record row { outputs = o }))
  output_taken output o is = record {
    oldest = outputs_were ∙ is ∙ ap (λ (os : List Output). output ∷ os) (sym (outputs_are (record row { outputs = o })));
    others = λ j apart. outputs_but (record row { outputs = o }) j (λ same. absurd (apart same));
  }

  pub output_back : (output : Output) (o : Filled Output) → o.items ≡ output ∷ row.outputs.items → TakesOutput i output (slice_set rows i (record row { outputs = o })) rows
  output_back output o is = record {
    oldest = outputs_are (record row { outputs = o }) ∙ is ∙ ap (λ (os : List Output). output ∷ os) (sym outputs_were);
    others = λ j apart. sym (outputs_but (record row { outputs = o }) j (λ same. absurd (apart same)));
  }

  pub held_written : (o : Option (Filled Parcel)) → Changes (Held i) (held_items row.held) (held_items o) rows (slice_set rows i (record row { held = o }))
  held_written o = changes (record row { held = o }) (Held i) refl but (λ _. refl)
    where
      but : (p : Place) → owner p ≡ i → same_place (Held i) p ≡ false → here p (record row { held = o }) ≡ here p row
      but (Held j) own other = absurd (grind (arith, nat_tests, own, other))
      but p own other = refl

  -- children are written
  module _ (new : Row) (outputs : new.outputs ≡ row.outputs) (stages : new.stages ≡ row.stages) (held : new.held ≡ row.held) where
    but_waiting : (Q : Place → Type 0) → ((j t : ℕ) → j ≡ i → Q (Waiting j t) → for_target t new.waiting.items ≡ for_target t row.waiting.items) →
        (p : Place) → owner p ≡ i → Q p → here p new ≡ here p row
    but_waiting Q same (Outputs j) own q = ap (λ (o : Filled Output). Some (parcels_out o.items)) outputs
    but_waiting Q same (Waiting j t) own q = ap Some (same j t own q)
    but_waiting Q same (Contents j s) own q = ap (λ (v : Vec (Filled Parcel)). Some (stage_items (stage_at v.items s))) stages
    but_waiting Q same (Held j) own q = ap held_items held

    still : new.outputs.items ≡ row.outputs.items
    still = ap (λ (o : Filled Output). o.items) outputs

    pub waiting_written : (t : ℕ) → ((u : ℕ) → (t == u) ≡ false → for_target u new.waiting.items ≡ for_target u row.waiting.items) →
        Changes (Waiting i t) (Some (for_target t row.waiting.items)) (Some (for_target t new.waiting.items)) rows (slice_set rows i new)
    waiting_written t same = changes new (Waiting i t) refl
        (but_waiting (λ p. same_place (Waiting i t) p ≡ false) (λ j u own other. same u (grind (arith, nat_tests, own, other)))) (λ _. still)

    pub children_wait : (children : List Child) → row.waiting.items ≡ [] → new.waiting.items ≡ children → Waits i children rows (slice_set rows i new)
    children_wait children none now = record {
      was = λ t. read_at (Waiting i t) refl ∙ ap (λ cs. Some (for_target t cs)) none;
      now = λ t. written_at new (Waiting i t) refl ∙ ap (λ cs. Some (for_target t cs)) now;
      others = λ p other. places_but new p (λ own. but_waiting (λ q. is_child_of i q ≡ false) (λ j t mine apart. absurd (grind (arith, nat_tests, mine, apart))) p own other);
      outputs = λ j. outputs_but new j (λ _. still);
    }

  -- a stage of which something is said is there, and it is so of the one that is read
  pub stage_of : (F : Filled Parcel → Type 0) (s : ℕ) → IsRow (λ r. IsSomeAnd (stage_at r.stages.items s) F) rows i →
      (s < length row.stages.items) × ((stage : Filled Parcel) → stage ≡ get_or row.stages.items s stage → F stage)
  stage_of F s is =
      let here : IsSomeAnd (stage_at row.stages.items s) F = has (λ (r : Row). IsSomeAnd (stage_at r.stages.items s) F) rows i row l at is in
      let within = is_there F row.stages.items s here in
      (within, λ stage got. has F row.stages.items s stage within got here)

  -- a stage is written
  module _ (s : ℕ) (stage new : Filled Parcel) (within : s < length row.stages.items) (got : stage ≡ get_or row.stages.items s stage) where
    abbrev pub with_stage : Row
    with_stage = record row { stages = with_item row.stages s new }

    pub stage_written : Changes (Contents i s) (Some stage.items) (Some new.items) rows (slice_set rows i with_stage)
    stage_written = record {
      was = change.was ∙ ap (λ o. Some (stage_items o)) (read row.stages.items s stage within got);
      now = change.now ∙ ap (λ o. Some (stage_items o)) (written row.stages.items s new within);
      others = change.others;
      outputs = change.outputs;
    }
      where
        but : (p : Place) → owner p ≡ i → same_place (Contents i s) p ≡ false → here p with_stage ≡ here p row
        but (Contents j r) own other =
            kept_but (λ o. Some (stage_items o)) row.stages.items s stage new got r (λ same. absurd (grind (arith, nat_tests, own, other, same)))
        but p own other = refl

        change : Changes (Contents i s) (here (Contents i s) row) (here (Contents i s) with_stage) rows (slice_set rows i with_stage)
        change = changes with_stage (Contents i s) refl but (λ _. refl)

    -- or nothing is
    pub stage_still : new ≡ stage → slice_set rows i with_stage ≡ rows
    stage_still same =
        ap (λ (v : Vec (Filled Parcel)). slice_set rows i (record row { stages = v }))
        (same_but_ok (λ (ss : List (Filled Parcel)) ok. record row.stages { items = ss; ok = ok }) (λ ss. hlevel (le_prop, ℕ_set)) (with_stage.stages.ok) row.stages.ok
        (ap (slice_set row.stages.items s) (same ∙ got) ∙ set-get_or row.stages.items s stage))
        ∙ ap (slice_set rows i) at ∙ set-get_or rows i row

  -- where the row has the capacities that it had, all are what they were
  pub capacities_kept : (new : Row) → stage_capacities new.stages.items ≡ stage_capacities row.stages.items → line_capacity new.held ≡ line_capacity row.held →
      SameCapacities rows (slice_set rows i new)
  capacities_kept new stages held j = (kept_but capacities_if rows i row new at j (λ _. stages), kept_but held_capacity_if rows i row new at j (λ _. held))

  pub stage_capacity_kept : (s : ℕ) (stage new : Filled Parcel) → stage ≡ get_or row.stages.items s stage → new.room ≡ stage.room →
      SameCapacities rows (slice_set rows i (record row { stages = with_item row.stages s new }))
  stage_capacity_kept s stage new got same = capacities_kept (record row { stages = with_item row.stages s new })
      (map-set_same (λ (f : Filled Parcel). f.room) row.stages.items s new stage (same ∙ ap (λ (f : Filled Parcel). f.room) got)) refl

  pub held_capacity_kept : (old new : Filled Parcel) → row.held ≡ Some old → new.room ≡ old.room → SameCapacities rows (slice_set rows i (record row { held = Some new }))
  held_capacity_kept old new there same = capacities_kept (record row { held = Some new }) refl (ap Some same ∙ ap line_capacity (sym there))

  -- what is held is lent, or comes back, with its room
  pub capacity_lent : (o : Option (Filled Parcel)) (room : ℕ) → line_capacity row.held ≡ Some room → line_capacity o ≡ None →
      LendsCapacity i room rows (slice_set rows i (record row { held = o }))
  capacity_lent o room was now = record {
    was = ap held_capacity_if (read rows i row l at) ∙ was;
    now = ap held_capacity_if (written rows i (record row { held = o }) l) ∙ now;
    others = λ j other. kept_but held_capacity_if rows i row (record row { held = o }) at j (λ same. absurd (other same));
    stages = λ j. kept_but capacities_if rows i row (record row { held = o }) at j (λ _. refl);
  }

  pub capacity_back : (o : Option (Filled Parcel)) (room : ℕ) → line_capacity row.held ≡ None → line_capacity o ≡ Some room →
      LendsCapacity i room (slice_set rows i (record row { held = o })) rows
  capacity_back o room was now = record {
    was = ap held_capacity_if (written rows i (record row { held = o }) l) ∙ now;
    now = ap held_capacity_if (read rows i row l at) ∙ was;
    others = λ j other. sym (kept_but held_capacity_if rows i row (record row { held = o }) at j (λ same. absurd (other same)));
    stages = λ j. sym (kept_but capacities_if rows i row (record row { held = o }) at j (λ _. refl));
  }
