-- How a call changes the places, by the numbers of their parcels, and the places of a record with one entry more.
use Rattle.std.proofs.Common.{◌≡◌, ℕ, Bool, true, false, List, [], ◌∷◌, ◌++◌, refl, sym, ap, ◌∙◌, arith, Option, Some, None, inl, inr, ◌<◌, IfSome, length}
use Rattle.std.specs.Prelude.{◌==◌, ◌⊎◌, if◌then◌else◌, nat_lt}
use Rattle.std.specs.Option.{option_map}
use Rattle.std.proofs.lemmas.Bool.{eqb-true}
use Rattle.std.proofs.lemmas.Bool.Decides.{nat_tests}
use Rattle.std.proofs.lemmas.Iterator.Adapters.{option_map_id}
use Rattle.std.proofs.lemmas.List.{map-append}
use Rattle.vx_value.specs.declared.event.Event.{Event}
use Rattle.vx_ledger.specs.Copies.{Copy, numbers_of}
use Rattle.vx_ledger.specs.declared.parcel.Parcel.{Parcel}
use Rattle.vx_ledger.specs.declared.child.Child.{Child}
use Rattle.vx_transform.specs.declared.output.Output.{Output}
use Rattle.vx_record.specs.declared.output.Output.{Output as NotedOutput}
use Rattle.vx_record.specs.declared.entry.Entry.{Entry}
use Rattle.vx_record.specs.declared.entry.Entry.TheVariants.{Born, Split, Push, Take, Answer, Spent}
use Rattle.vx_record.specs.Places.{Place, same_place, put_out}
use Rattle.vx_record.specs.Places.Place.{Outputs, Waiting, Contents, Held}
use Rattle.vx_record.specs.Lists.{shrunk, is_child_of}
use Rattle.vx_record.specs.Moving.{singles, children_for, parcels_of, IsStill}
use Rattle.vx_record.specs.Shifts.{younger, shift, at}
use Rattle.vx_record.specs.Records.{Record}
use Rattle.vx_record.specs.Copies.{count, joined, next_copy}
use Rattle.vx_record.specs.Batches.{parent, batch_of}
use Rattle.vx_record.specs.Parcels.{event_of, ports_of}
use Rattle.vx_record.specs.Legal.{IsLegal}
use Rattle.vx_record.proofs.Changes.{same_place_self, same_place_is}
use Rattle.vx_record.proofs.Answers.{count-shrunk}
use Rattle.vx_record.proofs.Counts.{count-append, unless-some}
use Rattle.vx_record.proofs.Events.{said_before}
use Rattle.vx_record.proofs.HeldCopies.{not_there}
use Rattle.vx_record.proofs.Live.{if_lt}
use Rattle.vx_record.proofs.OnePlace.{conserved}
use Rattle.vx_record.proofs.Shifting.{stands_at}
use Rattle.vx_places.specs.declared.row.Row.{Row}
use Rattle.vx_places.specs.Numbers.{numbers, parcels_in, parcels_out, for_target, noted, EachFilled}
use Rattle.vx_places.specs.Views.{parcels_here, numbers_here, outputs_here, Others, Same, SameOutputs, AddsKeeper, IsAmong, IsAt, IsIn, IsOnAmong, IsOn}
use Rattle.vx_places.specs.Holding.{IsNoAnswer, WasSomewhere, IsKnown, PutsOn, Holds, Shifts}
use Rattle.vx_places.specs.Calls.{Takes, Puts, Waits, Moves, PutsOut, Divides}
use Rattle.vx_places.specs.Laws.{HoldsStep, StillShifts, SameHolds, KeeperHolds, TakenKnown, OldestThere, LentIs, LentComesBack, NoneHolds}
use Rattle.vx_places.proofs.Written.{each_place, each_outputs, one_some}
use Rattle.vx_places.proofs.Ports.{on_at, copy_counts, on-append, and_filled, born_on, numbers_out, noted_on, ports_put, ports_stay}

-- LISTS
among-append : (a b : List Parcel) (event : Event) (copy : Copy) → IsAmong (a ++ b) event copy → IsAmong a event copy ⊎ IsAmong b event copy
among-append [] b event copy is = inr is
among-append (p ∷ a) b event copy (inl is) = inl (inl is)
among-append (p ∷ a) b event copy (inr is) = elim (among-append a b event copy is) [ inl first ↦ inl (inr first) | inr more ↦ inr more ]

both : {X : Type 0} (F G : X → X) (o : Option X) → option_map F (option_map G o) ≡ option_map (λ was. F (G was)) o
both F G None = refl
both F G (Some x) = refl

-- the children for a target, by their numbers
numbers_for : (t : ℕ) (children : List Child) → EachFilled (parcels_in children) → numbers (for_target t children) ≡ children_for t (noted children)
numbers_for t [] filled = refl
numbers_for t (child ∷ rest) filled =
    let later = numbers_for t rest filled.1 in
    let here = and_filled child.parcel.finalizers (children_for t (noted rest)) filled.0 in
    grind (arith, later, here)

among_all : (t : ℕ) (children : List Child) (event : Event) (copy : Copy) → IsAmong (for_target t children) event copy → IsAmong (parcels_in children) event copy
among_all t [] event copy is = is
among_all t (child ∷ rest) event copy is = go (child.target == t) (among_all t rest event copy) is
  where
    go : (b : Bool) → (IsAmong (for_target t rest) event copy → IsAmong (parcels_in rest) event copy) →
        IsAmong (if b then child.parcel ∷ for_target t rest else for_target t rest) event copy → IsAmong (parcels_in (child ∷ rest)) event copy
    go true ih (inl here) = inl here
    go true ih (inr more) = inr (ih more)
    go false ih more = inr (ih more)

-- ONE PLACE
module _ (q : Place) (old new : List Row) {a b : List Parcel} (was : parcels_here old q ≡ Some a) (now : parcels_here new q ≡ Some b) (others : Others q old new) where
  -- what is made of it
  made : (F : List (List ℕ) → List (List ℕ)) → numbers b ≡ F (numbers a) → (p : Place) →
      numbers_here new p ≡ option_map (λ xs. if same_place q p then F xs else xs) (numbers_here old p)
  made F is = each_place q (λ p. numbers_here new p ≡ option_map (λ xs. if same_place q p then F xs else xs) (numbers_here old p))
      (rw (same_place_self q, now, was) (ap Some is))
      (λ p other. rw (other, others p other) (sym (option_map_id (numbers_here old p))))

  -- and where its copies were
  pub came : (More : Event → Copy → Type 0) → ((event : Event) (copy : Copy) → IsAmong b event copy → IsAmong a event copy ⊎ More event copy) →
      (p : Place) (event : Event) (copy : Copy) → IsAt new p event copy → IsAt old p event copy ⊎ More event copy
  came More from = each_place q (λ p. (event : Event) (copy : Copy) → IsAt new p event copy → IsAt old p event copy ⊎ More event copy)
      (λ event copy is. rw was (from event copy (rw now at is)))
      (λ p other event copy is. inl (rw (others p other) at is))

module _ {q : Place} {parcel : Parcel} {old new : List Row} (takes : Takes q parcel old new) where
  taken_made : (p : Place) → numbers_here new p ≡ option_map (λ xs. if same_place q p then younger xs else xs) (numbers_here old p)
  taken_made = made q old new takes.was takes.now takes.others younger refl

  taken_came : (p : Place) (event : Event) (copy : Copy) → IsAt new p event copy → IsAt old p event copy
  taken_came p event copy is =
      elim (came q old new takes.was takes.now takes.others (λ e c. ⊥) (λ e c at. inl (inr at)) p event copy is) [ inl before ↦ before | inr none ↦ absurd none ]

  taken_at : (event : Event) (copy : Copy) → IsAmong (parcel ∷ []) event copy → IsAt old q event copy
  taken_at event copy (inl is) = rw takes.was (inl is)
  taken_at event copy (inr is) = absurd is

module _ {q : Place} {more : List Parcel} {old new : List Row} (puts : Puts q more old new) where
  put_made : (p : Place) → numbers_here new p ≡ option_map (λ xs. if same_place q p then xs ++ numbers more else xs) (numbers_here old p)
  put_made = made q old new puts.was puts.now puts.others (λ xs. xs ++ numbers more) (map-append (λ (p : Parcel). numbers_of p.finalizers) puts.before more)

  put_came : (p : Place) (event : Event) (copy : Copy) → IsAt new p event copy → IsAt old p event copy ⊎ IsAmong more event copy
  put_came = came q old new puts.was puts.now puts.others (λ e c. IsAmong more e c) (among-append puts.before more)

-- WHAT IS PUT OUT, at a birth, or at an answer while what was held is lent
module _ {i : ℕ} (outputs : List Output) {old new : List Row} (put : Puts (Outputs i) (parcels_out outputs) old new) (added : outputs_here new i ≡ outputs_here old i ++ outputs) where
  abbrev parcels : List Parcel
  parcels = parcels_out outputs

  out : (copies : List (List ℕ)) → numbers parcels ≡ copies → (p : Place) →
      numbers_here new p ≡ option_map (λ xs. if same_place (Outputs i) p then xs ++ copies else xs) (numbers_here old p)
  out copies same p = rw same at (put_made put p)

  answered : (notes : List NotedOutput) (discarded kept : List ℕ) → numbers parcels ≡ parcels_of notes → parcels_here old (Held i) ≡ None →
      (p : Place) → numbers_here new p ≡ option_map (shift (Answer i notes discarded kept) p) (numbers_here old p)
  answered notes discarded kept same lent (Outputs j) = out (parcels_of notes) same (Outputs j)
  answered notes discarded kept same lent (Held j) = go (i == j) refl
    where
      go : (b : Bool) → (i == j) ≡ b → numbers_here new (Held j) ≡ option_map (λ xs. if b then shrunk (put_out notes) xs else xs) (numbers_here old (Held j))
      go true is =
          let own : i ≡ j = grind (arith, nat_tests) in
          let none : parcels_here old (Held j) ≡ None = rw own at lent in
          rw (put.others (Held j) refl, none)
      go false is = out (parcels_of notes) same (Held j)
  answered notes discarded kept same lent p = out (parcels_of notes) same p

  born : (b place : ℕ) (copies : List ℕ) (events : List Event) (waits : Bool) (stream end : ℕ) → numbers parcels ≡ singles copies →
      (p : Place) → numbers_here new p ≡ option_map (shift (Born i b place copies events waits stream end) p) (numbers_here old p)
  born b place copies events waits stream end same (Outputs j) = out (singles copies) same (Outputs j)
  born b place copies events waits stream end same p = out (singles copies) same p

  out_comes : (e : Entry) (p : Place) (event : Event) (copy : Copy) → IsAt new p event copy →
      IsAt old p event copy ⊎ ((IsNoAnswer e × WasSomewhere old event copy) ⊎ IsAmong parcels event copy)
  out_comes e p event copy is = elim (put_came put p event copy is) [ inl before ↦ inl before | inr more ↦ inr (inr more) ]

  out_on : (e : Entry) → ((ports : ℕ) (copy : Copy) → IsOnAmong outputs ports copy → PutsOn e ports copy.number) →
      (j ports : ℕ) (copy : Copy) → IsOn new j ports copy → IsOn old j ports copy ⊎ PutsOn e ports copy.number
  out_on e says = each_outputs (λ was now. (ports : ℕ) (copy : Copy) → IsOnAmong now ports copy → IsOnAmong was ports copy ⊎ PutsOn e ports copy.number)
      (λ os ports copy on. inl on) i old new
      (λ ports copy on. elim (on-append (outputs_here old i) outputs ports copy (rw added at on)) [ inl before ↦ inl before | inr more ↦ inr (says ports copy more) ])
      put.outputs

  pub births_put : PutsOut i outputs old new
  births_put = record {
    put = put;
    born = λ b place copies events waits stream end same on. record {
      each = born b place copies events waits stream end same;
      comes = out_comes (Born i b place copies events waits stream end);
      on = out_on (Born i b place copies events waits stream end) (λ ports copy is. born_on outputs copies ports copy same on is);
    };
    answered = λ notes discarded kept are filled lent. record {
      each = answered notes discarded kept (numbers_out outputs notes are filled) lent;
      comes = out_comes (Answer i notes discarded kept);
      on = out_on (Answer i notes discarded kept) (λ ports copy is. noted_on outputs notes ports copy are is);
    };
  }

-- A PARCEL THAT MOVES
abbrev first_gone : Place → Place → List (List ℕ) → List (List ℕ)
first_gone q p xs = if same_place q p then younger xs else xs

abbrev last_come : Place → List ℕ → Place → List (List ℕ) → List (List ℕ)
last_come q copies p xs = if same_place q p then xs ++ copies ∷ [] else xs

module _ {from to : Place} {parcel : Parcel} {old mid new : List Row} (taken : Takes from parcel old mid) (put : Puts to (parcel ∷ []) mid new) where
  moved : (p : Place) → numbers_here new p ≡ option_map (λ (xs : List (List ℕ)). last_come to (numbers_of parcel.finalizers) p (first_gone from p xs)) (numbers_here old p)
  moved p =
      put_made put p
      ∙ ap (option_map (last_come to (numbers_of parcel.finalizers) p)) (taken_made taken p)
      ∙ both (last_come to (numbers_of parcel.finalizers) p) (first_gone from p) (numbers_here old p)

  -- so it is where an entry that gives no copy another event says so
  moves : (entry : List ℕ → Entry) → IsNoAnswer (entry (numbers_of parcel.finalizers)) → ((j : ℕ) → same_place to (Outputs j) ≡ false) →
      ((p : Place) → numbers_here new p ≡ option_map (shift (entry (numbers_of parcel.finalizers)) p) (numbers_here old p)) → Moves entry from to old new
  moves entry none apart each = record {
    parcel = parcel;
    mid = mid;
    taken = taken;
    put = put;
    shifts = record {
      each = each;
      comes = λ p event copy is. elim (put_came put p event copy is) [
        | inl before ↦ inl (taken_came taken p event copy before)
        | inr more ↦ inr (inl (none, (from, taken_at taken event copy more)))
      ];
      on = λ j ports copy is. inl (taken.on j ports copy (rw (put.outputs j (apart j)) at is));
    };
  }

pub push_moves : {i t s : ℕ} {parcel : Parcel} {old mid new : List Row} → Takes (Waiting i t) parcel old mid → Puts (Contents t s) (parcel ∷ []) mid new →
    Moves (λ copies. Push i t s copies) (Waiting i t) (Contents t s) old new
push_moves {i} {t} {s} {parcel} {old} {mid} {new} taken put = moves taken put (λ copies. Push i t s copies) tt (λ j. refl) each
  where
    each : (p : Place) → numbers_here new p ≡ option_map (shift (Push i t s (numbers_of parcel.finalizers)) p) (numbers_here old p)
    each (Waiting j u) = moved taken put (Waiting j u)
    each p = moved taken put p

pub take_moves : {i s : ℕ} {parcel : Parcel} {old mid new : List Row} → Takes (Contents i s) parcel old mid → Puts (Held i) (parcel ∷ []) mid new →
    Moves (λ copies. Take i s copies) (Contents i s) (Held i) old new
take_moves {i} {s} {parcel} {old} {mid} {new} taken put = moves taken put (λ copies. Take i s copies) tt (λ j. refl) each
  where
    each : (p : Place) → numbers_here new p ≡ option_map (shift (Take i s (numbers_of parcel.finalizers)) p) (numbers_here old p)
    each (Held j) = moved taken put (Held j)
    each p = moved taken put p

-- or is taken away, while what its instance holds is lent
pub away_shifts : {i s : ℕ} {parcel : Parcel} {old new : List Row} → Takes (Contents i s) parcel old new → parcels_here old (Held i) ≡ None →
    Shifts (Take i s (numbers_of parcel.finalizers)) [] old new
away_shifts {i} {s} {parcel} {old} {new} taken lent = record {
  each = each;
  comes = λ p event copy now. inl (taken_came taken p event copy now);
  on = λ j ports copy now. inl (taken.on j ports copy now);
}
  where
    each : (p : Place) → numbers_here new p ≡ option_map (shift (Take i s (numbers_of parcel.finalizers)) p) (numbers_here old p)
    each (Held j) = go (i == j) refl
      where
        go : (b : Bool) → (i == j) ≡ b → numbers_here new (Held j) ≡ option_map (λ xs. if b then xs ++ numbers_of parcel.finalizers ∷ [] else xs) (numbers_here old (Held j))
        go true is =
            let own : i ≡ j = grind (arith, nat_tests) in
            let none : parcels_here old (Held j) ≡ None = rw own at lent in
            rw (taken.others (Held j) refl, none)
        go false is = taken_made taken (Held j)
    each p = taken_made taken p

pub taken_known : TakenKnown
taken_known h p parcel old new taken holds event copy is = holds.known p event copy (taken_at taken event copy is)

-- A SPLIT
module _ {i : ℕ} {children : List Child} {old mid new : List Row} {parcel : Parcel} (taken : Takes (Outputs i) parcel old mid) (waits : Waits i children mid new) where
  elsewhere : (p : Place) → is_child_of i p ≡ false → numbers_here new p ≡ option_map (first_gone (Outputs i) p) (numbers_here old p)
  elsewhere p other = rw (waits.others p other) (taken_made taken p)

  divided : (ports : ℕ) (event : Event) → EachFilled (parcels_in children) → (p : Place) →
      numbers_here new p ≡ option_map (shift (Split i ports (numbers_of parcel.finalizers) event (noted children)) p) (numbers_here old p)
  divided ports event filled (Waiting j t) = go (i == j) refl
    where
      go : (b : Bool) → (i == j) ≡ b → numbers_here new (Waiting j t) ≡ option_map (λ xs. if b then xs ++ children_for t (noted children) else xs) (numbers_here old (Waiting j t))
      go true is =
          let same : j ≡ i = grind (arith, nat_tests) in
          rw (same, waits.now t, ← (taken.others (Waiting i t) refl), waits.was t) (ap Some (numbers_for t children filled))
      go false is = elsewhere (Waiting j t) (grind (arith, nat_tests))
  divided ports event filled (Outputs j) = elsewhere (Outputs j) refl
  divided ports event filled p = elsewhere p refl

  child_comes : (p : Place) (ev : Event) (copy : Copy) → IsAt new p ev copy → IsAt old p ev copy ⊎ IsAmong (parcels_in children) ev copy
  child_comes p ev copy is = go p (is_child_of i p) refl is
    where
      go : (r : Place) (b : Bool) → is_child_of i r ≡ b → IsAt new r ev copy → IsAt old r ev copy ⊎ IsAmong (parcels_in children) ev copy
      go (Waiting j t) true mine there = let same : j ≡ i = grind (arith, nat_tests) in inr (among_all t children ev copy (rw (waits.now t) at (rw same at there)))
      go r false other there = inl (taken_came taken r ev copy (rw (waits.others r other) at there))
      go r true mine there = absurd cc

pub children_divide : {i : ℕ} {children : List Child} {mid new : List Row} → Waits i children mid new → Divides i children mid new
children_divide waits = record {
  wait = waits;
  split = λ old parcel ports event taken filled. record {
    each = divided taken waits ports event filled;
    comes = λ p ev copy is. elim (child_comes taken waits p ev copy is) [ inl before ↦ inl before | inr more ↦ inr (inr more) ];
    on = λ j onto copy is. inl (taken.on j onto copy (rw (waits.outputs j) at is));
  };
}

-- WHAT STANDS
stand_step : (F : List (List ℕ) → List (List ℕ)) (was : List (List ℕ)) (new old : Option (List Parcel)) →
    option_map numbers new ≡ option_map F (option_map numbers old) → IfSome old (λ ps. numbers ps ≡ was) → IfSome new (λ ps. numbers ps ≡ F was)
stand_step F was None old same is = tt
stand_step F was (Some b) None same is = absurd cc
stand_step F was (Some b) (Some a) same is = one_some (numbers b) (F (numbers a)) same ∙ ap F is

-- A COPY'S EVENT AND BATCH
event_lt : (m n : ℕ) (x y : Event) → m < n → (if nat_lt m n then x else y) ≡ x
event_lt m n x y l = grind (arith, nat_tests)

pub event_stays : (h : Record) (e : Entry) (c : ℕ) → IsNoAnswer e → c < next_copy h → event_of (e ∷ h) c ≡ event_of h c
event_stays h (Born i b place copies events waits stream end) c none l = event_lt c (next_copy h) (event_of h c) _ l
event_stays h (Split i ports copies event children) c none l = event_lt c (next_copy h) (event_of h c) event l
event_stays h (Answer i outputs discarded kept) c none l = absurd none
event_stays h e c none l = refl

batch_stays : (h : Record) (e : Entry) (c : ℕ) → c < next_copy h → batch_of (e ∷ h) c ≡ batch_of h c
batch_stays h (Born i b place copies events waits stream end) c l = if_lt c (next_copy h) (batch_of h c) b l
batch_stays h (Split i ports copies event children) c l = if_lt c (next_copy h) (batch_of h c) (batch_of h (parent (next_copy h) copies c)) l
batch_stays h e c l = refl

pub known_later : (h : Record) (e : Entry) (event : Event) (copy : Copy) → event_of (e ∷ h) copy.number ≡ event_of h copy.number → IsKnown h event copy → IsKnown (e ∷ h) event copy
known_later h e event copy same is =
    let made = is.made in record {
      made = omega (arith, made);
      said = same ∙ is.said;
      batch = batch_stays h e copy.number made ∙ is.batch;
      place = is.place;
    }

-- A COPY STANDS WHERE ITS PARCEL DOES
pub among_counts : (ps : List Parcel) (event : Event) (copy : Copy) → IsAmong ps event copy → 0 < count copy.number (joined (numbers ps))
among_counts [] event copy is = absurd is
among_counts (p ∷ ps) event copy (inl here) =
    let l = copy_counts p.finalizers copy here.1 in let e = count-append copy.number (numbers_of p.finalizers) (joined (numbers ps)) in omega (arith, l, e)
among_counts (p ∷ ps) event copy (inr more) =
    let l = among_counts ps event copy more in let e = count-append copy.number (numbers_of p.finalizers) (joined (numbers ps)) in omega (arith, l, e)

in_counts : (o : Option (List Parcel)) (there : List (List ℕ)) (event : Event) (copy : Copy) → IfSome o (λ ps. numbers ps ≡ there) → IsIn o event copy →
    0 < count copy.number (joined there)
in_counts None there event copy is at = absurd at
in_counts (Some ps) there event copy is at = rw is at (among_counts ps event copy at)

gone_none : (c : ℕ) (gone : List ℕ) (ps : List (List ℕ)) → 0 < count c (joined (shrunk gone ps)) → count c gone ≡ 0
gone_none c gone ps l = let e = count-shrunk c gone ps in grind (arith, unless-some, e, l)

-- what an answer puts out stood in the hold alone
held_alone : (h : Record) (i : ℕ) (made : List NotedOutput) (discarded rest : List ℕ) → IsLegal (Answer i made discarded rest ∷ h) → (p : Place) → same_place p (Held i) ≡ false →
    (c : ℕ) → 0 < count c (joined (at h p)) → count c (put_out made) ≡ 0
held_alone h i made discarded rest legal p other c there =
    let none = not_there h p (Held i) c (conserved h legal.1) other (rw (stands_at h p legal.1) there) in
    let released = (conserved (Answer i made discarded rest ∷ h) legal).0 c in
    omega (arith, none, released)

-- ONE ENTRY MORE
module _ (h : Record) (old new : List Row) (holds : Holds old h) where
  -- and is no more there
  not_put_out : (i : ℕ) (made : List NotedOutput) (discarded rest : List ℕ) → IsLegal (Answer i made discarded rest ∷ h) →
      ((p : Place) → IfSome (parcels_here new p) (λ ps. numbers ps ≡ at (Answer i made discarded rest ∷ h) p)) →
      (p : Place) (event : Event) (copy : Copy) → IsAt new p event copy → IsAt old p event copy → count copy.number (put_out made) ≡ 0
  not_put_out i made discarded rest legal stand p event copy now before = go (same_place p (Held i)) refl
    where
      self : (i == i) ≡ true
      self = grind (arith, nat_tests)

      go : (b : Bool) → same_place p (Held i) ≡ b → count copy.number (put_out made) ≡ 0
      go true e =
          let at_hold = rw (same_place_is p (Held i) e) at now in
          let l = in_counts (parcels_here new (Held i)) (shift (Answer i made discarded rest) (Held i) (at h (Held i))) event copy (stand (Held i)) at_hold in
          gone_none copy.number (put_out made) (at h (Held i)) (rw self at l)
      go false e = held_alone h i made discarded rest legal p e copy.number (in_counts (parcels_here old p) (at h p) event copy (holds.stand p) before)

  said_stays : (e : Entry) → IsLegal (e ∷ h) → ((p : Place) → IfSome (parcels_here new p) (λ ps. numbers ps ≡ at (e ∷ h) p)) →
      (p : Place) (event : Event) (copy : Copy) → IsAt new p event copy → IsAt old p event copy → event_of (e ∷ h) copy.number ≡ event_of h copy.number
  said_stays (Answer i made discarded rest) legal stand p event copy now before =
      said_before (λ (output : NotedOutput). output.event) made copy.number (event_of h copy.number) (not_put_out i made discarded rest legal stand p event copy now before)
  said_stays e legal stand p event copy now before = event_stays h e copy.number tt (holds.known p event copy before).made

  on_stays : (e : Entry) → IsLegal (e ∷ h) → (i ports : ℕ) (copy : Copy) → IsOn old i ports copy → ports_of (e ∷ h) copy.number ≡ ports
  on_stays e legal i ports copy on = go e legal ∙ holds.on i ports copy on
    where
      stood : (event : Event) × IsAt old (Outputs i) event copy
      stood = on_at old i ports copy on

      go : (e : Entry) → IsLegal (e ∷ h) → ports_of (e ∷ h) copy.number ≡ ports_of h copy.number
      go (Answer j made discarded rest) legal = said_before (λ (output : NotedOutput). output.ports) made copy.number (ports_of h copy.number)
          (held_alone h j made discarded rest legal (Outputs i) refl copy.number
          (in_counts (parcels_here old (Outputs i)) (at h (Outputs i)) stood.0 copy (holds.stand (Outputs i)) stood.1))
      go e legal = ports_stay h e copy.number tt (holds.known (Outputs i) stood.0 copy stood.1).made

pub holds_step : HoldsStep
holds_step h e put old new legal shifts known holds = record {
  stand = stand;
  known = λ p event copy now. elim (shifts.comes p event copy now) [
    | inl before ↦ known_later h e event copy (said_stays h old new holds e legal stand p event copy now before) (holds.known p event copy before)
    | inr other ↦ elim other [
      | inl moved ↦
          let was = holds.known moved.1.0 event copy moved.1.1 in
          known_later h e event copy (event_stays h e copy.number moved.0 was.made) was
      | inr fresh ↦ known event copy fresh
    ]
  ];
  on = λ i ports copy now. elim (shifts.on i ports copy now) [
    | inl before ↦ on_stays h old new holds e legal i ports copy before
    | inr out ↦ ports_put h e ports copy.number legal out
  ];
}
  where
    stand : (p : Place) → IfSome (parcels_here new p) (λ ps. numbers ps ≡ shift e p (at h p))
    stand p = stand_step (shift e p) (at h p) (parcels_here new p) (parcels_here old p) (shifts.each p) (holds.stand p)

still_each : (e : Entry) (rows : List Row) (p : Place) → IsStill e → numbers_here rows p ≡ option_map (shift e p) (numbers_here rows p)
still_each (Born i b place copies events waits stream end) rows p is = absurd is
still_each (Split i ports copies event children) rows p is = absurd is
still_each (Push i t s copies) rows p is = absurd is
still_each (Take i s copies) rows p is = absurd is
still_each (Answer i outputs discarded rest) rows p is = absurd is
still_each (Spent i c outcome) rows p is = absurd is
still_each e rows p is = sym (option_map_id (numbers_here rows p))

pub still_shifts : StillShifts
still_shifts e rows is = record { each = λ p. still_each e rows p is; comes = λ p event copy now. inl now; on = λ i ports copy now. inl now }

pub same_holds : SameHolds
same_holds h old new same holds = record {
  stand = λ p. rw (same.here p) (holds.stand p);
  known = λ p event copy now. holds.known p event copy (rw (same.here p) at now);
  on = λ i ports copy now. holds.on i ports copy (rw (same.outputs i) at now);
}

pub keeper_holds : KeeperHolds
keeper_holds h old new adds holds = record {
  stand = each_place (Held (length old)) (λ p. IfSome (parcels_here new p) (λ ps. numbers ps ≡ at h p)) (rw adds.held tt)
      (λ p other. rw (adds.others p other) (holds.stand p));
  known = each_place (Held (length old)) (λ p. (event : Event) (copy : Copy) → IsAt new p event copy → IsKnown h event copy)
      (λ event copy now. absurd (rw adds.held at now)) (λ p other event copy now. holds.known p event copy (rw (adds.others p other) at now));
  on = λ i ports copy now. holds.on i ports copy (rw (adds.outputs i) at now);
}

pub oldest_there : OldestThere
oldest_there h rows p parcel rest legal holds first = let is = rw first at (holds.stand p) in rw (stands_at h p legal, ← is) refl

-- WHAT IS LENT
-- where the hold alone has changed, and what stands there is the record's, all does
hold_changed : (h : Record) (i : ℕ) (old new : List Row) → Others (Held i) old new → SameOutputs old new → Holds old h → IfSome (parcels_here new (Held i)) (λ ps. numbers ps ≡ at h (Held i)) →
    ((event : Event) (copy : Copy) → IsAt new (Held i) event copy → IsKnown h event copy) → Holds new h
hold_changed h i old new others outputs holds stand known = record {
  stand = each_place (Held i) (λ p. IfSome (parcels_here new p) (λ ps. numbers ps ≡ at h p)) stand (λ p other. rw (others p other) (holds.stand p));
  known = each_place (Held i) (λ p. (event : Event) (copy : Copy) → IsAt new p event copy → IsKnown h event copy) known
      (λ p other event copy now. holds.known p event copy (rw (others p other) at now));
  on = λ j ports copy now. holds.on j ports copy (rw (outputs j) at now);
}

pub lent_is : LentIs
lent_is h i parcels old new lends holds = (
  hold_changed h i old new lends.others lends.outputs holds (rw lends.now tt) (λ event copy now. absurd (rw lends.now at now)),
  (rw lends.was at (holds.stand (Held i)), λ event copy is. holds.known (Held i) event copy (rw lends.was is)),
)

pub lent_comes_back : LentComesBack
lent_comes_back h i parcels old new lends is are holds =
    hold_changed h i old new (λ p other. sym (lends.others p other)) (λ j. sym (lends.outputs j)) holds (rw lends.was is) (λ event copy now. are event copy (rw lends.was at now))

pub none_holds : NoneHolds
none_holds = record { stand = λ p. refl; known = λ p event copy now. absurd now; on = λ i ports copy now. absurd now }

-- where no child waits, and none is put there, all is as it was
pub waits_none : {i : ℕ} {old new : List Row} → Waits i [] old new → Same old new
waits_none {i} {old} {new} wait = record { here = stays; outputs = wait.outputs }
  where
    child : (j t : ℕ) (own : Bool) → (j == i) ≡ own → parcels_here new (Waiting j t) ≡ parcels_here old (Waiting j t)
    child j t true is = rw (eqb-true j i is) (wait.now t ∙ sym (wait.was t))
    child j t false is = wait.others (Waiting j t) is

    stays : (p : Place) → parcels_here new p ≡ parcels_here old p
    stays (Outputs j) = wait.others (Outputs j) refl
    stays (Waiting j t) = child j t (j == i) refl
    stays (Contents j s) = wait.others (Contents j s) refl
    stays (Held j) = wait.others (Held j) refl
