-- Each event that a source read is in a batch of it, in order: in the end none is owed.
use Rattle.std.proofs.Common.{◌≡◌, ℕ, ◌+◌, ◌<◌, Bool, true, false, List, [], ◌∷◌, ◌++◌, length, inl, inr, refl, sym, ap, subst, ◌∙◌, arith, Some, None}
use Rattle.std.specs.Prelude.{◌⊎◌, ◌==◌, ◌||◌, ◌&&◌, not, nat_lt, if◌then◌else◌}
use Rattle.std.specs.List.{list_any}
use Rattle.std.proofs.lemmas.Bool.{eqb-true, eq-eqb}
use Rattle.std.proofs.lemmas.Bool.Decides.{nat_tests}
use Rattle.std.proofs.lemmas.List.{append-nil, length-append}
use Rattle.vx_value.specs.Texts.{is_empty}
use Rattle.vx_value.specs.declared.event.Event.{Event}
use Rattle.vx_plan.specs.declared.plan.Plan.{Plan}
use Rattle.vx_record.specs.declared.taken.Taken.{Taken}
use Rattle.vx_record.specs.declared.entry.Entry.{Entry}
use Rattle.vx_record.specs.declared.entry.Entry.TheVariants.{Install, Lease, Read, Idle, SourceLost, Born, Answer, Retired, Abandon}
use Rattle.vx_record.specs.Records.{Record}
use Rattle.vx_record.specs.Turns.{since_lease, is_turn_of}
use Rattle.vx_record.specs.Installs.{source_at, is_retired}
use Rattle.vx_record.specs.Reads.{events_of}
use Rattle.vx_record.specs.Confirms.{Birth, births}
use Rattle.vx_record.specs.Sourcing.{Yield, yield, yield_of, MayTurn}
use Rattle.vx_record.specs.Owing.{fruitful, owes, owes_birth, owes_spends_in, owes_discards, owes_answer}
use Rattle.vx_record.specs.Abandoning.{abandoned}
use Rattle.vx_record.specs.Ending.{MayRetire}
use Rattle.vx_record.specs.Legal.{IsLegal}
use Rattle.vx_record.proofs.Answerers.{source_untransforming, unanswering}
use Rattle.vx_record.proofs.Promises.{or_left}
use Rattle.vx_record.proofs.Senders.{retired_unleased}
use Rattle.vx_record.proofs.SourceEnds.{source_done}
use Rattle.vx_record.proofs.Rules.{some_is}
use Rattle.vx_plain_case.proofs.Plans.{Run, Reads, reads_source}
use Rattle.vx_plain_case.proofs.Flows.{put_events, output_events}

-- the events that an instance's Reads gave
abbrev pub read_events : Record → ℕ → List Event
read_events [] i = []
read_events (Read j stream took ∷ h) i = read_events h i ++ (if j == i then events_of h i stream took else [])
read_events (e ∷ h) i = read_events h i

-- each event that it read is in a batch of it
pub record Paid (h : Record) (i : ℕ) : Type 0 where
  pub same : put_events h i ≡ read_events h i
  pub count : length (births h i) ≡ fruitful h i
  pub barren : (y : Yield) → yield h i ≡ Some y → y.events ≡ []

-- it owes the birth of what it read in this turn, and isn't retired
pub record Owes (h : Record) (i : ℕ) : Type 0 where
  pub turned : list_any (is_turn_of i) (since_lease h i) ≡ true
  pub fewer : length (births h i) < fruitful h i
  pub pending : (y : Yield) → yield h i ≡ Some y → (put_events h i ++ y.events ≡ read_events h i) × (length (births h i) + 1 ≡ fruitful h i)
  pub unretired : is_retired h i ≡ false

-- one of the two
abbrev pub IsCreating : Record → ℕ → Type 0
IsCreating h i = Paid h i ⊎ Owes h i

-- what owes nothing owes no birth
no_birth : (h : Record) (i : ℕ) → owes h i ≡ false → length (births h i) < fruitful h i → ⊥
no_birth h i settled fewer =
    let birth : owes_birth h i ≡ false =
    or_left (owes_birth h i) (owes_spends_in h h i)
    (or_left (owes_birth h i || owes_spends_in h h i) (owes_discards h i)
    (or_left (owes_birth h i || owes_spends_in h h i || owes_discards h i) (owes_answer h i) settled)) in
    let is : nat_lt (length (births h i)) (fruitful h i) ≡ true = grind (arith, nat_tests, fewer) in
    let no : true ≡ false = sym is ∙ birth in cc

-- an entry that is nothing to the source
creating_on : (h : Record) (e : Entry) (i : ℕ) → put_events (e ∷ h) i ≡ put_events h i → read_events (e ∷ h) i ≡ read_events h i →
    length (births (e ∷ h) i) ≡ length (births h i) → fruitful (e ∷ h) i ≡ fruitful h i → (yield (e ∷ h) i ≡ None) →
    list_any (is_turn_of i) (since_lease (e ∷ h) i) ≡ list_any (is_turn_of i) (since_lease h i) → is_retired (e ∷ h) i ≡ is_retired h i →
    IsCreating h i → IsCreating (e ∷ h) i
creating_on h e i put read born fruit none turned retired (inl paid) = inl (record {
  same = put ∙ paid.same ∙ sym read;
  count = born ∙ paid.count ∙ sym fruit;
  barren = λ y is. let no : None ≡ Some y = sym none ∙ is in cc;
})
creating_on h e i put read born fruit none turned retired (inr owing) = inr (record {
  turned = turned ∙ owing.turned;
  fewer = let f = owing.fewer in omega (arith, f, born, fruit);
  pending = λ y is. let no : None ≡ Some y = sym none ∙ is in cc;
  unretired = retired ∙ owing.unretired;
})

-- READS
-- a Read of the source itself
own_read : (h : Record) (i stream : ℕ) (took : Taken) → IsLegal (Read i stream took ∷ h) → Paid h i → (es : List Event) → events_of h i stream took ≡ es →
    IsCreating (Read i stream took ∷ h) i
own_read h i stream took legal paid es gives = go es gives
  where
    k : Record
    k = Read i stream took ∷ h

    self : (i == i) ≡ true
    self = eq-eqb i i refl

    yields : yield k i ≡ Some (yield_of h i stream took)
    yields = ap (λ (b : Bool). if b then Some (yield_of h i stream took) else None) self

    reads : read_events k i ≡ read_events h i ++ events_of h i stream took
    reads = ap (λ (b : Bool). read_events h i ++ (if b then events_of h i stream took else [])) self

    fruits : fruitful k i ≡ fruitful h i + (if not (is_empty (events_of h i stream took)) then 1 else 0)
    fruits = ap (λ (b : Bool). fruitful h i + (if b && not (is_empty (events_of h i stream took)) then 1 else 0)) self

    born : length (births k i) ≡ length (births h i)
    born = ap (λ (bs : List Birth). length bs) (append-nil (births h i))

    same_events : (y : Yield) → yield k i ≡ Some y → y.events ≡ events_of h i stream took
    same_events y is = ap (λ (y : Yield). y.events) (sym (some_is (yield_of h i stream took) y (sym yields ∙ is)))

    unleased_there : (b : Bool) → is_retired h i ≡ b → b ≡ false
    unleased_there true is = let no : true ≡ false = sym legal.0.row.turn.out ∙ retired_unleased h i legal.1 is in cc
    unleased_there false is = refl

    go : (es : List Event) → events_of h i stream took ≡ es → IsCreating k i
    go [] none = inl (record {
      same = paid.same ∙ sym (append-nil (read_events h i)) ∙ ap (λ xs. read_events h i ++ xs) (sym none) ∙ sym reads;
      count =
          let more = ap {B = ℕ} (λ (xs : List Event). if not (is_empty xs) then 1 else 0) none in
          let was = paid.count in omega (arith, born, was, fruits, more);
      barren = λ y is. same_events y is ∙ none;
    })
    go (x ∷ xs) some =
        let more = ap {B = ℕ} (λ (xs : List Event). if not (is_empty xs) then 1 else 0) some in
        let was = paid.count in
        inr (record {
          turned = ap (λ (b : Bool). b || list_any (is_turn_of i) (since_lease h i)) self;
          fewer = omega (arith, born, was, fruits, more);
          pending = λ y is. (
            ap (λ ys. put_events h i ++ ys) (same_events y is) ∙ ap (λ ys. ys ++ events_of h i stream took) paid.same ∙ sym reads,
            omega (arith, born, was, fruits, more),
          );
          unretired = unleased_there (is_retired h i) refl;
        })

-- a Read, of the source or of another
on_read : (h : Record) (i j stream : ℕ) (took : Taken) → IsLegal (Read j stream took ∷ h) → IsCreating h i → IsCreating (Read j stream took ∷ h) i
on_read h i j stream took legal was = go (j == i) refl was
  where
    go : (b : Bool) → (j == i) ≡ b → IsCreating h i → IsCreating (Read j stream took ∷ h) i
    go true is (inl paid) =
        let same = eqb-true j i is in
        subst (λ (n : ℕ). IsCreating (Read n stream took ∷ h) i) (sym same)
        (own_read h i stream took (subst (λ (n : ℕ). IsLegal (Read n stream took ∷ h)) same legal) paid (events_of h i stream took) refl)
    go true is (inr owing) =
        let once = subst (λ (n : ℕ). list_any (is_turn_of n) (since_lease h n) ≡ false) (eqb-true j i is) legal.0.row.turn.once in
        let no : true ≡ false = sym owing.turned ∙ once in cc
    go false is before =
        creating_on h (Read j stream took) i refl
        (ap (λ (b : Bool). read_events h i ++ (if b then events_of h i stream took else [])) is ∙ append-nil (read_events h i))
        (ap (λ (bs : List Birth). length bs) (append-nil (births h i)))
        (let more = ap {B = ℕ} (λ (b : Bool). if b && not (is_empty (events_of h i stream took)) then 1 else 0) is in omega (arith, more))
        (ap (λ (b : Bool). if b then Some (yield_of h i stream took) else None) is)
        (ap (λ (b : Bool). b || list_any (is_turn_of i) (since_lease h i)) is) refl before

-- BIRTHS
on_born : (h : Record) (i j b place : ℕ) (copies : List ℕ) (events : List Event) (waits : Bool) (stream end : ℕ) →
    IsLegal (Born j b place copies events waits stream end ∷ h) → IsCreating h i → IsCreating (Born j b place copies events waits stream end ∷ h) i
on_born h i j b place copies events waits stream end legal was = go (j == i) refl was
  where
    e : Entry
    e = Born j b place copies events waits stream end

    y : Yield
    y = record { events = events; stream = stream; end = end }

    born : (d : Bool) → (j == i) ≡ d → length (births (e ∷ h) i) ≡ length (births h i) + (if d then 1 else 0)
    born true is =
        ap (λ (d : Bool). length (births h i ++ (if d then record { batch = b; waits = waits; stream = stream; end = end } ∷ [] else []))) is
        ∙ length-append (births h i) (record { batch = b; waits = waits; stream = stream; end = end } ∷ [])
    born false is =
        ap (λ (d : Bool). length (births h i ++ (if d then record { batch = b; waits = waits; stream = stream; end = end } ∷ [] else []))) is
        ∙ length-append (births h i) []

    go : (d : Bool) → (j == i) ≡ d → IsCreating h i → IsCreating (e ∷ h) i
    go true is (inl paid) =
        let none = ap (λ (xs : List Event). length xs) (paid.barren y (subst (λ (n : ℕ). yield h n ≡ Some y) (eqb-true j i is) legal.0.row.yields)) in
        let some = legal.0.row.some in
        let each = legal.0.row.one_each in
        absurd (omega (arith, none, some, each))
    go true is (inr owing) =
        let pays = owing.pending y (subst (λ (n : ℕ). yield h n ≡ Some y) (eqb-true j i is) legal.0.row.yields) in
        inl (record {
          same = ap (λ (d : Bool). put_events h i ++ (if d then events else [])) is ∙ pays.0;
          count = born true is ∙ pays.1;
          barren = λ y no. cc;
        })
    go false is before =
        creating_on h e i
        (ap (λ (d : Bool). put_events h i ++ (if d then events else [])) is ∙ append-nil (put_events h i))
        refl (let l = born false is in omega (arith, l)) refl refl refl refl before

-- ALL ENTRIES
on_lease : (h : Record) (i j worker now polls : ℕ) → IsLegal (Lease j worker now polls ∷ h) → IsCreating h i → IsCreating (Lease j worker now polls ∷ h) i
on_lease h i j worker now polls legal (inl paid) = inl (record {
  same = paid.same;
  count = ap (λ (bs : List Birth). length bs) (append-nil (births h i)) ∙ paid.count;
  barren = λ y no. cc;
})
on_lease h i j worker now polls legal (inr owing) = go (j == i) refl
  where
    e : Entry
    e = Lease j worker now polls

    go : (b : Bool) → (j == i) ≡ b → IsCreating (e ∷ h) i
    go true is = absurd (no_birth h i (subst (λ (n : ℕ). owes h n ≡ false) (eqb-true j i is) legal.0.row.settled) owing.fewer)
    go false is =
        creating_on h e i refl refl (ap (λ (bs : List Birth). length bs) (append-nil (births h i))) refl refl
        (ap (λ (b : Bool). list_any (is_turn_of i) (if b then [] else e ∷ since_lease h i)) is) refl (inr owing)

-- what is retired owes nothing
on_retired : (h : Record) (i j : ℕ) → source_at h i ≡ true → abandoned h ≡ false → IsLegal (Retired j ∷ h) → IsCreating h i → IsCreating (Retired j ∷ h) i
on_retired h i j source whole legal (inl paid) = inl (record {
  same = paid.same;
  count = ap (λ (bs : List Birth). length bs) (append-nil (births h i)) ∙ paid.count;
  barren = λ y no. cc;
})
on_retired h i j source whole legal (inr owing) = go (j == i) refl
  where
    over : j ≡ i → ⊥
    over same = elim (subst (λ (n : ℕ). MayRetire h n) same legal.0.row).over [
      | inl done ↦ no_birth h i (source_done h i source done).settled owing.fewer
      | inr gone ↦ let no : true ≡ false = sym gone.0 ∙ whole in cc
    ]

    go : (b : Bool) → (j == i) ≡ b → IsCreating (Retired j ∷ h) i
    go true is = absurd (over (eqb-true j i is))
    go false is =
        creating_on h (Retired j) i refl refl (ap (λ (bs : List Birth). length bs) (append-nil (births h i))) refl refl refl
        (ap (λ (b : Bool). b || is_retired h i) is) (inr owing)

-- a turn without a Read: a source that owes a birth had its turn
on_turn : (h : Record) (e : Entry) (i j : ℕ) → MayTurn h j → put_events (e ∷ h) i ≡ put_events h i → read_events (e ∷ h) i ≡ read_events h i →
    length (births (e ∷ h) i) ≡ length (births h i) → fruitful (e ∷ h) i ≡ fruitful h i → (yield (e ∷ h) i ≡ None) → is_retired (e ∷ h) i ≡ is_retired h i →
    list_any (is_turn_of i) (since_lease (e ∷ h) i) ≡ ((j == i) || list_any (is_turn_of i) (since_lease h i)) → IsCreating h i → IsCreating (e ∷ h) i
on_turn h e i j turn put read born fruit none retired turned (inl paid) = inl (record {
  same = put ∙ paid.same ∙ sym read;
  count = born ∙ paid.count ∙ sym fruit;
  barren = λ y is. let no : None ≡ Some y = sym none ∙ is in cc;
})
on_turn h e i j turn put read born fruit none retired turned (inr owing) = go (j == i) refl
  where
    go : (b : Bool) → (j == i) ≡ b → IsCreating (e ∷ h) i
    go true is =
        let once = subst (λ (n : ℕ). list_any (is_turn_of n) (since_lease h n) ≡ false) (eqb-true j i is) turn.once in
        let no : true ≡ false = sym owing.turned ∙ once in cc
    go false is =
        creating_on h e i put read born fruit none
        (turned ∙ ap (λ (b : Bool). b || list_any (is_turn_of i) (since_lease h i)) is) retired (inr owing)

-- so it is in each run of the plan
creating : (plan : Plan) (h : Record) (i : ℕ) → Reads plan i → Run plan h → IsCreating h i
creating plan [] i reads run = inl (record { same = refl; count = refl; barren = λ y no. cc })
creating plan (Install version made once instances now ∷ h) i reads run =
    subst (λ (r : Record). IsCreating (Install version made once instances now ∷ r) i) (sym run.legal.0.row.first) (inl (record { same = refl; count = refl; barren = λ y no. cc }))
creating plan (Lease j worker now polls ∷ h) i reads run =
    on_lease h i j worker now polls run.legal (creating plan h i reads (record { legal = run.legal.1; installed = run.installed; whole = run.whole }))
creating plan (Read j stream took ∷ h) i reads run =
    on_read h i j stream took run.legal (creating plan h i reads (record { legal = run.legal.1; installed = run.installed; whole = run.whole }))
creating plan (Idle j failed ∷ h) i reads run =
    on_turn h (Idle j failed) i j run.legal.0.row.turn refl refl (ap (λ (bs : List Birth). length bs) (append-nil (births h i))) refl refl refl refl
    (creating plan h i reads (record { legal = run.legal.1; installed = run.installed; whole = run.whole }))
creating plan (SourceLost j at failed ∷ h) i reads run =
    on_turn h (SourceLost j at failed) i j run.legal.0.row.turn refl refl (ap (λ (bs : List Birth). length bs) (append-nil (births h i))) refl refl refl refl
    (creating plan h i reads (record { legal = run.legal.1; installed = run.installed; whole = run.whole }))
creating plan (Born j b place copies events waits stream end ∷ h) i reads run =
    on_born h i j b place copies events waits stream end run.legal (creating plan h i reads (record { legal = run.legal.1; installed = run.installed; whole = run.whole }))
creating plan (Answer j made discarded kept ∷ h) i reads run =
    let other : (j == i) ≡ false = unanswering h i j made discarded kept run.legal (source_untransforming h i (reads_source plan h i reads run.legal.1 run.installed)) in
    creating_on h (Answer j made discarded kept) i
    (ap (λ (b : Bool). put_events h i ++ (if b then output_events made else [])) other ∙ append-nil (put_events h i))
    refl (ap (λ (bs : List Birth). length bs) (append-nil (births h i))) refl refl refl refl
    (creating plan h i reads (record { legal = run.legal.1; installed = run.installed; whole = run.whole }))
creating plan (Retired j ∷ h) i reads run =
    on_retired h i j (reads_source plan h i reads run.legal.1 run.installed) run.whole run.legal
    (creating plan h i reads (record { legal = run.legal.1; installed = run.installed; whole = run.whole }))
creating plan (Abandon cause ∷ h) i reads run = let no : true ≡ false = run.whole in cc
creating plan (e ∷ h) i reads run =
    creating_on h e i refl refl (ap (λ (bs : List Birth). length bs) (append-nil (births h i))) refl refl refl refl
    (creating plan h i reads (record { legal = run.legal.1; installed = run.installed; whole = run.whole }))

-- where the source is retired all that it read is in a batch of it
pub created_all : (plan : Plan) (h : Record) (i : ℕ) → Reads plan i → Run plan h → is_retired h i ≡ true → put_events h i ≡ read_events h i
created_all plan h i reads run retired = go (creating plan h i reads run)
  where
    go : IsCreating h i → put_events h i ≡ read_events h i
    go (inl paid) = paid.same
    go (inr owing) = let no : true ≡ false = sym retired ∙ owing.unretired in cc
