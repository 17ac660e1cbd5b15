-- What each call of a keeper leads to.
use Rattle.std.proofs.Common.{◌≡◌, ℕ, ◌+◌, ◌<◌, Bool, true, false, cond, Option, Some, None, List, [], ◌∷◌, ◌++◌, map, reverse, refl, sym, ap, ap₂, ◌∙◌, subst, arith, inl, inr, append-nil}
use Rattle.std.specs.Prelude.{◌==◌, ◌&&◌, if◌then◌else◌, ◌↔◌, IsSome, IsNone, IsTrue, IfSome, IfNone, is_some, filter, not}
use Rattle.std.specs.Global.{Vec}
use Rattle.std.specs.Option.{option_to_list}
use Rattle.std.specs.List.{sum_by}
use Rattle.std.proofs.lemmas.Bool.Decides.{nat_tests}
use Rattle.std.proofs.lemmas.List.Sums.{sum_by-append, sum_by-cons}
use Rattle.vx_value.specs.Filled.{Filled}
use Rattle.vx_value.specs.Texts.{is_empty}
use Rattle.vx_ledger.specs.Copies.{Copy, numbers_of}
use Rattle.vx_ledger.specs.declared.parcel.Parcel.{Parcel}
use Rattle.vx_transform.specs.Shelves.{Shelved, copies_put_out, copies_dropped, copies_on}
use Rattle.vx_transform.specs.declared.output.Output.{Output}
use Rattle.vx_condition.specs.Picking.{held}
use Rattle.vx_condition.specs.Reducing.{groups, due}
use Rattle.vx_record.specs.declared.entry.Entry.TheVariants.{Take, Answer, Spent}
use Rattle.vx_record.specs.Records.{Record}
use Rattle.vx_record.specs.Copies.{count, joined, all_of, spends}
use Rattle.vx_record.specs.Turns.{lease_now}
use Rattle.vx_record.specs.Places.Place.{Held}
use Rattle.vx_record.specs.Inputs.{Input as NotedInput, unanswered, given_by, flush_by, flush, inputs, answered, to_answer, is_tick, steps_of}
use Rattle.vx_record.specs.Owing.{last_discarded}
use Rattle.vx_record.specs.Shifts.{at}
use Rattle.vx_record.specs.Legal.{IsLegal}
use Rattle.vx_record.proofs.Answers.{inputs_parted}
use Rattle.vx_record.proofs.Counts.{count-append}
use Rattle.vx_status.specs.declared.outcome.Outcome.{Outcome}
use Rattle.vx_places.specs.Holding.{AreKnown}
use Rattle.vx_places.specs.Numbers.{IsCopyIn, EachFilled}
use Rattle.vx_reduce.specs.declared.reduce.Reduce.{Reduce}
use Rattle.vx_reduce.specs.declared.group.Group.{Group}
use Rattle.vx_reduce.specs.declared.reduce_settings.ReduceSettings.{ReduceSettings}
use Rattle.vx_reduce.specs.Groups.{copies_held}
use Rattle.vx_reduce.specs.Reducers.{due_of}
use Rattle.vx_reduce.specs.Inputs.{Input, steps_of as reduce_steps}
use Rattle.vx_reduce.specs.Standing.{settings_of, IsAt}
use Rattle.vx_reduce.proofs.GoingOn.{begun}
use Rattle.vx_keeping.specs.declared.store.Store.{Store}
use Rattle.vx_keeping.specs.Kept.{Kept, nothing, loose_copies, copies_made, HoldsNone, copies_kept}
use Rattle.vx_keeping.specs.Making.{made_of, IsDueOf}
use Rattle.vx_keeping.specs.Given.{arrived_all, SameCopies, Makes, Drops}
use Rattle.vx_keeping.specs.Stored.{with_shelf, shelf_of, copies_stored, kept_of, IsBare, IsSettled}
use Rattle.vx_keeping.specs.Keeping.{Accounts, noted_input, noted_input_at, taken_in, RunsWith, RunsHost, IsBareOrMeant, HasReduced, HasHosted, HasMakerGiven, HasGiven, IsAbreast, Keeps, HasMade}
use Rattle.vx_keeping.specs.Answers.{Runs, notes_of, IsDueBehind, GivesUp, TakesOut}
use Rattle.vx_keeping.proofs.Weights.{dropped-append, put_out-append, no_copies, of_number, count_numbers}
use Rattle.vx_keeping.proofs.Ruling.{settings_mean, rule_there, host_not_reduces}
use Rattle.vx_keeping.proofs.Staying.{map_none, unspent_before}
use Rattle.vx_keeping.proofs.Accounting.{kept_weigh, held_none, lost_there, lost_made, lost_leads}
use Rattle.vx_keeping.proofs.Reporting.{observed_behind, steps_observed}
use Rattle.vx_keeping.proofs.Filling.{groups_have, no_groups}
use Rattle.vx_keeping.proofs.Carrying.{answered_filled, taken_filled}
use Rattle.vx_keeping.proofs.Popping.{parts_none}
use Rattle.vx_keeping.proofs.Going.{given_stays, unfit_keeps, short_keeps, made_on, answer_makes, take_accounts, take_abreast}
use Rattle.vx_keeping.proofs.Storing.{has_none, stored_weigh, only_kept}
use Rattle.vx_keeping.proofs.Sound.{none_sound}
use Rattle.vx_keeping.proofs.Answering.{none_made, nothing_kept, put_out_keeps}

-- NEW
-- what was given nothing discarded nothing
none_answered : (h : Record) (i : ℕ) → inputs h i ≡ [] → last_discarded h i ≡ []
none_answered [] i none = refl
none_answered (Answer j outputs discarded kept ∷ h) i none = go (j == i) none (none_answered h i before)
  where
    before : inputs h i ≡ []
    before = (parts_none (flush_by h i (Answer j outputs discarded kept) ++ []) (inputs h i) none).1

    empty : unanswered h i ≡ []
    empty = (parts_none (unanswered h i) (answered h i) (sym (inputs_parted h i) ∙ before)).0

    go : (b : Bool) → ((if b && is_empty (unanswered h i) then flush ∷ [] else []) ++ []) ++ inputs h i ≡ [] → last_discarded h i ≡ [] → (if b then discarded else last_discarded h i) ≡ []
    go true is rest = let flushed = ap (λ (xs : List NotedInput). ((if is_empty xs then flush ∷ [] else []) ++ []) ++ inputs h i) (sym empty) ∙ is in absurd cc
    go false is rest = rest
none_answered (e ∷ h) i none = none_answered h i (parts_none (flush_by h i e ++ given_by h i e) (inputs h i) none).1

-- a reduce is set as it was made
pub set_is : (r : Reduce) (s : ReduceSettings) → r.rules ≡ record { group_by = s.group_by; strategies = s.strategies } → r.starts_when ≡ s.starts_when → r.ends_when ≡ s.ends_when →
    r.expire_after_ms ≡ s.expire_after_ms → r.flush_period_ms ≡ s.flush_period_ms → settings_of r ≡ s
set_is r s rules starts ends expire period =
    ap (λ x. settings_of (record r { rules = x })) rules
    ∙ ap (λ x. record s { starts_when = x; ends_when = r.ends_when; expire_after_ms = r.expire_after_ms; flush_period_ms = r.flush_period_ms }) starts
    ∙ ap (λ x. record s { ends_when = x; expire_after_ms = r.expire_after_ms; flush_period_ms = r.flush_period_ms }) ends
    ∙ ap (λ x. record s { expire_after_ms = x; flush_period_ms = r.flush_period_ms }) expire
    ∙ ap (λ x. record s { flush_period_ms = x }) period

pub reduce_begun : (r : Reduce) (h : Record) (i : ℕ) → RunsWith h i (settings_of r) → r.groups ≡ [] → r.since ≡ 0 → inputs h i ≡ [] → HasReduced r nothing [] h i []
reduce_begun r h i runs none since given = record {
  set = runs;
  earlier = [];
  more = [];
  answered = sym (parts_none (unanswered h i) (answered h i) (sym (inputs_parted h i) ∙ given)).1;
  given = refl;
  stands = λ s rule. begun s r (settings_mean h i s (settings_of r) runs rule) none since;
  shelf = λ s rule. refl;
  meant = inl (none, refl);
  discarded = refl;
}

pub host_begun : (h : Record) (i : ℕ) → RunsHost h i → HasHosted nothing h i []
host_begun h i runs = record { set = runs; sound = none_sound; dropped = refl; bare = λ none. refl }

pub new_keeps : (store : Store) (m : Option Reduce) → made_of store.maker ≡ m → store.taken.items ≡ [] → shelf_of store ≡ nothing → store.discarded.items ≡ [] → store.dropped ≡ 0 → HoldsNone m →
    (h : Record) (i : ℕ) → HasMakerGiven m nothing [] h i [] → inputs h i ≡ [] → at h (Held i) ≡ [] → Keeps (kept_of store None true) h i
new_keeps store m maker taken shelf gone dropped none h i begins given holds = record {
  accounts = record {
    counted = λ c. ap (λ ps. count c (joined ps)) holds ∙ sym (ap (λ cs. count c (numbers_of cs)) bare);
    known = λ copy is. absurd (subst (λ cs. IsCopyIn cs copy) bare is);
  };
  abreast = λ fit. record {
    given = record {
      by = subst (λ (x : Option Reduce). HasMakerGiven x (shelf_of store) store.discarded.items h i []) (sym maker)
          (subst (λ (sh : Shelved). HasMakerGiven m sh store.discarded.items h i []) (sym shelf) (subst (λ (cs : List Copy). HasMakerGiven m nothing cs h i []) (sym gone) begins));
      loose = refl;
    };
    bare = shelf;
    taken =
        ap (map (noted_input_at (lease_now h i))) taken
        ∙ sym (ap (λ (xs : List NotedInput). reverse (filter (λ (x : NotedInput). not (is_tick x.step)) xs)) (parts_none (unanswered h i) (answered h i) (sym (inputs_parted h i) ∙ given)).0);
    owed = λ c some unspent. let no = ap (count c) (none_answered h i given) in absurd (omega (arith, some, no));
    dropped = dropped;
  };
}
  where
    bare : copies_kept (kept_of store None true) ≡ []
    bare = nothing_kept (kept_of store None true) refl taken (subst HoldsNone (sym maker) none) shelf gone

pub new_none : (store : Store) (m : Option Reduce) → made_of store.maker ≡ m → store.taken.items ≡ [] → shelf_of store ≡ nothing → store.discarded.items ≡ [] → HoldsNone m → copies_kept (kept_of store None true) ≡ []
new_none store m maker taken shelf gone none = nothing_kept (kept_of store None true) refl taken (subst HoldsNone (sym maker) none) shelf gone

-- TAKE
pub pushed_weigh : (old new : Store) (loose : Option Copy) (fit : Bool) (parcel : Parcel) → made_of new.maker ≡ made_of old.maker → shelf_of new ≡ shelf_of old → new.discarded.items ≡ old.discarded.items → new.taken.items ≡ old.taken.items ++ parcel ∷ [] →
    (w : Copy → ℕ) → sum_by w (copies_kept (kept_of new loose fit)) ≡ sum_by w (copies_kept (kept_of old loose fit)) + sum_by w parcel.finalizers
pushed_weigh old new loose fit parcel maker shelf gone taken w =
    let a = kept_weigh (kept_of new loose fit) w in
    let b = kept_weigh (kept_of old loose fit) w in
    let c = ap (λ (m : Option Reduce). sum_by w (copies_made m)) maker in
    let d = ap (λ (sh : Shelved). sum_by w (copies_put_out sh.outputs)) shelf in
    let e = ap (λ (sh : Shelved). sum_by w (copies_dropped sh.dropped)) shelf in
    let f = ap (λ ps. sum_by w (copies_dropped ps)) taken ∙ dropped-append old.taken.items (parcel ∷ []) w in
    let g = sum_by-append w parcel.finalizers [] in
    let h = ap (sum_by w) gone in
    omega (arith, a, b, c, d, e, f, g, h)

pub take_keeps : (old new : Kept) (parcel : Parcel) → ((w : Copy → ℕ) → sum_by w (copies_kept new) ≡ sum_by w (copies_kept old) + sum_by w parcel.finalizers) → new.fit ≡ old.fit →
    (new.fit ≡ true → new ≡ record old { taken = record { items = old.taken.items ++ parcel ∷ []; room = old.taken.room } }) →
    (h : Record) (i s : ℕ) → Keeps old h i → IsLegal (Take i s (numbers_of parcel.finalizers) ∷ h) → AreKnown h (parcel ∷ []) → Keeps new (Take i s (numbers_of parcel.finalizers) ∷ h) i
take_keeps old new parcel more fits is h i s keeps legal known = record {
  accounts = take_accounts old new parcel h i s legal known more keeps.accounts;
  abreast = λ fit. take_abreast old new parcel h i s legal known (is fit) (keeps.abreast (sym fits ∙ fit));
}

-- whether any was
turned : (b : Bool) → not b ≡ false → b ≡ true
turned true is = refl
turned false is = absurd cc

pub has_taken_then : (k : Kept) (none : Bool) → IsTrue none ↔ (k.taken.items ≡ []) → k.fit ≡ true → (h : Record) (i : ℕ) → Keeps k h i → (not none ≡ false) ↔ (taken_in h i ≡ [])
has_taken_then k none says fits h i keeps =
    let a = keeps.abreast fits in (
      λ is. sym a.taken ∙ ap (map (noted_input_at (lease_now h i))) (says.0 (turned none is)),
      λ gone. ap not (says.1 (map_none (noted_input_at (lease_now h i)) k.taken.items (a.taken ∙ gone))),
    )

-- PUT OUT
pub put_out_then : (old new : Kept) (outputs : List Output) → (old.fit ≡ true → outputs ≡ old.shelf.outputs) → (old.fit ≡ true → new ≡ record old { shelf = nothing; dropped = 0 }) →
    (h : Record) (i : ℕ) (kept : List ℕ) → HasMade old h i (to_answer h i) → IsLegal (Answer i (notes_of outputs) (numbers_of old.discarded) kept ∷ h) → Keeps new (Answer i (notes_of outputs) (numbers_of old.discarded) kept ∷ h) i
put_out_then old new outputs all is h i kept made legal =
    let same = all made.fit in
    subst (λ (os : List Output). Keeps new (Answer i (notes_of os) (numbers_of old.discarded) kept ∷ h) i) (sym same)
    (put_out_keeps old new h i kept (is made.fit) made (subst (λ (os : List Output). IsLegal (Answer i (notes_of os) (numbers_of old.discarded) kept ∷ h)) same legal))

-- GIVE UP
pub gives_up : (copy : Copy) (old new : Kept) → new.fit ≡ false → ((w : Copy → ℕ) → sum_by w (copies_kept old) ≡ w copy + sum_by w (copies_kept new)) → GivesUp copy old new
gives_up copy old new unfit loses = record {
  same = λ w. loses w ∙ sym (sum_by-cons w copy (copies_kept new));
  there = lost_there copy old new loses;
  made = lost_made copy old new loses;
  leads = λ h i outcome accounts legal. unfit_keeps new _ i unfit (lost_leads copy old new loses h i outcome accounts legal);
}

-- EMPTY
-- where a record has the instance hold nothing, there is no copy
counted_none : (cs : List Copy) → ((c : ℕ) → count c (numbers_of cs) ≡ 0) → cs ≡ []
counted_none [] none = refl
counted_none (x ∷ cs) none = let e = none x.number in absurd (grind (arith, nat_tests, e))

pub all_gone : (k : Kept) (h : Record) (i : ℕ) → Accounts k h i → at h (Held i) ≡ [] → copies_kept k ≡ []
all_gone k h i accounts none = counted_none (copies_kept k) (λ c. sym (accounts.counted c) ∙ ap (λ ps. count c (joined ps)) none)

pub none_there : (k : Kept) (h : Record) (i : ℕ) → IsLegal h → Accounts k h i → copies_kept k ≡ [] → at h (Held i) ≡ []
none_there k h i legal accounts none = held_none h i legal (λ c. accounts.counted c ∙ ap (λ cs. count c (numbers_of cs)) none)

pub no_parcels : (ps : List Parcel) → EachFilled ps → copies_dropped ps ≡ [] → ps ≡ []
no_parcels [] filled none = refl
no_parcels (p ∷ ps) filled none = absurd (filled.0 (parts_none p.finalizers (copies_dropped ps) none).0)

-- then nothing waits either, and the maker holds nothing
made_none : (m : Option Reduce) (on : Shelved) (gone : List Copy) (h : Record) (i : ℕ) → IsLegal h → HasMakerGiven m on gone h i [] → copies_made m ≡ [] → HoldsNone m
made_none (Some r) on gone h i legal g none = no_group g.meant
  where
    no_group : IsBareOrMeant r on → r.groups ≡ []
    no_group (inl bare) = bare.0
    no_group (inr m) =
        let rule = rule_there h i m.0 (settings_of r) g.set m.1 in
        let given : List Input = reverse g.more ++ g.earlier in
        let is = g.stands rule.0 rule.1 in
        let same : given ≡ g.earlier = ap (λ (l : List Input). reverse l ++ g.earlier) (map_none noted_input g.more g.given) in
        let at_earlier : IsAt rule.0 g.earlier r = subst (λ l. IsAt rule.0 l r) same is in
        at_earlier.held
        ∙ no_groups rule.0 g.earlier (groups rule.0 (reduce_steps g.earlier)) (groups_have rule.0 g.earlier (answered_filled h i g.earlier legal g.answered))
        (ap copies_held (sym at_earlier.held) ∙ none)
made_none None on gone h i legal g none = tt

pub bare_then : (store : Store) (loose : Option Copy) (fit : Bool) (h : Record) (i : ℕ) → fit ≡ true → IsLegal h → Keeps (kept_of store loose fit) h i → at h (Held i) ≡ [] → IsBare store
bare_then store loose fit h i fits legal keeps none = record {
  taken = no_parcels store.taken.items (taken_filled h i (lease_now h i) store.taken.items legal a.taken) waits.0;
  ready = (parts_none store.ready.items store.shelf.outputs (ap (λ (sh : Shelved). sh.outputs) a.bare)).0;
  discarded = (parts_none (copies_on (shelf_of store)) store.discarded.items waits.1).1;
  maker = made_none (made_of store.maker) (shelf_of store) store.discarded.items h i legal a.given.by behind.0;
}
  where
    a : IsAbreast (kept_of store loose fit) h i
    a = keeps.abreast fits

    all : copies_kept (kept_of store loose fit) ≡ []
    all = all_gone (kept_of store loose fit) h i keeps.accounts none

    behind : (copies_made (made_of store.maker) ≡ []) × (copies_dropped store.taken.items ++ (copies_on (shelf_of store) ++ store.discarded.items) ≡ [])
    behind = parts_none (copies_made (made_of store.maker)) (copies_dropped store.taken.items ++ (copies_on (shelf_of store) ++ store.discarded.items)) (parts_none (loose_copies loose) (copies_stored store) all).1

    waits : (copies_dropped store.taken.items ≡ []) × (copies_on (shelf_of store) ++ store.discarded.items ≡ [])
    waits = parts_none (copies_dropped store.taken.items) (copies_on (shelf_of store) ++ store.discarded.items) behind.1

-- what is bare has no copy
pub bare_none : (store : Store) → store.shelf ≡ nothing → IsBare store → copies_stored store ≡ []
bare_none store clear bare =
    only_kept store (ap copies_dropped bare.taken) bare.ready clear
    ∙ ap (λ (cs : List Copy). cs ++ store.discarded.items) (none_made (made_of store.maker) bare.maker)
    ∙ bare.discarded

pub no_loose : (loose : Option Copy) → loose_copies loose ≡ [] → loose ≡ None
no_loose None none = refl
no_loose (Some copy) none = absurd cc

-- so it is asked of a keeper that is fit,
pub empty_fit : (store : Store) (loose : Option Copy) (fit answer : Bool) → fit ≡ true → IsSettled store loose fit → IsTrue answer ↔ IsBare store → (h : Record) (i : ℕ) → IsLegal h → Keeps (kept_of store loose fit) h i →
    IsTrue answer ↔ (at h (Held i) ≡ [])
empty_fit store loose fit answer fits settled says h i legal keeps =
    let clear = settled.clear fits in (
      λ is. none_there (kept_of store loose fit) h i legal keeps.accounts (ap (λ (o : Option Copy). loose_copies o ++ copies_stored store) clear.1 ∙ bare_none store clear.0 (says.0 is)),
      λ none. says.1 (bare_then store loose fit h i fits legal keeps none),
    )

-- and of one that isn't
pub empty_unfit : (store : Store) (loose : Option Copy) (fit answer : Bool) → fit ≡ false → IsSettled store loose fit → is_some loose ≡ not answer → (h : Record) (i : ℕ) → IsLegal h → Keeps (kept_of store loose fit) h i →
    IsTrue answer ↔ (at h (Held i) ≡ [])
empty_unfit store loose fit answer unfit settled says h i legal keeps = (
  λ is. let gone = is_gone loose (says ∙ ap not is) in
      none_there (kept_of store loose fit) h i legal keeps.accounts (ap (λ (o : Option Copy). loose_copies o ++ copies_stored store) gone ∙ settled.next unfit gone),
  λ none. turned answer (sym says ∙ ap is_some (no_loose loose (parts_none (loose_copies loose) (copies_stored store) (all_gone (kept_of store loose fit) h i keeps.accounts none)).0)),
)
  where
    is_gone : (o : Option Copy) → IsNone o → o ≡ None
    is_gone None is = refl
    is_gone (Some copy) is = absurd cc

-- DUE
due_none : (r : Reduce) → r.groups ≡ [] → due_of r ≡ None
due_none r none = ap (λ (gs : List Group). cond (is_empty gs) None (Some (held (r.since + r.flush_period_ms)))) none

due_by : (m : Option Reduce) (on : Shelved) (gone : List Copy) (moment : Option ℕ) → IsDueOf m moment → (h : Record) (i : ℕ) (behind : List NotedInput) → HasMakerGiven m on gone h i behind → IsDueBehind moment h i behind
due_by (Some r) on gone moment is h i behind g = record {
  moment = λ s rule.
      is.1 s (reverse g.more ++ g.earlier) (g.stands s rule)
      ∙ ap (due s) (sym (steps_observed (reverse g.more ++ g.earlier)) ∙ ap steps_of (observed_behind g.more g.earlier) ∙ ap₂ (λ xs ys. steps_of (reverse xs ++ ys)) g.given g.answered);
  runs = λ some. go some g.meant;
}
  where
    go : IsSome moment → IsBareOrMeant r on → Runs h i
    go some (inl bare) = let none : moment ≡ None = is.0 ∙ due_none r bare.0 in absurd cc
    go some (inr m) = inl (rule_there h i m.0 (settings_of r) g.set m.1)
due_by None on gone moment is h i behind g = record { moment = λ s rule. absurd (host_not_reduces h i g.set (s, rule)); runs = λ some. inr g.set }

pub due_behind : (k : Kept) (moment : Option ℕ) → IsDueOf k.maker moment → (h : Record) (i : ℕ) (behind : List NotedInput) → HasGiven k h i behind → IsDueBehind moment h i behind
due_behind k moment is h i behind g = due_by k.maker k.shelf k.discarded moment is h i behind g.by

-- AS THE FIELDS HAVE IT
pub with_loose : (loose : Option Copy) (old new : Store) → SameCopies (copies_stored old) (copies_stored new) → SameCopies (loose_copies loose ++ copies_stored old) (loose_copies loose ++ copies_stored new)
with_loose loose old new same w =
    let a = sum_by-append w (loose_copies loose) (copies_stored old) in let b = sum_by-append w (loose_copies loose) (copies_stored new) in let c = same w in omega (arith, a, b, c)

-- an answer
pub answer_then : (now : ℕ) (old new : Store) (loose : Option Copy) (fit : Bool) → fit ≡ true → loose ≡ None →
    Makes (arrived_all now old.taken.items) old.taken.items (made_of old.maker) (made_of new.maker) (shelf_of old) (shelf_of new) old.discarded.items new.discarded.items →
    Drops (made_of old.maker) old.taken.items new.discarded.items old.dropped new.dropped → SameCopies (copies_stored old) (copies_stored new) → new.taken.items ≡ [] →
    (h : Record) (i : ℕ) → now ≡ lease_now h i → Keeps (kept_of old loose fit) h i → old.discarded.items ≡ [] → HasMade (kept_of new loose fit) h i (taken_in h i)
answer_then now old new loose fit fits none made drops same taken = answer_makes now (kept_of old loose fit) (kept_of new loose fit) fits made drops (with_loose loose old new same) taken fits none

-- a tick, and the flush
pub more_then : (x : Input) (old new : Store) (loose : Option Copy) (fit : Bool) → fit ≡ true → loose ≡ None →
    (old.taken.items ≡ [] → Makes (x ∷ []) [] (made_of old.maker) (made_of new.maker) (shelf_of old) (shelf_of new) old.discarded.items new.discarded.items) → SameCopies (copies_stored old) (copies_stored new) →
    (old.taken.items ≡ [] → new.taken.items ≡ []) → (old.taken.items ≡ [] → new.discarded.items ≡ old.discarded.items) → new.dropped ≡ old.dropped →
    (h : Record) (i : ℕ) (behind : List NotedInput) → HasMade (kept_of old loose fit) h i behind → HasMade (kept_of new loose fit) h i (behind ++ noted_input x ∷ [])
more_then x old new loose fit fits none makes same taken gone dropped h i behind made =
    made_on (kept_of old loose fit) (kept_of new loose fit) x (makes made.taken) (with_loose loose old new same) (taken made.taken) (gone made.taken) dropped fits none h i behind made

-- no memory was found for one of the three
pub short_same : (old mid new : Store) (loose next : Option Copy) → SameCopies (copies_stored old) (copies_stored mid) → SameCopies (loose_copies loose ++ copies_stored mid) (loose_copies next ++ copies_stored new) →
    SameCopies (loose_copies loose ++ copies_stored old) (loose_copies next ++ copies_stored new)
short_same old mid new loose next same found w = with_loose loose old mid same w ∙ found w

pub short_then : (old mid new : Store) (loose next : Option Copy) (fit after : Bool) → after ≡ false → SameCopies (copies_stored old) (copies_stored mid) →
    SameCopies (loose_copies loose ++ copies_stored mid) (loose_copies next ++ copies_stored new) →
    (h : Record) (i : ℕ) → Accounts (kept_of old loose fit) h i → Keeps (kept_of new next after) h i
short_then old mid new loose next fit after unfit same found = short_keeps (kept_of old loose fit) (kept_of new next after) unfit (short_same old mid new loose next same found)

-- a keeper that fails without one
pub fail_then : (old new : Store) (loose next : Option Copy) (fit after : Bool) → after ≡ false → SameCopies (loose_copies loose ++ copies_stored old) (loose_copies next ++ copies_stored new) →
    (h : Record) (i : ℕ) → Accounts (kept_of old loose fit) h i → Keeps (kept_of new next after) h i
fail_then old new loose next fit after unfit same = short_keeps (kept_of old loose fit) (kept_of new next after) unfit same

-- a take
kept_is : (a b : Kept) → a.maker ≡ b.maker → a.taken ≡ b.taken → a.shelf ≡ b.shelf → a.discarded ≡ b.discarded → a.dropped ≡ b.dropped → a.loose ≡ b.loose → a.fit ≡ b.fit → a ≡ b
kept_is a b maker taken shelf gone dropped loose fit =
    let f : Option Reduce → Kept = λ x. record a { maker = x } in
    let g : Filled Parcel → Kept = λ x. record a { maker = b.maker; taken = x } in
    let h : Shelved → Kept = λ x. record a { maker = b.maker; taken = b.taken; shelf = x } in
    let l : List Copy → Kept = λ x. record a { maker = b.maker; taken = b.taken; shelf = b.shelf; discarded = x } in
    let m : ℕ → Kept = λ x. record b { dropped = x; loose = a.loose; fit = a.fit } in
    let j : Option Copy → Kept = λ x. record b { loose = x; fit = a.fit } in
    let k : Bool → Kept = λ x. record b { fit = x } in
    ap f maker ∙ ap g taken ∙ ap h shelf ∙ ap l gone ∙ ap m dropped ∙ ap j loose ∙ ap k fit

filled_is : (a : Filled Parcel) (items : List Parcel) (room : ℕ) → a.items ≡ items → a.room ≡ room → a ≡ record { items = items; room = room }
filled_is a items room same of =
    let f : List Parcel → Filled Parcel = λ ps. record { items = ps; room = a.room } in
    let g : ℕ → Filled Parcel = λ n. record { items = items; room = n } in
    ap f same ∙ ap g of

abbrev pub TakesTo : Kept → Kept → Parcel → Type 0
TakesTo old new parcel =
    (h : Record) (i s : ℕ) → Keeps old h i → IsLegal (Take i s (numbers_of parcel.finalizers) ∷ h) → AreKnown h (parcel ∷ []) → Keeps new (Take i s (numbers_of parcel.finalizers) ∷ h) i

-- no copy is lost or doubled
pub pushed_same : (old : Store) (line : Filled Parcel) (loose : Option Copy) (fit : Bool) (parcel : Parcel) → line.items ≡ old.taken.items ++ parcel ∷ [] →
    SameCopies (copies_kept (kept_of old loose fit) ++ parcel.finalizers) (copies_kept (kept_of (record old { taken = line }) loose fit))
pushed_same old line loose fit parcel items w =
    let new = record old { taken = line } in
    sum_by-append w (copies_kept (kept_of old loose fit)) parcel.finalizers ∙ sym (pushed_weigh old new loose fit parcel refl refl refl items w)

pub take_fit : (old : Store) (line : Filled Parcel) (loose : Option Copy) (fit : Bool) (parcel : Parcel) → line.items ≡ old.taken.items ++ parcel ∷ [] → line.room ≡ old.taken.room →
    TakesTo (kept_of old loose fit) (kept_of (record old { taken = line }) loose fit) parcel
take_fit old line loose fit parcel items room =
    let new = record old { taken = line } in
    take_keeps (kept_of old loose fit) (kept_of new loose fit) parcel (pushed_weigh old new loose fit parcel refl refl refl items) refl
    (λ fits. kept_is (kept_of new loose fit) (record (kept_of old loose fit) { taken = record { items = old.taken.items ++ parcel ∷ []; room = old.taken.room } }) refl (filled_is line (old.taken.items ++ parcel ∷ []) old.taken.room items room) refl refl refl refl refl)

pub take_unfit : (old new : Store) (line : Filled Parcel) (loose next : Option Copy) (fit : Bool) (parcel : Parcel) → fit ≡ false → line.items ≡ old.taken.items ++ parcel ∷ [] →
    SameCopies (loose_copies loose ++ copies_stored (record old { taken = line })) (loose_copies next ++ copies_stored new) → TakesTo (kept_of old loose fit) (kept_of new next fit) parcel
take_unfit old new line loose next fit parcel unfit items same =
    let mid = record old { taken = line } in
    take_keeps (kept_of old loose fit) (kept_of new next fit) parcel (λ w. sym (same w) ∙ pushed_weigh old mid loose fit parcel refl refl refl items w) refl (λ fits. absurd cc)

only_weighs : (s : Store) → ((w : Copy → ℕ) → sum_by w (copies_made (made_of s.maker)) + (sum_by w (copies_dropped s.taken.items) + (sum_by w (copies_put_out s.ready.items) + (sum_by w (copies_on s.shelf) + sum_by w s.discarded.items))) ≡ 0) → copies_stored s ≡ []
only_weighs s none = no_copies (copies_stored s) (λ w. stored_weigh s w ∙ none w)

-- the outputs are put out
pub settled_out : (old new : Store) (loose : Option Copy) (fit : Bool) → new.maker ≡ old.maker → new.taken ≡ old.taken → new.shelf ≡ old.shelf → new.discarded ≡ old.discarded → new.ready.items ≡ [] → IsSettled old loose fit → IsSettled new loose fit
settled_out old new loose fit maker taken shelf gone ready settled = record {
  room = subst (λ n. 0 < n) (sym (ap (λ (t : Filled Parcel). t.room) taken)) settled.room;
  clear = λ fits. let was = settled.clear fits in (shelf ∙ was.0, was.1);
  next = λ unfit none.
      let parts = has_none old (settled.next unfit none) in
      only_weighs new (λ w.
      let a = ap (λ m. sum_by w (copies_made (made_of m))) maker in
      let b = ap (sum_by w) parts.maker in
      let c = ap (λ (t : Filled Parcel). sum_by w (copies_dropped t.items)) taken in
      let d = ap (sum_by w) parts.taken in
      let e = ap (λ os. sum_by w (copies_put_out os)) ready in
      let f = ap (λ sh. sum_by w (copies_on sh)) shelf in
      let g = ap (sum_by w) parts.shelf in
      let k = ap (λ (v : Vec Copy). sum_by w v.items) gone in
      let l = ap (sum_by w) parts.discarded in
      omega (arith, a, b, c, d, e, f, g, k, l));
}

pub put_out_same : (old new : Store) (loose : Option Copy) (fit : Bool) (outputs : List Output) → new.maker ≡ old.maker → new.taken ≡ old.taken → new.shelf ≡ old.shelf → new.discarded ≡ old.discarded → new.ready.items ≡ [] → outputs ≡ old.ready.items →
    SameCopies (copies_kept (kept_of old loose fit)) (copies_put_out outputs ++ copies_kept (kept_of new loose fit))
put_out_same old new loose fit outputs maker taken shelf gone ready is w =
    let a = kept_weigh (kept_of old loose fit) w in
    let b = kept_weigh (kept_of new loose fit) w in
    let c = sum_by-append w (copies_put_out outputs) (copies_kept (kept_of new loose fit)) in
    let d = put_out-append old.ready.items old.shelf.outputs w in
    let e = put_out-append new.ready.items new.shelf.outputs w in
    let f = ap (λ os. sum_by w (copies_put_out os)) ready in
    let g = ap (λ os. sum_by w (copies_put_out os)) is in
    let h = ap (λ (sh : Shelved). sum_by w (copies_put_out sh.outputs)) shelf in
    let j = ap (λ (sh : Shelved). sum_by w (copies_dropped sh.dropped)) shelf in
    let m = ap (λ m. sum_by w (copies_made (made_of m))) maker in
    let n = ap (λ (t : Filled Parcel). sum_by w (copies_dropped t.items)) taken in
    let o = ap (λ (v : Vec Copy). sum_by w v.items) gone in
    omega (arith, a, b, c, d, e, f, g, h, j, m, n, o)

pub put_out_store : (old new : Store) (loose : Option Copy) (fit : Bool) (outputs : List Output) → new.maker ≡ old.maker → new.taken ≡ old.taken → new.shelf ≡ old.shelf → new.discarded ≡ old.discarded → new.dropped ≡ 0 → new.ready.items ≡ [] → outputs ≡ old.ready.items →
    IsSettled old loose fit → (h : Record) (i : ℕ) (kept : List ℕ) → HasMade (kept_of old loose fit) h i (to_answer h i) → IsLegal (Answer i (notes_of outputs) (numbers_of old.discarded.items) kept ∷ h) →
    Keeps (kept_of new loose fit) (Answer i (notes_of outputs) (numbers_of old.discarded.items) kept ∷ h) i
put_out_store old new loose fit outputs maker taken shelf gone dropped ready is settled = put_out_then (kept_of old loose fit) (kept_of new loose fit) outputs
    (λ fits. is ∙ sym (append-nil old.ready.items) ∙ ap (λ (sh : Shelved). old.ready.items ++ sh.outputs) (sym (settled.clear fits).0))
    (λ fits. kept_is (kept_of new loose fit) (record (kept_of old loose fit) { shelf = nothing; dropped = 0 }) (ap made_of maker) taken
    (ap (λ (os : List Output). with_shelf os new.shelf) ready ∙ ap (λ (sh : Shelved). with_shelf [] sh) (shelf ∙ (settled.clear fits).0)) (ap (λ (v : Vec Copy). v.items) gone) dropped refl refl)

-- a copy that was discarded is taken out
module _ (copy : Copy) (old : Kept) (rest : List Copy) (is : old.discarded ≡ rest ++ copy ∷ []) where
  abbrev without_it : Kept
  without_it = record old { discarded = rest }

  gone_weigh : (w : Copy → ℕ) → sum_by w old.discarded ≡ w copy + sum_by w rest
  gone_weigh w =
      let a = ap (sum_by w) is in
      let b = sum_by-append w rest (copy ∷ []) in
      let c = sum_by-cons w copy [] in
      omega (arith, a, b, c)

  kept_loses : (w : Copy → ℕ) → sum_by w (copies_kept old) ≡ w copy + sum_by w (copies_kept without_it)
  kept_loses w =
      let a = kept_weigh old w in
      let b = kept_weigh without_it w in
      let c = gone_weigh w in
      omega (arith, a, b, c)

  by_rest : (m : Option Reduce) (on : Shelved) (h : Record) (i : ℕ) → HasMakerGiven m on old.discarded h i [] → HasMakerGiven m on rest h i []
  by_rest (Some r) on h i g =
      let none : rest ++ copy ∷ [] ≡ [] = sym is ∙ g.discarded in
      absurd (not_empty rest none)
    where
      not_empty : (xs : List Copy) → xs ++ copy ∷ [] ≡ [] → ⊥
      not_empty [] none = cc
      not_empty (x ∷ xs) none = cc
  by_rest None on h i g = g

  out_leads : (h : Record) (i : ℕ) (outcome : Outcome) → Keeps old h i → IsLegal (Spent i copy.number outcome ∷ h) → Keeps without_it (Spent i copy.number outcome ∷ h) i
  out_leads h i outcome keeps legal = record {
    accounts = lost_leads copy old without_it kept_loses h i outcome keeps.accounts legal;
    abreast = λ fit. let a = keeps.abreast fit in record {
      given = record { by = given_stays old.maker old.shelf rest h i (Spent i copy.number outcome) [] legal refl (by_rest old.maker old.shelf h i a.given.by); loose = a.given.loose };
      bare = a.bare;
      taken = a.taken;
      owed = λ c some unspent.
          let there = a.owed c some (unspent_before h (Spent i copy.number outcome) c unspent) in
          let e = gone_weigh (of_number c) in
          let f = count_numbers c old.discarded in
          let g = count_numbers c rest in
          let other = not_it h c unspent in
          omega (arith, there, e, f, g, other);
      dropped = a.dropped;
    };
  }
    where
      not_it : (h : Record) (c : ℕ) → count c (all_of spends h ++ copy.number ∷ []) ≡ 0 → of_number c copy ≡ 0
      not_it h c unspent =
          let a = count-append c (all_of spends h) (copy.number ∷ []) in
          let b = count_numbers c (copy ∷ []) in
          let d = sum_by-cons (of_number c) copy [] in
          omega (arith, a, b, d, unspent)

  pub takes_out : TakesOut copy old without_it
  takes_out = record {
    discarded = λ w. gone_weigh w ∙ sym (sum_by-cons w copy rest);
    same = λ w. kept_loses w ∙ sym (sum_by-cons w copy (copies_kept without_it));
    there = lost_there copy old without_it kept_loses;
    made = lost_made copy old without_it kept_loses;
    leads = out_leads;
  }

pub next_out : (old : Kept) (rest : List Copy) (o : Option Copy) → old.discarded ≡ rest ++ option_to_list o → IfSome o (λ copy. TakesOut copy old (record old { discarded = rest }))
next_out old rest None is = tt
next_out old rest (Some copy) is = takes_out copy old rest is

-- a copy is given up
module _ (store mid new : Store) (loose there next result : Option Copy) (fit after : Bool) (unfit : after ≡ false) (found : SameCopies (loose_copies loose ++ copies_stored store) (loose_copies there ++ copies_stored mid)) (none : there ≡ None → copies_stored mid ≡ [])
    (left : SameCopies (copies_stored mid) (loose_copies next ++ copies_stored new)) (is : result ≡ there) where
  pub given_some : IfSome result (λ copy. GivesUp copy (kept_of store loose fit) (kept_of new next after))
  given_some = go result is
    where
      go : (o : Option Copy) → o ≡ there → IfSome o (λ copy. GivesUp copy (kept_of store loose fit) (kept_of new next after))
      go None same = tt
      go (Some copy) same = gives_up copy (kept_of store loose fit) (kept_of new next after) unfit (λ w.
          let a = found w in
          let b = left w in
          let c = ap (λ (o : Option Copy). sum_by w (loose_copies o ++ copies_stored mid)) (sym same) in
          let d = sum_by-cons w copy (copies_stored mid) in
          omega (arith, a, b, c, d))

  pub given_none : IsNone result ↔ (copies_kept (kept_of store loose fit) ≡ [])
  given_none = (
    λ absent. no_copies (copies_kept (kept_of store loose fit)) (λ w.
        let gone : there ≡ None = sym is ∙ is_none result absent in
        let a = found w in
        let b = ap (λ (o : Option Copy). sum_by w (loose_copies o ++ copies_stored mid)) gone in
        let c = ap (sum_by w) (none gone) in
        omega (arith, a, b, c)),
    λ empty. ap is_some (is ∙ no_loose there (parts_none (loose_copies there) (copies_stored mid) (no_copies (loose_copies there ++ copies_stored mid) (λ w. sym (found w) ∙ ap (sum_by w) empty))).0),
  )
    where
      is_none : (o : Option Copy) → IsNone o → o ≡ None
      is_none None absent = refl
      is_none (Some copy) absent = absurd cc

  pub given_empty : IfNone result (copies_kept (kept_of new next after) ≡ [])
  given_empty = go result is
    where
      go : (o : Option Copy) → o ≡ there → IfNone o (copies_kept (kept_of new next after) ≡ [])
      go None same = no_copies (copies_kept (kept_of new next after)) (λ w. sym (left w) ∙ ap (sum_by w) (none (sym same)))
      go (Some copy) same = tt
