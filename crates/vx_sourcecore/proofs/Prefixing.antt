-- What a prefix stands for, behind each of its calls.
use Rattle.std.proofs.Common.{◌≡◌, ℕ, zero, suc, ◌<◌, ◌≤◌, Bool, true, false, List, [], ◌∷◌, ◌++◌, length, get_or, Option, Some, None, IfSome, refl, sym, ap, subst, ◌∙◌, arith}
use Rattle.std.specs.Prelude.{◌==◌, ◌&&◌, ◌||◌, not, if◌then◌else◌, map, take, take_while, slice_set, nat_lt}
use Rattle.std.proofs.lemmas.Bool.Decides.{nat_tests}
use Rattle.std.proofs.lemmas.List.{append_assoc}
use Rattle.std.proofs.lemmas.List.Sums.{take_while-cons}
use Rattle.vx_ends.specs.declared.position.Position.{Position}
use Rattle.vx_value.specs.Texts.{is_empty}
use Rattle.vx_record.specs.Confirms.{Birth, last_of_each, position_of, moved_to, same_positions}
use Rattle.vx_sourcecore.specs.declared.ends.Ends.{Ends}
use Rattle.vx_sourcecore.specs.declared.prefix.Due.{Due}
use Rattle.vx_sourcecore.specs.declared.prefix.Passing.{Passing}
use Rattle.vx_sourcecore.specs.declared.prefix.Prefix.{Prefix}
use Rattle.vx_sourcecore.specs.Prefixes.{ends_of, birth_at, Judgement, MayAll, MayNotFirst, IsNoneOf, AreApart, IsKeptOf, AreKeptOf, IsNewDue, IsCutOf, IsPrefixOf, IsReadyFor, NoticeChanges, GoesOn, IsAskFor, IsPopped, IsHeld, passed_in, new_due, fails, kept_before, has_failed}
use Rattle.vx_sourcecore.proofs.Dues.{last_more, map_more}

-- POSITIONS
-- positions are equal where the test says so
pub positions_equal : (ps qs : List Position) → same_positions ps qs ≡ true → ps ≡ qs
positions_equal [] [] same = refl
positions_equal [] (q ∷ qs) same = cc
positions_equal (p ∷ ps) [] same = cc
positions_equal (p ∷ ps) (q ∷ qs) same =
    let first = left_of (p.stream == q.stream) (p.end == q.end) (same_positions ps qs) same in
    let streams : p.stream ≡ q.stream = grind (arith, nat_tests, first.0) in
    let ends : p.end ≡ q.end = grind (arith, nat_tests, first.1) in
    let here : p ≡ q = ap (λ (n : ℕ). record { stream = n; end = p.end }) streams ∙ ap (λ (n : ℕ). record { stream = q.stream; end = n }) ends in
    ap (λ (x : Position). x ∷ ps) here ∙ ap (λ (xs : List Position). q ∷ xs) (positions_equal ps qs first.2)
  where
    left_of : (a b c : Bool) → (a && b && c) ≡ true → (a ≡ true) × (b ≡ true) × (c ≡ true)
    left_of true true true e = (refl, refl, refl)
    left_of true true false e = cc
    left_of true false c e = cc
    left_of false b c e = cc

-- with one more there are some
moved_some : (stream end : ℕ) (ps : List Position) → is_empty (moved_to stream end ps) ≡ false
moved_some stream end [] = refl
moved_some stream end (p ∷ rest) = go (nat_lt stream p.stream) (stream == p.stream)
  where
    go : (a b : Bool) → is_empty (if a then (record { stream = stream; end = end } ∷ p ∷ rest) else (if b then (record { stream = stream; end = end } ∷ rest) else (p ∷ moved_to stream end rest))) ≡ false
    go true b = refl
    go false true = refl
    go false false = refl

-- where the batches end with one more
pub ends_more : (bs : List Birth) (b : Birth) → ends_of (bs ++ b ∷ []) ≡ moved_to b.stream b.end (ends_of bs)
ends_more bs b = ap (λ (ps : List Position). last_of_each [] ps) (map_more position_of bs b) ∙ last_more [] (map position_of bs) (position_of b)

-- BATCHES THAT MAY BE CONFIRMED
may_more : (judged : Judgement) (bs : List Birth) (b : Birth) → MayAll judged bs → judged.may b ≡ true → MayAll judged (bs ++ b ∷ [])
may_more judged [] b all is = (is, tt)
may_more judged (x ∷ bs) b all is = (all.0, may_more judged bs b all.1 is)

may_by : (judged next : Judgement) (bs : List Birth) → ((b : Birth) → judged.may b ≡ true → next.may b ≡ true) → MayAll judged bs → MayAll next bs
may_by judged next [] keeps all = tt
may_by judged next (b ∷ bs) keeps all = (keeps b all.0, may_by judged next bs keeps all.1)

-- as many as may be confirmed
pub taken_done : (judged : Judgement) (done rest : List Birth) → MayAll judged done → MayNotFirst judged rest → take_while judged.may (done ++ rest) ≡ done
taken_done judged [] [] all halted = refl
taken_done judged [] (b ∷ rest) all halted = take_while-cons judged.may b rest ∙ go (judged.may b) halted
  where
    go : (t : Bool) → t ≡ false → (if t then b ∷ take_while judged.may rest else []) ≡ []
    go true e = cc
    go false e = refl
taken_done judged (b ∷ done) rest all halted = take_while-cons judged.may b (done ++ rest) ∙ go (judged.may b) all.0 (taken_done judged done rest all.1 halted)
  where
    go : (t : Bool) → t ≡ true → take_while judged.may (done ++ rest) ≡ done → (if t then b ∷ take_while judged.may (done ++ rest) else []) ≡ b ∷ done
    go true e ih = ap (λ (bs : List Birth). b ∷ bs) ih
    go false e ih = cc

-- so what a prefix reached is where those end
pub reached_is : (p : Prefix) (judged : Judgement) (births : List Birth) (asked : List Position) (is : IsPrefixOf p judged births asked) → ends_of (take_while judged.may births) ≡ ends_of is.done
reached_is p judged births asked is = ap (λ (bs : List Birth). ends_of (take_while judged.may bs)) is.all ∙ ap ends_of (taken_done judged is.done is.rest is.cut.passed is.halted)

-- where all that is kept stays
pub goes_on : (old new : Prefix) → new.waits ≡ old.waits → new.ends ≡ old.ends → new.behind.items ≡ old.behind.items → new.blocked ≡ old.blocked → new.due ≡ old.due → new.asked ≡ old.asked → GoesOn old new
goes_on old new waits ends behind blocked due asked = record {
  waits = waits;
  stands = λ judged births last is. record {
    done = is.done;
    rest = is.rest;
    all = is.all;
    cut = record {
      ends = ends ∙ is.cut.ends;
      behind = subst (λ (t : Bool). AreKeptOf t judged (ends_of is.done) new.behind.items is.rest) (sym blocked)
          (subst (λ (rows : List Passing). AreKeptOf old.blocked judged (ends_of is.done) rows is.rest) (sym behind) is.cut.behind);
      passed = is.cut.passed;
      last = asked ∙ is.cut.last;
      none = λ none. is.cut.none (sym due ∙ none);
      some = subst (λ (o : Option Due). IfSome o (IsNewDue (ends_of is.done) last)) (sym due) is.cut.some;
    };
    halted = is.halted;
  };
}

-- A BATCH MORE
kept_more : (judged : Judgement) (before : List Position) (rows : List Passing) (bs : List Birth) (row : Passing) (b : Birth) → AreKeptOf false judged before rows bs → IsKeptOf judged (moved_to b.stream b.end (last_of_each before (map position_of bs))) row b →
    AreKeptOf false judged before (rows ++ row ∷ []) (bs ++ b ∷ [])
kept_more judged before [] [] row b kept is = (is, refl)
kept_more judged before [] (x ∷ bs) row b kept is = let never : false ≡ true = kept.0 in cc
kept_more judged before (r ∷ rows) [] row b kept is = absurd kept
kept_more judged before (r ∷ rows) (x ∷ bs) row b kept is = (kept.0, kept_more judged (moved_to x.stream x.end before) rows bs row b kept.1 is)

-- behind one that never may be confirmed nothing more is kept
kept_blocked : (judged : Judgement) (before : List Position) (rows : List Passing) (bs : List Birth) (b : Birth) → AreKeptOf true judged before rows bs → AreKeptOf true judged before rows (bs ++ b ∷ [])
kept_blocked judged before [] [] b kept = cc
kept_blocked judged before [] (x ∷ bs) b kept = kept
kept_blocked judged before (r ∷ rows) [] b kept = absurd kept
kept_blocked judged before (r ∷ rows) (x ∷ bs) b kept = (kept.0, kept_blocked judged (moved_to x.stream x.end before) rows bs b kept.1)

ends_both : (before : List Position) (xs ys : List Birth) → last_of_each before (map position_of (xs ++ ys)) ≡ last_of_each (last_of_each before (map position_of xs)) (map position_of ys)
ends_both before [] ys = refl
ends_both before (x ∷ xs) ys = ends_both (moved_to x.stream x.end before) xs ys

-- where a batch more ends
ends_born : (old : Prefix) (position : Position) (b : Birth) (kept : List Position) (done rest : List Birth) → b.stream ≡ position.stream → b.end ≡ position.end → kept ≡ moved_to position.stream position.end old.ends → old.ends ≡ ends_of (done ++ rest) → kept ≡ ends_of (done ++ (rest ++ b ∷ []))
ends_born old position b kept done rest stream end is ends =
    is ∙ ap (λ (ps : List Position). moved_to position.stream position.end ps) ends ∙ ap (λ (n : ℕ). moved_to n position.end (ends_of (done ++ rest))) (sym stream) ∙ ap (λ (n : ℕ). moved_to b.stream n (ends_of (done ++ rest))) (sym end)
    ∙ sym (ends_more (done ++ rest) b) ∙ ap ends_of (append_assoc done rest (b ∷ []))

-- what is kept of a batch that is born
abbrev new_row : ℕ → Bool → Ends → Passing
new_row batch passed ends = record { batch = batch; passed = passed; due = record { positions = ends.positions; copy = ends.copy } }

pub cut_born : (old new : Prefix) (batch : ℕ) (position : Position) (ends : Ends) (judged : Judgement) (births : List Birth) (asked : List Position) → IsReadyFor old position ends → judged.may (birth_at old.waits batch position) ≡ not old.waits →
    old.blocked ≡ false → new.ends ≡ ends.kept → new.behind.items ≡ old.behind.items ++ new_row batch (not old.waits) ends ∷ [] → new.blocked ≡ old.blocked → new.due ≡ old.due → new.asked ≡ old.asked →
    IsPrefixOf old judged births asked → IsCutOf new judged (births ++ birth_at old.waits batch position ∷ []) asked
cut_born old new batch position ends judged births asked ready passes free kept behind blocked due last is =
    let b : Birth = birth_at old.waits batch position in
    let reached : old.ends ≡ last_of_each (ends_of is.done) (map position_of is.rest) = is.cut.ends ∙ ends_both [] is.done is.rest in
    let row : IsKeptOf judged (moved_to b.stream b.end (last_of_each (ends_of is.done) (map position_of is.rest))) (new_row batch (not old.waits) ends) b = record {
      batch = refl;
      passed = sym passes;
      positions = ready.positions ∙ ap (λ (ps : List Position). moved_to position.stream position.end ps) reached;
      copy = ready.copy ∙ ap (λ (ps : List Position). moved_to position.stream position.end ps) reached;
    } in
    record {
      done = is.done;
      rest = is.rest ++ b ∷ [];
      all = ap (λ (bs : List Birth). bs ++ b ∷ []) is.all ∙ append_assoc is.done is.rest (b ∷ []);
      cut = record {
        ends = kept ∙ ends_born old position b ends.kept is.done is.rest refl refl ready.kept is.cut.ends;
        behind = subst (λ (t : Bool). AreKeptOf t judged (ends_of is.done) new.behind.items (is.rest ++ b ∷ [])) (sym (blocked ∙ free))
            (subst (λ (rows : List Passing). AreKeptOf false judged (ends_of is.done) rows (is.rest ++ b ∷ [])) (sym behind)
            (kept_more judged (ends_of is.done) old.behind.items is.rest (new_row batch (not old.waits) ends) b (subst (λ (t : Bool). AreKeptOf t judged (ends_of is.done) old.behind.items is.rest) free is.cut.behind) row));
        passed = is.cut.passed;
        last = last ∙ is.cut.last;
        none = λ none. is.cut.none (sym due ∙ none);
        some = subst (λ (o : Option Due). IfSome o (IsNewDue (ends_of is.done) asked)) (sym due) is.cut.some;
      };
    }

-- the same, behind one that never may be confirmed
first_more : (judged : Judgement) (before : List Position) (rows : List Passing) (rest : List Birth) (b : Birth) → AreKeptOf true judged before rows rest → MayNotFirst judged rest → MayNotFirst judged (rest ++ b ∷ [])
first_more judged before [] [] b kept halted = cc
first_more judged before (row ∷ rows) [] b kept halted = absurd kept
first_more judged before rows (x ∷ rest) b kept halted = halted

pub prefix_born : (old new : Prefix) (batch : ℕ) (position : Position) (ends : Ends) (judged : Judgement) (births : List Birth) (asked : List Position) → IsReadyFor old position ends → old.blocked ≡ true → new ≡ record old { ends = ends.kept } →
    IsPrefixOf old judged births asked → IsPrefixOf new judged (births ++ birth_at old.waits batch position ∷ []) asked
prefix_born old new batch position ends judged births asked ready stuck same is =
    let b : Birth = birth_at old.waits batch position in
    let kept : AreKeptOf true judged (ends_of is.done) old.behind.items is.rest = subst (λ (t : Bool). AreKeptOf t judged (ends_of is.done) old.behind.items is.rest) stuck is.cut.behind in
    subst (λ (p : Prefix). IsPrefixOf p judged (births ++ b ∷ []) asked) (sym same) (record {
      done = is.done;
      rest = is.rest ++ b ∷ [];
      all = ap (λ (bs : List Birth). bs ++ b ∷ []) is.all ∙ append_assoc is.done is.rest (b ∷ []);
      cut = record {
        ends = ends_born old position b ends.kept is.done is.rest refl refl ready.kept is.cut.ends;
        behind = subst (λ (t : Bool). AreKeptOf t judged (ends_of is.done) old.behind.items (is.rest ++ b ∷ [])) (sym stuck) (kept_blocked judged (ends_of is.done) old.behind.items is.rest b kept);
        passed = is.cut.passed;
        last = is.cut.last;
        none = is.cut.none;
        some = is.cut.some;
      };
      halted = first_more judged (ends_of is.done) old.behind.items is.rest b kept is.halted;
    })

-- PAST A BATCH
-- what is to be confirmed once a batch may be
new_some : (due : Due) (reached asked : List Position) → due.positions ≡ reached → due.copy ≡ reached → is_empty reached ≡ false →
    (new_due due asked ≡ None → reached ≡ asked) × IfSome (new_due due asked) (IsNewDue reached asked)
new_some due reached asked positions copy some = go (same_positions due.positions asked) refl
  where
    go : (t : Bool) → same_positions due.positions asked ≡ t → ((if t then None else Some due) ≡ None → reached ≡ asked) × IfSome (if t then None else Some due) (IsNewDue reached asked)
    go true same = (λ none. sym positions ∙ positions_equal due.positions asked same, tt)
    go false same = (λ none. cc, record { positions = positions; copy = copy; some = some; new = ap (λ (ps : List Position). same_positions ps asked) (sym positions) ∙ same })

pub cut_next : (old mid new : Prefix) (due : Due) (judged : Judgement) (births : List Birth) (asked : List Position) → IsPopped old mid due → new ≡ record mid { due = new_due due mid.asked } → IsCutOf old judged births asked → IsCutOf new judged births asked
cut_next old mid new due judged births asked popped reaches is = go is.rest refl (subst (λ (rows : List Passing). AreKeptOf mid.blocked judged (ends_of is.done) rows is.rest) popped.front (subst (λ (t : Bool). AreKeptOf t judged (ends_of is.done) old.behind.items is.rest) (sym (ap (λ (p : Prefix). p.blocked) popped.rest)) is.cut.behind))
  where
    last : mid.asked ≡ asked
    last = ap (λ (p : Prefix). p.asked) popped.rest ∙ is.cut.last

    ends : mid.ends ≡ old.ends
    ends = ap (λ (p : Prefix). p.ends) popped.rest

    past : (b : Birth) (bs : List Birth) → is.rest ≡ b ∷ bs → IsKeptOf judged (moved_to b.stream b.end (ends_of is.done)) popped.row b → AreKeptOf mid.blocked judged (moved_to b.stream b.end (ends_of is.done)) mid.behind.items bs → IsCutOf (record mid { due = new_due due mid.asked }) judged births asked
    past b bs at kept behind =
        let reached : moved_to b.stream b.end (ends_of is.done) ≡ ends_of (is.done ++ b ∷ []) = sym (ends_more is.done b) in
        let all : is.done ++ is.rest ≡ (is.done ++ b ∷ []) ++ bs = ap (λ (xs : List Birth). is.done ++ xs) at ∙ sym (append_assoc is.done (b ∷ []) bs) in
        let dues = new_some due (ends_of (is.done ++ b ∷ [])) mid.asked (ap (λ (d : Due). d.positions) (sym popped.due_is) ∙ kept.positions ∙ reached) (ap (λ (d : Due). d.copy) (sym popped.due_is) ∙ kept.copy ∙ reached)
        (ap is_empty (sym reached) ∙ moved_some b.stream b.end (ends_of is.done)) in
        record {
          done = is.done ++ b ∷ [];
          rest = bs;
          all = is.all ∙ all;
          cut = record {
            ends = ends ∙ is.cut.ends ∙ ap ends_of all;
            behind = subst (λ (ps : List Position). AreKeptOf mid.blocked judged ps mid.behind.items bs) reached behind;
            passed = may_more judged is.done b is.cut.passed (sym kept.passed ∙ popped.passed);
            last = last;
            none = λ none. dues.0 none ∙ last;
            some = subst (λ (ps : List Position). IfSome (new_due due mid.asked) (IsNewDue (ends_of (is.done ++ b ∷ [])) ps)) last dues.1;
          };
        }

    go : (rest : List Birth) → is.rest ≡ rest → AreKeptOf mid.blocked judged (ends_of is.done) (popped.row ∷ mid.behind.items) rest → IsCutOf new judged births asked
    go [] at kept = absurd kept
    go (b ∷ bs) at kept = subst (λ (p : Prefix). IsCutOf p judged births asked) (sym reaches) (past b bs at kept.0 kept.1)

-- where the front may not be confirmed, as many are done as may be
pub cut_halted : (p : Prefix) (judged : Judgement) (births : List Birth) (asked : List Position) → IsHeld p.behind.items → IsCutOf p judged births asked → IsPrefixOf p judged births asked
cut_halted p judged births asked held is = record {
  done = is.done;
  rest = is.rest;
  all = is.all;
  cut = is.cut;
  halted = go p.behind.items is.rest held is.cut.behind;
}
  where
    go : (rows : List Passing) (rest : List Birth) → IsHeld rows → AreKeptOf p.blocked judged (ends_of is.done) rows rest → MayNotFirst judged rest
    go [] [] held kept = tt
    go [] (b ∷ bs) held kept = kept.2
    go (row ∷ rows) [] held kept = absurd kept
    go (row ∷ rows) (b ∷ bs) held kept = sym kept.0.passed ∙ held

-- A NOTICE
-- nothing else is said of any batch but those of a number
abbrev pub SaysSame : ℕ → Judgement → Judgement → Type 0
SaysSame b judged next = (birth : Birth) → (birth.batch == b) ≡ false → (judged.may birth ≡ next.may birth) × (judged.never birth ≡ next.never birth)

kept_by : (blocked : Bool) (judged next : Judgement) (before : List Position) (rows : List Passing) (bs : List Birth) (b : ℕ) → SaysSame b judged next → IsNoneOf b bs → AreKeptOf blocked judged before rows bs → AreKeptOf blocked next before rows bs
kept_by blocked judged next before [] [] b same none kept = kept
kept_by blocked judged next before [] (x ∷ bs) b same none kept = let says = same x none.0 in (kept.0, sym says.1 ∙ kept.1, sym says.0 ∙ kept.2)
kept_by blocked judged next before (row ∷ rows) [] b same none kept = absurd kept
kept_by blocked judged next before (row ∷ rows) (x ∷ bs) b same none kept = (
  record { batch = kept.0.batch; passed = kept.0.passed ∙ (same x none.0).0; positions = kept.0.positions; copy = kept.0.copy },
  kept_by blocked judged next (moved_to x.stream x.end before) rows bs b same none.1 kept.1,
)

none_first : (b : ℕ) (xs ys : List Birth) → IsNoneOf b (xs ++ ys) → IsNoneOf b xs × IsNoneOf b ys
none_first b [] ys none = (tt, none)
none_first b (x ∷ xs) ys none = let later = none_first b xs ys none.1 in ((none.0, later.0), later.1)

all_by : (judged next : Judgement) (bs : List Birth) (b : ℕ) → SaysSame b judged next → IsNoneOf b bs → MayAll judged bs → MayAll next bs
all_by judged next [] b same none all = tt
all_by judged next (x ∷ bs) b same none all = (sym (same x none.0).0 ∙ all.0, all_by judged next bs b same none.1 all.1)

first_by : (judged next : Judgement) (bs : List Birth) (b : ℕ) → SaysSame b judged next → IsNoneOf b bs → MayNotFirst judged bs → MayNotFirst next bs
first_by judged next [] b same none halted = tt
first_by judged next (x ∷ bs) b same none halted = sym (same x none.0).0 ∙ halted

-- a prefix goes on standing for batches of which nothing else is said
pub prefix_by : (p : Prefix) (judged next : Judgement) (births : List Birth) (asked : List Position) (b : ℕ) → SaysSame b judged next → IsNoneOf b births → IsPrefixOf p judged births asked → IsPrefixOf p next births asked
prefix_by p judged next births asked b same none is =
    let parts = none_first b is.done is.rest (subst (IsNoneOf b) is.all none) in
    record {
      done = is.done;
      rest = is.rest;
      all = is.all;
      cut = record {
        ends = is.cut.ends;
        behind = kept_by p.blocked judged next (ends_of is.done) p.behind.items is.rest b same parts.1 is.cut.behind;
        passed = all_by judged next is.done b same parts.0 is.cut.passed;
        last = is.cut.last;
        none = is.cut.none;
        some = is.cut.some;
      };
      halted = first_by judged next is.rest b same parts.1 is.halted;
    }

-- what a notice says of a batch of another number, and of one of its own
unhit : (m t d : Bool) → t ≡ false → (m || (t && d)) ≡ m
unhit true t d e = refl
unhit false true d e = cc
unhit false false d e = refl

unset : (m t d : Bool) → d ≡ false → (m || (t && d)) ≡ m
unset true t d e = refl
unset false true d e = e
unset false false d e = refl

hit : (m t d : Bool) → t ≡ true → d ≡ true → (m || (t && d)) ≡ true
hit true t d e f = refl
hit false true d e f = f
hit false false d e f = cc

others : (b : ℕ) (delivered : Bool) (judged next : Judgement) → NoticeChanges b delivered judged next → SaysSame b judged next
others b delivered judged next reports birth other =
    let away : (b == birth.batch) ≡ false = grind (arith, nat_tests, other) in
    (sym (reports.may birth ∙ unhit (judged.may birth) (b == birth.batch) delivered away), sym (reports.never birth ∙ unhit (judged.never birth) (b == birth.batch) (not delivered) away))

apart_rest : (xs ys : List Birth) → AreApart (xs ++ ys) → AreApart ys
apart_rest [] ys apart = apart
apart_rest (x ∷ xs) ys apart = apart_rest xs ys apart.1

-- of the batch that is told of nothing was said before
observed_first : (b : ℕ) (delivered : Bool) (judged next : Judgement) (x : Birth) → NoticeChanges b delivered judged next → judged.never x ≡ true → (x.batch == b) ≡ false
observed_first b delivered judged next x reports never = go (x.batch == b) (reports.first x)
  where
    go : (t : Bool) → (t ≡ true → judged.never x ≡ false) → t ≡ false
    go true first = let no : judged.never x ≡ false = first refl in cc
    go false first = refl

-- THE BATCH WAS DELIVERED
kept_passed : (blocked : Bool) (judged next : Judgement) (b : ℕ) (before : List Position) (rows : List Passing) (bs : List Birth) → NoticeChanges b true judged next → AreApart bs → AreKeptOf blocked judged before rows bs → AreKeptOf blocked next before (passed_in b rows) bs
kept_passed blocked judged next b before [] [] reports apart kept = kept
kept_passed blocked judged next b before [] (x ∷ bs) reports apart kept =
    let says = others b true judged next reports x (observed_first b true judged next x reports kept.1) in (kept.0, sym says.1 ∙ kept.1, sym says.0 ∙ kept.2)
kept_passed blocked judged next b before (row ∷ rows) [] reports apart kept = absurd kept
kept_passed blocked judged next b before (row ∷ rows) (x ∷ bs) reports apart kept = go (row.batch == b) refl (kept_passed blocked judged next b (moved_to x.stream x.end before) rows bs reports apart.1 kept.1)
  where
    others_of : x.batch ≡ b → SaysSame x.batch judged next
    others_of is birth other = others b true judged next reports birth (grind (arith, nat_tests, other, is))

    go : (t : Bool) → (row.batch == b) ≡ t → AreKeptOf blocked next (moved_to x.stream x.end before) (passed_in b rows) bs → AreKeptOf blocked next before (if t then record row { passed = true } ∷ rows else row ∷ passed_in b rows) (x ∷ bs)
    go true e later =
        let is : x.batch ≡ b = (let here : row.batch ≡ b = grind (arith, nat_tests) in sym kept.0.batch ∙ here) in
        let found : next.may x ≡ true = reports.may x ∙ hit (judged.may x) (b == x.batch) true (grind (arith, nat_tests, is)) refl in (
          record { batch = kept.0.batch; passed = sym found; positions = kept.0.positions; copy = kept.0.copy },
          kept_by blocked judged next (moved_to x.stream x.end before) rows bs x.batch (others_of is) apart.0 kept.1,
        )
    go false e later =
        let other : (x.batch == b) ≡ false = (let same : row.batch ≡ x.batch = kept.0.batch in grind (arith, nat_tests, e, same)) in (
          record { batch = kept.0.batch; passed = kept.0.passed ∙ (others b true judged next reports x other).0; positions = kept.0.positions; copy = kept.0.copy },
          later,
        )

pub cut_passed : (old new : Prefix) (b : ℕ) (delivered : Bool) (judged next : Judgement) (births : List Birth) (asked : List Position) → delivered ≡ true → NoticeChanges b delivered judged next → AreApart births →
    new ≡ record old { behind = new.behind } → new.behind.items ≡ passed_in b old.behind.items → IsPrefixOf old judged births asked → IsCutOf new next births asked
cut_passed old new b delivered judged next births asked is_delivered reports apart rest behind is =
    let sure : NoticeChanges b true judged next = subst (λ (t : Bool). NoticeChanges b t judged next) is_delivered reports in
    record {
      done = is.done;
      rest = is.rest;
      all = is.all;
      cut = record {
        ends = ap (λ (p : Prefix). p.ends) rest ∙ is.cut.ends;
        behind = subst (λ (t : Bool). AreKeptOf t next (ends_of is.done) new.behind.items is.rest) (sym (ap (λ (p : Prefix). p.blocked) rest))
            (subst (λ (rows : List Passing). AreKeptOf old.blocked next (ends_of is.done) rows is.rest) (sym behind)
            (kept_passed old.blocked judged next b (ends_of is.done) old.behind.items is.rest sure (apart_rest is.done is.rest (subst AreApart is.all apart)) is.cut.behind));
        passed = may_by judged next is.done (λ x may_be. sure.may x ∙ on_left (judged.may x) ((b == x.batch) && true) may_be) is.cut.passed;
        last = ap (λ (p : Prefix). p.asked) rest ∙ is.cut.last;
        none = λ none. is.cut.none (sym (ap (λ (p : Prefix). p.due) rest) ∙ none);
        some = subst (λ (o : Option Due). IfSome o (IsNewDue (ends_of is.done) asked)) (sym (ap (λ (p : Prefix). p.due) rest)) is.cut.some;
      };
    }
  where
    on_left : (m t : Bool) → m ≡ true → (m || t) ≡ true
    on_left true t e = refl
    on_left false t e = cc

-- THE BATCH WASN'T DELIVERED
pub or_false : (t : Bool) → (t || false) ≡ t
or_false true = refl
or_false false = refl

pub or_true : (t : Bool) → (t || true) ≡ true
or_true true = refl
or_true false = refl

split_fails : (a p : Bool) → (a && not p) ≡ true → (a ≡ true) × (p ≡ false)
split_fails true true e = cc
split_fails true false e = (refl, refl)
split_fails false p e = cc

kept_failed : (blocked : Bool) (judged next : Judgement) (b : ℕ) (before : List Position) (rows : List Passing) (bs : List Birth) → NoticeChanges b false judged next → AreKeptOf blocked judged before rows bs →
    AreKeptOf (blocked || has_failed b rows) next before (kept_before b rows) bs
kept_failed blocked judged next b before [] [] reports kept = or_false blocked ∙ kept
kept_failed blocked judged next b before [] (x ∷ bs) reports kept =
    let says = others b false judged next reports x (observed_first b false judged next x reports kept.1) in (or_false blocked ∙ kept.0, sym says.1 ∙ kept.1, sym says.0 ∙ kept.2)
kept_failed blocked judged next b before (row ∷ rows) [] reports kept = absurd kept
kept_failed blocked judged next b before (row ∷ rows) (x ∷ bs) reports kept = go (fails b row) refl (kept_failed blocked judged next b (moved_to x.stream x.end before) rows bs reports kept.1)
  where
    may_same : next.may x ≡ judged.may x
    may_same = reports.may x ∙ unset (judged.may x) (b == x.batch) false refl

    go : (t : Bool) → fails b row ≡ t → AreKeptOf (blocked || has_failed b rows) next (moved_to x.stream x.end before) (kept_before b rows) bs →
        AreKeptOf (blocked || (t || has_failed b rows)) next before (if t then [] else row ∷ kept_before b rows) (x ∷ bs)
    go true e later =
        let parts = split_fails (row.batch == b) row.passed e in
        let is : x.batch ≡ b = (let here : row.batch ≡ b = grind (arith, nat_tests, parts.0) in sym kept.0.batch ∙ here) in
        (or_true blocked, reports.never x ∙ hit (judged.never x) (b == x.batch) true (grind (arith, nat_tests, is)) refl, may_same ∙ sym kept.0.passed ∙ parts.1)
    go false e later = (record { batch = kept.0.batch; passed = kept.0.passed ∙ sym may_same; positions = kept.0.positions; copy = kept.0.copy }, later)

pub prefix_failed : (old new : Prefix) (b : ℕ) (delivered : Bool) (judged next : Judgement) (births : List Birth) (asked : List Position) → delivered ≡ false → NoticeChanges b delivered judged next →
    new ≡ record old { behind = new.behind; blocked = new.blocked } → new.behind.items ≡ kept_before b old.behind.items → new.blocked ≡ (old.blocked || has_failed b old.behind.items) → IsPrefixOf old judged births asked → IsPrefixOf new next births asked
prefix_failed old new b delivered judged next births asked undelivered reports rest behind blocked is =
    let sure : NoticeChanges b false judged next = subst (λ (t : Bool). NoticeChanges b t judged next) undelivered reports in
    let may_same : (x : Birth) → next.may x ≡ judged.may x = λ x. sure.may x ∙ unset (judged.may x) (b == x.batch) false refl in
    record {
      done = is.done;
      rest = is.rest;
      all = is.all;
      cut = record {
        ends = ap (λ (p : Prefix). p.ends) rest ∙ is.cut.ends;
        behind = subst (λ (t : Bool). AreKeptOf t next (ends_of is.done) new.behind.items is.rest) (sym blocked)
            (subst (λ (rows : List Passing). AreKeptOf (old.blocked || has_failed b old.behind.items) next (ends_of is.done) rows is.rest) (sym behind)
            (kept_failed old.blocked judged next b (ends_of is.done) old.behind.items is.rest sure is.cut.behind));
        passed = may_by judged next is.done (λ x may_be. may_same x ∙ may_be) is.cut.passed;
        last = ap (λ (p : Prefix). p.asked) rest ∙ is.cut.last;
        none = λ none. is.cut.none (sym (ap (λ (p : Prefix). p.due) rest) ∙ none);
        some = subst (λ (o : Option Due). IfSome o (IsNewDue (ends_of is.done) asked)) (sym (ap (λ (p : Prefix). p.due) rest)) is.cut.some;
      };
      halted = first_same is.rest may_same is.halted;
    }
  where
    first_same : (bs : List Birth) → ((x : Birth) → next.may x ≡ judged.may x) → MayNotFirst judged bs → MayNotFirst next bs
    first_same [] same halted = tt
    first_same (x ∷ bs) same halted = same x ∙ halted

-- ASKING
pub asked_none : (p : Prefix) (judged : Judgement) (births : List Birth) (asked : List Position) → p.due ≡ None → IsPrefixOf p judged births asked → IsPrefixOf p judged births (ends_of (take_while judged.may births))
asked_none p judged births asked none is =
    let now : asked ≡ ends_of (take_while judged.may births) = sym (is.cut.none none) ∙ sym (reached_is p judged births asked is) in
    subst (λ (ps : List Position). IsPrefixOf p judged births ps) now is

pub asked_some : (old new : Prefix) (due : Due) (judged : Judgement) (births : List Birth) (asked : List Position) → old.due ≡ Some due → new.waits ≡ old.waits → new.ends ≡ old.ends → new.behind ≡ old.behind → new.blocked ≡ old.blocked → new.due ≡ None → new.asked ≡ due.copy →
    IsPrefixOf old judged births asked → IsPrefixOf new judged births (ends_of (take_while judged.may births))
asked_some old new due judged births asked was waits ends behind blocked none copy is =
    let due_is : IsNewDue (ends_of is.done) asked due = subst (λ (o : Option Due). IfSome o (IsNewDue (ends_of is.done) asked)) was is.cut.some in
    let now = reached_is old judged births asked is in
    record {
      done = is.done;
      rest = is.rest;
      all = is.all;
      cut = record {
        ends = ends ∙ is.cut.ends;
        behind = subst (λ (t : Bool). AreKeptOf t judged (ends_of is.done) new.behind.items is.rest) (sym blocked)
            (subst (λ (rows : List Passing). AreKeptOf old.blocked judged (ends_of is.done) rows is.rest) (sym (ap (λ (q : _). q.items) behind)) is.cut.behind);
        passed = is.cut.passed;
        last = copy ∙ due_is.copy ∙ sym now;
        none = λ gone. sym now;
        some = subst (λ (o : Option Due). IfSome o (IsNewDue (ends_of is.done) (ends_of (take_while judged.may births)))) (sym none) tt;
      };
      halted = is.halted;
    }

pub ask_none : (p : Prefix) (judged : Judgement) (births : List Birth) (asked : List Position) → p.due ≡ None → IsPrefixOf p judged births asked → IsAskFor None (ends_of (take_while judged.may births)) asked
ask_none p judged births asked none is = reached_is p judged births asked is ∙ is.cut.none none

pub ask_some : (p : Prefix) (due : Due) (judged : Judgement) (births : List Birth) (asked : List Position) → p.due ≡ Some due → IsPrefixOf p judged births asked → IsAskFor (Some due.positions) (ends_of (take_while judged.may births)) asked
ask_some p due judged births asked was is =
    let due_is : IsNewDue (ends_of is.done) asked due = subst (λ (o : Option Due). IfSome o (IsNewDue (ends_of is.done) asked)) was is.cut.some in
    let now = reached_is p judged births asked is in
    (due_is.positions ∙ sym now, (ap is_empty now ∙ due_is.some, ap (λ (ps : List Position). same_positions ps asked) now ∙ due_is.new))

-- ROWS
-- rows, where the first with a number may be confirmed that stands behind so many
abbrev pub passed_from : ℕ → ℕ → List Passing → List Passing
passed_from batch zero rows = passed_in batch rows
passed_from batch (suc i) [] = []
passed_from batch (suc i) (row ∷ rows) = row ∷ passed_from batch i rows

pub passed_not : (batch i : ℕ) (rows : List Passing) (row : Passing) → i < length rows → row ≡ get_or rows i row → (row.batch == batch) ≡ false → passed_from batch i rows ≡ passed_from batch (suc i) rows
passed_not batch i [] row l at other = absurd (omega arith)
passed_not batch zero (r ∷ rows) row l at other = go (r.batch == batch) (ap (λ (x : Passing). x.batch == batch) (sym at) ∙ other)
  where
    go : (t : Bool) → t ≡ false → (if t then record r { passed = true } ∷ rows else r ∷ passed_in batch rows) ≡ r ∷ passed_in batch rows
    go true e = cc
    go false e = refl
passed_not batch (suc i) (r ∷ rows) row l at other = ap (λ (rs : List Passing). r ∷ rs) (passed_not batch i rows row (omega arith) at other)

pub passed_here : (batch i : ℕ) (rows : List Passing) (row : Passing) → i < length rows → row ≡ get_or rows i row → (row.batch == batch) ≡ true → passed_from batch i rows ≡ slice_set rows i (record row { passed = true })
passed_here batch i [] row l at is = absurd (omega arith)
passed_here batch zero (r ∷ rows) row l at is = go (r.batch == batch) (ap (λ (x : Passing). x.batch == batch) (sym at) ∙ is)
  where
    go : (t : Bool) → t ≡ true → (if t then record r { passed = true } ∷ rows else r ∷ passed_in batch rows) ≡ record row { passed = true } ∷ rows
    go true e = ap (λ (x : Passing). record x { passed = true } ∷ rows) (sym at)
    go false e = cc
passed_here batch (suc i) (r ∷ rows) row l at is = ap (λ (rs : List Passing). r ∷ rs) (passed_here batch i rows row (omega arith) at is)

pub passed_end : (batch i : ℕ) (rows : List Passing) → length rows ≤ i → passed_from batch i rows ≡ rows
passed_end batch zero [] l = refl
passed_end batch (suc i) [] l = refl
passed_end batch zero (r ∷ rows) l = absurd (omega arith)
passed_end batch (suc i) (r ∷ rows) l = ap (λ (rs : List Passing). r ∷ rs) (passed_end batch i rows (omega arith))

-- what is read in a place twice is the same
pub same_at : (rows : List Passing) (i : ℕ) (a b : Passing) → i < length rows → a ≡ get_or rows i a → b ≡ get_or rows i b → a ≡ b
same_at [] i a b l x y = absurd (omega arith)
same_at (r ∷ rows) zero a b l x y = x ∙ sym y
same_at (r ∷ rows) (suc i) a b l x y = same_at rows i a b (omega arith) x y

-- rows before the first that fails behind so many, and whether there is one
abbrev pub kept_from : ℕ → ℕ → List Passing → List Passing
kept_from batch zero rows = kept_before batch rows
kept_from batch (suc i) [] = []
kept_from batch (suc i) (row ∷ rows) = row ∷ kept_from batch i rows

abbrev pub failed_from : ℕ → ℕ → List Passing → Bool
failed_from batch zero rows = has_failed batch rows
failed_from batch (suc i) [] = false
failed_from batch (suc i) (row ∷ rows) = failed_from batch i rows

pub kept_not : (batch i : ℕ) (rows : List Passing) (row : Passing) → i < length rows → row ≡ get_or rows i row → fails batch row ≡ false → (kept_from batch i rows ≡ kept_from batch (suc i) rows) × (failed_from batch i rows ≡ failed_from batch (suc i) rows)
kept_not batch i [] row l at other = absurd (omega arith)
kept_not batch zero (r ∷ rows) row l at other = go (fails batch r) (ap (λ (x : Passing). fails batch x) (sym at) ∙ other)
  where
    go : (t : Bool) → t ≡ false → ((if t then [] else r ∷ kept_before batch rows) ≡ r ∷ kept_before batch rows) × ((t || has_failed batch rows) ≡ has_failed batch rows)
    go true e = cc
    go false e = (refl, refl)
kept_not batch (suc i) (r ∷ rows) row l at other = let later = kept_not batch i rows row (omega arith) at other in (ap (λ (rs : List Passing). r ∷ rs) later.0, later.1)

pub kept_here : (batch i : ℕ) (rows : List Passing) (row : Passing) → i < length rows → row ≡ get_or rows i row → fails batch row ≡ true → (kept_from batch i rows ≡ take i rows) × (failed_from batch i rows ≡ true)
kept_here batch i [] row l at is = absurd (omega arith)
kept_here batch zero (r ∷ rows) row l at is = go (fails batch r) (ap (λ (x : Passing). fails batch x) (sym at) ∙ is)
  where
    go : (t : Bool) → t ≡ true → ((if t then [] else r ∷ kept_before batch rows) ≡ []) × ((t || has_failed batch rows) ≡ true)
    go true e = (refl, refl)
    go false e = cc
kept_here batch (suc i) (r ∷ rows) row l at is = let later = kept_here batch i rows row (omega arith) at is in (ap (λ (rs : List Passing). r ∷ rs) later.0, later.1)

pub kept_end : (batch i : ℕ) (rows : List Passing) → length rows ≤ i → (kept_from batch i rows ≡ rows) × (failed_from batch i rows ≡ false)
kept_end batch zero [] l = (refl, refl)
kept_end batch (suc i) [] l = (refl, refl)
kept_end batch zero (r ∷ rows) l = absurd (omega arith)
kept_end batch (suc i) (r ∷ rows) l = let later = kept_end batch i rows (omega arith) in (ap (λ (rs : List Passing). r ∷ rs) later.0, later.1)
