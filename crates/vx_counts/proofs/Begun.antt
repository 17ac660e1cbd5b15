-- What stands at a place are first parts of the parcels that were put there, where copies leave parcels from their ends alone.
use Rattle.std.proofs.Common.{◌≡◌, ℕ, zero, suc, ◌+◌, ◌<◌, ◌≤◌, Bool, true, false, List, [], ◌∷◌, ◌++◌, refl, sym, ap, subst, ◌∙◌, arith, inl, inr}
use Rattle.std.specs.Prelude.{if◌then◌else◌, ◌==◌, ◌⊎◌}
use Rattle.std.proofs.lemmas.Bool.Decides.{nat_tests}
use Rattle.std.proofs.lemmas.List.{append-nil, append_assoc}
use Rattle.vx_record.specs.declared.entry.Entry.{Entry}
use Rattle.vx_record.specs.declared.entry.Entry.TheVariants.{Split, Push, Take, Answer, Spent}
use Rattle.vx_record.specs.Records.{Record}
use Rattle.vx_record.specs.Copies.{count, joined}
use Rattle.vx_record.specs.Places.{Place, Put, kind, same_place, puts, leaves, put_out}
use Rattle.vx_record.specs.Places.Place.{Outputs, Waiting, Contents, Held}
use Rattle.vx_record.specs.Lists.{without, and_rest, shrunk, stands, parcels_at, held}
use Rattle.vx_record.specs.Moving.{IsConserved}
use Rattle.vx_record.specs.Sending.{IsOldest}
use Rattle.vx_record.proofs.Counts.{count-append, put_count, put_count-append}
use Rattle.vx_record.proofs.Changes.{only-self, parcels_after, put_at, same_place_is, stands_once, without-all, without-none}
use Rattle.vx_record.proofs.HeldCopies.{AreAt, not_there}
use Rattle.vx_record.proofs.OnePlace.{conserved}
use Rattle.vx_counts.specs.Spends.{WasPut}
use Rattle.vx_counts.specs.Begun.{is_held_of, AreBegun, EachBegun, IsHeldBySome, IsLastAt, LeavesBegun}
use Rattle.vx_counts.specs.Laws.{BegunFirst, BegunStays, LastIsFirst, LastTakenFirst}
use Rattle.vx_counts.proofs.Once.{itself, put_once}
use Rattle.vx_counts.proofs.Putting.{put_now, put_stays}
use Rattle.vx_counts.proofs.Dropping.{first_is, other_is}

-- FIRST PARTS
are-append : (h : Record) (p : Place) (xs ys : List (List ℕ)) → AreBegun h p xs → AreBegun h p ys → AreBegun h p (xs ++ ys)
are-append h p [] ys a b = b
are-append h p (x ∷ xs) ys a b = (a.0, are-append h p xs ys a.1 b)

are_stay : (e : Entry) (h : Record) (p : Place) (xs : List (List ℕ)) → AreBegun h p xs → AreBegun (e ∷ h) p xs
are_stay e h p [] are = tt
are_stay e h p (x ∷ xs) are = (
  record { rest = are.0.rest; put = put_stays e h p (x ++ are.0.rest) are.0.put; some = are.0.some },
  are_stay e h p xs are.1,
)

-- of each of some parcels what is gone is an end: nothing, or all, or what is behind the rest
abbrev EndsGo : List ℕ → List (List ℕ) → Type 0
EndsGo gone [] = Unit {0}
EndsGo gone (copies ∷ rest) = ((end : List ℕ) × (copies ≡ without gone copies ++ end)) × EndsGo gone rest

-- then first parts are left
begun_left : (h : Record) (p : Place) (gone : List ℕ) (ps : List (List ℕ)) → EndsGo gone ps → AreBegun h p ps → AreBegun h p (shrunk gone ps)
begun_left h p gone [] ends are = tt
begun_left h p gone (copies ∷ rest) ends are = go (without gone copies) ends.0.1 (begun_left h p gone rest ends.1 are.1)
  where
    go : (cs : List ℕ) → copies ≡ cs ++ ends.0.0 → AreBegun h p (shrunk gone rest) → AreBegun h p (and_rest cs (shrunk gone rest))
    go [] is others = others
    go (c ∷ cs) is others = (
      record {
        rest = ends.0.0 ++ are.0.rest;
        put = subst (WasPut h p) (ap (λ xs. xs ++ are.0.rest) is ∙ append_assoc (c ∷ cs) ends.0.0 are.0.rest) are.0.put;
        some = λ none. cc;
      },
      others,
    )

ends_none : (gone : List ℕ) (ps : List (List ℕ)) → ((c : ℕ) → 0 < count c (joined ps) → count c gone ≡ 0) → EndsGo gone ps
ends_none gone [] none = tt
ends_none gone (copies ∷ rest) none = (
  (
    [],
    sym
        (append-nil (without gone copies)
        ∙ without-none gone copies (λ c l. none c (let e = count-append c copies (joined rest) in omega arith))),
  ),
  ends_none gone rest (λ c l. none c (let e = count-append c copies (joined rest) in omega arith)),
)

-- where what is gone stands at another place
ends_apart : (h : Record) (q p : Place) (gone : List ℕ) → IsConserved h → AreAt h q gone → same_place q p ≡ false → EndsGo gone (parcels_at p (stands h))
ends_apart h q p gone kept at other = ends_none gone (parcels_at p (stands h)) (λ c l. go c l (count c gone) refl)
  where
    go : (c : ℕ) → 0 < count c (joined (parcels_at p (stands h))) → (n : ℕ) → count c gone ≡ n → count c gone ≡ 0
    go c l zero e = e
    go c l (suc n) e =
        let here : 0 < count c (joined (parcels_at q (stands h))) = at c (omega arith) in
        let none = not_there h q p c kept other here in
        absurd (omega arith)

-- or is the oldest parcel
ends_oldest : (copies : List ℕ) (ps : List (List ℕ)) → IsOldest copies ps → ((c : ℕ) → count c (joined ps) ≤ 1) → EndsGo copies ps
ends_oldest copies [] oldest once = tt
ends_oldest copies (p ∷ rest) oldest once = (
  (
    p,
    sym (ap (λ cs. cs ++ p) (without-all copies p (λ c l. let e = ap (count c) oldest in omega arith))),
  ),
  ends_none copies rest
      (λ c l. let e = ap (count c) oldest in let f = count-append c p (joined rest) in let o = once c in omega arith),
)

oldest_at : (h : Record) (q : Place) (copies : List ℕ) → IsOldest copies (parcels_at q (stands h)) → AreAt h q copies
oldest_at h q copies oldest c l = go (parcels_at q (stands h)) oldest
  where
    go : (ps : List (List ℕ)) → IsOldest copies ps → 0 < count c (joined ps)
    go [] o = absurd o
    go (p ∷ ps) o = let e = ap (count c) o in let f = count-append c p (joined ps) in omega arith

-- or the last copy of a parcel
none_alone : (c d : ℕ) → (0 < count d (c ∷ []) → ⊥) → count d (c ∷ []) ≡ 0
none_alone c d none = go (count d (c ∷ [])) none
  where
    go : (n : ℕ) → (0 < n → ⊥) → n ≡ 0
    go zero none = refl
    go (suc n) none = absurd (none (omega arith))

apart_alone : (c d : ℕ) (xs : List ℕ) → count c xs ≡ 0 → 0 < count d xs → count d (c ∷ []) ≡ 0
apart_alone c d xs none some = none_alone c d (λ l. let same : c ≡ d = grind (arith, nat_tests) in let e = ap (λ n. count n xs) same in omega arith)

without_last : (c : ℕ) (left : List ℕ) → count c left ≡ 0 → without (c ∷ []) (left ++ c ∷ []) ≡ left
without_last c [] none = grind (arith, nat_tests)
without_last c (d ∷ ds) none =
    let rest = without_last c ds (omega arith) in
    let other : count d (c ∷ []) ≡ 0 = apart_alone c d (d ∷ ds) none (grind (arith, nat_tests)) in
    go (count d (c ∷ [])) other ∙ ap (λ xs. d ∷ xs) rest
  where
    go : (n : ℕ) → n ≡ 0 → (if n == 0 then d ∷ without (c ∷ []) (ds ++ c ∷ []) else without (c ∷ []) (ds ++ c ∷ [])) ≡ d ∷ without (c ∷ []) (ds ++ c ∷ [])
    go zero is = refl
    go (suc n) is = absurd (omega arith)

ends_last : (c : ℕ) (before : List (List ℕ)) (left : List ℕ) (after : List (List ℕ)) → count c (joined (before ++ (left ++ c ∷ []) ∷ after)) ≤ 1 →
    EndsGo (c ∷ []) (before ++ (left ++ c ∷ []) ∷ after)
ends_last c [] left after once =
    let whole = count-append c (left ++ c ∷ []) (joined after) in
    let parts = count-append c left (c ∷ []) in
    let self : count c (c ∷ []) ≡ 1 = grind (arith, nat_tests) in
    let none : count c left ≡ 0 = omega arith in
    let behind : count c (joined after) ≡ 0 = omega arith in (
      (c ∷ [], sym (ap (λ xs. xs ++ c ∷ []) (without_last c left none))),
      ends_none (c ∷ []) after (λ d l. apart_alone c d (joined after) behind l),
    )
ends_last c (copies ∷ before) left after once =
    let whole = count-append c copies (joined (before ++ (left ++ c ∷ []) ∷ after)) in
    let some = has_last before in
    let none : count c copies ≡ 0 = omega arith in (
      ([], sym (append-nil (without (c ∷ []) copies) ∙ without-none (c ∷ []) copies (λ d l. apart_alone c d copies none l))),
      ends_last c before left after (omega arith),
    )
  where
    has_last : (before : List (List ℕ)) → 0 < count c (joined (before ++ (left ++ c ∷ []) ∷ after))
    has_last [] =
        let whole = count-append c (left ++ c ∷ []) (joined after) in
        let parts = count-append c left (c ∷ []) in
        let self : count c (c ∷ []) ≡ 1 = grind (arith, nat_tests) in
        omega arith
    has_last (x ∷ xs) = let more = has_last xs in let e = count-append c x (joined (xs ++ (left ++ c ∷ []) ∷ after)) in omega arith

last_at : (h : Record) (p : Place) (c : ℕ) → IsLastAt h p c → AreAt h p (c ∷ [])
last_at h p c last d l =
    let same : c ≡ d = grind (arith, nat_tests) in
    subst (λ n. 0 < count n (joined (parcels_at p (stands h)))) same (subst (λ ps. 0 < count c (joined ps)) (sym last.is) (there last.before))
  where
    there : (before : List (List ℕ)) → 0 < count c (joined (before ++ (last.left ++ c ∷ []) ∷ last.after))
    there [] =
        let whole = count-append c (last.left ++ c ∷ []) (joined last.after) in
        let parts = count-append c last.left (c ∷ []) in
        let self : count c (c ∷ []) ≡ 1 = grind (arith, nat_tests) in
        omega arith
    there (x ∷ xs) = let more = there xs in let e = count-append c x (joined (xs ++ (last.left ++ c ∷ []) ∷ last.after)) in omega arith

-- BY ENTRIES
-- what an entry puts somewhere is begun there
put_begun : (e : Entry) (h : Record) (p : Place) (before more : List Put) → puts e ≡ before ++ more → AreBegun (e ∷ h) p (put_at p more)
put_begun e h p before [] is = tt
put_begun e h p before (put ∷ more) is =
    go (same_place put.place p) refl put.copies refl
    (put_begun e h p (before ++ put ∷ []) more (is ∙ sym (append_assoc before (put ∷ []) more)))
  where
    go : (b : Bool) → same_place put.place p ≡ b → (cs : List ℕ) → put.copies ≡ cs → AreBegun (e ∷ h) p (put_at p more) →
        AreBegun (e ∷ h) p (if b then and_rest cs (put_at p more) else put_at p more)
    go true same [] copies others = others
    go true same (c ∷ cs) copies others =
        let there : put ≡ record { place = p; copies = c ∷ cs } = λ t. record { place = same_place_is put.place p same t; copies = copies t } in (
          record {
            rest = [];
            put = put_now e h p ((c ∷ cs) ++ []) before more
                (is ∙ ap (λ (x : Put). before ++ x ∷ more) there ∙ ap (λ (xs : List ℕ). before ++ record { place = p; copies = xs } ∷ more) (sym (append-nil (c ∷ cs))));
            some = λ none. cc;
          },
          others,
        )
    go false same cs copies others = others

-- and what it takes leaves first parts: of parcels that it takes whole
whole_left : (h : Record) (q p : Place) (copies : List ℕ) → IsConserved h → IsOldest copies (parcels_at q (stands h)) → AreBegun h p (parcels_at p (stands h)) →
    AreBegun h p (shrunk copies (parcels_at p (stands h)))
whole_left h q p copies kept oldest here = begun_left h p copies (parcels_at p (stands h)) (go (same_place q p) refl) here
  where
    go : (b : Bool) → same_place q p ≡ b → EndsGo copies (parcels_at p (stands h))
    go true same =
        subst (λ (r : Place). EndsGo copies (parcels_at r (stands h))) (same_place_is q p same)
        (ends_oldest copies (parcels_at q (stands h)) oldest (λ c. stands_once h c q kept))
    go false other = ends_apart h q p copies kept (oldest_at h q copies oldest) other

-- and where it takes none
none_left : (h : Record) (p : Place) → AreBegun h p (parcels_at p (stands h)) → AreBegun h p (shrunk [] (parcels_at p (stands h)))
none_left h p here = begun_left h p [] (parcels_at p (stands h)) (ends_none [] (parcels_at p (stands h)) (λ c l. refl)) here

last_left : (h : Record) (q p : Place) (c : ℕ) → IsConserved h → IsLastAt h q c → AreBegun h p (parcels_at p (stands h)) → AreBegun h p (shrunk (c ∷ []) (parcels_at p (stands h)))
last_left h q p c kept last here = begun_left h p (c ∷ []) (parcels_at p (stands h)) (go (same_place q p) refl) here
  where
    once : count c (joined (last.before ++ (last.left ++ c ∷ []) ∷ last.after)) ≤ 1
    once = subst (λ ps. count c (joined ps) ≤ 1) last.is (stands_once h c q kept)

    go : (b : Bool) → same_place q p ≡ b → EndsGo (c ∷ []) (parcels_at p (stands h))
    go true same =
        subst (λ (r : Place). EndsGo (c ∷ []) (parcels_at r (stands h))) (same_place_is q p same)
        (subst (EndsGo (c ∷ [])) (sym last.is) (ends_last c last.before last.left last.after once))
    go false other = ends_apart h q p (c ∷ []) kept (last_at h q c last) other

-- where one of some instances holds what is gone, and stands apart
apart_left : (some : ℕ → Bool) (h : Record) (p : Place) (c : ℕ) → IsConserved h → IsHeldBySome some h c → is_held_of some p ≡ false → AreBegun h p (parcels_at p (stands h)) →
    AreBegun h p (shrunk (c ∷ []) (parcels_at p (stands h)))
apart_left some h p c kept by alone here =
    begun_left h p (c ∷ []) (parcels_at p (stands h)) (ends_apart h (Held by.holder) p (c ∷ []) kept at (other p alone)) here
  where
    at : AreAt h (Held by.holder) (c ∷ [])
    at d l = let same : c ≡ d = grind (arith, nat_tests) in subst (λ n. 0 < count n (joined (held h by.holder))) same by.holds

    other : (p : Place) → is_held_of some p ≡ false → same_place (Held by.holder) p ≡ false
    other (Outputs j) alone = refl
    other (Waiting j t) alone = refl
    other (Contents j s) alone = refl
    other (Held j) alone = go (by.holder == j) refl
      where
        go : (b : Bool) → (by.holder == j) ≡ b → (by.holder == j) ≡ false
        go true is = let same : by.holder ≡ j = grind (arith, nat_tests) in let no = sym (ap some same ∙ alone) ∙ by.is in cc
        go false is = is

spent_left : (some : ℕ → Bool) (h : Record) (p : Place) (c : ℕ) → IsConserved h → ((q : Place) × IsLastAt h q c) ⊎ IsHeldBySome some h c → is_held_of some p ≡ false →
    AreBegun h p (parcels_at p (stands h)) → AreBegun h p (shrunk (c ∷ []) (parcels_at p (stands h)))
spent_left some h p c kept (inl last) alone here = last_left h last.0 p c kept last.1 here
spent_left some h p c kept (inr by) alone here = apart_left some h p c kept by alone here

left_begun : (some : ℕ → Bool) (e : Entry) (h : Record) (p : Place) → IsConserved (e ∷ h) → LeavesBegun some h e → is_held_of some p ≡ false →
    AreBegun h p (parcels_at p (stands h)) →
    AreBegun h p (shrunk (leaves (kind p) e) (parcels_at p (stands h)))
left_begun some (Split i ports copies event children) h (Outputs j) kept may alone here = whole_left h (Outputs i) (Outputs j) copies kept.1 kept.0.oldest here
left_begun some (Split i ports copies event children) h (Waiting j t) kept may alone here = none_left h (Waiting j t) here
left_begun some (Split i ports copies event children) h (Contents j s) kept may alone here = none_left h (Contents j s) here
left_begun some (Split i ports copies event children) h (Held j) kept may alone here = none_left h (Held j) here
left_begun some (Push i t s copies) h (Outputs j) kept may alone here = none_left h (Outputs j) here
left_begun some (Push i t s copies) h (Waiting j u) kept may alone here = whole_left h (Waiting i t) (Waiting j u) copies kept.1 kept.0 here
left_begun some (Push i t s copies) h (Contents j r) kept may alone here = none_left h (Contents j r) here
left_begun some (Push i t s copies) h (Held j) kept may alone here = none_left h (Held j) here
left_begun some (Take i s copies) h (Outputs j) kept may alone here = none_left h (Outputs j) here
left_begun some (Take i s copies) h (Waiting j u) kept may alone here = none_left h (Waiting j u) here
left_begun some (Take i s copies) h (Contents j r) kept may alone here = whole_left h (Contents i s) (Contents j r) copies kept.1 kept.0 here
left_begun some (Take i s copies) h (Held j) kept may alone here = none_left h (Held j) here
left_begun some (Answer i outputs discarded keeps) h (Outputs j) kept may alone here = none_left h (Outputs j) here
left_begun some (Answer i outputs discarded keeps) h (Waiting j u) kept may alone here = none_left h (Waiting j u) here
left_begun some (Answer i outputs discarded keeps) h (Contents j r) kept may alone here = none_left h (Contents j r) here
left_begun some (Answer i outputs discarded keeps) h (Held j) kept may alone here = go (i == j) refl
  where
    at : AreAt h (Held i) (put_out outputs)
    at c l = let most = kept.0 c in omega arith

    go : (b : Bool) → (i == j) ≡ b → AreBegun h (Held j) (shrunk (put_out outputs) (held h j))
    go true same =
        let is : i ≡ j = grind (arith, nat_tests) in
        subst (λ (k : ℕ). AreBegun h (Held k) (shrunk (put_out outputs) (held h k))) is (may (ap some is ∙ alone))
    go false other =
        begun_left h (Held j) (put_out outputs) (held h j) (ends_apart h (Held i) (Held j) (put_out outputs) kept.1 at other) here
left_begun some (Spent i c outcome) h (Outputs j) kept may alone here = spent_left some h (Outputs j) c kept.1 may alone here
left_begun some (Spent i c outcome) h (Waiting j u) kept may alone here = spent_left some h (Waiting j u) c kept.1 may alone here
left_begun some (Spent i c outcome) h (Contents j r) kept may alone here = spent_left some h (Contents j r) c kept.1 may alone here
left_begun some (Spent i c outcome) h (Held j) kept may alone here = spent_left some h (Held j) c kept.1 may alone here
left_begun some e h p kept may alone here = none_left h p here

pub begun_first : BegunFirst
begun_first some p alone = tt

pub begun_stays : BegunStays
begun_stays some e h legal may each p alone =
    let kept = conserved (e ∷ h) legal in
    subst (AreBegun (e ∷ h) p) (sym (parcels_after h e p kept))
    (are-append (e ∷ h) p (shrunk (leaves (kind p) e) (parcels_at p (stands h))) (put_at p (puts e))
    (are_stay e h p (shrunk (leaves (kind p) e) (parcels_at p (stands h))) (left_begun some e h p kept may alone (each p alone)))
    (put_begun e h p [] (puts e) refl))

-- WHO COMES FIRST
-- a copy is at most once in a parcel that was put somewhere
put_few : (h : Record) (p : Place) (copies : List ℕ) (c : ℕ) → IsConserved h → WasPut h p copies → count c copies ≤ 1
put_few h p copies c kept was =
    let times = ap (λ xs. put_count (kind p) xs c) was.2 in
    let split = put_count-append (kind p) c was.0 (record { place = p; copies = copies } ∷ was.1) in
    let self = only-self (kind p) (count c copies) in
    let most = put_once (kind p) h c kept in
    omega arith

pub last_is_first : LastIsFirst
last_is_first h p [] c legal begun = record {
  copies = (c ∷ []) ++ begun.rest;
  put = record { put = begun.put; has = grind (arith, nat_tests) };
  is = sym (itself c);
}
last_is_first h p (d ∷ ds) c legal begun = record {
  copies = ((d ∷ ds) ++ c ∷ []) ++ begun.rest;
  put = record { put = begun.put; has = omega (arith, has, twice) };
  is = go (c == d) refl;
}
  where
    twice : count c (((d ∷ ds) ++ c ∷ []) ++ begun.rest) ≡ (if d == c then 1 else 0) + count c ((ds ++ c ∷ []) ++ begun.rest)
    twice = refl

    has : 0 < count c ((ds ++ c ∷ []) ++ begun.rest)
    has =
        let a = count-append c (ds ++ c ∷ []) begun.rest in
        let b = count-append c ds (c ∷ []) in
        let self : count c (c ∷ []) ≡ 1 = grind (arith, nat_tests) in
        omega arith

    most : count c (((d ∷ ds) ++ c ∷ []) ++ begun.rest) ≤ 1
    most = put_few h p (((d ∷ ds) ++ c ∷ []) ++ begun.rest) c (conserved h legal) begun.put

    go : (b : Bool) → (c == d) ≡ b → false ≡ b
    go true same = let other : (d == c) ≡ true = grind (arith, nat_tests) in let two = twice ∙ ap (λ (b : Bool). (if b then 1 else 0) + count c ((ds ++ c ∷ []) ++ begun.rest)) other in absurd (omega (arith, has, most, two))
    go false other = refl

pub last_taken_first : LastTakenFirst
last_taken_first h i [] c legal begun = sym (first_is h i c begun.rest begun.put)
last_taken_first h i (d ∷ ds) c legal begun = sym (other_is h i d c ((ds ++ c ∷ []) ++ begun.rest) (conserved h legal) begun.put has)
  where
    has : 0 < count c ((ds ++ c ∷ []) ++ begun.rest)
    has =
        let a = count-append c (ds ++ c ∷ []) begun.rest in
        let b = count-append c ds (c ∷ []) in
        let self : count c (c ∷ []) ≡ 1 = grind (arith, nat_tests) in
        omega arith
