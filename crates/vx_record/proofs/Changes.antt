-- How the lists of places change at an entry: what leaves is taken out of its parcel, and what is put comes last.
use Rattle.std.proofs.Common.{◌≡◌, ℕ, zero, suc, ◌+◌, ◌<◌, ◌≤◌, Bool, true, false, List, [], ◌∷◌, ◌++◌, sym, refl, ap, ◌∙◌, arith, inl, inr, ◌⊎◌, replicate}
use Rattle.std.specs.Prelude.{if◌then◌else◌}
use Rattle.std.proofs.lemmas.Bool.Decides.{nat_tests}
use Rattle.std.proofs.lemmas.Bool.{cases_lt}
use Rattle.std.proofs.lemmas.List.{append-nil}
use Rattle.vx_record.specs.declared.entry.Entry.{Entry}
use Rattle.vx_record.specs.Records.{Record}
use Rattle.vx_record.specs.Copies.{count, joined, next_copy}
use Rattle.vx_record.specs.Places.{Place, Put, Kind, kind, same_place, all_puts, left, puts, leaves}
use Rattle.vx_record.specs.Places.Kind.{AnOutput, AChild, AStage, AHold}
use Rattle.vx_record.specs.Places.Place.{Outputs, Waiting, Contents, Held}
use Rattle.vx_record.specs.Lists.{without, and_rest, shrunk, unless_empty, standing, stands, parcels_at, places_in, times_among}
use Rattle.vx_record.specs.Laws.{PlacesMeant}
use Rattle.vx_record.specs.declared.entry.Entry.TheVariants.{Born, Split, Push, Take, Answer}
use Rattle.vx_record.specs.Moving.{IsConserved}
use Rattle.vx_record.specs.Sending.{IsOldest}
use Rattle.vx_record.proofs.Counts.{count-append, count-without, unless-add, only, put_count, stand_count}
use Rattle.vx_record.proofs.Tracked.{Tracked, Moves, put_in, gone_from, stand_in, stand_cases, born}
use Rattle.vx_record.proofs.Steps.{moves, put_count-children, put_count-outputs}
use Rattle.vx_record.proofs.OnePlace.{tracked}
use Rattle.vx_record.proofs.Place.{count-parcels_at, count-oldest, one_more, unless-only}

pub without-append : (a b xs : List ℕ) → without (a ++ b) xs ≡ without b (without a xs)
without-append a b [] = refl
without-append a b (x ∷ xs) =
    let e = without-append a b xs in
    let f = count-append x a b in
    grind (arith, nat_tests)

parcels-unless_empty : (p q : Place) (cs : List ℕ) (rest : List Put) →
    parcels_at p (unless_empty q cs rest) ≡ (if same_place q p then and_rest cs (parcels_at p rest) else parcels_at p rest)
parcels-unless_empty p q [] rest = go (same_place q p)
  where
    go : (b : Bool) → parcels_at p rest ≡ (if b then parcels_at p rest else parcels_at p rest)
    go true = refl
    go false = refl
parcels-unless_empty p q (c ∷ cs) rest = refl

and_rest-append : (cs : List ℕ) (xs ys : List (List ℕ)) → and_rest cs (xs ++ ys) ≡ and_rest cs xs ++ ys
and_rest-append [] xs ys = refl
and_rest-append (c ∷ cs) xs ys = refl

pub shrunk-and_rest : (gone cs : List ℕ) (rest : List (List ℕ)) → shrunk gone (and_rest cs rest) ≡ and_rest (without gone cs) (shrunk gone rest)
shrunk-and_rest gone [] rest = refl
shrunk-and_rest gone (c ∷ cs) rest = refl

same_kind : (q p : Place) → same_place q p ≡ true → kind q ≡ kind p
same_kind (Outputs i) (Outputs j) e = refl
same_kind (Waiting i t) (Waiting j u) e = refl
same_kind (Contents i s) (Contents j r) e = refl
same_kind (Held i) (Held j) e = refl
same_kind q p e = cc

pub parcels-more_gone : (p : Place) (gone more : Kind → List ℕ) (puts : List Put) →
    parcels_at p (standing (λ k. gone k ++ more k) puts) ≡ shrunk (more (kind p)) (parcels_at p (standing gone puts))
parcels-more_gone p gone more [] = refl
parcels-more_gone p gone more (put ∷ rest) =
    parcels-unless_empty p put.place (without (gone (kind put.place) ++ more (kind put.place)) put.copies) (standing (λ k. gone k ++ more k) rest)
    ∙ go (same_place put.place p) refl (parcels-more_gone p gone more rest)
    ∙ ap (shrunk (more (kind p))) (sym (parcels-unless_empty p put.place (without (gone (kind put.place)) put.copies) (standing gone rest)))
  where
    now : List (List ℕ)
    now = parcels_at p (standing (λ k. gone k ++ more k) rest)

    before : List (List ℕ)
    before = parcels_at p (standing gone rest)

    cs : List ℕ
    cs = without (gone (kind put.place)) put.copies

    go : (b : Bool) → same_place put.place p ≡ b → now ≡ shrunk (more (kind p)) before →
        (if b then and_rest (without (gone (kind put.place) ++ more (kind put.place)) put.copies) now else now)
        ≡ shrunk (more (kind p)) (if b then and_rest cs before else before)
    go true e ih =
        ap (λ x. and_rest x now) (without-append (gone (kind put.place)) (more (kind put.place)) put.copies)
        ∙ ap (and_rest (without (more (kind put.place)) cs)) ih
        ∙ ap (λ k. and_rest (without (more k) cs) (shrunk (more (kind p)) before)) (same_kind put.place p e)
        ∙ sym (shrunk-and_rest (more (kind p)) cs before)
    go false e ih = ih

pub parcels-append : (p : Place) (gone : Kind → List ℕ) (xs ys : List Put) →
    parcels_at p (standing gone (xs ++ ys)) ≡ parcels_at p (standing gone xs) ++ parcels_at p (standing gone ys)
parcels-append p gone [] ys = refl
parcels-append p gone (x ∷ xs) ys =
    parcels-unless_empty p x.place (without (gone (kind x.place)) x.copies) (standing gone (xs ++ ys))
    ∙ go (same_place x.place p) (parcels-append p gone xs ys)
    ∙ ap (λ w. w ++ parcels_at p (standing gone ys)) (sym (parcels-unless_empty p x.place (without (gone (kind x.place)) x.copies) (standing gone xs)))
  where
    cs : List ℕ
    cs = without (gone (kind x.place)) x.copies

    both : List (List ℕ)
    both = parcels_at p (standing gone (xs ++ ys))

    first : List (List ℕ)
    first = parcels_at p (standing gone xs)

    last : List (List ℕ)
    last = parcels_at p (standing gone ys)

    go : (b : Bool) → both ≡ first ++ last → (if b then and_rest cs both else both) ≡ (if b then and_rest cs first else first) ++ last
    go true ih = ap (and_rest cs) ih ∙ and_rest-append cs first last
    go false ih = ih

-- the parcels that are put at a place
abbrev pub put_at : Place → List Put → List (List ℕ)
put_at p [] = []
put_at p (put ∷ rest) = if same_place put.place p then and_rest put.copies (put_at p rest) else put_at p rest

pub without-none : (gone xs : List ℕ) → ((c : ℕ) → 0 < count c xs → count c gone ≡ 0) → without gone xs ≡ xs
without-none gone [] none = refl
without-none gone (x ∷ xs) none =
    let here : 0 < count x (x ∷ xs) = grind (arith, nat_tests) in
    let e = none x here in
    let f = without-none gone xs (λ c l. none c (omega arith)) in
    grind (arith, nat_tests)

pub only-self : (k : Kind) (n : ℕ) → only k k n ≡ n
only-self AnOutput n = refl
only-self AChild n = refl
only-self AStage n = refl
only-self AHold n = refl

whole : (p : Place) (gone : Kind → List ℕ) (puts : List Put) → ((k : Kind) (c : ℕ) → 0 < put_count k puts c → count c (gone k) ≡ 0) →
    parcels_at p (standing gone puts) ≡ put_at p puts
whole p gone [] fresh = refl
whole p gone (put ∷ rest) fresh =
    parcels-unless_empty p put.place (without (gone (kind put.place)) put.copies) (standing gone rest)
    ∙ ap (λ cs. if same_place put.place p then and_rest cs (parcels_at p (standing gone rest)) else parcels_at p (standing gone rest)) here
    ∙ ap (λ ps. if same_place put.place p then and_rest put.copies ps else ps) (whole p gone rest (λ k c l. fresh k c (omega arith)))
  where
    here : without (gone (kind put.place)) put.copies ≡ put.copies
    here = without-none (gone (kind put.place)) put.copies
        (λ c l. let o = only-self (kind put.place) (count c put.copies) in fresh (kind put.place) c (omega arith))

-- no entry puts a copy into places of the kind that it takes it from
apart : (e : Entry) (k : Kind) (c : ℕ) → 0 < put_count k (puts e) c → count c (leaves k e) ≡ 0
apart (Born i b place copies events waits stream end) k c l = refl
apart (Split i ports copies event children) AnOutput c l = let e = put_count-children AnOutput i c children in absurd (omega arith)
apart (Split i ports copies event children) k c l = refl
apart (Push i t s copies) AChild c l = absurd (omega arith)
apart (Push i t s copies) k c l = refl
apart (Take i s copies) AStage c l = absurd (omega arith)
apart (Take i s copies) k c l = refl
apart (Answer i made discarded kept) AHold c l = let e = put_count-outputs AHold i c made in absurd (omega arith)
apart (Answer i made discarded kept) k c l = refl
apart e k c l = absurd (omega arith)

-- what an entry puts has never left a place of that kind
fresh_puts : (h : Record) (e : Entry) (k : Kind) (c : ℕ) → Tracked h c → Moves h e c → 0 < put_count k (puts e) c → gone_from k h c ≡ 0
fresh_puts h e AnOutput c t m l =
    let o = stand_cases AHold h c in
    elim (cases_lt c (next_copy h)) [
      | inl below ↦ let x = m.makes_old below in let y = t.made below in grind arith
      | inr above ↦ let y = t.unmade above in omega arith
    ]
fresh_puts h e AChild c t m l =
    elim (cases_lt c (next_copy h)) [
      | inl below ↦ let x = m.makes_old below in absurd (omega arith)
      | inr above ↦ let y = t.unmade above in omega arith
    ]
fresh_puts h e AStage c t m l = let o = stand_cases AChild h c in grind arith
fresh_puts h e AHold c t m l = let o = stand_cases AStage h c in grind arith

-- the parcels at a place after an entry
pub parcels_after : (h : Record) (e : Entry) (p : Place) → IsConserved (e ∷ h) →
    parcels_at p (stands (e ∷ h)) ≡ shrunk (leaves (kind p) e) (parcels_at p (stands h)) ++ put_at p (puts e)
parcels_after h e p kept =
    parcels-append p (left (e ∷ h)) (all_puts h) (puts e)
    ∙ ap (λ ps. ps ++ parcels_at p (standing (left (e ∷ h)) (puts e))) (parcels-more_gone p (left h) (λ k. leaves k e) (all_puts h))
    ∙ ap (λ ps. shrunk (leaves (kind p) e) (parcels_at p (stands h)) ++ ps) (whole p (left (e ∷ h)) (puts e) fresh)
  where
    fresh : (k : Kind) (c : ℕ) → 0 < put_count k (puts e) c → count c (left (e ∷ h) k) ≡ 0
    fresh k c l =
        let a = apart e k c l in
        let b = fresh_puts h e k c (tracked h c kept.1) (moves h e c kept.0) l in
        omega (arith, count-append c (left h k) (leaves k e))

pub without-all : (gone xs : List ℕ) → ((c : ℕ) → 0 < count c xs → 0 < count c gone) → without gone xs ≡ []
without-all gone [] all = refl
without-all gone (x ∷ xs) all =
    let here : 0 < count x (x ∷ xs) = grind (arith, nat_tests) in
    let e = all x here in
    let f = without-all gone xs (λ c l. all c (omega arith)) in
    grind (arith, nat_tests)

abbrev pub NoneEmpty : List (List ℕ) → Type 0
NoneEmpty [] = Unit {0}
NoneEmpty ([] ∷ rest) = ⊥
NoneEmpty ((c ∷ cs) ∷ rest) = NoneEmpty rest

pub none_empty : (p : Place) (gone : Kind → List ℕ) (puts : List Put) → NoneEmpty (parcels_at p (standing gone puts))
none_empty p gone [] = tt
none_empty p gone (put ∷ rest) = go (without (gone (kind put.place)) put.copies) (none_empty p gone rest)
  where
    go : (cs : List ℕ) → NoneEmpty (parcels_at p (standing gone rest)) → NoneEmpty (parcels_at p (unless_empty put.place cs (standing gone rest)))
    go [] ih = ih
    go (c ∷ cs) ih = here (same_place put.place p)
      where
        here : (b : Bool) → NoneEmpty (if b then (c ∷ cs) ∷ parcels_at p (standing gone rest) else parcels_at p (standing gone rest))
        here true = ih
        here false = ih

pub shrunk-none : (gone : List ℕ) (ps : List (List ℕ)) → NoneEmpty ps → ((c : ℕ) → 0 < count c (joined ps) → count c gone ≡ 0) → shrunk gone ps ≡ ps
shrunk-none gone [] full none = refl
shrunk-none gone ([] ∷ rest) full none = absurd full
shrunk-none gone ((x ∷ xs) ∷ rest) full none =
    ap (λ cs. and_rest cs (shrunk gone rest))
    (without-none gone (x ∷ xs) (λ c l. none c (let e = count-append c (x ∷ xs) (joined rest) in omega arith)))
    ∙ ap (λ ps. (x ∷ xs) ∷ ps) (shrunk-none gone rest full (λ c l. none c (let e = count-append c (x ∷ xs) (joined rest) in omega arith)))

full_tail : (p : List ℕ) (ps : List (List ℕ)) → NoneEmpty (p ∷ ps) → NoneEmpty ps
full_tail [] ps f = absurd f
full_tail (c ∷ cs) ps f = f

-- where the oldest parcel leaves, the others stay
oldest_leaves : (copies : List ℕ) (ps : List (List ℕ)) → IsOldest copies ps → NoneEmpty ps → ((c : ℕ) → count c (joined ps) ≤ 1) →
    ps ≡ copies ∷ shrunk copies ps
oldest_leaves copies [] first full once = absurd first
oldest_leaves copies (p ∷ rest) first full once =
    ap (λ q. q ∷ rest) (sym first) ∙ ap (λ qs. copies ∷ qs) (sym (gone ∙ stay))
  where
    gone : shrunk copies (p ∷ rest) ≡ shrunk copies rest
    gone = ap (λ cs. and_rest cs (shrunk copies rest)) (without-all copies p (λ c l. let e = ap (count c) first in omega arith))

    stay : shrunk copies rest ≡ rest
    stay = shrunk-none copies rest (full_tail p rest full)
        (λ c l. let e = ap (count c) first in let f = count-append c p (joined rest) in let o = once c in omega arith)

pub same_place_is : (q p : Place) → same_place q p ≡ true → q ≡ p
same_place_is (Outputs i) (Outputs j) e = ap Outputs (grind (arith, nat_tests))
same_place_is (Waiting i t) (Waiting j u) e = let a : i ≡ j = grind (arith, nat_tests) in let b : t ≡ u = grind (arith, nat_tests) in cc
same_place_is (Contents i s) (Contents j r) e = let a : i ≡ j = grind (arith, nat_tests) in let b : s ≡ r = grind (arith, nat_tests) in cc
same_place_is (Held i) (Held j) e = ap Held (grind (arith, nat_tests))
same_place_is q p e = cc

pub same_place_self : (p : Place) → same_place p p ≡ true
same_place_self (Outputs i) = grind (arith, nat_tests)
same_place_self (Waiting i t) = grind (arith, nat_tests)
same_place_self (Contents i s) = grind (arith, nat_tests)
same_place_self (Held i) = grind (arith, nat_tests)

pub not_both : (r p q : Place) → same_place p q ≡ false → same_place r p ≡ true → same_place r q ≡ false
not_both r p q other a = go (same_place r q) refl
  where
    go : (b : Bool) → same_place r q ≡ b → b ≡ false
    go false e = refl
    go true e =
        let x = same_place_is r p a in
        let y = same_place_is r q e in
        let z = ap (λ w. same_place w q) (sym x ∙ y) in
        let self = same_place_self q in
        cc

skipped : (c : ℕ) (p q : Place) (cs : List ℕ) (rest : List Put) → same_place q p ≡ false →
    count c (joined (parcels_at p (unless_empty q cs rest))) ≡ count c (joined (parcels_at p rest))
skipped c p q cs rest no_match =
    ap (λ ps. count c (joined ps))
    (parcels-unless_empty p q cs rest ∙ ap (λ b. if b then and_rest cs (parcels_at p rest) else parcels_at p rest) no_match)

-- in two places of a kind there stand together no more than in all
pub count-two_places : (c : ℕ) (p q : Place) (gone : Kind → List ℕ) (puts : List Put) → same_place p q ≡ false → kind p ≡ kind q →
    count c (joined (parcels_at p (standing gone puts))) + count c (joined (parcels_at q (standing gone puts))) ≤ stand_count (kind p) gone puts c
count-two_places c p q gone [] other same = omega arith
count-two_places c p q gone (put ∷ rest) other same =
    go (same_place put.place p) refl (count-two_places c p q gone rest other same)
  where
    r : Place
    r = put.place

    cs : List ℕ
    cs = without (gone (kind r)) put.copies

    at : Place → List Put → ℕ
    at p puts = count c (joined (parcels_at p puts))

    stands_more : stand_count (kind p) gone (put ∷ rest) c ≡ only (kind p) (kind r) (count c cs) + stand_count (kind p) gone rest c
    stands_more =
        let w = ap (only (kind p) (kind r)) (count-without c (gone (kind r)) put.copies) in
        let u = unless-only (count c put.copies) (kind p) (kind r) gone c in
        let v = unless-add (count c (gone (kind p))) (only (kind p) (kind r) (count c put.copies)) (put_count (kind p) rest c) in
        omega arith

    go : (b : Bool) → same_place r p ≡ b →
        at p (standing gone rest) + at q (standing gone rest) ≤ stand_count (kind p) gone rest c →
        at p (standing gone (put ∷ rest)) + at q (standing gone (put ∷ rest)) ≤ stand_count (kind p) gone (put ∷ rest) c
    go true e ih =
        let x = skipped c q r cs (standing gone rest) (not_both r p q other e) in
        let y = one_more c p r cs (standing gone rest) in
        let z = stands_more in
        omega arith
    go false e ih =
        let x = skipped c p r cs (standing gone rest) e in
        let y = one_more c q r cs (standing gone rest) in
        let k = ap (λ k. only k (kind r) (count c cs)) same in
        let z = stands_more in
        omega arith

pub stand_count-le : (h : Record) (c : ℕ) (k : Kind) → IsConserved h → stand_in k h c ≤ 1
stand_count-le h c k kept = go k (stand_cases k h c)
  where
    t : Tracked h c
    t = tracked h c kept

    all : born h c + put_in AChild h c ≤ 1
    all = elim (cases_lt c (next_copy h)) [ inl below ↦ let x = t.made below in omega arith | inr above ↦ let x = t.unmade above in omega arith ]

    go : (k : Kind) → ((gone_from k h c ≡ 0) × (stand_in k h c ≡ put_in k h c)) ⊎ ((0 < gone_from k h c) × (stand_in k h c ≡ 0)) → stand_in k h c ≤ 1
    go k (inr none) = omega arith
    go AnOutput (inl e) = let x = t.answer in let y = t.take in let z = t.push in let w = all in omega arith
    go AChild (inl e) = let w = all in omega arith
    go AStage (inl e) = let z = t.push in let w = all in omega arith
    go AHold (inl e) = let y = t.take in let z = t.push in let w = all in omega arith

pub stands_once : (h : Record) (c : ℕ) (p : Place) → IsConserved h → count c (joined (parcels_at p (stands h))) ≤ 1
stands_once h c p kept =
    let e = count-parcels_at c p (left h) (all_puts h) in
    let f = stand_count-le h c (kind p) kept in
    omega arith

-- a parcel that stands is not empty
pub oldest_full : (h : Record) (p : Place) (copies : List ℕ) → IsOldest copies (parcels_at p (stands h)) → and_rest copies [] ≡ copies ∷ []
oldest_full h p copies first = go (parcels_at p (stands h)) (none_empty p (left h) (all_puts h)) first
  where
    go : (ps : List (List ℕ)) → NoneEmpty ps → IsOldest copies ps → and_rest copies [] ≡ copies ∷ []
    go [] full f = absurd f
    go ([] ∷ rest) full f = absurd full
    go ((x ∷ xs) ∷ rest) full f = ap (λ cs. and_rest cs []) f ∙ ap (λ cs. cs ∷ []) (sym f)

-- THE LAWS FOR THE CODE
-- the oldest parcel of a place, where an entry takes just it and puts nothing there
pub place_pops : (h : Record) (e : Entry) (p : Place) (copies : List ℕ) → IsConserved (e ∷ h) → leaves (kind p) e ≡ copies → put_at p (puts e) ≡ [] →
    IsOldest copies (parcels_at p (stands h)) → parcels_at p (stands h) ≡ copies ∷ parcels_at p (stands (e ∷ h))
place_pops h e p copies kept takes nothing first =
    oldest_leaves copies (parcels_at p (stands h)) first (none_empty p (left h) (all_puts h)) (λ c. stands_once h c p kept.1)
    ∙ ap (λ ps. copies ∷ ps)
    (sym (parcels_after h e p kept ∙ ap (λ ps. shrunk (leaves (kind p) e) (parcels_at p (stands h)) ++ ps) nothing
    ∙ append-nil (shrunk (leaves (kind p) e) (parcels_at p (stands h))) ∙ ap (λ cs. shrunk cs (parcels_at p (stands h))) takes))

-- a place to which an entry only adds
pub place_grows : (h : Record) (e : Entry) (p : Place) (more : List (List ℕ)) → IsConserved (e ∷ h) → put_at p (puts e) ≡ more →
    ((c : ℕ) → 0 < count c (joined (parcels_at p (stands h))) → count c (leaves (kind p) e) ≡ 0) →
    parcels_at p (stands (e ∷ h)) ≡ parcels_at p (stands h) ++ more
place_grows h e p more kept adds stay =
    parcels_after h e p kept
    ∙ ap (λ ps. ps ++ put_at p (puts e))
    (shrunk-none (leaves (kind p) e) (parcels_at p (stands h)) (none_empty p (left h) (all_puts h)) stay)
    ∙ ap (λ ps. parcels_at p (stands h) ++ ps) adds

-- what leaves one place stood at no other
pub elsewhere : (h : Record) (p q : Place) (copies : List ℕ) → IsConserved h → same_place p q ≡ false → kind p ≡ kind q →
    IsOldest copies (parcels_at p (stands h)) → (c : ℕ) → 0 < count c (joined (parcels_at q (stands h))) → count c copies ≡ 0
elsewhere h p q copies kept other same first c l =
    let a = count-two_places c p q (left h) (all_puts h) other same in
    let b = stand_count-le h c (kind p) kept in
    let d = count-oldest c copies (parcels_at p (stands h)) first in
    omega arith

times-append : (p : Place) (xs ys : List Place) → times_among p (xs ++ ys) ≡ times_among p xs + times_among p ys
times-append p [] ys = omega arith
times-append p (x ∷ xs) ys = let e = times-append p xs ys in omega arith

times-replicate : (p q : Place) (n : ℕ) → times_among p (replicate n q) ≡ (if same_place q p then n else 0)
times-replicate p q zero = go (same_place q p)
  where
    go : (b : Bool) → zero ≡ (if b then zero else zero)
    go true = refl
    go false = refl
times-replicate p q (suc n) = go (same_place q p) (times-replicate p q n)
  where
    go : (b : Bool) → times_among p (replicate n q) ≡ (if b then n else 0) →
        (if b then 1 else 0) + times_among p (replicate n q) ≡ (if b then suc n else 0)
    go true ih = omega arith
    go false ih = omega arith

count-as_times : (c : ℕ) (p : Place) (puts : List Put) → count c (joined (parcels_at p puts)) ≡ times_among p (places_in puts c)
count-as_times c p [] = refl
count-as_times c p (put ∷ rest) =
    let e = times-append p (replicate (count c put.copies) put.place) (places_in rest c) in
    let f = times-replicate p put.place (count c put.copies) in
    go (same_place put.place p) (count-as_times c p rest) (e ∙ ap (λ n. n + times_among p (places_in rest c)) f)
  where
    go : (b : Bool) → count c (joined (parcels_at p rest)) ≡ times_among p (places_in rest c) →
        times_among p (places_in (put ∷ rest) c) ≡ (if b then count c put.copies else 0) + times_among p (places_in rest c) →
        count c (joined (if b then put.copies ∷ parcels_at p rest else parcels_at p rest)) ≡ times_among p (places_in (put ∷ rest) c)
    go true ih e = let f = count-append c put.copies (joined (parcels_at p rest)) in omega arith
    go false ih e = omega arith

pub places_meant : PlacesMeant
places_meant h c p = count-as_times c p (stands h)
