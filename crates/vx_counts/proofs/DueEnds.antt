-- What is due later has each stream of what was due before.
use Rattle.std.proofs.Common.{◌≡◌, ℕ, ◌+◌, ◌<◌, ◌≤◌, Bool, true, false, ◌&&◌, List, [], ◌∷◌, ◌++◌, map, sym, refl, ap, subst, ◌∙◌, arith}
use Rattle.std.specs.Prelude.{if◌then◌else◌, ◌==◌, nat_lt}
use Rattle.std.proofs.lemmas.Bool.Decides.{nat_tests}
use Rattle.std.proofs.lemmas.List.{append-nil, append_assoc, map-append}
use Rattle.vx_ends.specs.declared.position.Position.{Position}
use Rattle.vx_record.specs.declared.entry.Entry.{Entry}
use Rattle.vx_record.specs.declared.entry.Entry.TheVariants.{Lease, Confirm}
use Rattle.vx_record.specs.Records.{Record}
use Rattle.vx_record.specs.Turns.{at_lease}
use Rattle.vx_record.specs.Legal.{IsLegal}
use Rattle.vx_record.specs.Confirms.{confirm_prefix, moved_to, last_of_each, position_of, due, confirmed}
use Rattle.vx_record.proofs.Further.{prefix_grows}
use Rattle.vx_record.proofs.ConfirmedPositions.{last_of_each-append}
use Rattle.vx_record.proofs.ConfirmedStreams.{Rising, Rising-last}
use Rattle.vx_counts.specs.Laws.{ConfirmsAll}

-- each stream of some positions is among others
data Covers : List Position → List Position → Type 0 where
  NoneLeft : {ps : List Position} → Covers [] ps
  Both : {q p : Position} {qs ps : List Position} → q.stream ≡ p.stream → Covers qs ps → Covers (q ∷ qs) (p ∷ ps)
  Other : {q p : Position} {qs ps : List Position} → p.stream < q.stream → Covers (q ∷ qs) ps → Covers (q ∷ qs) (p ∷ ps)

covers-self : (ps : List Position) → Covers ps ps
covers-self [] = NoneLeft
covers-self (p ∷ ps) = Both refl (covers-self ps)

covers-moved : (qs ps : List Position) (s e : ℕ) → Covers qs ps → Covers qs (moved_to s e ps)
covers-moved [] ps s e NoneLeft = NoneLeft
covers-moved (q ∷ qs) [] s e covers = elim covers [ ]
covers-moved (q ∷ qs) (p ∷ ps) s e (Both same rest) =
    go (nat_lt s p.stream) (s == p.stream) refl refl (covers-moved qs ps s e rest)
  where
    go : (l k : Bool) → nat_lt s p.stream ≡ l → (s == p.stream) ≡ k → Covers qs (moved_to s e ps) →
        Covers (q ∷ qs) (if l then record { stream = s; end = e } ∷ p ∷ ps else (if k then record { stream = s; end = e } ∷ ps else p ∷ moved_to s e ps))
    go true k el ek ih =
        let x : s < q.stream = grind (arith, nat_tests) in
        Other x (Both same rest)
    go false true el ek ih = Both (let x : q.stream ≡ s = grind (arith, nat_tests) in x) rest
    go false false el ek ih = Both same ih
covers-moved (q ∷ qs) (p ∷ ps) s e (Other above rest) =
    go (nat_lt s p.stream) (s == p.stream) refl refl (covers-moved (q ∷ qs) ps s e rest)
  where
    go : (l k : Bool) → nat_lt s p.stream ≡ l → (s == p.stream) ≡ k → Covers (q ∷ qs) (moved_to s e ps) →
        Covers (q ∷ qs) (if l then record { stream = s; end = e } ∷ p ∷ ps else (if k then record { stream = s; end = e } ∷ ps else p ∷ moved_to s e ps))
    go true k el ek ih =
        let x : s < q.stream = grind (arith, nat_tests) in
        Other x (Other above rest)
    go false true el ek ih = Other (let x : s < q.stream = grind (arith, nat_tests) in x) rest
    go false false el ek ih = Other above ih

covers-last : (qs ps xs : List Position) → Covers qs ps → Covers qs (last_of_each ps xs)
covers-last qs ps [] covers = covers
covers-last qs ps (x ∷ xs) covers = covers-last qs (moved_to x.stream x.end ps) xs (covers-moved qs ps x.stream x.end covers)

Rising-less : (low lower : ℕ) (ps : List Position) → lower ≤ low → Rising low ps → Rising lower ps
Rising-less low lower [] below rises = tt
Rising-less low lower (p ∷ ps) below rises = ((let x = rises.0 in omega arith), rises.1)

-- later streams stand behind
last-behind : (x : Position) (qs ps : List Position) → Rising (x.stream + 1) ps → last_of_each (x ∷ qs) ps ≡ x ∷ last_of_each qs ps
last-behind x qs [] rises = refl
last-behind x qs (p ∷ ps) rises =
    let above = rises.0 in
    let less : nat_lt p.stream x.stream ≡ false = grind (arith, nat_tests) in
    let other : (p.stream == x.stream) ≡ false = grind (arith, nat_tests) in
    ap (λ b. last_of_each (if b then record { stream = p.stream; end = p.end } ∷ x ∷ qs else (if p.stream == x.stream then record { stream = p.stream; end = p.end } ∷ qs else x ∷ moved_to p.stream p.end qs)) ps) less
    ∙ ap (λ b. last_of_each (if b then record { stream = p.stream; end = p.end } ∷ qs else x ∷ moved_to p.stream p.end qs) ps) other
    ∙ last-behind x (moved_to p.stream p.end qs) ps (Rising-less (p.stream + 1) (x.stream + 1) ps (omega arith) rises.1)

covers-same : (qs ps : List Position) (low : ℕ) → Covers qs ps → Rising low ps → last_of_each qs ps ≡ ps
covers-same [] [] low NoneLeft rises = refl
covers-same [] (p ∷ ps) low NoneLeft rises = last-behind p [] ps rises.1 ∙ ap (λ rest. p ∷ rest) (covers-same [] ps (p.stream + 1) NoneLeft rises.1)
covers-same (q ∷ qs) [] low covers rises = elim covers [ ]
covers-same (q ∷ qs) (p ∷ ps) low (Both same rest) rises =
    let less : nat_lt p.stream q.stream ≡ false = grind (arith, nat_tests) in
    let here : (p.stream == q.stream) ≡ true = grind (arith, nat_tests) in
    ap (λ b. last_of_each (if b then p ∷ q ∷ qs else (if p.stream == q.stream then p ∷ qs else q ∷ moved_to p.stream p.end qs)) ps) less
    ∙ ap (λ b. last_of_each (if b then p ∷ qs else q ∷ moved_to p.stream p.end qs) ps) here
    ∙ last-behind p qs ps rises.1 ∙ ap (λ r. p ∷ r) (covers-same qs ps (p.stream + 1) rest rises.1)
covers-same (q ∷ qs) (p ∷ ps) low (Other above rest) rises =
    let less : nat_lt p.stream q.stream ≡ true = grind (arith, nat_tests) in
    ap (λ b. last_of_each (if b then p ∷ q ∷ qs else (if p.stream == q.stream then p ∷ qs else q ∷ moved_to p.stream p.end qs)) ps) less
    ∙ last-behind p (q ∷ qs) ps rises.1 ∙ ap (λ r. p ∷ r) (covers-same (q ∷ qs) ps (p.stream + 1) rest rises.1)

-- EARLIER RECORDS
abbrev IsEarlier : Record → Record → Type 0
IsEarlier early h = (later : Record) × (h ≡ later ++ early)

earlier-more : (e : Entry) (early h : Record) → IsEarlier early h → IsEarlier early (e ∷ h)
earlier-more e early h before = (e ∷ before.0, ap (λ r. e ∷ r) before.1)

earlier-still : (a b c : Record) → IsEarlier a b → IsEarlier b c → IsEarlier a c
earlier-still a b c ab bc = (bc.0 ++ ab.0, bc.1 ∙ ap (λ r. bc.0 ++ r) ab.1 ∙ sym (append_assoc bc.0 ab.0 a))

lease-earlier : (h : Record) (i : ℕ) → IsEarlier (at_lease h i) h
lease-earlier [] i = ([], refl)
lease-earlier (Lease j worker now polls ∷ h) i = go (j == i) (earlier-more (Lease j worker now polls) (at_lease h i) h (lease-earlier h i))
  where
    go : (b : Bool) → IsEarlier (at_lease h i) (Lease j worker now polls ∷ h) → IsEarlier (if b then h else at_lease h i) (Lease j worker now polls ∷ h)
    go true ih = (Lease j worker now polls ∷ [], refl)
    go false ih = ih
lease-earlier (e ∷ h) i = earlier-more e (at_lease h i) h (lease-earlier h i)

due-grows : (early h : Record) (i : ℕ) → IsEarlier early h → last_of_each (due early i) (due h i) ≡ due h i
due-grows early h i before =
    let grown = prefix_grows before.0 early i in
    let is : due h i ≡ last_of_each (due early i) (map position_of grown.0) =
    ap (λ (r : Record). due r i) before.1
    ∙ ap (λ bs. last_of_each [] (map position_of bs)) grown.1
    ∙ ap (last_of_each []) (map-append position_of (confirm_prefix early i) grown.0)
    ∙ last_of_each-append [] (map position_of (confirm_prefix early i)) (map position_of grown.0)
    in
    let rises : Rising 0 (due h i) = Rising-last [] (map position_of (confirm_prefix h i)) tt in
    let covers : Covers (due early i) (last_of_each (due early i) (map position_of grown.0)) =
    covers-last (due early i) (due early i) (map position_of grown.0) (covers-self (due early i)) in
    covers-same (due early i) (due h i) 0 (subst (λ (ps : List Position). Covers (due early i) ps) (sym is) covers) rises

-- WHAT WAS CONFIRMED SO FAR
-- the confirms of an instance name what was due when it was leased
abbrev AreDue : ℕ → Record → Type 0
AreDue i [] = Unit {0}
AreDue i (Confirm j positions made ∷ h) = (j ≡ i → positions ≡ due (at_lease h i) i) × AreDue i h
AreDue i (e ∷ h) = AreDue i h

dues : (h : Record) (i : ℕ) → IsLegal h → AreDue i h
dues [] i legal = tt
dues (Confirm j positions made ∷ h) i legal = ((λ same. legal.0.row.all_due ∙ ap (λ k. due (at_lease h k) k) same), dues h i legal.1)
dues (e ∷ h) i legal = dues h i legal.1

record SoFar (h : Record) (i : ℕ) : Type 0 where
  pub early : Record
  pub before : IsEarlier early (at_lease h i)
  pub is : last_of_each [] (confirmed h i) ≡ due early i

none_more : (h : Record) (i : ℕ) → last_of_each [] (confirmed h i ++ []) ≡ last_of_each [] (confirmed h i)
none_more h i = ap (last_of_each []) (append-nil (confirmed h i))

confirm_more : (h : Record) (i : ℕ) (positions : List Position) → SoFar h i → positions ≡ due (at_lease h i) i → last_of_each [] (confirmed h i ++ positions) ≡ positions
confirm_more h i positions far is_due =
    last_of_each-append [] (confirmed h i) positions
    ∙ ap (λ ps. last_of_each ps positions) far.is
    ∙ ap (last_of_each (due far.early i)) is_due
    ∙ due-grows far.early (at_lease h i) i far.before
    ∙ sym is_due

so_far : (h : Record) (i : ℕ) → AreDue i h → SoFar h i
so_far [] i dues = record { early = []; before = ([], refl); is = refl }
so_far (Confirm j positions made ∷ h) i dues = go ((j == i) && made) refl (so_far h i dues.1)
  where
    both : (a b : Bool) → (a && b) ≡ true → a ≡ true
    both true b e = refl
    both false b e = absurd (cc)

    part : (b : Bool) → ((j == i) && made) ≡ b → SoFar h i → (early : Record) × IsEarlier early (at_lease h i) × (last_of_each [] (confirmed h i ++ (if b then positions else [])) ≡ due early i)
    part true e far =
        let own : (j == i) ≡ true = both (j == i) made e in
        let same : j ≡ i = grind (arith, nat_tests) in
        (at_lease h i, ([], refl), confirm_more h i positions far (dues.0 same) ∙ dues.0 same)
    part false e far = (far.early, far.before, none_more h i ∙ far.is)

    go : (b : Bool) → ((j == i) && made) ≡ b → SoFar h i → SoFar (Confirm j positions made ∷ h) i
    go b e far =
        let p = part b e far in
        record {
          early = p.0;
          before = p.1;
          is = ap (λ x. last_of_each [] (confirmed h i ++ (if x then positions else []))) e ∙ p.2;
        }
so_far (Lease j worker now polls ∷ h) i dues =
    let far = so_far h i dues in
    record { early = far.early; before = go (j == i) far; is = none_more h i ∙ far.is }
  where
    go : (b : Bool) → (far : SoFar h i) → IsEarlier far.early (if b then h else at_lease h i)
    go true far = earlier-still far.early (at_lease h i) h far.before (lease-earlier h i)
    go false far = far.before
so_far (e ∷ h) i dues =
    let far = so_far h i dues in
    record { early = far.early; before = far.before; is = none_more h i ∙ far.is }

pub confirms_all : ConfirmsAll
confirms_all h i positions legal =
    let own : (i == i) ≡ true = grind (arith, nat_tests) in
    ap (λ b. last_of_each [] (confirmed h i ++ (if b && true then positions else []))) own
    ∙ confirm_more h i positions (so_far h i (dues h i legal.1)) legal.0.row.all_due
