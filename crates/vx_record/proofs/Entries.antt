-- How each kind of entry changes the lists: what the code's own steps have to show.
use Rattle.std.proofs.Common.{◌≡◌, ℕ, ◌<◌, Bool, false, ◌&&◌, List, [], ◌∷◌, ◌++◌, refl, ap, ◌∙◌, arith}
use Rattle.std.specs.Prelude.{if◌then◌else◌, ◌==◌}
use Rattle.std.proofs.lemmas.List.{append-nil}
use Rattle.std.proofs.lemmas.Bool.Decides.{nat_tests}
use Rattle.vx_record.specs.declared.entry.Entry.{Entry}
use Rattle.vx_value.specs.declared.event.Event.{Event}
use Rattle.vx_record.specs.Records.{Record}
use Rattle.vx_record.specs.declared.child.Child.{Child}
use Rattle.vx_record.specs.declared.output.Output.{Output}
use Rattle.vx_status.specs.declared.outcome.Outcome.{Outcome}
use Rattle.vx_record.specs.declared.entry.Entry.TheVariants.{Born, Split, Push, Take, Answer, Spent}
use Rattle.vx_record.specs.Copies.{count, joined}
use Rattle.vx_record.specs.Places.{Place, Kind, kind, same_place, one_each, put_out, puts, leaves, left, all_puts}
use Rattle.vx_record.specs.Places.Place.{Outputs, Waiting, Contents, Held}
use Rattle.vx_record.specs.Lists.{stands, and_rest, shrunk, parcels_at, is_child_of, outputs, waiting, contents, held}
use Rattle.vx_record.specs.Moving.{IsConserved, Releases, children_for, singles, parcels_of}
use Rattle.vx_record.proofs.Changes.{stand_count-le, count-two_places, put_at, same_place_self, parcels_after, place_pops, place_grows, elsewhere, oldest_full}

-- a place that an entry neither adds to nor takes from
pub place_stays : (h : Record) (e : Entry) (p : Place) → IsConserved (e ∷ h) → put_at p (puts e) ≡ [] →
    ((c : ℕ) → 0 < count c (joined (parcels_at p (stands h))) → count c (leaves (kind p) e) ≡ 0) →
    parcels_at p (stands (e ∷ h)) ≡ parcels_at p (stands h)
place_stays h e p kept nothing stay = place_grows h e p [] kept nothing stay ∙ append-nil (parcels_at p (stands h))

-- one parcel, put at a place, comes to that place and to no other
one_here : (p : Place) (copies : List ℕ) → put_at p (record { place = p; copies = copies } ∷ []) ≡ and_rest copies []
one_here p copies = ap (λ b. if b then and_rest copies [] else []) (same_place_self p)

one_there : (p q : Place) (copies : List ℕ) → same_place q p ≡ false → put_at p (record { place = q; copies = copies } ∷ []) ≡ []
one_there p q copies other = ap (λ b. if b then and_rest copies [] else []) other

-- PUSH
pub push_pops : (h : Record) (i t s : ℕ) (copies : List ℕ) → IsConserved (Push i t s copies ∷ h) →
    waiting h i t ≡ copies ∷ waiting (Push i t s copies ∷ h) i t
push_pops h i t s copies kept = place_pops h (Push i t s copies) (Waiting i t) copies kept refl refl kept.0

pub push_grows : (h : Record) (i t s : ℕ) (copies : List ℕ) → IsConserved (Push i t s copies ∷ h) →
    contents (Push i t s copies ∷ h) t s ≡ contents h t s ++ copies ∷ []
push_grows h i t s copies kept =
    place_grows h (Push i t s copies) (Contents t s) (copies ∷ []) kept
    (one_here (Contents t s) copies ∙ oldest_full h (Waiting i t) copies kept.0)
    (λ c l. refl)

pub push_stays : (h : Record) (i t s : ℕ) (copies : List ℕ) (p : Place) → IsConserved (Push i t s copies ∷ h) →
    same_place (Waiting i t) p ≡ false → same_place (Contents t s) p ≡ false →
    parcels_at p (stands (Push i t s copies ∷ h)) ≡ parcels_at p (stands h)
push_stays h i t s copies p kept a b = place_stays h (Push i t s copies) p kept (one_there p (Contents t s) copies b) (stay p a)
  where
    stay : (p : Place) → same_place (Waiting i t) p ≡ false → (c : ℕ) → 0 < count c (joined (parcels_at p (stands h))) →
        count c (leaves (kind p) (Push i t s copies)) ≡ 0
    stay (Waiting j u) a c l = elsewhere h (Waiting i t) (Waiting j u) copies kept.1 a refl kept.0 c l
    stay p a c l = refl

-- TAKE
pub take_pops : (h : Record) (i s : ℕ) (copies : List ℕ) → IsConserved (Take i s copies ∷ h) →
    contents h i s ≡ copies ∷ contents (Take i s copies ∷ h) i s
take_pops h i s copies kept = place_pops h (Take i s copies) (Contents i s) copies kept refl refl kept.0

pub take_grows : (h : Record) (i s : ℕ) (copies : List ℕ) → IsConserved (Take i s copies ∷ h) →
    held (Take i s copies ∷ h) i ≡ held h i ++ copies ∷ []
take_grows h i s copies kept =
    place_grows h (Take i s copies) (Held i) (copies ∷ []) kept
    (one_here (Held i) copies ∙ oldest_full h (Contents i s) copies kept.0)
    (λ c l. refl)

pub take_stays : (h : Record) (i s : ℕ) (copies : List ℕ) (p : Place) → IsConserved (Take i s copies ∷ h) →
    same_place (Contents i s) p ≡ false → same_place (Held i) p ≡ false →
    parcels_at p (stands (Take i s copies ∷ h)) ≡ parcels_at p (stands h)
take_stays h i s copies p kept a b = place_stays h (Take i s copies) p kept (one_there p (Held i) copies b) (stay p a)
  where
    stay : (p : Place) → same_place (Contents i s) p ≡ false → (c : ℕ) → 0 < count c (joined (parcels_at p (stands h))) →
        count c (leaves (kind p) (Take i s copies)) ≡ 0
    stay (Contents j u) a c l = elsewhere h (Contents i s) (Contents j u) copies kept.1 a refl kept.0 c l
    stay p a c l = refl

-- SPLIT
pub split_pops : (h : Record) (i ports : ℕ) (copies : List ℕ) (event : Event) (children : List Child) → IsConserved (Split i ports copies event children ∷ h) →
    outputs h i ≡ copies ∷ outputs (Split i ports copies event children ∷ h) i
split_pops h i ports copies event children kept =
    place_pops h (Split i ports copies event children) (Outputs i) copies kept refl (none children) kept.0.oldest
  where
    none : (children : List Child) → put_at (Outputs i) (puts (Split i ports copies event children)) ≡ []
    none [] = refl
    none (child ∷ rest) = none rest

pub split_grows : (h : Record) (i ports t : ℕ) (copies : List ℕ) (event : Event) (children : List Child) → IsConserved (Split i ports copies event children ∷ h) →
    waiting (Split i ports copies event children ∷ h) i t ≡ waiting h i t ++ children_for t children
split_grows h i ports t copies event children kept =
    place_grows h (Split i ports copies event children) (Waiting i t) (children_for t children) kept (these children) (λ c l. refl)
  where
    these : (children : List Child) → put_at (Waiting i t) (puts (Split i ports copies event children)) ≡ children_for t children
    these [] = refl
    these (child ∷ rest) =
        ap (λ ps. if same_place (Waiting i child.target) (Waiting i t) then and_rest child.copies ps else ps) (these rest)
        ∙ ap (λ b. if b then and_rest child.copies (children_for t rest) else children_for t rest) (grind (arith, nat_tests))

-- ANSWER: what is put out leaves what was held, and comes to the outputs
pub answer_shrinks : (h : Record) (i : ℕ) (made : List Output) (discarded kept : List ℕ) → IsConserved (Answer i made discarded kept ∷ h) →
    held (Answer i made discarded kept ∷ h) i ≡ shrunk (put_out made) (held h i)
answer_shrinks h i made discarded kept kept_so =
    parcels_after h (Answer i made discarded kept) (Held i) kept_so ∙ ap (λ ps. shrunk (put_out made) (held h i) ++ ps) (none made)
    ∙ append-nil (shrunk (put_out made) (held h i))
  where
    none : (made : List Output) → put_at (Held i) (puts (Answer i made discarded kept)) ≡ []
    none [] = refl
    none (output ∷ rest) = none rest

pub answer_grows : (h : Record) (i : ℕ) (made : List Output) (discarded kept : List ℕ) → IsConserved (Answer i made discarded kept ∷ h) →
    outputs (Answer i made discarded kept ∷ h) i ≡ outputs h i ++ parcels_of made
answer_grows h i made discarded kept kept_so =
    place_grows h (Answer i made discarded kept) (Outputs i) (parcels_of made) kept_so (these made) (λ c l. refl)
  where
    these : (made : List Output) → put_at (Outputs i) (puts (Answer i made discarded kept)) ≡ parcels_of made
    these [] = refl
    these (output ∷ rest) =
        ap (λ b. if b then and_rest output.copies (put_at (Outputs i) (puts (Answer i rest discarded kept))) else put_at (Outputs i) (puts (Answer i rest discarded kept)))
        (same_place_self (Outputs i))
        ∙ ap (λ ps. and_rest output.copies ps) (these rest)

-- what another instance holds isn't put out
held_elsewhere : (h : Record) (i j : ℕ) (made : List Output) → IsConserved h → same_place (Held i) (Held j) ≡ false → Releases h i made →
    (c : ℕ) → 0 < count c (joined (held h j)) → count c (put_out made) ≡ 0
held_elsewhere h i j made kept other released c l =
    let a = count-two_places c (Held i) (Held j) (left h) (all_puts h) other refl in
    let b = stand_count-le h c (kind (Held i)) kept in
    let d = released c in
    omega arith

pub answer_stays : (h : Record) (i : ℕ) (made : List Output) (discarded kept : List ℕ) (p : Place) → IsConserved (Answer i made discarded kept ∷ h) →
    same_place (Outputs i) p ≡ false → same_place (Held i) p ≡ false →
    parcels_at p (stands (Answer i made discarded kept ∷ h)) ≡ parcels_at p (stands h)
answer_stays h i made discarded kept p kept_so a b = place_stays h (Answer i made discarded kept) p kept_so (none made) (stay p b)
  where
    none : (made : List Output) → put_at p (puts (Answer i made discarded kept)) ≡ []
    none [] = refl
    none (output ∷ rest) =
        ap (λ b. if b then and_rest output.copies (put_at p (puts (Answer i rest discarded kept))) else put_at p (puts (Answer i rest discarded kept))) a ∙ none rest

    stay : (p : Place) → same_place (Held i) p ≡ false → (c : ℕ) → 0 < count c (joined (parcels_at p (stands h))) →
        count c (leaves (kind p) (Answer i made discarded kept)) ≡ 0
    stay (Held j) b c l = held_elsewhere h i j made kept_so.1 b kept_so.0 c l
    stay p b c l = refl

-- SPENT: the copy leaves its parcel, wherever that stands
pub spent_shrinks : (h : Record) (i c : ℕ) (outcome : Outcome) (p : Place) → IsConserved (Spent i c outcome ∷ h) →
    parcels_at p (stands (Spent i c outcome ∷ h)) ≡ shrunk (c ∷ []) (parcels_at p (stands h))
spent_shrinks h i c outcome p kept =
    parcels_after h (Spent i c outcome) p kept ∙ append-nil (shrunk (leaves (kind p) (Spent i c outcome)) (parcels_at p (stands h)))
    ∙ ap (λ cs. shrunk cs (parcels_at p (stands h))) (takes (kind p))
  where
    takes : (k : Kind) → leaves k (Spent i c outcome) ≡ c ∷ []
    takes k = refl

-- BORN
pub born_grows : (h : Record) (i b place : ℕ) (copies : List ℕ) (events : List Event) (waits : Bool) (stream end : ℕ) →
    IsConserved (Born i b place copies events waits stream end ∷ h) →
    outputs (Born i b place copies events waits stream end ∷ h) i ≡ outputs h i ++ singles copies
born_grows h i b place copies events waits stream end kept =
    place_grows h (Born i b place copies events waits stream end) (Outputs i) (singles copies) kept (these copies) (λ c l. refl)
  where
    these : (copies : List ℕ) → put_at (Outputs i) (one_each (Outputs i) copies) ≡ singles copies
    these [] = refl
    these (c ∷ cs) =
        ap (λ b. if b then (c ∷ []) ∷ put_at (Outputs i) (one_each (Outputs i) cs) else put_at (Outputs i) (one_each (Outputs i) cs))
        (same_place_self (Outputs i))
        ∙ ap (λ ps. (c ∷ []) ∷ ps) (these cs)

pub born_stays : (h : Record) (i b place : ℕ) (copies : List ℕ) (events : List Event) (waits : Bool) (stream end : ℕ) (p : Place) →
    IsConserved (Born i b place copies events waits stream end ∷ h) → same_place (Outputs i) p ≡ false →
    parcels_at p (stands (Born i b place copies events waits stream end ∷ h)) ≡ parcels_at p (stands h)
born_stays h i b place copies events waits stream end p kept other =
    place_stays h (Born i b place copies events waits stream end) p kept (none copies) (λ c l. takes c (kind p))
  where
    none : (copies : List ℕ) → put_at p (one_each (Outputs i) copies) ≡ []
    none [] = refl
    none (c ∷ cs) =
        ap (λ b. if b then (c ∷ []) ∷ put_at p (one_each (Outputs i) cs) else put_at p (one_each (Outputs i) cs)) other ∙ none cs

    takes : (c : ℕ) (k : Kind) → count c (leaves k (Born i b place copies events waits stream end)) ≡ 0
    takes c k = refl

-- and the places that a Split neither takes from nor puts into
pub split_stays : (h : Record) (i ports : ℕ) (copies : List ℕ) (event : Event) (children : List Child) (p : Place) →
    IsConserved (Split i ports copies event children ∷ h) → same_place (Outputs i) p ≡ false → is_child_of i p ≡ false →
    parcels_at p (stands (Split i ports copies event children ∷ h)) ≡ parcels_at p (stands h)
split_stays h i ports copies event children p kept a b =
    place_stays h (Split i ports copies event children) p kept (none p b children) (stay p a)
  where
    apart : (j u t : ℕ) → (j == i) ≡ false → ((i == j) && (t == u)) ≡ false
    apart j u t e = grind (arith, nat_tests)

    none : (p : Place) → is_child_of i p ≡ false → (children : List Child) → put_at p (puts (Split i ports copies event children)) ≡ []
    none p b [] = refl
    none (Waiting j u) b (child ∷ rest) =
        ap (λ b. if b then and_rest child.copies (put_at (Waiting j u) (puts (Split i ports copies event rest)))
        else put_at (Waiting j u) (puts (Split i ports copies event rest))) (apart j u child.target b)
        ∙ none (Waiting j u) b rest
    none (Outputs j) b (child ∷ rest) = none (Outputs j) b rest
    none (Contents j s) b (child ∷ rest) = none (Contents j s) b rest
    none (Held j) b (child ∷ rest) = none (Held j) b rest

    stay : (p : Place) → same_place (Outputs i) p ≡ false → (c : ℕ) → 0 < count c (joined (parcels_at p (stands h))) →
        count c (leaves (kind p) (Split i ports copies event children)) ≡ 0
    stay (Outputs j) a c l = elsewhere h (Outputs i) (Outputs j) copies kept.1 a refl kept.0.oldest c l
    stay p a c l = refl
