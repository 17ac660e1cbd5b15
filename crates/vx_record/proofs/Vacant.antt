-- Places where nothing stands, and that stay so.
use Rattle.std.proofs.Common.{◌≡◌, ℕ, Bool, true, false, List, [], ◌∷◌, ◌++◌, refl, sym, ap, subst, ◌∙◌, ◌+◌, arith}
use Rattle.std.specs.Prelude.{if◌then◌else◌, ◌==◌, ◌&&◌}
use Rattle.std.proofs.lemmas.Bool.{and_parts, and_from, eqb-true, eq-eqb}
use Rattle.vx_value.specs.Texts.{is_empty}
use Rattle.vx_value.specs.declared.event.Event.{Event}
use Rattle.vx_record.specs.Records.{Record}
use Rattle.vx_record.specs.declared.child.Child.{Child}
use Rattle.vx_record.specs.declared.entry.Entry.{Entry}
use Rattle.vx_record.specs.declared.output.Output.{Output}
use Rattle.vx_record.specs.declared.entry.Entry.TheVariants.{Born, Split, Push, Take, Answer}
use Rattle.vx_record.specs.Copies.{count, joined}
use Rattle.vx_record.specs.Places.{Place, Put, kind, owner, same_place, one_each, put_out, puts, leaves}
use Rattle.vx_record.specs.Places.Place.{Outputs, Waiting, Contents, Held}
use Rattle.vx_record.specs.Lists.{and_rest, shrunk, stands, parcels_at, parcels_where, is_child_of, is_stage_of, outputs, waiting, all_waiting, contents, held, buffered, is_bare}
use Rattle.vx_record.specs.Moving.{IsConserved, parcels_of}
use Rattle.vx_record.specs.Sending.{IsOldest}
use Rattle.vx_record.specs.Routing.{is_sent}
use Rattle.vx_record.proofs.Changes.{put_at, same_place_is, same_place_self, parcels_after}
use Rattle.vx_record.proofs.Entries.{answer_grows}

-- TESTS AND PLACES
-- nothing stands at the places of a test where the list of these is empty
pub where_none : (test : Place → Bool) (ps : List Put) → is_empty (parcels_where test ps) ≡ true → (p : Place) → test p ≡ true → parcels_at p ps ≡ []
where_none test [] none p here = refl
where_none test (put ∷ ps) none p here = go (test put.place) (same_place put.place p) refl refl none (λ e. where_none test ps e p here)
  where
    go : (t b : Bool) → test put.place ≡ t → same_place put.place p ≡ b → is_empty (if t then put.copies ∷ parcels_where test ps else parcels_where test ps) ≡ true → (is_empty (parcels_where test ps) ≡ true → parcels_at p ps ≡ []) →
        (if b then put.copies ∷ parcels_at p ps else parcels_at p ps) ≡ []
    go true b is same e rest = cc
    go false true is same e rest = let no : test p ≡ false = subst (λ (q : Place). test q ≡ false) (same_place_is put.place p same) is in cc
    go false false is same e rest = rest e

-- and the other way round
pub none_where : (test : Place → Bool) (ps : List Put) → ((p : Place) → test p ≡ true → parcels_at p ps ≡ []) → is_empty (parcels_where test ps) ≡ true
none_where test [] none = refl
none_where test (put ∷ ps) none = go (test put.place) refl (none_where test ps (λ p here. tail (same_place put.place p) (parcels_at p ps) (none p here)))
  where
    tail : (b : Bool) (rest : List (List ℕ)) → (if b then put.copies ∷ rest else rest) ≡ [] → rest ≡ []
    tail true rest e = cc
    tail false rest e = e

    some : (b : Bool) (rest : List (List ℕ)) → b ≡ true → (if b then put.copies ∷ rest else rest) ≡ [] → true ≡ false
    some true rest is e = cc
    some false rest is e = cc

    go : (t : Bool) → test put.place ≡ t → is_empty (parcels_where test ps) ≡ true → is_empty (if t then put.copies ∷ parcels_where test ps else parcels_where test ps) ≡ true
    go true is rest = let no : true ≡ false = some (same_place put.place put.place) (parcels_at put.place ps) (same_place_self put.place) (none put.place is) in cc
    go false is rest = rest

-- a list is empty where its test says so
pub empty_is : (ps : List (List ℕ)) → is_empty ps ≡ true → ps ≡ []
empty_is [] e = refl
empty_is (p ∷ ps) e = cc

pub is_empty_of : (ps : List (List ℕ)) → ps ≡ [] → is_empty ps ≡ true
is_empty_of ps e = ap (λ (qs : List (List ℕ)). is_empty qs) e

-- an instance is itself
pub self : (i : ℕ) → (i == i) ≡ true
self i = eq-eqb i i refl

-- nothing stands at another name of an instance's place
at_own : (place : ℕ → Place) (h : Record) (j i : ℕ) → (j == i) ≡ true → parcels_at (place i) (stands h) ≡ [] → parcels_at (place j) (stands h) ≡ []
at_own place h j i here none = subst (λ (k : ℕ). parcels_at (place k) (stands h) ≡ []) (sym (eqb-true j i here)) none

-- WHAT AN INSTANCE PUT OUT
-- all that it put out went further
pub record Sent (h : Record) (i : ℕ) : Type 0 where
  pub put_out : outputs h i ≡ []
  pub waits : (t : ℕ) → waiting h i t ≡ []

-- where the test says so
pub sent_of : (h : Record) (i : ℕ) → is_sent h i ≡ true → Sent h i
sent_of h i sent = record {
  put_out = empty_is (outputs h i) ((and_parts (is_empty (outputs h i)) (is_empty (all_waiting h i)) sent).0);
  waits = λ t. where_none (is_child_of i) (stands h) ((and_parts (is_empty (outputs h i)) (is_empty (all_waiting h i)) sent).1) (Waiting i t) (self i);
}

-- and then the test does
pub is_sent_of : (h : Record) (i : ℕ) → Sent h i → is_sent h i ≡ true
is_sent_of h i sent = and_from (is_empty (outputs h i)) (is_empty (all_waiting h i)) (is_empty_of (outputs h i) sent.put_out) (none_where (is_child_of i) (stands h) child)
  where
    child : (p : Place) → is_child_of i p ≡ true → parcels_at p (stands h) ≡ []
    child (Waiting j t) is = at_own (λ k. Waiting k t) h j i is (sent.waits t)
    child p is = cc

-- WHAT AN INSTANCE TOOK IN
-- nothing stands in its buffer or was taken from there
pub record Unfilled (h : Record) (i : ℕ) : Type 0 where
  pub buffer : (s : ℕ) → contents h i s ≡ []
  pub holdings : held h i ≡ []

-- where the tests say so
pub unfilled_of : (h : Record) (i : ℕ) → is_empty (buffered h i) ≡ true → is_empty (held h i) ≡ true → Unfilled h i
unfilled_of h i none holdings = record {
  buffer = λ s. where_none (is_stage_of i) (stands h) none (Contents i s) (self i);
  holdings = empty_is (held h i) holdings;
}

-- and then the buffer's does
pub unbuffered : (h : Record) (i : ℕ) → Unfilled h i → is_empty (buffered h i) ≡ true
unbuffered h i none = none_where (is_stage_of i) (stands h) stage
  where
    stage : (p : Place) → is_stage_of i p ≡ true → parcels_at p (stands h) ≡ []
    stage (Contents j s) is = at_own (λ k. Contents k s) h j i is (none.buffer s)
    stage p is = cc

-- nothing at all stands at it
pub bare_of : (h : Record) (i : ℕ) → Sent h i → Unfilled h i → is_bare h i ≡ true
bare_of h i sent none = none_where (λ (p : Place). owner p == i) (stands h) mine
  where
    mine : (p : Place) → (owner p == i) ≡ true → parcels_at p (stands h) ≡ []
    mine (Outputs j) is = at_own Outputs h j i is sent.put_out
    mine (Waiting j t) is = at_own (λ k. Waiting k t) h j i is (sent.waits t)
    mine (Contents j s) is = at_own (λ k. Contents k s) h j i is (none.buffer s)
    mine (Held j) is = at_own Held h j i is none.holdings

-- and then it sent everything, and has nothing
pub bare_sent : (h : Record) (i : ℕ) → is_bare h i ≡ true → Sent h i
bare_sent h i bare = record {
  put_out = where_none (λ (p : Place). owner p == i) (stands h) bare (Outputs i) (self i);
  waits = λ t. where_none (λ (p : Place). owner p == i) (stands h) bare (Waiting i t) (self i);
}

pub bare_unfilled : (h : Record) (i : ℕ) → is_bare h i ≡ true → Unfilled h i
bare_unfilled h i bare = record {
  buffer = λ s. where_none (λ (p : Place). owner p == i) (stands h) bare (Contents i s) (self i);
  holdings = where_none (λ (p : Place). owner p == i) (stands h) bare (Held i) (self i);
}

-- ONE MORE ENTRY
-- what is empty stays so where nothing is put
none_after : (h : Record) (e : Entry) (p : Place) → IsConserved (e ∷ h) → put_at p (puts e) ≡ [] → parcels_at p (stands h) ≡ [] → parcels_at p (stands (e ∷ h)) ≡ []
none_after h e p kept nothing none = parcels_after h e p kept ∙ ap (λ (ps : List (List ℕ)). shrunk (leaves (kind p) e) ps ++ put_at p (puts e)) none ∙ nothing

-- an entry that creates a batch of the instance
abbrev pub creates : ℕ → Entry → Bool
creates i (Born j b place copies events waits stream end) = j == i
creates i other = false

-- a birth puts at the outputs of its instance alone
born_elsewhere : (p : Place) (j : ℕ) (copies : List ℕ) → same_place (Outputs j) p ≡ false → put_at p (one_each (Outputs j) copies) ≡ []
born_elsewhere p j [] other = refl
born_elsewhere p j (c ∷ cs) other =
    ap (λ (b : Bool). if b then (c ∷ []) ∷ put_at p (one_each (Outputs j) cs) else put_at p (one_each (Outputs j) cs)) other ∙ born_elsewhere p j cs other

-- and a Split where children of its instance wait
split_elsewhere : (p : Place) (i ports : ℕ) (copies : List ℕ) (event : Event) (children : List Child) → ((t : ℕ) → same_place (Waiting i t) p ≡ false) →
    put_at p (puts (Split i ports copies event children)) ≡ []
split_elsewhere p i ports copies event [] other = refl
split_elsewhere p i ports copies event (child ∷ rest) other =
    ap (λ (b : Bool). if b then and_rest child.copies (put_at p (puts (Split i ports copies event rest))) else put_at p (puts (Split i ports copies event rest))) (other child.target)
    ∙ split_elsewhere p i ports copies event rest other

-- no parcel can be the oldest of none
pub no_oldest : (copies : List ℕ) (ps : List (List ℕ)) → IsOldest copies ps → ps ≡ [] → ⊥
no_oldest copies [] oldest none = oldest
no_oldest copies (p ∷ ps) oldest none = cc

-- or by which it puts out, as a birth or as an answer
abbrev pub puts_out : ℕ → Entry → Bool
puts_out i (Born j b place copies events waits stream end) = j == i
puts_out i (Answer j made discarded kept) = j == i
puts_out i other = false

-- an Answer puts at the outputs of its instance alone
answer_elsewhere : (p : Place) (j : ℕ) (made : List Output) (discarded kept : List ℕ) → same_place (Outputs j) p ≡ false → put_at p (puts (Answer j made discarded kept)) ≡ []
answer_elsewhere p j [] discarded kept other = refl
answer_elsewhere p j (output ∷ rest) discarded kept other =
    ap (λ (b : Bool). if b then and_rest output.copies (put_at p (puts (Answer j rest discarded kept))) else put_at p (puts (Answer j rest discarded kept))) other
    ∙ answer_elsewhere p j rest discarded kept other

-- the outputs stay empty until the instance puts out
outputs_on : (h : Record) (e : Entry) (i : ℕ) → IsConserved (e ∷ h) → puts_out i e ≡ false → outputs h i ≡ [] → outputs (e ∷ h) i ≡ []
outputs_on h (Born j b place copies events waits stream end) i kept off none =
    none_after h (Born j b place copies events waits stream end) (Outputs i) kept (born_elsewhere (Outputs i) j copies off) none
outputs_on h (Split j ports copies event children) i kept off none =
    none_after h (Split j ports copies event children) (Outputs i) kept (split_elsewhere (Outputs i) j ports copies event children (λ t. refl)) none
outputs_on h (Answer j made discarded remains) i kept off none =
    none_after h (Answer j made discarded remains) (Outputs i) kept (answer_elsewhere (Outputs i) j made discarded remains off) none
outputs_on h e i kept off none = none_after h e (Outputs i) kept refl none

-- an entry that makes children
abbrev pub divides : Entry → Bool
divides (Split i ports copies event children) = true
divides other = false

-- and no child comes without one
pub waits_still : (h : Record) (e : Entry) (i t : ℕ) → IsConserved (e ∷ h) → divides e ≡ false → waiting h i t ≡ [] → waiting (e ∷ h) i t ≡ []
waits_still h (Born j b place copies events waits stream end) i t kept off empty =
    none_after h (Born j b place copies events waits stream end) (Waiting i t) kept (born_elsewhere (Waiting i t) j copies refl) empty
waits_still h (Split j ports copies event children) i t kept off empty = cc
waits_still h (Answer j made discarded remains) i t kept off empty =
    none_after h (Answer j made discarded remains) (Waiting i t) kept (answer_elsewhere (Waiting i t) j made discarded remains refl) empty
waits_still h e i t kept off empty = none_after h e (Waiting i t) kept refl empty

-- nor where nothing was put out
waits_on : (h : Record) (e : Entry) (i t : ℕ) → IsConserved (e ∷ h) → outputs h i ≡ [] → waiting h i t ≡ [] → waiting (e ∷ h) i t ≡ []
waits_on h (Split j ports copies event children) i t kept none empty = go (j == i) refl
  where
    go : (b : Bool) → (j == i) ≡ b → waiting (Split j ports copies event children ∷ h) i t ≡ []
    go true is =
        let same : j ≡ i = eqb-true j i is in
        absurd (no_oldest copies (outputs h j) kept.0.oldest (subst (λ (k : ℕ). outputs h k ≡ []) (sym same) none))
    go false is =
        none_after h (Split j ports copies event children) (Waiting i t) kept
        (split_elsewhere (Waiting i t) j ports copies event children (λ u. ap (λ (b : Bool). b && (u == t)) is)) empty
waits_on h e i t kept none empty = waits_still h e i t kept refl empty

-- what sent everything has sent everything until it puts out
pub sent_on : (h : Record) (e : Entry) (i : ℕ) → IsConserved (e ∷ h) → puts_out i e ≡ false → Sent h i → Sent (e ∷ h) i
sent_on h e i kept off sent = record {
  put_out = outputs_on h e i kept off sent.put_out;
  waits = λ t. waits_on h e i t kept sent.put_out (sent.waits t);
}

-- outputs without copies are none
none_out : (made : List Output) → ((c : ℕ) → count c (put_out made) ≡ 0) → parcels_of made ≡ []
none_out [] none = refl
none_out (output ∷ rest) none = go output.copies none (none_out rest)
  where
    go : (cs : List ℕ) → ((c : ℕ) → count c (cs ++ put_out rest) ≡ 0) → (((c : ℕ) → count c (put_out rest) ≡ 0) → parcels_of rest ≡ []) → and_rest cs (parcels_of rest) ≡ []
    go [] n later = later n
    go (x ∷ xs) n later =
        let one : (x == x) ≡ true = self x in
        let no : (if true then 1 else 0) + count x (xs ++ put_out rest) ≡ 0 = subst (λ (b : Bool). (if b then 1 else 0) + count x (xs ++ put_out rest) ≡ 0) one (n x) in
        absurd (omega (arith, no))

-- and what holds nothing puts nothing out by its answers
pub sent_empty : (h : Record) (e : Entry) (i : ℕ) → IsConserved (e ∷ h) → creates i e ≡ false → held h i ≡ [] → Sent h i → Sent (e ∷ h) i
sent_empty h (Answer j made discarded remains) i kept off holdings sent = go (j == i) refl
  where
    released : (j ≡ i) → (c : ℕ) → count c (put_out made) ≡ 0
    released same c =
        let most = kept.0 c in
        let none : count c (joined (held h j)) ≡ 0 = subst (λ (k : ℕ). count c (joined (held h k)) ≡ 0) (sym same) (ap (λ (ps : List (List ℕ)). count c (joined ps)) holdings) in
        omega (arith, most, none)

    go : (b : Bool) → (j == i) ≡ b → Sent (Answer j made discarded remains ∷ h) i
    go true here =
        let same : j ≡ i = eqb-true j i here in
        let before : outputs h j ≡ [] = subst (λ (k : ℕ). outputs h k ≡ []) (sym same) sent.put_out in
        let after : outputs (Answer j made discarded remains ∷ h) j ≡ [] = answer_grows h j made discarded remains kept ∙ ap (λ (ps : List (List ℕ)). ps ++ parcels_of made) before ∙ none_out made (released same) in
        record {
          put_out = subst (λ (k : ℕ). outputs (Answer j made discarded remains ∷ h) k ≡ []) same after;
          waits = λ t. waits_on h (Answer j made discarded remains) i t kept sent.put_out (sent.waits t);
        }
    go false other = sent_on h (Answer j made discarded remains) i kept other sent
sent_empty h e i kept off holdings sent = sent_on h e i kept off sent

-- an entry by which a parcel enters the instance's buffer
abbrev pub enters : ℕ → Entry → Bool
enters i (Push j t s copies) = t == i
enters i other = false

-- none does where no child waits for it
pub unentered : (h : Record) (e : Entry) (i : ℕ) → IsConserved (e ∷ h) → ((j : ℕ) → waiting h j i ≡ []) → enters i e ≡ false
unentered h (Push j t s copies) i kept unsent = go (t == i) refl
  where
    go : (b : Bool) → (t == i) ≡ b → b ≡ false
    go true is =
        let same : t ≡ i = eqb-true t i is in
        absurd (no_oldest copies (waiting h j t) kept.0 (subst (λ (k : ℕ). waiting h j k ≡ []) (sym same) (unsent j)))
    go false is = refl
unentered h e i kept unsent = refl

-- a stage stays empty until a parcel enters
contents_on : (h : Record) (e : Entry) (i s : ℕ) → IsConserved (e ∷ h) → enters i e ≡ false → contents h i s ≡ [] → contents (e ∷ h) i s ≡ []
contents_on h (Born j b place copies events waits stream end) i s kept off none =
    none_after h (Born j b place copies events waits stream end) (Contents i s) kept (born_elsewhere (Contents i s) j copies refl) none
contents_on h (Split j ports copies event children) i s kept off none =
    none_after h (Split j ports copies event children) (Contents i s) kept (split_elsewhere (Contents i s) j ports copies event children (λ t. refl)) none
contents_on h (Push j t r copies) i s kept off none =
    none_after h (Push j t r copies) (Contents i s) kept (ap (λ (b : Bool). if b && (r == s) then and_rest copies [] else []) off) none
contents_on h (Answer j made discarded remains) i s kept off none =
    none_after h (Answer j made discarded remains) (Contents i s) kept (answer_elsewhere (Contents i s) j made discarded remains refl) none
contents_on h e i s kept off none = none_after h e (Contents i s) kept refl none

-- and nothing is taken where no stage has anything
held_on : (h : Record) (e : Entry) (i : ℕ) → IsConserved (e ∷ h) → Unfilled h i → held (e ∷ h) i ≡ []
held_on h (Born j b place copies events waits stream end) i kept none =
    none_after h (Born j b place copies events waits stream end) (Held i) kept (born_elsewhere (Held i) j copies refl) none.holdings
held_on h (Split j ports copies event children) i kept none =
    none_after h (Split j ports copies event children) (Held i) kept (split_elsewhere (Held i) j ports copies event children (λ t. refl)) none.holdings
held_on h (Take j s copies) i kept none = go (j == i) refl
  where
    go : (b : Bool) → (j == i) ≡ b → held (Take j s copies ∷ h) i ≡ []
    go true is =
        let same : j ≡ i = eqb-true j i is in
        absurd (no_oldest copies (contents h j s) kept.0 (subst (λ (k : ℕ). contents h k s ≡ []) (sym same) (none.buffer s)))
    go false is = none_after h (Take j s copies) (Held i) kept (ap (λ (b : Bool). if b then and_rest copies [] else []) is) none.holdings
held_on h (Answer j made discarded remains) i kept none =
    none_after h (Answer j made discarded remains) (Held i) kept (answer_elsewhere (Held i) j made discarded remains refl) none.holdings
held_on h e i kept none = none_after h e (Held i) kept refl none.holdings

-- what has nothing has nothing until a parcel enters
pub unfilled_on : (h : Record) (e : Entry) (i : ℕ) → IsConserved (e ∷ h) → enters i e ≡ false → Unfilled h i → Unfilled (e ∷ h) i
unfilled_on h e i kept off none = record {
  buffer = λ s. contents_on h e i s kept off (none.buffer s);
  holdings = held_on h e i kept none;
}
