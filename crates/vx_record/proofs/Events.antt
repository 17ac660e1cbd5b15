-- The copies of a parcel have one event.
use Rattle.std.proofs.Common.{◌≡◌, ℕ, ◌<◌, ◌≤◌, Bool, true, false, List, [], ◌∷◌, ◌++◌, sym, refl, ap, ◌∙◌, subst, arith, length, inl, inr, ◌⊎◌, map, Option, Some, None}
use Rattle.std.specs.Prelude.{if◌then◌else◌, nat_lt, ◌-◌, slice_index_or}
use Rattle.std.proofs.lemmas.Bool.Decides.{nat_tests}
use Rattle.std.proofs.lemmas.Bool.{cases_lt}
use Rattle.std.proofs.lemmas.List.{append_assoc}
use Rattle.vx_value.specs.declared.event.Event.{Event}
use Rattle.vx_record.specs.declared.entry.Entry.{Entry}
use Rattle.vx_record.specs.declared.child.Child.{Child}
use Rattle.vx_record.specs.declared.output.Output.{Output}
use Rattle.vx_record.specs.Records.{Record}
use Rattle.vx_record.specs.declared.entry.Entry.TheVariants.{Born, Split, Push, Take, Answer}
use Rattle.vx_record.specs.Copies.{count, joined, next_copy}
use Rattle.vx_record.specs.Parcels.{event_of, no_event, output_with, said_by}
use Rattle.vx_record.specs.Routing.{routes}
use Rattle.vx_record.specs.Parcels.{port_list}
use Rattle.vx_record.specs.Places.{Place, Kind, kind, same_place, one_each, put_out, puts, leaves, left, all_puts}
use Rattle.vx_record.specs.Places.Kind.{AnOutput, AChild, AStage, AHold}
use Rattle.vx_record.specs.Places.Place.{Outputs, Waiting, Contents, Held}
use Rattle.vx_record.specs.Lists.{and_rest, shrunk, without, stands, parcels_at}
use Rattle.vx_record.specs.Moving.{IsConserved, Releases}
use Rattle.vx_record.specs.Legal.{IsLegal}
use Rattle.vx_record.specs.Sending.{IsOldest}
use Rattle.vx_record.specs.Laws.{HaveOneEvent, EachHasOneEvent, OneEvent}
use Rattle.vx_record.proofs.Counts.{count-append, count-without, unless-some, unless-none}
use Rattle.vx_record.proofs.Tracked.{Tracked, stand_in, stand_cases, put_in, gone_from}
use Rattle.vx_record.proofs.OnePlace.{conserved, tracked}
use Rattle.vx_record.proofs.Place.{count-parcels_at}
use Rattle.vx_record.proofs.Changes.{put_at, parcels_after, stands_once}
use Rattle.vx_record.proofs.HeldCopies.{not_there}
use Rattle.vx_record.proofs.Steps.{family, children_before}

each-append : (h : Record) (xs ys : List (List ℕ)) → EachHasOneEvent h xs → EachHasOneEvent h ys → EachHasOneEvent h (xs ++ ys)
each-append h [] ys a b = b
each-append h (x ∷ xs) ys a b = (a.0, each-append h xs ys a.1 b)

each-and_rest : (h : Record) (cs : List ℕ) (rest : List (List ℕ)) → HaveOneEvent h cs → EachHasOneEvent h rest → EachHasOneEvent h (and_rest cs rest)
each-and_rest h [] rest a b = b
each-and_rest h (c ∷ cs) rest a b = (a, b)

within : (c : ℕ) (gone xs : List ℕ) → 0 < count c (without gone xs) → (0 < count c xs) × (count c gone ≡ 0)
within c gone xs l =
    let e = count-without c gone xs in
    elim (cases_lt 0 (count c gone)) [
      | inl some ↦ let u = unless-some (count c gone) (count c xs) some in absurd (omega arith)
      | inr rest ↦ let u = unless-none (count c gone) (count c xs) (omega arith) in (omega arith, omega arith)
    ]

-- what stays of old parcels keeps its event
each-shrunk : (h : Record) (e : Entry) (gone : List ℕ) (ps : List (List ℕ)) →
    ((c : ℕ) → 0 < count c (joined ps) → count c gone ≡ 0 → event_of (e ∷ h) c ≡ event_of h c) →
    EachHasOneEvent h ps → EachHasOneEvent (e ∷ h) (shrunk gone ps)
each-shrunk h e gone [] keeps a = tt
each-shrunk h e gone (p ∷ ps) keeps a =
    each-and_rest (e ∷ h) (without gone p) (shrunk gone ps)
    (λ c d lc ld. kept c lc ∙ a.0 c d (within c gone p lc).0 (within d gone p ld).0 ∙ sym (kept d ld))
    (each-shrunk h e gone ps (λ c l. keeps c (let f = count-append c p (joined ps) in omega arith)) a.1)
  where
    kept : (c : ℕ) → 0 < count c (without gone p) → event_of (e ∷ h) c ≡ event_of h c
    kept c l = let w = within c gone p l in keeps c (let f = count-append c p (joined ps) in let x = w.0 in omega arith) w.1

-- the oldest of some parcels
oldest_one : (h : Record) (copies : List ℕ) (ps : List (List ℕ)) → IsOldest copies ps → EachHasOneEvent h ps → HaveOneEvent h copies
oldest_one h copies [] first a = absurd first
oldest_one h copies (p ∷ ps) first a = subst (HaveOneEvent h) (sym first) a.0

-- a copy that stands was made, and stands in one kind of place
stands_made : (h : Record) (c : ℕ) (p : Place) → IsLegal h → 0 < count c (joined (parcels_at p (stands h))) → c < next_copy h
stands_made h c p legal l =
    let e = count-parcels_at c p (left h) (all_puts h) in
    elim (cases_lt c (next_copy h)) [ inl below ↦ below | inr above ↦ go (kind p) (stand_cases (kind p) h c) above (omega arith) ]
  where
    t : Tracked h c
    t = tracked h c (conserved h legal)

    go : (k : Kind) → ((gone_from k h c ≡ 0) × (stand_in k h c ≡ put_in k h c)) ⊎ ((0 < gone_from k h c) × (stand_in k h c ≡ 0)) →
        next_copy h ≤ c → 0 < stand_in k h c → c < next_copy h
    go k (inr none) above some = absurd (omega arith)
    go AnOutput (inl s) above some = let u = t.unmade above in let x = t.push in let y = t.take in let z = t.answer in absurd (omega arith)
    go AChild (inl s) above some = let u = t.unmade above in absurd (omega arith)
    go AStage (inl s) above some = let u = t.unmade above in let x = t.push in absurd (omega arith)
    go AHold (inl s) above some = let u = t.unmade above in let x = t.push in let y = t.take in absurd (omega arith)

when_lt : {A : Type 0} (m n : ℕ) (x y : A) → m < n → (if nat_lt m n then x else y) ≡ x
when_lt m n x y l = grind (arith, nat_tests)

when_ge : {A : Type 0} (m n : ℕ) (x y : A) → n ≤ m → (if nat_lt m n then x else y) ≡ y
when_ge m n x y l = grind (arith, nat_tests)

-- what an Answer puts out stood in no place but the hold
pub not_out : (h : Record) (i : ℕ) (made : List Output) (discarded kept : List ℕ) (p : Place) → IsConserved h → Releases h i made →
    (c : ℕ) → 0 < count c (joined (parcels_at p (stands h))) → count c (leaves (kind p) (Answer i made discarded kept)) ≡ 0 → count c (put_out made) ≡ 0
not_out h i made discarded kept (Held j) sound released c l g = g
not_out h i made discarded kept (Outputs j) sound released c l g =
    let n = not_there h (Outputs j) (Held i) c sound refl l in let r = released c in omega arith
not_out h i made discarded kept (Waiting j t) sound released c l g =
    let n = not_there h (Waiting j t) (Held i) c sound refl l in let r = released c in omega arith
not_out h i made discarded kept (Contents j s) sound released c l g =
    let n = not_there h (Contents j s) (Held i) c sound refl l in let r = released c in omega arith

output_none : (made : List Output) (c : ℕ) → count c (put_out made) ≡ 0 → output_with made c ≡ None
output_none [] c none = refl
output_none (output ∷ rest) c none =
    let e = count-append c output.copies (put_out rest) in
    when_ge 0 (count c output.copies) (Some output) (output_with rest c) (omega arith) ∙ output_none rest c (omega arith)

pub said_before : {X : Type 0} (f : Output → X) (made : List Output) (c : ℕ) (x : X) → count c (put_out made) ≡ 0 → said_by f made c x ≡ x
said_before f made c x none = ap (λ (o : Option Output). elim o [ None ↦ x | Some output ↦ f output ]) (output_none made c none)

in_middle : (before : List Output) (output : Output) (rest : List Output) (c : ℕ) → count c output.copies ≤ count c (put_out (before ++ output ∷ rest))
in_middle [] output rest c = let e = count-append c output.copies (put_out rest) in omega arith
in_middle (b ∷ before) output rest c =
    let e = count-append c b.copies (put_out (before ++ output ∷ rest)) in
    let f = in_middle before output rest c in
    omega arith

-- a copy that is put out once is in one output
pub output_is : (before : List Output) (output : Output) (rest : List Output) (c : ℕ) → count c (put_out (before ++ output ∷ rest)) ≤ 1 →
    0 < count c output.copies → output_with (before ++ output ∷ rest) c ≡ Some output
output_is [] output rest c once l = when_lt 0 (count c output.copies) (Some output) (output_with rest c) l
output_is (b ∷ before) output rest c once l =
    let e = count-append c b.copies (put_out (before ++ output ∷ rest)) in
    let m = in_middle before output rest c in
    when_ge 0 (count c b.copies) (Some b) (output_with (before ++ output ∷ rest) c) (omega arith) ∙ output_is before output rest c (omega arith) l

keeps_event : (h : Record) (e : Entry) (c : ℕ) (p : Place) → IsLegal (e ∷ h) → 0 < count c (joined (parcels_at p (stands h))) →
    count c (leaves (kind p) e) ≡ 0 → event_of (e ∷ h) c ≡ event_of h c
keeps_event h (Born i b place copies events waits stream end) c p legal l g =
    when_lt c (next_copy h) (event_of h c) (slice_index_or events (c - next_copy h) no_event) (stands_made h c p legal.1 l)
keeps_event h (Split i ports copies event children) c p legal l g = when_lt c (next_copy h) (event_of h c) event (stands_made h c p legal.1 l)
keeps_event h (Answer i made discarded kept) c p legal l g =
    said_before (λ (output : Output). output.event) made c (event_of h c)
    (not_out h i made discarded kept p (conserved h legal.1) (conserved (Answer i made discarded kept ∷ h) legal).0 c l g)
keeps_event h e c p legal l g = refl

each_single : (h : Record) (p q : Place) (cs : List ℕ) → EachHasOneEvent h (put_at p (one_each q cs))
each_single h p q [] = tt
each_single h p q (x ∷ xs) = go (same_place q p) (each_single h p q xs)
  where
    go : (b : Bool) → EachHasOneEvent h (put_at p (one_each q xs)) →
        EachHasOneEvent h (if b then (x ∷ []) ∷ put_at p (one_each q xs) else put_at p (one_each q xs))
    go true rest = ((λ c d lc ld. let e : c ≡ d = grind (arith, nat_tests) in ap (event_of h) e), rest)
    go false rest = rest

one_put : (h : Record) (p q : Place) (copies : List ℕ) → HaveOneEvent h copies → EachHasOneEvent h (put_at p (record { place = q; copies = copies } ∷ []))
one_put h p q copies a = go (same_place q p)
  where
    go : (b : Bool) → EachHasOneEvent h (if b then and_rest copies [] else [])
    go true = each-and_rest h copies [] a tt
    go false = tt

-- children have the event of their Split
children_one : (h : Record) (p : Place) (i ports : ℕ) (copies : List ℕ) (event : Event) (children all : List Child) →
    ((c : ℕ) → 0 < count c (family children) → next_copy h ≤ c) →
    EachHasOneEvent (Split i ports copies event all ∷ h) (put_at p (puts (Split i ports copies event children)))
children_one h p i ports copies event [] all new = tt
children_one h p i ports copies event (child ∷ rest) all new =
    go (same_place (Waiting i child.target) p)
    (children_one h p i ports copies event rest all (λ c l. new c (let e = count-append c child.copies (family rest) in omega arith)))
  where
    others : List (List ℕ)
    others = put_at p (puts (Split i ports copies event rest))

    from : (c : ℕ) → 0 < count c child.copies → event_of (Split i ports copies event all ∷ h) c ≡ event
    from c l = when_ge c (next_copy h) (event_of h c) event (new c (let e = count-append c child.copies (family rest) in omega arith))

    go : (b : Bool) → EachHasOneEvent (Split i ports copies event all ∷ h) others →
        EachHasOneEvent (Split i ports copies event all ∷ h) (if b then and_rest child.copies others else others)
    go true ih = each-and_rest (Split i ports copies event all ∷ h) child.copies others (λ c d lc ld. from c lc ∙ sym (from d ld)) ih
    go false ih = ih

-- an output has the event that it is put out with
outputs_one : (h : Record) (p : Place) (i : ℕ) (discarded kept : List ℕ) (all before made : List Output) → all ≡ before ++ made →
    ((c : ℕ) → count c (put_out all) ≤ 1) →
    EachHasOneEvent (Answer i all discarded kept ∷ h) (put_at p (map (λ (output : Output). record { place = Outputs i; copies = output.copies }) made))
outputs_one h p i discarded kept all before [] is once = tt
outputs_one h p i discarded kept all before (output ∷ rest) is once =
    go (same_place (Outputs i) p)
    (outputs_one h p i discarded kept all (before ++ output ∷ []) rest (is ∙ sym (append_assoc before (output ∷ []) rest)) once)
  where
    others : List (List ℕ)
    others = put_at p (map (λ (output : Output). record { place = Outputs i; copies = output.copies }) rest)

    from : (c : ℕ) → 0 < count c output.copies → event_of (Answer i all discarded kept ∷ h) c ≡ output.event
    from c l =
        let o = once c in
        let few = ap (λ (xs : List Output). count c (put_out xs)) is in
        ap (λ (o : Option Output). elim o [ None ↦ event_of h c | Some output ↦ output.event ])
        (ap (λ (xs : List Output). output_with xs c) is ∙ output_is before output rest c (omega arith) l)

    go : (b : Bool) → EachHasOneEvent (Answer i all discarded kept ∷ h) others →
        EachHasOneEvent (Answer i all discarded kept ∷ h) (if b then and_rest output.copies others else others)
    go true ih = each-and_rest (Answer i all discarded kept ∷ h) output.copies others (λ c d lc ld. from c lc ∙ sym (from d ld)) ih
    go false ih = ih

-- what is put has one event
new_ones : (h : Record) (e : Entry) (p : Place) → IsLegal (e ∷ h) → ((q : Place) → EachHasOneEvent h (parcels_at q (stands h))) →
    EachHasOneEvent (e ∷ h) (put_at p (puts e))
new_ones h (Born i b place copies events waits stream end) p legal old = each_single (Born i b place copies events waits stream end ∷ h) p (Outputs i) copies
new_ones h (Split i ports copies event children) p legal old =
    children_one h p i ports copies event children children
    (λ c l. let f = ap (λ (x : List Child). count c (family x)) legal.0.row.split.made in
    elim (cases_lt c (next_copy h)) [
      | inl below ↦ let x = children_before c (next_copy h) (length copies) (routes h i (port_list ports)) below in absurd (omega arith)
      | inr above ↦ above
    ])
new_ones h (Push i t s copies) p legal old =
    one_put (Push i t s copies ∷ h) p (Contents t s) copies (oldest_one h copies (parcels_at (Waiting i t) (stands h)) legal.0.row.oldest (old (Waiting i t)))
new_ones h (Take i s copies) p legal old =
    one_put (Take i s copies ∷ h) p (Held i) copies (oldest_one h copies (parcels_at (Contents i s) (stands h)) legal.0.row.oldest (old (Contents i s)))
new_ones h (Answer i made discarded kept) p legal old =
    outputs_one h p i discarded kept made [] made refl
    (λ c. let r = (conserved (Answer i made discarded kept ∷ h) legal).0 c in let o = stands_once h c (Held i) (conserved h legal.1) in omega arith)
new_ones h e p legal old = tt

pub one_event : OneEvent
one_event [] p legal = tt
one_event (e ∷ h) p legal =
    subst (EachHasOneEvent (e ∷ h)) (sym (parcels_after h e p (conserved (e ∷ h) legal)))
    (each-append (e ∷ h) (shrunk (leaves (kind p) e) (parcels_at p (stands h))) (put_at p (puts e))
    (each-shrunk h e (leaves (kind p) e) (parcels_at p (stands h)) (λ c l g. keeps_event h e c p legal l g) (one_event h p legal.1))
    (new_ones h e p legal (λ q. one_event h q legal.1)))
