-- What an instance of a chain put out its reader took, in order, or it stands between them.
use Rattle.std.proofs.Common.{◌≡◌, ℕ, Bool, true, false, List, [], ◌∷◌, ◌++◌, map, length, refl, sym, ap, subst, ◌∙◌, arith}
use Rattle.std.specs.Prelude.{◌==◌, ◌&&◌, if◌then◌else◌, nat_lt}
use Rattle.std.proofs.lemmas.Bool.{eqb-true, eq-eqb}
use Rattle.std.proofs.lemmas.Bool.Decides.{nat_tests}
use Rattle.std.proofs.lemmas.List.{append-nil, map-append}
use Rattle.vx_value.specs.declared.event.Event.{Event}
use Rattle.vx_plan.specs.declared.plan.Plan.{Plan}
use Rattle.vx_record.specs.declared.child.Child.{Child}
use Rattle.vx_record.specs.declared.output.Output.{Output}
use Rattle.vx_record.specs.declared.entry.Entry.{Entry}
use Rattle.vx_record.specs.declared.entry.Entry.TheVariants.{Install, Born, Split, Push, Take, Answer, Spent, Abandon}
use Rattle.vx_status.specs.declared.outcome.Outcome.{Outcome}
use Rattle.vx_record.specs.Records.{Record}
use Rattle.vx_record.specs.Copies.{counting, next_copy}
use Rattle.vx_record.specs.Places.Place.{Outputs, Waiting, Contents}
use Rattle.vx_record.specs.Lists.{and_rest, parcels_at, stands}
use Rattle.vx_record.specs.Parcels.{event_of, first_copy, parcel_event}
use Rattle.vx_record.specs.Moving.{singles, parcels_of, children_for}
use Rattle.vx_record.specs.Sending.{IsOldest, MaySplit, MayPush}
use Rattle.vx_record.specs.Sinking.{MayTake}
use Rattle.vx_record.specs.Shifts.{younger, at}
use Rattle.vx_record.specs.Legal.{IsLegal}
use Rattle.vx_record.proofs.Changes.{NoneEmpty}
use Rattle.vx_record.proofs.Shifting.{stands_at}
use Rattle.vx_plain_case.specs.Plain.{Feeds}
use Rattle.vx_plain_case.proofs.Plans.{Run, Sends, Buffers, enters_first, taken_first}
use Rattle.vx_plain_case.proofs.Standing.{events_at, full_at, event_stays, events_stay}
use Rattle.vx_plain_case.proofs.Flows.{output_events, put_events, took_events, born_events, answer_events}
use Rattle.vx_plain_case.proofs.Rows.{stay, grow, divide, enter, leave}
use Rattle.vx_plain_case.proofs.Spends.{first_stands, spent_outputs, spent_waiting, spent_contents}
use Rattle.vx_plain_case.proofs.Splits.{split_one, waits_elsewhere}

-- what an instance put out: first what its reader took, then what stands in the reader's buffer, what waits for it, and what is put out still
abbrev pub Carried : Record → ℕ → ℕ → Type 0
Carried h i t = put_events h i ≡ took_events h t ++ (events_at h (Contents t 0) ++ (events_at h (Waiting i t) ++ events_at h (Outputs i)))

-- ONE MORE ENTRY
-- the events of an oldest parcel and of the others
oldest_event : (h : Record) (copies : List ℕ) (ps : List (List ℕ)) → IsOldest copies ps → map (parcel_event h) ps ≡ parcel_event h copies ∷ map (parcel_event h) (younger ps)
oldest_event h copies [] old = absurd old
oldest_event h copies (p ∷ ps) old = ap (λ (cs : List ℕ). parcel_event h cs ∷ map (parcel_event h) ps) (sym old)

-- what is the oldest that stands is the oldest there
oldest_at : (h : Record) (copies : List ℕ) (p : _) → IsLegal h → IsOldest copies (parcels_at p (stands h)) → IsOldest copies (at h p)
oldest_at h copies p legal old = subst (IsOldest copies) (stands_at h p legal) old

-- a birth puts its events behind the others
on_born : (h : Record) (i t j b place : ℕ) (copies : List ℕ) (events : List Event) (waits : Bool) (stream end : ℕ) →
    IsLegal (Born j b place copies events waits stream end ∷ h) → Carried h i t → Carried (Born j b place copies events waits stream end ∷ h) i t
on_born h i t j b place copies events waits stream end legal was = go (j == i)
  where
    e : Entry
    e = Born j b place copies events waits stream end

    go : (d : Bool) → put_events h i ++ (if d then events else [])
        ≡ took_events h t ++ (map (parcel_event (e ∷ h)) (at h (Contents t 0)) ++ (map (parcel_event (e ∷ h)) (at h (Waiting i t))
        ++ map (parcel_event (e ∷ h)) (if d then at h (Outputs i) ++ singles copies else at h (Outputs i))))
    go true =
        grow _ _ _ _ _ _ _ _ events was (events_stay h e (Contents t 0) legal tt) (events_stay h e (Waiting i t) legal tt)
        (map-append (parcel_event (e ∷ h)) (at h (Outputs i)) (singles copies)
        ∙ ap (λ es. es ++ map (parcel_event (e ∷ h)) (singles copies)) (events_stay h e (Outputs i) legal tt)
        ∙ ap (λ es. events_at h (Outputs i) ++ es) (born_events h j b place copies events waits stream end legal.0.row.next legal.0.row.one_each))
    go false =
        append-nil (put_events h i)
        ∙ stay _ _ _ _ _ _ _ _ was (events_stay h e (Contents t 0) legal tt) (events_stay h e (Waiting i t) legal tt) (events_stay h e (Outputs i) legal tt)

-- and so does an Answer
on_answer : (h : Record) (i t j : ℕ) (made : List Output) (discarded kept : List ℕ) → IsLegal (Answer j made discarded kept ∷ h) → Carried h i t →
    Carried (Answer j made discarded kept ∷ h) i t
on_answer h i t j made discarded kept legal was = go (j == i)
  where
    e : Entry
    e = Answer j made discarded kept

    go : (d : Bool) → put_events h i ++ (if d then output_events made else [])
        ≡ took_events h t ++ (map (parcel_event (e ∷ h)) (at h (Contents t 0)) ++ (map (parcel_event (e ∷ h)) (at h (Waiting i t))
        ++ map (parcel_event (e ∷ h)) (if d then at h (Outputs i) ++ parcels_of made else at h (Outputs i))))
    go true =
        grow _ _ _ _ _ _ _ _ (output_events made) was (events_stay h e (Contents t 0) legal refl) (events_stay h e (Waiting i t) legal refl)
        (map-append (parcel_event (e ∷ h)) (at h (Outputs i)) (parcels_of made)
        ∙ ap (λ es. es ++ map (parcel_event (e ∷ h)) (parcels_of made)) (events_stay h e (Outputs i) legal refl)
        ∙ ap (λ es. events_at h (Outputs i) ++ es) (answer_events h j made discarded kept legal))
    go false =
        append-nil (put_events h i)
        ∙ stay _ _ _ _ _ _ _ _ was (events_stay h e (Contents t 0) legal refl) (events_stay h e (Waiting i t) legal refl) (events_stay h e (Outputs i) legal refl)

-- the event of a child is that of the Split
child_event : (h : Record) (i ports : ℕ) (event : Event) (cs : List ℕ) (children : List Child) (copies : List ℕ) → IsOldest copies (cs ∷ []) → NoneEmpty (cs ∷ []) →
    map (parcel_event (Split i ports copies event children ∷ h)) (and_rest (counting (next_copy h) (length copies)) []) ≡ event ∷ []
child_event h i ports event [] children copies old full = absurd full
child_event h i ports event (c ∷ cs) children copies old full =
    ap (λ (n : List ℕ). map (parcel_event (Split i ports copies event children ∷ h)) (and_rest (counting (next_copy h) (length n)) [])) old
    ∙ ap (λ (b : Bool). (if b then event_of h (next_copy h) else event) ∷ []) (itself (next_copy h))
  where
    itself : (n : ℕ) → nat_lt n n ≡ false
    itself n = grind (arith, nat_tests)

-- the oldest of parcels that aren't empty isn't
full_oldest : (copies : List ℕ) (ps : List (List ℕ)) → IsOldest copies ps → NoneEmpty ps → NoneEmpty (copies ∷ [])
full_oldest copies [] old full = absurd old
full_oldest copies ([] ∷ ps) old full = absurd full
full_oldest copies ((c ∷ cs) ∷ ps) old full = subst (λ (xs : List ℕ). NoneEmpty (xs ∷ [])) (sym old) tt

-- a Split moves the oldest output to what waits
on_split : (plan : Plan) (h : Record) (i t j ports : ℕ) (copies : List ℕ) (event : Event) (children : List Child) → Sends plan i → Feeds plan i t → Run plan h →
    IsLegal (Split j ports copies event children ∷ h) → Carried h i t → Carried (Split j ports copies event children ∷ h) i t
on_split plan h i t j ports copies event children sends feeds run legal was = go (j == i) refl
  where
    e : Entry
    e = Split j ports copies event children

    go : (d : Bool) → (j == i) ≡ d → put_events h i
        ≡ took_events h t ++ (map (parcel_event (e ∷ h)) (at h (Contents t 0))
        ++ (map (parcel_event (e ∷ h)) (if d then at h (Waiting i t) ++ children_for t children else at h (Waiting i t))
        ++ map (parcel_event (e ∷ h)) (if d then younger (at h (Outputs i)) else at h (Outputs i))))
    go true is =
        divide _ _ _ _ _ _ _ _ event was (events_stay h e (Contents t 0) legal tt)
        (map-append (parcel_event (e ∷ h)) (at h (Waiting i t)) (children_for t children)
        ∙ ap (λ es. es ++ map (parcel_event (e ∷ h)) (children_for t children)) (events_stay h e (Waiting i t) legal tt)
        ∙ ap (λ es. events_at h (Waiting i t) ++ es) one)
        (sym (events_stay h e (Outputs i) legal tt) ∙ oldest_event (e ∷ h) copies (at h (Outputs i)) old
        ∙ ap (λ (x : Event). x ∷ map (parcel_event (e ∷ h)) (younger (at h (Outputs i)))) said)
      where
        old : IsOldest copies (at h (Outputs i))
        old = oldest_at h copies (Outputs i) run.legal (subst (λ (k : ℕ). IsOldest copies (parcels_at (Outputs k) (stands h))) (eqb-true j i is) legal.0.row.split.oldest)

        one : map (parcel_event (e ∷ h)) (children_for t children) ≡ event ∷ []
        one =
            ap (λ (cs : List Child). map (parcel_event (e ∷ h)) (children_for t cs))
            (split_one plan h i t ports copies event children sends feeds run.legal run.installed
            (subst (λ (k : ℕ). MaySplit h k ports copies event children) (eqb-true j i is) legal.0.row))
            ∙ ap (λ (b : Bool). map (parcel_event (e ∷ h)) (if b then and_rest (counting (next_copy h) (length copies)) [] else [])) (eq-eqb t t refl)
            ∙ child_event h j ports event copies children copies refl (full_oldest copies (at h (Outputs i)) old (full_at h (Outputs i) run.legal))

        said : parcel_event (e ∷ h) copies ≡ event
        said =
            event_stays h e (Outputs i) (first_copy copies) legal tt (first_stands copies (at h (Outputs i)) old (full_at h (Outputs i) run.legal))
            ∙ sym legal.0.row.split.same_event
    go false is =
        stay _ _ _ _ _ _ _ _ was (events_stay h e (Contents t 0) legal tt) (events_stay h e (Waiting i t) legal tt) (events_stay h e (Outputs i) legal tt)

-- what is pushed to the reader waited here
pushed_here : (plan : Plan) (h : Record) (i t k s : ℕ) (copies : List ℕ) → Feeds plan i t → Run plan h → MayPush h k t s copies → k ≡ i
pushed_here plan h i t k s copies feeds run may = go (k == i) refl
  where
    go : (b : Bool) → (k == i) ≡ b → k ≡ i
    go true is = eqb-true k i is
    go false is =
        absurd (subst (IsOldest copies) (waits_elsewhere plan h i t k feeds is run.legal run.installed)
        (oldest_at h copies (Waiting k t) run.legal may.oldest))

-- a Push moves what waited longest to the buffer
on_push : (plan : Plan) (h : Record) (i t k u s : ℕ) (copies : List ℕ) → Feeds plan i t → Buffers plan t → Run plan h →
    IsLegal (Push k u s copies ∷ h) → Carried h i t → Carried (Push k u s copies ∷ h) i t
on_push plan h i t k u s copies feeds buffers run legal was = go (u == t) refl
  where
    waits : Bool → Bool → List Event
    waits a b = map (parcel_event h) (if a && b then younger (at h (Waiting i t)) else at h (Waiting i t))

    fills : Bool → Bool → List Event
    fills a b = map (parcel_event h) (if a && b then at h (Contents t 0) ++ copies ∷ [] else at h (Contents t 0))

    never : (a : Bool) → waits a false ≡ events_at h (Waiting i t)
    never true = refl
    never false = refl

    go : (b : Bool) → (u == t) ≡ b → put_events h i ≡ took_events h t ++ (fills b (s == 0) ++ (waits (k == i) b ++ events_at h (Outputs i)))
    go true is =
        let may : MayPush h k t s copies = subst (λ (n : ℕ). MayPush h k n s copies) (eqb-true u t is) legal.0.row in
        let from : k ≡ i = pushed_here plan h i t k s copies feeds run may in
        let first : s ≡ 0 = enters_first plan h t s buffers run.legal run.installed may.room in
        let old : IsOldest copies (at h (Waiting i t)) =
        oldest_at h copies (Waiting i t) run.legal (subst (λ (n : ℕ). IsOldest copies (parcels_at (Waiting n t) (stands h))) from may.oldest) in
        enter _ _ _ _ _ _ _ _ (parcel_event h copies) was
        (ap (fills true) (eq-eqb s 0 first) ∙ map-append (parcel_event h) (at h (Contents t 0)) (copies ∷ []))
        (oldest_event h copies (at h (Waiting i t)) old
        ∙ ap (λ es. parcel_event h copies ∷ es) (sym (ap (λ (b : Bool). waits b true) (eq-eqb k i from))))
        refl
    go false is = stay _ _ _ _ _ _ _ _ was refl (never (k == i)) refl

-- a Take moves the oldest in the buffer to what was taken
on_take : (plan : Plan) (h : Record) (i t k s : ℕ) (copies : List ℕ) → Buffers plan t → Run plan h →
    IsLegal (Take k s copies ∷ h) → Carried h i t → Carried (Take k s copies ∷ h) i t
on_take plan h i t k s copies buffers run legal was = go (k == t) refl
  where
    fills : Bool → Bool → List Event
    fills a b = map (parcel_event h) (if a && b then younger (at h (Contents t 0)) else at h (Contents t 0))

    go : (b : Bool) → (k == t) ≡ b → put_events h i
        ≡ (took_events h t ++ (if b then parcel_event h copies ∷ [] else [])) ++ (fills b (s == 0) ++ (events_at h (Waiting i t) ++ events_at h (Outputs i)))
    go true is =
        let may : MayTake h t s copies = subst (λ (n : ℕ). MayTake h n s copies) (eqb-true k t is) legal.0.row in
        let first : s ≡ 0 = taken_first plan h t s buffers run.legal run.installed may.first in
        let old : IsOldest copies (at h (Contents t 0)) =
        oldest_at h copies (Contents t 0) run.legal (subst (λ (n : ℕ). IsOldest copies (parcels_at (Contents t n) (stands h))) first may.oldest) in
        leave (put_events h i) (took_events h t) (events_at h (Contents t 0)) (fills true (s == 0)) (events_at h (Waiting i t)) (events_at h (Waiting i t))
        (events_at h (Outputs i)) (events_at h (Outputs i)) (parcel_event h copies) was
        (oldest_event h copies (at h (Contents t 0)) old
        ∙ ap (λ es. parcel_event h copies ∷ es) (sym (ap (fills true) (eq-eqb s 0 first))))
        refl refl
    go false is =
        was ∙ ap (λ es. es ++ (events_at h (Contents t 0) ++ (events_at h (Waiting i t) ++ events_at h (Outputs i)))) (sym (append-nil (took_events h t)))

-- a Spent moves nothing
on_spent : (plan : Plan) (h : Record) (i t j c : ℕ) (outcome : Outcome) → Sends plan i → Feeds plan i t → Buffers plan t → Run plan h →
    IsLegal (Spent j c outcome ∷ h) → Carried h i t → Carried (Spent j c outcome ∷ h) i t
on_spent plan h i t j c outcome sends feeds buffers run legal was =
    stay _ _ _ _ _ _ _ _ was
    (ap (λ (ps : List (List ℕ)). map (parcel_event h) ps) (spent_contents plan h t 0 j c outcome run legal.0.row))
    (ap (λ (ps : List (List ℕ)). map (parcel_event h) ps) (spent_waiting plan h i t j c outcome buffers run legal.0.row))
    (ap (λ (ps : List (List ℕ)). map (parcel_event h) ps) (spent_outputs plan h i t j c outcome sends feeds run legal.0.row))

-- so it is in each run of the plan
pub carried : (plan : Plan) (h : Record) (i t : ℕ) → Sends plan i → Feeds plan i t → Buffers plan t → Run plan h → Carried h i t
carried plan [] i t sends feeds buffers run = refl
carried plan (Install version made once instances now ∷ h) i t sends feeds buffers run =
    subst (λ (k : Record). Carried (Install version made once instances now ∷ k) i t) (sym run.legal.0.row.first) refl
carried plan (Born j b place copies events waits stream end ∷ h) i t sends feeds buffers run =
    on_born h i t j b place copies events waits stream end run.legal
    (carried plan h i t sends feeds buffers (record { legal = run.legal.1; installed = run.installed; whole = run.whole }))
carried plan (Split j ports copies event children ∷ h) i t sends feeds buffers run =
    let before : Run plan h = record { legal = run.legal.1; installed = run.installed; whole = run.whole } in
    on_split plan h i t j ports copies event children sends feeds before run.legal (carried plan h i t sends feeds buffers before)
carried plan (Push k u s copies ∷ h) i t sends feeds buffers run =
    let before : Run plan h = record { legal = run.legal.1; installed = run.installed; whole = run.whole } in
    on_push plan h i t k u s copies feeds buffers before run.legal (carried plan h i t sends feeds buffers before)
carried plan (Take k s copies ∷ h) i t sends feeds buffers run =
    let before : Run plan h = record { legal = run.legal.1; installed = run.installed; whole = run.whole } in
    on_take plan h i t k s copies buffers before run.legal (carried plan h i t sends feeds buffers before)
carried plan (Answer j made discarded kept ∷ h) i t sends feeds buffers run =
    on_answer h i t j made discarded kept run.legal
    (carried plan h i t sends feeds buffers (record { legal = run.legal.1; installed = run.installed; whole = run.whole }))
carried plan (Spent j c outcome ∷ h) i t sends feeds buffers run =
    let before : Run plan h = record { legal = run.legal.1; installed = run.installed; whole = run.whole } in
    on_spent plan h i t j c outcome sends feeds buffers before run.legal (carried plan h i t sends feeds buffers before)
carried plan (Abandon cause ∷ h) i t sends feeds buffers run = let no : true ≡ false = run.whole in cc
carried plan (e ∷ h) i t sends feeds buffers run =
    carried plan h i t sends feeds buffers (record { legal = run.legal.1; installed = run.installed; whole = run.whole })
