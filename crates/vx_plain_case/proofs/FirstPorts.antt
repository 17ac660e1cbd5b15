-- Sources and transforms that pick put out on their first port alone.
use Rattle.std.proofs.Common.{◌≡◌, ℕ, ◌+◌, ◌<◌, ◌≤◌, Bool, true, false, List, [], ◌∷◌, ◌++◌, length, inl, inr, refl, sym, ap, subst, ◌∙◌, arith, Some, None}
use Rattle.std.specs.Prelude.{◌==◌, if◌then◌else◌, nat_lt}
use Rattle.std.proofs.lemmas.Bool.{cases_lt, eqb-true}
use Rattle.std.proofs.lemmas.Bool.Decides.{nat_tests}
use Rattle.vx_value.specs.declared.event.Event.{Event}
use Rattle.vx_condition.specs.Steps.{Test, Step, comes, ticks, ends, events_of}
use Rattle.vx_plan.specs.declared.plan.Plan.{Plan}
use Rattle.vx_record.specs.declared.output.Output.{Output}
use Rattle.vx_record.specs.declared.entry.Entry.TheVariants.{Install, Born, Split, Answer, Spent}
use Rattle.vx_record.specs.Records.{Record}
use Rattle.vx_record.specs.Copies.{count, contains, joined, counting, next_copy}
use Rattle.vx_record.specs.Places.{put_out}
use Rattle.vx_record.specs.Places.Place.{Outputs, Held}
use Rattle.vx_record.specs.Lists.{shrunk}
use Rattle.vx_record.specs.Parcels.{ports_of, output_with, said_by}
use Rattle.vx_record.specs.Moving.{singles, parcels_of}
use Rattle.vx_record.specs.Inputs.{Input, to_answer}
use Rattle.vx_record.specs.Installs.{in_force}
use Rattle.vx_record.specs.Transforms.{Rule, judges, passing, PutsOut, put_on, output_by, judged, answered_events}
use Rattle.vx_record.specs.Shifts.{younger, at}
use Rattle.vx_record.specs.Legal.{IsLegal}
use Rattle.vx_record.proofs.Counts.{count-append, counting_before, unless-none, unless-some}
use Rattle.vx_record.proofs.OnePlace.{conserved}
use Rattle.vx_record.proofs.Attempted.{joined_more, joined_and_rest}
use Rattle.vx_record.proofs.Answers.{count-shrunk}
use Rattle.vx_record.proofs.Answerers.{answerer, source_untransforming}
use Rattle.vx_record.proofs.Events.{said_before}
use Rattle.vx_record.proofs.HeldCopies.{not_there}
use Rattle.vx_record.proofs.Spenders.{stands_live}
use Rattle.vx_plain_case.proofs.Ruled.{one_rule}
use Rattle.vx_plain_case.proofs.Plans.{Sends, runs_by, reads_source}
use Rattle.vx_plain_case.proofs.Standing.{IsAt, stands_there}
use Rattle.vx_plain_case.specs.Plain.{IsPicker}

-- each of some outputs is put out on the first port
abbrev pub AllFirst : List Output → Type 0
AllFirst [] = Unit {0}
AllFirst (output ∷ rest) = (output.ports ≡ 1) × AllFirst rest

-- WHAT PICKS
first-append : (xs ys : List Output) → AllFirst xs → AllFirst ys → AllFirst (xs ++ ys)
first-append [] ys a b = b
first-append (x ∷ xs) ys a b = (a.0, first-append xs ys a.1 b)

-- a step puts out on the first port
step_first : (passes : List Event → Test) (earlier : List Event) (step : Step) (copies : List ℕ) → AllFirst (output_by (passing passes) earlier step copies)
step_first passes earlier (comes e now) copies = go (passes earlier e)
  where
    go : (b : Bool) → AllFirst (put_on (if b then 0 ∷ [] else []) e copies)
    go true = (refl, tt)
    go false = tt
step_first passes earlier (ticks now) copies = tt
step_first passes earlier ends copies = tt

-- and so do some inputs
judged_first : (passes : List Event → Test) (earlier : List Event) (xs : List Input) → AllFirst (judged (passing passes) earlier xs)
judged_first passes earlier [] = tt
judged_first passes earlier (x ∷ rest) =
    first-append (output_by (passing passes) earlier x.step x.copies) (judged (passing passes) (earlier ++ events_of (x.step ∷ [])) rest)
    (step_first passes earlier x.step x.copies) (judged_first passes (earlier ++ events_of (x.step ∷ [])) rest)

-- what a transform that picks puts out
pub picked_made : (plan : Plan) (h : Record) (i : ℕ) (passes : List Event → Test) (made : List Output) (discarded kept : List ℕ) →
    IsPicker plan (record { number = i; passes = passes }) → in_force h ≡ Some plan → IsLegal (Answer i made discarded kept ∷ h) →
    made ≡ judged (passing passes) (answered_events h i) (to_answer h i)
picked_made plan h i passes made discarded kept picks force legal =
    let row = legal.0.row in
    subst (λ (rule : Rule). PutsOut rule h i made)
    (one_rule h i row.rule (judges (passing passes)) row.follows (runs_by plan h i passes picks legal.1 force)) row.made

-- who sends puts out on the first port
answer_first : (plan : Plan) (h : Record) (i : ℕ) (made : List Output) (discarded kept : List ℕ) → Sends plan i → in_force h ≡ Some plan →
    IsLegal (Answer i made discarded kept ∷ h) → AllFirst made
answer_first plan h i made discarded kept (inl reads) force legal =
    let no : true ≡ false = sym (answerer h i made discarded kept legal) ∙ source_untransforming h i (reads_source plan h i reads legal.1 force) in cc
answer_first plan h i made discarded kept (inr picks) force legal =
    subst AllFirst (sym (picked_made plan h i picks.0 made discarded kept picks.1 force legal)) (judged_first picks.0 (answered_events h i) (to_answer h i))

-- PORTS
-- a copy of such outputs is on the first port
said_first : (made : List Output) (c x : ℕ) → AllFirst made → 0 < count c (put_out made) → said_by (λ (output : Output). output.ports) made c x ≡ 1
said_first [] c x first some = absurd (omega (arith, some))
said_first (output ∷ rest) c x first some = go (contains output.copies c) refl (said_first rest c x first.1)
  where
    go : (b : Bool) → contains output.copies c ≡ b → (0 < count c (put_out rest) → said_by (λ (output : Output). output.ports) rest c x ≡ 1) →
        ◌≡◌ {A = ℕ} (elim (if b then Some output else output_with rest c) [ None ↦ x | Some output ↦ output.ports ]) 1
    go true is ih = first.0
    go false is ih =
        let none : count c output.copies ≡ 0 = grind (arith, nat_tests, is) in
        let all = count-append c output.copies (put_out rest) in
        ih (omega (arith, some, none, all))

-- a copy is on the first port
abbrev pub IsFirst : Record → ℕ → Type 0
IsFirst h c = ports_of h c ≡ 1

-- the copies of a batch are those of its parcels
count-singles : (c : ℕ) (cs : List ℕ) → count c (joined (singles cs)) ≡ count c cs
count-singles c [] = refl
count-singles c (x ∷ cs) = ap (λ n. (if x == c then 1 else 0) + n) (count-singles c cs)

-- and those that an Answer puts out are those of its parcels
count-parcels_of : (c : ℕ) (made : List Output) → count c (joined (parcels_of made)) ≡ count c (put_out made)
count-parcels_of c [] = refl
count-parcels_of c (output ∷ rest) =
    let here = joined_and_rest c output.copies (parcels_of rest) in
    let all = count-append c output.copies (put_out rest) in
    let ih = count-parcels_of c rest in
    omega (arith, here, all, ih)

-- what is among the younger parcels is among all
pub count-younger : (c : ℕ) (ps : List (List ℕ)) → 0 < count c (joined (younger ps)) → 0 < count c (joined ps)
count-younger c [] some = some
count-younger c (p ∷ ps) some = let all = count-append c p (joined ps) in omega (arith, some, all)

-- what is left was there
pub count-less : (c : ℕ) (gone : List ℕ) (ps : List (List ℕ)) → 0 < count c (joined (shrunk gone ps)) → 0 < count c (joined ps)
count-less c gone ps some =
    let now = count-shrunk c gone ps in
    elim (cases_lt 0 (count c gone)) [
      | inl gone_so ↦ let u = unless-some (count c gone) (count c (joined ps)) gone_so in absurd (omega (arith, some, now, u))
      | inr stays ↦ let u = unless-none (count c gone) (count c (joined ps)) (omega (arith, stays)) in omega (arith, some, now, u)
    ]

-- a test of numbers that holds
if_lt : (m n x y : ℕ) → m < n → (if nat_lt m n then x else y) ≡ x
if_lt m n x y l = grind (arith, nat_tests)

-- and one that doesn't
if_ge : (m n x y : ℕ) → n ≤ m → (if nat_lt m n then x else y) ≡ y
if_ge m n x y l = grind (arith, nat_tests)

-- a newborn copy is
born_first : (h : Record) (copies : List ℕ) (c : ℕ) → copies ≡ counting (next_copy h) (length copies) → 0 < count c copies →
    (if nat_lt c (next_copy h) then ports_of h c else 1) ≡ 1
born_first h copies c are some = elim (cases_lt c (next_copy h)) [
  | inl before ↦ let none = ap (count c) are ∙ counting_before c (next_copy h) (length copies) before in absurd (omega (arith, some, none))
  | inr at ↦ if_ge c (next_copy h) (ports_of h c) 1 at
]

-- what is put out was made before
made_before : (h : Record) (i c : ℕ) → IsLegal h → IsAt h (Outputs i) c → c < next_copy h
made_before h i c legal l = (stands_live h (Outputs i) c (conserved h legal) (stands_there h (Outputs i) c legal l)).0

-- what an instance put out that sends is on the first port
pub out_first : (plan : Plan) (h : Record) (i c : ℕ) → Sends plan i → IsLegal h → in_force h ≡ Some plan → IsAt h (Outputs i) c → IsFirst h c
out_first plan [] i c sends legal force some = cc
out_first plan (Install version made once instances now ∷ h) i c sends legal force some =
    let none = ap (λ (k : Record). count c (joined (at k (Outputs i)))) legal.0.row.first in absurd (omega (arith, none, some))
out_first plan (Born j b place copies events waits stream end ∷ h) i c sends legal force some = go (j == i) some (out_first plan h i c sends legal.1 force)
  where
    old : IsAt h (Outputs i) c → (IsAt h (Outputs i) c → IsFirst h c) → (if nat_lt c (next_copy h) then ports_of h c else 1) ≡ 1
    old l ih = if_lt c (next_copy h) (ports_of h c) 1 (made_before h i c legal.1 l) ∙ ih l

    go : (t : Bool) → 0 < count c (joined (if t then at h (Outputs i) ++ singles copies else at h (Outputs i))) → (IsAt h (Outputs i) c → IsFirst h c) →
        (if nat_lt c (next_copy h) then ports_of h c else 1) ≡ 1
    go true l ih = elim (cases_lt 0 (count c copies)) [
      | inl new ↦ born_first h copies c legal.0.row.next new
      | inr none ↦
          let more = joined_more c (at h (Outputs i)) (singles copies) in
          let few = count-singles c copies in
          old (omega (arith, l, none, more, few)) ih
    ]
    go false l ih = old l ih
out_first plan (Split j ports copies event children ∷ h) i c sends legal force some = go (j == i) some (out_first plan h i c sends legal.1 force)
  where
    go : (t : Bool) → 0 < count c (joined (if t then younger (at h (Outputs i)) else at h (Outputs i))) → (IsAt h (Outputs i) c → IsFirst h c) → IsFirst h c
    go true l ih = ih (count-younger c (at h (Outputs i)) l)
    go false l ih = ih l
out_first plan (Answer j made discarded kept ∷ h) i c sends legal force some = go (j == i) refl some (out_first plan h i c sends legal.1 force)
  where
    old : IsAt h (Outputs i) c → (IsAt h (Outputs i) c → IsFirst h c) → IsFirst (Answer j made discarded kept ∷ h) c
    old l ih =
        said_before (λ (output : Output). output.ports) made c (ports_of h c)
        (let none = not_there h (Outputs i) (Held j) c (conserved h legal.1) refl (stands_there h (Outputs i) c legal.1 l) in
        let few = (conserved (Answer j made discarded kept ∷ h) legal).0 c in
        omega (arith, none, few))
        ∙ ih l

    go : (t : Bool) → (j == i) ≡ t → 0 < count c (joined (if t then at h (Outputs i) ++ parcels_of made else at h (Outputs i))) →
        (IsAt h (Outputs i) c → IsFirst h c) → IsFirst (Answer j made discarded kept ∷ h) c
    go true is l ih = elim (cases_lt 0 (count c (put_out made))) [
      | inl new ↦
          said_first made c (ports_of h c)
          (answer_first plan h j made discarded kept (subst (Sends plan) (sym (eqb-true j i is)) sends) force legal) new
      | inr none ↦
          let more = joined_more c (at h (Outputs i)) (parcels_of made) in
          let few = count-parcels_of c made in
          old (omega (arith, l, none, more, few)) ih
    ]
    go false is l ih = old l ih
out_first plan (Spent j d outcome ∷ h) i c sends legal force some = go (j == i) some (out_first plan h i c sends legal.1 force)
  where
    go : (t : Bool) → 0 < count c (joined (if t then shrunk (d ∷ []) (at h (Outputs i)) else at h (Outputs i))) → (IsAt h (Outputs i) c → IsFirst h c) → IsFirst h c
    go true l ih = ih (count-less c (d ∷ []) (at h (Outputs i)) l)
    go false l ih = ih l
out_first plan (e ∷ h) i c sends legal force some = out_first plan h i c sends legal.1 force some
