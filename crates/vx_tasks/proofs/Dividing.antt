-- What is put out of some parcels, and what stays.
use Rattle.std.proofs.Common.{◌≡◌, ℕ, ◌+◌, ◌<◌, ◌≤◌, Bool, true, false, List, [], ◌∷◌, ◌++◌, length, Some, None, refl, sym, ap, ◌∙◌, arith, inl, inr}
use Rattle.std.specs.Prelude.{◌==◌, if◌then◌else◌}
use Rattle.std.proofs.lemmas.Bool.{eqb-true}
use Rattle.std.proofs.lemmas.Bool.Decides.{nat_tests}
use Rattle.vx_value.specs.declared.event.Event.{Event}
use Rattle.vx_ledger.specs.Copies.{Copy, numbers_of}
use Rattle.vx_ledger.specs.declared.parcel.Parcel.{Parcel}
use Rattle.vx_transform.specs.declared.output.Output.{Output}
use Rattle.vx_record.specs.declared.output.Output.{Output as NotedOutput}
use Rattle.vx_record.specs.declared.entry.Entry.{Entry}
use Rattle.vx_record.specs.declared.entry.Entry.TheVariants.{Answer}
use Rattle.vx_record.specs.Copies.{count, contains, joined}
use Rattle.vx_record.specs.Parcels.{event_of, output_with, said_by}
use Rattle.vx_record.specs.Places.{put_out}
use Rattle.vx_record.specs.Lists.{without, and_rest, shrunk}
use Rattle.vx_record.proofs.Counts.{count-append}
use Rattle.vx_record.proofs.Changes.{without-none, without-all}
use Rattle.vx_places.specs.Numbers.{numbers, parcels_out, AreNoted, EachFilled, IsCopyIn}
use Rattle.vx_places.specs.Holding.{IsKnown}
use Rattle.vx_places.specs.Views.{IsAmong}
use Rattle.vx_places.proofs.Ports.{and_filled}
use Rattle.vx_places.proofs.Steps.{known_later}
use Rattle.vx_tasks.specs.Judging.{put_out_on, refused_on, passed, stopped, AreDistinct}
use Rattle.vx_tasks.specs.Laws.{AnswerDivides, AnswerKnown}

-- a parcel that is put out, as an entry has it
abbrev pub noted_on : ℕ → Parcel → NotedOutput
noted_on n p = record { ports = n; copies = numbers_of p.finalizers; event = p.event }

-- and as it is
abbrev passed_on : ℕ → Parcel → Output
passed_on n p = record { ports = n; parcel = p }

noted_so : (ports : List ℕ) (parcels : List Parcel) → AreNoted (passed ports parcels) (put_out_on ports parcels)
noted_so [] parcels = tt
noted_so (n ∷ ns) [] = tt
noted_so (n ∷ ns) (p ∷ ps) = go (n == 0) (noted_so ns ps)
  where
    go : (b : Bool) → AreNoted (passed ns ps) (put_out_on ns ps) →
        AreNoted (if b then passed ns ps else passed_on n p ∷ passed ns ps)
        (if b then put_out_on ns ps else noted_on n p ∷ put_out_on ns ps)
    go true rest = rest
    go false rest = (refl, refl, rest)

refused_so : (ports : List ℕ) (parcels : List Parcel) → refused_on ports parcels ≡ joined (numbers (stopped ports parcels))
refused_so [] parcels = refl
refused_so (n ∷ ns) [] = refl
refused_so (n ∷ ns) (p ∷ ps) = go (n == 0) (refused_so ns ps)
  where
    go : (b : Bool) → refused_on ns ps ≡ joined (numbers (stopped ns ps)) →
        (if b then numbers_of p.finalizers ++ refused_on ns ps else refused_on ns ps)
        ≡ joined (numbers (if b then p ∷ stopped ns ps else stopped ns ps))
    go true rest = ap (λ (cs : List ℕ). numbers_of p.finalizers ++ cs) rest
    go false rest = rest

passed_filled : (ports : List ℕ) (parcels : List Parcel) → EachFilled parcels → EachFilled (parcels_out (passed ports parcels))
passed_filled [] parcels filled = tt
passed_filled (n ∷ ns) [] filled = tt
passed_filled (n ∷ ns) (p ∷ ps) filled = go (n == 0) (passed_filled ns ps filled.1)
  where
    go : (b : Bool) → EachFilled (parcels_out (passed ns ps)) →
        EachFilled (parcels_out (if b then passed ns ps else passed_on n p ∷ passed ns ps))
    go true rest = rest
    go false rest = (filled.0, rest)

stopped_filled : (ports : List ℕ) (parcels : List Parcel) → EachFilled parcels → EachFilled (stopped ports parcels)
stopped_filled [] parcels filled = tt
stopped_filled (n ∷ ns) [] filled = tt
stopped_filled (n ∷ ns) (p ∷ ps) filled = go (n == 0) (stopped_filled ns ps filled.1)
  where
    go : (b : Bool) → EachFilled (stopped ns ps) → EachFilled (if b then p ∷ stopped ns ps else stopped ns ps)
    go true rest = (filled.0, rest)
    go false rest = rest

-- what is put out is of these parcels
few_out : (c : ℕ) (ports : List ℕ) (parcels : List Parcel) →
    count c (put_out (put_out_on ports parcels)) ≤ count c (joined (numbers parcels))
few_out c [] parcels = omega arith
few_out c (n ∷ ns) [] = omega arith
few_out c (n ∷ ns) (p ∷ ps) = go (n == 0) (few_out c ns ps)
  where
    go : (b : Bool) → count c (put_out (put_out_on ns ps)) ≤ count c (joined (numbers ps)) →
        count c (put_out (if b then put_out_on ns ps else noted_on n p ∷ put_out_on ns ps))
        ≤ count c (numbers_of p.finalizers ++ joined (numbers ps))
    go true few = let all = count-append c (numbers_of p.finalizers) (joined (numbers ps)) in omega (arith, few, all)
    go false few =
        let all = count-append c (numbers_of p.finalizers) (joined (numbers ps)) in
        let out = count-append c (numbers_of p.finalizers) (put_out (put_out_on ns ps)) in
        omega (arith, few, all, out)

-- lists that say the same of some copies leave the same of them
without_same : (a b xs : List ℕ) → ((c : ℕ) → 0 < count c xs → count c a ≡ count c b) → without a xs ≡ without b xs
without_same a b [] same = refl
without_same a b (x ∷ xs) same =
    ap (λ (n : ℕ). if n == 0 then x ∷ without a xs else without a xs) (same x (grind (arith, nat_tests)))
    ∙ ap (λ (rest : List ℕ). if count x b == 0 then x ∷ rest else rest) (without_same a b xs (λ c l. same c (omega (arith, l))))

shrunk_same : (a b : List ℕ) (parcels : List (List ℕ)) → ((c : ℕ) → 0 < count c (joined parcels) → count c a ≡ count c b) →
    shrunk a parcels ≡ shrunk b parcels
shrunk_same a b [] same = refl
shrunk_same a b (p ∷ ps) same =
    ap (λ (cs : List ℕ). and_rest cs (shrunk a ps))
    (without_same a b p (λ c l. same c (let all = count-append c p (joined ps) in omega (arith, l, all))))
    ∙ ap (and_rest (without b p))
    (shrunk_same a b ps (λ c l. same c (let all = count-append c p (joined ps) in omega (arith, l, all))))

left_so : (ports : List ℕ) (parcels : List Parcel) → length ports ≡ length parcels → EachFilled parcels → AreDistinct parcels →
    shrunk (put_out (put_out_on ports parcels)) (numbers parcels) ≡ numbers (stopped ports parcels)
left_so [] [] long filled once = refl
left_so [] (p ∷ ps) long filled once = absurd (omega (arith, long))
left_so (n ∷ ns) [] long filled once = refl
left_so (n ∷ ns) (p ∷ ps) long filled once =
    go (n == 0)
    (left_so ns ps (omega (arith, long)) filled.1 (λ c. let all = split c in let most = once c in omega (arith, all, most)))
  where
    own : List ℕ
    own = numbers_of p.finalizers

    more : List ℕ
    more = put_out (put_out_on ns ps)

    split : (c : ℕ) → count c (joined (numbers (p ∷ ps))) ≡ count c own + count c (joined (numbers ps))
    split c = count-append c own (joined (numbers ps))

    apart : (c : ℕ) → 0 < count c own → count c more ≡ 0
    apart c l = let all = split c in let most = once c in let few = few_out c ns ps in omega (arith, l, all, most, few)

    others : (c : ℕ) → 0 < count c (joined (numbers ps)) → count c (own ++ more) ≡ count c more
    others c l = let all = split c in let most = once c in let two = count-append c own more in omega (arith, l, all, most, two)

    gone : (c : ℕ) → 0 < count c own → 0 < count c (own ++ more)
    gone c l = let two = count-append c own more in omega (arith, l, two)

    go : (b : Bool) → shrunk more (numbers ps) ≡ numbers (stopped ns ps) →
        shrunk (put_out (if b then put_out_on ns ps else noted_on n p ∷ put_out_on ns ps)) (own ∷ numbers ps)
        ≡ numbers (if b then p ∷ stopped ns ps else stopped ns ps)
    go true rest =
        ap (λ (cs : List ℕ). and_rest cs (shrunk more (numbers ps))) (without-none more own apart)
        ∙ sym (and_filled p.finalizers (shrunk more (numbers ps)) filled.0)
        ∙ ap (λ (rest : List (List ℕ)). own ∷ rest) rest
    go false rest =
        ap (λ (cs : List ℕ). and_rest cs (shrunk (own ++ more) (numbers ps))) (without-all (own ++ more) own gone)
        ∙ shrunk_same (own ++ more) more (numbers ps) others
        ∙ rest

pub answer_divides : AnswerDivides
answer_divides ports parcels long filled once = record {
  noted = noted_so ports parcels;
  left = left_so ports parcels long filled once;
  refused = refused_so ports parcels;
  filled_out = passed_filled ports parcels filled;
  filled_left = stopped_filled ports parcels filled;
}

-- THE EVENTS OF BOTH
-- a number among those of some copies is one's
numbered : (cs : List Copy) (c : ℕ) → 0 < count c (numbers_of cs) → (copy : Copy) × (IsCopyIn cs copy × (copy.number ≡ c))
numbered [] c some = absurd (omega (arith, some))
numbered (d ∷ ds) c some = go (d.number == c) refl some (numbered ds c)
  where
    go : (b : Bool) → (d.number == c) ≡ b → 0 < (if b then 1 else 0) + count c (numbers_of ds) →
        (0 < count c (numbers_of ds) → (copy : Copy) × (IsCopyIn ds copy × (copy.number ≡ c))) →
        (copy : Copy) × (IsCopyIn (d ∷ ds) copy × (copy.number ≡ c))
    go true is l rest = (d, (inl refl, eqb-true d.number c is))
    go false is l rest = let later = rest (omega (arith, l)) in (later.0, (inr later.1.0, later.1.1))

-- a copy that has its parcel's event is put out with that
said_so : (c : ℕ) (event : Event) (ports : List ℕ) (parcels : List Parcel) →
    ((other : Event) (copy : Copy) → IsAmong parcels other copy → copy.number ≡ c → event ≡ other) →
    said_by (λ (output : NotedOutput). output.event) (put_out_on ports parcels) c event ≡ event
said_so c event [] parcels same = refl
said_so c event (n ∷ ns) [] same = refl
said_so c event (n ∷ ns) (p ∷ ps) same = go (n == 0) (said_so c event ns ps (λ other copy is. same other copy (inr is)))
  where
    go : (b : Bool) → said_by (λ (output : NotedOutput). output.event) (put_out_on ns ps) c event ≡ event →
        said_by (λ (output : NotedOutput). output.event) (if b then put_out_on ns ps else noted_on n p ∷ put_out_on ns ps) c event
        ≡ event
    go true rest = rest
    go false rest = here (contains (numbers_of p.finalizers) c) refl
      where
        here : (b : Bool) → contains (numbers_of p.finalizers) c ≡ b →
            (elim (if b then Some (noted_on n p) else output_with (put_out_on ns ps) c) [ None ↦ event | Some output ↦ output.event ])
            ≡ event
        here true is =
            let one = numbered p.finalizers c (grind (arith, nat_tests, is)) in
            sym (same p.event one.0 (inl (refl, one.1.0)) one.1.1)
        here false is = rest

passed_among : (ports : List ℕ) (parcels : List Parcel) (event : Event) (copy : Copy) →
    IsAmong (parcels_out (passed ports parcels)) event copy → IsAmong parcels event copy
passed_among [] parcels event copy is = absurd is
passed_among (n ∷ ns) [] event copy is = absurd is
passed_among (n ∷ ns) (p ∷ ps) event copy is = go (n == 0) (passed_among ns ps event copy) is
  where
    go : (b : Bool) → (IsAmong (parcels_out (passed ns ps)) event copy → IsAmong ps event copy) →
        IsAmong (parcels_out (if b then passed ns ps else passed_on n p ∷ passed ns ps)) event copy → IsAmong (p ∷ ps) event copy
    go true rest more = inr (rest more)
    go false rest (inl here) = inl here
    go false rest (inr more) = inr (rest more)

stopped_among : (ports : List ℕ) (parcels : List Parcel) (event : Event) (copy : Copy) →
    IsAmong (stopped ports parcels) event copy → IsAmong parcels event copy
stopped_among [] parcels event copy is = absurd is
stopped_among (n ∷ ns) [] event copy is = absurd is
stopped_among (n ∷ ns) (p ∷ ps) event copy is = go (n == 0) (stopped_among ns ps event copy) is
  where
    go : (b : Bool) → (IsAmong (stopped ns ps) event copy → IsAmong ps event copy) →
        IsAmong (if b then p ∷ stopped ns ps else stopped ns ps) event copy → IsAmong (p ∷ ps) event copy
    go true rest (inl here) = inl here
    go true rest (inr more) = inr (rest more)
    go false rest more = inr (rest more)

pub answer_known : AnswerKnown
answer_known h i ports parcels known = (
  λ event copy is. later event copy (known event copy (passed_among ports parcels event copy is)),
  λ event copy is. later event copy (known event copy (stopped_among ports parcels event copy is)),
)
  where
    answer : Entry
    answer = Answer i (put_out_on ports parcels) (refused_on ports parcels) []

    later : (event : Event) (copy : Copy) → IsKnown h event copy → IsKnown (answer ∷ h) event copy
    later event copy is =
        known_later h answer event copy
        (said_so copy.number (event_of h copy.number) ports parcels
        (λ other twin among same. ap (event_of h) (sym same) ∙ (known other twin among).said)) is
