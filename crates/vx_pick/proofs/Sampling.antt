-- What a sampler counts, and what it says of an event.
use Rattle.std.proofs.Common.{◌≡◌, ℕ, ◌+◌, ◌<◌, ◌^◌, Bool, true, false, not, cond, List, [], ◌∷◌, ◌++◌, Option, Some, None, sym, ◌∙◌, ap, subst, arith}
use Rattle.std.specs.Prelude.{◌||◌, ◌==◌, ◌%◌, count_by, if◌then◌else◌}
use Rattle.std.proofs.lemmas.List.Sums.{sum_by_push}
use Rattle.vx_value.specs.Texts.{ByteString}
use Rattle.vx_value.specs.declared.event.Event.{Event}
use Rattle.vx_condition.specs.Conditions.{Says}
use Rattle.vx_condition.specs.Steps.{Test}
use Rattle.vx_condition.specs.Picking.{held, sample_passes}
use Rattle.vx_plan.specs.Options.{if_any}
use Rattle.vx_record.specs.Transforms.{AllMean, test_of, passing, port_bits}
use Rattle.vx_pick.specs.Picks.{AreMeant}
use Rattle.vx_pick.specs.Samplers.{Sampler, HasCounted}
use Rattle.vx_pick.proofs.Saying.{one_answer, bit_of, meant_by}

-- the bits of an event that is excluded, or isn't
pub sampled_bits : (s : Sampler) (tests : List Test) (earlier : List Event) (e : Event) (excluded : Bool) →
    AllMean (if_any s.exclude) tests → HasCounted s earlier → excluded ≡ test_of s.exclude tests e →
    (if excluded || (s.counted % s.rate == 0) then 1 else 0) ≡ port_bits (passing (sample_passes s.rate (test_of s.exclude tests)) earlier e)
sampled_bits s tests earlier e excluded mean counted is =
    (λ i. if is i || (counted tests mean i % s.rate == 0) then 1 else 0) ∙ bit_of (sample_passes s.rate (test_of s.exclude tests) earlier e)

-- and the ports
pub sampled_ports : (s : Sampler) (tests : List Test) (earlier : List Event) (e : Event) (excluded : Bool) →
    AllMean (if_any s.exclude) tests → HasCounted s earlier → excluded ≡ test_of s.exclude tests e →
    (if excluded || (s.counted % s.rate == 0) then 0 ∷ [] else []) ≡ passing (sample_passes s.rate (test_of s.exclude tests)) earlier e
sampled_ports s tests earlier e excluded mean counted is =
    λ i. if is i || (counted tests mean i % s.rate == 0) then 0 ∷ [] else []

one_more : (n m : ℕ) (excluded : Bool) → m ≡ held n → (if excluded then m else held (m + 1)) ≡ held (n + cond (not excluded) 1 0)
one_more n m true is = is ∙ ap held (omega arith)
one_more n m false is = omega (arith, is)

-- once one more event came, what is counted is what that says
pub counted_more : (old new : Sampler) (earlier : List Event) (e : Event) (excluded : Bool) → new.exclude ≡ old.exclude →
    ((tests : List Test) → AllMean (if_any old.exclude) tests → excluded ≡ test_of old.exclude tests e) →
    new.counted ≡ (if excluded then old.counted else held (old.counted + 1)) → HasCounted old earlier → HasCounted new (earlier ++ e ∷ [])
counted_more old new earlier e excluded same is counts counted tests mean =
    subst (λ (x : Option ByteString). new.counted ≡ held (count_by (λ f. not (test_of x tests f)) (earlier ++ e ∷ []))) (sym same) here
  where
    meant : AllMean (if_any old.exclude) tests
    meant = subst (λ (x : Option ByteString). AllMean (if_any x) tests) same mean

    here : new.counted ≡ held (count_by (λ f. not (test_of old.exclude tests f)) (earlier ++ e ∷ []))
    here =
        counts ∙ one_more (count_by (λ f. not (test_of old.exclude tests f)) earlier) old.counted excluded (counted tests meant)
        ∙ ap (λ (b : Bool). held (count_by (λ f. not (test_of old.exclude tests f)) earlier + cond (not b) 1 0)) (is tests meant)
        ∙ ap held (sym (sum_by_push (λ f. cond (not (test_of old.exclude tests f)) 1 0) earlier e))

-- what a condition says of an event is what a test says that it means
pub excluded_by : (exclude : Option ByteString) (text : ByteString) (e : Event) (holds : Bool) → exclude ≡ Some text → Says text e.fields holds →
    (tests : List Test) → AllMean (if_any exclude) tests → holds ≡ test_of exclude tests e
excluded_by exclude text e holds is says tests mean =
    subst (λ (x : Option ByteString). holds ≡ test_of x tests e) (sym is) (go tests (subst (λ (x : Option ByteString). AllMean (if_any x) tests) is mean))
  where
    go : (tests : List Test) → AllMean (text ∷ []) tests → holds ≡ test_of (Some text) tests e
    go [] m = absurd m
    go (test ∷ rest) m = one_answer text e.fields holds (test e) says (m.0 e)

-- and it means something
pub excluded_meant : (exclude : Option ByteString) (text : ByteString) (e : Event) (holds : Bool) → exclude ≡ Some text → Says text e.fields holds →
    AreMeant (if_any exclude)
excluded_meant exclude text e holds is says =
    let here = meant_by text e.fields holds says in
    subst (λ (x : Option ByteString). AreMeant (if_any x)) (sym is) (here.0 ∷ [], (here.1, tt))

-- without a condition nothing is excluded
pub none_excluded : (exclude : Option ByteString) (e : Event) → exclude ≡ None → (tests : List Test) → false ≡ test_of exclude tests e
none_excluded exclude e is tests = ap (λ (x : Option ByteString). test_of x tests e) (sym is)

pub none_meant : (exclude : Option ByteString) → exclude ≡ None → AreMeant (if_any exclude)
none_meant exclude is = subst (λ (x : Option ByteString). AreMeant (if_any x)) (sym is) ([], tt)

-- the bits are those of one port
pub bit_below : (passes : Bool) (ports : ℕ) → ports ≡ (if passes then 1 else 0) → ports < 2 ^ 1
bit_below true ports is = omega (arith, is)
bit_below false ports is = omega (arith, is)
