-- The laws of the order of values.
use Rattle.std.proofs.Common.{◌≡◌, ℕ, ◌<◌, ◌≤◌, Bool, true, false, cond, nat_lt, ◌==◌, refl, sym, ◌∙◌, ap, subst, arith, ltb-true, lt-ltb}
use Rattle.std.specs.declared.cmp.Ordering.{Ordering}
use Rattle.std.specs.declared.cmp.Ordering.TheVariants.{Less, Equal, Greater}
use Rattle.std.specs.Ordering.{ordering_then, ordering_reverse, nat_cmp, bool_cmp}
use Rattle.std.specs.Cmp.{IsTotalOrder, int_cmp_total}
use Rattle.std.specs.Cmp.Lexicographic.{nat_list_cmp_total}
use Rattle.std.specs.FinSet.{IsAntisymmetric, nat_cmp-IsAntisymmetric, int_cmp-IsAntisymmetric, slice_cmp-IsAntisymmetric}
use Rattle.vx_value.specs.Datum.{Datum, Null, Truth, Whole, Spelled, Words, Items, Fields, Data, no_data, datum, NamedData, no_named, named}
use Rattle.vx_value.specs.Orders.{kind_of, text_cmp, datum_cmp, data_cmp, named_cmp}

-- ---- one order after another
then-turned : (r s r' s' : Ordering) → r ≡ ordering_reverse r' → s ≡ ordering_reverse s' → ordering_then r s ≡ ordering_reverse (ordering_then r' s')
then-turned r s Less s' p q = ap (λ o. ordering_then o s) p
then-turned r s Equal s' p q = ap (λ o. ordering_then o s) p ∙ q
then-turned r s Greater s' p q = ap (λ o. ordering_then o s) p

then-equal : (r s : Ordering) → ordering_then r s ≡ Equal → (r ≡ Equal) × (s ≡ Equal)
then-equal Less s e = absurd (cc)
then-equal Equal s e = (refl, e)
then-equal Greater s e = absurd (cc)

module _ {K : Type 0} (R : K → K → Ordering) (x y z : K) (s t u : Ordering) where
  then-chain : (R x y ≡ Equal → x ≡ y) → (R y z ≡ Equal → y ≡ z) → (R x y ≡ Less → R y z ≡ Less → R x z ≡ Less) → (s ≡ Less → t ≡ Less → u ≡ Less)
      → ordering_then (R x y) s ≡ Less → ordering_then (R y z) t ≡ Less → ordering_then (R x z) u ≡ Less
  then-chain same same' both further = by (R x y) (R y z) refl refl
    where
      by : (p q : Ordering) → R x y ≡ p → R y z ≡ q → ordering_then p s ≡ Less → ordering_then q t ≡ Less → ordering_then (R x z) u ≡ Less
      by Less Less e f h k = ap (λ o. ordering_then o u) (both e f)
      by Less Equal e f h k = ap (λ o. ordering_then o u) (subst (λ v. R x v ≡ Less) (same' f) e)
      by Less Greater e f h k = absurd (cc)
      by Equal Less e f h k = ap (λ o. ordering_then o u) (subst (λ v. R v z ≡ Less) (sym (same e)) f)
      by Equal Equal e f h k = ap (λ o. ordering_then o u) (subst (λ v. R x v ≡ Equal) (same' f) e) ∙ further h k
      by Equal Greater e f h k = absurd (cc)
      by Greater q e f h k = absurd (cc)

-- ---- the parts
texts-same : IsAntisymmetric text_cmp
texts-same = slice_cmp-IsAntisymmetric nat_cmp-IsAntisymmetric

truths-turned : (a b : Bool) → bool_cmp a b ≡ ordering_reverse (bool_cmp b a)
truths-turned false false = refl
truths-turned false true = refl
truths-turned true false = refl
truths-turned true true = refl

truths-same : (a b : Bool) → bool_cmp a b ≡ Equal → a ≡ b
truths-same false false e = refl
truths-same false true e = cc
truths-same true false e = cc
truths-same true true e = refl

-- ---- either way round
mutual
  datum-turned : (d e : Datum) → datum_cmp d e ≡ ordering_reverse (datum_cmp e d)
  datum-turned Null Null = refl
  datum-turned (Truth a) (Truth b) = truths-turned a b
  datum-turned (Whole y) (Whole z) = int_cmp_total.antisymm y z
  datum-turned (Spelled v) (Spelled w) = nat_list_cmp_total.antisymm v w
  datum-turned (Words v) (Words w) = nat_list_cmp_total.antisymm v w
  datum-turned (Items ds) (Items es) = data-turned ds es
  datum-turned (Fields ns) (Fields ms) = named-turned ns ms
  datum-turned d e = refl

  data-turned : (ds es : Data) → data_cmp ds es ≡ ordering_reverse (data_cmp es ds)
  data-turned no_data no_data = refl
  data-turned no_data (datum e es) = refl
  data-turned (datum d ds) no_data = refl
  data-turned (datum d ds) (datum e es) = then-turned (datum_cmp d e) (data_cmp ds es) (datum_cmp e d) (data_cmp es ds) (datum-turned d e) (data-turned ds es)

  named-turned : (ns ms : NamedData) → named_cmp ns ms ≡ ordering_reverse (named_cmp ms ns)
  named-turned no_named no_named = refl
  named-turned no_named (named m e ms) = refl
  named-turned (named n d ns) no_named = refl
  named-turned (named n d ns) (named m e ms) =
      then-turned (text_cmp n m) (ordering_then (datum_cmp d e) (named_cmp ns ms)) (text_cmp m n) (ordering_then (datum_cmp e d) (named_cmp ms ns))
      (nat_list_cmp_total.antisymm n m)
      (then-turned (datum_cmp d e) (named_cmp ns ms) (datum_cmp e d) (named_cmp ms ns) (datum-turned d e) (named-turned ns ms))

-- ---- the same where neither comes first
mutual
  datum-same : (d e : Datum) → datum_cmp d e ≡ Equal → d ≡ e
  datum-same Null Null h = refl
  datum-same (Truth a) (Truth b) h = ap Truth (truths-same a b h)
  datum-same (Whole y) (Whole z) h = ap Whole (int_cmp-IsAntisymmetric y z h)
  datum-same (Spelled v) (Spelled w) h = ap Spelled (texts-same v w h)
  datum-same (Words v) (Words w) h = ap Words (texts-same v w h)
  datum-same (Items ds) (Items es) h = ap Items (data-same ds es h)
  datum-same (Fields ns) (Fields ms) h = ap Fields (named-same ns ms h)
  datum-same d e h = cc

  data-same : (ds es : Data) → data_cmp ds es ≡ Equal → ds ≡ es
  data-same no_data no_data h = refl
  data-same no_data (datum e es) h = cc
  data-same (datum d ds) no_data h = cc
  data-same (datum d ds) (datum e es) h =
      let parts = then-equal (datum_cmp d e) (data_cmp ds es) h in
      (λ i. datum (datum-same d e parts.0 i) (data-same ds es parts.1 i))

  named-same : (ns ms : NamedData) → named_cmp ns ms ≡ Equal → ns ≡ ms
  named-same no_named no_named h = refl
  named-same no_named (named m e ms) h = cc
  named-same (named n d ns) no_named h = cc
  named-same (named n d ns) (named m e ms) h =
      let parts = then-equal (text_cmp n m) (ordering_then (datum_cmp d e) (named_cmp ns ms)) h in
      let later = then-equal (datum_cmp d e) (named_cmp ns ms) parts.1 in
      (λ i. named (texts-same n m parts.0 i) (datum-same d e later.0 i) (named-same ns ms later.1 i))

-- ---- from one to the next
truths-chain : (a b c : Bool) → bool_cmp a b ≡ Less → bool_cmp b c ≡ Less → bool_cmp a c ≡ Less
truths-chain false false c h k = cc
truths-chain false true false h k = cc
truths-chain false true true h k = cc
truths-chain true false c h k = cc
truths-chain true true c h k = cc

numbers-rise : (m n : ℕ) → nat_cmp m n ≡ Less → m ≤ n
numbers-rise m n h = by (nat_lt m n) refl h
  where
    by : (t : Bool) → nat_lt m n ≡ t → cond t Less (cond (m == n) Equal Greater) ≡ Less → m ≤ n
    by true e k = let l = ltb-true m n e in omega arith
    by false e k = absurd (other (m == n) k)
      where
        other : (t : Bool) → cond t Equal Greater ≡ Less → ⊥
        other true p = cc
        other false p = cc

numbers-apart : (m n : ℕ) → m < n → nat_cmp m n ≡ Less
numbers-apart m n l = ap (λ t. cond t Less (cond (m == n) Equal Greater)) (lt-ltb m n l)

kinds-rise : (d e : Datum) → datum_cmp d e ≡ Less → kind_of d ≤ kind_of e
kinds-rise Null e h = omega arith
kinds-rise (Truth a) (Truth b) h = omega arith
kinds-rise (Whole y) (Whole z) h = omega arith
kinds-rise (Spelled v) (Spelled w) h = omega arith
kinds-rise (Words v) (Words w) h = omega arith
kinds-rise (Items ds) (Items es) h = omega arith
kinds-rise (Fields ns) (Fields ms) h = omega arith
kinds-rise d e h = numbers-rise (kind_of d) (kind_of e) h

kinds-apart : (d e : Datum) → kind_of d < kind_of e → datum_cmp d e ≡ Less
kinds-apart Null Null l = absurd (omega arith)
kinds-apart (Truth a) (Truth b) l = absurd (omega arith)
kinds-apart (Whole y) (Whole z) l = absurd (omega arith)
kinds-apart (Spelled v) (Spelled w) l = absurd (omega arith)
kinds-apart (Words v) (Words w) l = absurd (omega arith)
kinds-apart (Items ds) (Items es) l = absurd (omega arith)
kinds-apart (Fields ns) (Fields ms) l = absurd (omega arith)
kinds-apart d e l = numbers-apart (kind_of d) (kind_of e) l

mutual
  datum-chain : (d e f : Datum) → datum_cmp d e ≡ Less → datum_cmp e f ≡ Less → datum_cmp d f ≡ Less
  datum-chain Null Null f h k = absurd (cc)
  datum-chain (Truth a) (Truth b) (Truth c) h k = truths-chain a b c h k
  datum-chain (Whole x) (Whole y) (Whole z) h k = int_cmp_total.trans x y z h k
  datum-chain (Spelled u) (Spelled v) (Spelled w) h k = nat_list_cmp_total.trans u v w h k
  datum-chain (Words u) (Words v) (Words w) h k = nat_list_cmp_total.trans u v w h k
  datum-chain (Items ds) (Items es) (Items fs) h k = data-chain ds es fs h k
  datum-chain (Fields ns) (Fields ms) (Fields ls) h k = named-chain ns ms ls h k
  datum-chain d e f h k = kinds-apart d f (omega (arith, kinds-rise d e h, kinds-rise e f k))

  data-chain : (ds es fs : Data) → data_cmp ds es ≡ Less → data_cmp es fs ≡ Less → data_cmp ds fs ≡ Less
  data-chain no_data no_data fs h k = cc
  data-chain no_data (datum e es) no_data h k = cc
  data-chain no_data (datum e es) (datum f fs) h k = refl
  data-chain (datum d ds) no_data fs h k = cc
  data-chain (datum d ds) (datum e es) no_data h k = cc
  data-chain (datum d ds) (datum e es) (datum f fs) h k =
      then-chain datum_cmp d e f (data_cmp ds es) (data_cmp es fs) (data_cmp ds fs) (datum-same d e) (datum-same e f)
      (datum-chain d e f) (data-chain ds es fs) h k

  named-chain : (ns ms ls : NamedData) → named_cmp ns ms ≡ Less → named_cmp ms ls ≡ Less → named_cmp ns ls ≡ Less
  named-chain no_named no_named ls h k = cc
  named-chain no_named (named m e ms) no_named h k = cc
  named-chain no_named (named m e ms) (named l f ls) h k = refl
  named-chain (named n d ns) no_named ls h k = cc
  named-chain (named n d ns) (named m e ms) no_named h k = cc
  named-chain (named n d ns) (named m e ms) (named l f ls) h k =
      then-chain text_cmp n m l (ordering_then (datum_cmp d e) (named_cmp ns ms)) (ordering_then (datum_cmp e f) (named_cmp ms ls))
      (ordering_then (datum_cmp d f) (named_cmp ns ls)) (texts-same n m) (texts-same m l) (nat_list_cmp_total.trans n m l)
      (then-chain datum_cmp d e f (named_cmp ns ms) (named_cmp ms ls) (named_cmp ns ls) (datum-same d e) (datum-same e f)
      (datum-chain d e f) (named-chain ns ms ls))
      h k

-- ---- the laws
pub datum_cmp-IsTotalOrder : IsTotalOrder datum_cmp
datum_cmp-IsTotalOrder = record {
  antisymm = datum-turned;
  trans = datum-chain;
  congr = λ d e f h. ap (λ x. datum_cmp x f) (datum-same d e h);
}

pub datum_cmp-IsAntisymmetric : IsAntisymmetric datum_cmp
datum_cmp-IsAntisymmetric = datum-same

pub named_cmp-IsTotalOrder : IsTotalOrder named_cmp
named_cmp-IsTotalOrder = record {
  antisymm = named-turned;
  trans = named-chain;
  congr = λ d e f h. ap (λ x. named_cmp x f) (named-same d e h);
}

pub named_cmp-IsAntisymmetric : IsAntisymmetric named_cmp
named_cmp-IsAntisymmetric = named-same

own-turn : (o : Ordering) → o ≡ ordering_reverse o → o ≡ Equal
own-turn Less e = cc
own-turn Equal e = refl
own-turn Greater e = cc

pub datum_cmp-itself : (d : Datum) → datum_cmp d d ≡ Equal
datum_cmp-itself d = own-turn (datum_cmp d d) (datum-turned d d)

pub named_cmp-itself : (ns : NamedData) → named_cmp ns ns ≡ Equal
named_cmp-itself ns = own-turn (named_cmp ns ns) (named-turned ns ns)
