-- The bits of the ports whose conditions accept, port by port.
use Rattle.std.proofs.Common.{◌≡◌, inl, inr, subst, ℕ, suc, ◌+◌, ◌<◌, ◌^◌, Bool, true, false, List, [], ◌∷◌, ◌++◌, length, drop, refl, sym, ap, ◌∙◌, arith}
use Rattle.std.specs.Prelude.{slice_index_or, if◌then◌else◌}
use Rattle.std.proofs.lemmas.Bool.{cases_eq}
use Rattle.std.proofs.lemmas.Bool.Decides.{nat_tests}
use Rattle.std.proofs.Math.ListN.{drop_of_length-le}
use Rattle.std.proofs.Math.Nat.{two-pow-succ}
use Rattle.std.proofs.lemmas.Nat.{pow_pos}
use Rattle.vx_value.specs.Texts.{ByteString}
use Rattle.vx_value.specs.declared.event.Event.{Event}
use Rattle.vx_condition.specs.Conditions.{Says}
use Rattle.vx_condition.specs.Steps.{Test}
use Rattle.vx_condition.specs.Picking.{accepting_ports, or_unmatched, route_ports}
use Rattle.vx_record.specs.Transforms.{AllMean, port_bits}
use Rattle.vx_pick.proofs.Saying.{IsMeant, all_meant, meant_by, one_answer, one_there, tested, length-tests}

-- each bit is twice the one before
pub next_bit : (n : ℕ) → 2 ^ (n + 1) ≡ 2 ^ n + 2 ^ n
next_bit n = let one : n + 1 ≡ suc n = omega arith in ap (λ (k : ℕ). 2 ^ k) one ∙ two-pow-succ n

-- the bits of the ports before one are those of all but the others, whatever the conditions mean
pub record IsSoFar (texts : List ByteString) (e : Event) (i accepting : ℕ) : Type 0 where
  pub bits : (tests : List Test) → AllMean texts tests →
      accepting + port_bits (accepting_ports i (drop i tests) e) ≡ port_bits (accepting_ports 0 tests e)
  pub meant : (k : ℕ) → k < i → (text : ByteString) → text ≡ slice_index_or texts k text → IsMeant text

port_bits-part : (b : Bool) (i : ℕ) (ports : List ℕ) →
    port_bits ((if b then i ∷ [] else []) ++ ports) ≡ (if b then 2 ^ i else 0) + port_bits ports
port_bits-part true i ports = refl
port_bits-part false i ports = omega arith

port_bits-next : (b : Bool) (i : ℕ) (test : Test) (tests : List Test) (e : Event) → b ≡ test e →
    port_bits (accepting_ports i (test ∷ tests) e) ≡ (if b then 2 ^ i else 0) + port_bits (accepting_ports (i + 1) tests e)
port_bits-next b i test tests e same =
    ap (λ (c : Bool). port_bits ((if c then i ∷ [] else []) ++ accepting_ports (i + 1) tests e)) (sym same)
    ∙ port_bits-part b i (accepting_ports (i + 1) tests e)

together : (a p q r s all : ℕ) → a + p ≡ all → p ≡ q + r → r ≡ s → a + (q + s) ≡ all
together a p q r s all x y z = omega arith

moved_on : (b : Bool) (accepting next power rest all : ℕ) → next ≡ (if b then accepting + power else accepting) →
    accepting + ((if b then power else 0) + rest) ≡ all → next + rest ≡ all
moved_on true accepting next power rest all e f = omega arith
moved_on false accepting next power rest all e f = omega arith

-- the next port's bit comes in where its condition holds
pub so_far-more : (texts : List ByteString) (e : Event) (i accepting next : ℕ) (text : ByteString) (holds : Bool) →
    IsSoFar texts e i accepting → i < length texts → text ≡ slice_index_or texts i text → Says text e.fields holds →
    next ≡ (if holds then accepting + 2 ^ i else accepting) → IsSoFar texts e (i + 1) next
so_far-more texts e i accepting next text holds so below is says more = record {
  bits = λ tests mean.
      let here = tested texts tests i text mean below is in
      let same = one_answer text e.fields holds (here.test e) says (here.means e) in
      let one : suc i ≡ i + 1 = omega arith in
      let split = ap (λ (ts : List Test). port_bits (accepting_ports i ts e)) here.stands
      ∙ port_bits-next holds i here.test (drop (suc i) tests) e same in
      let behind = ap (λ (n : ℕ). port_bits (accepting_ports (i + 1) (drop n tests) e)) one in
      moved_on holds accepting next (2 ^ i) (port_bits (accepting_ports (i + 1) (drop (i + 1) tests) e))
      (port_bits (accepting_ports 0 tests e)) more (together _ _ _ _ _ _ (so.bits tests mean) split behind);
  meant = λ k before word there. elim (cases_eq k i) [
    | inl same ↦ meant_by word e.fields holds (subst (λ (w : ByteString). Says w e.fields holds) (one_there texts i text word below is (subst (λ (n : ℕ). word ≡ slice_index_or texts n word) same there)) says)
    | inr other ↦ so.meant k (grind (arith, nat_tests, other, before)) word there
  ];
}

-- behind all conditions the bits are whole
pub so_far-all : (texts : List ByteString) (e : Event) (n accepting : ℕ) → IsSoFar texts e n accepting → n ≡ length texts →
    (tests : List Test) → AllMean texts tests → accepting ≡ port_bits (accepting_ports 0 tests e)
so_far-all texts e n accepting so is tests mean =
    let whole = so.bits tests mean in
    let long = length-tests texts tests mean in
    let none : drop n tests ≡ [] = drop_of_length-le tests (omega arith) in
    let rest : port_bits (accepting_ports n (drop n tests) e) ≡ 0 = ap (λ (ts : List Test). port_bits (accepting_ports n ts e)) none in
    omega arith

-- no bit is set of no port alone
pub port_bits-zero : (ports : List ℕ) → port_bits ports ≡ 0 → ports ≡ []
port_bits-zero [] none = refl
port_bits-zero (port ∷ ports) none = let bit = pow_pos port in absurd (omega arith)

-- where no condition accepts, the port behind them is named
pub route_ports-rerouted : (tests : List Test) (e : Event) (n : ℕ) → length tests ≡ n → port_bits (accepting_ports 0 tests e) ≡ 0 →
    port_bits (route_ports tests true e) ≡ 2 ^ n
route_ports-rerouted tests e n long none =
    let power : 2 ^ length tests ≡ 2 ^ n = ap (λ (k : ℕ). 2 ^ k) long in
    let empty = port_bits-zero (accepting_ports 0 tests e) none in
    let named : port_bits (route_ports tests true e) ≡ 2 ^ length tests + 0 = ap (λ (ports : List ℕ). port_bits (or_unmatched true (length tests) ports)) empty in
    omega arith

-- and each of them means something
pub so_far-meant : (texts : List ByteString) (e : Event) (n accepting : ℕ) → IsSoFar texts e n accepting → n ≡ length texts → (tests : List Test) × AllMean texts tests
so_far-meant texts e n accepting so is = all_meant texts (λ k below. so.meant k (omega (arith, is, below)))
