-- A copy carries the batch that it comes from.
use Rattle.std.proofs.Common.{◌≡◌, ℕ, zero, suc, ◌+◌, ◌-◌, ◌*◌, ◌%◌, ◌<◌, ◌≤◌, Bool, List, [], ◌∷◌, ◌++◌, length, refl, sym, ap, ◌∙◌, subst, arith, inl, inr}
use Rattle.std.specs.Prelude.{if◌then◌else◌, ◌==◌, ◌&&◌, slice_index}
use Rattle.std.proofs.lemmas.Bool.Decides.{nat_tests}
use Rattle.std.proofs.lemmas.Bool.{cases_eq}
use Rattle.std.proofs.lemmas.Nat.{mod-mul-add, mul-add-lt}
use Rattle.vx_value.specs.declared.event.Event.{Event}
use Rattle.vx_ledger.specs.Copies.{Copy, copies_of, numbered, renumbered, children_of, numbers_of}
use Rattle.vx_ledger.specs.Ledger.{Ledger, AreLive, live_count}
use Rattle.vx_record.specs.Records.{Record}
use Rattle.vx_record.specs.declared.child.Child.{Child}
use Rattle.vx_record.specs.declared.entry.Entry.{Entry}
use Rattle.vx_record.specs.declared.entry.Entry.TheVariants.{Born, Split}
use Rattle.vx_record.specs.Copies.{next_copy, counting}
use Rattle.vx_record.specs.Batches.{parent, batch_of}
use Rattle.vx_record.proofs.Live.{if_lt, if_ge}
use Rattle.vx_balance.specs.Owned.{IsOfBatch, AreOfBatch, EachOfBatch, AreHeld}
use Rattle.vx_balance.specs.Balances.{Balances}
use Rattle.vx_balance.specs.Promises.{BatchStays}
use Rattle.vx_balance.proofs.Sums.{of_batch}
use Rattle.vx_balance.proofs.Lives.{live_parts}

-- WHATEVER COMES
batch_stays : (h : Record) (e : Entry) (c : ℕ) → c < next_copy h → batch_of (e ∷ h) c ≡ batch_of h c
batch_stays h (Born i b place copies events waits stream end) c l = if_lt c (next_copy h) (batch_of h c) b l
batch_stays h (Split i ports copies event children) c l = if_lt c (next_copy h) (batch_of h c) (batch_of h (parent (next_copy h) copies c)) l
batch_stays h e c l = refl

pub stays : BatchStays
stays [] earlier copy is = is
stays (e ∷ later) earlier copy is =
    let before = stays later earlier copy is in
    let made = before.made in
    record { made = omega (arith, made); batch = batch_stays (later ++ earlier) e copy.number made ∙ before.batch; place = before.place }

-- COPIES IN HAND
pub length-numbers : (copies : List Copy) → length (numbers_of copies) ≡ length copies
length-numbers [] = refl
length-numbers (c ∷ cs) = let rest = length-numbers cs in omega (arith, rest)

one_of : (b batch place from : ℕ) → from ≡ batch → place ≡ batch → ◌≡◌ {A = ℕ} (if (batch == b) && (place == b) then 1 else 0) (if from == b then 1 else 0)
one_of b batch place from same at = grind (arith, nat_tests, same, at)

pub copies_counted : (h : Record) (b : ℕ) (copies : List Copy) → AreOfBatch h copies → copies_of b b copies ≡ of_batch (batch_of h) b (numbers_of copies)
copies_counted h b [] are = refl
copies_counted h b (c ∷ cs) are =
    let rest = copies_counted h b cs are.1 in
    let one = one_of b c.batch c.place (batch_of h c.number) are.0.batch are.0.place in
    omega (arith, rest, one)

elsewhere_one : (batch place b p : ℕ) → p ≡ b → (place ≡ batch → ⊥) → ◌≡◌ {A = ℕ} (if (b == batch) && (p == place) then 1 else 0) 0
elsewhere_one batch place b p at other = grind (arith, nat_tests, at, other)

-- no batch stands elsewhere than at its number
elsewhere : (h : Record) (batch place : ℕ) (copies : List Copy) → AreOfBatch h copies → (place ≡ batch → ⊥) → copies_of batch place copies ≡ 0
elsewhere h batch place [] are other = refl
elsewhere h batch place (c ∷ cs) are other =
    let rest = elsewhere h batch place cs are.1 other in
    let one = elsewhere_one batch place c.batch c.place are.0.place other in
    omega (arith, rest, one)

-- what is held is live in the account
pub live_enough : (account : Ledger) (h : Record) (copies : List Copy) → Balances account h → AreHeld h copies → AreLive account copies
live_enough account h copies balances held batch place =
    elim (cases_eq place batch) [
      | inl same ↦
          let all = balances.live batch in
          let mine = copies_counted h batch copies held.of_batch in
          let parts = live_parts h batch (numbers_of copies) held.live held.once in
          subst (λ p. copies_of batch p copies ≤ live_count batch p account.open_rows) (sym same) (omega (arith, all, mine, parts))
      | inr other ↦ let none = elsewhere h batch place copies held.of_batch other in omega (arith, none)
    ]

-- A BIRTH
pub numbers_numbered : (n batch place first : ℕ) → numbers_of (numbered n batch place first) ≡ counting first n
numbers_numbered zero batch place first = refl
numbers_numbered (suc n) batch place first = ap (λ (ns : List ℕ). first ∷ ns) (numbers_numbered n batch place (first + 1))

pub length-counting : (from n : ℕ) → length (counting from n) ≡ n
length-counting from zero = refl
length-counting from (suc n) = let rest = length-counting (from + 1) n in omega (arith, rest)

pub born_of_batch : (h : Record) (i b place : ℕ) (copies : List ℕ) (events : List Event) (waits : Bool) (stream end : ℕ) (n first : ℕ) → next_copy h ≤ first → first + n ≤ next_copy h + length copies →
    AreOfBatch (Born i b place copies events waits stream end ∷ h) (numbered n b b first)
born_of_batch h i b place copies events waits stream end zero first l u = tt
born_of_batch h i b place copies events waits stream end (suc n) first l u = (
  record { made = omega (arith, l, u); batch = if_ge first (next_copy h) (batch_of h first) b l; place = refl },
  born_of_batch h i b place copies events waits stream end n (first + 1) (omega (arith, l)) (omega (arith, u)),
)

-- A SPLIT
module _ (h : Record) (i ports : ℕ) (whole : List Copy) (event : Event) (children : List Child) where
  -- the child of the copy at j for the target at t
  child_of_batch : (c : Copy) (t j : ℕ) → IsOfBatch h c → t < length children → j < length whole → slice_index (numbers_of whole) j ≡ c.number →
      IsOfBatch (Split i ports (numbers_of whole) event children ∷ h) (record { batch = c.batch; number = next_copy h + t * length whole + j; place = c.place })
  child_of_batch c t j is within below at =
      let few = mul-add-lt t (length whole) j (length children) within below in
      let all = length-numbers whole in
      let room = ap (λ n. length children * n) all in
      let n = next_copy h + t * length whole + j in
      let back : n - next_copy h ≡ t * length whole + j = omega arith in
      let from : (n - next_copy h) % length (numbers_of whole) ≡ j = ap (λ m. m % length (numbers_of whole)) back ∙ ap (λ m. (t * length whole + j) % m) all ∙ mod-mul-add t (length whole) j below in
      record {
        made = omega (arith, few, room);
        batch = if_ge n (next_copy h) (batch_of h n) (batch_of h (parent (next_copy h) (numbers_of whole) n)) (omega arith)
            ∙ ap (λ k. batch_of h (slice_index (numbers_of whole) k)) from ∙ ap (batch_of h) at ∙ is.batch;
        place = is.place;
      }

  target_of_batch : (t j : ℕ) (rest : List Copy) → t < length children → j + length rest ≡ length whole → ((d : ℕ) → slice_index (numbers_of rest) d ≡ slice_index (numbers_of whole) (j + d)) → AreOfBatch h rest →
      AreOfBatch (Split i ports (numbers_of whole) event children ∷ h) (renumbered (next_copy h + t * length whole + j) rest)
  target_of_batch t j [] within all at are = tt
  target_of_batch t j (c ∷ cs) within all at are =
      let here : j + 0 ≡ j = omega arith in
      let next : next_copy h + t * length whole + j + 1 ≡ next_copy h + t * length whole + (j + 1) = omega arith in (
        child_of_batch c t j are.0 within (omega (arith, all)) (sym (at 0 ∙ ap (slice_index (numbers_of whole)) here)),
        subst (λ n. AreOfBatch (Split i ports (numbers_of whole) event children ∷ h) (renumbered n cs)) (sym next)
            (target_of_batch t (j + 1) cs within (omega (arith, all)) (λ d. at (suc d) ∙ ap (slice_index (numbers_of whole)) (on d)) are.1),
      )
    where
      on : (d : ℕ) → j + suc d ≡ j + 1 + d
      on d = omega arith

  pub split_of_batch : (k t : ℕ) → t + k ≡ length children → AreOfBatch h whole → EachOfBatch (Split i ports (numbers_of whole) event children ∷ h) (children_of k (next_copy h + t * length whole) whole)
  split_of_batch zero t all are = tt
  split_of_batch (suc k) t all are =
      let zeroth : next_copy h + t * length whole + 0 ≡ next_copy h + t * length whole = omega arith in
      let next : next_copy h + t * length whole + length whole ≡ next_copy h + (t + 1) * length whole = omega arith in (
        subst (λ n. AreOfBatch (Split i ports (numbers_of whole) event children ∷ h) (renumbered n whole)) zeroth
            (target_of_batch t 0 whole (omega (arith, all)) (omega arith) (λ d. ap (slice_index (numbers_of whole)) (start d)) are),
        subst (λ n. EachOfBatch (Split i ports (numbers_of whole) event children ∷ h) (children_of k n whole)) (sym next) (split_of_batch k (t + 1) (omega (arith, all)) are),
      )
    where
      start : (d : ℕ) → d ≡ 0 + d
      start d = omega arith
