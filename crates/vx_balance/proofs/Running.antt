-- The status of each open batch follows the spends of its copies.
use Rattle.std.proofs.Common.{◌≡◌, ℕ, ◌-◌, Bool, true, false, List, [], ◌∷◌, ◌++◌, Some, None, refl, sym, ap, ◌∙◌, subst, arith, inl, inr}
use Rattle.std.specs.Prelude.{◌==◌, ◌&&◌, if◌then◌else◌}
use Rattle.std.proofs.lemmas.Bool.Decides.{nat_tests}
use Rattle.std.proofs.lemmas.Bool.{cases_eq}
use Rattle.vx_status.specs.declared.outcome.Outcome.{Outcome}
use Rattle.vx_status.specs.Tables.{status_of, batch_update}
use Rattle.vx_ledger.specs.Copies.{Copy}
use Rattle.vx_ledger.specs.Ledger.{AreKept, rows_of, grown_rows, spent_rows, notice_of}
use Rattle.vx_ledger.specs.declared.open_batch.OpenBatch.{OpenBatch}
use Rattle.vx_ledger.specs.declared.notice.Notice.{Notice as GivenNotice}
use Rattle.vx_record.specs.Records.{Record}
use Rattle.vx_record.specs.declared.entry.Entry.TheVariants.{Spent}
use Rattle.vx_record.specs.Batches.{batch_of}
use Rattle.vx_record.specs.Statuses.{running}
use Rattle.vx_balance.specs.Balances.{AreRunning}

pub running_on : (h k : Record) (rows : List OpenBatch) → ((b : ℕ) → running h b ≡ running k b) → AreRunning h rows → AreRunning k rows
running_on h k [] same a = tt
running_on h k (r ∷ rs) same a = (a.0 ∙ same r.number, running_on h k rs same a.1)

pub running_grown : (h : Record) (more : ℕ) (copies : List Copy) (rows : List OpenBatch) → AreRunning h rows → AreRunning h (grown_rows more copies rows)
running_grown h more copies [] a = tt
running_grown h more copies (r ∷ rs) a = (a.0, running_grown h more copies rs a.1)

pub running_more : (h : Record) (rows : List OpenBatch) (r : OpenBatch) → AreRunning h rows → r.status ≡ running h r.number → AreRunning h (rows ++ r ∷ [])
running_more h [] r a s = (s, tt)
running_more h (q ∷ rows) r a s = (a.0, running_more h rows r a.1 s)

other_status : (h : Record) (i c : ℕ) (o : Outcome) (b n : ℕ) → batch_of h c ≡ b → (n ≡ b → ⊥) → running h n ≡ running (Spent i c o ∷ h) n
other_status h i c o b n is other = grind (arith, nat_tests)

own_status : (h : Record) (i c : ℕ) (o : Outcome) (b : ℕ) → batch_of h c ≡ b → running (Spent i c o ∷ h) b ≡ batch_update (running h b) (status_of o)
own_status h i c o b is = grind (arith, nat_tests)

-- the rows of other batches stay
running_rest : (h : Record) (i c : ℕ) (o : Outcome) (b : ℕ) (rows : List OpenBatch) → batch_of h c ≡ b → rows_of b rows ≡ 0 → AreRunning h rows → AreRunning (Spent i c o ∷ h) rows
running_rest h i c o b [] is none a = tt
running_rest h i c o b (r ∷ rs) is none a =
    let other : r.number ≡ b → ⊥ = λ e. grind (arith, nat_tests) in
    let rest : rows_of b rs ≡ 0 = omega (arith, none) in
    (a.0 ∙ other_status h i c o b r.number is other, running_rest h i c o b rs is rest a.1)

-- and that of the batch of a spent copy goes on with its outcome
pub running_spent : (h : Record) (i c : ℕ) (o : Outcome) (b next : ℕ) (rows : List OpenBatch) → batch_of h c ≡ b → AreKept next rows → AreRunning h rows → AreRunning (Spent i c o ∷ h) (spent_rows b b o rows)
running_spent h i c o b next [] is kept a = tt
running_spent h i c o b next (r ∷ rs) is kept a =
    elim (cases_eq r.number b) [
      | inl same ↦
          let none : rows_of b rs ≡ 0 = subst (λ n. rows_of n rs ≡ 0) same kept.4 in
          let rest = running_rest h i c o b rs is none a.1 in
          found ((r.number == b) && (r.place == b)) (both same) (r.count == 1) rest
          (ap (λ s. batch_update s (status_of o)) a.0 ∙ ap (λ n. batch_update (running h n) (status_of o)) same ∙ sym (own_status h i c o b is) ∙ ap (running (Spent i c o ∷ h)) (sym same))
      | inr other ↦
          missed ((r.number == b) && (r.place == b)) (neither other)
          (a.0 ∙ other_status h i c o b r.number is other)
          (running_spent h i c o b next rs is kept.5 a.1)
    ]
  where
    both : r.number ≡ b → ((r.number == b) && (r.place == b)) ≡ true
    both same = let p : r.place ≡ r.number = kept.2 in grind (arith, nat_tests)

    neither : (r.number ≡ b → ⊥) → ((r.number == b) && (r.place == b)) ≡ false
    neither other = grind (arith, nat_tests)

    spent : OpenBatch
    spent = record r { count = r.count - 1; status = batch_update r.status (status_of o) }

    found : (t : Bool) → t ≡ true → (last : Bool) → AreRunning (Spent i c o ∷ h) rs → spent.status ≡ running (Spent i c o ∷ h) r.number →
        AreRunning (Spent i c o ∷ h) (if t then (if last then rs else spent ∷ rs) else r ∷ spent_rows b b o rs)
    found true e true rest s = rest
    found true e false rest s = (s, rest)
    found false e last rest s = cc

    missed : (t : Bool) → t ≡ false → r.status ≡ running (Spent i c o ∷ h) r.number → AreRunning (Spent i c o ∷ h) (spent_rows b b o rs) →
        AreRunning (Spent i c o ∷ h) (if t then (if r.count == 1 then rs else spent ∷ rs) else r ∷ spent_rows b b o rs)
    missed true e s rest = cc
    missed false e s rest = (s, rest)

-- the notice of a batch has the status that its spends have then
pub notice_status : (h : Record) (i c : ℕ) (o : Outcome) (b : ℕ) (rows : List OpenBatch) (given_notice : GivenNotice) → batch_of h c ≡ b → AreRunning h rows → notice_of b b o rows ≡ Some given_notice →
    (given_notice.batch ≡ b) × (given_notice.status ≡ running (Spent i c o ∷ h) b)
notice_status h i c o b [] given_notice is a e = cc
notice_status h i c o b (r ∷ rs) given_notice is a e =
    go ((r.number == b) && (r.place == b)) refl (r.count == 1) (λ f. notice_status h i c o b rs given_notice is a.1 f) e
  where
    made : GivenNotice
    made = record { batch = b; instance = r.instance; status = batch_update r.status (status_of o) }

    go : (t : Bool) → ((r.number == b) && (r.place == b)) ≡ t → (last : Bool) → (notice_of b b o rs ≡ Some given_notice → (given_notice.batch ≡ b) × (given_notice.status ≡ running (Spent i c o ∷ h) b)) → (if t then (if last then Some made else None) else notice_of b b o rs) ≡ Some given_notice →
        (given_notice.batch ≡ b) × (given_notice.status ≡ running (Spent i c o ∷ h) b)
    go true t true ih e =
        let same : made ≡ given_notice = cc in
        let number : r.number ≡ b = grind (arith, nat_tests) in
        (sym (ap (λ (x : GivenNotice). x.batch) same), sym (ap (λ (x : GivenNotice). x.status) same) ∙ ap (λ s. batch_update s (status_of o)) a.0 ∙ ap (λ n. batch_update (running h n) (status_of o)) number ∙ sym (own_status h i c o b is))
    go true t false ih e = cc
    go false t last ih e = ih e
