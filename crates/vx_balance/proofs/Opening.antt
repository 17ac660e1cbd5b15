-- The open batches are those that have no notice.
use Rattle.std.proofs.Common.{◌≡◌, ℕ, ◌+◌, ◌-◌, ◌≤◌, Bool, true, false, List, [], ◌∷◌, ◌++◌, Some, None, refl, sym, ap, ◌∙◌, subst, arith, inl, inr}
use Rattle.std.specs.Prelude.{◌==◌, ◌&&◌, ◌||◌, if◌then◌else◌}
use Rattle.std.proofs.lemmas.Bool.Decides.{nat_tests}
use Rattle.std.proofs.lemmas.Bool.{cases_eq}
use Rattle.vx_status.specs.declared.outcome.Outcome.{Outcome}
use Rattle.vx_status.specs.declared.batch_status.BatchStatus.{BatchStatus}
use Rattle.vx_status.specs.Tables.{status_of, batch_update}
use Rattle.vx_ledger.specs.Copies.{Copy}
use Rattle.vx_ledger.specs.Ledger.{AreKept, rows_of, grown_rows, spent_rows, notice_of}
use Rattle.vx_ledger.specs.declared.open_batch.OpenBatch.{OpenBatch}
use Rattle.vx_ledger.specs.declared.notice.Notice.{Notice as GivenNotice}
use Rattle.vx_record.specs.Records.{Record}
use Rattle.vx_record.specs.declared.entry.Entry.TheVariants.{Notice}
use Rattle.vx_record.specs.Copies.{next_copy}
use Rattle.vx_record.specs.Confirms.{is_noticed}
use Rattle.vx_record.specs.Accounting.{IsAccounted}
use Rattle.vx_record.specs.Laws.{times_noticed}
use Rattle.vx_record.proofs.Notices.{noticed}
use Rattle.vx_balance.specs.Births.{Batch, without_notice, batches_in, IsAmong}

-- THE RECORD
not_noticed : (h : Record) (b : ℕ) → times_noticed h b ≡ 0 → is_noticed h b ≡ false
not_noticed [] b none = refl
not_noticed (Notice b' status ∷ h) b none = go (b' == b) none (not_noticed h b)
  where
    go : (t : Bool) → (if t then 1 else 0) + times_noticed h b ≡ 0 → (times_noticed h b ≡ 0 → is_noticed h b ≡ false) → (t || is_noticed h b) ≡ false
    go true none ih = absurd (omega (arith, none))
    go false none ih = ih (omega (arith, none))
not_noticed (e ∷ h) b none = not_noticed h b none

-- a batch that isn't born has no notice
pub unborn : (h : Record) (b : ℕ) → IsAccounted h → next_copy h ≤ b → is_noticed h b ≡ false
unborn h b sound l = not_noticed h b ((noticed h b sound).future l)

pub without_more : (h : Record) (xs : List Batch) (x : Batch) → is_noticed h x.number ≡ false → without_notice h (xs ++ x ∷ []) ≡ without_notice h xs ++ x ∷ []
without_more h [] x none = ap {B = List Batch} (λ t. if t then [] else x ∷ []) none
without_more h (y ∷ ys) x none = go (is_noticed h y.number) (without_more h ys x none)
  where
    go : (t : Bool) → without_notice h (ys ++ x ∷ []) ≡ without_notice h ys ++ x ∷ [] → (if t then without_notice h (ys ++ x ∷ []) else y ∷ without_notice h (ys ++ x ∷ [])) ≡ (if t then without_notice h ys else y ∷ without_notice h ys) ++ x ∷ []
    go true ih = ih
    go false ih = ap (λ (xs : List Batch). y ∷ xs) ih

-- where the same have notices, the same have none
pub without_same : (h k : Record) → ((b : ℕ) → is_noticed k b ≡ is_noticed h b) → (xs : List Batch) → without_notice k xs ≡ without_notice h xs
without_same h k same [] = refl
without_same h k same (x ∷ xs) =
    ap {B = List Batch} (λ t. if t then without_notice k xs else x ∷ without_notice k xs) (same x.number)
    ∙ ap {B = List Batch} (λ (ys : List Batch). if is_noticed h x.number then ys else x ∷ ys) (without_same h k same xs)

-- some batches without those of a number
abbrev pub others_of : ℕ → List Batch → List Batch
others_of b [] = []
others_of b (x ∷ xs) = if b == x.number then others_of b xs else x ∷ others_of b xs

-- a notice leaves the others
pub without_noticed : (h : Record) (b : ℕ) (status : BatchStatus) (xs : List Batch) → without_notice (Notice b status ∷ h) xs ≡ others_of b (without_notice h xs)
without_noticed h b status [] = refl
without_noticed h b status (x ∷ xs) = go (is_noticed h x.number) (b == x.number) refl (without_noticed h b status xs)
  where
    go : (n t : Bool) → (b == x.number) ≡ t → without_notice (Notice b status ∷ h) xs ≡ others_of b (without_notice h xs) →
        (if (t || n) then without_notice (Notice b status ∷ h) xs else x ∷ without_notice (Notice b status ∷ h) xs) ≡ others_of b (if n then without_notice h xs else x ∷ without_notice h xs)
    go true true e ih = ih
    go true false e ih = ih
    go false true e ih = ih ∙ ap {B = List Batch} (λ t. if t then others_of b (without_notice h xs) else x ∷ others_of b (without_notice h xs)) (sym e)
    go false false e ih = ap (λ (ys : List Batch). x ∷ ys) ih ∙ ap {B = List Batch} (λ t. if t then others_of b (without_notice h xs) else x ∷ others_of b (without_notice h xs)) (sym e)

-- THE ROWS
abbrev as_batch : OpenBatch → Batch
as_batch r = record { number = r.number; creator = r.instance }

-- more copies open no batch
pub opens_grown : (more : ℕ) (copies : List Copy) (rows : List OpenBatch) → batches_in (grown_rows more copies rows) ≡ batches_in rows
opens_grown more copies [] = refl
opens_grown more copies (r ∷ rs) = ap (λ (xs : List Batch). as_batch r ∷ xs) (opens_grown more copies rs)

-- one more is the last
pub opens_more : (rows : List OpenBatch) (r : OpenBatch) → batches_in (rows ++ r ∷ []) ≡ batches_in rows ++ as_batch r ∷ []
opens_more [] r = refl
opens_more (q ∷ rows) r = ap (λ (xs : List Batch). as_batch q ∷ xs) (opens_more rows r)

-- where a spend gives no notice, the same are open
pub opens_spent : (b place : ℕ) (o : Outcome) (rows : List OpenBatch) → notice_of b place o rows ≡ None → batches_in (spent_rows b place o rows) ≡ batches_in rows
opens_spent b place o [] none = refl
opens_spent b place o (r ∷ rs) none = go ((r.number == b) && (r.place == place)) (r.count == 1) (opens_spent b place o rs) none
  where
    made : GivenNotice
    made = record { batch = b; instance = r.instance; status = batch_update r.status (status_of o) }

    spent : OpenBatch
    spent = record r { count = r.count - 1; status = batch_update r.status (status_of o) }

    go : (t last : Bool) → (notice_of b place o rs ≡ None → batches_in (spent_rows b place o rs) ≡ batches_in rs) → (if t then (if last then Some made else None) else notice_of b place o rs) ≡ None →
        batches_in (if t then (if last then rs else spent ∷ rs) else r ∷ spent_rows b place o rs) ≡ as_batch r ∷ batches_in rs
    go true true ih none = cc
    go true false ih none = refl
    go false last ih none = ap (λ (xs : List Batch). as_batch r ∷ xs) (ih none)

-- rows of other batches
others_all : (b : ℕ) (rows : List OpenBatch) → rows_of b rows ≡ 0 → others_of b (batches_in rows) ≡ batches_in rows
others_all b [] none = refl
others_all b (r ∷ rs) none = ap {B = List Batch} (λ t. if t then others_of b (batches_in rs) else as_batch r ∷ others_of b (batches_in rs)) apart ∙ ap (λ (xs : List Batch). as_batch r ∷ xs) (others_all b rs (omega (arith, none)))
  where
    apart : (b == r.number) ≡ false
    apart = grind (arith, nat_tests, none)

-- where a spend gives a notice, its batch was open, and only the others are
pub record Shuts (b : ℕ) (rows rest : List OpenBatch) (given_notice : GivenNotice) : Type 0 where
  pub left : batches_in rest ≡ others_of b (batches_in rows)
  pub had : IsAmong (record { number = b; creator = given_notice.instance }) (batches_in rows)

pub shuts : (b : ℕ) (o : Outcome) (next : ℕ) (rows : List OpenBatch) (given_notice : GivenNotice) → AreKept next rows → notice_of b b o rows ≡ Some given_notice → Shuts b rows (spent_rows b b o rows) given_notice
shuts b o next [] given_notice kept is = cc
shuts b o next (r ∷ rs) given_notice kept is =
    elim (cases_eq r.number b) [
      | inl same ↦ found same ((r.number == b) && (r.place == b)) (both same) (r.count == 1) is
      | inr other ↦ missed other ((r.number == b) && (r.place == b)) (neither other) is (λ rest. shuts b o next rs given_notice kept.5 rest)
    ]
  where
    both : r.number ≡ b → ((r.number == b) && (r.place == b)) ≡ true
    both same = let p : r.place ≡ r.number = kept.2 in grind (arith, nat_tests)

    neither : (r.number ≡ b → ⊥) → ((r.number == b) && (r.place == b)) ≡ false
    neither other = grind (arith, nat_tests)

    itself : r.number ≡ b → (b == r.number) ≡ true
    itself same = grind (arith, nat_tests)

    another : (r.number ≡ b → ⊥) → (b == r.number) ≡ false
    another other = grind (arith, nat_tests)

    made : GivenNotice
    made = record { batch = b; instance = r.instance; status = batch_update r.status (status_of o) }

    spent : OpenBatch
    spent = record r { count = r.count - 1; status = batch_update r.status (status_of o) }

    choose : (t : Bool) → (b == r.number) ≡ t → (if t then others_of b (batches_in rs) else as_batch r ∷ others_of b (batches_in rs)) ≡ others_of b (batches_in (r ∷ rs))
    choose t e = ap {B = List Batch} (λ t. if t then others_of b (batches_in rs) else as_batch r ∷ others_of b (batches_in rs)) (sym e)

    found : r.number ≡ b → (t : Bool) → t ≡ true → (last : Bool) → (if t then (if last then Some made else None) else notice_of b b o rs) ≡ Some given_notice →
        Shuts b (r ∷ rs) (if t then (if last then rs else spent ∷ rs) else r ∷ spent_rows b b o rs) given_notice
    found at true e true is =
        let same : made ≡ given_notice = cc in
        record {
          left = sym (others_all b rs (subst (λ n. rows_of n rs ≡ 0) at kept.4)) ∙ choose true (itself at);
          had = inl (ap (λ n. record { number = n; creator = r.instance }) at ∙ ap (λ (x : GivenNotice). record { number = b; creator = x.instance }) same);
        }
    found at true e false is = cc
    found at false e last is = cc

    missed : (r.number ≡ b → ⊥) → (t : Bool) → t ≡ false → (if t then (if r.count == 1 then Some made else None) else notice_of b b o rs) ≡ Some given_notice →
        (notice_of b b o rs ≡ Some given_notice → Shuts b rs (spent_rows b b o rs) given_notice) →
        Shuts b (r ∷ rs) (if t then (if r.count == 1 then rs else spent ∷ rs) else r ∷ spent_rows b b o rs) given_notice
    missed other true e is ih = cc
    missed other false e is ih =
        let rest = ih is in
        record { left = ap (λ (xs : List Batch). as_batch r ∷ xs) rest.left ∙ choose false (another other); had = inr rest.had }
