-- Each call leads from every record that balanced to the one with its entry more.
use Rattle.std.proofs.Common.{◌≡◌, ℕ, ◌+◌, ◌-◌, ◌*◌, ◌≤◌, ◌↔◌, Bool, true, false, List, [], ◌∷◌, ◌++◌, length, Option, Some, None, IfSome, IfNone, IsSome, refl, sym, ap, ◌∙◌, subst, arith}
use Rattle.std.specs.Prelude.{◌==◌, ◌&&◌, if◌then◌else◌, Result, Ok, Err, IfOk, OnOk}
use Rattle.std.proofs.lemmas.Bool.Decides.{nat_tests}
use Rattle.vx_value.specs.declared.event.Event.{Event}
use Rattle.vx_status.specs.declared.outcome.Outcome.{Outcome}
use Rattle.vx_status.specs.declared.batch_status.BatchStatus.TheVariants.{Delivered}
use Rattle.vx_ledger.specs.Copies.{Copy, copies_of, numbered, children_of, joined, each_alone, numbers_of}
use Rattle.vx_ledger.specs.Ledger.{Ledger, IsKept, Exchanges, live_count, grown_rows, spent_rows, notice_of}
use Rattle.vx_ledger.specs.declared.open_batch.OpenBatch.{OpenBatch}
use Rattle.vx_ledger.specs.declared.notice.Notice.{Notice as GivenNotice}
use Rattle.vx_ledger.specs.declared.short.Short.{Short}
use Rattle.vx_ledger.specs.declared.split_refused.SplitRefused.{SplitRefused}
use Rattle.vx_ledger.proofs.CopyLaws.{copies_of-numbered, copies_of-children_of, joined-each_alone}
use Rattle.vx_record.specs.Records.{Record}
use Rattle.vx_record.specs.declared.child.Child.{Child}
use Rattle.vx_record.specs.declared.entry.Entry.TheVariants.{Born, Split, Spent, Notice}
use Rattle.vx_record.specs.Copies.{next_copy, counting}
use Rattle.vx_record.specs.Batches.{batch_of, is_notice_due}
use Rattle.vx_record.specs.Statuses.{running}
use Rattle.vx_record.specs.Accounting.{IsAccounted}
use Rattle.vx_record.specs.Spending.{MayNotice}
use Rattle.vx_record.proofs.Dues.{Awaits, awaits_so, undue_so}
use Rattle.vx_record.proofs.Notices.{kept}
use Rattle.vx_record.proofs.Statuses.{running_future, running_so}
use Rattle.vx_record.proofs.LegalNotices.{accounted}
use Rattle.vx_balance.specs.Live.{live_copies}
use Rattle.vx_balance.specs.Births.{born, unnoticed, batches_in, IsAmong}
use Rattle.vx_balance.specs.Owned.{IsOfBatch, AreOfBatch, EachOfBatch}
use Rattle.vx_balance.specs.Balances.{AreRunning, Balances}
use Rattle.vx_balance.specs.Promises.{CreatesBatch, Splits, LeavesOpen, ClosesBatch, AsideKept, AnyInTurn}
use Rattle.vx_balance.proofs.Sums.{of_batch}
use Rattle.vx_balance.proofs.Lives.{live_still, live_spent, live_born, live_split, live_none}
use Rattle.vx_balance.proofs.Running.{running_on, running_grown, running_more, running_spent, notice_status}
use Rattle.vx_balance.proofs.Opening.{unborn, without_more, without_same, without_noticed, others_of, opens_grown, opens_more, opens_spent, shuts}
use Rattle.vx_balance.proofs.Owning.{length-numbers, copies_counted, numbers_numbered, length-counting, born_of_batch, split_of_batch}

-- ANY OTHER ENTRY
pub aside_kept : AsideKept
aside_kept account h (Born i b place copies events waits stream end) aside was = absurd aside
aside_kept account h (Split i ports copies event children) aside was = absurd aside
aside_kept account h (Spent i c outcome) aside was = absurd aside
aside_kept account h (Notice b status) aside was = absurd aside
aside_kept account h e aside was =
    let n = was.next in
    record {
      next = omega (arith, n);
      live = λ b. was.live b ∙ sym (live_still h e b refl refl refl (λ c. refl));
      opens = was.opens ∙ sym (without_same h (e ∷ h) (λ b. refl) (born h));
      statuses = running_on h (e ∷ h) account.open_rows (λ b. refl) was.statuses;
      noticeless = refl;
      kept = was.kept;
    }

pub any_in_turn : AnyInTurn
any_in_turn account h (Notice b status) was = tt
any_in_turn account h e was = was.noticeless

-- A BIRTH
both_tests : (t : Bool) (n : ℕ) → (if t && t then n else 0) ≡ (if t then n else 0)
both_tests true n = refl
both_tests false n = refl

pub born_balances : (h : Record) (i b place : ℕ) (copies : List ℕ) (events : List Event) (waits : Bool) (stream end n : ℕ) (made : List Copy) (old new : Ledger) → length copies ≡ n → b ≡ old.next → made ≡ numbered n b b b →
    new.next ≡ old.next + n → new.open_rows ≡ old.open_rows ++ record { number = b; place = b; instance = i; count = n; status = Delivered } ∷ [] → Exchanges old [] new made → IsKept new →
    IsAccounted h → Balances old h → Balances new (Born i b place copies events waits stream end ∷ h)
born_balances h i b place copies events waits stream end n made old new size number are next rows exchange sound account was =
    let at = was.next in
    record {
      next = omega (arith, next, at, size);
      live = λ b'.
          let e = exchange b' b' in
          let m = ap (copies_of b' b') are ∙ copies_of-numbered b' b' n b b b ∙ both_tests (b == b') n in
          let w = was.live b' in
          let l = live_born h i b place copies events waits stream end b' (kept h account) in
          let s = ap {B = ℕ} (λ k. if b == b' then k else 0) size in
          omega (arith, e, m, w, l, s);
      opens = ap batches_in rows ∙ opens_more old.open_rows row ∙ ap (λ xs. xs ++ record { number = b; creator = i } ∷ []) was.opens
          ∙ sym (without_same h k (λ c. refl) (born h ++ record { number = b; creator = i } ∷ []) ∙ without_more h (born h) (record { number = b; creator = i }) (unborn h b account future));
      statuses = subst (AreRunning k) (sym rows) (running_more k old.open_rows row (running_on h k old.open_rows (λ c. refl) was.statuses) (sym (running_future h b account future)));
      noticeless = refl;
      kept = sound;
    }
  where
    k : Record
    k = Born i b place copies events waits stream end ∷ h

    row : OpenBatch
    row = record { number = b; place = b; instance = i; count = n; status = Delivered }

    future : next_copy h ≤ b
    future = let at = was.next in omega (arith, at, number)

pub creates : (i n b : ℕ) (made : List Copy) (old new : Ledger) → b ≡ old.next → made ≡ numbered n old.next old.next old.next → new.next ≡ old.next + n →
    new.open_rows ≡ old.open_rows ++ record { number = old.next; place = old.next; instance = i; count = n; status = Delivered } ∷ [] → Exchanges old [] new made → IsKept new → CreatesBatch i n b made old new
creates i n b made old new number are next rows exchange sound = record {
  number = number;
  numbers = numbers;
  fits = let f = sound.numbers in omega (arith, next, f);
  carries = λ h place events waits stream end legal was.
      born_balances h i b place (numbers_of made) events waits stream end n made old new (size ∙ refl) number
      (are ∙ ap (λ m. numbered n m m m) (sym number)) next
      (rows ∙ ap (λ m. old.open_rows ++ record { number = m; place = m; instance = i; count = n; status = Delivered } ∷ []) (sym number)) exchange sound (accounted h legal.1) was;
  of_batch = λ h place events waits stream end legal.
      let first : b ≡ next_copy h = legal.0.row.number in
      subst (AreOfBatch (Born i b place (numbers_of made) events waits stream end ∷ h)) (sym (are ∙ ap (λ m. numbered n m m m) (sym number)))
      (born_of_batch h i b place (numbers_of made) events waits stream end n b (omega (arith, first)) (let s = size in omega (arith, first, s)));
}
  where
    numbers : numbers_of made ≡ counting old.next n
    numbers = ap numbers_of are ∙ numbers_numbered n old.next old.next old.next

    size : length (numbers_of made) ≡ n
    size = ap (λ (ns : List ℕ). length ns) numbers ∙ length-counting old.next n

-- where the batch was born, each copy in a list of its own
pub starts_batch : (i n : ℕ) (old new : Ledger) (answer : Result (ℕ × List (List Copy)) Short) → IfOk answer (λ r. r.0 ≡ old.next) → IfOk answer (λ r. r.1 ≡ each_alone (numbered n old.next old.next old.next)) → OnOk answer (new.next ≡ old.next + n) →
    OnOk answer (new.open_rows ≡ old.open_rows ++ record { number = old.next; place = old.next; instance = i; count = n; status = Delivered } ∷ []) → IfOk answer (λ r. Exchanges old [] new (joined r.1)) → IsKept new →
    IfOk answer (λ r. CreatesBatch i n r.0 (joined r.1) old new)
starts_batch i n old new (Ok r) number are next rows exchange sound =
    creates i n r.0 (joined r.1) old new number (ap joined are ∙ joined-each_alone (numbered n old.next old.next old.next)) next rows exchange sound
starts_batch i n old new (Err e) number are next rows exchange sound = tt

-- lists of one copy each are those of the copies behind one another
pub each_again : (copies : List Copy) (answer : Result (ℕ × List (List Copy)) Short) → IfOk answer (λ r. r.1 ≡ each_alone copies) →
    IfOk answer (λ r. r.1 ≡ each_alone (joined r.1))
each_again copies (Ok r) are = are ∙ ap each_alone (sym (ap joined are ∙ joined-each_alone copies))
each_again copies (Err e) are = tt

-- A SPLIT
pub split_balances : (h : Record) (i ports k : ℕ) (parent : List Copy) (event : Event) (noted : List Child) (children : List (List Copy)) (old new : Ledger) → length noted ≡ k → AreOfBatch h parent →
    children ≡ children_of k old.next parent → new.next ≡ old.next + k * length parent → new.open_rows ≡ grown_rows (k - 1) parent old.open_rows → Exchanges old parent new (joined children) → IsKept new →
    IsAccounted (Split i ports (numbers_of parent) event noted ∷ h) → Balances old h → Balances new (Split i ports (numbers_of parent) event noted ∷ h)
split_balances h i ports k parent event noted children old new targets are made next rows exchange sound account was =
    let at = was.next in
    let all = ap (λ m. length noted * m) (length-numbers parent) ∙ ap (λ m. m * length parent) targets in
    record {
      next = omega (arith, next, at, all);
      live = λ b.
          let e = exchange b b in
          let m = ap (λ (xs : List (List Copy)). copies_of b b (joined xs)) made ∙ copies_of-children_of b b k old.next parent in
          let c = copies_counted h b parent are in
          let w = was.live b in
          let l = live_split h i ports (numbers_of parent) event noted b (kept s account) in
          let t = ap (λ j. j * of_batch (batch_of h) b (numbers_of parent)) targets in
          let u = ap (λ j. k * j) c in
          omega (arith, e, m, c, w, l, t, u);
      opens = ap batches_in rows ∙ opens_grown (k - 1) parent old.open_rows ∙ was.opens ∙ sym (without_same h s (λ c. refl) (born h));
      statuses = subst (AreRunning s) (sym rows) (running_grown s (k - 1) parent old.open_rows (running_on h s old.open_rows (λ c. refl) was.statuses));
      noticeless = refl;
      kept = sound;
    }
  where
    s : Record
    s = Split i ports (numbers_of parent) event noted ∷ h

pub splits : (k : ℕ) (parent : List Copy) (children : List (List Copy)) (old new : Ledger) → children ≡ children_of k old.next parent → new.next ≡ old.next + k * length parent →
    new.open_rows ≡ grown_rows (k - 1) parent old.open_rows → Exchanges old parent new (joined children) → IsKept new → Splits k parent children old new
splits k parent children old new made next rows exchange sound = record {
  made = made;
  fits = let f = sound.numbers in omega (arith, next, f);
  carries = λ h i ports event noted targets are legal was. split_balances h i ports k parent event noted children old new targets are made next rows exchange sound (accounted (Split i ports (numbers_of parent) event noted ∷ h) legal) was;
  of_batch = λ h i ports event noted targets are legal was.
      subst (EachOfBatch (Split i ports (numbers_of parent) event noted ∷ h)) (sym (made ∙ ap (λ m. children_of k m parent) (was.next ∙ start (next_copy h) (length parent))))
      (split_of_batch h i ports parent event noted k 0 (omega (arith, targets)) are);
}
  where
    start : (n m : ℕ) → n ≡ n + 0 * m
    start n m = omega arith

-- where the copies were split
pub splits_of : (k : ℕ) (parent : List Copy) (old new : Ledger) (answer : Result (List (List Copy)) SplitRefused) → IfOk answer (λ children. children ≡ children_of k old.next parent) → OnOk answer (new.next ≡ old.next + k * length parent) →
    OnOk answer (new.open_rows ≡ grown_rows (k - 1) parent old.open_rows) → IfOk answer (λ children. Exchanges old parent new (joined children)) → IsKept new → IfOk answer (λ children. Splits k parent children old new)
splits_of k parent old new (Ok children) made next rows exchange sound = splits k parent children old new made next rows exchange sound
splits_of k parent old new (Err e) made next rows exchange sound = tt

-- A SPEND
one_of : (b batch place from : ℕ) → from ≡ batch → place ≡ batch → ◌≡◌ {A = ℕ} ((if (batch == b) && (place == b) then 1 else 0) + 0) (if from == b then 1 else 0)
one_of b batch place from same at = grind (arith, nat_tests, same, at)

silent : IsSome {T = GivenNotice} None → ⊥
silent some = let contrary : false ≡ true = some in cc

module _ (copy : Copy) (o : Outcome) (old new : Ledger) (next : new.next ≡ old.next) (rows : new.open_rows ≡ spent_rows copy.batch copy.place o old.open_rows) (exchange : Exchanges old (copy ∷ []) new []) (sound : IsKept new) where
  module _ (h : Record) (i : ℕ) (is : IsOfBatch h copy) (account : IsAccounted (Spent i copy.number o ∷ h)) (was : Balances old h) where
    abbrev spent : Record
    spent = Spent i copy.number o ∷ h

    live_as : (b : ℕ) → live_count b b new.open_rows ≡ live_copies spent b
    live_as b =
        let e = exchange b b in
        let w = was.live b in
        let l = live_spent h i copy.number b o account.0.conserves in
        let m = one_of b copy.batch copy.place (batch_of h copy.number) is.batch is.place in
        omega (arith, e, w, l, m)

    rows_there : new.open_rows ≡ spent_rows copy.batch copy.batch o old.open_rows
    rows_there = rows ∙ ap (λ p. spent_rows copy.batch p o old.open_rows) is.place

    statuses : AreRunning spent new.open_rows
    statuses = subst (AreRunning spent) (sym rows_there) (running_spent h i copy.number o copy.batch old.next old.open_rows is.batch was.kept.rows was.statuses)

    next_there : new.next ≡ next_copy spent
    next_there = let n = was.next in omega (arith, next, n)

    -- another copy is live
    not_due : (live_count copy.batch copy.place new.open_rows ≡ 0 → ⊥) → is_notice_due spent ≡ false
    not_due some = undue_so spent
        (λ b due.
        let none = (live_none spent b).1 due.1 in
        some (ap (λ p. live_count copy.batch p new.open_rows) is.place ∙ ap (λ n. live_count n n new.open_rows) (sym is.batch ∙ due.0) ∙ live_as b ∙ none))

    left_open : notice_of copy.batch copy.place o old.open_rows ≡ None → (live_count copy.batch copy.place new.open_rows ≡ 0 → ⊥) → Balances new spent
    left_open quiet some = record {
      next = next_there;
      live = live_as;
      opens = ap batches_in rows ∙ opens_spent copy.batch copy.place o old.open_rows quiet ∙ was.opens ∙ sym (without_same h spent (λ c. refl) (born h));
      statuses = statuses;
      noticeless = not_due some;
      kept = sound;
    }

    -- it was the last
    module _ (given_notice : GivenNotice) (none : live_count copy.batch copy.place new.open_rows ≡ 0) (notice : notice_of copy.batch copy.place o old.open_rows ≡ Some given_notice) where
      notice_there : notice_of copy.batch copy.batch o old.open_rows ≡ Some given_notice
      notice_there = ap (λ p. notice_of copy.batch p o old.open_rows) (sym is.place) ∙ notice

      says : (given_notice.batch ≡ copy.batch) × (given_notice.status ≡ running spent copy.batch)
      says = notice_status h i copy.number o copy.batch old.open_rows given_notice is.batch was.statuses notice_there

      due : Awaits spent given_notice.batch
      due = subst (Awaits spent) (sym says.0) (is.batch, (live_none spent copy.batch).0 (sym (live_as copy.batch) ∙ ap (λ p. live_count copy.batch p new.open_rows) (sym is.place) ∙ none))

      may_notice : MayNotice spent given_notice.batch given_notice.status
      may_notice = record { due = awaits_so spent given_notice.batch due; folded = says.1 ∙ ap (running spent) (sym says.0) ∙ running_so spent given_notice.batch account }

      closed : Balances new (Notice given_notice.batch given_notice.status ∷ spent)
      closed = record {
        next = let n = next_there in omega (arith, n);
        live = λ b. live_as b ∙ sym (live_still spent (Notice given_notice.batch given_notice.status) b refl refl refl (λ c. refl));
        opens = ap batches_in rows_there ∙ (shuts copy.batch o old.next old.open_rows given_notice was.kept.rows notice_there).left ∙ ap (others_of copy.batch) was.opens
            ∙ ap (λ n. others_of n (unnoticed h)) (sym says.0)
            ∙ sym (without_noticed spent given_notice.batch given_notice.status (born h) ∙ ap (others_of given_notice.batch) (without_same h spent (λ c. refl) (born h)));
        statuses = running_on spent (Notice given_notice.batch given_notice.status ∷ spent) new.open_rows (λ b. refl) statuses;
        noticeless = refl;
        kept = sound;
      }

  pub leaves_open : (given_notice : Option GivenNotice) → given_notice ≡ notice_of copy.batch copy.place o old.open_rows → IsSome given_notice ↔ (live_count copy.batch copy.place new.open_rows ≡ 0) → IfNone given_notice (LeavesOpen copy o old new)
  leaves_open None quiet last = record { carries = λ h i is legal was. left_open h i is (accounted (Spent i copy.number o ∷ h) legal) was (sym quiet) (λ none. silent (last.1 none)) }
  leaves_open (Some given_notice) notice last = tt

  pub closes_batch : (given_notice : Option GivenNotice) → given_notice ≡ notice_of copy.batch copy.place o old.open_rows → IsSome given_notice ↔ (live_count copy.batch copy.place new.open_rows ≡ 0) → IfSome given_notice (ClosesBatch copy o old new)
  closes_batch None quiet last = tt
  closes_batch (Some given_notice) notice last = record {
    row = λ h i is legal was. may_notice h i is (accounted (Spent i copy.number o ∷ h) legal) was given_notice (last.0 refl) (sym notice);
    creator = λ h i is legal was.
        let account = accounted (Spent i copy.number o ∷ h) legal in
        subst (λ n. IsAmong (record { number = n; creator = given_notice.instance }) (unnoticed h)) (sym (says h i is account was given_notice (last.0 refl) (sym notice)).0)
        (subst (IsAmong (record { number = copy.batch; creator = given_notice.instance })) was.opens
        (shuts copy.batch o old.next old.open_rows given_notice was.kept.rows (notice_there h i is account was given_notice (last.0 refl) (sym notice))).had);
    carries = λ h i is legal was. closed h i is (accounted (Spent i copy.number o ∷ h) legal) was given_notice (last.0 refl) (sym notice);
  }
