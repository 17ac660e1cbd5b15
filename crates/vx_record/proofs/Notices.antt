-- A batch is noticed once, at the Spent of its last live copy.
use Rattle.std.proofs.Common.{◌≡◌, ℕ, zero, suc, ◌+◌, ◌-◌, ◌*◌, ◌%◌, ◌<◌, ◌≤◌, List, [], ◌∷◌, sym, refl, ap, ◌∙◌, subst, arith, length, inl, inr}
use Rattle.std.specs.Prelude.{slice_index}
use Rattle.std.proofs.lemmas.Bool.Decides.{nat_tests}
use Rattle.std.proofs.lemmas.Bool.{cases_lt, cases_eq}
use Rattle.std.proofs.Math.Nat.{mod-eq_of_lt}
use Rattle.vx_record.specs.declared.entry.Entry.{Entry}
use Rattle.vx_value.specs.declared.event.Event.{Event}
use Rattle.vx_record.specs.Records.{Record}
use Rattle.vx_record.specs.declared.child.Child.{Child}
use Rattle.vx_record.specs.declared.entry.Entry.TheVariants.{Born, Split, Spent, Notice}
use Rattle.vx_record.specs.Copies.{count, next_copy, splits, spends, IsLive}
use Rattle.vx_record.specs.Batches.{parent, batch_of, root_of, batches}
use Rattle.vx_record.specs.Moving.{IsConserved}
use Rattle.vx_record.specs.Accounting.{IsAccounted}
use Rattle.vx_record.specs.Laws.{times_noticed, AccountedOnce, AccountedLate}
use Rattle.vx_record.proofs.Counts.{count-append}
use Rattle.vx_record.proofs.OnePlace.{tracked}
use Rattle.vx_record.proofs.Dues.{NoneLive, Awaits, none_live, awaits, awaits_not, undue}
use Rattle.vx_record.proofs.Live.{if_lt, if_ge, unmade_whole, split_live, place_of_counted, parent_live}

-- what accounts conserves
pub kept : (h : Record) → IsAccounted h → IsConserved h
kept [] sound = tt
kept (e ∷ h) sound = (sound.0.conserves, kept h sound.1)

-- the batch and the root of a copy were born before
pub batch_made : (h : Record) (c : ℕ) → IsAccounted h → c < next_copy h → (batch_of h c < next_copy h) × (root_of h c < next_copy h)
batch_made [] c sound l = absurd (omega arith)
batch_made (Born i b place copies events waits stream end ∷ h) c sound l =
    let a = sound.0.accounts in
    elim (cases_lt c (next_copy h)) [
      | inl below ↦
          let r = batch_made h c sound.1 below in
          let x = if_lt c (next_copy h) (batch_of h c) b below in
          let y = if_lt c (next_copy h) (root_of h c) c below in
          (omega arith, omega arith)
      | inr above ↦
          let x = if_ge c (next_copy h) (batch_of h c) b above in
          let y = if_ge c (next_copy h) (root_of h c) c above in
          (omega arith, omega arith)
    ]
batch_made (Split i ports copies event children ∷ h) c sound l =
    let p = parent (next_copy h) copies c in
    elim (cases_lt c (next_copy h)) [
      | inl below ↦
          let r = batch_made h c sound.1 below in
          let x = if_lt c (next_copy h) (batch_of h c) (batch_of h p) below in
          let y = if_lt c (next_copy h) (root_of h c) (root_of h p) below in
          (omega arith, omega arith)
      | inr above ↦
          let s = parent_live h c i ports copies event children (kept (Split i ports copies event children ∷ h) sound) above l in
          let r = batch_made h p sound.1 s.0 in
          let x = if_ge c (next_copy h) (batch_of h c) (batch_of h p) above in
          let y = if_ge c (next_copy h) (root_of h c) (root_of h p) above in
          (omega arith, omega arith)
    ]
batch_made (e ∷ h) c sound l = let r = batch_made h c sound.1 (omega arith) in (omega arith, omega arith)

pub live_back : (h : Record) (e : Entry) (c : ℕ) → c < next_copy h → IsLive (e ∷ h) c → IsLive h c
live_back h e c l v = (l, omega (arith, count-append), omega (arith, count-append))

pub live_forth : (h : Record) (e : Entry) (c : ℕ) → count c (splits e) ≡ 0 → count c (spends e) ≡ 0 → IsLive h c → IsLive (e ∷ h) c
live_forth h e c s x v = (omega arith, omega (arith, count-append), omega (arith, count-append))

awaits_none : (h : Record) (b : ℕ) → Awaits h b → NoneLive h b
awaits_none (Spent i c outcome ∷ h) b w = w.1
awaits_none h b w = absurd w

awaits_one : (h : Record) (b b' : ℕ) → Awaits h b → Awaits h b' → b ≡ b'
awaits_one (Spent i c outcome ∷ h) b b' w w' = sym w.0 ∙ w'.0
awaits_one h b b' w w' = absurd w

awaits_made : (h : Record) (b : ℕ) → IsAccounted h → Awaits h b → b < next_copy h
awaits_made (Spent i c outcome ∷ h) b sound w = let r = batch_made h c sound.1 sound.0.conserves.0 in let e = w.0 in omega arith
awaits_made h b sound w = absurd w

at_least : (k m : ℕ) → 0 < k → m ≤ k * m
at_least zero m l = absurd (omega arith)
at_least (suc k) m l = omega arith

-- the first child of a copy that a Split replaced
first_child : (h : Record) (c i ports : ℕ) (copies : List ℕ) (event : Event) (children : List Child) → IsAccounted (Split i ports copies event children ∷ h) →
    0 < count c copies → (d : ℕ) × (batch_of (Split i ports copies event children ∷ h) d ≡ batch_of h c) × IsLive (Split i ports copies event children ∷ h) d
first_child h c i ports copies event children sound l =
    let (j, within, at) = place_of_counted copies c l in
    let d = next_copy h + j in
    let back : (next_copy h + j) - next_copy h ≡ j = omega arith in
    let remainder : ((next_copy h + j) - next_copy h) % length copies ≡ j = ap (λ n. n % length copies) back ∙ mod-eq_of_lt within in
    let p : parent (next_copy h) copies d ≡ c = ap (slice_index copies) remainder ∙ at in
    let whole = unmade_whole h d (tracked h d (kept h sound.1)) (omega arith) in
    let room : length copies ≤ length children * length copies = at_least (length children) (length copies) sound.0.accounts in
    let unsplit : count d copies ≡ 0 =
    elim (cases_lt 0 (count d copies)) [
      | inl some ↦ let v = split_live h d i ports copies event children (tracked h d (kept h sound.1)) sound.0.conserves some in let u = v.0 in absurd (omega arith)
      | inr none ↦ omega arith
    ] in (
      d,
      if_ge d (next_copy h) (batch_of h d) (batch_of h (parent (next_copy h) copies d)) (omega arith) ∙ ap (batch_of h) p,
      (omega arith, omega (arith, count-append), omega (arith, count-append)),
    )

-- what is known of the notices of a batch
pub record Noticed (h : Record) (b : ℕ) : Type 0 where
  pub early : (c : ℕ) → batch_of h c ≡ b → IsLive h c → times_noticed h b ≡ 0
  pub due : Awaits h b → times_noticed h b ≡ 0
  pub future : next_copy h ≤ b → times_noticed h b ≡ 0
  pub done : 0 < count b (batches h) → NoneLive h b → (Awaits h b → ⊥) → times_noticed h b ≡ 1

pub noticed : (h : Record) (b : ℕ) → IsAccounted h → Noticed h b
noticed [] b sound = record { early = λ c e v. refl; due = λ w. refl; future = λ l. refl; done = λ l n w. absurd (omega arith) }
noticed (Born i b' place copies events waits stream end ∷ h) b sound =
    let old = noticed h b sound.1 in
    let a = sound.0.accounts in
    record {
      early = λ c bc v. elim (cases_lt c (next_copy h)) [
        | inl below ↦ old.early c (sym (if_lt c (next_copy h) (batch_of h c) b' below) ∙ bc) (live_back h (Born i b' place copies events waits stream end) c below v)
        | inr above ↦ let x = if_ge c (next_copy h) (batch_of h c) b' above in old.future (omega arith)
      ];
      due = λ w. absurd w;
      future = λ l. old.future (omega arith);
      done = λ has none w. elim (cases_eq b' b) [
        | inl new ↦
            let c = next_copy h in
            let whole = unmade_whole h c (tracked h c (kept h sound.1)) (omega arith) in
            absurd (none c (if_ge c c (batch_of h c) b' (omega arith) ∙ new) (omega arith, omega (arith, count-append), omega (arith, count-append)))
        | inr other ↦
            let has_old : 0 < count b (batches h) = grind (arith, nat_tests) in
            old.done has_old
            (λ c bc v. none c (if_lt c (next_copy h) (batch_of h c) b' v.0 ∙ bc) (live_forth h (Born i b' place copies events waits stream end) c refl refl v))
            (undue h sound.0.turn b)
      ];
    }
noticed (Split i ports copies event children ∷ h) b sound =
    let old = noticed h b sound.1 in
    let e = Split i ports copies event children in
    record {
      early = λ c bc v. elim (cases_lt c (next_copy h)) [
        | inl below ↦ old.early c (sym (if_lt c (next_copy h) (batch_of h c) (batch_of h (parent (next_copy h) copies c)) below) ∙ bc) (live_back h e c below v)
        | inr above ↦
            old.early (parent (next_copy h) copies c)
            (sym (if_ge c (next_copy h) (batch_of h c) (batch_of h (parent (next_copy h) copies c)) above) ∙ bc)
            (parent_live h c i ports copies event children (kept (Split i ports copies event children ∷ h) sound) above v.0)
      ];
      due = λ w. absurd w;
      future = λ l. old.future (omega arith);
      done = λ has none w. old.done has
          (λ c bc v. elim (cases_lt 0 (count c copies)) [
            | inl some ↦ let (d, same, live) = first_child h c i ports copies event children sound some in none d (same ∙ bc) live
            | inr rest ↦
                none c (if_lt c (next_copy h) (batch_of h c) (batch_of h (parent (next_copy h) copies c)) v.0 ∙ bc)
                (live_forth h e c (omega arith) refl v)
          ])
          (undue h sound.0.turn b);
    }
noticed (Spent i d outcome ∷ h) b sound =
    let old = noticed h b sound.1 in
    let e = Spent i d outcome in
    record {
      early = λ c bc v. old.early c bc (live_back h e c (omega arith) v);
      due = λ w. old.early d w.0 sound.0.conserves;
      future = λ l. old.future (omega arith);
      done = λ has none w. old.done has
          (λ c bc v. elim (cases_eq d c) [
            | inl last ↦ w (ap (batch_of h) last ∙ bc, none)
            | inr other ↦ none c bc (live_forth h e c refl (grind (arith, nat_tests)) v)
          ])
          (undue h sound.0.turn b);
    }
noticed (Notice b' status ∷ h) b sound =
    let old = noticed h b sound.1 in
    let e = Notice b' status in
    elim (cases_eq b' b) [
      | inl same ↦
          let here : Awaits h b = subst (Awaits h) same (awaits h b' sound.0.accounts.due) in
          let none_yet = old.due here in
          record {
            early = λ c bc v. absurd (awaits_none h b here c bc (live_back h e c (omega arith) v));
            due = λ w. absurd w;
            future = λ l. let m = awaits_made h b sound.1 here in absurd (omega arith);
            done = λ has none w. grind (arith, nat_tests);
          }
      | inr other ↦
          let skip : times_noticed (Notice b' status ∷ h) b ≡ times_noticed h b = grind (arith, nat_tests) in
          record {
            early = λ c bc v. skip ∙ old.early c bc (live_back h e c (omega arith) v);
            due = λ w. absurd w;
            future = λ l. skip ∙ old.future (omega arith);
            done = λ has none w. skip ∙ old.done has (λ c bc v. none c bc (live_forth h e c refl refl v)) (λ w'. other (awaits_one h b' b (awaits h b' sound.0.accounts.due) w'));
          }
    ]
noticed (e ∷ h) b sound =
    let old = noticed h b sound.1 in
    record {
      early = λ c bc v. old.early c bc (live_back h e c (omega arith) v);
      due = λ w. absurd w;
      future = λ l. old.future (omega arith);
      done = λ has none w. old.done has (λ c bc v. none c bc (live_forth h e c refl refl v)) (undue h sound.0.turn b);
    }

pub accounted_once : AccountedOnce
accounted_once h sound b has none w = (noticed h b sound).done has (none_live h b none) (awaits_not h b w)

pub accounted_late : AccountedLate
accounted_late h sound b c bc v = (noticed h b sound).early c bc v
