-- A record is legal where what is found of each entry is what is wanted.
use Rattle.std.proofs.Common.{◌≡◌, ℕ, Bool, true, false, not, ◌&&◌, ◌||◌, ◌⊎◌, inl, inr, Some, List, [], ◌∷◌, refl, arith}
use Rattle.std.specs.Prelude.{nat_le, nat_lt}
use Rattle.std.proofs.lemmas.Bool.{and_parts}
use Rattle.std.proofs.lemmas.Bool.Decides.{nat_tests}
use Rattle.vx_value.specs.Texts.{ByteString, is_empty}
use Rattle.vx_ends.specs.declared.trouble.Reply.{Reply}
use Rattle.vx_ends.specs.declared.trouble.Reply.TheVariants as reply
use Rattle.vx_status.specs.declared.outcome.Outcome.{Outcome}
use Rattle.vx_status.specs.declared.outcome.Outcome.TheVariants.{Delivered, Filtered, NewestDropped, NoConsumer, Attempts, Abandoned, Refusal}
use Rattle.vx_record.specs.declared.entry.Entry.{Entry}
use Rattle.vx_record.specs.declared.entry.Entry.TheVariants.{Install, Lease, Home, Read, Idle, SourceLost, Born, Split, Push, Take, Tick, Answer, Attempt, Spent, Notice, Confirm, Closed, Retired, Abandon}
use Rattle.vx_record.specs.Records.{Record}
use Rattle.vx_record.specs.Installs.{device_at}
use Rattle.vx_record.specs.Ready.{is_ready, IsReady, IsTickReady}
use Rattle.vx_record.specs.Answering.{MayFlush}
use Rattle.vx_record.specs.Inputs.{Input, unanswered}
use Rattle.vx_record.specs.Lists.{buffered}
use Rattle.vx_record.specs.Routing.{is_ending}
use Rattle.vx_record.specs.Sending.{IsOldest}
use Rattle.vx_record.specs.Sourcing.{MayTurn, failed_starts}
use Rattle.vx_record.specs.Abandoning.{abandoned}
use Rattle.vx_record.specs.Owing.{is_done}
use Rattle.vx_record.specs.Spending.{HasCause}
use Rattle.vx_record.specs.Legal.{Allows, IsInTurn, IsLegal}
use Rattle.vx_examples.proofs.Findings.{Finding, is_new, first_of, is_ok, if_ok, turn_found, turn_wanted, cause_found, cause_wanted, found, wanted, is_out_of_turn, all_found, all_wanted, asks, Beside, given_with, AllBeside}

-- one follows from another
implied : (a b : Bool) → (not a || b) ≡ true → a ≡ true → b ≡ true
implied true b one there = one
implied false b one there = absurd (cc)

-- not both hold
excluded : (a b : Bool) → (a && b) ≡ false → a ≡ true → b ≡ false
excluded true b both there = both
excluded false b both there = absurd (cc)

-- one of two holds
one_is : (a b : Bool) → (a || b) ≡ true → (a ≡ true) ⊎ (b ≡ true)
one_is true b one = inl refl
one_is false b one = inr one

-- the other does
other_is : (a b : Bool) → (a || b) ≡ true → a ≡ false → b ≡ true
other_is true b one there = absurd (cc)
other_is false b one there = one

-- nothing stands before the first entry
nothing_before : (h : Record) → is_new h ≡ true → h ≡ []
nothing_before [] new = refl
nothing_before (e ∷ h) new = absurd (cc)

-- the first of some parcels is the oldest
oldest_is : (copies : List ℕ) (parcels : List (List ℕ)) → first_of parcels ≡ Some copies → IsOldest copies parcels
oldest_is copies [] first = absurd (cc)
oldest_is copies (parcel ∷ younger) first = cc

-- a reply that is that all was taken
ok_is : (answer : Reply) → is_ok answer ≡ true → answer ≡ reply.Ok
ok_is reply.Ok ok = refl
ok_is reply.Failed ok = absurd (cc)
ok_is reply.Refused ok = absurd (cc)

-- an attempt that is answered so gave all bytes
whole_is : (answer : Reply) (bytes whole : ByteString) → if_ok answer whole ≡ if_ok answer bytes → answer ≡ reply.Ok → bytes ≡ whole
whole_is reply.Ok bytes whole same ok = cc
whole_is reply.Failed bytes whole same ok = absurd (cc)
whole_is reply.Refused bytes whole same ok = absurd (cc)

-- a source may take its turn
turn_is : (h : Record) (i : ℕ) (more least : List Finding) → turn_found h i more ≡ turn_wanted least → MayTurn h i
turn_is h i more least same = record { source = cc; out = cc; readable = cc; once = cc }

-- an outcome has its cause
cause_is : (h : Record) (i c : ℕ) (outcome : Outcome) → cause_found h i c outcome ≡ cause_wanted outcome → Beside h (Spent i c outcome) →
    HasCause h i c outcome
cause_is h i c Delivered same beside = record { had = grind (arith, nat_tests); answered = cc }
cause_is h i c Refusal same beside = record { had = grind (arith, nat_tests); answered = cc }
cause_is h i c Attempts same beside = grind (arith, nat_tests)
cause_is h i c Filtered same beside = grind (arith, nat_tests)
cause_is h i c NewestDropped same beside = beside
cause_is h i c NoConsumer same beside = record { next = grind (arith, nat_tests); none_waits = cc; no_target = cc }
cause_is h i c Abandoned same beside = (cc, cc)

-- an instance has work, or its transform is to act
ready_is : (h : Record) (i now : ℕ) → (is_ready h i now ≡ false → IsTickReady h i now) → IsReady h i now
ready_is h i now tick = go _ refl
  where
    go : (b : Bool) → is_ready h i now ≡ b → IsReady h i now
    go true is = inl is
    go false is = inr (tick is)

-- a list in which nothing is
no_copies : {X : Type 0} (xs : List X) → is_empty xs ≡ true → xs ≡ []
no_copies [] empty = refl
no_copies (x ∷ xs) empty = absurd (cc)

-- three things hold where nothing was given
if_nothing : (given : List Input) (a b c : Bool) → (not (is_empty given) || (a && (b && c))) ≡ true → given ≡ [] →
    (a ≡ true) × (b ≡ true) × (c ≡ true)
if_nothing [] a b c all none = let first = and_parts a (b && c) all in let second = and_parts b c first.1 in (first.0, second.0, second.1)
if_nothing (x ∷ xs) a b c all none = absurd (cc)

-- an answer to nothing is one to the flush
flush_is : (h : Record) (i : ℕ) (kept : List ℕ) →
    (not (is_empty (unanswered h i)) || (is_ending h i && (is_empty (buffered h i) && is_empty kept))) ≡ true → unanswered h i ≡ [] →
    MayFlush h i kept
flush_is h i kept all none =
    let parts = if_nothing (unanswered h i) (is_ending h i) (is_empty (buffered h i)) (is_empty kept) all none in
    record { ending = parts.0; drained = no_copies (buffered h i) parts.1; emptied = no_copies kept parts.2 }

-- an entry meets its row
row_is : (h : Record) (e : Entry) → found h e ≡ wanted e → Beside h e → Allows h e
row_is h (Install version plan once given now) same beside =
    record { first = nothing_before h cc; zeroth = cc; accepted = beside; all_new = cc }
row_is h (Lease i worker now polls) same beside = record {
  unleased = cc;
  unretired = cc;
  settled = cc;
  ready = ready_is h i now beside;
  later = grind (arith, nat_tests);
  unpolled = cc;
}
row_is h (Home i) same beside = record { out = cc }
row_is h (Read i stream took) same beside = record { turn = turn_is h i [] [] same; generated = beside }
row_is h (Idle i failed) same beside =
    record { turn = turn_is h i _ _ same; device = cc; few = λ f. let e = implied failed (nat_lt (failed_starts h i) 4) (cc) f in grind (arith, nat_tests) }
row_is h (SourceLost i at failed) same beside =
    record { turn = turn_is h i _ _ same; device = cc; after = cc; many = λ f. let e = implied failed (nat_le 4 (failed_starts h i)) (cc) f in grind (arith, nat_tests) }
row_is h (Born i batch place copies events waits stream end) same beside = record {
  yields = cc;
  some = grind (arith, nat_tests);
  one_each = cc;
  next = cc;
  number = cc;
  waiting = cc;
  fits = grind (arith, nat_tests);
}
row_is h (Split i ports copies e made) same beside = record {
  split = record {
    unleased = cc;
    none_waits = cc;
    oldest = oldest_is copies _ cc;
    on_ports = cc;
    same_event = cc;
    some = grind (arith, nat_tests);
    made = cc;
  };
  fits = grind (arith, nat_tests);
}
row_is h (Push i t s copies) same beside = record { unleased = cc; oldest = oldest_is copies _ cc; room = cc }
row_is h (Take i s copies) same beside =
    record { out = cc; only_takes = cc; few = grind (arith, nat_tests); first = cc; oldest = oldest_is copies _ cc; unclosed = excluded _ _ cc; room = excluded _ _ cc; unticked = excluded _ _ cc }
row_is h (Tick i now) same beside = record { out = cc; of_lease = cc; due = beside; once = cc }
row_is h (Answer i put discarded kept) same beside =
    record { out = cc; settled = cc; rule = beside.rule; follows = beside.follows; made = beside.made; refused = beside.refused; same = beside.same; in_order = cc; flush = flush_is h i kept (cc) }
row_is h (Attempt i copies bytes answer) same beside = record {
  sink = cc;
  out = cc;
  once = cc;
  all = cc;
  batch_closed = cc;
  waited = grind (arith, nat_tests);
  given = cc;
  whole = whole_is answer bytes _ cc;
  blackhole_ok = λ none. ok_is answer (other_is (device_at h i) (is_ok answer) (cc) none);
}
row_is h (Spent i c outcome) same beside = record {
  live = (grind (arith, nat_tests), cc, cc);
  here = grind (arith, nat_tests);
  cause = cause_is h i c outcome (cc) beside;
}
row_is h (Notice b said) same beside = record { due = cc; folded = cc }
row_is h (Confirm i given made) same beside =
    record { source = cc; device = cc; out = cc; once = cc; was_due = cc; all_due = cc }
row_is h (Closed i) same beside = record {
  device = cc;
  unclosed = cc;
  over = elim (one_is _ (abandoned h) cc) [ inl done ↦ inl (and_parts _ _ done) | inr gone ↦ inr gone ];
}
row_is h (Retired i) same beside = record {
  known = cc;
  unleased = cc;
  unretired = cc;
  port_closed = implied _ _ cc;
  over = elim (one_is (is_done h i) _ cc) [ inl done ↦ inl done | inr gone ↦ inr (and_parts _ _ gone) ];
}
row_is h (Abandon cause) same beside = record { first = cc; reason = beside }

in_turn : (h : Record) (e : Entry) → is_out_of_turn h e ≡ false → IsInTurn h e
in_turn h (Notice b said) due = tt
in_turn h other due = due

-- nothing is asked where nothing needs to be given
unasked : (h : Record) (e : Entry) → asks h e ≡ false → Beside h e
unasked h (Install version plan once given now) none = absurd (cc)
unasked h (Lease i worker now polls) none = λ e. absurd (cc)
unasked h (Read i stream took) none = λ demo e. absurd (cc)
unasked h (Tick i now) none = absurd (cc)
unasked h (Answer i put discarded kept) none = absurd (cc)
unasked h (Spent i c NewestDropped) none = absurd (cc)
unasked h (Abandon cause) none = absurd (cc)
unasked h other none = tt

-- what is given for an entry, and for those before it
parted : (h : Record) (e : Entry) → AllBeside (e ∷ h) → Beside h e × AllBeside h
parted h e given = go (asks h e) refl given
  where
    go : (b : Bool) → asks h e ≡ b → given_with b (Beside h e) (AllBeside h) → Beside h e × AllBeside h
    go true is all = all
    go false is all = (unasked h e is, all)

-- a record is legal where what is found is as it is wanted
pub legal_by : (h : Record) → all_found h ≡ all_wanted h → AllBeside h → IsLegal h
legal_by [] same given = tt
legal_by (e ∷ h) same given =
    let both = parted h e given in
    (record { row = row_is h e (cc) both.0; turn = in_turn h e cc; still = implied _ _ cc }, legal_by h (cc) both.1)
