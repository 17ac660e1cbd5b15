-- What an instance owes: nothing while it is out and took no turn, nor behind what it did; and a birth where it read events.
use Rattle.std.proofs.Common.{◌≡◌, ◌∙◌, ℕ, ◌+◌, ◌<◌, ◌≤◌, Bool, true, false, not, List, [], ◌∷◌, ◌++◌, length, Some, None, refl, sym, ap, arith, inl, inr}
use Rattle.std.specs.Prelude.{◌==◌, ◌&&◌, ◌||◌, ◌-◌, ◌^◌, min, nat_lt, if◌then◌else◌}
use Rattle.std.specs.List.{list_any}
use Rattle.std.proofs.lemmas.Bool.{cases_Bool, cases_lt, eqb-true, lt-ltb, ne_eqb, or_from, or_parts}
use Rattle.std.proofs.lemmas.Bool.Decides.{nat_tests}
use Rattle.std.proofs.lemmas.List.{append-nil, length-append}
use Rattle.vx_value.specs.Texts.{ByteString, is_empty}
use Rattle.vx_value.specs.declared.event.Event.{Event}
use Rattle.vx_ledger.specs.declared.short.Short.{Short}
use Rattle.vx_ledger.specs.declared.short.Short.TheVariants.{Numbers, WantOfMemory}
use Rattle.vx_ends.specs.declared.position.Position.{Position}
use Rattle.vx_ends.specs.declared.trouble.Reply.{Reply}
use Rattle.vx_status.specs.declared.outcome.Outcome.{Outcome}
use Rattle.vx_status.specs.declared.batch_status.BatchStatus.{BatchStatus}
use Rattle.vx_record.specs.declared.entry.Entry.{Entry}
use Rattle.vx_record.specs.declared.entry.Entry.TheVariants.{Install, Lease, Home, Read, Born, Answer, Attempt, Spent, Notice, Confirm, Abandon}
use Rattle.vx_record.specs.declared.output.Output.{Output}
use Rattle.vx_record.specs.declared.taken.Taken.{Taken}
use Rattle.vx_record.specs.Records.{Record}
use Rattle.vx_record.specs.Abandoning.{abandoned}
use Rattle.vx_record.specs.Additions.{OnlyAdds}
use Rattle.vx_record.specs.Ceasing.{cause_of}
use Rattle.vx_record.specs.Confirms.{Birth, births, births_in}
use Rattle.vx_record.specs.Copies.{count, contains, joined, all_of, next_copy, spends, times_spent}
use Rattle.vx_record.specs.Installs.{transform_at}
use Rattle.vx_record.specs.Legal.{IsLegal}
use Rattle.vx_record.specs.Lists.{held}
use Rattle.vx_record.specs.Owing.{fruitful, is_decided, unspent_of, decided, last_discarded, took_since, owes_birth, owes_spends_in, owes_discards, owes_answer, owes}
use Rattle.vx_record.specs.Parcels.{first_copy}
use Rattle.vx_record.specs.Places.Place.{Held}
use Rattle.vx_record.specs.Reads.{events_of}
use Rattle.vx_record.specs.Shifts.{at}
use Rattle.vx_record.specs.SinkBatches.{attempts_with, attempts_allowed, failures_with}
use Rattle.vx_record.specs.Sourcing.{Yield, yield, yield_of}
use Rattle.vx_record.specs.Turns.{is_out, since_lease, is_turn_of, is_attempt_of}
use Rattle.vx_record.proofs.Adding.{adds_wider, carry}
use Rattle.vx_record.proofs.Attempted.{attempted_held}
use Rattle.vx_record.proofs.Counts.{count-append}
use Rattle.vx_record.proofs.Further.{numbers_bounded}
use Rattle.vx_record.proofs.Promises.{discarded_held}
use Rattle.vx_record.proofs.Shifting.{stands_at}
use Rattle.vx_record.proofs.Untried.{owed_spent}
use Rattle.vx_keeping.specs.Keeping.{OwesOnly}
use Rattle.vx_counts.proofs.Once.{itself}
use Rattle.vx_moves.specs.Creating.{IsBirthShort}
use Rattle.vx_moves.specs.Returns.{AreSettled}
use Rattle.vx_moves.specs.Spends.{IsSpendOf}
use Rattle.vx_landing.specs.Failures.{LacksBirth}
use Rattle.vx_landing.specs.Landings.{owes_entries}

-- a run that wasn't given up has no cause
pub uncaused : (h : Record) → abandoned h ≡ false → cause_of h ≡ None
uncaused [] going = refl
uncaused (Abandon cause ∷ h) going = cc
uncaused (e ∷ h) going = uncaused h going

-- who is out behind a return was out before it
pub was_out : (b c : Bool) → (if b then false else c) ≡ true → c ≡ true
was_out true c out = cc
was_out false c out = out

-- THE PARTS
-- what an instance may owe of what it did
pub record OwesWorkEntries (h : Record) (i : ℕ) : Type 0 where
  pub birth : owes_birth h i ≡ false
  pub spends : owes_spends_in h h i ≡ false

pub work_entries_none : (h : Record) (i : ℕ) → owes_entries h i ≡ false → OwesWorkEntries h i
work_entries_none h i none =
    let two = or_parts (owes_birth h i) (owes_spends_in h h i) (or_parts (owes_birth h i || owes_spends_in h h i) (owes_discards h i) none).0 in
    record { birth = two.0; spends = two.1 }

-- with what it discarded, and what it took
pub entries_none : (h : Record) (i : ℕ) → OwesWorkEntries h i → owes_discards h i ≡ false → owes_entries h i ≡ false
entries_none h i work_entries discards =
    or_from (owes_birth h i || owes_spends_in h h i) (owes_discards h i) (or_from (owes_birth h i) (owes_spends_in h h i) work_entries.birth work_entries.spends) discards

pub owes_none : (h : Record) (i : ℕ) → owes_entries h i ≡ false → owes_answer h i ≡ false → owes h i ≡ false
owes_none h i entries answer = or_from (owes_entries h i) (owes_answer h i) entries answer

pub owes_parts : (h : Record) (i : ℕ) → owes h i ≡ false → (owes_entries h i ≡ false) × (owes_answer h i ≡ false)
owes_parts h i none = or_parts (owes_entries h i) (owes_answer h i) none

-- what is owed, by how many were born and how many are to be, by what was decided and discarded, by what is spent, and by whether an answer is
abbrev owing : ℕ → ℕ → List (List ℕ) → List ℕ → List ℕ → Bool → Bool
owing born fruits settled discarded spent answer =
    nat_lt born fruits || list_any (λ copies. list_any (λ c. count c spent == 0) copies) settled || list_any (λ c. count c spent == 0) discarded || answer

born_enough : (h : Record) (i : ℕ) → owes h i ≡ false → owes_birth h i ≡ false
born_enough h i none = (work_entries_none h i (owes_parts h i none).0).birth

-- nothing is, where as much is spent and enough was born
owing_none : (h : Record) (i born fruits : ℕ) (spent : List ℕ) (answer : Bool) → spent ≡ all_of spends h → nat_lt born fruits ≡ false →
    answer ≡ owes_answer h i → owes h i ≡ false → owing born fruits (decided h i) (last_discarded h i) spent answer ≡ false
owing_none h i born fruits spent answer same enough alike none = rw (same, enough, alike) (rw (born_enough h i none) at none)

-- so it is behind an entry that neither creates a batch nor spends
owing_next : (h : Record) (i fruits : ℕ) (answer : Bool) → nat_lt (length (births h i)) fruits ≡ false → answer ≡ owes_answer h i → owes h i ≡ false →
    owing (length (births h i ++ [])) fruits (decided h i) (last_discarded h i) (all_of spends h ++ []) answer ≡ false
owing_next h i fruits answer enough = owing_none h i (length (births h i ++ [])) fruits (all_of spends h ++ []) answer (append-nil (all_of spends h)) (rw append-nil enough)

-- what is spent stays so
spent_more : (h : Record) (e : Entry) (c : ℕ) → (times_spent h c == 0) ≡ false → (times_spent (e ∷ h) c == 0) ≡ false
spent_more h e c some = let few : times_spent (e ∷ h) c ≡ times_spent h c + count c (spends e) = count-append c (all_of spends h) (spends e) in grind (arith, nat_tests, some, few)

unspent_less : (h : Record) (e : Entry) (copies : List ℕ) → unspent_of h copies ≡ false → unspent_of (e ∷ h) copies ≡ false
unspent_less h e [] none = refl
unspent_less h e (c ∷ cs) none =
    let two = or_parts (times_spent h c == 0) (unspent_of h cs) none in
    or_from (times_spent (e ∷ h) c == 0) (unspent_of (e ∷ h) cs) (spent_more h e c two.0) (unspent_less h e cs two.1)

each_less : (h : Record) (e : Entry) (parcels : List (List ℕ)) → list_any (unspent_of h) parcels ≡ false → list_any (unspent_of (e ∷ h)) parcels ≡ false
each_less h e [] none = refl
each_less h e (p ∷ ps) none =
    let two = or_parts (unspent_of h p) (list_any (unspent_of h) ps) none in
    or_from (unspent_of (e ∷ h) p) (list_any (unspent_of (e ∷ h)) ps) (unspent_less h e p two.0) (each_less h e ps two.1)

-- so an entry that neither creates a batch, reads nor attempts leaves what is owed of what was done
pub work_entries_on : (h : Record) (e : Entry) (i : ℕ) → births_in i e ≡ [] → fruitful (e ∷ h) i ≡ fruitful h i → decided (e ∷ h) i ≡ decided h i → OwesWorkEntries h i → OwesWorkEntries (e ∷ h) i
work_entries_on h e i unborn read tried was = record { birth = rw (unborn, append-nil, read) was.birth; spends = rw tried (each_less h e (decided h i) was.spends) }

-- and a confirm does what was discarded too
pub entries_confirmed : (h : Record) (i : ℕ) (positions : List Position) (made : Bool) → owes_entries h i ≡ false → owes_entries (Confirm i positions made ∷ h) i ≡ false
entries_confirmed h i positions made none =
    let e = Confirm i positions made in
    entries_none (e ∷ h) i (work_entries_on h e i refl refl refl (work_entries_none h i none))
    (unspent_less h e (last_discarded h i) (or_parts (owes_birth h i || owes_spends_in h h i) (owes_discards h i) none).1)

none_more : (n : ℕ) → n + 0 ≡ n
none_more n = omega arith

-- WHILE OUT
-- a birth stands directly behind a turn of its source
unborn : (h : Record) (i j : ℕ) (y : Yield) → yield h j ≡ Some y → list_any (is_turn_of i) (since_lease h i) ≡ false → (j == i) ≡ false
unborn [] i j y yields none = cc
unborn (Read k stream took ∷ h) i j y yields none = elim (cases_Bool (k == j)) [
  | inl is ↦ rw (eqb-true k j is) at (or_parts (k == i) (list_any (is_turn_of i) (since_lease h i)) none).0
  | inr far ↦ let never = rw far at yields in cc
]
unborn (e ∷ h) i j y yields none = cc

-- what others attempted doesn't count
unobserved : {X : Type 0} (own done : Bool) (more before : X) → own ≡ false → (if own && done then more else before) ≡ before
unobserved true done more before far = cc
unobserved false done more before far = refl

-- what is out and took no turn nor made an attempt since its lease owes nothing of what it did
work_entries_out : (h : Record) (i : ℕ) → IsLegal h → is_out h i ≡ true → list_any (is_turn_of i) (since_lease h i) ≡ false →
    list_any (is_attempt_of i) (since_lease h i) ≡ false → OwesWorkEntries h i
work_entries_out [] i legal out unturned untried = cc
work_entries_out (Install version plan once instances now ∷ h) i legal out unturned untried =
    let none = rw legal.0.row.first at out in cc
work_entries_out (Lease j worker now polls ∷ h) i legal out unturned untried =
    work_entries_on h (Lease j worker now polls) i refl refl refl (elim (cases_Bool (j == i)) [
      | inl is ↦ work_entries_none h i (owes_parts h i (rw (eqb-true j i is) at legal.0.row.settled)).0
      | inr far ↦ work_entries_out h i legal.1 (rw far at out) (rw far at unturned) (rw far at untried)
    ])
work_entries_out (Home j ∷ h) i legal out unturned untried =
    work_entries_on h (Home j) i refl refl refl (work_entries_out h i legal.1 (was_out (j == i) (is_out h i) out) unturned untried)
work_entries_out (Read j stream took ∷ h) i legal out unturned untried =
    let turned = or_parts (j == i) (list_any (is_turn_of i) (since_lease h i)) unturned in
    work_entries_on h (Read j stream took) i refl (rw turned.0 (none_more (fruitful h i))) refl (work_entries_out h i legal.1 out turned.1 untried)
work_entries_out (Born j b place copies events waits stream end ∷ h) i legal out unturned untried =
    let far = unborn h i j (record { events = events; stream = stream; end = end }) legal.0.row.yields unturned in
    work_entries_on h (Born j b place copies events waits stream end) i (rw far refl) refl refl (work_entries_out h i legal.1 out unturned untried)
work_entries_out (Attempt j copies bytes reply ∷ h) i legal out unturned untried =
    let tried = or_parts (j == i) (list_any (is_attempt_of i) (since_lease h i)) untried in
    work_entries_on h (Attempt j copies bytes reply) i refl refl (unobserved (j == i) _ _ _ tried.0) (work_entries_out h i legal.1 out unturned tried.1)
work_entries_out (e ∷ h) i legal out unturned untried =
    work_entries_on h e i refl refl refl (work_entries_out h i legal.1 out (or_parts (is_turn_of i e) (list_any (is_turn_of i) (since_lease h i)) unturned).1 untried)

-- nor anything but an answer, where all that it discarded is spent
pub owes_out : (h : Record) (i : ℕ) → IsLegal h → is_out h i ≡ true → list_any (is_turn_of i) (since_lease h i) ≡ false →
    list_any (is_attempt_of i) (since_lease h i) ≡ false → owes_discards h i ≡ false → owes_entries h i ≡ false
owes_out h i legal out unturned untried discards = entries_none h i (work_entries_out h i legal out unturned untried) discards

-- SPENDS
-- what is so of each spend of an instance and of each notice
pub of_spends : {i : ℕ} {outcome : Outcome} (F : Record → Entry → Type 0) → ((h : Record) (c : ℕ) → F h (Spent i c outcome)) →
    ((h : Record) (b : ℕ) (status : BatchStatus) → F h (Notice b status)) → (h : Record) (e : Entry) → IsSpendOf i outcome h e → F h e
of_spends F spent noticed h (Spent j c other) kind = rw (kind.0, kind.1) (spent h c)
of_spends F spent noticed h (Notice b status) kind = noticed h b status
of_spends F spent noticed h e kind = absurd kind

-- what each of them keeps, all of them keep
pub spends_keep : {i : ℕ} {outcome : Outcome} {old new : Record} (Keep : Record → Type 0) → ((h : Record) (c : ℕ) → Keep h → Keep (Spent i c outcome ∷ h)) →
    ((h : Record) (b : ℕ) (status : BatchStatus) → Keep h → Keep (Notice b status ∷ h)) → OnlyAdds (IsSpendOf i outcome) old new → Keep old → Keep new
spends_keep {i} {outcome} {old} {new} Keep spent noticed =
    carry (IsSpendOf i outcome) Keep (λ h e follows kind. of_spends (λ h e. Keep h → Keep (e ∷ h)) spent noticed h e kind) old new

-- entries of a wider kind
pub spends_wider : {i : ℕ} {outcome : Outcome} {old new : Record} (Wider : Record → Entry → Type 0) → ((h : Record) (c : ℕ) → Wider h (Spent i c outcome)) →
    ((h : Record) (b : ℕ) (status : BatchStatus) → Wider h (Notice b status)) → OnlyAdds (IsSpendOf i outcome) old new → OnlyAdds Wider old new
spends_wider {i} {outcome} {old} {new} Wider spent noticed = adds_wider (IsSpendOf i outcome) Wider (of_spends Wider spent noticed) old new

-- what owes no spends has spent all of which its attempts decided
pub settled_by : (h : Record) (i : ℕ) → owes_spends_in h h i ≡ false → AreSettled h i
settled_by h i none going c tried = owed_spent h h i c none tried

-- READS AND BIRTHS
-- behind a read that gives no event nothing is owed
pub owes_barren : (h : Record) (i stream : ℕ) (took : Taken) → events_of h i stream took ≡ [] → owes h i ≡ false → owes (Read i stream took ∷ h) i ≡ false
owes_barren h i stream took barren none =
    owing_next h i (fruitful h i + (if (i == i) && not (is_empty (events_of h i stream took)) then 1 else 0)) (owes_answer h i) (rw (itself i, barren, none_more) (born_enough h i none)) refl none

-- what a read yields
yielded : (h : Record) (i stream : ℕ) (took : Taken) (y : Yield) → yield (Read i stream took ∷ h) i ≡ Some y → yield_of h i stream took ≡ y
yielded h i stream took y is = let some = rw (itself i) at is in cc

-- behind a read and the birth of its batch nothing is owed
enough : (bs : List Birth) (birth : Birth) (fruits : ℕ) (some : Bool) → nat_lt (length bs) fruits ≡ false →
    nat_lt (length (bs ++ birth ∷ [])) (fruits + (if some then 1 else 0)) ≡ false
enough bs birth fruits some few = let size = length-append bs (birth ∷ []) in grind (arith, nat_tests, size, few)

pub owes_created : (h : Record) (i stream : ℕ) (took : Taken) (b place : ℕ) (copies : List ℕ) (events : List Event) (waits : Bool) (of end : ℕ) →
    owes h i ≡ false → owes (Born i b place copies events waits of end ∷ Read i stream took ∷ h) i ≡ false
owes_created h i stream took b place copies events waits of end none =
    owing_none h i (length ((births h i ++ []) ++ births_in i (Born i b place copies events waits of end))) (fruitful h i + (if (i == i) && not (is_empty (events_of h i stream took)) then 1 else 0))
    ((all_of spends h ++ []) ++ []) (owes_answer h i) (rw (append-nil, append-nil) refl)
    (rw (itself i, append-nil) (enough (births h i) (record { batch = b; waits = waits; stream = of; end = end }) (fruitful h i) (not (is_empty (events_of h i stream took))) (born_enough h i none)))
    refl none

-- ATTEMPTS
-- entries that neither create a batch, read, discard nor take leave what is owed beside spends
record OwesElse (h : Record) (i : ℕ) : Type 0 where
  birth : owes_birth h i ≡ false
  discards : owes_discards h i ≡ false
  answer : owes_answer h i ≡ false

else_none : (h : Record) (i : ℕ) → owes h i ≡ false → OwesElse h i
else_none h i none =
    let all = owes_parts h i none in
    let three = or_parts (owes_birth h i || owes_spends_in h h i) (owes_discards h i) all.0 in
    record { birth = born_enough h i none; discards = three.1; answer = all.1 }

else_on : (h : Record) (e : Entry) (i : ℕ) → births_in i e ≡ [] → fruitful (e ∷ h) i ≡ fruitful h i → last_discarded (e ∷ h) i ≡ last_discarded h i →
    owes_answer (e ∷ h) i ≡ owes_answer h i → OwesElse h i → OwesElse (e ∷ h) i
else_on h e i unborn read discarded answer was = record {
  birth = rw (unborn, append-nil, read) was.birth;
  discards = rw discarded (unspent_less h e (last_discarded h i) was.discards);
  answer = answer ∙ was.answer;
}

-- what was decided was attempted
tried_more : (own done : Bool) (c n : ℕ) (copies : List ℕ) (before : List (List ℕ)) → 0 < count c (joined (if own && done then copies ∷ before else before)) →
    (0 < count c (joined before) → 0 < n) → 0 < n + (if own && contains copies c then 1 else 0)
tried_more own done c n copies before some rest = let both = count-append c copies (joined before) in grind (arith, nat_tests, both, some, rest)

decided_tried : (h : Record) (i c : ℕ) → 0 < count c (joined (decided h i)) → 0 < attempts_with h i c
decided_tried [] i c some = absurd (omega (arith, some))
decided_tried (Attempt j copies bytes reply ∷ h) i c some =
    tried_more (j == i) (is_decided reply (failures_with h i (first_copy copies) + 1) (attempts_allowed h i)) c (attempts_with h i c) copies (decided h i) some (decided_tried h i c)
decided_tried (e ∷ h) i c some = decided_tried h i c some

-- where each of some copies is spent none is unspent
none_unspent : (whole : Record) (copies : List ℕ) → ((c : ℕ) → 0 < count c copies → 0 < times_spent whole c) → unspent_of whole copies ≡ false
none_unspent whole [] each = refl
none_unspent whole (x ∷ xs) each =
    let some = each x (rw (itself x) (omega arith)) in
    or_from (times_spent whole x == 0) (unspent_of whole xs) (ne_eqb (times_spent whole x) 0 (λ none. omega (arith, some, none))) (none_unspent whole xs (λ c l. each c (omega (arith, l))))

-- so it is of what the last answer discarded, of which nothing is left
pub discards_none : (h : Record) (i : ℕ) → OwesOnly h i [] → owes_discards h i ≡ false
discards_none h i owed = none_unspent h (last_discarded h i) (λ c some. elim (cases_lt 0 (times_spent h c)) [
  | inl spent ↦ spent
  | inr few ↦ let left : 0 < count c [] = owed c some (omega (arith, few)) in absurd (omega (arith, left))
])

each_unspent : (whole : Record) (parcels : List (List ℕ)) → ((c : ℕ) → 0 < count c (joined parcels) → 0 < times_spent whole c) →
    list_any (unspent_of whole) parcels ≡ false
each_unspent whole [] each = refl
each_unspent whole (p ∷ ps) each =
    or_from (unspent_of whole p) (list_any (unspent_of whole) ps)
    (none_unspent whole p (λ c l. each c (rw count-append (omega (arith, l)))))
    (each_unspent whole ps (λ c l. each c (rw count-append (omega (arith, l)))))

-- what holds nothing has spent all that it holds until that is spent
bare_spent : (h : Record) (i c : ℕ) → IsLegal h → at h (Held i) ≡ [] → (times_spent h c ≡ 0 → 0 < count c (joined (held h i))) → 0 < times_spent h c
bare_spent h i c legal none until =
    let held : times_spent h c ≡ 0 → 0 < 0 = rw (stands_at h (Held i) legal ∙ none) at until in
    elim (cases_lt 0 (times_spent h c)) [ inl some ↦ some | inr few ↦ absurd (omega (arith, held (omega (arith, few)))) ]

-- behind an attempt and spends after which nothing is held nothing is owed
pub owes_attempted : (h new : Record) (i : ℕ) (copies : List ℕ) (bytes : ByteString) (reply : Reply) (outcome : Outcome) → owes h i ≡ false →
    OnlyAdds (IsSpendOf i outcome) (Attempt i copies bytes reply ∷ h) new → IsLegal new → at new (Held i) ≡ [] → owes new i ≡ false
owes_attempted h new i copies bytes reply outcome none adds legal bare =
    let rest = spends_keep (λ k. OwesElse k i) (λ k c. else_on k (Spent i c outcome) i refl refl refl refl) (λ k b status. else_on k (Notice b status) i refl refl refl refl) adds
    (else_on h (Attempt i copies bytes reply) i refl refl refl refl (else_none h i none)) in
    let settled = each_unspent new (decided new i) (λ c some. bare_spent new i c legal bare (attempted_held new i c legal (decided_tried new i c some))) in
    owes_none new i (entries_none new i (record { birth = rest.birth; spends = settled }) rest.discards) rest.answer

-- behind one that decides nothing, nothing is owed more
pub owes_retried : (h : Record) (i : ℕ) (copies : List ℕ) (bytes : ByteString) (reply : Reply) → owes h i ≡ false →
    is_decided reply (failures_with h i (first_copy copies) + 1) (attempts_allowed h i) ≡ false → owes (Attempt i copies bytes reply ∷ h) i ≡ false
owes_retried h i copies bytes reply none waits =
    rw (itself i, waits) (owing_next h i (fruitful h i) (owes_answer h i) (born_enough h i none) refl none)

-- ANSWERS
answered_took : (transform took own : Bool) → own ≡ true → (transform && (not own && took)) ≡ false
answered_took transform took own is = grind arith

-- behind an answer and spends after which nothing is held nothing is owed
pub owes_answered : (h new : Record) (i : ℕ) (outputs : List Output) (discarded kept : List ℕ) (outcome : Outcome) → owes_entries h i ≡ false →
    OnlyAdds (IsSpendOf i outcome) (Answer i outputs discarded kept ∷ h) new → IsLegal new → at new (Held i) ≡ [] → owes new i ≡ false
owes_answered h new i outputs discarded kept outcome none adds legal bare =
    let e = Answer i outputs discarded kept in
    let rest = spends_keep (λ k. OwesWorkEntries k i × (owes_answer k i ≡ false))
    (λ k c was. (work_entries_on k (Spent i c outcome) i refl refl refl was.0, was.1)) (λ k b status was. (work_entries_on k (Notice b status) i refl refl refl was.0, was.1)) adds
    (work_entries_on h e i refl refl refl (work_entries_none h i none), answered_took (transform_at h i) (took_since h i) (i == i) (itself i)) in
    let gone = none_unspent new (last_discarded new i) (λ c some. bare_spent new i c legal bare (discarded_held new i c legal some)) in
    owes_none new i (entries_none new i rest.0 gone) rest.1

-- THE BIRTHS THAT ARE OWED
-- no more was born than reads gave events, and behind a read that did one less
record Few (h : Record) (i : ℕ) : Type 0 where
  most : length (births h i) ≤ fruitful h i
  fewer : (y : Yield) → yield h i ≡ Some y → 0 < length y.events → length (births h i) < fruitful h i

one_more : (own : Bool) (z y : Yield) (n m : ℕ) → (if own then Some z else None) ≡ Some y → 0 < length y.events → n ≤ m →
    n < m + (if own && not (is_empty z.events) then 1 else 0)
one_more own z y n m is some most = grind (arith, is, some, most)

few : (h : Record) (i : ℕ) → IsLegal h → Few h i
few [] i legal = record { most = omega arith; fewer = λ y is some. cc }
few (Read j stream took ∷ h) i legal =
    let most = (few h i legal.1).most in
    record { most = rw append-nil (omega (arith, most)); fewer = λ y is some. rw append-nil (one_more (j == i) (yield_of h i stream took) y (length (births h i)) (fruitful h i) is some most) }
few (Born j b place copies events waits stream end ∷ h) i legal =
    let was = few h i legal.1 in
    let row = legal.0.row in
    let some : 0 < length events = let more = row.some in let each = row.one_each in omega (arith, more, each) in
    record {
      most = elim (cases_Bool (j == i)) [
        | inl is ↦ rw (is, length-append) (let less = was.fewer (record { events = events; stream = stream; end = end }) (rw (eqb-true j i is) at row.yields) some in omega (arith, less))
        | inr far ↦ rw (far, append-nil) was.most
      ];
      fewer = λ y is some. cc;
    }
few (e ∷ h) i legal = record { most = rw append-nil (few h i legal.1).most; fewer = λ y is some. cc }

wanted_more : (next n w wanted : ℕ) → n ≡ next → w ≡ min wanted (2 ^ 64 - 1) → 2 ^ 63 < next + wanted → 2 ^ 63 < n + w
wanted_more next n w wanted same observed more = omega (arith, same, observed, more)

some_wanted : (next n : ℕ) → next ≤ 2 ^ 63 → 2 ^ 63 < next + n → 0 < n
some_wanted next n most more = omega (arith, most, more)

-- what reads events lacks numbers or memory where their birth isn't made
pub lacks_birth : (h : Record) (i stream : ℕ) (took : Taken) (y : Yield) (short : Short) → IsLegal (Read i stream took ∷ h) →
    (0 < length y.events → yield (Read i stream took ∷ h) i ≡ Some y) → IsBirthShort (Read i stream took ∷ h) (length y.events) short →
    LacksBirth (Read i stream took ∷ h) short
lacks_birth h i stream took y (Numbers next wanted) legal yields short =
    let some = some_wanted (next_copy (Read i stream took ∷ h)) (length y.events) (numbers_bounded (Read i stream took ∷ h) legal) short.1.1 in
    let gives : events_of h i stream took ≡ y.events = ap (λ (z : Yield). z.events) (yielded h i stream took y (yields some)) in (
      short.0,
      wanted_more (next_copy (Read i stream took ∷ h)) next wanted (length y.events) short.0 short.1.0 short.1.1,
      (
        i,
        lt-ltb (length (births (Read i stream took ∷ h) i)) (fruitful (Read i stream took ∷ h) i) ((few (Read i stream took ∷ h) i legal).fewer y (yields some) some),
        short.1.0 ∙ rw (itself i, gives) refl,
      ),
    )
lacks_birth h i stream took y WantOfMemory legal yields short = tt

-- and so it does behind its return
pub lacks_returned : (h : Record) (i : ℕ) (short : Short) → LacksBirth h short → LacksBirth (Home i ∷ h) short
lacks_returned h i (Numbers next wanted) lacks = (lacks.0 ∙ sym (none_more (next_copy h)), lacks.1, (lacks.2.0, rw append-nil lacks.2.1, lacks.2.2))
lacks_returned h i WantOfMemory lacks = tt
