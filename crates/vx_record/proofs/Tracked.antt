-- What is known of a copy in a legal record, by numbers alone, and that each entry keeps it.
use Rattle.std.proofs.Common.{◌≡◌, ℕ, zero, suc, ◌+◌, ◌<◌, ◌≤◌, List, [], ◌∷◌, refl, arith, length, inl, inr, ◌⊎◌}
use Rattle.std.proofs.lemmas.Bool.{cases_lt}
use Rattle.vx_record.specs.declared.entry.Entry.{Entry}
use Rattle.vx_record.specs.Records.{Record}
use Rattle.vx_record.specs.declared.entry.Entry.TheVariants.{Born}
use Rattle.vx_record.specs.Copies.{count, next_copy, times_split, times_spent, all_of, makes, splits, spends}
use Rattle.vx_record.specs.Places.{Kind, all_puts, left, puts, leaves}
use Rattle.vx_record.specs.Places.Kind.{AnOutput, AChild, AStage, AHold}
use Rattle.vx_record.specs.Lists.{places}
use Rattle.vx_record.proofs.Counts.{count-append, unless, put_count, put_count-append, stand_count, length-places_in}

-- the copies that an entry makes from nothing
abbrev pub births : Entry → List ℕ
births (Born i b place copies events waits stream end) = copies
births other = []

-- how often a copy was born, was put into a kind of place, and left it
abbrev pub born : Record → ℕ → ℕ
born h c = count c (all_of births h)

abbrev pub put_in : Kind → Record → ℕ → ℕ
put_in k h c = put_count k (all_puts h) c

abbrev pub gone_from : Kind → Record → ℕ → ℕ
gone_from k h c = count c (left h k)

abbrev pub stand_in : Kind → Record → ℕ → ℕ
stand_in k h c = stand_count k (left h) (all_puts h) c

pub record Tracked (h : Record) (c : ℕ) : Type 0 where
  pub unmade : next_copy h ≤ c → born h c + put_in AChild h c ≡ 0
  pub made : c < next_copy h → born h c + put_in AChild h c ≡ 1
  -- what leaves one kind of place comes to the next kind, or is spent
  pub pushed : gone_from AChild h c ≡ put_in AStage h c + times_spent h c
  pub taken : gone_from AStage h c ≡ put_in AHold h c + times_spent h c
  pub answered : gone_from AHold h c + born h c ≡ put_in AnOutput h c + times_spent h c
  pub ended : gone_from AnOutput h c ≡ times_split h c + times_spent h c
  -- and no more of it than came there
  pub push : put_in AStage h c ≤ put_in AChild h c
  pub take : put_in AHold h c ≤ put_in AStage h c
  pub birth : born h c ≤ put_in AnOutput h c
  pub answer : put_in AnOutput h c ≤ put_in AHold h c + born h c
  pub split : times_split h c ≤ put_in AnOutput h c
  pub once : times_split h c + times_spent h c ≤ born h c + put_in AChild h c

-- in the places of a kind there stand none, or as many as were put there, and then none has left
pub stand_cases : (k : Kind) (h : Record) (c : ℕ) →
    ((gone_from k h c ≡ 0) × (stand_in k h c ≡ put_in k h c)) ⊎ ((0 < gone_from k h c) × (stand_in k h c ≡ 0))
stand_cases k h c = go (gone_from k h c) (put_in k h c)
  where
    go : (m n : ℕ) → ((m ≡ 0) × (unless m n ≡ n)) ⊎ ((0 < m) × (unless m n ≡ 0))
    go zero n = inl (refl, refl)
    go (suc m) n = inr (omega arith, refl)

-- in all places stand as many as were made, unless they were split or spent
standing_made : (h : Record) (c n : ℕ) → Tracked h c → n ≤ 1 → born h c + put_in AChild h c ≡ n → times_split h c + times_spent h c + length (places h c) ≡ n
standing_made h c n t l m =
    let e = length-places_in c (left h) (all_puts h) in
    let o = stand_cases AnOutput h c in
    let w = stand_cases AChild h c in
    let s = stand_cases AStage h c in
    let a = stand_cases AHold h c in
    grind arith

pub places_one : (h : Record) (c : ℕ) → Tracked h c → c < next_copy h → times_split h c + times_spent h c + length (places h c) ≡ 1
places_one h c t l = standing_made h c 1 t (omega arith) (t.made l)

pub unmade_nowhere : (h : Record) (c : ℕ) → Tracked h c → next_copy h ≤ c → length (places h c) ≡ 0
unmade_nowhere h c t l = let none = standing_made h c 0 t (omega arith) (t.unmade l) in omega arith

-- what an entry does to a copy
pub record Moves (h : Record) (e : Entry) (c : ℕ) : Type 0 where
  -- it makes the next copies, each once
  pub makes_old : c < next_copy h → count c (births e) + put_count AChild (puts e) c ≡ 0
  pub makes_new : next_copy h ≤ c → c < next_copy h + makes e → count c (births e) + put_count AChild (puts e) c ≡ 1
  pub makes_none : next_copy h + makes e ≤ c → count c (births e) + put_count AChild (puts e) c ≡ 0
  -- what leaves one kind of place comes to the next kind, or is spent
  pub pushed : count c (leaves AChild e) ≡ put_count AStage (puts e) c + count c (spends e)
  pub taken : count c (leaves AStage e) ≡ put_count AHold (puts e) c + count c (spends e)
  pub answered : count c (leaves AHold e) + count c (births e) ≡ put_count AnOutput (puts e) c + count c (spends e)
  pub ended : count c (leaves AnOutput e) ≡ count c (splits e) + count c (spends e)
  -- and stood there
  pub push : put_count AStage (puts e) c ≤ stand_in AChild h c
  pub take : put_count AHold (puts e) c ≤ stand_in AStage h c
  pub birth : count c (births e) ≤ put_count AnOutput (puts e) c
  pub answer : put_count AnOutput (puts e) c ≤ stand_in AHold h c + count c (births e)
  pub split : count c (splits e) ≤ stand_in AnOutput h c
  -- and only a live copy is spent
  pub once : count c (spends e) ≤ 1
  pub live : 0 < count c (spends e) → (c < next_copy h) × (times_split h c ≡ 0) × (times_spent h c ≡ 0) × (count c (splits e) ≡ 0)

pub step : (h : Record) (e : Entry) (c : ℕ) → Moves h e c → Tracked h c → Tracked (e ∷ h) c
step h e c m t =
    let o = stand_cases AnOutput h c in
    let w = stand_cases AChild h c in
    let s = stand_cases AStage h c in
    let a = stand_cases AHold h c in
    record {
      unmade = λ l. omega (arith, count-append, put_count-append, t.unmade, m.makes_none);
      made = λ l. elim (cases_lt c (next_copy h)) [
        | inl below ↦ omega (arith, count-append, put_count-append, t.made below, m.makes_old below)
        | inr above ↦ omega (arith, count-append, put_count-append, t.unmade above, m.makes_new above l)
      ];
      pushed = omega (arith, count-append, put_count-append);
      taken = omega (arith, count-append, put_count-append);
      answered = omega (arith, count-append, put_count-append);
      ended = omega (arith, count-append, put_count-append);
      push = grind (arith, count-append, put_count-append);
      take = grind (arith, count-append, put_count-append);
      birth = omega (arith, count-append, put_count-append);
      answer = grind (arith, count-append, put_count-append);
      split = grind (arith, count-append, put_count-append);
      once = grind (arith, count-append, put_count-append);
    }
