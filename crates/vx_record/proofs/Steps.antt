-- What each kind of entry does to a copy, where the entry conserves copies.
use Rattle.std.proofs.Common.{◌≡◌, ℕ, Bool, ◌+◌, ◌*◌, ◌<◌, ◌≤◌, List, [], ◌∷◌, ◌++◌, sym, refl, ap, subst, arith, map, length, inl, inr}
use Rattle.std.specs.Prelude.{if◌then◌else◌, ◌==◌}
use Rattle.std.proofs.lemmas.Bool.Decides.{nat_tests}
use Rattle.std.proofs.lemmas.Bool.{cases_lt}
use Rattle.vx_record.specs.declared.entry.Entry.{Entry}
use Rattle.vx_value.specs.declared.event.Event.{Event}
use Rattle.vx_record.specs.Records.{Record}
use Rattle.vx_record.specs.declared.child.Child.{Child}
use Rattle.vx_record.specs.declared.output.Output.{Output}
use Rattle.vx_status.specs.declared.outcome.Outcome.{Outcome}
use Rattle.vx_record.specs.declared.entry.Entry.TheVariants.{Born, Split, Push, Take, Answer, Spent}
use Rattle.vx_record.specs.Copies.{count, counting, children_of, next_copy, makes, splits, spends, IsLive}
use Rattle.vx_record.specs.Places.{Place, Kind, kind, one_each, put_out, all_puts, left, puts, leaves}
use Rattle.vx_record.specs.Places.Kind.{AnOutput, AChild, AStage, AHold}
use Rattle.vx_record.specs.Places.Place.{Outputs, Waiting, Contents, Held}
use Rattle.vx_record.specs.Lists.{outputs, waiting, contents}
use Rattle.vx_record.specs.Moving.{Conserves}
use Rattle.vx_record.proofs.Counts.{count-append, counting_before, counting_within, counting_after, only, only-add, only-zero, put_count}
use Rattle.vx_record.proofs.Place.{count-parcels_at, count-oldest}
use Rattle.vx_record.proofs.Tracked.{Moves, births}

-- an entry that makes, moves and spends nothing
pub record MovesNothing (e : Entry) : Type 0 where
  pub puts : puts e ≡ []
  pub births : births e ≡ []
  pub leaves : (k : Kind) → leaves k e ≡ []
  pub spends : spends e ≡ []
  pub splits : splits e ≡ []
  pub makes : makes e ≡ 0

none_move : (h : Record) (e : Entry) (c : ℕ) → MovesNothing e → Moves h e c
none_move h e c n =
    let b = ap (count c) n.births in
    let x = ap (count c) n.spends in
    let y = ap (count c) n.splits in
    let left = λ (k : Kind). ap (count c) (n.leaves k) in
    let put = λ (k : Kind). ap (λ ps. put_count k ps c) n.puts in
    let m = n.makes in
    grind (arith, left AnOutput, left AChild, left AStage, left AHold, put AnOutput, put AChild, put AStage, put AHold)

pub put_count-one_each : (k : Kind) (p : Place) (c : ℕ) (cs : List ℕ) → put_count k (one_each p cs) c ≡ only k (kind p) (count c cs)
put_count-one_each k p c [] = sym (only-zero k (kind p))
put_count-one_each k p c (x ∷ xs) =
    let e = put_count-one_each k p c xs in
    simp (only-add, only-zero) (omega arith)

-- the copies of all children
abbrev pub family : List Child → List ℕ
family [] = []
family (child ∷ rest) = child.copies ++ family rest

pub put_count-children : (k : Kind) (i c : ℕ) (children : List Child) →
    put_count k (map (λ (child : Child). record { place = Waiting i child.target; copies = child.copies }) children) c ≡ only k AChild (count c (family children))
put_count-children k i c [] = sym (only-zero k AChild)
put_count-children k i c (child ∷ rest) =
    let e = put_count-children k i c rest in
    let f = ap (only k AChild) (count-append c child.copies (family rest)) in
    let g = only-add k AChild (count c child.copies) (count c (family rest)) in
    omega arith

pub put_count-outputs : (k : Kind) (i c : ℕ) (made : List Output) →
    put_count k (map (λ (output : Output). record { place = Outputs i; copies = output.copies }) made) c ≡ only k AnOutput (count c (put_out made))
put_count-outputs k i c [] = sym (only-zero k AnOutput)
put_count-outputs k i c (output ∷ rest) =
    let e = put_count-outputs k i c rest in
    let f = ap (only k AnOutput) (count-append c output.copies (put_out rest)) in
    let g = only-add k AnOutput (count c output.copies) (count c (put_out rest)) in
    omega arith

pub length-children_of : (next m : ℕ) (targets : List ℕ) → length (children_of next m targets) ≡ length targets
length-children_of next m [] = refl
length-children_of next m (target ∷ rest) = let e = length-children_of (next + m) m rest in omega arith

pub children_before : (c next m : ℕ) (targets : List ℕ) → c < next → count c (family (children_of next m targets)) ≡ 0
children_before c next m [] l = refl
children_before c next m (t ∷ ts) l =
    let e = children_before c (next + m) m ts (omega arith) in
    let f = counting_before c next m l in
    omega (arith, count-append c (counting next m) (family (children_of (next + m) m ts)))

children_within : (c next m : ℕ) (targets : List ℕ) → next ≤ c → c < next + length targets * m → count c (family (children_of next m targets)) ≡ 1
children_within c next m [] l u = absurd (omega arith)
children_within c next m (t ∷ ts) l u =
    elim (cases_lt c (next + m)) [
      | inl below ↦
          let e = children_before c (next + m) m ts below in
          let f = counting_within c next m l below in
          omega (arith, count-append c (counting next m) (family (children_of (next + m) m ts)))
      | inr above ↦
          let e = children_within c (next + m) m ts above (omega arith) in
          let f = counting_after c next m above in
          omega (arith, count-append c (counting next m) (family (children_of (next + m) m ts)))
    ]

children_after : (c next m : ℕ) (targets : List ℕ) → next + length targets * m ≤ c → count c (family (children_of next m targets)) ≡ 0
children_after c next m [] l = refl
children_after c next m (t ∷ ts) l =
    let e = children_after c (next + m) m ts (omega arith) in
    let f = counting_after c next m (omega arith) in
    omega (arith, count-append c (counting next m) (family (children_of (next + m) m ts)))

born_moves : (h : Record) (c i b place : ℕ) (copies : List ℕ) (events : List Event) (waits : Bool) (stream end : ℕ) → Conserves h (Born i b place copies events waits stream end) → Moves h (Born i b place copies events waits stream end) c
born_moves h c i b place copies events waits stream end a =
    let f = ap (count c) a in
    grind (arith, put_count-one_each, counting_before c (next_copy h) (length copies), counting_within c (next_copy h) (length copies), counting_after c (next_copy h) (length copies))

split_moves : (h : Record) (c i ports : ℕ) (copies : List ℕ) (event : Event) (children : List Child) → Conserves h (Split i ports copies event children) →
    Moves h (Split i ports copies event children) c
split_moves h c i ports copies event children a =
    let targets = a.made.0 in
    let f = ap (λ (x : List Child). count c (family x)) a.made.1 in
    let same = ap (λ (x : List Child). length x * length copies) a.made.1 in
    let many = ap (λ n. n * length copies) (length-children_of (next_copy h) (length copies) targets) in
    let e = count-oldest c copies (outputs h i) a.oldest in
    let g = count-parcels_at c (Outputs i) (left h) (all_puts h) in
    let put = λ (k : Kind). put_count-children k i c children in
    grind (arith, put AnOutput, put AChild, put AStage, put AHold, children_before c (next_copy h) (length copies) targets, children_within c (next_copy h) (length copies) targets, children_after c (next_copy h) (length copies) targets)

push_moves : (h : Record) (c i t s : ℕ) (copies : List ℕ) → Conserves h (Push i t s copies) → Moves h (Push i t s copies) c
push_moves h c i t s copies a =
    let e = count-oldest c copies (waiting h i t) a in
    let f = count-parcels_at c (Waiting i t) (left h) (all_puts h) in
    grind arith

take_moves : (h : Record) (c i s : ℕ) (copies : List ℕ) → Conserves h (Take i s copies) → Moves h (Take i s copies) c
take_moves h c i s copies a =
    let e = count-oldest c copies (contents h i s) a in
    let f = count-parcels_at c (Contents i s) (left h) (all_puts h) in
    grind arith

answer_moves : (h : Record) (c i : ℕ) (made : List Output) (discarded kept : List ℕ) → Conserves h (Answer i made discarded kept) →
    Moves h (Answer i made discarded kept) c
answer_moves h c i made discarded kept a =
    let e = a c in
    let f = count-parcels_at c (Held i) (left h) (all_puts h) in
    let put = λ (k : Kind). put_count-outputs k i c made in
    grind (arith, put AnOutput, put AChild, put AStage, put AHold)

live_still : (h : Record) (d c : ℕ) → IsLive h d → 0 < count c (d ∷ []) → IsLive h c
live_still h d c live l = let same : d ≡ c = grind (arith, nat_tests) in subst (IsLive h) same live

spent_moves : (h : Record) (c i d : ℕ) (outcome : Outcome) → Conserves h (Spent i d outcome) → Moves h (Spent i d outcome) c
spent_moves h c i d outcome a = grind (arith, nat_tests, live_still h d c a)

pub moves : (h : Record) (e : Entry) (c : ℕ) → Conserves h e → Moves h e c
moves h (Born i b place copies events waits stream end) c a = born_moves h c i b place copies events waits stream end a
moves h (Split i ports copies event children) c a = split_moves h c i ports copies event children a
moves h (Push i t s copies) c a = push_moves h c i t s copies a
moves h (Take i s copies) c a = take_moves h c i s copies a
moves h (Answer i made discarded kept) c a = answer_moves h c i made discarded kept a
moves h (Spent i d outcome) c a = spent_moves h c i d outcome a
moves h e c a = none_move h e c (record { puts = refl; births = refl; leaves = λ k. refl; spends = refl; splits = refl; makes = refl })
