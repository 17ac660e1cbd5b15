-- What a source put out was put out on its first port, whose targets are its readers; while no transform answers that is true of each instance.
use Rattle.std.proofs.Common.{◌≡◌, ℕ, ◌+◌, ◌<◌, ◌≤◌, Bool, true, false, List, [], ◌∷◌, ◌++◌, length, inl, inr, refl, sym, ap, subst, ◌∙◌, arith}
use Rattle.std.specs.Prelude.{◌⊎◌, ◌==◌, ◌&&◌, if◌then◌else◌}
use Rattle.std.proofs.lemmas.Bool.{cases_lt, eq-eqb}
use Rattle.std.proofs.lemmas.List.{append-nil}
use Rattle.vx_value.specs.Texts.{is_empty}
use Rattle.vx_value.specs.declared.event.Event.{Event}
use Rattle.vx_record.specs.Records.{Record}
use Rattle.vx_record.specs.declared.child.Child.{Child as NotedChild}
use Rattle.vx_record.specs.declared.output.Output.{Output}
use Rattle.vx_record.specs.declared.entry.Entry.{Entry}
use Rattle.vx_record.specs.declared.entry.Entry.TheVariants.{Install, Born, Split, Answer}
use Rattle.vx_record.specs.Copies.{count, joined, counting, children_of, next_copy}
use Rattle.vx_record.specs.Parcels.{first_copy, ports_of, port_list, parcel_ports}
use Rattle.vx_record.specs.Places.{Place, kind, leaves, same_place, one_each, puts, all_puts, left}
use Rattle.vx_record.specs.Places.Place.{Outputs}
use Rattle.vx_record.specs.Lists.{shrunk, and_rest, parcels_at, stands, outputs, all_waiting}
use Rattle.vx_record.specs.Moving.{IsConserved}
use Rattle.vx_record.specs.Sending.{IsOldest, MaySplit}
use Rattle.vx_record.specs.Installs.{source_at, wired}
use Rattle.vx_record.specs.Routing.{is_dry, routes, wired_targets}
use Rattle.vx_record.specs.Legal.{IsLegal}
use Rattle.vx_record.specs.Ceasing.{no_answer, readers_at, readers_on}
use Rattle.vx_record.proofs.Counts.{unless-none, unless-some, counting_before, counting_after}
use Rattle.vx_record.proofs.Live.{if_lt, if_ge}
use Rattle.vx_record.proofs.OnePlace.{conserved}
use Rattle.vx_record.proofs.Changes.{NoneEmpty, none_empty, put_at, parcels_after}
use Rattle.vx_record.proofs.Answers.{count-shrunk}
use Rattle.vx_record.proofs.Events.{not_out, said_before}
use Rattle.vx_record.proofs.Answerers.{source_untransforming, unanswering}
use Rattle.vx_record.proofs.Attempted.{joined_more}

-- the instance is a source, or no transform answered yet
abbrev pub IsPlain : Record → ℕ → Type 0
IsPlain h i = (source_at h i ≡ true) ⊎ (no_answer h ≡ true)

-- a copy that was made, and put out on the first port
pub record IsOnFirst (h : Record) (c : ℕ) : Type 0 where
  pub made : c < next_copy h
  pub port : ports_of h c ≡ 1

-- a copy at a place stood there before and didn't leave, or was put there
pub came : (h : Record) (e : Entry) (p : Place) (c : ℕ) → IsConserved (e ∷ h) → 0 < count c (joined (parcels_at p (stands (e ∷ h)))) →
    ((0 < count c (joined (parcels_at p (stands h)))) × (count c (leaves (kind p) e) ≡ 0)) ⊎ (0 < count c (joined (put_at p (puts e))))
came h e p c kept some =
    let now = ap (λ (ps : List (List ℕ)). count c (joined ps)) (parcels_after h e p kept) in
    let more = joined_more c (shrunk (leaves (kind p) e) (parcels_at p (stands h))) (put_at p (puts e)) in
    let less = count-shrunk c (leaves (kind p) e) (parcels_at p (stands h)) in
    elim (cases_lt 0 (count c (joined (put_at p (puts e))))) [
      | inl put ↦ inr put
      | inr none ↦ elim (cases_lt 0 (count c (leaves (kind p) e))) [
        | inl gone ↦ let u = unless-some (count c (leaves (kind p) e)) (count c (joined (parcels_at p (stands h)))) gone in absurd (omega (arith, some, now, more, less, none, u))
        | inr stays ↦ let u = unless-none (count c (leaves (kind p) e)) (count c (joined (parcels_at p (stands h)))) (omega (arith, stays)) in inl (omega (arith, some, now, more, less, none, u), omega (arith, stays))
      ]
    ]

-- the copies of a batch are put out on the first port
one_each_count : (p q : Place) (cs : List ℕ) (c : ℕ) → 0 < count c (joined (put_at p (one_each q cs))) → 0 < count c cs
one_each_count p q [] c some = absurd (omega (arith, some))
one_each_count p q (x ∷ xs) c some = go (same_place q p) some (one_each_count p q xs c)
  where
    go : (b : Bool) → 0 < count c (joined (if b then (x ∷ []) ∷ put_at p (one_each q xs) else put_at p (one_each q xs))) → (0 < count c (joined (put_at p (one_each q xs))) → 0 < count c xs) →
        0 < (if x == c then 1 else 0) + count c xs
    go true l rest = elim (cases_lt 0 (count c (joined (put_at p (one_each q xs))))) [
      | inl later ↦ let r = rest later in omega (arith, r)
      | inr none ↦ omega (arith, l, none)
    ]
    go false l rest = let r = rest l in omega (arith, r)

within : (c from n : ℕ) → 0 < count c (counting from n) → (from ≤ c) × (c < from + n)
within c from n some = elim (cases_lt c from) [
  | inl before ↦ let none = counting_before c from n before in absurd (omega (arith, some, none))
  | inr at ↦ elim (cases_lt c (from + n)) [
    | inl here ↦ (at, here)
    | inr after ↦ let none = counting_after c from n after in absurd (omega (arith, some, none))
  ]
]

born_first : (h : Record) (i b place : ℕ) (copies : List ℕ) (events : List Event) (waits : Bool) (stream end : ℕ) (c : ℕ) → copies ≡ counting (next_copy h) (length copies) → 0 < count c copies →
    IsOnFirst (Born i b place copies events waits stream end ∷ h) c
born_first h i b place copies events waits stream end c are some =
    let in_batch = within c (next_copy h) (length copies) (subst (λ (cs : List ℕ). 0 < count c cs) are some) in
    record { made = omega (arith, in_batch.1); port = if_ge c (next_copy h) (ports_of h c) 1 in_batch.0 }

-- children wait elsewhere, and an answer puts out at its own instance
children_elsewhere : (i j ports : ℕ) (copies : List ℕ) (event : Event) (children : List NotedChild) → put_at (Outputs i) (puts (Split j ports copies event children)) ≡ []
children_elsewhere i j ports copies event [] = refl
children_elsewhere i j ports copies event (child ∷ rest) = children_elsewhere i j ports copies event rest

answer_elsewhere : (i j : ℕ) (made : List Output) (discarded kept : List ℕ) → (j == i) ≡ false → put_at (Outputs i) (puts (Answer j made discarded kept)) ≡ []
answer_elsewhere i j [] discarded kept other = refl
answer_elsewhere i j (output ∷ rest) discarded kept other =
    ap (λ (b : Bool). if b then and_rest output.copies (put_at (Outputs i) (puts (Answer j rest discarded kept))) else put_at (Outputs i) (puts (Answer j rest discarded kept))) other
    ∙ answer_elsewhere i j rest discarded kept other

none_of : (c : ℕ) (ps : List (List ℕ)) → ps ≡ [] → 0 < count c (joined ps) → ⊥
none_of c ps none some = let e = ap (λ (qs : List (List ℕ)). count c (joined qs)) none in omega (arith, some, e)

-- a copy stays on its port where nothing puts it out anew
one_on : (h : Record) (e : Entry) (c : ℕ) → IsOnFirst h c → ports_of (e ∷ h) c ≡ ports_of h c → IsOnFirst (e ∷ h) c
one_on h e c on same = record { made = let l = on.made in omega arith; port = same ∙ on.port }

-- whatever stands at the outputs of a plain instance was put out on the first port
pub on_first : (h : Record) (i c : ℕ) → IsLegal h → IsPlain h i → 0 < count c (joined (outputs h i)) → IsOnFirst h c
on_first [] i c legal plain some = absurd (omega (arith, some))
on_first (Install version plan once instances now ∷ h) i c legal plain some = elim (came h (Install version plan once instances now) (Outputs i) c (conserved (Install version plan once instances now ∷ h) legal) some) [
  | inl stood ↦ absurd (none_of c (outputs h i) (ap (λ (k : Record). outputs k i) legal.0.row.first) stood.0)
  | inr put ↦ absurd (omega (arith, put))
]
on_first (Born j b place copies events waits stream end ∷ h) i c legal plain some = elim (came h (Born j b place copies events waits stream end) (Outputs i) c (conserved (Born j b place copies events waits stream end ∷ h) legal) some) [
  | inl stood ↦ let on = on_first h i c legal.1 plain stood.0 in one_on h (Born j b place copies events waits stream end) c on (if_lt c (next_copy h) (ports_of h c) 1 on.made)
  | inr put ↦ born_first h j b place copies events waits stream end c legal.0.row.next (one_each_count (Outputs i) (Outputs j) copies c put)
]
on_first (Split j ports copies event children ∷ h) i c legal plain some = elim (came h (Split j ports copies event children) (Outputs i) c (conserved (Split j ports copies event children ∷ h) legal) some) [
  | inl stood ↦ one_on h (Split j ports copies event children) c (on_first h i c legal.1 plain stood.0) refl
  | inr put ↦ absurd (none_of c _ (children_elsewhere i j ports copies event children) put)
]
on_first (Answer j made discarded kept ∷ h) i c legal (inr none) some = cc
on_first (Answer j made discarded kept ∷ h) i c legal (inl is) some = elim (came h (Answer j made discarded kept) (Outputs i) c (conserved (Answer j made discarded kept ∷ h) legal) some) [
  | inl stood ↦ one_on h (Answer j made discarded kept) c (on_first h i c legal.1 (inl is) stood.0)
      (said_before (λ (output : Output). output.ports) made c (ports_of h c)
      (not_out h j made discarded kept (Outputs i) (conserved h legal.1) (conserved (Answer j made discarded kept ∷ h) legal).0 c stood.0 refl))
  | inr put ↦ absurd (none_of c _ (answer_elsewhere i j made discarded kept (unanswering h i j made discarded kept legal (source_untransforming h i is))) put)
]
on_first (e ∷ h) i c legal plain some = elim (came h e (Outputs i) c (conserved (e ∷ h) legal) some) [
  | inl stood ↦ one_on h e c (on_first h i c legal.1 plain stood.0) refl
  | inr put ↦ absurd (omega (arith, put))
]

-- the first copy of the oldest of some parcels is among them
first_stands : (copies : List ℕ) (ps : List (List ℕ)) → IsOldest copies ps → NoneEmpty ps → 0 < count (first_copy copies) (joined ps)
first_stands copies [] oldest full = absurd oldest
first_stands copies ([] ∷ ps) oldest full = absurd full
first_stands copies ((x ∷ xs) ∷ ps) oldest full =
    subst (λ (cs : List ℕ). 0 < count (first_copy cs) (joined ((x ∷ xs) ∷ ps))) (sym oldest)
    (subst (λ (b : Bool). 0 < (if b then 1 else 0) + count x (xs ++ joined ps)) (sym (eq-eqb x x refl)) (omega arith))

-- the oldest output of a plain instance was put out on the first port
plain_on_first : (h : Record) (i : ℕ) (copies : List ℕ) → IsLegal h → IsPlain h i → IsOldest copies (outputs h i) → 1 ≡ parcel_ports h copies
plain_on_first h i copies legal plain oldest =
    sym (on_first h i (first_copy copies) legal plain (first_stands copies (outputs h i) oldest (none_empty (Outputs i) (left h) (all_puts h)))).port

-- so a source puts out there alone
pub source_on_first : (h : Record) (i : ℕ) (copies : List ℕ) → IsLegal h → source_at h i ≡ true → IsOldest copies (outputs h i) → 1 ≡ parcel_ports h copies
source_on_first h i copies legal source oldest = plain_on_first h i copies legal (inl source) oldest

-- and each instance while no transform answered
pub output_on_first : (h : Record) (i : ℕ) (copies : List ℕ) → IsLegal h → no_answer h ≡ true → IsOldest copies (outputs h i) → 1 ≡ parcel_ports h copies
output_on_first h i copies legal none oldest = plain_on_first h i copies legal (inr none) oldest

only_first : port_list 1 ≡ 0 ∷ []
unfolding port_list
only_first = refl

-- an instance with an output sends each port's parcels to all that read it
open_outlet : (h : Record) (i : ℕ) (targets : List ℕ) (ps : List (List ℕ)) (copies : List ℕ) (dry : Bool) → IsOldest copies ps → (if dry && (is_empty ps && is_empty (all_waiting h i)) then [] else targets) ≡ targets
open_outlet h i targets [] copies dry is = absurd is
open_outlet h i targets (p ∷ ps) copies true is = refl
open_outlet h i targets (p ∷ ps) copies false is = refl

pub open_routes : (h : Record) (i : ℕ) (copies ports : List ℕ) → IsOldest copies (outputs h i) → routes h i ports ≡ readers_on h i ports
open_routes h i copies [] oldest = refl
open_routes h i copies (port ∷ ports) oldest =
    ap (λ (ts : List ℕ). ts ++ routes h i ports) (open_outlet h i (wired [] (wired_targets port) h i) (outputs h i) copies (is_dry h i) oldest)
    ∙ ap (λ (ts : List ℕ). wired [] (wired_targets port) h i ++ ts) (open_routes h i copies ports oldest)

pub first_readers : (h : Record) (i : ℕ) → readers_on h i (port_list 1) ≡ readers_at h i
first_readers h i = ap (λ (ports : List ℕ). readers_on h i ports) only_first ∙ append-nil (readers_at h i)

-- so those on the first port are for its readers
pub first_routes : (h : Record) (i : ℕ) (copies : List ℕ) → IsOldest copies (outputs h i) → routes h i (port_list 1) ≡ readers_at h i
first_routes h i copies oldest = open_routes h i copies (port_list 1) oldest ∙ first_readers h i

-- and a split is for the readers of its ports
pub split_read : (h : Record) (i ports : ℕ) (copies : List ℕ) (event : Event) (children : List NotedChild) → MaySplit h i ports copies event children →
    children ≡ children_of (next_copy h) (length copies) (readers_on h i (port_list ports))
split_read h i ports copies event children may =
    may.split.made ∙ ap (λ (ts : List ℕ). children_of (next_copy h) (length copies) ts) (open_routes h i copies (port_list ports) may.split.oldest)

plain_routed : (h : Record) (i ports : ℕ) (copies : List ℕ) (event : Event) (children : List NotedChild) → IsLegal h → IsPlain h i → MaySplit h i ports copies event children →
    children ≡ children_of (next_copy h) (length copies) (readers_at h i)
plain_routed h i ports copies event children legal plain may =
    let first : 1 ≡ ports = plain_on_first h i copies legal plain may.split.oldest ∙ sym may.split.on_ports in
    split_read h i ports copies event children may
    ∙ ap (λ (ts : List ℕ). children_of (next_copy h) (length copies) ts) (ap (λ n. readers_on h i (port_list n)) (sym first) ∙ first_readers h i)

-- a source's for the readers of its first port
pub source_routed : (h : Record) (i ports : ℕ) (copies : List ℕ) (event : Event) (children : List NotedChild) → IsLegal h → source_at h i ≡ true → MaySplit h i ports copies event children →
    children ≡ children_of (next_copy h) (length copies) (readers_at h i)
source_routed h i ports copies event children legal source may = plain_routed h i ports copies event children legal (inl source) may
