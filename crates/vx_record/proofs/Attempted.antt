-- What was attempted is held until it is spent.
use Rattle.std.proofs.Common.{◌≡◌, ℕ, zero, suc, ◌+◌, ◌<◌, ◌≤◌, Bool, true, false, List, [], ◌∷◌, ◌++◌, refl, sym, ap, subst, ◌∙◌, arith, inl, inr}
use Rattle.std.specs.Prelude.{if◌then◌else◌, nat_lt, ◌==◌, ◌&&◌}
use Rattle.std.proofs.lemmas.Bool.Decides.{nat_tests}
use Rattle.std.proofs.lemmas.Bool.{cases_lt}
use Rattle.vx_record.specs.Records.{Record}
use Rattle.vx_record.specs.declared.output.Output.{Output}
use Rattle.vx_record.specs.declared.entry.Entry.{Entry}
use Rattle.vx_record.specs.declared.entry.Entry.TheVariants.{Install, Answer, Attempt, Spent}
use Rattle.vx_record.specs.Copies.{count, contains, joined, spends, all_of, times_spent}
use Rattle.vx_record.specs.Places.{kind, leaves, put_out, puts}
use Rattle.vx_record.specs.Places.Place.{Held}
use Rattle.vx_record.specs.Lists.{without, and_rest, shrunk, held}
use Rattle.vx_record.specs.Installs.{sink_at, transform_at}
use Rattle.vx_record.specs.SinkBatches.{attempts_with}
use Rattle.vx_record.specs.Moving.{IsConserved}
use Rattle.vx_record.specs.Legal.{IsLegal}
use Rattle.vx_record.proofs.Counts.{count-append, count-without, unless}
use Rattle.vx_record.proofs.Changes.{parcels_after, put_at}
use Rattle.vx_record.proofs.HeldCopies.{not_there}
use Rattle.vx_record.proofs.Answerers.{sink_untransforming, unanswering}
use Rattle.vx_record.proofs.OnePlace.{conserved as legal_conserved}

pub joined_and_rest : (d : ℕ) (cs : List ℕ) (rest : List (List ℕ)) → count d (joined (and_rest cs rest)) ≡ count d cs + count d (joined rest)
joined_and_rest d [] rest = omega arith
joined_and_rest d (c ∷ cs) rest = count-append d (c ∷ cs) (joined rest)

count_left : (d : ℕ) (gone xs : List ℕ) → count d gone ≡ 0 → count d (without gone xs) ≡ count d xs
count_left d gone xs none = count-without d gone xs ∙ ap (λ n. unless n (count d xs)) none

-- what isn't gone stands there still
pub count_shrunk : (d : ℕ) (gone : List ℕ) (ps : List (List ℕ)) → count d gone ≡ 0 → count d (joined (shrunk gone ps)) ≡ count d (joined ps)
count_shrunk d gone [] none = refl
count_shrunk d gone (p ∷ ps) none =
    let a = joined_and_rest d (without gone p) (shrunk gone ps) in
    let b = count_left d gone p none in
    let c = count_shrunk d gone ps none in
    let e = count-append d p (joined ps) in
    omega (arith, a, b, c, e)

-- and what is in two lists of parcels
pub joined_more : (c : ℕ) (xs ys : List (List ℕ)) → count c (joined (xs ++ ys)) ≡ count c (joined xs) + count c (joined ys)
joined_more c [] ys = omega arith
joined_more c (x ∷ xs) ys =
    let a = count-append c x (joined (xs ++ ys)) in
    let b = count-append c x (joined xs) in
    let ih = joined_more c xs ys in
    omega (arith, a, b, ih)

-- what is held stays held, but for what leaves
pub held_stays : (h : Record) (e : Entry) (i c : ℕ) → IsConserved (e ∷ h) → count c (leaves (kind (Held i)) e) ≡ 0 → 0 < count c (joined (held h i)) → 0 < count c (joined (held (e ∷ h) i))
held_stays h e i c kept none l =
    let now = ap (λ (ps : List (List ℕ)). count c (joined ps)) (parcels_after h e (Held i) kept) in
    let more = joined_more c (shrunk (leaves (kind (Held i)) e) (held h i)) (put_at (Held i) (puts e)) in
    let same = count_shrunk c (leaves (kind (Held i)) e) (held h i) none in
    omega (arith, l, now, more, same)

-- what was attempted a sink attempted
pub attempts_sink : (h : Record) (i c : ℕ) → IsLegal h → 0 < attempts_with h i c → sink_at h i ≡ true
attempts_sink [] i c legal some = absurd (omega (arith, some))
attempts_sink (Install version plan once instances now ∷ h) i c legal some = let none = ap (λ (k : Record). attempts_with k i c) legal.0.row.first in absurd (omega (arith, some, none))
attempts_sink (Attempt j copies bytes reply ∷ h) i c legal some = go (j == i) refl some (attempts_sink h i c legal.1)
  where
    go : (b : Bool) → (j == i) ≡ b → 0 < attempts_with h i c + (if b && contains copies c then 1 else 0) → (0 < attempts_with h i c → sink_at h i ≡ true) → sink_at h i ≡ true
    go true e l rest = let same : j ≡ i = grind (arith, nat_tests) in subst (λ (k : ℕ). sink_at h k ≡ true) same legal.0.row.sink
    go false e l rest = rest (omega (arith, l))
attempts_sink (e ∷ h) i c legal some = attempts_sink h i c legal.1 some

-- what another instance holds no answer puts out
pub unreleased : (h : Record) (i j c : ℕ) (made : List Output) (discarded kept : List ℕ) → IsConserved (Answer j made discarded kept ∷ h) → (j == i) ≡ false → 0 < count c (joined (held h i)) → count c (put_out made) ≡ 0
unreleased h i j c made discarded kept sound other some =
    let none = not_there h (Held i) (Held j) c sound.1 (apart other) some in
    let most = sound.0 c in
    omega (arith, none, most)
  where
    apart : (j == i) ≡ false → (i == j) ≡ false
    apart e = grind (arith, nat_tests, e)

-- whether an entry is an Answer of the instance
abbrev pub answers : ℕ → Entry → Bool
answers i (Answer j made discarded kept) = j == i
answers i other = false

-- what is held and isn't spent is held behind an entry too, but for what the instance answers
pub held_on : (h : Record) (e : Entry) (i c : ℕ) → IsConserved (e ∷ h) → answers i e ≡ false → times_spent (e ∷ h) c ≡ 0 →
    (times_spent h c ≡ 0 → 0 < count c (joined (held h i))) → 0 < count c (joined (held (e ∷ h) i))
held_on h (Answer j made discarded kept) i c sound other none was =
    let all = count-append c (all_of spends h) [] in
    let here = was (omega (arith, none, all)) in
    held_stays h (Answer j made discarded kept) i c sound (unreleased h i j c made discarded kept sound other here) here
held_on h (Spent j d outcome) i c sound other none was =
    let all = count-append c (all_of spends h) (d ∷ []) in held_stays h (Spent j d outcome) i c sound (omega (arith, none, all)) (was (omega (arith, none, all)))
held_on h e i c sound other none was = let all = count-append c (all_of spends h) [] in held_stays h e i c sound refl (was (omega (arith, none, all)))

-- who is no transform answers nothing
unanswered_by : (h : Record) (e : Entry) (i : ℕ) → IsLegal (e ∷ h) → transform_at h i ≡ false → answers i e ≡ false
unanswered_by h (Answer j made discarded kept) i legal other = unanswering h i j made discarded kept legal other
unanswered_by h e i legal other = refl

-- what was attempted and isn't spent is held
pub attempted_held : (h : Record) (i c : ℕ) → IsLegal h → 0 < attempts_with h i c → times_spent h c ≡ 0 → 0 < count c (joined (held h i))
attempted_held [] i c o l none = absurd (omega (arith, l))
attempted_held (Attempt j copies bytes reply ∷ h) i c o l none =
    held_on h (Attempt j copies bytes reply) i c (legal_conserved (Attempt j copies bytes reply ∷ h) o) refl none (go (j == i) refl l (attempted_held h i c o.1))
  where
    named : (n m : ℕ) → n ≤ 0 → 0 < n + (if true && nat_lt 0 m then 1 else 0) → 0 < m
    named n zero few some = absurd (omega (arith, few, some))
    named n (suc m) few some = omega arith

    go : (b : Bool) → (j == i) ≡ b → 0 < attempts_with h i c + (if b && contains copies c then 1 else 0) → (0 < attempts_with h i c → times_spent h c ≡ 0 → 0 < count c (joined (held h i))) →
        times_spent h c ≡ 0 → 0 < count c (joined (held h i))
    go true e some rest before = elim (cases_lt 0 (attempts_with h i c)) [
      | inl tried ↦ rest tried before
      | inr few ↦
          let same : j ≡ i = grind (arith, nat_tests) in
          let here : 0 < count c (joined (held h j)) = subst (λ (cs : List ℕ). 0 < count c cs) o.0.row.all (named (attempts_with h i c) (count c copies) few some) in
          subst (λ (k : ℕ). 0 < count c (joined (held h k))) same here
    ]
    go false e some rest before = rest (omega (arith, some)) before
attempted_held (e ∷ h) i c o l none =
    held_on h e i c (legal_conserved (e ∷ h) o) (unanswered_by h e i o (sink_untransforming h i (attempts_sink h i c o.1 l))) none (attempted_held h i c o.1 l)
