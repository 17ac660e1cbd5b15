use Rattle.std.proofs.Common.{◌≡◌, ◌∙◌, ℕ, ◌+◌, ◌<◌, Bool, true, false, List, [], ◌∷◌, ◌++◌, length, take, drop, get_or, refl, sym, ap, arith}
use Rattle.std.specs.Prelude.{◌==◌, if◌then◌else◌}
use Rattle.std.proofs.lemmas.Bool.{eq-eqb}
use Rattle.std.proofs.lemmas.Bool.Decides.{nat_tests}
use Rattle.std.proofs.lemmas.List.{append_assoc, append-nil, drop_more, length-append, length-take, take_more}
use Rattle.vx_ledger.specs.declared.parcel.Parcel.{Parcel}
use Rattle.vx_transform.specs.declared.output.Output.{Output}
use Rattle.vx_tasks.specs.Judging.{passed, stopped}
use Rattle.vx_moves.proofs.divide.divide.Goals as goal
use Rattle.vx_moves.proofs.divide.divide.Goals.{then-on-eq0, else-on-eq0}

-- the last parcel is stopped or passes
stopped_last : (ns : List ℕ) (ps : List Parcel) (n : ℕ) (p : Parcel) → length ns ≡ length ps →
    stopped (ns ++ n ∷ []) (ps ++ p ∷ []) ≡ stopped ns ps ++ (if n == 0 then p ∷ [] else [])
stopped_last [] [] n p same = refl
stopped_last (m ∷ ns) (q ∷ ps) n p same = go (m == 0) (stopped_last ns ps n p (omega (arith, same)))
  where
    go : (b : Bool) → stopped (ns ++ n ∷ []) (ps ++ p ∷ []) ≡ stopped ns ps ++ (if n == 0 then p ∷ [] else []) →
        (if b then q ∷ stopped (ns ++ n ∷ []) (ps ++ p ∷ []) else stopped (ns ++ n ∷ []) (ps ++ p ∷ []))
        ≡ (if b then q ∷ stopped ns ps else stopped ns ps) ++ (if n == 0 then p ∷ [] else [])
    go true rest = ap (λ (xs : List Parcel). q ∷ xs) rest
    go false rest = rest
stopped_last ns ps n p same = absurd (omega (arith, same))

passed_last : (ns : List ℕ) (ps : List Parcel) (n : ℕ) (p : Parcel) → length ns ≡ length ps →
    passed (ns ++ n ∷ []) (ps ++ p ∷ []) ≡ passed ns ps ++ (if n == 0 then [] else record { ports = n; parcel = p } ∷ [])
passed_last [] [] n p same = refl
passed_last (m ∷ ns) (q ∷ ps) n p same = go (m == 0) (passed_last ns ps n p (omega (arith, same)))
  where
    go : (b : Bool) → passed (ns ++ n ∷ []) (ps ++ p ∷ []) ≡ passed ns ps ++ (if n == 0 then [] else record { ports = n; parcel = p } ∷ []) →
        (if b then passed (ns ++ n ∷ []) (ps ++ p ∷ []) else record { ports = m; parcel = q } ∷ passed (ns ++ n ∷ []) (ps ++ p ∷ []))
        ≡ (if b then passed ns ps else record { ports = m; parcel = q } ∷ passed ns ps) ++ (if n == 0 then [] else record { ports = n; parcel = p } ∷ [])
    go true rest = rest
    go false rest = ap (λ (xs : List Output). record { ports = m; parcel = q } ∷ xs) rest
passed_last ns ps n p same = absurd (omega (arith, same))

-- one parcel more is judged
module _ (ports : List ℕ) (held : List Parcel) (k : ℕ) (p : Parcel) (rest : List Parcel) (each : length ports ≡ length held) (within : k < length ports)
    (line : drop k held ++ stopped (take k ports) (take k held) ≡ p ∷ rest) where
  abbrev on : ℕ
  on = get_or ports k 0

  first : get_or held k p ∷ (drop (k + 1) held ++ stopped (take k ports) (take k held)) ≡ p ∷ rest
  first = let below : k < length held = omega arith in ap (λ (xs : List Parcel). xs ++ stopped (take k ports) (take k held)) (sym (drop_more held k p below)) ∙ line

  more : take (k + 1) held ≡ take k held ++ p ∷ []
  more =
      let below : k < length held = omega arith in
      let is : get_or held k p ≡ p = let first = first in cc in
      take_more held k p below ∙ ap (λ (q : Parcel). take k held ++ q ∷ []) is

  as_many : length (take k ports) ≡ length (take k held)
  as_many = length-take k ports ∙ omega (arith, each) ∙ sym (length-take k held)

  line_more : rest ++ (if on == 0 then p ∷ [] else []) ≡ drop (k + 1) held ++ stopped (take (k + 1) ports) (take (k + 1) held)
  line_more =
      let behind : drop (k + 1) held ++ stopped (take k ports) (take k held) ≡ rest = let first = first in cc in
      rw (take_more ports k 0 within, more, stopped_last (take k ports) (take k held) on p as_many, ← append_assoc, behind) refl

  outs_more : (outs : List Output) → outs ≡ passed (take k ports) (take k held) →
      outs ++ (if on == 0 then [] else record { ports = on; parcel = p } ∷ []) ≡ passed (take (k + 1) ports) (take (k + 1) held)
  outs_more outs are = rw (take_more ports k 0 within, more, passed_last (take k ports) (take k held) on p as_many, are) refl

pub loop-on-preserved : goal.loop-on-preserved
loop-on-preserved c =
    let inv = c.loop-on.invariant in
    let k = c.loop-on.on-index in
    let ports = c.args.ports.now in
    let held = c.args.held.items in
    let rest = c.pop.new.self.items in
    let are = c.as_slice-on-items.ensures in
    let line = sym inv.line ∙ c.in-Some.ensures.some in
    let within : k < length ports = rw are at c.loop-on-test.true in
    let next = line_more ports held k c.in-Some.parcel rest c.requires.each within line in
    let outs = outs_more ports held k c.in-Some.parcel rest c.requires.each within line c.loop-on.outputs.items inv.outs in
    elim c.if-on-eq0.branch [
      | then-on-eq0 w ↦
          let none : (get_or ports k 0 == 0) ≡ true = eq-eqb (get_or ports k 0) 0 (rw are at w.if-on-eq0.true) in record {
            line = rw (w.held-is, w.push.ensures.items) (rw none at next);
            outs = rw w.outputs-is (rw (none, append-nil) at outs);
            same = rw (w.held-is, w.push.ensures.room, c.pop.ensures.room) inv.same;
            few = rw w.outputs-is (omega (arith, inv.few));
            room = rw w.outputs-is inv.room;
          }
      | else-on-eq0 w ↦
          let is = rw are at w.if-on-eq0.false in
          let some : (get_or ports k 0 == 0) ≡ false = grind (arith, nat_tests, is) in
          let pushed = w.push_reserved.ensures in record {
            line = rw w.held-is (rw (some, append-nil) at next);
            outs = rw (w.outputs-is, pushed.items, are) (rw some at outs);
            same = rw (w.held-is, c.pop.ensures.room) inv.same;
            few = rw (w.outputs-is, pushed.items, length-append) (omega (arith, inv.few));
            room = rw w.outputs-is (omega (arith, pushed.capacity, inv.room));
          }
    ]
