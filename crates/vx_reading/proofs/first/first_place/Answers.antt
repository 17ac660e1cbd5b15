use Rattle.std.proofs.Common.{◌≡◌, ◌<◌, ◌+◌, ℕ, length, true, false, sym, ◌∙◌, subst}
use Rattle.vx_reading.specs.Diagnostics.{precedes}
use Rattle.vx_reading.proofs.Precedence.{NoneBefore, none_before_new, none_before_old}
use Rattle.vx_reading.proofs.first.first_place.Goals as goal
use Rattle.vx_reading.proofs.first.first_place.Goals.{then-precedes, else-precedes}

pub loop-i-preserved : goal.loop-i-preserved
loop-i-preserved c =
    let xs = c.args.diagnostics.now in
    let i = c.loop-i.i in
    let best = c.loop-i.best in
    let x = c.index-diagnostics-i.result in
    let y = c.index-diagnostics-best.result in
    elim c.if-precedes.branch [
      | then-precedes w ↦
          let new : precedes x y ≡ true = sym c.precedes.ensures ∙ w.if-precedes.true in
          let none = none_before_new xs i best x y c.loop-i-test.true c.loop-i.invariant.within c.index-diagnostics-i.is c.index-diagnostics-best.is new c.loop-i.invariant.first in
          record {
            within = subst (λ (n : ℕ). n < length xs) (sym w.best-is) c.loop-i-test.true;
            first = subst (λ (n : ℕ). NoneBefore xs (i + 1) n) (sym w.best-is) none;
          }
      | else-precedes w ↦
          let new : precedes x y ≡ false = sym c.precedes.ensures ∙ w.if-precedes.false in
          let none = none_before_old xs i best x y c.loop-i-test.true c.loop-i.invariant.within c.index-diagnostics-i.is c.index-diagnostics-best.is new c.loop-i.invariant.first in
          record {
            within = subst (λ (n : ℕ). n < length xs) (sym w.best-is) c.loop-i.invariant.within;
            first = subst (λ (n : ℕ). NoneBefore xs (i + 1) n) (sym w.best-is) none;
          }
    ]
