use Rattle.std.proofs.Common.{◌≡◌, ◌∙◌, ◌<◌, Bool, false, List, [], ◌∷◌, length, refl, sym, inl, inr, arith}
use Rattle.std.specs.Prelude.{IsTrue}
use Rattle.vx_record.proofs.Ceasing.{unabandoned}
use Rattle.vx_landing.proofs.Answering.{none_known, over_known}
use Rattle.vx_landing.proofs.States.{owing_now}
use Rattle.vx_landing.proofs.landing.create_cut_batch.Goals as goal

filled : {X : Type 0} (xs : List X) (empty : Bool) → empty ≡ false → (xs ≡ [] → IsTrue empty) → 0 < length xs
filled [] empty not says = let yes : IsTrue empty = says refl in cc
filled (x ∷ xs) empty not says = omega arith

pub create_batch-requires-clause-may : goal.create_batch-requires-clause-may
create_batch-requires-clause-may g c =
    let r = c.requires in
    let some = filled c.args.cut.events c.is_empty.result c.if-is_empty.false c.is_empty.ensures.1 in
    record {
      going = unabandoned c.args.engine.now.log (none_known g.P.Port.observed c.args.engine.now r.stands (sym c.is_some.ensures ∙ c.if-is_some.false));
      yields = r.yields some;
      some = some;
      few = r.few;
    }

pub returns-then-is_some-clause-created : goal.returns-then-is_some-clause-created
returns-then-is_some-clause-created g c =
    inl (inr (over_known g.P.Port.observed c.args.engine.now c.requires.stands (sym c.is_some.ensures ∙ c.if-is_some.true)), refl)

pub returns-in-Err-clause-owing : goal.returns-in-Err-clause-owing
returns-in-Err-clause-owing g c =
    owing_now c.args.i c.args.engine.now.states c.create_batch.new.self.states c.owed.new.self c.create_batch.ensures.leaves.states c.owed.ensures.owing
