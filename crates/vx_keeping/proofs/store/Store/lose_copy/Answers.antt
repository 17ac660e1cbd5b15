use Rattle.std.proofs.Common.{◌≡◌, ◌++◌, [], ◌∷◌, List, ap, ◌∙◌, arith}
use Rattle.std.specs.Global.{Vec}
use Rattle.vx_value.specs.Filled.{Filled}
use Rattle.vx_transform.specs.declared.output.Output.{Output}
use Rattle.vx_ledger.specs.declared.parcel.Parcel.{Parcel}
use Rattle.vx_transform.specs.Shelves.{copies_dropped}
use Rattle.vx_reduce.proofs.Surrender.{some_weaker}
use Rattle.vx_keeping.specs.Stored.{copies_stored}
use Rattle.vx_keeping.proofs.Storing.{next_stored, taken_stored, only_kept, last_stored, none_stored, none_weaker}
use Rattle.vx_keeping.proofs.store.Store.lose_copy.Goals as goal

pub loop-copy-preserved : goal.loop-copy-preserved
loop-copy-preserved c =
    let room : c.push.new.self.room ≡ c.loop-copy.self.taken.room = c.push.ensures.room ∙ c.take_copy.ensures.room in
    record {
      same = λ w.
          c.loop-copy.invariant.same w
          ∙ next_stored c.loop-copy.self c.push.new.self c.next_parcel.new.ready c.next_parcel.new.shelf c.in-Some-next_parcel.parcel c.in_default.ensures.none c.in-Some-next_parcel.ensures.some
          (c.push.ensures.items ∙ ap (λ (ps : List Parcel). ps ++ c.in-Some-next_parcel.parcel ∷ []) c.in_default.ensures.empty) w;
      room = room ∙ c.loop-copy.invariant.room;
      some = let some = c.loop-copy.invariant.some in omega (arith, room, some);
    }

pub returns-in-Some-clause-some : goal.returns-in-Some-clause-some
returns-in-Some-clause-some c = λ w. c.loop-copy.invariant.same w ∙ taken_stored c.loop-copy.self c.take_copy.new.line c.in-Some.copy c.in-Some.ensures.some w

pub returns-in-None-clause-some : goal.returns-in-None-clause-some
returns-in-None-clause-some c =
    let o = c.lose_kept.ensures in
    some_weaker _ _ c.lose_kept.result (λ copy moved.
    last_stored (copies_stored c.args.self.now) c.loop-copy.self c.lose_kept.new.self copy c.loop-copy.invariant.same (only_kept c.loop-copy.self c.in_default.ensures.none c.in-None.ensures.ready c.in-None.ensures.shelf)
    (only_kept c.lose_kept.new.self (ap (λ (t : Filled Parcel). copies_dropped t.items) o.taken ∙ ap copies_dropped c.in_default.ensures.empty) (ap (λ (v : Vec Output). v.items) o.ready ∙ c.in-None.ensures.none)
    (o.shelf ∙ c.in-None.ensures.unchanged ∙ c.in-None.ensures.shelf)) moved) c.lose_kept.ensures.some

pub returns-in-None-clause-none : goal.returns-in-None-clause-none
returns-in-None-clause-none c =
    none_weaker c.lose_kept.result (λ none.
    none_stored (copies_stored c.args.self.now) c.loop-copy.self c.loop-copy.invariant.same (only_kept c.loop-copy.self c.in_default.ensures.none c.in-None.ensures.ready c.in-None.ensures.shelf) none) c.lose_kept.ensures.none
