use Rattle.std.proofs.Common.{◌∷◌, refl, sym, ap, ◌∙◌}
use Rattle.vx_value.specs.Filled.{Filled}
use Rattle.vx_ledger.specs.declared.parcel.Parcel.{Parcel}
use Rattle.vx_keeping.proofs.Inputs.{gives_more, given_parcel, gives_some_same}
use Rattle.vx_keeping.proofs.giving.give_all.Goals as goal

pub loop-parcel-preserved : goal.loop-parcel-preserved
loop-parcel-preserved c =
    let o = c.in-Ok.ensures in
    record {
      gives = gives_more c.args.now c.args.taken.now.items c.loop-parcel.taken.items c.pop.new.self.items c.in-Some.parcel
          c.args.reduce.now c.loop-parcel.reduce c.apply.new.self c.args.shelf.now c.loop-parcel.shelf c.apply.new.shelf c.in-Some.ensures.some c.loop-parcel.invariant.gives
          (given_parcel c.in-Some.parcel c.args.now c.loop-parcel.reduce c.apply.new.self c.loop-parcel.shelf c.apply.new.shelf o.goes_on o.puts_out o.meant o.answered o.moves);
      room = c.pop.ensures.room ∙ c.loop-parcel.invariant.room;
    }

pub returns-in-Err-clause-same : goal.returns-in-Err-clause-same
returns-in-Err-clause-same c =
    gives_some_same c.args.now c.args.taken.now.items c.loop-parcel.taken.items c.put_back.new.self.items c.args.reduce.now c.loop-parcel.reduce c.apply.new.self c.args.shelf.now c.loop-parcel.shelf c.apply.new.shelf
    (c.put_back.ensures.items ∙ ap (λ (p : Parcel). p ∷ c.pop.new.self.items) c.in-Err.ensures.back ∙ sym c.in-Some.ensures.some) c.in-Err.ensures.unchanged c.in-Err.ensures.shelf c.loop-parcel.invariant.gives

pub returns-clause-same : goal.returns-clause-same
returns-clause-same c =
    gives_some_same c.args.now c.args.taken.now.items c.loop-parcel.taken.items c.pop.new.self.items c.args.reduce.now c.loop-parcel.reduce c.loop-parcel.reduce c.args.shelf.now c.loop-parcel.shelf c.loop-parcel.shelf
    (ap (λ (f : Filled Parcel). f.items) c.in_default.ensures.empty) refl refl c.loop-parcel.invariant.gives
