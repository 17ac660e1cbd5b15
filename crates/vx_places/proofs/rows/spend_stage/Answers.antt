use Rattle.std.proofs.Common.{arith, ap, length, ◌<◌, refl, sym, ◌∙◌}
use Rattle.std.proofs.lemmas.Option.{IfSome_then, slice_get_past}
use Rattle.vx_record.specs.Places.Place.{Contents}
use Rattle.vx_places.proofs.Written.{if_none_then, one_some, read, read_at, stage_written, stage_still, loses, keeps, stage_capacity_kept}
use Rattle.vx_places.proofs.rows.spend_stage.Goals as goal

-- both rows that were read are one, so the stage is in the one that is written
within : (c : goal.After-rows-1) → c.args.s < length c.index_mut.result.now.stages.items
within c =
    let first = read c.args.rows.now.items c.args.i _ c.requires c.index.ensures in
    let again = read c.args.rows.now.items c.args.i _ c.requires c.index_mut.ensures.value in
    let same = ap (λ row. row.stages.len) (one_some _ _ (sym first ∙ again)) in
    let ok = c.index_mut.result.now.stages.ok in omega (arith, ok, same, c.len.ensures, c.if-s-len.true)

pub returns-then-s-len-clause-loses : goal.returns-then-s-len-clause-loses
returns-then-s-len-clause-loses c = IfSome_then c.take_copy.result c.take_copy.ensures.loses (λ lost less.
    let change = stage_written _ _ _ c.requires c.index_mut.ensures.value c.args.s _ _ (within c) c.index_mut-then-s-len.ensures.value in
    loses change lost.copy lost.last _ _ refl refl less (keeps change (λ j. refl)))

pub returns-then-s-len-clause-none : goal.returns-then-s-len-clause-none
returns-then-s-len-clause-none c = if_none_then c.take_copy.result
    (stage_still _ _ _ c.requires c.index_mut.ensures.value c.args.s _ _ (within c) c.index_mut-then-s-len.ensures.value) c.take_copy.ensures.none

pub returns-then-s-len-clause-empty : goal.returns-then-s-len-clause-empty
returns-then-s-len-clause-empty c =
    let change = stage_written c.args.rows.now.items c.args.i c.index_mut.result.now c.requires c.index_mut.ensures.value c.args.s
    c.index_mut-then-s-len.result.now c.take_copy.new.line (within c) c.index_mut-then-s-len.ensures.value in
    if_none_then c.take_copy.result (λ none. rw change.was none) c.take_copy.ensures.empty

pub returns-else-s-len-clause-empty : goal.returns-else-s-len-clause-empty
returns-else-s-len-clause-empty c =
    let ok = c.index.result.now.stages.ok in
    let past = slice_get_past c.index.result.now.stages.items c.args.s (omega (arith, ok, c.len.ensures, c.if-s-len.false)) in
    rw (read_at c.args.rows.now.items c.args.i _ c.requires c.index.ensures (Contents c.args.i c.args.s) refl, past) tt

pub returns-then-s-len-clause-capacities : goal.returns-then-s-len-clause-capacities
returns-then-s-len-clause-capacities c = search stage_capacity_kept
