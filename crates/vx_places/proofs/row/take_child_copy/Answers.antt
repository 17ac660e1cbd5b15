use Rattle.std.proofs.Common.{arith, refl, ap, sym, ◌∙◌}
use Rattle.std.proofs.lemmas.List.{length-set, get_or-set_same}
use Rattle.vx_places.specs.Numbers.{for_target}
use Rattle.vx_places.proofs.Written.{if_none}
use Rattle.vx_places.proofs.Looking.{with_copies, child_there, child_still, child_lost, lost_is, gone_is, others_lost, others_gone, nothing_less}
use Rattle.vx_places.proofs.row.take_child_copy.Goals as goal
use Rattle.vx_places.proofs.row.take_child_copy.Goals.{then-last, else-last}

pub index_mut-requires : goal.index_mut-requires
index_mut-requires c = omega (arith, child_there c.args.target c.args.k c.args.waiting.now.items c.requires, c.args.waiting.now.ok.0)

pub returns-in_err-copy-clause-empty : goal.returns-in_err-copy-clause-empty
returns-in_err-copy-clause-empty c =
    if_none c.from_residual.result (nothing_less c.args.target c.args.k c.args.waiting.now.items c.index_mut.result.now c.requires c.index_mut.ensures.value (c.in_err-copy.ensures.none.0 refl))

pub returns-in_err-copy-clause-none : goal.returns-in_err-copy-clause-none
returns-in_err-copy-clause-none c = if_none c.from_residual.result
    (child_still c.args.waiting.now c.args.k _ c.pop.new.self c.index_mut.ensures.value (c.in_err-copy.ensures.empty ∙ sym (c.in_err-copy.ensures.none.0 refl)))

pub index-requires : goal.index-requires
index-requires c = omega (arith, child_there c.args.target c.args.k c.args.waiting.now.items c.requires, c.args.waiting.now.ok.0)

pub end_child-requires-clause-within : goal.end_child-requires-clause-within
end_child-requires-clause-within c =
    let less = with_copies c.index_mut.result.now c.pop.new.self in
    omega (arith, child_there c.args.target c.args.k c.args.waiting.now.items c.requires, length-set c.args.waiting.now.items c.args.k less)

pub end_child-requires-clause-bare : goal.end_child-requires-clause-bare
end_child-requires-clause-bare c child got =
    let less = with_copies c.index_mut.result.now c.pop.new.self in
    let l = child_there c.args.target c.args.k c.args.waiting.now.items c.requires in
    let same = got ∙ get_or-set_same c.args.waiting.now.items c.args.k less child l in
    let seen = c.index.ensures ∙ get_or-set_same c.args.waiting.now.items c.args.k less c.index.result.now l in
    ap (λ x. x.parcel.finalizers) (same ∙ sym seen) ∙ c.is_empty-last.ensures.0 c.if-last.true

pub returns-clause-loses : goal.returns-clause-loses
returns-clause-loses c =
    let less = with_copies c.index_mut.result.now c.pop.new.self in
    let l = child_there c.args.target c.args.k c.args.waiting.now.items c.requires in
    let seen = ap (λ x. x.parcel.finalizers) (c.index.ensures ∙ get_or-set_same c.args.waiting.now.items c.args.k less c.index.result.now l) in
    child_lost c.args.target c.args.k c.args.waiting.now.items c.index_mut.result.now c.requires c.index_mut.ensures.value c.pop.new.self c.in_ok-copy.copy c.is_empty-last.result _
    c.in_ok-copy.ensures.some (rw seen at c.is_empty-last.ensures)
    (elim c.if-last.branch [
      | then-last w ↦
          ap (λ q. for_target c.args.target q.items) w.waiting-is ∙ ap (for_target c.args.target) w.end_child.ensures
          ∙ gone_is c.args.target c.args.k c.args.waiting.now.items c.index_mut.result.now c.requires c.index_mut.ensures.value c.pop.new.self (sym seen ∙ c.is_empty-last.ensures.0 w.if-last.true)
      | else-last w ↦
          ap (λ q. for_target c.args.target q.items) w.waiting-is
          ∙ lost_is c.args.target c.args.k c.args.waiting.now.items c.index_mut.result.now c.requires c.index_mut.ensures.value c.pop.new.self (λ none. let yes = c.is_empty-last.ensures.1 (seen ∙ none) in absurd (cc (yes, w.if-last.false)))
    ])

pub returns-clause-others : goal.returns-clause-others
returns-clause-others c u other =
    elim c.if-last.branch [
      | then-last w ↦
          ap (λ q. for_target u q.items) w.waiting-is ∙ ap (for_target u) w.end_child.ensures
          ∙ others_gone c.args.target c.args.k c.args.waiting.now.items c.index_mut.result.now c.requires c.index_mut.ensures.value c.pop.new.self u other
      | else-last w ↦
          ap (λ q. for_target u q.items) w.waiting-is
          ∙ others_lost c.args.target c.args.k c.args.waiting.now.items c.index_mut.result.now c.requires c.index_mut.ensures.value c.pop.new.self u other
    ]
