use Rattle.std.proofs.Common.{◌≡◌, ℕ, false, refl, arith, ap, ◌∙◌, Some}
use Rattle.std.specs.Prelude.{◌==◌}
use Rattle.vx_places.specs.Numbers.{for_target}
use Rattle.vx_places.proofs.Written.{said_still, waiting_written, takes, keeps, has, capacities_kept}
use Rattle.vx_places.proofs.Looking.{child_there, oldest_is, others_stay}
use Rattle.vx_places.proofs.rows.take_child.Goals as goal

pub unreachable-requires : goal.unreachable-requires
unreachable-requires c =
    let l = child_there _ _ _ (has _ c.args.rows.now.items c.args.i _ c.requires.within c.index_mut.ensures.value c.requires.oldest) in
    let ok = c.index_mut.result.now.waiting.ok.0 in
    let contrary = c.in-None.ensures.variant.1 (omega (arith, l, ok)) in cc

pub returns-clause-takes : goal.returns-clause-takes
returns-clause-takes c =
    let first = has _ c.args.rows.now.items c.args.i _ c.requires.within c.index_mut.ensures.value c.requires.oldest in
    let children = c.index_mut.result.now.waiting.items in
    let others = λ (u : ℕ) (other : (c.args.target == u) ≡ false).
    ap (for_target u) c.in-Some.ensures.items ∙ others_stay c.args.target c.args.k children _ first c.in-Some.ensures.value u other in
    let change = waiting_written _ _ _ c.requires.within c.index_mut.ensures.value _ refl refl refl c.args.target others in
    takes change _ _ (ap Some (oldest_is c.args.target c.args.k children _ first c.in-Some.ensures.value))
    (ap (λ cs. Some (for_target c.args.target cs)) c.in-Some.ensures.items) (keeps change (λ j. refl))

pub returns-clause-free : goal.returns-clause-free
returns-clause-free c t s room = said_still _ c.args.rows.now.items c.args.i c.index_mut.result.now _ c.index_mut.ensures.value t room refl

pub returns-clause-capacities : goal.returns-clause-capacities
returns-clause-capacities c = search capacities_kept
