-- `new` makes a value of no bytes, with no entries.
use mathlib.Core.Path.{refl}
use mathlib.Core.List.{[], ◌∷◌}
use mir.Syntax.{a_type}
use mir.Val.{Val, vstruct, vcons, vnil}
use mir.MapTy.{inst_fn}
use base.Fml.{Fml}
use contract.Running.{tables}
use types.Kit.{‵, raw, ◌⊛◌, ◌$◌, ◌∵◌, !, qed, move, keep, split, use0, suffices, done}
use types.Run.{no_more, and_then, returns, enter}
use types.Part.{agg}
use types.ByLocal.{alloc_all, pass_all, free_all, look_at, get, sets}
use denote.Param.{param, layouts}
use denote.RattleType.{RattleType, owns}
use denote.Shadow.{makes_shadow}
use denote.Steps.{nothing}
use denote.Triple.Entry.{alive}
use denote.Signature.{types_at}
use denote.Triple.Walked.{says, ends_at}
use Rattle.std.proofs.raw_atomic.Walks.{proved}
use Rattle.vx_history.specs.contracts.history.History.{the_row}
use Rattle.vx_history.specs.contracts.history.History.new.{ended, clauses}
use Rattle.vx_history.specs.contracts.history.History.new.Key.{name as #self}
use Rattle.vx_history.proofs.history.History.new.Statement.{statement}
use Rattle.vx_history.proofs.history.History.new.Code as code

abbrev made : Val
made = vstruct (vcons (vstruct vnil) vnil)

pub new_spec : {M : Type 1} → statement M
new_spec 𝓤 𝓛 𝓜 𝓡 wired E LE =
    let H = 𝓛.H in let 𝓣 = tables 𝓤 H 𝓜 𝓡 𝓡.env in let R : RattleType = the_row (param 0 E) in
    let En = ended E in let c = clauses E 𝓛 𝓜.mem 𝓡.returns in let inst = layouts (a_type ∷ []) (E, tt) in let fn = inst_fn inst code.function in
    proved 𝓛 En tt c 𝓜 𝓡 tt (#self inst) fn (code.unfolded 𝓤 H 𝓜 𝓡 wired (E, tt)) (λ κs. tt) (λ κs. tt) (λ κs qs bounds a g are.
    let r : R.Denot = [] in let O : Fml = R.own_val r (made ∷ []) in
    qed 𝓛 ((raw (alive 𝓛 En.signature κs qs) ⊛ ‵ (owns (types_at En.signature.params κs) a tt)) ∷ raw ((c κs a).requires g) ∷ []) ∵ split ! $ keep ! (0 ∷ []) $
    enter ! _ _ _ _ _ $ alloc_all ! (λ l. pass_all ! refl tt $
    sets ! (agg ! (no_more !)) refl (tt, tt) $ sets ! (agg ! (and_then ! (get ! refl) (no_more !))) refl (tt, (tt, tt)) $
    returns ! (look_at ! 0 refl) $ free_all ! refl $
    use0 𝓛 (‵ O) (makes_shadow 𝓛 O (λ x. (((λ vss. (tt, ((λ uss. (tt, tt)), tt))), tt), tt)) ((record { of = record {}; entries = [] }, (refl, tt)), ((((vstruct vnil ∷ [], tt), (refl, ((tt, (refl, tt)), tt))), tt), tt))) $
    suffices ! _ (ends_at 𝓛 En tt c ((κs, qs, bounds, a, tt), g) made r tt tt) $ says ! refl $
    nothing ! $ move ! (2 ∷ 0 ∷ 1 ∷ []) $ done !))
