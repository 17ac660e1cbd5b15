-- `note` does nothing. The borrow is opened and closed at a longer list.
use mathlib.Core.Path.{◌≡◌, refl, ap}
use mathlib.Core.List.{[], ◌∷◌}
use mir.Syntax.{a_type, named}
use mir.Val.{vunit}
use mir.MapTy.{inst_fn}
use base.Fml.{ftrue, fsep, flft}
use contract.Running.{tables}
use types.Kit.{‵, raw, ◌⊛◌, ◌$◌, ◌∵◌, !, qed, move, keep, split, join, fsplit3, fpick, fpack, feq_i, group, frame, suffices, done}
use types.Run.{unit_lit, of_opd, returns, enter}
use types.ByLocal.{alloc_all, pass_all, free_all, look_at, sets}
use denote.Builtin.{RefOf}
use denote.Exit.{yes}
use denote.Param.{param, layouts}
use denote.RattleType.{RattleType}
use denote.Ref.{MutRef, ShrRef, mut_vals, mut_Tells, shr_vals, shr_Tells}
use denote.Signature.{plain}
use denote.Steps.{nothing, opens, closes}
use denote.Triple.Walked.{Stays, walk_of, says, stay_dropped, Goes-dropped, stay_ref, Goes-ref, ends_at}
use Rattle.std.proofs.raw_atomic.Walks.{proved}
use Rattle.vx_history.specs.contracts.history.History.{the_row}
use Rattle.vx_history.specs.contracts.history.History.TheInside.{the_row as inside}
use Rattle.vx_history.specs.contracts.history.History.note.{ended, clauses}
use Rattle.vx_history.specs.contracts.history.History.note.Key.{name as #self}
use Rattle.vx_history.proofs.history.History.note.Statement.{statement}
use Rattle.vx_history.proofs.history.History.note.Code as code

pub note_spec : {M : Type 1} → statement M
note_spec 𝓤 𝓛 𝓜 𝓡 wired E X LE LX =
    let H = 𝓛.H in let 𝓣 = tables 𝓤 H 𝓜 𝓡 𝓡.env in let R : RattleType = the_row (param 0 E) in let Y : RattleType = param 1 X in
    let En = ended E X in let c = clauses E X 𝓛 𝓜.mem 𝓡.returns in let inst = layouts (a_type ∷ a_type ∷ []) (E, (X, tt)) in let fn = inst_fn inst code.function in
    let shown = RefOf (1 ∷ []) tt (plain (λ _. Y)) (λ _. tt) in let hs : Stays En.signature.params En.kept = (stay_ref (0 ∷ []) tt (plain (λ _. R)), (stay_dropped shown yes, tt)) in
    proved 𝓛 En hs c 𝓜 𝓡 (Goes-ref 𝓛 4 0 tt (plain (λ _. R)), (Goes-dropped 𝓛 4 shown yes (λ κs x f. refl), tt)) (#self inst) fn (code.unfolded 𝓤 H 𝓜 𝓡 wired (E, (X, tt)))
    (λ κs. (mut_vals, (shr_vals, tt))) (λ κs. (mut_Tells (named 0) κs.0 R, (shr_Tells (named 1) κs.1.0 Y, tt))) (λ κs qs bounds a e are.
    let b = a.0.ref_ptr.0 in let o = a.0.ref_ptr.1 in let I : RattleType = inside (param 0 E) in let longer : R.Denot = e ∷ a.0.now in
    let y : (walk_of 𝓛 En hs c).Ghost = ((κs, qs, bounds, a, (mut_vals a.0, (shr_vals a.1.0, tt))), e) in
    qed 𝓛 (((‵ (flft κs.0 qs.0) ⊛ (‵ (flft κs.1.0 qs.1.0) ⊛ (‵ (flft κs.1.1.0 qs.1.1.0) ⊛ (‵ (flft κs.1.1.1.0 qs.1.1.1.0) ⊛ ‵ ftrue))))
    ⊛ (‵ ((MutRef (named 0) κs.0 R).own_val a.0 (mut_vals a.0)) ⊛ (‵ ((ShrRef (named 1) κs.1.0 Y).own_val a.1.0 (shr_vals a.1.0)) ⊛ ‵ ftrue))) ∷ raw ((c κs a).requires e) ∷ []) ∵
    split ! $ split ! $ move ! (2 ∷ []) $ split ! $ keep ! (0 ∷ 2 ∷ 3 ∷ []) $
    enter ! _ _ _ _ _ $ alloc_all ! (λ l. pass_all ! refl ((tt, tt), ((tt, tt), tt)) $
    fsplit3 ! $ move ! (1 ∷ 2 ∷ 3 ∷ []) $ opens ! tt R b o (λ us.
    sets ! (of_opd ! (unit_lit !)) refl (tt, tt) $
    move ! (1 ∷ []) $ fpick ! (λ x.
    fpack ! ((i : I.Denot) × ((i.entries ≡ longer) × Unit {0})) (λ i. fsep (I.own_val i.0 us) ftrue) (record x.0 { entries = e ∷ x.0.entries }, (ap (λ es. e ∷ es) x.1.0, tt)) $ move ! (1 ∷ 0 ∷ []) $ closes ! tt R longer us b o $
    -- [two parts of self; the token; self's first part; the other tokens]
    returns ! (look_at ! 0 refl) $ free_all ! refl $ move ! (3 ∷ []) $
    suffices ! _ (ends_at 𝓛 En hs c y vunit tt (longer, (tt, tt)) (tt, (tt, tt))) $ says ! refl $
    group ! 3 $ nothing ! $ nothing ! $ join ! $ move ! (1 ∷ 0 ∷ []) $ join ! $ move ! (1 ∷ 2 ∷ []) $ join ! $ frame ! $ frame ! $
    feq_i ! _ (vunit ∷ []) _ refl $ done !))))
