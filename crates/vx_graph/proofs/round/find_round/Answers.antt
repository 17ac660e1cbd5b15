use Rattle.std.proofs.Common.{◌≡◌, ◌∙◌, ◌++◌, ◌∷◌, ◌<◌, [], ℕ, true, false, subst, sym, ap, arith, length, get_or, set, All, Contains}
use Rattle.std.proofs.lemmas.List.{get_or_read, length-set}
use Rattle.std.proofs.lemmas.Result.{IfOk-weaker}
use Rattle.vx_graph.specs.Rounds.{edge, marked, Linked, AreApart, IsRound}
use Rattle.vx_graph.proofs.Rounds.{linked_more, apart_more, seen_more, path_more, cut_round, apart_drop}
use Rattle.vx_graph.proofs.round.find_round.Goals as goal

pub walk-preserved : goal.walk-preserved
walk-preserved c =
    let rows = c.args.rows.now in
    let seen = c.walk.seen.items in
    let path = c.walk.path.items in
    let at = c.walk.at in
    let next = c.in-Some.next in
    let inv = c.walk.invariant in
    let here : at < length seen = omega arith in
    let row_is : c.as_slice.result.now ≡ get_or rows at [] = c.as_slice.ensures ∙ get_or_read rows at _ inv.in_rows c.index-rows-at.is [] in
    let new : marked seen at ≡ false = sym (get_or_read seen at _ here c.index.ensures false) ∙ c.walk-test.true in
    let e : c.push.new.self.items ≡ path ++ at ∷ [] = c.in_ok-push.ensures.items in
    let read : edge rows at next ≡ true = ap (λ r. get_or r next false) (sym row_is) ∙ c.in-Some.ensures.1 in
    record {
      in_rows = omega (arith, c.in-Some.ensures.0, ap length row_is, c.requires.square at [] inv.in_rows);
      unmarked = c.in-Some.ensures.2;
      same_len = length-set seen at true ∙ inv.same_len;
      linked = subst (λ p. Linked rows (p ++ next ∷ [])) (sym e) (linked_more rows path at next inv.linked read);
      apart = subst AreApart (sym e) (apart_more seen path at new inv.path_seen inv.apart);
      on_path = subst (λ p. (k : ℕ) → marked (set seen at true) k ≡ true → Contains p k) (sym e) (seen_more seen path at inv.on_path);
      path_seen = subst (λ p. All (λ k. marked (set seen at true) k ≡ true) p) (sym e) (path_more seen path at here inv.path_seen);
    }

pub returns-clause-round : goal.returns-clause-round
returns-clause-round c =
    let rows = c.args.rows.now in
    let at = c.walk.at in
    let linked = subst (λ p. Linked rows (p ++ at ∷ [])) (sym c.as_slice-2.ensures.value) c.walk.invariant.linked in
    IfOk-weaker c.from_place.result _ _
    (λ part w. subst (IsRound rows) (sym w.3) (cut_round rows c.as_slice-2.result.now at w.0 w.1 w.2 linked)) c.from_place.ensures

pub returns-clause-apart : goal.returns-clause-apart
returns-clause-apart c =
    let apart = subst AreApart (sym c.as_slice-2.ensures.value) c.walk.invariant.apart in
    IfOk-weaker c.from_place.result _ _
    (λ part w. subst AreApart (sym w.3) (apart_drop c.as_slice-2.result.now w.0 apart)) c.from_place.ensures
