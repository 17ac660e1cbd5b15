use Rattle.std.proofs.Common.{◌≡◌, ◌<◌, ◌+◌, ◌∙◌, ℕ, suc, sym, ap, subst, arith, length, List, Bool, true}
use Rattle.std.specs.Prelude.{◌||◌}
use Rattle.vx_sourcecore.specs.declared.prefix.Passing.{Passing}
use Rattle.vx_sourcecore.specs.declared.prefix.Prefix.{Prefix}
use Rattle.vx_sourcecore.specs.Prefixes.{kept_before, has_failed}
use Rattle.vx_sourcecore.proofs.Prefixing.{kept_from, failed_from, kept_not, kept_here, kept_end, or_true, or_false}
use Rattle.vx_sourcecore.proofs.prefix.Prefix.block.Goals as goal

one_more : (i : ℕ) → suc i ≡ i + 1
one_more i = omega arith

pub returns-then-fails-clause-kept : goal.returns-then-fails-clause-kept
returns-then-fails-clause-kept c =
    let rows = c.loop-i.self.behind.items in
    let same : rows ≡ c.args.self.now.behind.items = ap (λ (p : Prefix). p.behind.items) c.loop-i.invariant.same in
    let within : c.loop-i.i < length rows = omega (arith, c.loop-i-test.true, c.len-i-end.ensures, c.args.self.now.behind.ok.0, ap length same) in
    let here = kept_here c.args.batch c.loop-i.i rows c.index.result.now within c.index.ensures (sym c.fails.ensures ∙ c.if-fails.true) in
    c.truncate.ensures.items ∙ sym here.0 ∙ subst (λ (rs : List Passing). kept_from c.args.batch c.loop-i.i rs ≡ kept_before c.args.batch c.args.self.now.behind.items) (sym same) (sym c.loop-i.invariant.kept)

pub returns-then-fails-clause-blocked : goal.returns-then-fails-clause-blocked
returns-then-fails-clause-blocked c =
    let rows = c.loop-i.self.behind.items in
    let same : rows ≡ c.args.self.now.behind.items = ap (λ (p : Prefix). p.behind.items) c.loop-i.invariant.same in
    let within : c.loop-i.i < length rows = omega (arith, c.loop-i-test.true, c.len-i-end.ensures, c.args.self.now.behind.ok.0, ap length same) in
    let here = kept_here c.args.batch c.loop-i.i rows c.index.result.now within c.index.ensures (sym c.fails.ensures ∙ c.if-fails.true) in
    let found : has_failed c.args.batch c.args.self.now.behind.items ≡ true =
    c.loop-i.invariant.failed ∙ subst (λ (rs : List Passing). failed_from c.args.batch c.loop-i.i rs ≡ true) same here.1 in
    sym (ap (λ (t : Bool). c.args.self.now.blocked || t) found ∙ or_true c.args.self.now.blocked)

pub loop-i-preserved : goal.loop-i-preserved
loop-i-preserved c =
    let rows = c.loop-i.self.behind.items in
    let same : rows ≡ c.args.self.now.behind.items = ap (λ (p : Prefix). p.behind.items) c.loop-i.invariant.same in
    let within : c.loop-i.i < length rows = omega (arith, c.loop-i-test.true, c.len-i-end.ensures, c.args.self.now.behind.ok.0, ap length same) in
    let next = kept_not c.args.batch c.loop-i.i rows c.index.result.now within c.index.ensures (sym c.fails.ensures ∙ c.if-fails.false) in
    record {
      same = c.loop-i.invariant.same;
      kept = c.loop-i.invariant.kept ∙ subst (λ (rs : List Passing). kept_from c.args.batch c.loop-i.i rs ≡ kept_from c.args.batch (c.loop-i.i + 1) rs) same
          (subst (λ (k : ℕ). kept_from c.args.batch c.loop-i.i rows ≡ kept_from c.args.batch k rows) (one_more c.loop-i.i) next.0);
      failed = c.loop-i.invariant.failed ∙ subst (λ (rs : List Passing). failed_from c.args.batch c.loop-i.i rs ≡ failed_from c.args.batch (c.loop-i.i + 1) rs) same
          (subst (λ (k : ℕ). failed_from c.args.batch c.loop-i.i rows ≡ failed_from c.args.batch k rows) (one_more c.loop-i.i) next.1);
    }

pub returns-clause-kept : goal.returns-clause-kept
returns-clause-kept c =
    let last = kept_end c.args.batch c.loop-i.i c.args.self.now.behind.items (omega (arith, c.loop-i-test.false, c.len-i-end.ensures, c.args.self.now.behind.ok.0)) in
    ap (λ (p : Prefix). p.behind.items) c.loop-i.invariant.same ∙ sym (c.loop-i.invariant.kept ∙ last.0)

pub returns-clause-blocked : goal.returns-clause-blocked
returns-clause-blocked c =
    let last = kept_end c.args.batch c.loop-i.i c.args.self.now.behind.items (omega (arith, c.loop-i-test.false, c.len-i-end.ensures, c.args.self.now.behind.ok.0)) in
    ap (λ (p : Prefix). p.blocked) c.loop-i.invariant.same ∙ sym (ap (λ (t : Bool). c.args.self.now.blocked || t) (c.loop-i.invariant.failed ∙ last.1) ∙ or_false c.args.self.now.blocked)
