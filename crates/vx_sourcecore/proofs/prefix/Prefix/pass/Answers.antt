use Rattle.std.proofs.Common.{◌≡◌, ◌<◌, ◌+◌, ℕ, suc, ◌∙◌, sym, ap, subst, arith, length, List, true, false}
use Rattle.std.proofs.lemmas.Bool.Decides.{nat_tests}
use Rattle.std.specs.Prelude.{◌==◌}
use Rattle.vx_sourcecore.specs.declared.prefix.Passing.{Passing}
use Rattle.vx_sourcecore.specs.declared.prefix.Prefix.{Prefix}
use Rattle.vx_sourcecore.specs.Prefixes.{passed_in}
use Rattle.vx_sourcecore.proofs.Prefixing.{passed_from, passed_not, passed_here, passed_end, same_at}
use Rattle.vx_sourcecore.proofs.prefix.Prefix.pass.Goals as goal

hit : (a b : ℕ) → a ≡ b → (a == b) ≡ true
hit a b same = grind (arith, nat_tests, same)

miss : (a b : ℕ) → (a ≡ b → ⊥) → (a == b) ≡ false
miss a b other = grind (arith, nat_tests, other)

one_more : (i : ℕ) → suc i ≡ i + 1
one_more i = omega arith

pub returns-then-index-batch-clause-passed : goal.returns-then-index-batch-clause-passed
returns-then-index-batch-clause-passed c =
    let rows = c.loop-i.self.behind.items in
    let same : rows ≡ c.args.self.now.behind.items = ap (λ (p : Prefix). p.behind.items) c.loop-i.invariant.same in
    let within : c.loop-i.i < length rows = omega (arith, c.loop-i-test.true, c.len-i-end.ensures, c.args.self.now.behind.ok.0, ap length same) in
    let one = same_at rows c.loop-i.i c.index_mut.result.now c.index.result.now within c.index_mut.ensures.value c.index.ensures in
    sym (passed_here c.args.batch c.loop-i.i rows c.index_mut.result.now within c.index_mut.ensures.value (hit (c.index_mut.result.now.batch) c.args.batch (ap (λ (x : Passing). x.batch) one ∙ c.if-index-batch.true)))
    ∙ sym (subst (λ (rs : List Passing). passed_in c.args.batch rs ≡ passed_from c.args.batch c.loop-i.i rs) (sym same) c.loop-i.invariant.before)
    ∙ ap (passed_in c.args.batch) same

pub loop-i-preserved : goal.loop-i-preserved
loop-i-preserved c =
    let rows = c.loop-i.self.behind.items in
    let same : rows ≡ c.args.self.now.behind.items = ap (λ (p : Prefix). p.behind.items) c.loop-i.invariant.same in
    let within : c.loop-i.i < length rows = omega (arith, c.loop-i-test.true, c.len-i-end.ensures, c.args.self.now.behind.ok.0, ap length same) in
    record {
      same = c.loop-i.invariant.same;
      before = c.loop-i.invariant.before ∙ subst (λ (rs : List Passing). passed_from c.args.batch c.loop-i.i rs ≡ passed_from c.args.batch (c.loop-i.i + 1) rs) same
          (subst (λ (k : ℕ). passed_from c.args.batch c.loop-i.i rows ≡ passed_from c.args.batch k rows) (one_more c.loop-i.i) (passed_not c.args.batch c.loop-i.i rows c.index.result.now within c.index.ensures (miss c.index.result.now.batch c.args.batch c.if-index-batch.false)));
    }

pub returns-clause-passed : goal.returns-clause-passed
returns-clause-passed c =
    let same = ap (λ (p : Prefix). p.behind.items) c.loop-i.invariant.same in
    same ∙ sym (c.loop-i.invariant.before ∙ passed_end c.args.batch c.loop-i.i c.args.self.now.behind.items (omega (arith, c.loop-i-test.false, c.len-i-end.ensures, c.args.self.now.behind.ok.0)))
