use Rattle.std.proofs.Common.{◌≡◌, ◌+◌, ℕ, Bool, drop, get_or, sym, ◌∙◌}
use Rattle.std.specs.Prelude.{filter}
use Rattle.std.specs.Map.{keys_of, values_of}
use Rattle.vx_reduce.specs.declared.group.Group.{Group}
use Rattle.vx_reduce.specs.Indexes.{IsIndexed}
use Rattle.vx_reduce.proofs.Expiring.{out_at_first, out_same, one_more, no_more, drop_at, drop_end}
use Rattle.vx_reduce.proofs.expiry.put_out_numbers.Goals as goal

pub loop-number-init : goal.loop-number-init
loop-number-init c = record {
  indexed = λ next i. i;
  left = λ p next i h. h;
  gone = λ p next i h. out_at_first p (values_of c.args.entries.now.entries) c.args.shelf.now;
}

pub loop-number-preserved : goal.loop-number-preserved
loop-number-preserved c =
    let ns = c.as_slice-number-items.result.now in
    let step = λ (p : Group → Bool) (next : ℕ) (i : IsIndexed c.args.index.now.entries c.args.entries.now.entries next) (h : keys_of (filter (λ (e : ℕ × Group). p e.1) c.args.entries.now.entries) ≡ ns).
    one_more p (values_of c.args.entries.now.entries) c.loop-number.index.entries c.loop-number.entries.entries c.put_out_number.new.entries.entries next c.args.shelf.now c.loop-number.shelf c.put_out_number.new.shelf (get_or ns c.loop-number.number-index 0) (drop (c.loop-number.number-index + 1) ns)
    (c.loop-number.invariant.indexed next i) (c.loop-number.invariant.gone p next i h) (c.loop-number.invariant.left p next i h ∙ drop_at ns c.loop-number.number-index c.loop-number-test.true) c.in_ok-put_out_number.ensures.entries c.in_ok-put_out_number.ensures.put_out
    in record {
      indexed = λ next i. c.put_out_number.ensures.indexed next (c.loop-number.invariant.indexed next i);
      left = λ p next i h. (step p next i h).left;
      gone = λ p next i h. (step p next i h).gone;
    }

pub returns-in_err-put_out_number-clause-indexed : goal.returns-in_err-put_out_number-clause-indexed
returns-in_err-put_out_number-clause-indexed c next i = c.put_out_number.ensures.indexed next (c.loop-number.invariant.indexed next i)

pub returns-in_err-put_out_number-clause-put_out : goal.returns-in_err-put_out_number-clause-put_out
returns-in_err-put_out_number-clause-put_out c p next i h =
    out_same p (values_of c.args.entries.now.entries) c.loop-number.entries.entries c.put_out_number.new.entries.entries c.args.shelf.now c.loop-number.shelf c.put_out_number.new.shelf
    (c.loop-number.invariant.gone p next i (h ∙ sym c.as_slice-number-items.ensures.value)) c.in_err-put_out_number.ensures.err c.in_err-put_out_number.ensures.shelf

pub returns-clause-indexed : goal.returns-clause-indexed
returns-clause-indexed c next i = c.loop-number.invariant.indexed next i

pub returns-clause-put_out : goal.returns-clause-put_out
returns-clause-put_out c p next i h = c.loop-number.invariant.gone p next i (h ∙ sym c.as_slice-number-items.ensures.value)

pub returns-clause-all : goal.returns-clause-all
returns-clause-all c p next i h =
    no_more p c.loop-number.entries.entries (c.loop-number.invariant.left p next i (h ∙ sym c.as_slice-number-items.ensures.value) ∙ drop_end c.as_slice-number-items.result.now c.loop-number.number-index c.loop-number-test.false)
