use Rattle.std.proofs.Common.{◌+◌, ◌≤◌, ◌++◌, ◌∷◌, [], map, take, arith, ◌∙◌, ap}
use Rattle.vx_value.specs.Datum.{data_of, named_of, depth, data_depth, named_depth}
use Rattle.vx_value.specs.Values.{datum_of, named_datum}
use Rattle.vx_value.proofs.Depths.{data_depth-bound, named_depth-bound}
use Rattle.std.proofs.lemmas.Result.{err_from_is_err_and}
use Rattle.vx_value.specs.Texts.{ByteString}
use Rattle.vx_json.specs.Growth.{Keeps}
use Rattle.vx_json.specs.Written.{written, separator, items_written, fields_written}
use Rattle.vx_json.proofs.Commas.{items-more, fields-more, step}
use Rattle.vx_json.proofs.Growths.{keeps-more, keeps-added}
use Rattle.vx_json.proofs.writer.+push_value.Goals as goal

pub push_fields-push_field-requires : goal.push_fields-push_field-requires
push_fields-push_field-requires t c =
    let b : depth (datum_of c.index-fields-i.result.value) ≤ named_depth (named_of (map named_datum c.args.fields.now)) = named_depth-bound c.args.fields.now c.loop-i.i c.index-fields-i.result c.loop-i-test.true c.index-fields-i.is in (omega (arith, c.decreases), tt)

pub push_items-push_value-requires : goal.push_items-push_value-requires
push_items-push_value-requires t c =
    let b : depth (datum_of c.index-items-i.result) ≤ data_depth (data_of (map datum_of c.args.items.now)) = data_depth-bound c.args.items.now c.loop-i.i c.index-items-i.result c.loop-i-test.true c.index-items-i.is in (omega (arith, c.decreases), tt)

pub push_fields-returns-in_err-push_field-clause-err : goal.push_fields-returns-in_err-push_field-clause-err
push_fields-returns-in_err-push_field-clause-err t c =
    let before : Keeps c.args.out.now c.push_separator.new.out = keeps-added c.args.out.now c.loop-i.out (separator c.loop-i.i) c.push_separator.new.out c.loop-i.invariant.kept c.in_ok-push_separator.ensures.ok in
    let k : Keeps c.args.out.now c.push_field.new.out = keeps-more c.args.out.now c.push_separator.new.out c.push_field.new.out before c.in_err-push_field.ensures.err in
    rw (err_from_is_err_and c.from_residual-in_err-push_field.result c.from_residual-in_err-push_field.ensures.1).1 k

pub push_items-returns-in_err-push_value-clause-err : goal.push_items-returns-in_err-push_value-clause-err
push_items-returns-in_err-push_value-clause-err t c =
    let before : Keeps c.args.out.now c.push_separator.new.out = keeps-added c.args.out.now c.loop-i.out (separator c.loop-i.i) c.push_separator.new.out c.loop-i.invariant.kept c.in_ok-push_separator.ensures.ok in
    let k : Keeps c.args.out.now c.push_value.new.out = keeps-more c.args.out.now c.push_separator.new.out c.push_value.new.out before c.in_err-push_value.ensures.err in
    rw (err_from_is_err_and c.from_residual-in_err-push_value.result c.from_residual-in_err-push_value.ensures.1).1 k

pub push_fields-loop-i-preserved : goal.push_fields-loop-i-preserved
push_fields-loop-i-preserved t c =
    let before : Keeps c.args.out.now c.push_separator.new.out = keeps-added c.args.out.now c.loop-i.out (separator c.loop-i.i) c.push_separator.new.out c.loop-i.invariant.kept c.in_ok-push_separator.ensures.ok in
    let one : ByteString = fields_written (named_of (named_datum c.index-fields-i.result ∷ [])) in record {
      written =
          c.in_ok-push_field.ensures.ok
          ∙ ap (λ o. o ++ one) (c.in_ok-push_separator.ensures.ok ∙ ap (λ o. o ++ separator c.loop-i.i) c.loop-i.invariant.written)
          ∙ step c.args.out.now 123 (fields_written (named_of (map named_datum (take c.loop-i.i c.args.fields.now)))) (fields_written (named_of (map named_datum (take (c.loop-i.i + 1) c.args.fields.now)))) (separator c.loop-i.i) one
          (fields-more c.args.fields.now c.loop-i.i c.index-fields-i.result c.loop-i-test.true c.index-fields-i.is);
      kept = keeps-added c.args.out.now c.push_separator.new.out one c.push_field.new.out before c.in_ok-push_field.ensures.ok;
    }

pub push_items-loop-i-preserved : goal.push_items-loop-i-preserved
push_items-loop-i-preserved t c =
    let before : Keeps c.args.out.now c.push_separator.new.out = keeps-added c.args.out.now c.loop-i.out (separator c.loop-i.i) c.push_separator.new.out c.loop-i.invariant.kept c.in_ok-push_separator.ensures.ok in
    let one : ByteString = written (datum_of c.index-items-i.result) in record {
      written =
          c.in_ok-push_value.ensures.ok
          ∙ ap (λ o. o ++ one) (c.in_ok-push_separator.ensures.ok ∙ ap (λ o. o ++ separator c.loop-i.i) c.loop-i.invariant.written)
          ∙ step c.args.out.now 91 (items_written (data_of (map datum_of (take c.loop-i.i c.args.items.now)))) (items_written (data_of (map datum_of (take (c.loop-i.i + 1) c.args.items.now)))) (separator c.loop-i.i) one
          (items-more c.args.items.now c.loop-i.i c.index-items-i.result c.loop-i-test.true c.index-items-i.is);
      kept = keeps-added c.args.out.now c.push_separator.new.out one c.push_value.new.out before c.in_ok-push_value.ensures.ok;
    }
