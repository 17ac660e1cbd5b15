use Rattle.std.proofs.Common.{◌≤◌, ◌∙◌, map, ap, fold, arith}
use Rattle.std.specs.Hash as fed
use Rattle.vx_value.specs.Texts.{ByteString}
use Rattle.vx_value.specs.Datum.{data_of, named_of, depth, data_depth, named_depth}
use Rattle.vx_value.specs.Values.{datum_of, named_datum}
use Rattle.vx_value.proofs.Depths.{data_depth-bound, named_depth-bound}
use Rattle.vx_pick.proofs.Fed.{item_fed, field_fed}
use Rattle.vx_pick.proofs.feeding.+feed.Goals as goal

pub feed_items-feed_value-requires : goal.feed_items-feed_value-requires
feed_items-feed_value-requires g t c =
    let b : depth (datum_of c.item-item.result) ≤ data_depth (data_of (map datum_of c.args.items.now)) =
    data_depth-bound c.args.items.now c.loop-item.item-index c.item-item.result c.loop-item-test.true c.item-item.is in λ κs lives. (omega (arith, b, c.decreases), lives)

pub feed_fields-feed_value-requires : goal.feed_fields-feed_value-requires
feed_fields-feed_value-requires g t c =
    let b : depth (datum_of c.field-item.result.value) ≤ named_depth (named_of (map named_datum c.args.fields.now)) =
    named_depth-bound c.args.fields.now c.loop-field.field-index c.field-item.result c.loop-field-test.true c.field-item.is in λ κs lives. (omega (arith, b, c.decreases), lives)

pub feed_items-loop-item-preserved : goal.feed_items-loop-item-preserved
feed_items-loop-item-preserved g t c =
    item_fed g.H.Hasher.write c.args.state.now c.args.items.now c.loop-item.item-index c.item-item.result c.loop-item.state c.feed_value.new.state
    c.loop-item-test.true c.item-item.is c.loop-item.invariant c.feed_value.ensures

pub feed_fields-loop-field-preserved : goal.feed_fields-loop-field-preserved
feed_fields-loop-field-preserved g t c =
    field_fed g.H.Hasher.write c.args.state.now c.args.fields.now c.loop-field.field-index c.field-item.result c.loop-field.state c.hash.new.state c.feed_value.new.state
    c.loop-field-test.true c.field-item.is c.loop-field.invariant
    (c.hash.ensures ∙ ap (λ (w : ByteString). fold g.H.Hasher.write c.loop-field.state (fed.str w)) c.as_str.ensures) c.feed_value.ensures
