use Rattle.std.proofs.Common.{◌≡◌, ◌+◌, ◌*◌, map, take, fold}
use Rattle.vx_value.specs.Datum.{data_of, named_of, depth, data_depth, named_depth}
use Rattle.vx_value.specs.Values.{datum_of, named_datum}
use Rattle.vx_pick.specs.Hashing.{data_fed, named_fed}
use Rattle.vx_pick.proofs.feeding.+feed.Given as goal

-- the items so far are fed
abbrev pub invariant-feed_items-loop-item : goal.invariant-feed_items-loop-item
invariant-feed_items-loop-item g l = l.state ≡ fold g.H.Hasher.write l.fn.state (data_fed (data_of (map datum_of (take l.item-index l.items))))

-- the fields so far are fed
abbrev pub invariant-feed_fields-loop-field : goal.invariant-feed_fields-loop-field
invariant-feed_fields-loop-field g l =
    l.state ≡ fold g.H.Hasher.write l.fn.state (named_fed (named_of (map named_datum (take l.field-index l.fields))))

abbrev pub decreases-feed_value : goal.decreases-feed_value
decreases-feed_value g l = 2 * depth (datum_of l.value.now)

abbrev pub decreases-feed_items : goal.decreases-feed_items
decreases-feed_items g l = 2 * data_depth (data_of (map datum_of l.items.now)) + 1

abbrev pub decreases-feed_fields : goal.decreases-feed_fields
decreases-feed_fields g l = 2 * named_depth (named_of (map named_datum l.fields.now)) + 1
