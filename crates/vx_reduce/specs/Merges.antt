-- The event of a group once another one is merged into it.
use Rattle.std.specs.Prelude.{Option, Some, None, List, []}
use Rattle.vx_value.specs.Datum.{NamedDatum}
use Rattle.vx_value.specs.Texts.{ByteString}
use Rattle.vx_value.specs.declared.event.Event.{Event}
use Rattle.vx_ledger.specs.declared.parcel.Parcel.{Parcel}
use Rattle.vx_condition.specs.Merging.{merged_with}
use Rattle.vx_condition.specs.declared.strategy.Strategy.{Strategy}
use Rattle.vx_reduce.specs.declared.group.Group.{Group}

-- the fields of a parcel, if it is there
abbrev pub fields_in : Option Parcel → List NamedDatum
fields_in None = []
fields_in (Some parcel) = parcel.event.fields

-- the fields of a group, if there is one
abbrev pub fields_found : Option Group → List NamedDatum
fields_found None = []
fields_found (Some g) = fields_in g.parcel

-- the event that an event is merged to in a group with these fields
abbrev pub merged_event : List (List ByteString) → List Strategy → List NamedDatum → Event → Event
merged_event group_by strategies fields e = record { fields = merged_with group_by strategies fields e.fields }
