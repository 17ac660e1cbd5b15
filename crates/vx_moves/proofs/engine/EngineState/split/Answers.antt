use Rattle.std.proofs.Common.{◌≡◌, ◌∙◌, ℕ, List, length, refl, sym, ap}
use Rattle.vx_ends.specs.Observation.{Observation}
use Rattle.vx_ledger.specs.declared.parcel.Parcel.{Parcel}
use Rattle.vx_record.specs.Ceasing.{readers_on}
use Rattle.vx_record.specs.Parcels.{port_list}
use Rattle.vx_transform.specs.declared.output.Output.{Output}
use Rattle.vx_record.specs.Places.Place.{Outputs, Waiting}
use Rattle.vx_places.specs.Calls.{IsThere}
use Rattle.vx_places.specs.Capacities.{SameCapacities}
use Rattle.vx_places.specs.Views.{Same}
use Rattle.vx_places.specs.declared.row.Row.{Row}
use Rattle.vx_places.proofs.Looking.{none_waits_for, none_waits_for_all}
use Rattle.vx_moves.specs.Stands.{Stands}
use Rattle.vx_moves.specs.declared.engine.EngineState.{EngineState}
use Rattle.vx_moves.proofs.Leaving.{capacities_both}
use Rattle.vx_moves.proofs.Moving.{first_held, put_back_stands, read_so, split_short, split_step, targets_are}
use Rattle.vx_moves.proofs.Stepping.{same_stands}
use Rattle.vx_moves.proofs.engine.EngineState.split.Goals as goal

-- an output that is put together again
abbrev out_of : ℕ → Parcel → Output
out_of ports parcel = record { ports = ports; parcel = parcel }

put_same : {ports again : ℕ} {parcel back : Parcel} → back ≡ parcel → again ≡ ports → out_of again back ≡ out_of ports parcel
put_same same on = cc

-- an engine's state whose places are the same
stood : {P : Type 0} {observe : P → Observation} {old : EngineState P} {places : List Row} → Stands observe old → Same old.places places → length places ≡ length old.places → SameCapacities old.places places →
    Stands observe (record old { places = places })
stood stands same size capacities = same_stands stands same stands.states refl size refl capacities

pub route-requires-clause-held : goal.route-requires-clause-held
route-requires-clause-held g c =
    let room = c.take_child_room-room.ensures in
    first_held (stood c.requires.stands room.same room.size room.capacities) (Outputs c.args.i) c.in-Some.ensures.takes.was

pub put_children-requires-clause-none : goal.put_children-requires-clause-none
put_children-requires-clause-none g c =
    none_waits_for_all c.take_output.new.self c.args.i (rw (c.take_output.ensures.size, c.take_child_room-room.ensures.size, c.requires.stands.size) c.requires.within)
    (λ t. c.in-Some.ensures.takes.others (Waiting c.args.i t) refl ∙ (c.take_child_room-room.ensures.same.here (Waiting c.args.i t) ∙ none_waits_for c.args.self.now.places c.args.i t c.requires.none_waits))

pub returns-in-Ok-Children-clause-split : goal.returns-in-Ok-Children-clause-split
returns-in-Ok-Children-clause-split g c _ =
    let room = c.take_child_room-room.ensures in
    let d = record c.args.self.now { places = c.take_child_room-room.new.self } in
    let s : Stands g.P.Port.observed d = stood c.requires.stands room.same room.size room.capacities in
    let there : IsThere d.places c.args.i = rw s.size c.requires.within in
    let none = none_waits_for_all d.places c.args.i there (λ t. room.same.here (Waiting c.args.i t) ∙ none_waits_for c.args.self.now.places c.args.i t c.requires.none_waits) in
    let readers = targets_are g.P.Port.observed d.states d.log c.args.i c.get.result.now s.states c.get.ensures c.bounded-ports.result c.bounded-ports.ensures.below ∙ (ap (λ p. readers_on d.log c.args.i (port_list p)) c.bounded-ports.ensures.same ∙ read_so s c.in-Some.ensures.takes c.in-Some.ensures.output) in
    let routes = rw (c.in-Ok-Children.field-0-is, readers) at c.in-Ok-Children.ensures.routes in
    let some = rw (c.in-Ok-Children.field-0-is, readers) at c.in-Ok-Children.ensures.no_consumer.1 in
    let split = split_step s c.in-Some.ensures.takes c.in-Some.ensures.output c.requires.going c.requires.unleased there none routes some
    c.put_children.ensures.divides
    (c.put_children.ensures.size ∙ c.take_output.ensures.size)
    (capacities_both d.places c.take_output.new.self c.put_children.new.self c.take_output.ensures.capacities c.put_children.ensures.capacities)
    (rw (c.of-was.ensures, c.bounded-ports.ensures.same) at c.note_split.ensures) in
    let steps = split.steps in
    record {
      ports = split.ports;
      event = split.event;
      children = split.children;
      steps = record { stands = steps.stands; follows = steps.follows; noted = steps.noted; size = steps.size };
    }

pub returns-in-Ok-Children-clause-stands : goal.returns-in-Ok-Children-clause-stands
returns-in-Ok-Children-clause-stands g c = (returns-in-Ok-Children-clause-split g c refl).steps.stands

pub returns-in-Ok-NoConsumer-clause-stands : goal.returns-in-Ok-NoConsumer-clause-stands
returns-in-Ok-NoConsumer-clause-stands g c =
    let room = c.take_child_room-room.ensures in
    put_back_stands (stood c.requires.stands room.same room.size room.capacities) c.in-Some.ensures.takes c.in-Some.ensures.output c.put_output_back.ensures.takes c.put_output_back.ensures.output (put_same (rw c.in-Ok-NoConsumer.field-0-is at c.in-Ok-NoConsumer.ensures.whole) c.bounded-ports.ensures.same)
    (rw c.in-Ok-NoConsumer.field-0-is at c.in-Ok-NoConsumer.ensures.unmoved) (c.put_output_back.ensures.size ∙ c.take_output.ensures.size)
    (capacities_both c.take_child_room-room.new.self c.take_output.new.self c.put_output_back.new.self c.take_output.ensures.capacities c.put_output_back.ensures.capacities)

pub returns-clause-stands : goal.returns-clause-stands
returns-clause-stands g c =
    let room = c.take_child_room-room.ensures in
    put_back_stands (stood c.requires.stands room.same room.size room.capacities) c.in-Some.ensures.takes c.in-Some.ensures.output c.put_output_back-in-Err.ensures.takes c.put_output_back-in-Err.ensures.output (put_same c.in-Err.ensures.back c.bounded-ports.ensures.same) c.in-Err.ensures.unchanged
    (c.put_output_back-in-Err.ensures.size ∙ c.take_output.ensures.size)
    (capacities_both c.take_child_room-room.new.self c.take_output.new.self c.put_output_back-in-Err.new.self c.take_output.ensures.capacities c.put_output_back-in-Err.ensures.capacities)

pub returns-clause-short : goal.returns-clause-short
returns-clause-short g c =
    let room = c.take_child_room-room.ensures in
    let d = c.args.self.now in
    let s = stood c.requires.stands room.same room.size room.capacities in
    let readers = targets_are g.P.Port.observed d.states d.log c.args.i c.get.result.now c.requires.stands.states c.get.ensures c.bounded-ports.result c.bounded-ports.ensures.below ∙ (ap (λ p. readers_on d.log c.args.i (port_list p)) c.bounded-ports.ensures.same ∙ read_so s c.in-Some.ensures.takes c.in-Some.ensures.output) in
    split_short s c.in-Some.ensures.takes c.in-Some.ensures.output c.in-Err.field-0.cause (rw readers at c.in-Err.ensures.cause)

pub returns-in-Ok-NoConsumer-clause-unread : goal.returns-in-Ok-NoConsumer-clause-unread
returns-in-Ok-NoConsumer-clause-unread g c _ =
    let room = c.take_child_room-room.ensures in
    let d = c.args.self.now in
    let s = stood c.requires.stands room.same room.size room.capacities in
    let readers = targets_are g.P.Port.observed d.states d.log c.args.i c.get.result.now s.states c.get.ensures c.bounded-ports.result c.bounded-ports.ensures.below ∙ (ap (λ p. readers_on d.log c.args.i (port_list p)) c.bounded-ports.ensures.same ∙ read_so s c.in-Some.ensures.takes c.in-Some.ensures.output) in
    sym readers ∙ (rw c.in-Ok-NoConsumer.field-0-is at c.in-Ok-NoConsumer.ensures.no_consumer).0 tt
