use Rattle.vx_value.specs.Values.{datum_of}
use Rattle.vx_json.proofs.Readings.{event-of-value}
use Rattle.vx_json.proofs.reader.event.Goals as goal

pub returns-in-Ok-clause-event : goal.returns-in-Ok-clause-event
returns-in-Ok-clause-event c = event-of-value c.args.bytes.now (datum_of c.in_ok-value.value) c.in-Ok.event.fields c.in_ok-value.ensures.value c.in-Ok.ensures.ok
