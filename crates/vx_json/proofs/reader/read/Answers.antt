use Rattle.vx_json.proofs.Objects.{object-observed, no-object-observed}
use Rattle.vx_json.proofs.WrittenAgain.{gives-fields}
use Rattle.vx_json.proofs.reader.read.Goals as goal

pub returns-clause-written : goal.returns-clause-written
returns-clause-written c fields h l e = gives-fields c.args.bytes.now fields c.event.result c.event.ensures.event c.event.ensures.fault h l e

pub returns-clause-object : goal.returns-clause-object
returns-clause-object c = object-observed c.args.bytes.now c.event.result c.event.ensures.event

pub returns-clause-no_object : goal.returns-clause-no_object
returns-clause-no_object c = no-object-observed c.args.bytes.now c.event.result c.event.ensures.fault
