use Rattle.vx_json.proofs.Lines.{content-is, is-content, event-is, is-event, nothing-given, gives-nothing, no-event}
use Rattle.vx_json.proofs.laws.line_events.Goals as goal

pub returns-clause-content : goal.returns-clause-content
returns-clause-content c d line fields = (content-is d line fields, is-content d line fields)

pub returns-clause-event : goal.returns-clause-event
returns-clause-event c d type path line fields = (event-is d type path line fields, is-event d type path line fields)

pub returns-clause-undecodable : goal.returns-clause-undecodable
returns-clause-undecodable c d line = (nothing-given d line, gives-nothing d line)

pub returns-clause-no_event : goal.returns-clause-no_event
returns-clause-no_event c d type path line = no-event d type path line
