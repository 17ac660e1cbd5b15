use Rattle.vx_value.specs.Values.{datum_of}
use Rattle.vx_json.proofs.WrittenTexts.{written-text}
use Rattle.vx_json.proofs.writer.write_value.Goals as goal

pub returns-in-Ok-clause-text : goal.returns-in-Ok-clause-text
returns-in-Ok-clause-text c h = written-text (datum_of c.args.value.now) h

pub returns-in-Err-clause-text : goal.returns-in-Err-clause-text
returns-in-Err-clause-text c h = written-text (datum_of c.args.value.now) h
