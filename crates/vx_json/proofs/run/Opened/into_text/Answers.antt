use Rattle.vx_json.proofs.Runs.{text-quoted, text-begun}
use Rattle.vx_json.proofs.run.Opened.into_text.Goals as goal

pub returns-in-Whole : goal.returns-in-Whole
returns-in-Whole c w h st = text-quoted w c.in-Whole.words st (rw c.in-Whole.is at h)

pub returns-in-Part : goal.returns-in-Part
returns-in-Part c w h st = text-begun w c.in-Part.text.items st (rw c.in-Part.is at h)
