use Rattle.vx_json.proofs.Runs.{first-named, first-named-part, next-quoted, next-begun}
use Rattle.vx_json.proofs.run.Opened.into_name.Goals as goal

pub returns-in-Whole-clause-first : goal.returns-in-Whole-clause-first
returns-in-Whole-clause-first c w h e st = first-named c.args.fields w c.in-Whole.name st e (rw c.in-Whole.is at h)

pub returns-in-Whole-clause-next : goal.returns-in-Whole-clause-next
returns-in-Whole-clause-next c w h st = next-quoted c.args.fields w c.in-Whole.name st (rw c.in-Whole.is at h)

pub returns-in-Part-clause-first : goal.returns-in-Part-clause-first
returns-in-Part-clause-first c w h e st = first-named-part c.args.fields w c.in-Part.text.items st e (rw c.in-Part.is at h)

pub returns-in-Part-clause-next : goal.returns-in-Part-clause-next
returns-in-Part-clause-next c w h st = next-begun c.args.fields w c.in-Part.text.items st (rw c.in-Part.is at h)
