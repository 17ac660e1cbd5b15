-- What is answered of a document is answered of its text.
use Rattle.std.proofs.Common.{Bool, List, Result, Err}
use Rattle.vx_value.specs.declared.variable.Variable.{Variable}
use Rattle.vx_value.specs.Texts.{ByteString}
use Rattle.toml.specs.Data.{Data}
use Rattle.vx_plan.specs.declared.plan.Plan.{Plan}
use Rattle.vx_reading.specs.declared.plan_fault.PlanFault.{PlanFault}
use Rattle.vx_reading.specs.declared.plan_fault.PlanFault.TheVariants.{MissingVariable, NotToml, WantOfMemory}
use Rattle.vx_reading.specs.Reading.{IsDocument, IsRightlyJudged, IsTextRead}

pub read_on : (refuses : ByteString → Bool) (environment : List Variable) (text : ByteString) (root : Data) (answer : Result Plan PlanFault)
    → IsDocument environment text root → IsRightlyJudged refuses root answer → IsTextRead refuses environment text answer
read_on refuses environment text root (Err (MissingVariable name at)) document judged = absurd judged.judged
read_on refuses environment text root (Err NotToml) document judged = absurd judged.judged
read_on refuses environment text root (Err WantOfMemory) document judged = tt
read_on refuses environment text root answer document judged = record { root = root; document = document; rightly = judged }
