use Rattle.vx_reading.proofs.Few.{few_components}
use Rattle.vx_reading.proofs.laws.few_components.Goals as goal

pub returns : goal.returns
returns c = few_components
