use Rattle.std.proofs.Common.{◌∙◌, ap, sym}
use Rattle.std.specs.Option.{option_copied}
use Rattle.vx_keeping.proofs.Off.{first_some, first_none}
use Rattle.vx_keeping.proofs.hosting.first_number.Goals as goal

pub returns-in-Some : goal.returns-in-Some
returns-in-Some c = c.number.ensures ∙ first_some c.args.parcel.now.finalizers c.in-Some.copy.now (sym (ap option_copied c.in-Some.is) ∙ c.get.ensures)

pub returns-in-None : goal.returns-in-None
returns-in-None c = first_none c.args.parcel.now.finalizers (sym (ap option_copied c.in-None.is) ∙ c.get.ensures)
