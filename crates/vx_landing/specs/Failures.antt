-- What a landing lacked.
use Rattle.std.specs.Prelude.{◌≡◌, ◌<◌, ◌+◌, ◌^◌}
use Rattle.vx_ledger.specs.declared.short.Short.{Short}
use Rattle.vx_ledger.specs.declared.short.Short.TheVariants as short
use Rattle.vx_record.specs.Records.{Record}
use Rattle.vx_record.specs.Copies.{next_copy}
use Rattle.vx_record.specs.Ending.{BirthWants}

-- memory is wanting, or the numbers for a birth that an instance owes
abbrev pub LacksBirth : Record → Short → Type 0
LacksBirth h (short.Numbers next wanted) = (next ≡ next_copy h) × (2 ^ 63 < next + wanted) × BirthWants h wanted
LacksBirth h short.WantOfMemory = Unit {0}
