-- What a refusal says.
use Rattle.std.specs.Prelude.{List}
use Rattle.vx_value.specs.Texts.{ByteString}
use Rattle.vx_cli.specs.Commands.{IsNoCommand}
use Rattle.vx_cli.specs.declared.cli_fault.CliFault.{CliFault}
use Rattle.vx_cli.specs.declared.cli_fault.CliFault.TheVariants.{Usage, WantOfMemory}

-- a usage fault comes only with words that are no command
abbrev pub Reports : List ByteString → CliFault → Type 0
Reports words Usage = IsNoCommand words
Reports words WantOfMemory = Unit {0}
