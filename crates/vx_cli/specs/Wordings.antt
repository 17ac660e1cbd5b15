-- What is printed of a fault, by its kind.
use Rattle.std.specs.Prelude.{[], ◌++◌, codes}
use Rattle.vx_value.specs.Texts.{ByteString}
use Rattle.vx_cli.specs.declared.fault.Fault.{Fault}
use Rattle.vx_cli.specs.declared.texts.Wording.{Wording}
use Rattle.vx_cli.specs.declared.texts.Wording.TheVariants.{Usage, Nothing, Line}
use Rattle.vx_cli.specs.Texts.{reason_of, usage}

-- how the program is called, or nothing, or a line with the reason
abbrev pub text_as : Fault → Wording → ByteString
text_as fault Usage = usage
text_as fault Nothing = []
text_as fault Line = codes "vector: " ++ reason_of fault ++ codes "\n"
