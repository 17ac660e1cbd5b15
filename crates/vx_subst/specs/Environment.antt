-- What an environment has under a name.
use Rattle.std.specs.Prelude.{Option, Some, None, List, [], ◌∷◌, if◌then◌else◌}
use Rattle.vx_value.specs.declared.variable.Variable.{Variable}
use Rattle.vx_value.specs.Texts.{ByteString, same_text}

-- the value of the first variable of that name, if there is one
abbrev pub value_of : List Variable → ByteString → Option ByteString
value_of [] name = None
value_of (variable ∷ rest) name = if same_text variable.name name then Some variable.value else value_of rest name
