-- The grammars of the commands, by what clap reads of a command.
use Rattle.std.specs.Prelude.{true, Some, List, [], ◌∷◌, codes}
use Rattle.clap.specs.Walk.{Rule}
use Rattle.clap.specs.Simple.{App, new_rule, new_shape}
use Rattle.clap.specs.declared.builder.action.ArgAction.TheVariants.{Set, SetTrue}
use Rattle.vx_value.specs.Texts.{ByteString}

-- a command with these arguments, without the words for help and version; its own name isn't among its words
abbrev pub grammar_of : ByteString → List Rule → App
grammar_of name rules = record {
  top = record (new_shape name) {
    rules = rules;
    no_binary_name = true;
    disable_help_flag = true;
    disable_version_flag = true;
  };
  subs = [];
}

-- an argument with one value, which has to be given
abbrev pub required_value : ByteString → Rule
required_value name = record (new_rule name) { required = true; action = Some Set }

-- `-c FILE`, `--config FILE`
abbrev pub config_option : Rule
config_option = record (required_value (codes "config")) { short = Some 99; long = Some (codes "config") }

-- a flag, by its long name
abbrev pub flag : ByteString → Rule
flag name = record (new_rule name) { long = Some name; action = Some SetTrue }

-- `--once` and `--stats`
abbrev pub once_flag : Rule
once_flag = flag (codes "once")

abbrev pub stats_flag : Rule
stats_flag = flag (codes "stats")

-- FILE
abbrev pub path_word : Rule
path_word = required_value (codes "path")

-- the command that runs a pipeline
abbrev pub run_grammar : App
run_grammar = grammar_of (codes "run") (config_option ∷ once_flag ∷ stats_flag ∷ [])

-- the command that judges a configuration
abbrev pub validate_grammar : App
validate_grammar = grammar_of (codes "validate") (path_word ∷ [])
