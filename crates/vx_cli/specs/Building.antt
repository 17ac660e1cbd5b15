-- What is built of clap's commands and arguments, and that a parse gives a value.
use Rattle.std.specs.Prelude.{◌≡◌, ◌≤◌, true, false, Some, None, [], is_some}
use Rattle.clap.specs.Words.{IsParsedFrom, IsPlainArg, args_of, first_value, found_of, groups_of}
use Rattle.clap.specs.Facts.{least_values}
use Rattle.clap.specs.declared.builder.action.ArgAction.TheVariants.{Set}
use Rattle.clap.specs.declared.builder.arg.Arg.{Arg}
use Rattle.clap.specs.declared.builder.command.Command.{Command}
use Rattle.clap.specs.declared.builder.command.Command.TheViews.{out-Command as fields_of}
use Rattle.clap.specs.declared.parser.matches.ArgMatches.{ArgMatches}
use Rattle.vx_value.specs.Texts.{ByteString}

-- a command that has no arguments yet
pub record IsBare (command : Command) : Type 0 where
  pub args : args_of command ≡ []
  pub groups : groups_of command ≡ []
  pub local : (fields_of command).has_globals ≡ false
  pub strict : (fields_of command).subcommand_negates_reqs ≡ false

-- an argument of that name, which excludes nothing
pub record IsNamed (name : ByteString) (arg : Arg) : Type 0 where
  pub id : arg.id.now ≡ name
  pub plain : IsPlainArg arg
  pub local : arg.global ≡ false

-- an argument with one value, which has to be given
pub record IsRequired (arg : Arg) : Type 0 where
  pub required : arg.required ≡ true
  pub action : arg.action ≡ Some Set
  pub undivided : arg.val_delim ≡ None
  pub least : 1 ≤ least_values arg

-- what a command reads always has a value of that name
abbrev pub GivesValue : Command → ByteString → Type 0
GivesValue command name = (matches : ArgMatches) → IsParsedFrom command matches
    → is_some (first_value (found_of matches) name) ≡ true
