-- Which command a list of words is.
use Rattle.std.specs.Prelude.{◌≡◌, Bool, false, Option, Some, None, List, [], ◌∷◌, codes}
use Rattle.clap.specs.Walk.{first_of}
use Rattle.clap.specs.Simple.{App, matches_of}
use Rattle.clap.specs.Faults.{fault_of}
use Rattle.vx_value.specs.Texts.{ByteString, same_text}
use Rattle.vx_cli.specs.Grammars.{run_grammar, validate_grammar}
use Rattle.vx_cli.specs.declared.command.Command.{Command}
use Rattle.vx_cli.specs.declared.command.Command.TheVariants.{Run, Validate}

-- the words name the command `validate`, and the rest is its words
abbrev pub NamesValidate : List ByteString → List ByteString → Type 0
NamesValidate words rest = words ≡ codes "validate" ∷ rest

-- a grammar has the words
abbrev pub IsTaken : App → List ByteString → Type 0
IsTaken grammar words = fault_of grammar words ≡ []

-- the value of an argument, by its name, in words that a grammar has
abbrev pub HasValue : App → List ByteString → ByteString → ByteString → Type 0
HasValue grammar words name value = first_of name (matches_of grammar words) ≡ Some value

-- the words run the pipeline of a file
pub record IsRun (words : List ByteString) (file : ByteString) : Type 0 where
  pub unnamed : (rest : List ByteString) → NamesValidate words rest → ⊥
  pub taken : IsTaken run_grammar words
  pub config : HasValue run_grammar words (codes "config") file

-- whether a flag is given, by its value
abbrev pub is_set : Option ByteString → Bool
is_set None = false
is_set (Some value) = same_text value (codes "true")

-- whether the words ask for a run that ends with the files that are there
abbrev pub has_once : List ByteString → Bool
has_once words = is_set (first_of (codes "once") (matches_of run_grammar words))

-- whether the words ask for what each component counted
abbrev pub has_stats : List ByteString → Bool
has_stats words = is_set (first_of (codes "stats") (matches_of run_grammar words))

-- the words judge the configuration in a file
pub record IsValidate (words : List ByteString) (file : ByteString) : Type 0 where
  pub rest : List ByteString
  pub named : NamesValidate words rest
  pub taken : IsTaken validate_grammar rest
  pub path : HasValue validate_grammar rest (codes "path") file

-- the words are that command
abbrev pub IsCommand : List ByteString → Command → Type 0
IsCommand words (Run config once stats) = IsRun words config × ((has_once words ≡ once) × (has_stats words ≡ stats))
IsCommand words (Validate path) = IsValidate words path

-- the words are in no command's grammar
pub record IsNoCommand (words : List ByteString) : Type 0 where
  pub run : ((rest : List ByteString) → NamesValidate words rest → ⊥) → IsTaken run_grammar words → ⊥
  pub validate : (rest : List ByteString) → NamesValidate words rest → IsTaken validate_grammar rest → ⊥
