-- Where a pattern has a match in a text, by what `regex` reads and searches.
use Rattle.std.specs.Prelude.{◌≢◌, Bool, false, Option, Some, None, is_some, chars}
use Rattle.regex.specs.Patterns.{Re, find_str, default_config}
use Rattle.regex_syntax.specs.Grammar.{Names, read}
use Rattle.regex_syntax.specs.Brackets.{Nested}
use Rattle.regex.specs.Sources.{IsTextRefusal}
use Rattle.regex.specs.Failures.{IsRightKind}
use Rattle.regex.specs.declared.error.Error.{Error}
use Rattle.regex.specs.declared.error.Error.TheVariants.{OutOfMemory}
use Rattle.vx_value.specs.Texts.{ByteString}
use Rattle.vx_condition.specs.declared.pattern.PatternFault.{PatternFault}
use Rattle.vx_condition.specs.declared.pattern.PatternFault.TheVariants.{Refused, WantOfMemory}

-- whether what was read, if anything, has a match in a text
abbrev pub matched_by : Option (Nested Re × Names) → ByteString → Bool
matched_by None text = false
matched_by (Some found) text = is_some (find_str found.0.value text 0)

-- whether a pattern has a match in a text
unfoldable pub has_match : ByteString → ByteString → Bool
has_match pattern text = matched_by (read default_config (chars pattern)) text

-- `regex` refused a pattern, for another cause than memory
pub record IsRefused (pattern : ByteString) : Type 0 where
  pub error : Error
  pub other : error ≢ OutOfMemory
  pub refusal : IsTextRefusal default_config pattern error
  pub kind : IsRightKind default_config pattern error

-- when each fault of a pattern comes
abbrev pub IsRefusedAs : ByteString → PatternFault → Type 0
IsRefusedAs pattern Refused = IsRefused pattern
IsRefusedAs pattern WantOfMemory = Unit {0}
