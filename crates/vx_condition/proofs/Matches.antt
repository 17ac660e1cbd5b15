-- A compiled pattern has a match where its text has one.
use Rattle.std.proofs.Common.{◌≡◌, ℕ, ◌<◌, List, Option, Some, None, get_or, is_some, true}
use Rattle.std.specs.Prelude.{chars, IsSomeAnd}
use Rattle.regex.specs.Patterns.{Re, Reads, find_str, default_config, SameCaptures}
use Rattle.regex.specs.Strings.{regex_pattern, regex_source, regex_config, IsReadFromSource}
use Rattle.regex.specs.declared.string.regex.Regex.{Regex}
use Rattle.regex.proofs.ForCallers.{is_match_alike}
use Rattle.regex_syntax.specs.Grammar.{Names, read}
use Rattle.regex_syntax.specs.Brackets.{Nested}
use Rattle.vx_condition.specs.Patterns.{matched_by, has_match}

found_so : (o : Option (Nested Re × Names)) (P : Nested Re × Names → Type 0) (re : Re) (text : List ℕ) → ((k : ℕ) → get_or text k 0 < 256)
    → ((found : Nested Re × Names) → P found → SameCaptures re found.0.value) → IsSomeAnd o P
    → is_some (find_str re text 0) ≡ matched_by o text
found_so None P re text bytes same h = absurd h
found_so (Some found) P re text bytes same h = is_match_alike (same found h) text bytes true 0

pub found-as_read : (r : Regex) (pattern text : List ℕ) → regex_source r ≡ pattern → regex_config r ≡ default_config → IsReadFromSource r
    → ((k : ℕ) → get_or text k 0 < 256) → is_some (find_str (regex_pattern r) text 0) ≡ has_match pattern text
unfolding has_match Reads
found-as_read r pattern text source config reads bytes =
    found_so (read default_config (chars pattern)) _ (regex_pattern r) text bytes (λ found h. h.1) (rw (source, config) at reads)
