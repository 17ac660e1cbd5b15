use Rattle.std.proofs.Common.{◌≡◌, ◌≤◌, ◌++◌, length, string_bytes}
use denote.Shadow.{shadow}
use denote.Text.{Utf8}
use Rattle.vx_subst.specs.Replaced.{replaced, first_lacking}
use Rattle.vx_subst.specs.Unclosed.{IsUnclosed}
use Rattle.vx_subst.proofs.Steps.{text_from, lack_from, place}
use Rattle.vx_subst.proofs.replacing.replace.Given as goal

abbrev pub decreases-loop-before : goal.decreases-loop-before
decreases-loop-before l = length l.rest

abbrev pub invariant-loop-before : goal.invariant-loop-before
invariant-loop-before l = record {
  within : length l.rest ≤ length l.text;
  text : string_bytes l.out ++ text_from l.environment (place l.text l.rest) l.rest ≡ replaced l.environment l.text;
  lack : lack_from l.environment (place l.text l.rest) l.rest ≡ first_lacking l.environment l.text;
  unclosed : IsUnclosed l.unclosed l.rest;
  utf8 : shadow (Utf8 l.rest);
}
