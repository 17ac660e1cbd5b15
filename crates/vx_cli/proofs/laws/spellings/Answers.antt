use Rattle.vx_cli.proofs.Spelled.{long, long_sign, short, short_sign, short_at_once, stats, stats_first, once, once_first, once_and_stats, validate, behind_dashes}
use Rattle.vx_cli.proofs.Hyphened.{run_hyphen, validate_hyphen}
use Rattle.vx_cli.proofs.laws.spellings.Goals as goal

pub returns : goal.returns
returns c = record {
  long = long;
  long_sign = long_sign;
  short = short;
  short_sign = short_sign;
  short_at_once = short_at_once;
  hyphen = run_hyphen;
  stats = stats;
  stats_first = stats_first;
  once = once;
  once_first = once_first;
  once_and_stats = once_and_stats;
  validate = validate;
  validate_hyphen = validate_hyphen;
  behind_dashes = behind_dashes;
}
