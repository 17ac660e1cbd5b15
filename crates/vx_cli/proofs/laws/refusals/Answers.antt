use Rattle.vx_cli.proofs.Spelled.{none, long_alone, short_alone, option_as_file, twice, twice_short, stats_alone, stats_twice, stats_value, once_alone, once_twice, once_value, more, validate_alone, validate_two, validate_option, help, version}
use Rattle.vx_cli.proofs.Hyphened.{long_hyphened, short_hyphened, validate_dashes, validate_hyphened}
use Rattle.vx_cli.proofs.laws.refusals.Goals as goal

pub returns : goal.returns
returns c = record {
  none = none;
  long_alone = long_alone;
  short_alone = short_alone;
  option_as_file = option_as_file;
  twice = twice;
  twice_short = twice_short;
  stats_alone = stats_alone;
  stats_twice = stats_twice;
  stats_value = stats_value;
  once_alone = once_alone;
  once_twice = once_twice;
  once_value = once_value;
  more = more;
  validate_alone = validate_alone;
  validate_two = validate_two;
  long_hyphened = long_hyphened;
  short_hyphened = short_hyphened;
  validate_dashes = validate_dashes;
  validate_hyphened = validate_hyphened;
  validate_option = validate_option;
  help = help;
  version = version;
}
