use Rattle.vx_cli.proofs.Printed.{shown_unhidden, plain_bytes, bounded}
use Rattle.vx_cli.proofs.Whole.{whole, is_cut, same}
use Rattle.vx_cli.specs.Shown.{shown}
use Rattle.vx_cli.proofs.laws.printed_names.Goals as goal

pub returns : goal.returns
returns c = record {
  characters = shown_unhidden;
  bytes = λ text. plain_bytes (shown text) (shown_unhidden text);
  bounded = bounded;
  whole = whole;
  cut = is_cut;
  same = same;
}
