-- What holds of a reader at each place.
use Rattle.std.proofs.Common.{◌≡◌, ◌≤◌, length}
use Rattle.vx_condition.specs.Takes.{HasSize}
use Rattle.vx_condition.specs.declared.expected.Expected.{Expected}
use Rattle.vx_condition.specs.declared.expected.Expected.TheVariants as wants
use Rattle.vx_condition.specs.declared.mode.Behind.{Behind}
use Rattle.vx_condition.specs.declared.mode.Behind.TheVariants.{Wants, Done}
use Rattle.vx_condition.specs.declared.mode.Mode.{Mode}
use Rattle.vx_condition.specs.declared.mode.Mode.TheVariants as mode
use Rattle.vx_condition.specs.declared.frame.Frame.{Frame}
use Rattle.vx_condition.specs.declared.reader.Reader.{Reader}

abbrev pub FitExpected : Frame → Expected → Type 0
FitExpected f wants.Joint = f.negations ≡ 0
FitExpected f e = Unit {0}

abbrev pub FitBehind : Frame → Behind → Type 0
FitBehind f (Wants e) = FitExpected f e
FitBehind f (Done q) = Unit {0}

abbrev pub FitAt : Frame → Mode → Type 0
FitAt f (mode.Expects e) = FitExpected f e
FitAt f mode.Complete = f.negations ≡ 0
FitAt f (mode.Word w read behind) = FitBehind f behind
FitAt f (mode.Path use_of place name names) = length names ≤ 30
FitAt f (mode.Whole p o negative size) = HasSize (mode.Whole p o negative size)
FitAt f m = Unit {0}

abbrev pub Fit : Reader → Type 0
Fit r = FitAt r.frame r.mode
