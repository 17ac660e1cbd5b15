-- Acts, used one after another.
use Rattle.std.proofs.Common.{◌≡◌, ℕ, ◌+◌, ◌<◌, List, length, drop, arith, add-one}
use Rattle.std.proofs.Math.Seq.{drop-cons}
use Rattle.vx_ends.specs.declared.act.Act.{Act}
use Rattle.vx_ends.specs.declared.act.Act.TheVariants.{Pass}
use Rattle.vx_ends.specs.Acts.{later_acts}

pub later_at : (acts : List Act) (used : ℕ) → used < length acts → later_acts (drop used acts) ≡ drop (used + 1) acts
later_at acts used l = grind (arith, drop-cons acts used Pass l, add-one)
