-- The copies of a list, however it is kept.
use Rattle.std.specs.Prelude.{List, option_to_list}
use Rattle.vx_ledger.specs.Copies.{Copy}
use Rattle.vx_ledger.specs.declared.finalizers.Kept.{Kept}
use Rattle.vx_ledger.specs.declared.finalizers.Kept.TheVariants.{Few, Many}

-- the copies that are kept
abbrev pub kept_copies : Kept → List Copy
kept_copies (Few one) = option_to_list one
kept_copies (Many copies) = copies.items
