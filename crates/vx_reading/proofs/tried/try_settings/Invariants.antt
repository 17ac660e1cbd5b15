use Rattle.std.proofs.Common.{List, drop}
use Rattle.vx_value.specs.Texts.{ByteString}
use Rattle.vx_reading.specs.Trying.{Tries}
use Rattle.vx_reading.specs.Views.{all_placed_view}
use Rattle.vx_reading.specs.declared.placed.Placed.{Placed}
use Rattle.vx_reading.proofs.Refusing.{texts_of}
use Rattle.vx_reading.proofs.tried.try_settings.Given as goal

abbrev pub texts_in : List Placed → List ByteString
texts_in all = texts_of (all_placed_view all)

-- whatever comes of those that are left, comes of all
abbrev pub invariant-loop-placed : goal.invariant-loop-placed
invariant-loop-placed l =
    (refused conditions : List ByteString) →
    Tries (texts_in (drop l.placed-index l.placed-items)) (texts_in (drop l.placed-index l.placed-items)) l.refused refused l.conditions conditions →
    Tries (texts_in l.placed-items) (texts_in l.placed-items) l.initial.refused refused l.initial.conditions conditions
