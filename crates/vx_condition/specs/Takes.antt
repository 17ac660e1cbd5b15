-- What a reader needs of its place, why it stops there, and what it has read at the end.
use Rattle.std.specs.Prelude.{◌≡◌, ℕ, ◌<◌, Bool, true, Option, Some, None, Err, List, [], ◌∷◌, length}
use Rattle.vx_value.specs.Texts.{ByteString}
use Rattle.vx_condition.specs.Trees as tree
use Rattle.vx_condition.specs.Moves.{moved, fits, signed, with_number, with_term, all_branches}
use Rattle.vx_condition.specs.Patterns.{IsRefused}
use Rattle.vx_condition.specs.declared.mode.Mode.{Mode}
use Rattle.vx_condition.specs.declared.mode.Mode.TheVariants as mode
use Rattle.vx_condition.specs.declared.frame.Frame.{Frame}
use Rattle.vx_condition.specs.declared.reader.Reader.{Reader}
use Rattle.vx_condition.specs.declared.stop.Stop.{Stop}
use Rattle.vx_condition.specs.declared.stop.Stop.TheVariants.{Refused, Deep, BadPattern, WantOfMemory}

-- a number that has begun is one of 64 bits, and not 0 behind a `-`
abbrev pub HasSize : Mode → Type 0
HasSize (mode.Whole p o negative size) = (negative ≡ true → 0 < size) × (fits negative size ≡ true)
HasSize m = Unit {0}

-- a byte ends a pattern that is kept, and that `regex` refuses
pub record EndsRefused (keeps : Bool) (m : Mode) (b n : ℕ) : Type 0 where
  pub path : List ByteString
  pub pattern : ByteString
  pub there : m ≡ mode.Pattern path pattern
  pub ended : b ≡ 39
  pub kept : keeps ≡ true
  pub size : n ≡ length pattern
  pub refused : IsRefused pattern

-- why a reader doesn't go on at a byte, where it stands at a place
abbrev pub StopsIn : Reader → Mode → ℕ → Stop → Type 0
StopsIn r m b (BadPattern n) = EndsRefused r.keeps m b n
StopsIn r m b Refused = moved 32 r m b ≡ Err Refused
StopsIn r m b Deep = moved 32 r m b ≡ Err Deep
StopsIn r m b WantOfMemory = Unit {0}

-- the condition in a frame that no other is around
abbrev pub whole_in : Frame → List Frame → Option (List (List tree.Term))
whole_in f [] = Some (all_branches f)
whole_in f (g ∷ outer) = None

-- the condition that was read, where the text may end
abbrev pub end_at : Frame → List Frame → Mode → Option (List (List tree.Term))
end_at f outer mode.Complete = whole_in f outer
end_at f outer (mode.Whole p o negative size) = whole_in (with_term f (tree.stated (with_number p o (signed negative size)))) outer
end_at f outer m = None
