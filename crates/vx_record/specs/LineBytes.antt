-- The lines that are there behind a Read.
use Rattle.std.specs.Prelude.{ℕ, false, true, List, ◌++◌}
use Rattle.vx_value.specs.Texts.{ByteString}
use Rattle.vx_frame.specs.Frames.{Frame, frames, discarded}
use Rattle.vx_record.specs.declared.taken.Taken.{Taken}
use Rattle.vx_record.specs.declared.taken.Taken.TheVariants.{Bytes, StreamEnded, AllEnded}

-- the lines that are there behind a Read of some open bytes, within a limit
abbrev pub lines_after : ℕ → ByteString → Taken → List Frame
lines_after limit before (Bytes bytes) = frames (before ++ bytes) limit false
lines_after limit before StreamEnded = frames before limit true
lines_after limit before AllEnded = frames before limit true

-- how many lines behind it pass the limit
abbrev pub overlong_after : ℕ → ByteString → Taken → ℕ
overlong_after limit before (Bytes bytes) = discarded (before ++ bytes) limit false
overlong_after limit before StreamEnded = discarded before limit true
overlong_after limit before AllEnded = discarded before limit true
