-- Bytes that grew at their end alone.
use Rattle.std.specs.Prelude.{◌≡◌, take, length}
use Rattle.vx_value.specs.Texts.{ByteString}

-- the old bytes are the first of the new
pub record Keeps (old new : ByteString) : Type 0 where
  pub front : take (length old) new ≡ old
