-- What comes of reading some conditions.
use Rattle.std.specs.Prelude.{◌≡◌, true, false, List, [], ◌++◌}
use Rattle.std.specs.List.{AllByRecursion}
use Rattle.vx_value.specs.Texts.{ByteString}
use Rattle.vx_condition.specs.Faults.{IsConditionText}
use Rattle.vx_reading.specs.Conditions.{IsRefusable, is_one}

-- a text is one of some, and is refused
pub record IsRefusedOf (texts : List ByteString) (text : ByteString) : Type 0 where
  pub among : is_one texts text ≡ true
  pub refused : IsRefusable text

-- some conditions were read: those that are refused came behind others, each that isn't one of these is a condition, and where none
-- was refused something was made of all
pub record Tries {X : Type 0} (texts : List ByteString) (made : List X) (old new : List ByteString) (before after : List X) : Type 0 where
  pub more : List ByteString
  pub grown : new ≡ old ++ more
  pub refused : AllByRecursion (IsRefusedOf texts) more
  pub taken : AllByRecursion (λ (text : ByteString). is_one new text ≡ false → IsConditionText text) texts
  pub whole : more ≡ [] → after ≡ before ++ made
