-- Transforms that pass one event of so many, as contracts see them.
use Rattle.std.specs.Prelude.{◌≡◌, ℕ, not, Option, List, count_by}
use Rattle.vx_value.specs.Texts.{ByteString}
use Rattle.vx_value.specs.declared.event.Event.{Event}
use Rattle.vx_condition.specs.Steps.{Test}
use Rattle.vx_condition.specs.Picking.{held}
use Rattle.vx_plan.specs.Options.{if_any}
use Rattle.vx_record.specs.Transforms.{AllMean, test_of}

-- of how many events one passes, the text of the condition of what passes uncounted, if there is one, and how many others came
pub record Sampler : Type 0 where
  pub rate : ℕ
  pub exclude : Option ByteString
  pub counted : ℕ

-- a sampler saw these events: it counted those of which its condition doesn't hold
abbrev pub HasCounted : Sampler → List Event → Type 0
HasCounted s earlier =
    (tests : List Test) → AllMean (if_any s.exclude) tests → s.counted ≡ held (count_by (λ e. not (test_of s.exclude tests e)) earlier)
