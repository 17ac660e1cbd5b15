-- Chains of targets, one by one.
use Rattle.std.specs.Prelude.{◌≡◌, ◌↔◌, ◌||◌, true, List, [], ◌∷◌}
use Rattle.std.specs.List.{list_any}
use Rattle.vx_value.specs.Texts.{ByteString}
use Rattle.vx_plan.specs.declared.plan.Plan.{Plan}
use Rattle.vx_plan.specs.Targets.{acknowledged, acknowledges_named, all_targets, is_among}

-- a component is among the targets of some port of another
abbrev pub IsTarget : Plan → ByteString → ByteString → Type 0
IsTarget plan name target = list_any (λ targets. is_among targets target) (all_targets plan name) ≡ true

-- each of some components is a target of the one before it, the first of a given one, and the last is a sink that acknowledges: the given one itself where there are none
abbrev pub IsChain : Plan → ByteString → List ByteString → Type 0
IsChain plan name [] = acknowledges_named plan name ≡ true
IsChain plan name (next ∷ rest) = IsTarget plan name next × IsChain plan next rest

-- a source's batches wait exactly where a chain of targets leads from it to a sink that acknowledges
abbrev pub ChainAcknowledged : Type 0
ChainAcknowledged =
    (plan : Plan) (source : ByteString) → (acknowledged plan source ≡ true) ↔ ((chain : List ByteString) × IsChain plan source chain)

-- so they wait where the source is such a sink, or where those of one of its targets would wait
abbrev pub AcknowledgedOn : Type 0
AcknowledgedOn =
    (plan : Plan) (source : ByteString) →
    acknowledged plan source ≡ (acknowledges_named plan source || list_any (list_any (acknowledged plan)) (all_targets plan source))
