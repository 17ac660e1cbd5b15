-- Batches wait where a chain of targets leads to a sink that acknowledges.
use Rattle.std.specs.Prelude.{ℕ, zero, suc, ◌≡◌, ◌⊎◌, true, List, [], ◌∷◌, length}
use Rattle.std.specs.List.{list_any}
use Rattle.std.proofs.Common.{◌∙◌, inl, inr}
use Rattle.vx_value.specs.Texts.{ByteString}
use Rattle.vx_plan.specs.declared.plan.Plan.{Plan}
use Rattle.vx_plan.specs.Targets.{acknowledged, acknowledges_named, all_targets, leads}
use Rattle.vx_plan.specs.Chains.{IsChain, ChainAcknowledged}
use Rattle.vx_plan.proofs.Tests.{or_some, or_here, or_there, one_within, any_within}
use Rattle.vx_plan.proofs.Rising.{acknowledged_on}
use Rattle.vx_plan.proofs.Walks.{acknowledged_is}

-- a walk goes along a chain
chain_of : (steps : ℕ) (plan : Plan) (name : ByteString) → leads steps plan name ≡ true → (chain : List ByteString) × IsChain plan name chain
chain_of zero plan name e = cc
chain_of (suc steps) plan name e =
    go (or_some (acknowledges_named plan name) (list_any (list_any (leads steps plan)) (all_targets plan name)) e) (chain_of steps plan)
  where
    go : (acknowledges_named plan name ≡ true) ⊎ (list_any (list_any (leads steps plan)) (all_targets plan name) ≡ true) →
        ((next : ByteString) → leads steps plan next ≡ true → (chain : List ByteString) × IsChain plan next chain) → (chain : List ByteString) × IsChain plan name chain
    go (inl here) rest = ([], here)
    go (inr there) rest =
        let (next, led_on, target) = one_within (leads steps plan) (all_targets plan name) there in
        let (chain, is) = rest next led_on in
        (next ∷ chain, (target, is))

-- a chain says that batches wait
along : (plan : Plan) (name : ByteString) (chain : List ByteString) → IsChain plan name chain → acknowledged plan name ≡ true
along plan name [] is = acknowledged_on plan name ∙ or_here (acknowledges_named plan name) (list_any (list_any (acknowledged plan)) (all_targets plan name)) is
along plan name (next ∷ rest) is =
    acknowledged_on plan name
    ∙ or_there (acknowledges_named plan name) (list_any (list_any (acknowledged plan)) (all_targets plan name))
    (any_within (acknowledged plan) (all_targets plan name) next is.0 (along plan next rest is.1))

-- a walk of any steps says so
pub so_acknowledged : (steps : ℕ) (plan : Plan) (name : ByteString) → leads steps plan name ≡ true → acknowledged plan name ≡ true
so_acknowledged steps plan name e = let (chain, is) = chain_of steps plan name e in along plan name chain is

pub chain_acknowledged : ChainAcknowledged
chain_acknowledged plan source = (
  λ waits. chain_of (length plan.components) plan source (acknowledged_is plan source ∙ waits),
  λ found. along plan source found.0 found.1,
)
