-- Outlets, and what becomes of a parcel that is put on their ports.
use Rattle.std.specs.Prelude.{ℕ, ◌+◌, List, [], ◌∷◌, ◌++◌, length, ◌==◌, if◌then◌else◌, Result, Ok, Err}
use Rattle.std.specs.Int.{bit_at}
use Rattle.vx_ledger.specs.Copies.{Copy, renumbered}
use Rattle.vx_ledger.specs.declared.parcel.Parcel.{Parcel}
use Rattle.vx_ledger.specs.declared.child.Child.{Child}
use Rattle.vx_ledger.specs.declared.routed.Routed.{Routed}
use Rattle.vx_ledger.specs.declared.routed.Routed.TheVariants.{Children, NoConsumer}
use Rattle.vx_ledger.specs.declared.route_refused.RouteRefused.{RouteRefused}

-- the targets of a port, where the set of ports names it: its bit is 1
abbrev pub named : ℕ → ℕ → List ℕ → List ℕ
named ports port targets = if bit_at ports port == 1 then targets else []

-- the targets of the named ports, in port order; the first port of the list has that number
abbrev pub targets_from : ℕ → ℕ → List (List ℕ) → List ℕ
targets_from ports port [] = []
targets_from ports port (targets ∷ rest) = named ports port targets ++ targets_from ports (port + 1) rest

-- the targets of the named ports of an outlet, in port order
abbrev pub targets_of : ℕ → List (List ℕ) → List ℕ
targets_of ports outlet = targets_from ports 0 outlet

-- the child of a parcel for a target, its copies numbered from first on
abbrev pub child_of : ℕ → ℕ → Parcel → Child
child_of target first parcel =
    record { target = target; parcel = record { event = parcel.event; finalizers = renumbered first parcel.finalizers } }

-- the children of a parcel, one a target, numbered target by target from first on
abbrev pub children_for : List ℕ → ℕ → Parcel → List Child
children_for [] first parcel = []
children_for (target ∷ rest) first parcel =
    child_of target first parcel ∷ children_for rest (first + length parcel.finalizers) parcel

-- the copies of all children
abbrev pub copies_in : List Child → List Copy
copies_in [] = []
copies_in (child ∷ rest) = child.parcel.finalizers ++ copies_in rest

-- a fact on the children, where the parcel was split
abbrev pub IfChildren : Result Routed RouteRefused → (List Child → Type 0) → Type 0
IfChildren (Ok (Children children)) P = P children
IfChildren (Ok (NoConsumer parcel)) P = Unit {0}
IfChildren (Err refused) P = Unit {0}

-- no port had a target
abbrev pub IsNoConsumer : Result Routed RouteRefused → Type 0
IsNoConsumer (Ok (Children children)) = ⊥
IsNoConsumer (Ok (NoConsumer parcel)) = Unit {0}
IsNoConsumer (Err refused) = ⊥

-- a fact on the parcel that came back, where no port had a target
abbrev pub IfNoConsumer : Result Routed RouteRefused → (Parcel → Type 0) → Type 0
IfNoConsumer (Ok (Children children)) P = Unit {0}
IfNoConsumer (Ok (NoConsumer parcel)) P = P parcel
IfNoConsumer (Err refused) P = Unit {0}
