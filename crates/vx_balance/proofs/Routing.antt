-- A routed parcel is a split of its copies.
use Rattle.std.proofs.Common.{◌≡◌, ℕ, ◌+◌, ◌-◌, ◌*◌, List, [], ◌∷◌, ◌++◌, length, refl, ap, ◌∙◌, subst}
use Rattle.std.specs.Prelude.{Result, Ok, Err}
use Rattle.vx_ledger.specs.Copies.{Copy, renumbered, children_of, joined}
use Rattle.vx_ledger.specs.Ledger.{Ledger, IsKept, Exchanges, grown_rows}
use Rattle.vx_ledger.specs.Routing.{children_for, copies_in, IfChildren}
use Rattle.vx_ledger.specs.declared.child.Child.{Child}
use Rattle.vx_ledger.specs.declared.parcel.Parcel.{Parcel}
use Rattle.vx_ledger.specs.declared.routed.Routed.{Routed}
use Rattle.vx_ledger.specs.declared.routed.Routed.TheVariants.{Children, NoConsumer}
use Rattle.vx_ledger.specs.declared.route_refused.RouteRefused.{RouteRefused}
use Rattle.vx_balance.specs.Promises.{Routes, lists_of}
use Rattle.vx_balance.proofs.Steps.{splits}

lists_made : (targets : List ℕ) (first : ℕ) (parcel : Parcel) → lists_of (children_for targets first parcel) ≡ children_of (length targets) first parcel.finalizers
lists_made [] first parcel = refl
lists_made (t ∷ ts) first parcel = ap (λ (rest : List (List Copy)). renumbered first parcel.finalizers ∷ rest) (lists_made ts (first + length parcel.finalizers) parcel)

copies_joined : (children : List Child) → copies_in children ≡ joined (lists_of children)
copies_joined [] = refl
copies_joined (child ∷ rest) = ap (λ (cs : List Copy). child.parcel.finalizers ++ cs) (copies_joined rest)

pub routes_of : (targets : List ℕ) (parcel : Parcel) (old new : Ledger) (answer : Result Routed RouteRefused) → IfChildren answer (λ children. children ≡ children_for targets old.next parcel) →
    IfChildren answer (λ _. new.next ≡ old.next + length targets * length parcel.finalizers) → IfChildren answer (λ _. new.open_rows ≡ grown_rows (length targets - 1) parcel.finalizers old.open_rows) →
    IfChildren answer (λ children. Exchanges old parcel.finalizers new (copies_in children)) → IsKept new → IfChildren answer (λ children. Routes targets parcel children old new)
routes_of targets parcel old new (Ok (Children children)) made next rows exchange sound = record {
  made = made;
  splits = splits (length targets) parcel.finalizers (lists_of children) old new (ap lists_of made ∙ lists_made targets old.next parcel) next rows
      (subst (Exchanges old parcel.finalizers new) (copies_joined children) exchange) sound;
}
routes_of targets parcel old new (Ok (NoConsumer back)) made next rows exchange sound = tt
routes_of targets parcel old new (Err e) made next rows exchange sound = tt
