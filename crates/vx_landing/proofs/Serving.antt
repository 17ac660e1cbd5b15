-- What was leased runs the component that it ran then, so that what was to be confirmed then is told to a port.
use Rattle.std.proofs.Common.{◌≡◌, ◌∙◌, ℕ, Bool, true, false, ◌&&◌, [], ◌∷◌, Option, Some, None, refl, sym, ap, inl, inr}
use Rattle.std.specs.Prelude.{◌==◌, not}
use Rattle.std.proofs.lemmas.Bool.{cases_Bool}
use Rattle.vx_value.specs.Texts.{is_empty}
use Rattle.vx_plan.specs.declared.component.Component.{Component}
use Rattle.vx_plan.specs.Options.{has_device}
use Rattle.vx_record.specs.declared.entry.Entry.TheVariants.{Install, Lease, Home}
use Rattle.vx_record.specs.Records.{Record}
use Rattle.vx_record.specs.Confirms.{due, last_confirm, is_confirm_due, same_positions}
use Rattle.vx_record.specs.Installs.{component_of, device_at}
use Rattle.vx_record.specs.Legal.{IsLegal}
use Rattle.vx_record.specs.Turns.{is_out, at_lease}
use Rattle.vx_landing.proofs.Owing.{was_out}

-- LEASES
-- an instance that is out runs the component that it ran when it was leased
pub component_lease : (h : Record) (i : ℕ) → IsLegal h → is_out h i ≡ true → component_of (at_lease h i) i ≡ component_of h i
component_lease [] i legal out = cc
component_lease (Install version plan once instances now ∷ h) i legal out = let no = rw legal.0.row.first at out in cc
component_lease (Lease j worker now polls ∷ h) i legal out = elim (cases_Bool (j == i)) [
  | inl is ↦ rw is refl
  | inr far ↦ rw far (component_lease h i legal.1 (rw far at out))
]
component_lease (Home j ∷ h) i legal out = component_lease h i legal.1 (was_out (j == i) (is_out h i) out)
component_lease (e ∷ h) i legal out = component_lease h i legal.1 out

-- what has something to confirm has a port
first_of : (a b c : Bool) → (a && b && c) ≡ true → a ≡ true
first_of true b c is = refl
first_of false b c is = cc

pub confirm_device : (h : Record) (i : ℕ) → IsLegal h → is_out h i ≡ true → is_confirm_due (at_lease h i) i ≡ true → device_at h i ≡ true
confirm_device h i legal out was =
    let before = at_lease h i in
    ap (λ (o : Option Component). elim o [ None ↦ false | Some c ↦ has_device c.settings ]) (sym (component_lease h i legal out))
    ∙ first_of (device_at before i) (not (is_empty (due before i))) (not (same_positions (due before i) (last_confirm before i))) was
