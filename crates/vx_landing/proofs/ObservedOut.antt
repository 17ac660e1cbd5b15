-- What an instance that is out confirmed last is what was due when it was leased, where it confirmed that or had nothing new to confirm;
-- and of all but sources nothing is.
use Rattle.std.proofs.Common.{◌≡◌, ◌∙◌, ℕ, Bool, true, false, not, List, [], ◌∷◌, ◌++◌, Option, Some, None, refl, sym, ap, map, inl, inr}
use Rattle.std.specs.Prelude.{◌==◌, ◌&&◌, nat_lt, if◌then◌else◌}
use Rattle.std.specs.List.{list_any}
use Rattle.std.proofs.lemmas.Bool.{cases_Bool, eqb-true, or_parts}
use Rattle.vx_value.specs.Texts.{is_empty}
use Rattle.vx_ends.specs.declared.position.Position.{Position}
use Rattle.vx_plan.specs.declared.component.Component.{Component}
use Rattle.vx_plan.specs.Options.{has_device}
use Rattle.vx_record.specs.declared.entry.Entry.TheVariants.{Lease, Confirm}
use Rattle.vx_record.specs.Records.{Record}
use Rattle.vx_record.specs.Confirms.{Birth, confirm_prefix, moved_to, last_of_each, position_of, due, last_confirm, same_positions, is_confirm_due}
use Rattle.vx_record.specs.Installs.{device_at}
use Rattle.vx_record.specs.Legal.{IsLegal, Follows}
use Rattle.vx_record.specs.Turns.{is_out, at_lease, since_lease, is_confirm_of}
use Rattle.vx_record.proofs.Further.{prefix_grows}
use Rattle.vx_record.proofs.Promises.{legal_lease}
use Rattle.vx_sourcecore.proofs.Prefixing.{positions_equal}
use Rattle.vx_counts.proofs.Once.{itself}
use Rattle.vx_landing.proofs.Serving.{component_lease}

-- POSITIONS
some_moved : (stream end : ℕ) (ps : List Position) → is_empty (moved_to stream end ps) ≡ false
some_moved stream end [] = refl
some_moved stream end (p ∷ rest) = go (nat_lt stream p.stream) (stream == p.stream)
  where
    go : (l q : Bool) → is_empty (if l then record { stream = stream; end = end } ∷ p ∷ rest else (if q then record { stream = stream; end = end } ∷ rest else p ∷ moved_to stream end rest)) ≡ false
    go true q = refl
    go false true = refl
    go false false = refl

some_each : (ps qs : List Position) → is_empty ps ≡ false → is_empty (last_of_each ps qs) ≡ false
some_each ps [] some = some
some_each ps (q ∷ qs) some = some_each (moved_to q.stream q.end ps) qs (some_moved q.stream q.end ps)

-- of more births more positions are due
each_less : (xs more : List Birth) → last_of_each [] (map position_of (xs ++ more)) ≡ [] → last_of_each [] (map position_of xs) ≡ []
each_less [] more none = refl
each_less (x ∷ xs) more none = let some = some_each (moved_to x.stream x.end []) (map position_of (xs ++ more)) (some_moved x.stream x.end []) in cc

due_less : (later earlier : Record) (i : ℕ) → due (later ++ earlier) i ≡ [] → due earlier i ≡ []
due_less later earlier i none = let grown = prefix_grows later earlier i in each_less (confirm_prefix earlier i) grown.0 (rw grown.1 at none)

-- LEASES
-- the record begins with what stood there at a lease
lease_first : (h : Record) (i : ℕ) → (later : Record) × (h ≡ later ++ at_lease h i)
lease_first [] i = ([], refl)
lease_first (Lease j worker now polls ∷ h) i = elim (cases_Bool (j == i)) [
  | inl is ↦ (Lease j worker now polls ∷ [], rw is refl)
  | inr far ↦ let rest = lease_first h i in (Lease j worker now polls ∷ rest.0, rw far (ap (λ (k : Record). Lease j worker now polls ∷ k) rest.1))
]
lease_first (e ∷ h) i = let rest = lease_first h i in (e ∷ rest.0, ap (λ (k : Record). e ∷ k) rest.1)

-- what was confirmed last stays until a confirm
last_since : (h : Record) (i : ℕ) → list_any (is_confirm_of i) (since_lease h i) ≡ false → last_confirm h i ≡ last_confirm (at_lease h i) i
last_since [] i none = refl
last_since (Lease j worker now polls ∷ h) i none = elim (cases_Bool (j == i)) [
  | inl is ↦ rw is refl
  | inr far ↦ rw far (last_since h i (rw far at none))
]
last_since (Confirm j positions made ∷ h) i none =
    let two = or_parts (j == i) (list_any (is_confirm_of i) (since_lease h i)) none in rw two.0 (last_since h i two.1)
last_since (e ∷ h) i none = last_since h i none

-- where nothing is due nothing was confirmed
undue : (device same : Bool) → (device && false && same) ≡ true → ⊥
undue true same is = cc
undue false same is = cc

none_observed : (h : Record) (i : ℕ) → IsLegal h → due h i ≡ [] → last_confirm h i ≡ []
none_observed [] i legal none = refl
none_observed (Confirm j positions made ∷ h) i legal none = elim (cases_Bool (j == i)) [
  | inl is ↦
      let first = lease_first h i in
      let nothing = due_less (Confirm j positions made ∷ first.0) (at_lease h i) i (rw first.1 at none) in
      absurd (undue (device_at (at_lease h i) i) (not (same_positions [] (last_confirm (at_lease h i) i))) (rw nothing at (rw (eqb-true j i is) at legal.0.row.was_due)))
  | inr far ↦ rw far (none_observed h i legal.1 (due_less (Confirm j positions made ∷ []) h i none))
]
none_observed (e ∷ h) i legal none = none_observed h i legal.1 (due_less (e ∷ []) h i none)

-- WHAT IS TOLD
-- where nothing new is due, what is due was confirmed
nothing : (ps : List Position) → is_empty ps ≡ true → ps ≡ []
nothing [] is = refl
nothing (p ∷ ps) is = cc

observed_undue : (h : Record) (i : ℕ) → IsLegal h → device_at h i ≡ true → is_confirm_due h i ≡ false → last_confirm h i ≡ due h i
observed_undue h i legal device undue = go (is_empty (due h i)) refl (same_positions (due h i) (last_confirm h i)) refl (rw device at undue)
  where
    go : (n : Bool) → is_empty (due h i) ≡ n → (s : Bool) → same_positions (due h i) (last_confirm h i) ≡ s → (true && not n && not s) ≡ false →
        last_confirm h i ≡ due h i
    go true none s same off = let empty = nothing (due h i) none in none_observed h i legal empty ∙ sym empty
    go false none true same off = sym (positions_equal (due h i) (last_confirm h i) same)
    go false none false same off = cc

pub observed_none : (h : Record) (i : ℕ) → IsLegal h → is_out h i ≡ true → device_at h i ≡ true → is_confirm_due (at_lease h i) i ≡ false →
    list_any (is_confirm_of i) (since_lease h i) ≡ false → last_confirm h i ≡ due (at_lease h i) i
observed_none h i legal out device undue none =
    let same = ap (λ (o : Option Component). elim o [ None ↦ false | Some c ↦ has_device c.settings ]) (component_lease h i legal out) in
    last_since h i none ∙ observed_undue (at_lease h i) i (legal_lease h i legal) (same ∙ device) undue

-- a confirm tells it
pub observed_some : (h : Record) (i : ℕ) (positions : List Position) (made : Bool) → Follows h (Confirm i positions made) →
    last_confirm (Confirm i positions made ∷ h) i ≡ due (at_lease h i) i
observed_some h i positions made follows = rw (itself i) follows.row.all_due
