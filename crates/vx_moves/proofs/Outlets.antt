-- The targets of an instance's outlet are the readers of its ports.
use Rattle.std.proofs.Common.{◌≡◌, ◌∙◌, ℕ, zero, suc, ◌+◌, ◌<◌, ◌≤◌, ◌^◌, Bool, true, false, List, [], ◌∷◌, ◌++◌, Option, Some, None, length, refl, sym, ap, arith}
use Rattle.std.specs.Prelude.{◌==◌, if◌then◌else◌, map, filter, slice_index_or}
use Rattle.std.specs.Int.{bit_at}
use Rattle.std.proofs.lemmas.List.{length-map}
use Rattle.std.proofs.lemmas.Nat.Bits.{bit_at_above}
use Rattle.vx_value.specs.Texts.{ByteString}
use Rattle.vx_ledger.specs.Routing.{named, targets_from, targets_of}
use Rattle.vx_plan.specs.declared.component.Component.{Component}
use Rattle.vx_plan.specs.Components.{component_named, port_names}
use Rattle.vx_plan.specs.Targets.{readers}
use Rattle.vx_record.specs.Records.{Record}
use Rattle.vx_record.specs.Ceasing.{readers_on}
use Rattle.vx_record.specs.Copies.{counting, joined}
use Rattle.vx_record.specs.Installs.{Wiring, wiring, numbers_of}
use Rattle.vx_record.specs.Parcels.{port_list}
use Rattle.vx_record.specs.Routing.{wired_targets}
use Rattle.vx_instances.specs.Knowing.{outlets_at, wired_outlets}

-- whether a set of ports has one
abbrev has : ℕ → ℕ → Bool
has ports port = bit_at ports port == 1

part : (b : Bool) (f : ℕ → List ℕ) (k : ℕ) (rest : List ℕ) → (if b then f k else []) ++ joined (map f rest) ≡ joined (map f (if b then k ∷ rest else rest))
part true f k rest = refl
part false f k rest = refl

without : (b : Bool) (xs : List ℕ) → b ≡ false → (if b then xs else []) ≡ []
without true xs off = cc
without false xs off = refl

empty : (b : Bool) (xs : List ℕ) → xs ≡ [] → (if b then xs else []) ≡ []
empty true xs none = none
empty false xs none = refl

-- of some ports in order, with nothing behind them, those of a set are the set's, which has no port behind some number
module _ (f : ℕ → List ℕ) (ports : ℕ) where
  from_ports : (k m n : ℕ) → ((p : ℕ) → k + m ≤ p → f p ≡ []) → ((p : ℕ) → k + n ≤ p → has ports p ≡ false) →
      targets_from ports k (map f (counting k m)) ≡ joined (map f (filter (has ports) (counting k n)))
  from_ports k zero zero none above = refl
  from_ports k (suc m) zero none above =
      ap (λ (ts : List ℕ). ts ++ targets_from ports (k + 1) (map f (counting (k + 1) m))) (without (has ports k) (f k) (above k (omega arith)))
      ∙ from_ports (k + 1) m zero (λ p l. none p (omega (arith, l))) (λ p l. above p (omega (arith, l)))
  from_ports k zero (suc n) none above =
      from_ports (k + 1) zero n (λ p l. none p (omega (arith, l))) (λ p l. above p (omega (arith, l)))
      ∙ ap (λ (ts : List ℕ). ts ++ joined (map f (filter (has ports) (counting (k + 1) n)))) (sym (empty (has ports k) (f k) (none k (omega arith))))
      ∙ part (has ports k) f k (filter (has ports) (counting (k + 1) n))
  from_ports k (suc m) (suc n) none above =
      ap (λ (ts : List ℕ). named ports k (f k) ++ ts) (from_ports (k + 1) m n (λ p l. none p (omega (arith, l))) (λ p l. above p (omega (arith, l))))
      ∙ part (has ports k) f k (filter (has ports) (counting (k + 1) n))

  unset : ports < 2 ^ 128 → (p : ℕ) → 0 + 128 ≤ p → has ports p ≡ false
  unset fits p above = ap (λ (b : ℕ). b == 1) (bit_at_above ports 128 p fits (omega (arith, above)))

  on_ports : (m : ℕ) → ((p : ℕ) → 0 + m ≤ p → f p ≡ []) → ports < 2 ^ 128 → targets_of ports (map f (counting 0 m)) ≡ joined (map f (port_list ports))
  unfolding port_list
  on_ports m none fits = from_ports 0 m 128 none (unset fits)

none_joined : (ports : List ℕ) → joined (map (λ port. []) ports) ≡ []
none_joined [] = refl
none_joined (port ∷ rest) = none_joined rest

beyond : {X : Type 0} (xs : List (List X)) (p : ℕ) → length xs ≤ p → slice_index_or xs p [] ≡ []
beyond [] p l = refl
beyond (x ∷ xs) zero l = absurd (omega (arith, l))
beyond (x ∷ xs) (suc p) l = beyond xs p (omega (arith, l))

-- so it is of what is wired, and of an instance
wired_read : (w : Wiring) (ports : ℕ) → ports < 2 ^ 128 → targets_of ports (wired_outlets w) ≡ joined (map (λ port. wired_targets port w) (port_list ports))
wired_read w ports fits = go (component_named w.plan w.name) refl
  where
    targets_by : (p : ℕ) (o : Option Component) → component_named w.plan w.name ≡ o →
        wired_targets p w ≡ joined (map (numbers_of w.instances) (slice_index_or (elim o as (λ _. List (List ByteString)) [ None ↦ [] | Some c ↦ map (readers w.plan w.name) (port_names c) ]) p []))
    targets_by p o is = ap (λ (x : Option Component). joined (map (numbers_of w.instances) (slice_index_or (elim x as (λ _. List (List ByteString)) [ None ↦ [] | Some c ↦ map (readers w.plan w.name) (port_names c) ]) p []))) is

    go : (o : Option Component) → component_named w.plan w.name ≡ o →
        targets_of ports (map (λ port. wired_targets port w) (elim o as (λ _. List ℕ) [ None ↦ [] | Some c ↦ counting 0 (length (port_names c)) ]))
        ≡ joined (map (λ port. wired_targets port w) (port_list ports))
    go None is = on_ports (λ port. wired_targets port w) ports 0 (λ p l. targets_by p None is) fits
    go (Some c) is = on_ports (λ port. wired_targets port w) ports (length (port_names c))
        (λ p l. targets_by p (Some c) is
        ∙ ap (λ (names : List ByteString). joined (map (numbers_of w.instances) names))
        (beyond (map (readers w.plan w.name) (port_names c)) p (let same = length-map (port_names c) (readers w.plan w.name) in omega (arith, l, same)))) fits

pub outlets_read : (h : Record) (i ports : ℕ) → ports < 2 ^ 128 → targets_of ports (outlets_at h i) ≡ readers_on h i (port_list ports)
outlets_read h i ports fits = go (wiring h i)
  where
    go : (o : Option Wiring) → targets_of ports (elim o as (λ _. List (List ℕ)) [ None ↦ [] | Some w ↦ wired_outlets w ])
        ≡ joined (map (λ port. elim o as (λ _. List ℕ) [ None ↦ [] | Some w ↦ wired_targets port w ]) (port_list ports))
    go None = sym (none_joined (port_list ports))
    go (Some w) = wired_read w ports fits
