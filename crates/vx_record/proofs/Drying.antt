-- A dry source stays dry.
use Rattle.std.proofs.Common.{◌≡◌, ℕ, Bool, true, false, ◌∷◌, [], ◌++◌, refl, subst, arith}
use Rattle.std.specs.Prelude.{◌==◌, ◌&&◌, ◌||◌, not, if◌then◌else◌}
use Rattle.vx_record.specs.Records.{Record}
use Rattle.vx_record.specs.declared.entry.Entry.{Entry}
use Rattle.vx_record.specs.declared.entry.Entry.TheVariants.{Install, Lease, Home, Read, SourceLost}
use Rattle.vx_record.specs.Turns.{is_out, at_lease}
use Rattle.vx_record.specs.Installs.{source_at}
use Rattle.vx_record.specs.Reads.{is_end, all_ended, is_lost}
use Rattle.vx_record.specs.Routing.{drains, is_dry, is_out_from_before}
use Rattle.vx_record.specs.Legal.{IsLegal}
use Rattle.vx_record.specs.Finality.{DryStays}

-- what is dry while it drains is so under a new lease
leased_dry : (s e l d o : Bool) → (s && (e || l || (d && o))) ≡ true → (s && (e || l || (d && not (true && not d)))) ≡ true
leased_dry s e l d o dry = grind arith

-- and unleased
unleased_dry : (s e l d o : Bool) → (s && (e || l || (d && o))) ≡ true → (s && (e || l || (d && true))) ≡ true
unleased_dry s e l d o dry = grind arith

-- and where more was taken
read_dry : (s x e l d : Bool) → (s && (e || l || d)) ≡ true → (s && ((x || e) || l || d)) ≡ true
read_dry s x e l d dry = grind arith

-- and where it was lost
lost_dry : (s x e l d : Bool) → (s && (e || l || d)) ≡ true → (s && (e || (x || l) || d)) ≡ true
lost_dry s x e l d dry = grind arith

-- behind one more entry
pub dry_on : (h : Record) (e : Entry) (i : ℕ) → IsLegal (e ∷ h) → is_dry h i ≡ true → is_dry (e ∷ h) i ≡ true
dry_on h (Install version plan once instances now) i legal dry =
    let no : is_dry [] i ≡ true = subst (λ (k : Record). is_dry k i ≡ true) legal.0.row.first dry in cc
dry_on h (Lease j worker now polls) i legal dry = go (j == i)
  where
    go : (b : Bool) → (source_at h i && (all_ended h i || is_lost h i || (drains h i && not ((if b then true else is_out h i) && not (drains (if b then h else at_lease h i) i))))) ≡ true
    go true = leased_dry (source_at h i) (all_ended h i) (is_lost h i) (drains h i) (not (is_out_from_before h i)) dry
    go false = dry
dry_on h (Home j) i legal dry = go (j == i)
  where
    go : (b : Bool) → (source_at h i && (all_ended h i || is_lost h i || (drains h i && not ((if b then false else is_out h i) && not (drains (at_lease h i) i))))) ≡ true
    go true = unleased_dry (source_at h i) (all_ended h i) (is_lost h i) (drains h i) (not (is_out_from_before h i)) dry
    go false = dry
dry_on h (Read j stream took) i legal dry =
    read_dry (source_at h i) ((j == i) && is_end took) (all_ended h i) (is_lost h i) (drains h i && not (is_out_from_before h i)) dry
dry_on h (SourceLost j after failed) i legal dry =
    lost_dry (source_at h i) (j == i) (all_ended h i) (is_lost h i) (drains h i && not (is_out_from_before h i)) dry
dry_on h e i legal dry = dry

-- and behind any number
pub dry_stays : DryStays
dry_stays [] earlier i legal dry = dry
dry_stays (e ∷ later) earlier i legal dry = dry_on (later ++ earlier) e i legal (dry_stays later earlier i legal.1 dry)
