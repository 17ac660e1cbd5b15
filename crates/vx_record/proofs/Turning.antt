-- A source that takes its turn isn't dry, and not too many bytes were taken when it was leased.
use Rattle.std.proofs.Common.{◌≡◌, ℕ, Bool, true, false, ◌&&◌, ◌||◌, [], ◌∷◌, refl, subst, ◌∙◌, arith}
use Rattle.std.specs.Prelude.{◌==◌, not, if◌then◌else◌}
use Rattle.std.proofs.lemmas.Bool.Decides.{nat_tests}
use Rattle.vx_record.specs.Records.{Record}
use Rattle.vx_record.specs.declared.entry.Entry.{Entry}
use Rattle.vx_record.specs.declared.entry.Entry.TheVariants.{Lease, Home, Read, SourceLost}
use Rattle.vx_record.specs.Turns.{is_out, at_lease, is_turn_of}
use Rattle.vx_record.specs.Installs.{source_at}
use Rattle.vx_record.specs.Reads.{all_ended, is_lost}
use Rattle.vx_record.specs.Routing.{drains}
use Rattle.vx_record.specs.Sourcing.{MayTurn}
use Rattle.vx_record.specs.Legal.{IsLegal}
use Rattle.vx_record.specs.Promises.{TurnUndry}
use Rattle.vx_record.proofs.Promises.{was_out, unturned, source_lease, undry_lease, undry_unlost}

-- only turns tell an end
end_same : (h : Record) (e : Entry) (i : ℕ) → is_turn_of i e ≡ false → all_ended (e ∷ h) i ≡ all_ended h i
end_same h (Read j stream took) i none = rw none refl
end_same h e i none = refl

-- and only they lose a source
lost_same : (h : Record) (e : Entry) (i : ℕ) → is_turn_of i e ≡ false → is_lost (e ∷ h) i ≡ is_lost h i
lost_same h (SourceLost j after failed) i none = rw none refl
lost_same h e i none = refl

-- an instance was unleased when it was leased
pub unleased_lease : (h : Record) (i : ℕ) → IsLegal h → is_out h i ≡ true → is_out (at_lease h i) i ≡ false
unleased_lease [] i legal out = cc
unleased_lease (Lease j worker now polls ∷ h) i legal out = go (j == i) refl out (unleased_lease h i legal.1)
  where
    go : (b : Bool) → (j == i) ≡ b → (if b then true else is_out h i) ≡ true → (is_out h i ≡ true → is_out (at_lease h i) i ≡ false) → is_out (if b then h else at_lease h i) i ≡ false
    go true e out rest = let same : j ≡ i = grind (arith, nat_tests) in subst (λ (k : ℕ). is_out h k ≡ false) same legal.0.row.unleased
    go false e out rest = rest out
unleased_lease (Home j ∷ h) i legal out = unleased_lease h i legal.1 (was_out (j == i) (is_out h i) out)
unleased_lease (e ∷ h) i legal out = unleased_lease h i legal.1 out

-- an unleased source that isn't dry doesn't drain, and was neither told the end of all nor lost
undrained : (s a l d o x : Bool) → (s && (a || l || (d && not (o && x)))) ≡ false → s ≡ true → o ≡ false → d ≡ false
undrained s a l d o x dry is unleased = grind arith

pub unended : (s a l d : Bool) → s ≡ true → (s && (a || l || d)) ≡ false → a ≡ false
unended s a l d is dry = grind arith

pub undrained_lease : (h : Record) (i : ℕ) → IsLegal h → MayTurn h i → drains (at_lease h i) i ≡ false
undrained_lease h i legal row =
    let k = at_lease h i in
    undrained (source_at k i) (all_ended k i) (is_lost k i) (drains k i) (is_out k i) (not (drains (at_lease k i) i)) (undry_lease h i row) (source_lease h i legal row.out row.source) (unleased_lease h i legal row.out)

-- so it isn't dry where it takes its turn
still_undry : (s a l d o x : Bool) → a ≡ false → l ≡ false → o ≡ true → x ≡ false → (s && (a || l || (d && not (o && not x)))) ≡ false
still_undry s a l d o x e f g k = grind arith

pub turn_undry : TurnUndry
turn_undry h i legal row =
    let k = at_lease h i in
    let source = source_lease h i legal row.out row.source in
    let rest = drains k i && not (is_out k i && not (drains (at_lease k i) i)) in
    still_undry (source_at h i) (all_ended h i) (is_lost h i) (drains h i) (is_out h i) (drains k i)
    (unturned all_ended end_same h i row.once ∙ unended (source_at k i) (all_ended k i) (is_lost k i) rest source (undry_lease h i row))
    (unturned is_lost lost_same h i row.once ∙ undry_unlost (source_at k i) (all_ended k i) (is_lost k i) rest source (undry_lease h i row))
    row.out
    (undrained_lease h i legal row)
