-- Each entry counts for an instance, or leaves it.
use Rattle.std.proofs.Common.{◌≡◌, ℕ, Bool, true, false, ◌&&◌, ◌⊎◌, Option, Some, None, List, sym, refl, subst, inl, inr}
use Rattle.std.specs.Prelude.{◌==◌}
use Rattle.std.proofs.lemmas.Bool.{eqb-true}
use Rattle.vx_status.specs.declared.outcome.Outcome.TheVariants.{Delivered, Filtered, NewestDropped, NoConsumer, Attempts, Abandoned, Refusal}
use Rattle.vx_plan.specs.declared.class.Class.{Class}
use Rattle.vx_plan.specs.declared.class.Class.TheVariants.{Source, Transform, Sink}
use Rattle.vx_record.specs.declared.entry.Entry.TheVariants.{Read, Born, Take, Answer, Attempt, Spent, Notice, Confirm}
use Rattle.vx_record.specs.Records.{Record}
use Rattle.vx_record.specs.Places.Place.{Outputs, Waiting}
use Rattle.vx_record.specs.Parcels.{first_copy}
use Rattle.vx_record.specs.Tallies.{is_first, is_batch_of}
use Rattle.vx_counts.specs.Classes.{class_at, IsGiver}
use Rattle.vx_counts.specs.Spends.{WasPutIn, BeginsOne, BeginsNone, SpendsElsewhere, SpendsHere}
use Rattle.vx_counts.specs.Laws.{EachCounted}
use Rattle.vx_counts.proofs.SpentFrom.{legal_place, stands_put}

own_or_not : (i j : ℕ) → (j ≡ i) ⊎ ((j == i) ≡ false)
own_or_not i j = go (j == i) refl
  where
    go : (b : Bool) → (j == i) ≡ b → (j ≡ i) ⊎ ((j == i) ≡ false)
    go true is = inl (eqb-true j i is)
    go false is = inr is

-- of a sink a parcel begins with the copy, or none does
begins : (h : Record) (i c : ℕ) → BeginsOne h i c ⊎ BeginsNone h i c
begins h i c = go (class_at h i) refl (is_first h i c) refl
  where
    go : (o : Option Class) → class_at h i ≡ o → (b : Bool) → is_first h i c ≡ b → BeginsOne h i c ⊎ BeginsNone h i c
    go o class false is = inr (λ sink. is)
    go None class true is = inr (λ sink. absurd (cc))
    go (Some Source) class true is = inr (λ sink. absurd (cc))
    go (Some Transform) class true is = inr (λ sink. absurd (cc))
    go (Some Sink) class true is = inl (class, is)

parts : (a b : Bool) → ((a ≡ true) × (b ≡ true)) ⊎ ((a && b) ≡ false)
parts true true = inl (refl, refl)
parts true false = inr refl
parts false b = inr refl

-- a parcel without a reader is counted by who put it out
unread : (h : Record) (i j c : ℕ) (copies : List ℕ) → WasPutIn h (Outputs j) copies c → SpendsHere h i c NoConsumer ⊎ SpendsElsewhere h i c NoConsumer
unread h i j c copies was = elim (parts (j == i) (c == first_copy copies)) [
  | inl own ↦ go (class_at h i) refl (subst (λ (k : ℕ). WasPutIn h (Outputs k) copies c) (eqb-true j i own.0) was) (eqb-true c (first_copy copies) own.1)
  | inr apart ↦ inr (λ giver. record { giver = j; copies = copies; put = was; apart = apart })
]
  where
    go : (o : Option Class) → class_at h i ≡ o → WasPutIn h (Outputs i) copies c → c ≡ first_copy copies → SpendsHere h i c NoConsumer ⊎ SpendsElsewhere h i c NoConsumer
    go None class was first = inr (λ giver. absurd (subst IsGiver class giver))
    go (Some Source) class was first = inl (subst IsGiver (sym class) tt, record { copies = copies; put = was; first = first })
    go (Some Transform) class was first = inl (subst IsGiver (sym class) tt, record { copies = copies; put = was; first = first })
    go (Some Sink) class was first = inr (λ giver. absurd (subst IsGiver class giver))

-- and one that a full buffer drops by its target, where that is a sink
newest : (h : Record) (i j t c : ℕ) (copies : List ℕ) → WasPutIn h (Waiting j t) copies c → SpendsHere h i c NewestDropped ⊎ SpendsElsewhere h i c NewestDropped
newest h i j t c copies was = elim (parts (t == i) (c == first_copy copies)) [
  | inl own ↦ go (class_at h i) refl (subst (λ (k : ℕ). WasPutIn h (Waiting j k) copies c) (eqb-true t i own.0) was) (eqb-true c (first_copy copies) own.1)
  | inr apart ↦ inr (λ sink. record { giver = j; target = t; copies = copies; put = was; apart = apart })
]
  where
    go : (o : Option Class) → class_at h i ≡ o → WasPutIn h (Waiting j i) copies c → c ≡ first_copy copies → SpendsHere h i c NewestDropped ⊎ SpendsElsewhere h i c NewestDropped
    go None class was first = inr (λ sink. absurd (cc))
    go (Some Source) class was first = inr (λ sink. absurd (cc))
    go (Some Transform) class was first = inr (λ sink. absurd (cc))
    go (Some Sink) class was first = inl (class, record { giver = j; copies = copies; put = was; first = first })

made_or_not : (i j : ℕ) (made : Bool) → ((j ≡ i) × (made ≡ true)) ⊎ (((j == i) && made) ≡ false)
made_or_not i j made = go (j == i) refl made refl
  where
    go : (b : Bool) → (j == i) ≡ b → (m : Bool) → made ≡ m → ((j ≡ i) × (made ≡ true)) ⊎ (((j == i) && made) ≡ false)
    go true own true is = inl (eqb-true j i own, is)
    go true own false is = inr (λ t. own t && is t)
    go false other m is = inr (λ t. other t && made)

pub each_counted : EachCounted
each_counted (Read j stream took) h i legal = own_or_not i j
each_counted (Born j b place copies events waits stream end) h i legal = own_or_not i j
each_counted (Take j s copies) h i legal = own_or_not i j
each_counted (Answer j outputs discarded kept) h i legal = own_or_not i j
each_counted (Attempt j copies bytes reply) h i legal = own_or_not i j
each_counted (Notice b status) h i legal = go (is_batch_of h i b) refl
  where
    go : (own : Bool) → is_batch_of h i b ≡ own → (is_batch_of h i b ≡ true) ⊎ (is_batch_of h i b ≡ false)
    go true is = inl is
    go false is = inr is
each_counted (Confirm j positions made) h i legal = made_or_not i j made
each_counted (Spent j c Delivered) h i legal = begins h i c
each_counted (Spent j c Filtered) h i legal = inr tt
each_counted (Spent j c NewestDropped) h i legal =
    let at = legal_place h j c NewestDropped legal in
    let put = stands_put h (Waiting j at.0) c at.1 in
    newest h i j at.0 c put.0 put.1
each_counted (Spent j c NoConsumer) h i legal =
    let put = stands_put h (Outputs j) c (legal_place h j c NoConsumer legal) in
    unread h i j c put.0 put.1
each_counted (Spent j c Attempts) h i legal = begins h i c
each_counted (Spent j c Abandoned) h i legal = begins h i c
each_counted (Spent j c Refusal) h i legal = begins h i c
each_counted e h i legal = inr tt
