-- A batch is of one instance, which is a source.
use Rattle.std.proofs.Common.{◌≡◌, ℕ, ◌<◌, Bool, true, false, ◌||◌, Some, None, List, [], ◌∷◌, ◌++◌, length, refl, sym, ap, subst, ◌∙◌, arith, inl, inr, ◌⊎◌}
use Rattle.std.specs.Prelude.{if◌then◌else◌, ◌==◌}
use Rattle.std.specs.List.{list_any}
use Rattle.std.proofs.lemmas.Bool.Decides.{nat_tests}
use Rattle.std.proofs.lemmas.List.{append-nil}
use Rattle.vx_record.specs.declared.entry.Entry.TheVariants.{Install, Read, Born}
use Rattle.vx_record.specs.Records.{Record}
use Rattle.vx_record.specs.Legal.{IsLegal}
use Rattle.vx_record.specs.Installs.{source_at}
use Rattle.vx_record.specs.Sourcing.{Yield, yield_of, yield}
use Rattle.vx_record.specs.Copies.{next_copy}
use Rattle.vx_record.specs.Confirms.{Birth, births}
use Rattle.vx_record.specs.Tallies.{is_batch_of}
use Rattle.vx_counts.specs.Laws.{OneOwner}

-- each batch has a number of its own: that of its first copy
abbrev AreNumbered : Record → Type 0
AreNumbered [] = Unit {0}
AreNumbered (Born i b place copies events waits stream end ∷ h) = (b ≡ next_copy h) × (0 < length copies) × AreNumbered h
AreNumbered (e ∷ h) = AreNumbered h

numbered : (h : Record) → IsLegal h → AreNumbered h
numbered [] legal = tt
numbered (Born i b place copies events waits stream end ∷ h) legal = (legal.0.row.number, legal.0.row.some, numbered h legal.1)
numbered (e ∷ h) legal = numbered h legal.1

any-append : (b : ℕ) (xs ys : List Birth) → list_any (λ (birth : Birth). birth.batch == b) (xs ++ ys) ≡ (list_any (λ (birth : Birth). birth.batch == b) xs || list_any (λ (birth : Birth). birth.batch == b) ys)
any-append b [] ys = refl
any-append b (x ∷ xs) ys = ap (λ t. (x.batch == b) || t) (any-append b xs ys) ∙ or_assoc (x.batch == b) (list_any (λ (birth : Birth). birth.batch == b) xs) (list_any (λ (birth : Birth). birth.batch == b) ys)
  where
    or_assoc : (p q r : Bool) → (p || (q || r)) ≡ ((p || q) || r)
    or_assoc true q r = refl
    or_assoc false q r = refl

-- an older batch, or the one that is born
born-cases : (h : Record) (i j b b' : ℕ) (birth : Birth) → birth.batch ≡ b' → list_any (λ (x : Birth). x.batch == b) (births h i ++ (if j == i then birth ∷ [] else [])) ≡ true →
    (is_batch_of h i b ≡ true) ⊎ ((j ≡ i) × (b ≡ b'))
born-cases h i j b b' birth named is = go (j == i) refl (sym (any-append b (births h i) (if j == i then birth ∷ [] else [])) ∙ is)
  where
    old_or_new : (p q : Bool) → (p || (q || false)) ≡ true → (p ≡ true) ⊎ (q ≡ true)
    old_or_new true q e = inl refl
    old_or_new false true e = inr refl
    old_or_new false false e = absurd (cc)

    old_alone : (p : Bool) → (p || false) ≡ true → p ≡ true
    old_alone true e = refl
    old_alone false e = absurd (cc)

    go : (s : Bool) → (j == i) ≡ s → (is_batch_of h i b || list_any (λ (x : Birth). x.batch == b) (if s then birth ∷ [] else [])) ≡ true → (is_batch_of h i b ≡ true) ⊎ ((j ≡ i) × (b ≡ b'))
    go true own e = elim (old_or_new (is_batch_of h i b) (birth.batch == b) e) [
      | inl old ↦ inl old
      | inr new ↦ inr (grind (arith, nat_tests), grind (arith, nat_tests))
    ]
    go false other e = inl (old_alone (is_batch_of h i b) e)

none_more : (h : Record) (i b : ℕ) → list_any (λ (x : Birth). x.batch == b) (births h i ++ []) ≡ true → is_batch_of h i b ≡ true
none_more h i b is = sym (ap (list_any (λ (x : Birth). x.batch == b)) (append-nil (births h i))) ∙ is

-- older batches have lower numbers
below : (h : Record) (i b : ℕ) → AreNumbered h → is_batch_of h i b ≡ true → b < next_copy h
below [] i b numbered is = absurd (cc)
below (Born j b' place copies events waits stream end ∷ h) i b numbered is =
    elim (born-cases h i j b b' (record { batch = b'; waits = waits; stream = stream; end = end }) refl is) [
      | inl old ↦ let ih = below h i b numbered.2 old in omega arith
      | inr new ↦ let x = numbered.0 in let y = numbered.1 in let z = new.1 in omega arith
    ]
below (e ∷ h) i b numbered is = let ih = below h i b numbered (none_more h i b is) in omega arith

owner : (h : Record) (i j b : ℕ) → AreNumbered h → is_batch_of h i b ≡ true → is_batch_of h j b ≡ true → i ≡ j
owner [] i j b numbered of_i of_j = absurd (cc)
owner (Born k b' place copies events waits stream end ∷ h) i j b numbered of_i of_j =
    let number = numbered.0 in
    elim (born-cases h i k b b' (record { batch = b'; waits = waits; stream = stream; end = end }) refl of_i) [
      | inl old ↦ elim (born-cases h j k b b' (record { batch = b'; waits = waits; stream = stream; end = end }) refl of_j) [
        | inl old' ↦ owner h i j b numbered.2 old old'
        | inr new' ↦ let l = below h i b numbered.2 old in let z = new'.1 in absurd (omega arith)
      ]
      | inr new ↦ elim (born-cases h j k b b' (record { batch = b'; waits = waits; stream = stream; end = end }) refl of_j) [
        | inl old' ↦ let l = below h j b numbered.2 old' in let z = new.1 in absurd (omega arith)
        | inr new' ↦ sym new.0 ∙ new'.0
      ]
    ]
owner (e ∷ h) i j b numbered of_i of_j = owner h i j b numbered (none_more h i b of_i) (none_more h j b of_j)

pub one_owner : OneOwner
one_owner h i j b legal of_i of_j = owner h i j b (numbered h legal) of_i of_j

-- what yields a birth is a source
pub creator_is : (h : Record) (i : ℕ) (y : Yield) → IsLegal h → yield h i ≡ Some y → source_at h i ≡ true
creator_is [] i y legal is = absurd (cc)
creator_is (Read j stream took ∷ h) i y legal is = go (j == i) refl is
  where
    go : (b : Bool) → (j == i) ≡ b → (if b then Some (yield_of h i stream took) else None) ≡ Some y → source_at h i ≡ true
    go true own some = let same : j ≡ i = grind (arith, nat_tests) in subst (λ (k : ℕ). source_at h k ≡ true) same legal.0.row.turn.source
    go false other some = absurd (cc)
creator_is (e ∷ h) i y legal is = absurd (cc)

-- and so is whose batch one is
pub owner_is : (h : Record) (i b : ℕ) → IsLegal h → is_batch_of h i b ≡ true → source_at h i ≡ true
owner_is [] i b legal is = absurd (cc)
owner_is (Install version plan once instances now ∷ h) i b legal is =
    absurd (nothing (sym (ap (λ (r : Record). is_batch_of (Install version plan once instances now ∷ r) i b) legal.0.row.first) ∙ is))
  where
    nothing : false ≡ true → ⊥
    nothing e = cc
owner_is (Born j b' place copies events waits stream end ∷ h) i b legal is =
    elim (born-cases h i j b b' (record { batch = b'; waits = waits; stream = stream; end = end }) refl is) [
      | inl old ↦ owner_is h i b legal.1 old
      | inr new ↦ subst (λ (k : ℕ). source_at h k ≡ true) new.0 (creator_is h j (record { events = events; stream = stream; end = end }) legal.1 legal.0.row.yields)
    ]
owner_is (e ∷ h) i b legal is = owner_is h i b legal.1 (none_more h i b is)
