-- A notice that is due goes to an instance that is there, and that created the batch.
use Rattle.std.proofs.Common.{◌≡◌, ◌∙◌, ◌⊎◌, ℕ, ◌+◌, ◌<◌, Bool, true, false, List, [], ◌∷◌, ◌++◌, length, refl, ap, inl, inr, arith}
use Rattle.std.specs.Prelude.{◌==◌, if◌then◌else◌, map, filter}
use Rattle.std.specs.List.{list_any}
use Rattle.std.proofs.lemmas.Bool.{cases_lt}
use Rattle.std.proofs.lemmas.Bool.Decides.{nat_tests}
use Rattle.std.proofs.lemmas.List.{append-nil}
use Rattle.std.proofs.lemmas.List.Folds.{list_any-append}
use Rattle.vx_ends.specs.Observation.{Observation}
use Rattle.vx_plan.specs.Components.{is_source}
use Rattle.vx_plan.specs.declared.component.Component.{Component}
use Rattle.vx_record.specs.declared.entry.Entry.TheVariants.{Install, Born}
use Rattle.vx_record.specs.declared.instance.Instance.{Instance}
use Rattle.vx_record.specs.Records.{Record}
use Rattle.vx_record.specs.Confirms.{Birth, births, births_in, is_noticed}
use Rattle.vx_record.specs.Copies.{counting}
use Rattle.vx_record.specs.Installs.{is_new, started}
use Rattle.vx_record.specs.Legal.{IsLegal}
use Rattle.vx_record.specs.Starting.{first_instances}
use Rattle.vx_record.specs.Tallies.{is_batch_of}
use Rattle.vx_record.proofs.Counts.{counting_after}
use Rattle.vx_record.proofs.Senders.{started_component_or}
use Rattle.vx_balance.specs.Births.{Batch, born, without_notice, unnoticed, IsAmong}
use Rattle.vx_balance.proofs.Owning.{length-counting}
use Rattle.vx_counts.proofs.Numbering.{owner_is}
use Rattle.vx_instances.specs.declared.state.InstanceState.{InstanceState}
use Rattle.vx_instances.specs.Knowing.{Knows}

-- WHO BORE IT
was_among : (h : Record) (x : Batch) (xs : List Batch) → IsAmong x (without_notice h xs) → IsAmong x xs
was_among h x [] is = absurd is
was_among h x (y ∷ ys) is = go (is_noticed h y.number) is (was_among h x ys)
  where
    go : (b : Bool) → IsAmong x (if b then without_notice h ys else y ∷ without_notice h ys) →
        (IsAmong x (without_notice h ys) → IsAmong x ys) → (y ≡ x) ⊎ IsAmong x ys
    go true more later = inr (later more)
    go false (inl here) later = inl here
    go false (inr more) later = inr (later more)

among_more : (x : Batch) (xs : List Batch) (y : Batch) → IsAmong x (xs ++ y ∷ []) → IsAmong x xs ⊎ (y ≡ x)
among_more x [] y (inl here) = inr here
among_more x [] y (inr none) = absurd none
among_more x (z ∷ zs) y (inl here) = inl (inl here)
among_more x (z ∷ zs) y (inr more) = elim (among_more x zs y more) [ inl before ↦ inl (inr before) | inr last ↦ inr last ]

-- an older birth, or a newer one
any_of : (b : ℕ) (xs ys : List Birth) → (list_any (λ (birth : Birth). birth.batch == b) xs ≡ true) ⊎ (list_any (λ (birth : Birth). birth.batch == b) ys ≡ true) →
    list_any (λ (birth : Birth). birth.batch == b) (xs ++ ys) ≡ true
any_of b xs ys some = rw (list_any-append (λ (birth : Birth). birth.batch == b) xs ys) (grind (arith, some))

born_of : (h : Record) (x : Batch) → IsAmong x (born h) → is_batch_of h x.creator x.number ≡ true
born_of [] x is = absurd is
born_of (Born j b place copies events waits stream end ∷ h) x is =
    any_of x.number (births h x.creator) (births_in x.creator (Born j b place copies events waits stream end))
    (elim (among_more x (born h) (record { number = b; creator = j }) is) [
      | inl before ↦ inl (born_of h x before)
      | inr last ↦ inr (rw (← last) (here j b (record { batch = b; waits = waits; stream = stream; end = end }) refl))
    ])
  where
    here : (i n : ℕ) (birth : Birth) → birth.batch ≡ n → list_any (λ (x : Birth). x.batch == n) (if i == i then birth ∷ [] else []) ≡ true
    here i n birth same = grind (arith, nat_tests, same)
born_of (e ∷ h) x is = any_of x.number (births h x.creator) [] (inl (born_of h x is))

pub created_batch : (h : Record) (i b : ℕ) → IsAmong (record { number = b; creator = i }) (unnoticed h) → is_batch_of h i b ≡ true
created_batch h i b is = born_of h (record { number = b; creator = i }) (was_among h (record { number = b; creator = i }) (born h) is)

-- WHO IS THERE
numbers_first : (from : ℕ) (components : List Component) →
    map (λ (instance : Instance). instance.number) (filter is_new (first_instances from components)) ≡ counting from (length components)
numbers_first from [] = refl
numbers_first from (c ∷ rest) = ap (λ ns. from ∷ ns) (numbers_first (from + 1) rest)

-- the instances are numbered from 0 on
numbered : (h : Record) → IsLegal h → (n : ℕ) × (started h ≡ counting 0 n)
numbered [] legal = (0, refl)
numbered (Install version plan once instances now ∷ h) legal =
    (length plan.components, rw (legal.0.row.first, legal.0.row.all_new) (numbers_first 0 plan.components))
numbered (e ∷ h) legal = let before = numbered h legal.1 in (before.0, append-nil (started h) ∙ before.1)

pub tasked : {P : Type 0} (observe : P → Observation) (h : Record) (i b : ℕ) (states : List (InstanceState P)) → IsLegal h → Knows observe states h →
    is_batch_of h i b ≡ true → i < length states
tasked observe h i b states legal knows of =
    let some = started_component_or h i is_source legal (owner_is h i b legal of) in
    let all = numbered h legal in
    let size = knows.size ∙ ap length all.1 ∙ length-counting 0 all.0 in
    elim (cases_lt i all.0) [
      | inl below ↦ omega (arith, below, size)
      | inr past ↦ absurd (omega (arith, rw all.1 at some, counting_after i 0 all.0 (omega (arith, past))))
    ]
