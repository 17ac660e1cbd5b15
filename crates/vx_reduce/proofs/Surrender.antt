-- Copies that are given up, the first group's first.
use Rattle.std.proofs.Common.{◌≡◌, ℕ, ◌+◌, ◌<◌, Bool, true, false, cond, Option, Some, None, List, [], ◌∷◌, ◌++◌, length, drop, arith, refl, sym, ◌∙◌, ap, ap₂, subst, append_assoc}
use Rattle.std.specs.Prelude.{IfSome, IfNone, IsSome, slice_get}
use Rattle.std.specs.List.Sorted.{IsPermutation}
use Rattle.std.specs.Ordering.{nat_cmp}
use Rattle.std.specs.Map.{lookup, remove_entry, set_value, values_of}
use Rattle.std.specs.BTreeMap.{is_at}
use Rattle.std.proofs.lemmas.List.Sorted.{IsPermutation-trans, IsPermutation-middle}
use Rattle.vx_value.specs.Datum.{Datum}
use Rattle.vx_value.specs.Orders.{datum_cmp}
use Rattle.vx_ledger.specs.Copies.{Copy}
use Rattle.vx_reduce.specs.declared.group.Group.{Group}
use Rattle.vx_reduce.specs.Groups.{copies_in, copies_held}
use Rattle.vx_reduce.specs.Indexes.{keys_under, IsIndexOf, IsIndexed, BeginsAt, BeginsBare, TakesCopy}
use Rattle.vx_reduce.proofs.Indexed.{at_same}
use Rattle.vx_reduce.proofs.Moving.{alike}
use Rattle.vx_reduce.proofs.Expiring.{indexed_out}

pub some_weaker : {X : Type 0} (P Q : X → Type 0) (o : Option X) → ((x : X) → P x → Q x) → IfSome o P → IfSome o Q
some_weaker P Q None f h = h
some_weaker P Q (Some x) f h = f x h

pub begins_at : (es : List (ℕ × Group)) (n : ℕ) (g : Group) → slice_get es 0 ≡ Some (n, g) → BeginsAt n es
begins_at [] n g h = cc
begins_at (e ∷ es) n g h = let same : e ≡ (n, g) = cc in ap (λ (x : ℕ × Group). x.0) same

pub no_entries : (es : List (ℕ × Group)) → (0 < length es → ⊥) → es ≡ []
no_entries [] h = refl
no_entries (e ∷ es) h = absurd (h (omega arith))

first_at : (n : ℕ) (e : ℕ × Group) → e.0 ≡ n → is_at (nat_cmp n) e.0 ≡ true
first_at n e h = subst (λ i. is_at (nat_cmp i) e.0 ≡ true) h (at_same e.0)

pub never_missing : (es : List (ℕ × Group)) (n : ℕ) → BeginsAt n es → None ≡ lookup (is_at (nat_cmp n)) es → ⊥
never_missing [] n h m = h
never_missing (e ∷ es) n h m = let t : is_at (nat_cmp n) e.0 ≡ true = first_at n e h in let z = rw t at m in cc

first_group : (es : List (ℕ × Group)) (n : ℕ) (e : ℕ × Group) (g : Group) → e.0 ≡ n → lookup (is_at (nat_cmp n)) (e ∷ es) ≡ Some g → e.1 ≡ g
first_group es n e g h l = let t : is_at (nat_cmp n) e.0 ≡ true = first_at n e h in let z : Some e.1 ≡ Some g = rw t at l in cc

pub takes : (es new : List (ℕ × Group)) (n : ℕ) (g w : Group) (copy : Copy) → BeginsAt n es → lookup (is_at (nat_cmp n)) es ≡ Some g → new ≡ set_value (is_at (nat_cmp n)) es w → w.key ≡ g.key → copies_in g.parcel ≡ copies_in w.parcel ++ copy ∷ [] → TakesCopy copy es new
takes [] new n g w copy b l s k c = b
takes (e ∷ es) new n g w copy b l s k c =
    let same : e.1 ≡ g = first_group es n e g b l in
    let t : is_at (nat_cmp n) e.0 ≡ true = first_at n e b in
    (w, s ∙ rw t refl, k ∙ ap (λ x. x.key) (sym same), ap (λ x. copies_in x.parcel) same ∙ c)

pub bare : (es : List (ℕ × Group)) (n : ℕ) (g : Group) → BeginsAt n es → lookup (is_at (nat_cmp n)) es ≡ Some g → copies_in g.parcel ≡ [] → BeginsBare es
bare [] n g b l c = b
bare (e ∷ es) n g b l c = ap (λ x. copies_in x.parcel) (first_group es n e g b l) ∙ c

-- a copy taken
pub took : (copy : Copy) (es new : List (ℕ × Group)) → TakesCopy copy es new → IsPermutation (copies_held (values_of es)) (copy ∷ copies_held (values_of new))
took copy [] new h = absurd h
took copy (e ∷ es) new h =
    let w = h.0 in
    let rest = copies_held (values_of es) in
    IsPermutation-trans (copies_in e.1.parcel ++ rest) (copies_in w.parcel ++ copy ∷ rest) (copy ∷ copies_held (values_of new))
    (alike _ _ (ap (λ l. l ++ rest) h.3 ∙ append_assoc (copies_in w.parcel) (copy ∷ []) rest))
    (subst (λ l. IsPermutation (copies_in w.parcel ++ copy ∷ rest) (copy ∷ copies_held (values_of l))) (sym h.1) (IsPermutation-middle (copies_in w.parcel) copy rest))

pub indexed_took : (copy : Copy) (index : List (Datum × ℕ)) (es new : List (ℕ × Group)) (next : ℕ) → TakesCopy copy es new → IsIndexed index es next → IsIndexed index new next
indexed_took copy index [] new next h i = absurd h
indexed_took copy index (e ∷ es) new next h i =
    let as_keys : Datum → List (ℕ × Datum) = λ d. (e.0, d) ∷ keys_under es in
    subst (λ l. IsIndexOf index l next) (sym (ap keys_under h.1 ∙ ap as_keys h.2)) i

-- a group without copies let go
pub end_requires : (es new : List (ℕ × Group)) (n : ℕ) (g : Group) → BeginsBare es → es ≡ (n, g) ∷ new → copies_in g.parcel ≡ []
end_requires es new n g b e = rw e at b

pub never_empty : (es : List (ℕ × Group)) → BeginsBare es → es ≡ [] → ⊥
never_empty es b e = rw e at b

pub indexed_first : (index left : List (Datum × ℕ)) (es new : List (ℕ × Group)) (next n : ℕ) (g : Group) (key : Datum) → es ≡ (n, g) ∷ new → key ≡ g.key → ((q : Datum) → lookup (is_at (datum_cmp q)) left ≡ cond (is_at (datum_cmp key) q) None (lookup (is_at (datum_cmp q)) index)) → IsIndexed index es next → IsIndexed left new next
indexed_first index left es new next n g key e k u i =
    indexed_out index left ((n, g) ∷ new) new next n g key (subst (λ l. IsIndexed index l next) e i) (rw at_same refl) k (rw at_same refl) u

pub same_without : (es : List (ℕ × Group)) → BeginsBare es → copies_held (values_of (drop 1 es)) ≡ copies_held (values_of es)
same_without [] b = refl
same_without (e ∷ es) b = ap (λ l. l ++ copies_held (values_of es)) (sym b)

pub shorter : (es : List (ℕ × Group)) → BeginsBare es → length (drop 1 es) < length es
shorter [] b = absurd b
shorter (e ∷ es) b = omega arith

pub none_weaker : {X : Type 0} {P Q : Type 0} (o : Option X) → (P → Q) → IfNone o P → IfNone o Q
none_weaker None f h = f h
none_weaker (Some x) f h = h
