-- Those of a kind among the components of a plan are listed one by one.
use Rattle.std.proofs.Common.{◌≡◌, ◌∙◌, get_or, ℕ, zero, suc, ◌+◌, ◌<◌, ◌≤◌, Bool, true, false, List, [], ◌∷◌, ◌++◌, length, Option, Some, None, IfSome, IsSomeAnd, inl, inr, refl, sym, ap, subst, arith}
use Rattle.std.specs.Prelude.{slice_get}
use Rattle.std.proofs.lemmas.Bool.{cases_eq}
use Rattle.vx_plan.specs.declared.component.Component.{Component}
use Rattle.vx_hub.specs.Standing.{IsAmong, AreThose}

-- those before a number are listed, and no other
pub record AreThoseTo (is_of : Component → Bool) (components : List Component) (m : ℕ) (those : List ℕ) : Type 0 where
  pub all : (i : ℕ) → i < m → IfSome (slice_get components i) (λ c. is_of c ≡ true → IsAmong those i)
  pub only : (k : ℕ) → IfSome (slice_get those k) (λ i. (i < length components) × IsSomeAnd (slice_get components i) (λ c. is_of c ≡ true))

still_there : (xs : List ℕ) (x k i : ℕ) → slice_get xs k ≡ Some i → slice_get (xs ++ x ∷ []) k ≡ Some i
still_there [] x k i at = cc
still_there (y ∷ ys) x zero i at = at
still_there (y ∷ ys) x (suc k) i at = still_there ys x k i at

last_there : (xs : List ℕ) (x : ℕ) → slice_get (xs ++ x ∷ []) (length xs) ≡ Some x
last_there [] x = refl
last_there (y ∷ ys) x = last_there ys x

each_more : (F : ℕ → Type 0) (xs : List ℕ) (x k : ℕ) → ((j : ℕ) → IfSome (slice_get xs j) F) → F x → IfSome (slice_get (xs ++ x ∷ []) k) F
each_more F [] x zero all one = one
each_more F [] x (suc k) all one = tt
each_more F (y ∷ ys) x zero all one = all zero
each_more F (y ∷ ys) x (suc k) all one = each_more F ys x k (λ j. all (suc j)) one

with_some : {X : Type 0} (F G : X → Type 0) (o : Option X) → ((x : X) → F x → G x) → IfSome o F → IfSome o G
with_some F G None leads is = tt
with_some F G (Some x) leads is = leads x is

module _ (is_of : Component → Bool) (components : List Component) (m : ℕ) (c : Component) (at : slice_get components m ≡ Some c) (those : List ℕ) (are : AreThoseTo is_of components m those) where
  pub those_skip : is_of c ≡ false → AreThoseTo is_of components (m + 1) those
  those_skip other = record {
    all = λ i l. elim (cases_eq i m) [
      | inl same ↦ subst (λ (o : Option Component). IfSome o (λ d. is_of d ≡ true → IsAmong those i)) (sym (ap (slice_get components) same ∙ at)) (λ is_one. let clash : true ≡ false = sym is_one ∙ other in let never : ⊥ = cc in absurd never)
      | inr less ↦ are.all i (omega (arith, l, less))
    ];
    only = are.only;
  }

  pub those_more : (more : List ℕ) → more ≡ those ++ m ∷ [] → is_of c ≡ true → m < length components → AreThoseTo is_of components (m + 1) more
  those_more more is is_one within = rw is (record {
    all = λ i l. elim (cases_eq i m) [
      | inl same ↦ subst (λ (o : Option Component). IfSome o (λ d. is_of d ≡ true → IsAmong (those ++ m ∷ []) i)) (sym (ap (slice_get components) same ∙ at))
          (λ again. (length those, last_there those m ∙ ap Some (sym same)))
      | inr less ↦ with_some (λ d. is_of d ≡ true → IsAmong those i) (λ d. is_of d ≡ true → IsAmong (those ++ m ∷ []) i) (slice_get components i)
          (λ d was is_one. let among = was is_one in (among.0, still_there those m among.0 i among.1)) (are.all i (omega (arith, l, less)))
    ];
    only = λ k. each_more (λ i. (i < length components) × IsSomeAnd (slice_get components i) (λ d. is_of d ≡ true)) those m k are.only
        (within, subst (λ (o : Option Component). IsSomeAnd o (λ d. is_of d ≡ true)) (sym at) is_one);
  })

before_end : (cs : List Component) (j : ℕ) (d : Component) → slice_get cs j ≡ Some d → j < length cs
before_end [] j d there = cc
before_end (e ∷ cs) zero d there = omega arith
before_end (e ∷ cs) (suc j) d there = let below = before_end cs j d there in omega (arith, below)

pub those_all : (is_of : Component → Bool) (components : List Component) (m : ℕ) (those : List ℕ) → length components ≤ m → AreThoseTo is_of components m those → AreThose is_of components (length components) those
those_all is_of components m those most are = record {
  all = λ i. go i (slice_get components i) refl;
  only = are.only;
}
  where
    go : (i : ℕ) (o : Option Component) → slice_get components i ≡ o → IfSome o (λ c. is_of c ≡ true → IsAmong those i)
    go i None at = tt
    go i (Some c) at =
        let below = before_end components i c at in
        subst (λ (o : Option Component). IfSome o (λ d. is_of d ≡ true → IsAmong those i)) at (are.all i (omega (arith, below, most)))

-- the component in a place is there
pub component_at : (components items : List Component) (i : ℕ) (c : Component) → items ≡ components → i < length items → c ≡ get_or items i c → slice_get components i ≡ Some c
component_at components items i c same l is = subst (λ (cs : List Component). slice_get cs i ≡ Some c) same (got items i l is)
  where
    got : (cs : List Component) (j : ℕ) → j < length cs → c ≡ get_or cs j c → slice_get cs j ≡ Some c
    got [] j below at = absurd (omega arith)
    got (d ∷ ds) zero below at = ap Some (sym at)
    got (d ∷ ds) (suc j) below at = got ds j (omega (arith, below)) at
