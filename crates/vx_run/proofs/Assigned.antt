-- Each instance that is to runs the transform of its name.
use Rattle.std.proofs.Common.{◌≡◌, ◌∙◌, ◌⊎◌, inl, inr, ℕ, zero, suc, ◌+◌, ◌<◌, ◌≤◌, Bool, true, false, cond, List, [], ◌∷◌, length, replicate, get_or, Option, Some, None, refl, sym, ap, subst, arith}
use Rattle.std.specs.Prelude.{◌&&◌, ◌||◌, not}
use Rattle.std.specs.List.{list_any}
use Rattle.std.proofs.lemmas.Bool.{and_parts}
use Rattle.std.proofs.lemmas.List.{get_or_default, length-replicate}
use Rattle.std.proofs.lemmas.List.Folds.{list_any_at}
use Rattle.std.proofs.lemmas.Option.{none-some}
use Rattle.vx_value.specs.Texts.{ByteString, same_text}
use Rattle.vx_value.proofs.Order.{same_text-refl, same_text-true}
use Rattle.vx_plan.specs.declared.component.Component.{Component}
use Rattle.vx_plan.specs.Accepted.{names_differ}
use Rattle.vx_reading.specs.Made.{is_hosted}
use Rattle.vx_keeping.specs.Assigning.{assigned, released}
use Rattle.vx_keeping.proofs.Assigning.{assigned_count, assigned_kept, assigned_new, assigned_one}
use Rattle.vx_run.specs.Hosting.{RunEach, now_run}

cases : (b : Bool) → (b ≡ true) ⊎ (b ≡ false)
cases true = inl refl
cases false = inr refl

last : (i n : ℕ) → i < n + 1 → (i < n) ⊎ (i ≡ n)
last zero zero less = inr refl
last zero (suc n) less = inl (omega arith)
last (suc i) zero less = absurd (omega (arith, less))
last (suc i) (suc n) less = go (last i n (omega (arith, less)))
  where
    go : (i < n) ⊎ (i ≡ n) → (suc i < suc n) ⊎ (suc i ≡ suc n)
    go (inl before) = inl (omega (arith, before))
    go (inr is) = inr (ap suc is)

nothing : (n place : ℕ) → get_or (replicate {A = Option ℕ} n None) place None ≡ None
nothing zero place = refl
nothing (suc n) zero = refl
nothing (suc n) (suc place) = nothing n place

-- of two components of one name in a list, the names don't differ
differ : (cs : List Component) (i j : ℕ) (d : Component) → names_differ cs ≡ true → i < j → j < length cs → same_text (get_or cs j d).name (get_or cs i d).name ≡ true → ⊥
differ [] i j d all less within same = absurd (omega (arith, within))
differ (c ∷ cs) i zero d all less within same = absurd (omega (arith, less))
differ (c ∷ cs) zero (suc j) d all less within same =
    let here = list_any_at (λ (e : Component). same_text e.name c.name) cs j d (omega (arith, within)) same in
    let none = (and_parts (not (list_any (λ (e : Component). same_text e.name c.name) cs)) (names_differ cs) all).0 in
    let both : false ≡ true = ap not (sym here) ∙ none in cc
differ (c ∷ cs) (suc i) (suc j) d all less within same =
    differ cs i j d (and_parts (not (list_any (λ (e : Component). same_text e.name c.name) cs)) (names_differ cs) all).1 (omega (arith, less)) (omega (arith, within)) same

-- one of a name stands somewhere
somewhere : (name : ByteString) (names : List ByteString) → list_any (same_text name) names ≡ true → (place : ℕ) × (place < length names) × (same_text name (get_or names place []) ≡ true)
somewhere name [] any = let both : false ≡ true = any in cc
somewhere name (own ∷ names) any = go (same_text name own) refl any (somewhere name names)
  where
    go : (b : Bool) → same_text name own ≡ b → (b || list_any (same_text name) names) ≡ true → (list_any (same_text name) names ≡ true → (place : ℕ) × (place < length names) × (same_text name (get_or names place []) ≡ true)) →
        (place : ℕ) × (place < length (own ∷ names)) × (same_text name (get_or (own ∷ names) place []) ≡ true)
    go true same any rest = (0, omega arith, same)
    go false other any rest = let found = rest any in (suc found.0, omega (arith, found.1), found.2)

-- none is run by any
pub none_run : (names : List ByteString) (cs : List Component) → RunEach names (released names) cs 0
none_run names cs = record {
  count = length-replicate (length names) None;
  own = λ place i d is. absurd (none-some i (sym (nothing (length names) place) ∙ is));
  each = λ all i d less. absurd (omega (arith, less));
}

module _ (names : List ByteString) (runs : List (Option ℕ)) (cs : List Component) (n : ℕ) (d : Component) (within : n < length cs) (r : RunEach names runs cs n) where
  at : (i : ℕ) (e : Component) → i ≡ n → get_or cs i e ≡ get_or cs n d
  at i e is = ap (λ k. get_or cs k e) is ∙ get_or_default cs n e d within

  -- a component that isn't to run any
  pub other_run : is_hosted (get_or cs n d).settings ≡ false → RunEach names runs cs (n + 1)
  other_run other = record {
    count = r.count;
    own = λ place i e is. let own = r.own place i e is in (omega (arith, own.0), own.1, own.2);
    each = λ all i e less hosted known. go all i e (last i n less) hosted known;
  }
    where
      go : names_differ cs ≡ true → (i : ℕ) (e : Component) → (i < n) ⊎ (i ≡ n) → is_hosted (get_or cs i e).settings ≡ true → list_any (same_text (get_or cs i e).name) names ≡ true →
          (place : ℕ) × (place < length names) × (get_or runs place None ≡ Some i)
      go all i e (inl before) hosted known = r.each all i e before hosted known
      go all i e (inr is) hosted known = let both : true ≡ false = sym hosted ∙ ap (λ (c : Component). is_hosted c.settings) (at i e is) ∙ other in cc

  abbrev name : ByteString
  name = (get_or cs n d).name

  -- what another instance runs has another name
  free : names_differ cs ≡ true → (place : ℕ) → same_text name (get_or names place []) ≡ true → get_or runs place None ≡ None
  free all place same = go (get_or runs place None) refl
    where
      go : (run : Option ℕ) → get_or runs place None ≡ run → get_or runs place None ≡ None
      go None is = is
      go (Some j) is =
          let own = r.own place j d is in
          let one : name ≡ (get_or cs j d).name = same_text-true name (get_or names place []) same ∙ sym (same_text-true (get_or cs j d).name (get_or names place []) own.2) in
          absurd (differ cs j n d all own.0 within (subst (λ t. same_text name t ≡ true) one (same_text-refl name)))

  -- a component that is to run one
  pub one_run : is_hosted (get_or cs n d).settings ≡ true → RunEach names (assigned name n names runs) cs (n + 1)
  one_run hosted = record {
    count = assigned_count name n names runs ∙ r.count;
    own = λ place i e is. owned place i e (assigned_new name n names runs place i is);
    each = λ all i e less hosts known. go all i e (last i n less) hosts known;
  }
    where
      owned : (place i : ℕ) (e : Component) → (get_or runs place None ≡ Some i) ⊎ ((n ≡ i) × (same_text name (get_or names place []) ≡ true)) →
          (i < n + 1) × (is_hosted (get_or cs i e).settings ≡ true) × (same_text (get_or cs i e).name (get_or names place []) ≡ true)
      owned place i e (inl before) = let own = r.own place i e before in (omega (arith, own.0), own.1, own.2)
      owned place i e (inr new) =
          let is = at i e (sym new.0) in
          (omega (arith, new.0), ap (λ (c : Component). is_hosted c.settings) is ∙ hosted, ap (λ (c : Component). same_text c.name (get_or names place [])) is ∙ new.1)

      go : names_differ cs ≡ true → (i : ℕ) (e : Component) → (i < n) ⊎ (i ≡ n) → is_hosted (get_or cs i e).settings ≡ true → list_any (same_text (get_or cs i e).name) names ≡ true →
          (place : ℕ) × (place < length names) × (get_or (assigned name n names runs) place None ≡ Some i)
      go all i e (inl before) hosts known = let one = r.each all i e before hosts known in (one.0, one.1, assigned_kept name n names runs one.0 i one.2)
      go all i e (inr is) hosts known =
          let found = somewhere name names (subst (λ (c : Component). list_any (same_text c.name) names ≡ true) (at i e is) known) in
          let one = assigned_one name n names runs found.0 r.count found.1 (free all found.0 found.2) found.2 in
          (one.0, one.1, one.2 ∙ ap Some (sym is))

  -- the next component
  pub next_run : RunEach names (now_run names runs n (get_or cs n d)) cs (n + 1)
  next_run = go (is_hosted (get_or cs n d).settings) refl
    where
      go : (b : Bool) → is_hosted (get_or cs n d).settings ≡ b → RunEach names (cond b (assigned name n names runs) runs) cs (n + 1)
      go true hosted = one_run hosted
      go false other = other_run other
