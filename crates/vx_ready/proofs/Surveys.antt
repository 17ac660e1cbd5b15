-- What two loops over all instances find: a source that isn't dry, and an instance that can still send to one.
use Rattle.std.proofs.Common.{◌≡◌, ◌∙◌, ℕ, ◌+◌, ◌<◌, ◌≤◌, Bool, true, false, ◌&&◌, ◌||◌, length, refl, sym, arith}
use Rattle.std.specs.Prelude.{not}
use Rattle.vx_ends.specs.Observation.{Observation}
use Rattle.vx_record.specs.Records.{Record}
use Rattle.vx_record.specs.Installs.{source_at, is_retired}
use Rattle.vx_record.specs.Routing.{is_dry, all_dry, names, is_named}
use Rattle.vx_moves.specs.declared.engine.EngineState.{EngineState}
use Rattle.vx_moves.specs.Stands.{Stands}
use Rattle.vx_ready.proofs.Counting.{all_started, fails_started, none_started, some_started, one_further}

gives_one : (source dry : Bool) → (source && not dry) ≡ true → (not source || dry) ≡ false
gives_one true true e = cc
gives_one true false e = refl
gives_one false dry e = cc

gives_not : (source dry : Bool) → (source && not dry) ≡ false → (not source || dry) ≡ true
gives_not true true e = refl
gives_not true false e = cc
gives_not false dry e = refl

-- each source below a number is dry
abbrev pub AreDry : Record → ℕ → Type 0
AreDry h n = (k : ℕ) → k < n → (not (source_at h k) || is_dry h k) ≡ true

pub dry_further : (h : Record) (n : ℕ) (gives : Bool) → gives ≡ (source_at h n && not (is_dry h n)) → gives ≡ false → AreDry h n → AreDry h (n + 1)
dry_further h n gives is none below = one_further (λ k. not (source_at h k) || is_dry h k) true n below (gives_not (source_at h n) (is_dry h n) (sym is ∙ none))

-- none below a number can still send to an instance
abbrev pub NoneSends : Record → ℕ → ℕ → Type 0
NoneSends h i n = (k : ℕ) → k < n → (not (is_retired h k) && names h k i) ≡ false

pub none_further : (h : Record) (i n : ℕ) (sends : Bool) → sends ≡ (not (is_retired h n) && names h n i) → sends ≡ false → NoneSends h i n → NoneSends h i (n + 1)
none_further h i n sends is none below = one_further (λ k. not (is_retired h k) && names h k i) false n below (sym is ∙ none)

module _ {P : Type 0} (observe : P → Observation) (engine : EngineState P) (stands : Stands observe engine) where
  pub dry_all : (n : ℕ) → length engine.states ≤ n → AreDry engine.log n → true ≡ all_dry engine.log
  dry_all n most below =
      sym (all_started engine.log engine.run.plan (length engine.states) stands.legal stands.run.installed stands.states.size (λ j. not (source_at engine.log j) || is_dry engine.log j) (λ j l. below j (omega (arith, most, l))))

  pub one_gives : (j : ℕ) (gives : Bool) → j < length engine.states → gives ≡ (source_at engine.log j && not (is_dry engine.log j)) → gives ≡ true → false ≡ all_dry engine.log
  one_gives j gives within is one =
      sym (fails_started engine.log engine.run.plan (length engine.states) stands.legal stands.run.installed stands.states.size (λ k. not (source_at engine.log k) || is_dry engine.log k) j within
      (gives_one (source_at engine.log j) (is_dry engine.log j) (sym is ∙ one)))

  pub none_sends : (i n : ℕ) → length engine.states ≤ n → NoneSends engine.log i n → false ≡ is_named engine.log i
  none_sends i n most below =
      sym (none_started engine.log engine.run.plan (length engine.states) stands.legal stands.run.installed stands.states.size (λ j. not (is_retired engine.log j) && names engine.log j i) (λ j l. below j (omega (arith, most, l))))

  pub one_sends : (i j : ℕ) (sends : Bool) → j < length engine.states → sends ≡ (not (is_retired engine.log j) && names engine.log j i) → sends ≡ true → true ≡ is_named engine.log i
  one_sends i j sends within is one =
      sym (some_started engine.log engine.run.plan (length engine.states) stands.legal stands.run.installed stands.states.size (λ k. not (is_retired engine.log k) && names engine.log k i) j within (sym is ∙ one))
