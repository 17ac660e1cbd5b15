-- Only a dot ends a name behind which another comes.
use Rattle.std.proofs.Common.{◌≡◌, ℕ, ◌<◌, Bool, true, false, cond, ◌==◌, ◌||◌, arith, eqb-true, refl}
use Rattle.vx_value.specs.Paths.{begins_name, goes_on, name_move, move_of}
use Rattle.vx_value.specs.declared.path_mode.PathMode.{PathMode}
use Rattle.vx_value.specs.declared.path_mode.PathMode.TheVariants.{Start, Name, Bare, Quoted, Escaped, Closed}
use Rattle.vx_value.specs.declared.path_mode.PathMove.{PathMove}
use Rattle.vx_value.specs.declared.path_mode.PathMove.TheVariants.{Refused, Adds, Passes, Ends}

no_end : (t : Bool) (x y : PathMove) → (x ≡ Ends → ⊥) → (y ≡ Ends → ⊥) → cond t x y ≡ Ends → ⊥
no_end true x y f g e = f e
no_end false x y f g e = g e

dot : (b : ℕ) → cond (b == 46) Ends Refused ≡ Ends → b < 128
dot b e = go (b == 46) refl e
  where
    go : (t : Bool) → (b == 46) ≡ t → cond t Ends Refused ≡ Ends → b < 128
    go true h e = omega (arith, eqb-true b 46 h)
    go false h e = absurd (cc)

no_name_end : (b : ℕ) → name_move b ≡ Ends → ⊥
no_name_end b e = no_end (b == 34) (Passes Quoted) (cond (begins_name b) (Adds Bare) Refused) (λ x. cc) (λ y. no_end (begins_name b) (Adds Bare) Refused (λ x. cc) (λ x. cc) y) e

pub ends_low : (p : PathMode) (none : Bool) (b : ℕ) → move_of p none b ≡ Ends → b < 128
ends_low Start none b e = absurd (no_end (b == 46) (Passes Name) (name_move b) (λ x. cc) (no_name_end b) e)
ends_low Name none b e = absurd (no_name_end b e)
ends_low Bare none b e = go (goes_on b) e
  where
    go : (t : Bool) → cond t (Adds Bare) (cond (b == 46) Ends Refused) ≡ Ends → b < 128
    go true e = absurd (cc)
    go false e = dot b e
ends_low Quoted none b e = absurd (no_end (b == 92) (Passes Escaped) (cond (b == 34) (cond none Refused (Passes Closed)) (Adds Quoted)) (λ x. cc) (λ y. no_end (b == 34) (cond none Refused (Passes Closed)) (Adds Quoted) (λ z. no_end none Refused (Passes Closed) (λ x. cc) (λ x. cc) z) (λ x. cc) y) e)
ends_low Escaped none b e = absurd (no_end ((b == 34) || (b == 92)) (Adds Quoted) Refused (λ x. cc) (λ x. cc) e)
ends_low Closed none b e = dot b e
