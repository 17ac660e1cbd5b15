-- The transforms that a program hands in, and which instance runs each.
use Rattle.std.specs.Prelude.{ℕ, Bool, false, cond, ◌&&◌, ◌==◌, is_none, Option, Some, None, List, ◌∷◌, map, length, replicate}
use Rattle.vx_value.specs.Texts.{ByteString, same_text}

-- one of them: its name, and the instance that runs it, if one does
pub record Host : Type 0 where
  pub name : ByteString
  pub instance : Option ℕ

-- their names
abbrev pub names_of : List Host → List ByteString
names_of hosts = map (λ (host : Host). host.name) hosts

-- the instances that run them
abbrev pub runs_of : List Host → List (Option ℕ)
runs_of hosts = map (λ (host : Host). host.instance) hosts

-- whether it is this instance that runs one
abbrev pub is_run : ℕ → Option ℕ → Bool
is_run i None = false
is_run i (Some j) = j == i

-- whether one that is run so, of a name of its own, is of a name, and no instance runs it
abbrev pub is_free : ByteString → ByteString → Option ℕ → Bool
is_free name own run = is_none run && same_text name own

-- no instance runs any
abbrev pub released : List ByteString → List (Option ℕ)
released names = replicate (length names) None

-- the first of a name that no instance runs is run by this one from then on, and each other as before; where there is none, nothing
-- changes
abbrev pub assigned : ByteString → ℕ → List ByteString → List (Option ℕ) → List (Option ℕ)
assigned name i (own ∷ names) (run ∷ runs) = cond (is_free name own run) (Some i ∷ runs) (run ∷ assigned name i names runs)
assigned name i names runs = runs
