-- Groups that are put out because their last events came long ago.
use Rattle.std.specs.Prelude.{◌≡◌, ℕ, ◌-◌, Bool, not, nat_le, filter, List, [], ◌++◌, map}
use Rattle.std.specs.Map.{keys_of}
use Rattle.vx_transform.specs.Shelves.{Shelved}
use Rattle.vx_reduce.specs.declared.group.Group.{Group}
use Rattle.vx_reduce.specs.Groups.{outputs_of, put_all}

-- whether a group's last event came so long ago
abbrev pub is_old : ℕ → ℕ → Group → Bool
is_old expire_after now g = nat_le expire_after (now - g.moment)

-- the numbers of such groups, in order
abbrev pub old_numbers : ℕ → ℕ → List (ℕ × Group) → List ℕ
old_numbers expire_after now es = keys_of (filter (λ (e : ℕ × Group). is_old expire_after now e.1) es)

-- some first ones of the groups that pass a test were put out, in order, and all others stay
pub record HasPutOut (p : Group → Bool) (old new : List Group) (before after : Shelved) : Type 0 where
  pub gone : List Group
  pub front : filter p old ≡ gone ++ filter p new
  pub rest : filter (λ g. not (p g)) new ≡ filter (λ g. not (p g)) old
  pub shelf : after ≡ put_all before (outputs_of gone)
