-- What came back had done what it was asked to.
use Rattle.std.specs.Prelude.{◌≡◌, ℕ, ◌<◌, true, false, [], ◌∷◌}
use Rattle.vx_record.specs.declared.entry.Entry.TheVariants.{Home}
use Rattle.vx_record.specs.Records.{Record}
use Rattle.vx_record.specs.Abandoning.{abandoned}
use Rattle.vx_record.specs.Copies.{count, joined, times_spent}
use Rattle.vx_record.specs.Confirms.{due, last_confirm}
use Rattle.vx_record.specs.Installs.{device_at}
use Rattle.vx_record.specs.Owing.{decided}
use Rattle.vx_record.specs.Turns.{at_lease}

-- each copy of which an attempt of an instance decided is spent, where the run wasn't given up
abbrev pub AreSettled : Record → ℕ → Type 0
AreSettled h i = abandoned h ≡ false → (c : ℕ) → 0 < count c (joined (decided h i)) → 0 < times_spent h c

-- what comes back has spent all of which its attempts decided, unless the run was given up; where it has a port, its last confirm, made or failed,
-- names what was due when it was leased
pub record IsReturned (h : Record) (i : ℕ) : Type 0 where
  pub settled : AreSettled h i
  pub observed : device_at h i ≡ true → last_confirm h i ≡ due (at_lease h i) i

-- each instance that came back had
abbrev pub HaveReturned : Record → Type 0
HaveReturned [] = Unit {0}
HaveReturned (Home i ∷ h) = IsReturned h i × HaveReturned h
HaveReturned (e ∷ h) = HaveReturned h
