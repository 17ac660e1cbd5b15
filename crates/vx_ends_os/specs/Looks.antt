-- What a look at a file means at whose end a reader stands.
use Rattle.std.specs.Prelude.{ℕ, Bool, false, nat_lt, not, ◌&&◌, ◌||◌, if◌then◌else◌, Option, Some, None}
use Rattle.vx_ends_os.specs.declared.file_change.Look.{Look}
use Rattle.vx_ends_os.specs.declared.place.Place.{Place}
use Rattle.vx_ends_os.specs.Places.{next_of, anew}
use Rattle.vx_ends_os.specs.Reading.{more}

-- the file is shorter than what was read of it
abbrev pub is_shorter : (next : ℕ) → Option Look → Bool
is_shorter next None = false
is_shorter next (Some look) = nat_lt look.length next

-- the file isn't shorter, and its path names another one that has bytes
abbrev pub is_other : (next : ℕ) → Option Look → Bool
is_other next None = false
is_other next (Some look) = not (nat_lt look.length next) && look.has_other

-- reading begins anew where the file is shorter, and where its path named another one when it was read to its end before, too
abbrev pub begins_anew : (next : ℕ) → (before : Bool) → Option Look → Bool
begins_anew next before look = is_shorter next look || (is_other next look && before)

-- the place at the front of a file, behind the line feed that ends a line which is open
abbrev pub behind_line : (in_line : Bool) → Place → Place
behind_line in_line place = anew (record place { taken = if in_line then more place.taken 1 else place.taken })

-- the place behind a look at the end of a file
abbrev pub after_look : (in_line before : Bool) → Option Look → Place → Place
after_look in_line before look place = if begins_anew (next_of place) before look then behind_line in_line place else place
