-- A record, as contracts see it: THE NEWEST ENTRY STANDS FIRST, `entry ∷ earlier`.
use Rattle.std.specs.Prelude.{ℕ, ◌-◌, ◌^◌, min, List}
use Rattle.vx_record.specs.declared.entry.Entry.{Entry}

abbrev pub Record : Type 0
Record = List Entry

-- a number as an entry has it, which stands still at 2 ^ 64 - 1
abbrev pub capped : ℕ → ℕ
capped n = min n (2 ^ 64 - 1)
