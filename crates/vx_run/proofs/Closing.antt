-- Of a run that didn't begin all is said that is said of one that ended.
use Rattle.std.proofs.Common.{◌≡◌, ℕ, ◌++◌, [], ◌∷◌, sym, subst, arith}
use Rattle.vx_status.specs.declared.batch_status.BatchStatus.{BatchStatus}
use Rattle.vx_record.specs.Legal.{IsClosed}
use Rattle.vx_record.specs.Records.{Record}
use Rattle.vx_record.specs.declared.entry.Entry.TheVariants.{Notice}
use Rattle.vx_hub.specs.Remains.{HasOnePlace, AllSpent, HasNotices, HasEnded}

no_place : HasOnePlace []
no_place [] [] is c made = absurd (omega arith)
no_place [] (e ∷ earlier) is c made = cc
no_place (e ∷ later) earlier is c made = cc

none_spent : AllSpent []
none_spent c made = absurd (omega arith)

nothing_left : IsClosed []
nothing_left = record { spent = λ c live. let made = live.0 in absurd (omega arith); noticed = λ b has. absurd (omega arith); retired = λ i has. absurd (omega arith) }

-- an empty record has no notice
nothing_there : (later earlier : Record) (b : ℕ) (status : BatchStatus) → later ++ Notice b status ∷ earlier ≡ [] → ⊥
nothing_there [] earlier b status is = cc
nothing_there (e ∷ later) earlier b status is = cc

none_noticed : HasNotices []
none_noticed = record {
  once = λ b has. absurd (omega arith);
  due = λ later earlier b status is. absurd (nothing_there later earlier b status is);
  folded = λ later earlier b status is. absurd (nothing_there later earlier b status is);
  good = λ later earlier b status is. absurd (nothing_there later earlier b status is);
}

nothing : HasEnded 0 []
nothing = record {
  legal = tt;
  served = tt;
  finished = nothing_left;
  places = no_place;
  spent = none_spent;
  notices = none_noticed;
  ends = λ i within. absurd (omega arith);
}

pub ended_none : (n : ℕ) (h : Record) → n ≡ 0 → h ≡ [] → HasEnded n h
ended_none n h none empty = subst (λ (m : ℕ). HasEnded m h) (sym none) (subst (λ (k : Record). HasEnded 0 k) (sym empty) nothing)
