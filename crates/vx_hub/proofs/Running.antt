-- While a run goes on, its plan in force and its instances stay.
use Rattle.std.proofs.Common.{◌≡◌, ◌∙◌, List, [], ◌∷◌, ◌++◌, IsSome, refl, sym, subst}
use Rattle.std.proofs.lemmas.List.{append-nil}
use Rattle.vx_record.specs.declared.entry.Entry.{Entry}
use Rattle.vx_record.specs.declared.entry.Entry.TheVariants.{Install}
use Rattle.vx_record.specs.Records.{Record}
use Rattle.vx_record.specs.Installs.{in_force, started}
use Rattle.vx_record.specs.Legal.{IsLegal}
use Rattle.vx_hub.specs.Standing.{IsSameRun, RunStays}

-- a record in which a plan is in force isn't empty, nor is one that goes on from it
nothing_before : (es : List Entry) (old : Record) → es ++ old ≡ [] → IsSome (in_force old) → ⊥
nothing_before [] [] none some = cc
nothing_before [] (e ∷ old) none some = cc
nothing_before (e ∷ es) old none some = cc

-- so none of the entries behind it installs another
pub same_run : (es : List Entry) (old : Record) → IsLegal (es ++ old) → IsSome (in_force old) → IsSameRun old (es ++ old)
same_run [] old legal some = record { plan = refl; instances = refl }
same_run (Install version plan once instances now ∷ es) old legal some = absurd (nothing_before es old legal.0.row.first some)
same_run (e ∷ es) old legal some = let before = same_run es old legal.1 some in record { plan = before.plan; instances = append-nil (started (es ++ old)) ∙ before.instances }

pub run_stays : RunStays
run_stays old new legal goes some =
    subst (λ (h : Record). IsSameRun old h) (sym goes.is) (same_run goes.added old (subst IsLegal goes.is legal) some)
