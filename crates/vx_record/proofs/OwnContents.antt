-- What waits in the buffer of an instance grows at its end alone while its task is spared.
use Rattle.std.proofs.Common.{◌≡◌, ◌∙◌, ℕ, Bool, true, false, List, [], ◌∷◌, ◌++◌, refl, sym, ap, append_assoc}
use Rattle.std.specs.Prelude.{◌==◌, ◌&&◌, if◌then◌else◌}
use Rattle.std.proofs.lemmas.List.{append-nil}
use Rattle.vx_record.specs.declared.entry.Entry.{Entry}
use Rattle.vx_record.specs.declared.entry.Entry.TheVariants.{Push, Take, Spent}
use Rattle.vx_record.specs.Records.{Record}
use Rattle.vx_record.specs.Places.Place.{Contents}
use Rattle.vx_record.specs.Legal.{IsLegal}
use Rattle.vx_record.specs.Tasks.{is_of}
use Rattle.vx_record.specs.Shifts.{shift, at}
use Rattle.vx_record.specs.Makers.{Spares}
use Rattle.vx_record.specs.TaskLaws.{ContentsGrow}
use Rattle.vx_record.proofs.Shifting.{stands_at}
use Rattle.vx_record.proofs.Adding.{carry, adds_legal}

-- parcels, and more behind them
abbrev Grown : List (List ℕ) → List (List ℕ) → Type 0
Grown was now = (more : List (List ℕ)) × (now ≡ was ++ more)

same_grown : (was : List (List ℕ)) → Grown was was
same_grown was = ([], sym (append-nil was))

-- an entry of others pushes, or leaves the stage
contents_grown : (e : Entry) (i s : ℕ) (was : List (List ℕ)) → is_of i e ≡ false → Grown was (shift e (Contents i s) was)
contents_grown (Push j t r copies) i s was is = go ((t == i) && (r == s))
  where
    go : (b : Bool) → Grown was (if b then was ++ copies ∷ [] else was)
    go true = (copies ∷ [], refl)
    go false = same_grown was
contents_grown (Take j r copies) i s was is = ([], rw is (sym (append-nil was)))
contents_grown (Spent j c outcome) i s was is = ([], rw is (sym (append-nil was)))
contents_grown e i s was is = same_grown was

grown_on : (old h : Record) (e : Entry) (i s : ℕ) → is_of i e ≡ false → Grown (at old (Contents i s)) (at h (Contents i s)) → Grown (at old (Contents i s)) (at (e ∷ h) (Contents i s))
grown_on old h e i s is before =
    let next = contents_grown e i s (at h (Contents i s)) is in
    (before.0 ++ next.0, next.1 ∙ ap (λ (ps : List (List ℕ)). ps ++ next.0) before.1 ∙ append_assoc (at old (Contents i s)) before.0 next.0)

pub contents_grow : ContentsGrow
contents_grow old new i s legal adds =
    let now : IsLegal new = adds_legal (Spares i) old new adds legal in
    let more =
    carry (Spares i) (λ h. Grown (at old (Contents i s)) (at h (Contents i s))) (λ h e follows spares before. grown_on old h e i s spares before)
    old new adds (same_grown (at old (Contents i s))) in
    (more.0, stands_at new (Contents i s) now ∙ more.1 ∙ ap (λ (ps : List (List ℕ)). ps ++ more.0) (sym (stands_at old (Contents i s) legal)))
