-- What stays while others go on, and what a record knows of outputs.
use Rattle.std.proofs.Common.{◌≡◌, ℕ, ◌+◌, ◌<◌, ◌≤◌, Bool, true, false, Some, None, List, [], ◌∷◌, ◌++◌, refl, sym, subst, arith, inl, inr}
use Rattle.std.specs.Prelude.{◌⊎◌, if◌then◌else◌}
use Rattle.std.specs.List.{sum_by}
use Rattle.std.proofs.lemmas.Bool.Decides.{nat_tests}
use Rattle.std.proofs.lemmas.List.Sums.{sum_by-append}
use Rattle.vx_value.specs.declared.event.Event.{Event}
use Rattle.vx_ledger.specs.Copies.{Copy, numbers_of}
use Rattle.vx_transform.specs.declared.output.Output.{Output}
use Rattle.vx_transform.specs.Shelves.{copies_put_out}
use Rattle.vx_record.specs.declared.output.Output.{Output as NotedOutput}
use Rattle.vx_record.specs.declared.entry.Entry.{Entry}
use Rattle.vx_record.specs.declared.entry.Entry.TheVariants.{Take, Answer, Spent}
use Rattle.vx_record.specs.Records.{Record}
use Rattle.vx_record.specs.Copies.{count, contains, joined}
use Rattle.vx_record.specs.Places.{put_out}
use Rattle.vx_record.specs.Parcels.{event_of, output_with, said_by}
use Rattle.vx_record.specs.Inputs.{Input as NotedInput}
use Rattle.vx_record.specs.Legal.{IsLegal}
use Rattle.vx_record.specs.Tasks.{is_of}
use Rattle.vx_record.specs.Makers.{Spares}
use Rattle.vx_record.specs.Additions.{Each}
use Rattle.vx_record.proofs.Counts.{count-append}
use Rattle.vx_places.specs.Numbers.{IsCopyIn, numbers, parcels_out}
use Rattle.vx_places.specs.Views.{IsAmong}
use Rattle.vx_places.proofs.Ports.{copy_counts}
use Rattle.vx_places.proofs.Steps.{among_counts}
use Rattle.vx_keeping.specs.Kept.{Kept, copies_kept}
use Rattle.vx_keeping.specs.Keeping.{Keeps, HasMade}
use Rattle.vx_keeping.specs.Answers.{notes_of}
use Rattle.vx_keeping.specs.Laws.{LeavesKept, KeepsGoesOn, MadeGoesOn, OutputsKnown}
use Rattle.vx_keeping.proofs.Weights.{of_copy, in_weighs, weighs_in}
use Rattle.vx_keeping.proofs.Staying.{made_stays}
use Rattle.vx_keeping.proofs.Accounting.{kept_weigh, put_within}
use Rattle.vx_keeping.proofs.Going.{keeps_stays, made_keeps}

-- OTHERS
spares_leave : (h : Record) (i : ℕ) (e : Entry) → is_of i e ≡ false → LeavesKept h i e
spares_leave h i (Take j s copies) other = λ same. absurd (grind (arith, nat_tests, other, same))
spares_leave h i (Answer j outputs discarded kept) other = λ same. absurd (grind (arith, nat_tests, other, same))
spares_leave h i (Spent j c outcome) other = λ same. absurd (grind (arith, nat_tests, other, same))
spares_leave h i e other = tt

module _ (i : ℕ) (old : Record) (legal : IsLegal old) where
  added_legal : (added : List Entry) → Each (Spares i) added old → IsLegal (added ++ old)
  added_legal [] each = legal
  added_legal (e ∷ es) each = (each.0.follows, added_legal es each.1)

  keeps_added : (k : Kept) (added : List Entry) → Each (Spares i) added old → Keeps k old i → Keeps k (added ++ old) i
  keeps_added k [] each keeps = keeps
  keeps_added k (e ∷ es) each keeps = keeps_stays k (es ++ old) i e (added_legal (e ∷ es) each) (spares_leave (es ++ old) i e each.0.kind) (keeps_added k es each.1 keeps)

  made_added : (k : Kept) (given : List NotedInput) (added : List Entry) → Each (Spares i) added old → HasMade k old i given → HasMade k (added ++ old) i given
  made_added k given [] each made = made
  made_added k given (e ∷ es) each made =
      made_keeps k (es ++ old) i e given (added_legal (e ∷ es) each) (spares_leave (es ++ old) i e each.0.kind) (made_added k given es each.1 made)

pub keeps_goes_on : KeepsGoesOn
keeps_goes_on k old new i legal adds keeps = subst (λ (h : Record). Keeps k h i) (sym adds.is) (keeps_added i old legal k adds.added adds.each keeps)

pub made_goes_on : MadeGoesOn
made_goes_on k old new i given legal adds made = subst (λ (h : Record). HasMade k h i given) (sym adds.is) (made_added i old legal k given adds.added adds.each made)

-- OUTPUTS
-- a copy is among the outputs of an Answer
out_counts : (outputs : List Output) (c : ℕ) → count c (put_out (notes_of outputs)) ≡ count c (joined (numbers (parcels_out outputs)))
out_counts [] c = refl
out_counts (o ∷ rest) c =
    let a = count-append c (numbers_of o.parcel.finalizers) (put_out (notes_of rest)) in
    let b = count-append c (numbers_of o.parcel.finalizers) (joined (numbers (parcels_out rest))) in
    let ih = out_counts rest c in
    omega (arith, a, b, ih)

among_weighs : (outputs : List Output) (event : Event) (copy : Copy) → IsAmong (parcels_out outputs) event copy → 0 < sum_by (of_copy copy) (copies_put_out outputs)
among_weighs [] event copy is = absurd is
among_weighs (o ∷ rest) event copy (inl here) =
    let e = sum_by-append (of_copy copy) o.parcel.finalizers (copies_put_out rest) in
    let l = in_weighs o.parcel.finalizers copy here.1 in
    omega (arith, e, l)
among_weighs (o ∷ rest) event copy (inr more) =
    let e = sum_by-append (of_copy copy) o.parcel.finalizers (copies_put_out rest) in
    let l = among_weighs rest event copy more in
    omega (arith, e, l)

-- and has the event of its output, where it is in one alone
said_among : (outputs : List Output) (event : Event) (copy : Copy) (before : Event) → count copy.number (put_out (notes_of outputs)) ≤ 1 → IsAmong (parcels_out outputs) event copy →
    said_by (λ (o : NotedOutput). o.event) (notes_of outputs) copy.number before ≡ event
said_among [] event copy before once is = absurd is
said_among (o ∷ rest) event copy before once is = go (contains (numbers_of o.parcel.finalizers) copy.number) refl is (λ more. said_among rest event copy before (omega (arith, once, parts)) more)
  where
    parts : count copy.number (put_out (notes_of (o ∷ rest))) ≡ count copy.number (numbers_of o.parcel.finalizers) + count copy.number (put_out (notes_of rest))
    parts = count-append copy.number (numbers_of o.parcel.finalizers) (put_out (notes_of rest))

    go : (b : Bool) → contains (numbers_of o.parcel.finalizers) copy.number ≡ b → ((o.parcel.event ≡ event) × IsCopyIn o.parcel.finalizers copy) ⊎ IsAmong (parcels_out rest) event copy →
        (IsAmong (parcels_out rest) event copy → said_by (λ (o : NotedOutput). o.event) (notes_of rest) copy.number before ≡ event) →
        (elim (if b then Some (record { ports = o.ports; copies = numbers_of o.parcel.finalizers; event = o.parcel.event }) else output_with (notes_of rest) copy.number) [ None ↦ before | Some output ↦ output.event ]) ≡ event
    go true there (inl here) ih = here.0
    go true there (inr more) ih =
        let some : 0 < count copy.number (numbers_of o.parcel.finalizers) = grind (arith, nat_tests, there) in
        let other = among_counts (parcels_out rest) event copy more in
        let same = out_counts rest copy.number in
        absurd (omega (arith, some, other, same, once, parts))
    go false absent (inl here) ih =
        let some = copy_counts o.parcel.finalizers copy here.1 in
        absurd (grind (arith, nat_tests, absent, some))
    go false absent (inr more) ih = ih more

pub outputs_known : OutputsKnown
outputs_known k h i kept made legal event copy is =
    let a = kept_weigh k (of_copy copy) in
    let l = among_weighs k.shelf.outputs event copy is in
    let known = made_stays h (Answer i (notes_of k.shelf.outputs) (numbers_of k.discarded) kept) copy (made.accounts.known copy (weighs_in (copies_kept k) copy (omega (arith, a, l)))) in
    record {
      made = known.made;
      said = said_among k.shelf.outputs event copy (event_of h copy.number) (put_within k h i legal.1 made.accounts copy.number) is;
      batch = known.batch;
      place = known.place;
    }
