-- On which ports outputs are, and which the record has for them.
use Rattle.std.proofs.Common.{◌≡◌, ℕ, ◌<◌, ◌≤◌, true, false, List, [], ◌∷◌, ◌++◌, length, refl, sym, ap, ◌∙◌, arith, Option, Some, None, inl, inr, subst}
use Rattle.std.specs.Prelude.{◌≢◌, ◌⊎◌}
use Rattle.std.proofs.lemmas.Bool.{cases_eq, cases_lt}
use Rattle.std.proofs.lemmas.Bool.Decides.{nat_tests}
use Rattle.vx_value.specs.declared.event.Event.{Event}
use Rattle.vx_ledger.specs.Copies.{Copy, numbers_of}
use Rattle.vx_ledger.specs.declared.parcel.Parcel.{Parcel}
use Rattle.vx_transform.specs.declared.output.Output.{Output}
use Rattle.vx_record.specs.declared.output.Output.{Output as NotedOutput}
use Rattle.vx_record.specs.declared.entry.Entry.{Entry}
use Rattle.vx_record.specs.declared.entry.Entry.TheVariants.{Born, Answer}
use Rattle.vx_record.specs.Records.{Record}
use Rattle.vx_record.specs.Copies.{count, contains, counting, joined, next_copy}
use Rattle.vx_record.specs.Parcels.{ports_of, parcel_ports, said_by}
use Rattle.vx_record.specs.Places.{put_out}
use Rattle.vx_record.specs.Places.Place.{Outputs, Held}
use Rattle.vx_record.specs.Lists.{and_rest}
use Rattle.vx_record.specs.Moving.{singles, parcels_of}
use Rattle.vx_record.specs.Legal.{IsLegal}
use Rattle.vx_record.proofs.Changes.{stands_once}
use Rattle.vx_record.proofs.Counts.{count-append, counting_before}
use Rattle.vx_record.proofs.Live.{if_lt, if_ge}
use Rattle.vx_record.proofs.OnePlace.{conserved}
use Rattle.vx_places.specs.declared.row.Row.{Row}
use Rattle.vx_places.specs.Numbers.{numbers, parcels_out, AreNoted, AreOn, EachFilled, IsCopyIn}
use Rattle.vx_places.specs.Views.{row_at, outputs_if, here_if, parcels_here, IsAmong, IsAt, IsIn, IsOnAmong, IsOn}
use Rattle.vx_places.specs.Holding.{IsNoAnswer, IsPutOn, PutsOn}
use Rattle.vx_places.specs.Laws.{PortsThere, BackSame}
use Rattle.vx_places.proofs.Written.{each_place, one_some}

-- A COPY IN AN OUTPUT
-- is in its parcel,
on_among : (os : List Output) (ports : ℕ) (copy : Copy) → IsOnAmong os ports copy → (event : Event) × IsAmong (parcels_out os) event copy
on_among [] ports copy on = absurd on
on_among (output ∷ os) ports copy (inl here) = (output.parcel.event, inl (refl, here.1))
on_among (output ∷ os) ports copy (inr more) = let rest = on_among os ports copy more in (rest.0, inr rest.1)

pub on_at : (rows : List Row) (i ports : ℕ) (copy : Copy) → IsOn rows i ports copy → (event : Event) × IsAt rows (Outputs i) event copy
on_at rows i ports copy on = go (row_at rows i) on
  where
    go : (o : Option Row) → IsOnAmong (outputs_if o) ports copy → (event : Event) × IsIn (here_if (Outputs i) o) event copy
    go None on = absurd on
    go (Some row) on = on_among row.outputs.items ports copy on

-- and among the numbers of the parcel's copies
pub copy_counts : (cs : List Copy) (copy : Copy) → IsCopyIn cs copy → 0 < count copy.number (numbers_of cs)
copy_counts [] copy is = absurd is
copy_counts (c ∷ cs) copy (inl same) = let e = ap (λ (x : Copy). x.number) same in grind (arith, nat_tests, e)
copy_counts (c ∷ cs) copy (inr more) = let l = copy_counts cs copy more in omega (arith, l)

pub on-append : (a b : List Output) (ports : ℕ) (copy : Copy) → IsOnAmong (a ++ b) ports copy → IsOnAmong a ports copy ⊎ IsOnAmong b ports copy
on-append [] b ports copy on = inr on
on-append (output ∷ a) b ports copy (inl here) = inl (inl here)
on-append (output ∷ a) b ports copy (inr more) = elim (on-append a b ports copy more) [ inl first ↦ inl (inr first) | inr last ↦ inr last ]

-- WHAT AN ENTRY PUTS OUT
joined_singles : (copies : List ℕ) → joined (singles copies) ≡ copies
joined_singles [] = refl
joined_singles (c ∷ cs) = ap (λ (ns : List ℕ). c ∷ ns) (joined_singles cs)

all_on : (os : List Output) (set ports : ℕ) (copy : Copy) → AreOn set os → IsOnAmong os ports copy →
    (ports ≡ set) × (0 < count copy.number (joined (numbers (parcels_out os))))
all_on [] set ports copy are on = absurd on
all_on (output ∷ os) set ports copy are (inl here) =
    let e = count-append copy.number (numbers_of output.parcel.finalizers) (joined (numbers (parcels_out os))) in
    let l = copy_counts output.parcel.finalizers copy here.1 in (sym here.0 ∙ are.0, omega (arith, e, l))
all_on (output ∷ os) set ports copy are (inr more) =
    let e = count-append copy.number (numbers_of output.parcel.finalizers) (joined (numbers (parcels_out os))) in
    let rest = all_on os set ports copy are.1 more in (rest.0, omega (arith, e, rest.1))

-- at a birth,
pub born_on : (os : List Output) (copies : List ℕ) (ports : ℕ) (copy : Copy) → numbers (parcels_out os) ≡ singles copies → AreOn 1 os → IsOnAmong os ports copy →
    (ports ≡ 1) × (0 < count copy.number copies)
born_on os copies ports copy same are on =
    let all = all_on os 1 ports copy are on in (all.0, subst (λ ns. 0 < count copy.number ns) (ap joined same ∙ joined_singles copies) all.1)

-- and at an answer
pub and_filled : (cs : List Copy) (rest : List (List ℕ)) → cs ≢ [] → numbers_of cs ∷ rest ≡ and_rest (numbers_of cs) rest
and_filled [] rest filled = absurd (filled refl)
and_filled (c ∷ cs) rest filled = refl

pub numbers_out : (os : List Output) (notes : List NotedOutput) → AreNoted os notes → EachFilled (parcels_out os) → numbers (parcels_out os) ≡ parcels_of notes
numbers_out [] [] are filled = refl
numbers_out [] (note ∷ notes) are filled = absurd are
numbers_out (output ∷ os) [] are filled = absurd are
numbers_out (output ∷ os) (note ∷ notes) are filled =
    ap (λ (xs : List (List ℕ)). numbers_of output.parcel.finalizers ∷ xs) (numbers_out os notes are.2 filled.1)
    ∙ and_filled output.parcel.finalizers (parcels_of notes) filled.0
    ∙ ap (λ cs. and_rest cs (parcels_of notes)) are.0

pub noted_on : (os : List Output) (notes : List NotedOutput) (ports : ℕ) (copy : Copy) → AreNoted os notes → IsOnAmong os ports copy → IsPutOn notes ports copy.number
noted_on [] notes ports copy are on = absurd on
noted_on (output ∷ os) [] ports copy are on = absurd are
noted_on (output ∷ os) (note ∷ notes) ports copy are (inl here) =
    inl (sym are.1 ∙ here.0, subst (λ ns. 0 < count copy.number ns) are.0 (copy_counts output.parcel.finalizers copy here.1))
noted_on (output ∷ os) (note ∷ notes) ports copy are (inr more) = inr (noted_on os notes ports copy are.2 more)

-- WHAT THE RECORD HAS
put_counts : (notes : List NotedOutput) (ports c : ℕ) → IsPutOn notes ports c → 0 < count c (put_out notes)
put_counts [] ports c put = absurd put
put_counts (note ∷ notes) ports c (inl here) = let e = count-append c note.copies (put_out notes) in let l = here.1 in omega (arith, e, l)
put_counts (note ∷ notes) ports c (inr more) =
    let e = count-append c note.copies (put_out notes) in let l = put_counts notes ports c more in omega (arith, e, l)

-- of a copy that is put out once
said_on : (notes : List NotedOutput) (ports c before : ℕ) → count c (put_out notes) ≤ 1 → IsPutOn notes ports c → said_by (λ (note : NotedOutput). note.ports) notes c before ≡ ports
said_on [] ports c before once put = absurd put
said_on (note ∷ notes) ports c before once (inl here) =
    let l = here.1 in let has : contains note.copies c ≡ true = grind (arith, nat_tests, l) in rw (has, said_by) here.0
said_on (note ∷ notes) ports c before once (inr more) =
    let e = count-append c note.copies (put_out notes) in
    let l = put_counts notes ports c more in
    let few : count c (put_out notes) ≤ 1 = omega (arith, once, e) in
    let gone : count c note.copies ≡ 0 = omega (arith, once, e, l) in
    let has : contains note.copies c ≡ false = grind (arith, nat_tests, gone) in
    rw (has, said_by) (said_on notes ports c before few more)

not_older : (c n m : ℕ) → 0 < count c (counting n m) → n ≤ c
not_older c n m some = elim (cases_lt c n) [ inl below ↦ let none = counting_before c n m below in absurd (omega (arith, some, none)) | inr above ↦ above ]

-- what an entry puts out is on the ports that it says,
pub ports_put : (h : Record) (e : Entry) (ports c : ℕ) → IsLegal (e ∷ h) → PutsOn e ports c → ports_of (e ∷ h) c ≡ ports
ports_put h (Born i b place copies events waits stream end) ports c legal put =
    let new = not_older c (next_copy h) (length copies) (subst (λ cs. 0 < count c cs) legal.0.row.next put.1) in
    if_ge c (next_copy h) (ports_of h c) 1 new ∙ sym put.0
ports_put h (Answer i made discarded kept) ports c legal put =
    let once = stands_once h c (Held i) (conserved h legal.1) in
    let released = (conserved (Answer i made discarded kept ∷ h) legal).0 c in
    said_on made ports c (ports_of h c) (omega (arith, once, released)) put
ports_put h e ports c legal put = absurd put

-- and any other stays on its ports, but at an answer
pub ports_stay : (h : Record) (e : Entry) (c : ℕ) → IsNoAnswer e → c < next_copy h → ports_of (e ∷ h) c ≡ ports_of h c
ports_stay h (Born i b place copies events waits stream end) c none l = if_lt c (next_copy h) (ports_of h c) 1 l
ports_stay h (Answer i made discarded kept) c none l = absurd none
ports_stay h e c none l = refl

first_on : (h : Record) (cs : List Copy) (ports : ℕ) → cs ≢ [] → ((copy : Copy) → IsCopyIn cs copy → ports_of h copy.number ≡ ports) → parcel_ports h (numbers_of cs) ≡ ports
first_on h [] ports filled each = absurd (filled refl)
first_on h (c ∷ cs) ports filled each = each c (inl refl)

pub ports_there : PortsThere
ports_there h rows i output rest holds first filled =
    first_on h output.parcel.finalizers output.ports filled (λ copy is. holds.on i output.ports copy (rw first (inl (refl, is))))

-- PUT BACK
pub back_same : BackSame
back_same i output old mid new taken from back before = record {
  here = each_place (Outputs i) (λ p. parcels_here new p ≡ parcels_here old p)
      (back.was ∙ ap (λ (ps : List Parcel). Some (output.parcel ∷ ps)) (one_some back.rest taken.rest (sym back.now ∙ taken.now)) ∙ sym taken.was)
      (λ p other. sym (back.others p other) ∙ taken.others p other);
  outputs = λ j. elim (cases_eq j i) [
    | inl same ↦ rw same (before.oldest ∙ sym from.oldest)
    | inr apart ↦ sym (before.others j apart) ∙ from.others j apart
  ];
}
